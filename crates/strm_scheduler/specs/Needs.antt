-- What a module needs for a message, and whether it is free.
use Rattle.std.specs.Prelude.{◌≡◌, ◌≤◌, ℕ, ◌+◌, Bool, true, false, not, ◌&&◌, nat_le, nat_lt, List, [], ◌∷◌, length, Ok, if◌then◌else◌}
use Rattle.strm_data.specs.declared.class_info.ClassInfo.{ClassInfo}
use Rattle.strm_data.specs.DataStore.{class_infos}
use Rattle.strm_mblk.specs.Arena.{Arena}
use Rattle.strm_mblk.specs.BlockCalls.{allocb}
use Rattle.strm_scheduler.specs.declared.need.Need.{Need}

-- the number of a class's data blocks, all or the free ones, if they fit a size
abbrev pub fitting_in : Bool → ℕ → ClassInfo → ℕ
fitting_in all size i = if nat_lt i.size size then 0 else (if all then i.total else i.free)

-- the number of the data blocks that fit a size, all or the free ones
abbrev pub fitting : Bool → ℕ → List ClassInfo → ℕ
fitting all size [] = 0
fitting all size (i ∷ is) = fitting_in all size i + fitting all size is

-- how many of these sizes are at least this one
abbrev pub as_large : ℕ → List ℕ → ℕ
as_large size [] = 0
as_large size (s ∷ ss) = (if nat_le size s then 1 else 0) + as_large size ss

-- for each of the sizes that are left, as many data blocks fit it as sizes are as large
abbrev pub are_fitted : Bool → List ClassInfo → List ℕ → List ℕ → Bool
are_fitted all infos sizes [] = true
are_fitted all infos sizes (s ∷ left) = nat_le (as_large s sizes) (fitting all s infos) && are_fitted all infos sizes left

-- a message block for each size, and those that are needed beside them, are at most this many
abbrev pub has_blocks : Need → ℕ → Bool
has_blocks need blocks = nat_le (length need.sizes + need.mblks) blocks

-- these message blocks and these classes are enough
abbrev pub is_enough : Bool → Need → ℕ → List ClassInfo → Bool
is_enough all need blocks infos = has_blocks need blocks && are_fitted all infos need.sizes need.sizes

-- the module wants the message now, and what it needs is free
abbrev pub are_free : Need → Arena → Bool
are_free need a = not need.later && is_enough false need (length a.free) (class_infos a.store)

-- what is needed would be free if each block of the pool was
abbrev pub can_be_free : Need → Arena → Bool
can_be_free need a = is_enough true need (length a.held) (class_infos a.store)

-- what is needed is not free, and can become free: the module does not want the message later for another reason
abbrev pub can_wait : Need → Arena → Bool
can_wait need a = not need.later && (not (are_free need a) && can_be_free need a)

-- `allocb` of each of these sizes, one after another, succeeds, and then at least this many message blocks are free
abbrev pub AreAllocated : List ℕ → ℕ → Arena → Type 0
AreAllocated [] mblks a = mblks ≤ length a.free
AreAllocated (size ∷ sizes) mblks a = (head : ℕ) × (left : Arena) × (allocb size a ≡ Ok (head, left)) × AreAllocated sizes mblks left
