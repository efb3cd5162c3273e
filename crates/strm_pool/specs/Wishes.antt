-- Wishes for message blocks: what `bufcall`, `unbufcall` and `take_ready` do.
use Rattle.std.specs.Prelude.{ℕ, ◌+◌, ◌<◌, ◌≤◌, Bool, not, ◌==◌, nat_le, nat_lt, [], ◌∷◌, ◌++◌, length, Option, None, Some, Ok, Err, slice_get, if◌then◌else◌}
use Rattle.std.specs.List.{All, AllPairs, position, remove}
use Rattle.strm_data.specs.declared.refusal.Refusal.TheVariants.{Full, IdsSpent, NotPending, TooLarge}
use Rattle.strm_data.specs.Classes.{fits_a_class}
use Rattle.strm_mblk.specs.BlockCalls as blocks
use Rattle.strm_mblk.specs.Given.{Given}
use Rattle.strm_pool.specs.Limits.{last_id}
use Rattle.strm_pool.specs.PoolValue.{PoolValue, Wish, WishState, on_wishes, with_wishes}

-- the id after this one, or none after the last
abbrev pub id_after : ℕ → Option ℕ
id_after id = if nat_lt id last_id then Some (id + 1) else None

-- a wish is recorded after all others with this id, or refused if no id is left
abbrev pub wish_recorded_as : ℕ → Option ℕ → WishState → Given WishState ℕ
wish_recorded_as size None s = Err IdsSpent
wish_recorded_as size (Some id) s = Ok (id, record s { next = id_after id; pending = s.pending ++ (id, size) ∷ [] })

-- a wish of a size is recorded, if there are fewer than there may be
abbrev pub wish_recorded : ℕ → WishState → Given WishState ℕ
wish_recorded size s = if nat_le s.most (length s.pending) then Err Full else wish_recorded_as size s.next s

-- the wishes without the one at place k
abbrev pub wishes_without : ℕ → WishState → WishState
wishes_without k s = record s { pending = remove s.pending k }

-- ---- the calls

-- records a wish of a size that some class fits, and returns its id
abbrev pub bufcall : ℕ → PoolValue → Given PoolValue ℕ
bufcall size v = if not (fits_a_class size v.arena.store.classes) then Err TooLarge else on_wishes v (wish_recorded size v.wishes)

-- whether a wish has this id
abbrev pub has_id : ℕ → Wish → Bool
has_id id w = w.0 == id

-- removes the wish at the place that was found, if any
abbrev pub wish_withdrawn : PoolValue → Option ℕ → Given PoolValue (Unit {0})
wish_withdrawn v None = Err NotPending
wish_withdrawn v (Some k) = Ok (tt, with_wishes v (wishes_without k v.wishes))

-- removes the wish with this id
abbrev pub unbufcall : ℕ → PoolValue → Given PoolValue (Unit {0})
unbufcall id v = wish_withdrawn v (position (has_id id) v.wishes.pending)

-- whether `allocb` would succeed for a wish now
abbrev pub is_ready : PoolValue → Wish → Bool
is_ready v w = blocks.testb w.1 v.arena

-- removes and returns the wish at the place that was found, if any
abbrev pub wish_taken : PoolValue → Option ℕ → Option Wish × PoolValue
wish_taken v None = (None, v)
wish_taken v (Some k) = (slice_get v.wishes.pending k, with_wishes v (wishes_without k v.wishes))

-- removes and returns the earliest wish for which `allocb` would succeed now, if any; reserves no block
abbrev pub take_ready : PoolValue → Option Wish × PoolValue
take_ready v = wish_taken v (position (is_ready v) v.wishes.pending)

-- the wish at place k, in the order of recording
abbrev pub wish_at : ℕ → PoolValue → Option Wish
wish_at k v = slice_get v.wishes.pending k

-- ---- the law

-- an id is below the next one, if there is a next one
abbrev pub IsGiven : Option ℕ → ℕ → Type 0
IsGiven None id = Unit {0}
IsGiven (Some next) id = id < next

-- the id of one wish is below that of another
abbrev pub Rises : Wish → Wish → Type 0
Rises first second = first.0 < second.0

-- there are no more wishes than there may be, and their ids rise in the order of recording, below the next id
pub record AreLawful (s : WishState) : Type 0 where
  pub few : length s.pending ≤ s.most
  pub rising : AllPairs Rises s.pending
  pub given : All (λ w. IsGiven s.next w.0) s.pending
