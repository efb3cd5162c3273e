-- Data blocks: what stays of them, and what is opened.
use Rattle.std.proofs.Common.{◌≡◌, ℕ, ◌+◌, ◌<◌, ◌≤◌, cond, eqb, List, length, set, refl, ◌∙◌, arith, get_or-set_same, get_or-set_other, length-set, [], ◌∷◌, ◌++◌, take, drop, ap, sym, subst, replicate}
use Rattle.std.proofs.lemmas.Bool.Decides.{eqb_tells}
use Rattle.std.proofs.lemmas.List.{set_past, length-replicate}
use Rattle.std.specs.Prelude.{IsTrue}
use Rattle.std.specs.List.{flat_map}
use Rattle.std.proofs.lemmas.Bool.{and_parts, false≢true, ltb-true}
use Rattle.std.proofs.lemmas.List.Sums.{sum_by-append}
use Rattle.strm_data.specs.declared.msg_type.MsgType.{MsgType}
use Rattle.strm_data.specs.declared.msg_type.MsgType.TheVariants.{MData}
use Rattle.strm_data.specs.CountedStore.{CountedStore, IsKept, count_of, opening_counted}
use Rattle.strm_data.specs.DataStore.{DataStore, DataBlock, bytes_overwritten, data_block_at, capacity_of, with_bytes_written, with_data_taken, with_kind, with_data_reset}
use Rattle.strm_data.proofs.Lists.{length-overwritten, copies-at, flat_map-replicate, map-replicate}
use Rattle.strm_data.specs.declared.class_spec.ClassSpec.{ClassSpec}
use Rattle.strm_data.specs.Classes.{are_lawful, total_of}
use Rattle.strm_data.proofs.store.Opening.{length-blocks_from}
use Rattle.strm_mblk.specs.declared.blocks.Fields.{Fields}
use Rattle.strm_mblk.specs.BlocksLayout.{IsFilled, IsPlaced, arena_of, fields_at, no_fields}
use Rattle.strm_links.specs.ChainLists.{ChainLists, IsLawful, opening_chains}
use Rattle.strm_mblk.specs.Block.{Block, bytes_of, bytes_of_block, Message}
use Rattle.strm_mblk.specs.Arena.{blocks_in, opening_arena, shelved_blocks}
use Rattle.strm_mblk.specs.Limits.{most_message_blocks}
use Rattle.std.proofs.lemmas.Grind.{common_steps}

-- ==== data blocks keep their capacity, whatever is done to them

-- a store has as many data blocks as another, of the same capacities
pub record HasRooms (s t : DataStore) : Type 0 where
  pub many : length t.blocks ≡ length s.blocks
  pub room : (k : ℕ) → capacity_of t k ≡ capacity_of s k

-- a data block is replaced by one of its capacity
pub rooms-set : (s : DataStore) (d : ℕ) (b : DataBlock) → length b.bytes ≡ capacity_of s d → HasRooms s (record s { blocks = set s.blocks d b })
rooms-set s d b same = grind (arith, common_steps, length-set, get_or-set_same, get_or-set_other, set_past)

pub rooms-taken : (s : DataStore) (d : ℕ) → HasRooms s (with_data_taken d s)
rooms-taken s d = let kept = rooms-set s d (record (data_block_at s d) { kind = MData }) refl in record { many = kept.many; room = kept.room }

pub rooms-kind : (s : DataStore) (d : ℕ) (kind : MsgType) → HasRooms s (with_kind d kind s)
rooms-kind s d kind = rooms-set s d (record (data_block_at s d) { kind = kind }) refl

pub rooms-written : (s : DataStore) (d at : ℕ) (bytes : List ℕ) → at + length bytes ≤ capacity_of s d → HasRooms s (with_bytes_written d at bytes s)
rooms-written s d at bytes within = rooms-set s d (record (data_block_at s d) { bytes = bytes_overwritten at bytes (data_block_at s d).bytes }) (length-overwritten at bytes _ within)

-- so it is where a store changes twice
pub rooms-both : {s t u : DataStore} → HasRooms s t → HasRooms t u → HasRooms s u
rooms-both first second = record { many = second.many ∙ first.many; room = λ k. second.room k ∙ first.room k }

-- places stay in their capacity
pub placed-over : {s t : DataStore} {f : Fields} → HasRooms s t → IsPlaced s f → IsPlaced t f
placed-over rooms placed = grind (arith, common_steps)

-- the places of all message blocks, of which one says something else
pub placed-set : (s : DataStore) {t : DataStore} (fields : List Fields) (n : ℕ) {x : Fields} → HasRooms s t → IsPlaced t x
    → ((k : ℕ) → k < length fields → IsPlaced s (fields_at fields k)) → (k : ℕ) → k < length (set fields n x) → IsPlaced t (fields_at (set fields n x) k)
placed-set s fields n rooms new old k within = grind (arith, common_steps, get_or-set_same, length-set, get_or-set_other, placed-over)

-- the counts once one of them is another
pub count_of-set : (s : CountedStore) (store : DataStore) (d n k : ℕ) → d < length s.counts → count_of (record { store = store; counts = set s.counts d n }) k ≡ cond (eqb d k) n (count_of s k)
count_of-set s store d n k inside = grind (arith, common_steps, eqb_tells, get_or-set_same, get_or-set_other)

-- data blocks say something else, and as many message blocks name each of them
pub filled-over : {id : ℕ} {s t : CountedStore} {fields : List Fields} {v : ChainLists} → IsFilled s fields v (arena_of id s.store fields v) → IsKept t → t.counts ≡ s.counts → HasRooms s.store t.store
    → IsFilled t fields v (arena_of id t.store fields v)
filled-over filled kept counts rooms = grind (arith, common_steps, placed-over)

-- ==== data blocks that keep their bytes

-- each data block has the bytes that it had
abbrev pub HaveBytes : DataStore → DataStore → Type 0
HaveBytes s t = (k : ℕ) → (data_block_at t k).bytes ≡ (data_block_at s k).bytes

-- one of them is replaced by one with its bytes
bytes-set : (s : DataStore) (d : ℕ) (b : DataBlock) → b.bytes ≡ (data_block_at s d).bytes → HaveBytes s (record s { blocks = set s.blocks d b })
bytes-set s d b same k = grind (arith, common_steps, get_or-set_same, get_or-set_other, set_past)

-- one is taken, and gets a type
pub bytes-typed : (s : DataStore) (d : ℕ) (kind : MsgType) → HaveBytes s (with_kind d kind (with_data_taken d s))
bytes-typed s d kind k = grind (arith, common_steps, bytes-set)

-- so message blocks have the bytes that they had
module _ (s t : DataStore) (same : HaveBytes s t) where
  pub bytes-block : (b : Block) → bytes_of_block t b ≡ bytes_of_block s b
  bytes-block b = ap (λ bytes. take b.len (drop b.offset bytes)) (same b.data_number)

  pub bytes-message : (m : List Block) → bytes_of t m ≡ bytes_of s m
  bytes-message [] = refl
  bytes-message (b ∷ m) = λ i. bytes-block b i ++ bytes-message m i

-- ==== the fewest free blocks: what is sound once they are reset

pub reset_filled : {id : ℕ} {s : CountedStore} {fields : List Fields} {v : ChainLists} → IsFilled s fields v (arena_of id s.store fields v)
    → {t : CountedStore} {w : ChainLists} → t ≡ record s { store = with_data_reset s.store } → IsKept t → w ≡ record v { least = length v.free } → IsLawful w
    → IsFilled t fields w (arena_of id t.store fields w)
reset_filled {id} {s} {fields} {v} filled {t} {w} t_is kept w_is parted =
    let reset : CountedStore = record s { store = with_data_reset s.store } in
    let lists : ChainLists = record v { least = length v.free } in
    let now : IsFilled reset fields lists (arena_of id reset.store fields lists) =
    record {
      kept = subst IsKept t_is kept;
      parted = subst IsLawful w_is parted;
      few = filled.few;
      listed = filled.listed;
      placed = λ n within. let placed = filled.placed n within in record { there = placed.there; within = placed.within; banded = placed.banded };
      counts = filled.counts;
    } in
    let both : (t, w) ≡ (reset, lists) = λ i. (t_is i, w_is i) in
    subst (λ (p : CountedStore × ChainLists). IsFilled p.0 fields p.1 (arena_of id p.0.store fields p.1)) (sym both) now

-- ==== `Blocks::new`: what is opened is sound

-- lawful classes have a data block
some_total : (cs : List ClassSpec) → IsTrue (are_lawful cs) → 0 < total_of cs
some_total [] lawful = absurd (false≢true lawful)
some_total (c ∷ cs) lawful = grind (arith, common_steps, and_parts, ltb-true, sum_by-append)

module _ (id mblks shelves : ℕ) (classes : List ClassSpec) {s : CountedStore} {fields : List Fields} {v : ChainLists} (s_is : s ≡ opening_counted classes) (fields_are : fields ≡ replicate mblks no_fields) (v_is : v ≡ opening_chains mblks shelves) where
  pub opening_shows : arena_of id s.store fields v ≡ opening_arena id mblks classes shelves
  opening_shows = grind (arith, common_steps, map-replicate)

  no_shelved : shelved_blocks (opening_arena id mblks classes shelves) ≡ []
  no_shelved = flat_map-replicate (flat_map (λ (m : Message). m)) shelves [] refl

  no_blocks : blocks_in (opening_arena id mblks classes shelves) ≡ []
  no_blocks = grind (arith, common_steps, no_shelved, flat_map-replicate)

  pub opening_queued : 0 ≡ length (shelved_blocks (arena_of id s.store fields v))
  opening_queued = sym (ap (λ a. length (shelved_blocks a)) opening_shows ∙ ap length no_shelved)

  pub opening_filled : mblks ≤ most_message_blocks → IsTrue (are_lawful classes) → IsKept s → IsLawful v → IsFilled s fields v (arena_of id s.store fields v)
  opening_filled few lawful kept parted = grind (arith, common_steps, length-replicate, copies-at, length-blocks_from, some_total, opening_shows, no_blocks)
