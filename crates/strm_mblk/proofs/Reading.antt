-- Calls that read.
use Rattle.std.proofs.Common.{◌≡◌, ℕ, suc, ◌+◌, ◌-◌, ◌<◌, ◌≤◌, List, [], ◌∷◌, ◌++◌, length, take, drop, true, Some, None, refl, sym, ap, ◌∙◌, inl, inr, arith, length-append, ◌*◌, ◌^◌, Bool, false}
use Rattle.std.specs.Prelude.{min, option_map, slice_get, sum_by, ◌||◌, if◌then◌else◌}
use Rattle.std.proofs.lemmas.List.{append-nil, drop_all, get_or_past, length-drop, length-map}
use Rattle.std.proofs.lemmas.Bool.{cases_lt}
use Rattle.std.proofs.lemmas.List.Sums.{sum_by-append}
use Rattle.std.proofs.lemmas.Option.{none-some, same_Some, slice_get-map}
use Rattle.strm_data.proofs.Lists.{length-part}
use Rattle.strm_data.specs.CountedStore.{CountedStore}
use Rattle.strm_data.specs.DataStore.{DataStore, data_block_at}
use Rattle.strm_data.specs.declared.msg_type.MsgType.TheVariants.{MData}
use Rattle.strm_data.specs.MsgType.{same_kind}
use Rattle.strm_data.specs.Limits.{most_data_block_bytes}
use Rattle.strm_links.specs.ChainLists.{ChainLists, chain_of, nodes_at}
use Rattle.strm_mblk.specs.declared.blocks.Fields.{Fields}
use Rattle.strm_mblk.specs.declared.token.TokenValue.{TokenValue}
use Rattle.strm_mblk.specs.Arena.{Arena, has, message_at}
use Rattle.strm_mblk.specs.Block.{Block, Message, bytes_of, bytes_of_block, size_of, kind_of, len_counted}
use Rattle.strm_mblk.specs.BlocksLayout.{IsFilled, IsPlaced, arena_of, block_at, block_of, fields_at, message_of, no_fields, IsSummable}
use Rattle.strm_mblk.specs.Messages.{blocks_of}
use Rattle.strm_mblk.specs.Limits.{most_message_blocks}
use Rattle.strm_mblk.proofs.Altering.{from_block}
use Rattle.strm_mblk.proofs.Lists.{drop-append, drop_from, IsLaid, laid_all, flat_map-set_adds, length_adds}
use Rattle.strm_mblk.proofs.layout.HeldBlocks.{block_none, block_some, held_nodes}
use Rattle.strm_mblk.proofs.arena.Counts.{had_message, held_within}
use Rattle.strm_mblk.proofs.layout.StoredArena.{all_there, len_most, size_most, message_at-seen}
use Rattle.std.proofs.lemmas.Grind.{common_steps}

-- ==== the bytes of a held message, block by block

-- a block has as many bytes as it says
pub length-bytes_of_block : {s : DataStore} (n : ℕ) {f : Fields} → IsPlaced s f → length (bytes_of_block s (block_of n f)) ≡ f.len
length-bytes_of_block {s} n {f} placed = length-part f.len f.offset (data_block_at s f.data_number).bytes placed.within

-- the bytes from a block on, without the first ones, are the rest of its bytes and those of the blocks after it
pub bytes_from : {s : DataStore} (m : Message) (k n skip : ℕ) {f : Fields} → slice_get m k ≡ Some (block_of n f) → IsPlaced s f
    → drop skip (bytes_of s (drop k m)) ≡ drop skip (bytes_of_block s (block_of n f)) ++ drop (skip - f.len) (bytes_of s (drop (k + 1) m))
bytes_from {s} m k n skip {f} is placed =
    let own = bytes_of_block s (block_of n f) in
    let behind = bytes_of s (drop (k + 1) m) in
    ap (λ bs. drop skip (bytes_of s bs)) (drop_from m k (block_of n f) is)
    ∙ drop-append skip own behind
    ∙ ap (λ l. drop skip own ++ drop (skip - l) behind) (length-bytes_of_block n placed)

-- so a message has the number of bytes that its blocks say
pub length-bytes_of : (s : DataStore) (m : Message) → ((k : ℕ) (b : Block) → slice_get m k ≡ Some b → length (bytes_of_block s b) ≡ b.len) → length (bytes_of s m) ≡ size_of m
length-bytes_of s [] each = refl
length-bytes_of s (b ∷ m) each =
    omega (
      arith,
      length-append (bytes_of_block s b) (bytes_of s m),
      sum_by-append (λ (c : Block). c.len) (b ∷ []) m,
      each 0 b refl,
      length-bytes_of s m (λ k. each (suc k)),
    )

-- `done` bytes of a message from `at` on, as far as there are some and there is room, are before the bytes that were there
pub record IsRead (s : DataStore) (m : Message) (at : ℕ) (old now : List ℕ) (done : ℕ) : Type 0 where
  pub count : done ≡ min (length old) (size_of m - at)
  pub bytes : now ≡ take done (drop at (bytes_of s m)) ++ drop done old

-- blocks with places inside their data blocks have as many bytes as they say
module _ (s : DataStore) (fields : List Fields) (placed : (n : ℕ) → n < length fields → IsPlaced s (fields_at fields n)) (ns : List ℕ) where
  pub sized_block : (k : ℕ) (b : Block) → slice_get (message_of fields ns) k ≡ Some b → length (bytes_of_block s b) ≡ b.len
  sized_block k b at =
      elim (slice_get ns k) as (λ o. slice_get ns k ≡ o → length (bytes_of_block s b) ≡ b.len) [
        | None ↦ λ none. absurd (none-some b (sym (slice_get-map (block_at fields) ns k ∙ ap (option_map (block_at fields)) none) ∙ at))
        | Some n ↦ λ some.
            let same : block_at fields n ≡ b = same_Some (block_at fields n) b (sym (slice_get-map (block_at fields) ns k ∙ ap (option_map (block_at fields)) some) ∙ at) in
            ap (λ c. length (bytes_of_block s c)) (sym same) ∙ here n ∙ ap (λ (c : Block). c.len) same
      ] refl
    where
      here : (n : ℕ) → length (bytes_of_block s (block_at fields n)) ≡ (fields_at fields n).len
      here n =
          elim (cases_lt n (length fields)) [
            | inl within ↦ length-bytes_of_block n (placed n within)
            | inr past ↦ let none = get_or_past fields n no_fields past in ap (λ (f : Fields). length (bytes_of_block s (block_of n f))) none ∙ sym (ap (λ (f : Fields). f.len) none)
          ]

  pub sized : length (bytes_of s (message_of fields ns)) ≡ size_of (message_of fields ns)
  sized = length-bytes_of s (message_of fields ns) sized_block

-- the bytes from a place on are those from the block on that has the place
pub bytes_from_start : (s : DataStore) (fields : List Fields) → ((n : ℕ) → n < length fields → IsPlaced s (fields_at fields n)) → (ns : List ℕ) (k skip : ℕ) {at : ℕ} → size_of (take k (message_of fields ns)) + skip ≡ at
    → drop at (bytes_of s (message_of fields ns)) ≡ drop skip (bytes_of s (drop k (message_of fields ns)))
bytes_from_start s fields placed ns k skip {at} before =
    from_block (λ p bs. drop p (bytes_of s bs)) (λ b. length (bytes_of_block s b) ≡ b.len) past (message_of fields ns) (sized_block s fields placed ns) k skip at before
  where
    past : (p : ℕ) (b : Block) (bs : Message) → length (bytes_of_block s b) ≡ b.len → b.len ≤ p → drop p (bytes_of s (b ∷ bs)) ≡ drop (p - b.len) (bytes_of s bs)
    past p b bs long passed =
        let own = bytes_of_block s b in
        drop-append p own (bytes_of s bs) ∙ ap (λ xs. xs ++ drop (p - length own) (bytes_of s bs)) (drop_all p own (omega (arith, passed, long))) ∙ ap (λ l. drop (p - l) (bytes_of s bs)) long

-- once the bytes of a message from a place on are laid there, they are read
pub read_all : (s : DataStore) (m : Message) → length (bytes_of s m) ≡ size_of m → (at : ℕ) {done : ℕ} {rest old now : List ℕ} → rest ≡ [] → IsLaid (drop at (bytes_of s m)) rest old now done → IsRead s m at old now done
read_all s m many at none laid = grind (arith, common_steps, laid_all, length-drop)

-- once those of its only block are, too
pub read_one : (s : DataStore) (b : Block) (at : ℕ) {count : ℕ} (old : List ℕ) {now : List ℕ} → count ≡ min (length old) (b.len - at) → now ≡ take count (drop at (bytes_of_block s b)) ++ drop count old → IsRead s (b ∷ []) at old now count
read_one s b at {count} old counted is =
    let size : b.len ≡ size_of (b ∷ []) = omega arith in
    record {
      count = counted ∙ ap (λ n. min (length old) (n - at)) size;
      bytes = is ∙ ap (λ bs. take count (drop at bs) ++ drop count old) (sym (append-nil (bytes_of_block s b)));
    }

module _ {id : ℕ} {s : CountedStore} {fields : List Fields} {v : ChainLists} (filled : IsFilled s fields v (arena_of id s.store fields v)) {a : Arena} (is : arena_of id s.store fields v ≡ a) (t : TokenValue) (had : has a t ≡ true) where
  -- each block of a held message has as many bytes as it says
  bytes_each : (k : ℕ) (b : Block) → slice_get (message_at a t.head) k ≡ Some b → length (bytes_of_block a.store b) ≡ b.len
  bytes_each k b at =
      elim (slice_get (nodes_at v t.head) k) as (λ o. slice_get (nodes_at v t.head) k ≡ o → length (bytes_of_block a.store b) ≡ b.len) [
        | None ↦ λ none. absurd (none-some b (sym (block_none filled is t.head k none) ∙ at))
        | Some n ↦ λ some.
            let here = block_some filled is t.head k t refl had some in
            let same : block_at fields n ≡ b = same_Some (block_at fields n) b (sym here.block ∙ at) in
            ap (λ c. length (bytes_of_block a.store c)) (sym same)
            ∙ ap (λ (x : Arena). length (bytes_of_block x.store (block_at fields n))) (sym is)
            ∙ length-bytes_of_block n here.placed
            ∙ ap (λ (c : Block). c.len) same
      ] refl

  -- and so has it
  pub length-message : length (bytes_of a.store (message_at a t.head)) ≡ size_of (message_at a t.head)
  length-message = length-bytes_of a.store (message_at a t.head) bytes_each

  -- a list of that length has nothing more
  pub past_last : (k : ℕ) → t.blocks ≤ k → drop k (message_at a t.head) ≡ []
  past_last k past = grind (arith, common_steps, had_message, drop_all)

-- ==== the lengths of a held message's blocks, summed up one by one

-- the sum from a place on is that of the block there, and that of the blocks after it
pub sum_from : {X : Type 0} (f : X → ℕ) (xs : List X) (k : ℕ) {x : X} → slice_get xs k ≡ Some x → sum_by f (drop k xs) ≡ f x + sum_by f (drop (k + 1) xs)
sum_from f xs k {x} is = omega (arith, ap (sum_by f) (drop_from xs k x is), sum_by-append f (x ∷ []) (drop (k + 1) xs))

-- no more counts than there is
pub counted_most : (data_alone : Bool) (s : DataStore) (m : Message) → sum_by (len_counted data_alone s) m ≤ size_of m
counted_most data_alone s [] = omega arith
counted_most data_alone s (b ∷ m) = grind (arith, common_steps, (counted_most data_alone s m), sum_by-append)

-- and where all count, as much
pub all_counted : (s : DataStore) (m : Message) → sum_by (len_counted false s) m ≡ size_of m
all_counted s [] = refl
all_counted s (b ∷ m) =
    omega (
      arith,
      sum_by-append (len_counted false s) (b ∷ []) m,
      sum_by-append (λ (c : Block). c.len) (b ∷ []) m,
      one (same_kind (kind_of s b) MData),
      all_counted s m,
    )
  where
    one : (t : Bool) → (if t || true then b.len else 0) ≡ b.len
    one true = refl
    one false = refl

-- the most bytes that a held message has
pub message_small : {id : ℕ} {s : CountedStore} {fields : List Fields} {v : ChainLists} → IsFilled s fields v (arena_of id s.store fields v) → (t : TokenValue) → has (arena_of id s.store fields v) t ≡ true
    → size_of (message_at (arena_of id s.store fields v) t.head) ≤ most_message_blocks * most_data_block_bytes
message_small {id} {s} {fields} {v} filled t is =
    let a = arena_of id s.store fields v in
    let had = had_message a t is in
    let nodes = held_nodes id s.store fields v t.head had.1.held in
    omega (
      arith,
      flat_map-set_adds length_adds blocks_of a.held t.head None None (held_within a t.head had.0 had.1.held),
      ap (λ o. length (blocks_of o)) had.1.held,
      ap (λ o. size_of (blocks_of o)) had.1.held,
      ap size_of nodes.1.message,
      ap length nodes.1.message,
      length-map nodes.0 (block_at fields),
      size_most fields nodes.0 (len_most filled),
      all_there filled,
      filled.few,
      filled.listed,
    )

-- and so they are counted in 32 bits
pub nodes_small : {id : ℕ} {s : CountedStore} {fields : List Fields} {v : ChainLists} → IsFilled s fields v (arena_of id s.store fields v) → {a : Arena} → arena_of id s.store fields v ≡ a → (t : TokenValue) → has a t ≡ true
    → size_of (message_of fields (nodes_at v t.head)) < 2 ^ 32
nodes_small filled is t had = grind (arith, common_steps, message_small, message_at-seen)

-- the lengths of a message can be summed up along its chain
pub summable : {id : ℕ} {s : CountedStore} {fields : List Fields} {v : ChainLists} → IsFilled s fields v (arena_of id s.store fields v) → {h : ℕ} {ns : List ℕ} → chain_of v h ≡ ns → slice_get ns 0 ≡ Some h → h < length v.held → size_of (message_of fields ns) < 2 ^ 32 → IsSummable v fields s.store h
summable filled is begins there small = grind (arith, common_steps)
