-- Bytes taken from the blocks after the first.
use Rattle.std.proofs.Common.{◌≡◌, ℕ, zero, suc, ◌+◌, ◌-◌, ◌<◌, ◌≤◌, true, false, List, [], ◌∷◌, length, drop, take, Some, refl, sym, ap, ◌∙◌, arith, set}
use Rattle.std.specs.Prelude.{min, slice_get, option_map}
use Rattle.std.proofs.lemmas.Bool.{and_from, and_right, cond-true, cond-false, le-leb, lt-leb, lt-ltb}
use Rattle.std.proofs.lemmas.List.{drop-drop, length-drop, length-take, drop-map, drop_all, length-map}
use Rattle.std.proofs.lemmas.Option.{none-some, same_Some, slice_get-map}
use Rattle.strm_data.specs.CountedStore.{CountedStore, count_of, without_reference}
use Rattle.strm_data.specs.DataStore.{times}
use Rattle.strm_links.proofs.lists.Counting.{times-drop, times-take}
use Rattle.strm_mblk.specs.Block.{Block, size_of}
use Rattle.strm_mblk.specs.Trimming.{blocks_cut_front, is_used_up, blocks_left_over, blocks_used_up}
use Rattle.strm_mblk.specs.declared.blocks.Fields.{Fields}
use Rattle.strm_mblk.specs.BlocksLayout.{block_at, fields_at, message_of, data_used_by, with_references_dropped}
use Rattle.strm_mblk.specs.Cutting.{fields_cut, with_bytes_cut}
use Rattle.strm_mblk.proofs.Lists.{drop_from, slice_get-take}
use Rattle.strm_mblk.proofs.Trimming.{size_front, cut_none}
use Rattle.strm_mblk.proofs.Freeing.{IsDropping, named-get, next_dropping, next_used, start_dropping}
use Rattle.std.proofs.lemmas.Grind.{common_steps}

-- ==== bytes are taken from blocks, one block after the other, as far as they go

-- ---- one block

-- all bytes of a block are taken where it has no more
used_whole : (n : ℕ) (b : Block) → 0 < n → b.len ≤ n → is_used_up n b ≡ true
used_whole n b some few = and_from _ _ (lt-ltb 0 n some) (le-leb b.len n few)

used_part : (n : ℕ) (b : Block) → n < b.len → is_used_up n b ≡ false
used_part n b many = and_right _ _ (lt-leb b.len n many)

-- if they are not, nothing is left to take after it
none_more : (n : ℕ) (b : Block) → is_used_up n b ≡ false → (min n b.len ≡ n) × (n - b.len ≡ 0)
none_more n b part = grind (arith, common_steps, used_whole)

-- ---- all of them

-- nothing is left to take
cut_zero : (bs : List Block) → blocks_cut_front 0 bs ≡ bs
cut_zero [] = refl
cut_zero (b ∷ bs) = grind (arith, common_steps, (cut_zero bs))

-- the blocks that are used up are the first
pub used_first : (n : ℕ) (bs : List Block) → blocks_used_up n bs ≡ take (length (blocks_used_up n bs)) bs
used_first n [] = refl
used_first n (b ∷ bs) = grind (arith, common_steps, (used_first (n - b.len) bs))

pub used_few : (n : ℕ) (bs : List Block) → length (blocks_used_up n bs) ≤ length bs
used_few n bs = omega (arith, ap length (used_first n bs), length-take (length (blocks_used_up n bs)) bs)

-- and the others stay, without what is left to take
pub left_others : (n : ℕ) (bs : List Block) → blocks_left_over n bs ≡ blocks_cut_front (n - size_of (blocks_used_up n bs)) (drop (length (blocks_used_up n bs)) bs)
left_others n [] = refl
left_others n (b ∷ bs) = grind (arith, common_steps, (left_others (n - b.len) bs), size_front, none_more, cut_zero)

-- ---- one step

-- the bytes of one block more
size_next : (cs : List Block) (k : ℕ) {c : Block} → slice_get cs k ≡ Some c → size_of (take (k + 1) cs) ≡ size_of (take k cs) + c.len
size_next [] k {c} at = absurd (none-some c at)
size_next (x ∷ cs) zero {c} at = omega (arith, size_front x [], ap (λ (y : Block). y.len) (same_Some x c at))
size_next (x ∷ cs) (suc k) at =
    let e : suc k + 1 ≡ suc (k + 1) = omega arith in
    omega (arith, ap (λ j. size_of (take j (x ∷ cs))) e, size_front x (take (k + 1) cs), size_front x (take k cs), size_next cs k at)

-- of `count` bytes that are taken from bs those of the first i blocks are, all that these have, and `left` are left
pub record IsTaking (count : ℕ) (bs : List Block) (i left : ℕ) : Type 0 where
  pub rest : blocks_used_up left (drop i bs) ≡ drop i (blocks_used_up count bs)
  pub few : i ≤ length (blocks_used_up count bs)
  pub left_is : left ≡ count - size_of (take i bs)

pub start_taking : (count : ℕ) (bs : List Block) → IsTaking count bs 0 count
start_taking count bs = record { rest = refl; few = omega arith; left_is = omega arith }

module _ {count : ℕ} {bs : List Block} {i left : ℕ} (taking : IsTaking count bs i left) where
  all_used : blocks_used_up left (drop i bs) ≡ [] → i ≡ length (blocks_used_up count bs)
  all_used none = omega (arith, taking.few, ap length (sym taking.rest ∙ none), length-drop i (blocks_used_up count bs))

  -- nothing is left to take, or no block to take it from
  pub done_taking : left ≡ 0 → i ≡ length (blocks_used_up count bs)
  done_taking none = all_used (ap (λ n. blocks_used_up n (drop i bs)) none ∙ nothing (drop i bs))
    where
      nothing : (cs : List Block) → blocks_used_up 0 cs ≡ []
      nothing [] = refl
      nothing (c ∷ cs) = refl

  pub end_taking : drop i bs ≡ [] → i ≡ length (blocks_used_up count bs)
  end_taking none = all_used (ap (blocks_used_up left) none)

  module _ {b : Block} (at : slice_get bs i ≡ Some b) where
    -- the next block has more
    pub part_taking : left < b.len → i ≡ length (blocks_used_up count bs)
    part_taking many = all_used (ap (blocks_used_up left) (drop_from bs i b at) ∙ cond-false _ _ _ (used_part left b many))

    -- or it is used up
    module _ (some : 0 < left) (few : b.len ≤ left) where
      used_next : drop i (blocks_used_up count bs) ≡ b ∷ blocks_used_up (left - b.len) (drop (i + 1) bs)
      used_next = sym taking.rest ∙ ap (blocks_used_up left) (drop_from bs i b at) ∙ cond-true _ _ _ (used_whole left b some few)

      pub more_used : i < length (blocks_used_up count bs)
      more_used = omega (arith, ap length used_next, length-drop i (blocks_used_up count bs))

      pub next_taking : IsTaking count bs (i + 1) (left - b.len)
      next_taking = record {
        rest = sym (ap (drop 1) used_next) ∙ drop-drop 1 i (blocks_used_up count bs);
        few = omega (arith, more_used);
        left_is = omega (arith, taking.left_is, size_next bs i at);
      }

-- ==== bytes are taken from the blocks after the first of a message: what they say then, and the references that are dropped

-- places after the first
get_behind : (ns : List ℕ) (i : ℕ) → slice_get (drop 1 ns) i ≡ slice_get ns (i + 1)
get_behind [] i = refl
get_behind (n ∷ ns) i = ap (slice_get (n ∷ ns)) (let e : suc i ≡ i + 1 = omega arith in e)

module _ (fields : List Fields) (ns : List ℕ) (count : ℕ) (old : CountedStore) where
  -- the blocks after the first
  abbrev pub behind : List Block
  behind = message_of fields (drop 1 ns)

  -- how many are used up, and the data blocks that these name
  abbrev pub all : ℕ
  all = length (blocks_used_up count behind)

  abbrev pub names : List ℕ
  names = take all (data_used_by fields (drop 1 ns))

  -- i of them are used up, and no more: `now` is what the message blocks say then, and `s` the data blocks
  pub record AreTaken (i : ℕ) (now : List Fields) (s : CountedStore) : Type 0 where
    pub used : i ≡ all
    pub dropped : s ≡ with_references_dropped (take i (data_used_by fields (drop 1 ns))) old
    pub cut : now ≡ with_bytes_cut false (count - size_of (take i behind)) (drop (i + 1) ns) fields

  -- i of them are so far, and `left` bytes are left to take
  pub record AreTaking (i left : ℕ) (s : CountedStore) : Type 0 where
    pub taking : IsTaking count behind i left
    pub dropping : IsDropping names i old s

  pub first_takes : ((d : ℕ) → times d (data_used_by fields ns) ≤ count_of old d) → AreTaking 0 count old
  first_takes named = grind (arith, common_steps, start_taking, start_dropping, times-take, drop-map, times-drop)

  module _ {i left : ℕ} {s : CountedStore} (takes : AreTaking i left s) where
    dropped_all : i ≡ all → s ≡ with_references_dropped (take i (data_used_by fields (drop 1 ns))) old
    dropped_all used = grind (arith, common_steps, drop_all, length-take)

    left_now : (ks : List ℕ) → with_bytes_cut false left ks fields ≡ with_bytes_cut false (count - size_of (take i behind)) ks fields
    left_now ks = ap (λ n. with_bytes_cut false n ks fields) takes.taking.left_is

    -- nothing is left to take
    pub nothing_left : left ≡ 0 → AreTaken i fields s
    nothing_left none = grind (arith, common_steps, done_taking, dropped_all, cut_none, left_now)

    -- or no block to take it from
    pub none_left : length ns ≤ i + 1 → AreTaken i fields s
    none_left last = grind (arith, common_steps, end_taking, drop_all, length-map, length-drop, dropped_all, left_now)

    module _ {n : ℕ} (at : slice_get ns (i + 1) ≡ Some n) where
      here : slice_get (drop 1 ns) i ≡ Some n
      here = get_behind ns i ∙ at

      block_here : slice_get behind i ≡ Some (block_at fields n)
      block_here = slice_get-map (block_at fields) (drop 1 ns) i ∙ ap (option_map (block_at fields)) here

      -- the next block has more
      pub part_left : left < (fields_at fields n).len → AreTaken i (set fields n (fields_cut false left (fields_at fields n))) s
      part_left many = grind (arith, common_steps, part_taking, block_here, dropped_all, cut_none, drop_from, left_now)

      -- or it is used up, and its name is dropped
      module _ (some : 0 < left) (few : (fields_at fields n).len ≤ left) where
        named_here : slice_get names i ≡ Some (fields_at fields n).data_number
        named_here =
            slice_get-take all i (data_used_by fields (drop 1 ns)) (more_used takes.taking block_here some few)
            ∙ named-get fields (drop 1 ns) i here

        pub name_there : 0 < count_of s (fields_at fields n).data_number
        name_there = next_used takes.dropping named_here

        pub next_takes : AreTaking (i + 1) (left - (fields_at fields n).len) (without_reference (fields_at fields n).data_number s)
        next_takes = record {
          taking = next_taking takes.taking block_here some few;
          dropping = next_dropping takes.dropping named_here;
        }
