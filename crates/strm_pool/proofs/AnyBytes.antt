-- A pool is lawful whatever bytes its data blocks have.
use Rattle.std.proofs.Common.{◌≡◌, ℕ, zero, suc, ◌+◌, ◌<◌, ◌≤◌, Bool, true, ◌&&◌, ◌==◌, List, [], ◌∷◌, arith, length, map, get_or, refl, sym, ap, ◌∙◌, subst, if◌then◌else◌}
use Rattle.std.specs.Prelude.{count_by, nat_lt, sum_by}
use Rattle.std.specs.List.{All, range_with_len}
use Rattle.std.proofs.lemmas.List.{length-map}
use Rattle.std.proofs.lemmas.List.Folds.{fold-map}
use Rattle.strm_data.specs.CountedStore.{IsKept}
use Rattle.strm_data.specs.DataStore.{DataBlock, DataStore, blocks_in as blocks_of_class, capacity_of, class_of, class_spec_at, data_block_at, no_data_block}
use Rattle.strm_data.specs.Limits.{most_references}
use Rattle.strm_data.specs.MsgType.{is_high_priority}
use Rattle.strm_mblk.specs.Arena.{Arena, IsParted, blocks_in, counted_in, references_to, shelf_at}
use Rattle.strm_mblk.specs.Block.{Block, Message, kind_of, size_of}
use Rattle.strm_queue.specs.Flow.{band_of_rank, bytes_on, every_band, lowat_of}
use Rattle.strm_queue.specs.Limits.{high_rank}
use Rattle.strm_queue.specs.Rank.{is_ordered, rank_of}
use Rattle.strm_pool.specs.Lawful.{DifferInBytes, IsLawful, with_data_blocks}
use Rattle.strm_pool.specs.PoolValue.{PoolValue}

-- a count by what is read of each item
count_by-map : {X Y : Type 0} (f : X → Y) (p : Y → Bool) (xs : List X) → count_by p (map f xs) ≡ count_by (λ x. p (f x)) xs
count_by-map f p xs = fold-map (λ n y. n + (if p y then 1 else 0)) f 0 xs

-- what is read of an item, also past the end
mapped-at : {X Y : Type 0} (f : X → Y) (xs : List X) (k : ℕ) (past : X) → get_or (map f xs) k (f past) ≡ f (get_or xs k past)
mapped-at f [] k past = refl
mapped-at f (x ∷ xs) zero past = refl
mapped-at f (x ∷ xs) (suc k) past = mapped-at f xs k past

module _ (v : PoolValue) (bs : List DataBlock) (differ : DifferInBytes v.arena.store.blocks bs) (law : IsLawful v) where
  abbrev a : Arena
  a = v.arena

  abbrev s : DataStore
  s = a.store

  abbrev w : PoolValue
  w = with_data_blocks bs v

  abbrev b : Arena
  b = w.arena

  abbrev t : DataStore
  t = b.store

  -- what is read of a data block, if it is the same of all
  read : {Y : Type 0} (f : DataBlock → Y) → map f bs ≡ map f s.blocks → (d : ℕ) → f (data_block_at t d) ≡ f (data_block_at s d)
  read f same d = sym (mapped-at f bs d no_data_block) ∙ ap (λ ys. get_or ys d (f no_data_block)) same ∙ mapped-at f s.blocks d no_data_block

  many : length bs ≡ length s.blocks
  many = sym (length-map bs (λ x. x.class)) ∙ ap length differ.classes ∙ length-map s.blocks (λ x. x.class)

  class : (d : ℕ) → class_of t d ≡ class_of s d
  class = read (λ x. x.class) differ.classes

  capacity : (d : ℕ) → capacity_of t d ≡ capacity_of s d
  capacity = read (λ x. length x.bytes) differ.sizes

  kind : (x : Block) → kind_of t x ≡ kind_of s x
  kind x = read (λ y. y.kind) differ.kinds x.data_number

  rank : (m : Message) → rank_of t m ≡ rank_of s m
  rank [] = refl
  rank (x ∷ xs) = ap (λ k. if is_high_priority k then high_rank else x.band) (kind x)

  counts : (counted_in b).counts ≡ (counted_in a).counts
  counts = ap (λ n. map (references_to a) (range_with_len 0 n)) many

  in_class : (c : ℕ) → blocks_of_class t c ≡ blocks_of_class s c
  in_class c = sym (count_by-map (λ x. x.class) (λ k. k == c) bs) ∙ ap (count_by (λ k. k == c)) differ.classes ∙ count_by-map (λ x. x.class) (λ k. k == c) s.blocks

  parted : IsParted b
  parted =
      let was = law.parted in
      record {
        chains = was.chains;
        free_data = λ c d. was.free_data c d ∙ (λ i. if nat_lt d (sym many i) && (sym (class d) i == c && references_to a d == 0) then 1 else 0);
        named = λ d some. omega (arith, was.named d some, many);
        few_references = was.few_references;
      }

  kept : IsKept (counted_in b)
  kept =
      let was = law.kept in
      record {
        lawful = was.lawful;
        complete = λ c. in_class c ∙ was.complete c;
        lists = was.lists;
        counted = ap length counts ∙ was.counted ∙ sym many;
        classed = λ d there. subst (λ k. k < length s.classes) (sym (class d)) (was.classed d (omega (arith, there, many)));
        sized = λ d there. capacity d ∙ was.sized d (omega (arith, there, many)) ∙ ap (λ k. (class_spec_at s k).size) (sym (class d));
        few_references = λ d. subst (λ cs. get_or cs d 0 ≤ most_references) (sym counts) (was.few_references d);
        listed = λ c d. was.listed c d ∙ (λ i. if nat_lt d (sym many i) && (sym (class d) i == c && get_or (sym counts i) d 0 == 0) then 1 else 0);
      }

  pub lawful_still : IsLawful w
  lawful_still = record {
    parted = parted;
    kept = kept;
    within = subst (λ (f : ℕ → ℕ). All (λ (x : Block). x.offset + x.len ≤ f x.data_number) (blocks_in a)) (λ i d. sym (capacity d) i) law.within;
    bands = law.bands;
    whole = law.whole;
    few = law.few;
    few_classes = law.few_classes;
    lawful_queues = law.lawful_queues;
    few_queues = law.few_queues;
    flagged = law.flagged;
    marked = law.marked;
    banded = law.banded;
    shelves = law.shelves;
    ordered = λ q. subst (λ (r : Message → ℕ). is_ordered r (shelf_at a q) ≡ true) (λ i m. sym (rank m) i) (law.ordered q);
    forward = law.forward;
    backward = law.backward;
    apart = law.apart;
    marks = λ q band wanted.
        subst (λ (r : Message → ℕ). lowat_of v.queues q band < sum_by (λ m. if band_of_rank (r m) == band then size_of m else 0) (shelf_at a q)) (λ i m. sym (rank m) i) (law.marks q band wanted);
    bytes = λ q.
        subst (λ (r : Message → ℕ). sum_by (λ band. sum_by (λ m. if band_of_rank (r m) == band then size_of m else 0) (shelf_at a q)) every_band ≡ bytes_on (shelf_at a q)) (λ i m. sym (rank m) i) (law.bytes q);
    lawful_wishes = law.lawful_wishes;
    few_wishes = law.few_wishes;
    short = law.short;
    once = law.once;
    served = law.served;
  }
