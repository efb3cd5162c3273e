-- The blocks of which all bytes are taken, and the whole pull-up.
use Rattle.std.proofs.Common.{◌≡◌, ℕ, ◌+◌, ◌-◌, ◌<◌, ◌≤◌, false, List, [], ◌∷◌, ◌++◌, length, Some, refl, sym, ap, ◌∙◌, arith, zero, suc, ℤ, take, None, Result, Ok, Err, if◌then◌else◌, get_or-set_same}
use Rattle.std.specs.Prelude.{count_by, drop, nat_le}
use Rattle.std.proofs.lemmas.List.{drop-drop, drop-map, map-append, set-set, take-map}
use Rattle.std.proofs.lemmas.Bool.{cond-true, cond-false, le-leb, le-ltb, lt-leb}
use Rattle.std.proofs.lemmas.List.Sums.{sum_by-append}
use Rattle.strm_data.specs.CountedStore.{CountedStore, IsKept}
use Rattle.strm_data.specs.DataStore.{times, DataStore, take_data}
use Rattle.strm_links.proofs.lists.Counting.{split_behind, times-append, times-drop, times_here}
use Rattle.strm_data.specs.declared.refusal.Refusal.{Refusal}
use Rattle.strm_mblk.specs.declared.blocks.Fields.{Fields}
use Rattle.strm_mblk.specs.Arena.{Arena, message_at, references_to, shelved_blocks, with_message, held_at}
use Rattle.strm_mblk.specs.Block.{Block, uses_data, size_of, Message}
use Rattle.strm_mblk.specs.BlocksLayout.{IsFilled, arena_of, block_at, block_of, fields_at, message_of, data_used_by, with_references_dropped}
use Rattle.strm_mblk.specs.Cutting.{with_bytes_cut}
use Rattle.strm_mblk.specs.Freeing.{with_block_freed, with_blocks_freed, with_reference_dropped}
use Rattle.strm_mblk.specs.Messages.{held_in, blocks_of}
use Rattle.strm_links.specs.ChainLists.{IsLawful, ChainLists, with_behind_freed, nodes_at}
use Rattle.strm_mblk.specs.Pulling.{with_bytes_drained, pull_front, front_pulled, over_data}
use Rattle.strm_mblk.specs.Trimming.{blocks_cut_front, blocks_left_over, blocks_used_up, bytes_asked, with_front_pulled, store_with_front, pullupmsg, run_of}
use Rattle.strm_mblk.specs.Given.{Given, value_after, answer_map, answer_of}
use Rattle.strm_mblk.proofs.Lists.{count_adds, first_rest}
use Rattle.strm_mblk.proofs.arena.Counts.{held_moves, held_within}
use Rattle.strm_mblk.proofs.Nodes.{begins_with}
use Rattle.strm_mblk.proofs.Freeing.{IsFreed, frees_some}
use Rattle.strm_mblk.proofs.layout.HeldBlocks.{AreRewritten, alike_apart, message_filled, message_shows, named-same, once_within, within_room}
use Rattle.strm_mblk.proofs.layout.StoredArena.{message-alike, message_at-seen}
use Rattle.strm_mblk.proofs.pulling.Taken.{AreTaken, left_others, used_first}
use Rattle.strm_mblk.proofs.Trimming.{cut_apart, cut_named, cut_placed, length-cut, nodes_cut}
use Rattle.std.proofs.lemmas.Grind.{common_steps}

-- ==== bytes are taken from the blocks after the first of a message, and the blocks that are used up are freed

-- ---- references

-- blocks that are used up, and those that stay, name what all did
kept_names : (d n : ℕ) (bs : List Block) → count_by (uses_data d) (blocks_left_over n bs) + count_by (uses_data d) (blocks_used_up n bs) ≡ count_by (uses_data d) bs
kept_names d n [] = omega arith
kept_names d n (b ∷ bs) = grind (arith, common_steps, (kept_names d (n - b.len) bs), count_adds)

module _ (h n d : ℕ) (b : Block) (bs : List Block) (a : Arena) (inside : h < length a.held) where
  -- so do the messages and the blocks that were used up
  names_later : references_to (with_message h (b ∷ blocks_left_over n bs) a) d + count_by (uses_data d) (blocks_used_up n bs) ≡ references_to (with_message h (b ∷ bs) a) d + 0
  names_later =
      omega (
        arith,
        held_moves (count_adds (uses_data d)) a h (Some (b ∷ blocks_left_over n bs)) inside,
        held_moves (count_adds (uses_data d)) a h (Some (b ∷ bs)) inside,
        (count_adds (uses_data d)).both (b ∷ []) (blocks_left_over n bs),
        (count_adds (uses_data d)).both (b ∷ []) bs,
        kept_names d n bs,
      )

  -- a name may be dropped before the blocks are taken out, or then
  pub dropped_later : with_message h (b ∷ blocks_left_over n bs) (with_reference_dropped d [] (with_message h (b ∷ bs) a)) ≡ with_reference_dropped d (blocks_used_up n bs) (with_message h (b ∷ blocks_left_over n bs) a)
  dropped_later = grind (arith, common_steps, set-set, names_later)

-- blocks that are freed leave the held messages
pub freed_held : (bs : List Block) (a : Arena) → (with_blocks_freed bs a).held ≡ a.held
freed_held [] a = refl
freed_held (b ∷ bs) a = freed_held bs (with_block_freed b bs a)

pub freed_id : (bs : List Block) (a : Arena) → (with_blocks_freed bs a).id ≡ a.id
freed_id [] a = refl
freed_id (b ∷ bs) a = freed_id bs (with_block_freed b bs a)

-- ---- as the code stores it

module _ {id : ℕ} {s : CountedStore} {fields : List Fields} {v : ChainLists} (filled : IsFilled s fields v (arena_of id s.store fields v)) (h : ℕ) (held : held_in v.held h ≡ Some (nodes_at v h)) (count i : ℕ) where
  abbrev old : Arena
  old = arena_of id s.store fields v

  abbrev ns : List ℕ
  ns = nodes_at v h

  -- the blocks after the first
  abbrev bs : List Block
  bs = message_of fields (drop 1 ns)

  -- the numbers of those that are freed, and of the others
  abbrev out : List ℕ
  out = take i (drop 1 ns)

  abbrev rest : List ℕ
  rest = drop (i + 1) ns

  -- how many bytes the others lose, and what the message blocks say then
  abbrev left : ℕ
  left = count - size_of (take i bs)

  abbrev now : List Fields
  now = with_bytes_cut false left rest fields

  nodes_are : ns ≡ h ∷ drop 1 ns
  nodes_are = first_rest ns (begins_with filled.parted h held)

  -- how often a number is there
  sums : (n : ℕ) → times n ns ≡ times n (take 1 ns) + (times n out + times n rest)
  sums n = ap (times n) (split_behind ns i) ∙ omega (arith, times-append n (take 1 ns) (out ++ rest), times-append n out rest)

  once : (n : ℕ) → times n ns ≤ 1
  once = once_within filled h held

  -- ---- bytes are lost

  apart : (n : ℕ) → times n rest ≡ 0 → fields_at now n ≡ fields_at fields n
  apart n none = cut_apart false rest left fields n none

  change : AreRewritten fields now ns
  change = record {
    many = length-cut false rest left fields;
    named = cut_named false rest left fields;
    apart = λ n none. apart n (omega (arith, none, times-drop n (i + 1) ns));
  }

  filled_now : IsFilled s now v (arena_of id s.store now v)
  filled_now = message_filled filled h held s change filled.kept refl (cut_placed false s.store rest left fields filled.placed)

  shows_now : arena_of id s.store now v ≡ with_message h (message_of now ns) old
  shows_now = message_shows filled h held s.store now change.apart

  -- ---- of what the message has then

  module _ (used : i ≡ length (blocks_used_up count bs)) where
    first_now : block_at now h ≡ block_at fields h
    first_now =
        ap (block_of h)
        (apart h (omega (arith, once h, sums h, ap (λ xs. times h (take 1 xs)) nodes_are, times_here h h [] refl)))

    bytes_used : take i bs ≡ blocks_used_up count bs
    bytes_used = ap (λ k. take k bs) used ∙ sym (used_first count bs)

    out_now : message_of now out ≡ blocks_used_up count bs
    out_now =
        message-alike fields now out (alike_apart fields now rest apart out (λ n. omega (arith, once n, sums n)))
        ∙ sym (take-map (block_at fields) i (drop 1 ns)) ∙ bytes_used

    rest_is : message_of fields rest ≡ drop i bs
    rest_is = grind (arith, common_steps, drop-drop, drop-map)

    rest_now : message_of now rest ≡ blocks_left_over count bs
    rest_now =
        nodes_cut false rest left fields (λ n. omega (arith, once n, sums n)) (λ n some. within_room filled h held n (omega (arith, some, sums n)))
        ∙ ap (blocks_cut_front left) rest_is
        ∙ (λ k. blocks_cut_front (count - size_of (bytes_used k)) (drop (used k) bs))
        ∙ sym (left_others count bs)

    message_now : message_of now (take 1 ns ++ rest) ≡ block_at fields h ∷ blocks_left_over count bs
    message_now = ap (λ xs. message_of now (take 1 xs ++ rest)) nodes_are ∙ (λ k. first_now k ∷ rest_now k)

    -- ---- and some of its blocks are freed

    parts : (d : ℕ) → times d (data_used_by now ns) ≡ times d (data_used_by now (take 1 ns ++ rest)) + times d (data_used_by now out)
    parts d =
        let data_of : ℕ → ℕ = λ n. (fields_at now n).data_number in
        omega (
          arith,
          ap (λ xs. times d (data_used_by now xs)) (split_behind ns i),
          ap (times d) (map-append data_of (take 1 ns) (out ++ rest)),
          ap (times d) (map-append data_of out rest),
          ap (times d) (map-append data_of (take 1 ns) rest),
          times-append d (data_used_by now (take 1 ns)) (data_used_by now (out ++ rest)),
          times-append d (data_used_by now out) (data_used_by now rest),
          times-append d (data_used_by now (take 1 ns)) (data_used_by now rest),
        )

    drained_is : with_blocks_freed (message_of now out) (with_message h (message_of now (take 1 ns ++ rest)) (arena_of id s.store now v)) ≡ with_bytes_drained h count (message_at old h) old
    drained_is = grind (arith, common_steps, shows_now, set-set, out_now, message_now, message_at-seen, nodes_are)

    frees_now : {t : CountedStore} {w : ChainLists} → t ≡ with_references_dropped (take i (data_used_by fields (drop 1 ns))) s → IsKept t → w ≡ with_behind_freed h i ns v → IsLawful w
        → IsFreed old (with_bytes_drained h count (message_at old h) old) t now w id
    frees_now t_is kept w_is parted =
        let names : take i (data_used_by fields (drop 1 ns)) ≡ data_used_by now out =
        take-map (λ n. (fields_at fields n).data_number) i (drop 1 ns) ∙ sym (named-same fields now change.named out) in
        let freed = frees_some id s now v filled_now h held (Some (take 1 ns ++ rest)) out parts (t_is ∙ ap (λ ds. with_references_dropped ds s) names) kept w_is parted in
        record {
          filled = freed.filled;
          shelved = freed.shelved ∙ ap shelved_blocks shows_now;
          after = freed.after ∙ drained_is;
        }

  pub drains : {fields' : List Fields} {t : CountedStore} {w : ChainLists} → AreTaken fields ns count s i fields' t → IsKept t → w ≡ with_behind_freed h i ns v → IsLawful w
      → IsFreed old (with_bytes_drained h count (message_at old h) old) t fields' w id
  drains taken kept w_is parted = grind (arith, common_steps, frees_now)

-- ==== `pullupmsg`: the first block has the next bytes, and the blocks after it have lost them

-- ---- the run

-- the first blocks have no more bytes than all
first_size : (k : ℕ) (bs : List Block) → size_of (take k bs) ≤ size_of bs
first_size zero [] = omega arith
first_size (suc k) [] = omega arith
first_size zero (b ∷ bs) = omega arith
first_size (suc k) (b ∷ bs) = omega (arith, first_size k bs, sum_by-append (λ (c : Block). c.len) (b ∷ []) bs, sum_by-append (λ (c : Block). c.len) (b ∷ []) (take k bs))

pub run_most : (s : DataStore) (m : Message) → size_of (run_of s m) ≤ size_of m
run_most s [] = omega arith
run_most s (b ∷ bs) = grind (arith, common_steps, first_size, sum_by-append)

-- ---- what the model gives

module _ (h n : ℕ) (b : Block) (bs : List Block) (a : Arena) (held : held_at a h ≡ Some (b ∷ bs)) where
  -- the message and its run, if n bytes are asked for
  module _ (count : ℤ) (asked : bytes_asked count (run_of a.store (message_at a h)) ≡ Some n) (enough : n ≤ size_of (run_of a.store (message_at a h))) where
    pull_is : pullupmsg h count a ≡ (if nat_le n b.len then Ok (tt, a) else answer_map (λ d. (tt, with_front_pulled h n (b ∷ bs) a d)) (take_data n a.store))
    pull_is = grind (arith, common_steps, cond-false, le-ltb)

    -- the first block has them
    pub pull_had : n ≤ b.len → pullupmsg h count a ≡ Ok (tt, a)
    pull_had few = pull_is ∙ cond-true _ _ _ (le-leb n b.len few)

    -- or it takes a data block for them
    pub pull_takes : b.len < n → pullupmsg h count a ≡ answer_map (λ d. (tt, with_front_pulled h n (b ∷ bs) a d)) (take_data n a.store)
    pull_takes many = pull_is ∙ cond-false _ _ _ (lt-leb n b.len many)

  module _ (d : ℕ) where
    abbrev first : Arena
    first = front_pulled h n (b ∷ bs) a d

    -- the message once its first block has the bytes
    pub first_held : held_at first h ≡ Some (over_data d n b ∷ bs)
    first_held = get_or-set_same a.held h (Some (over_data d n b ∷ bs)) None (held_within a h (b ∷ bs) held)

    -- then the others lose them
    pub pulled_is : with_bytes_drained h (n - b.len) (message_at first h) first ≡ with_front_pulled h n (b ∷ bs) a d
    pulled_is =
        ap (λ m. with_bytes_drained h (n - b.len) m first) (ap blocks_of first_held)
        ∙ ap (with_blocks_freed (blocks_used_up (n - b.len) bs))
        (dropped_later h (n - b.len) b.data_number (over_data d n b) bs (record a { store = store_with_front n (b ∷ bs) a.store d }) (held_within a h (b ∷ bs) held))

    -- the message that is held then
    pub pulled_held : held_at (with_front_pulled h n (b ∷ bs) a d) h ≡ Some (over_data d n b ∷ blocks_left_over (n - b.len) bs)
    pulled_held =
        ap (λ held. held_in held h) (freed_held (blocks_used_up (n - b.len) bs) _)
        ∙ get_or-set_same a.held h (Some (over_data d n b ∷ blocks_left_over (n - b.len) bs)) None (held_within a h (b ∷ bs) held)

    pub pulled_id : (with_front_pulled h n (b ∷ bs) a d).id ≡ a.id
    pulled_id = freed_id (blocks_used_up (n - b.len) bs) _

-- ---- answers

-- the answer depends only on whether a data block is taken
same_answer : (f g : ℕ → Arena) (r : Result ℕ Refusal) → answer_of (answer_map (λ d. (tt {0}, f d)) r) ≡ answer_of (answer_map (λ d. (tt {0}, g d)) r)
same_answer f g (Ok d) = refl
same_answer f g (Err why) = refl

-- and it is taken where the call is answered
taken_where : (f : ℕ → Arena) (r : Result ℕ Refusal) {u : Unit {0}} → answer_of (answer_map (λ d. (tt {0}, f d)) r) ≡ Ok u → (d : ℕ) × (r ≡ Ok d)
taken_where f (Ok d) is = (d, refl)
taken_where f (Err why) is = absurd (cc is)

-- ---- the call, as the code goes

-- n bytes of the message at h, which are more than its first block b has, are pulled into it
pub record IsPulled (h n : ℕ) (a : Arena) (call : Given Arena (Unit {0})) (new : Arena) : Type 0 where
  pub done : call ≡ Ok (tt, new)
  pub held : held_at new h ≡ Some (message_at new h)
  pub id : new.id ≡ a.id

module _ (h : ℕ) {n : ℕ} (b : Block) (bs : List Block) (a : Arena) (held : held_at a h ≡ Some (b ∷ bs)) (count : ℤ) (asked : bytes_asked count (run_of a.store (message_at a h)) ≡ Some n)
    (enough : n ≤ size_of (run_of a.store (message_at a h))) (many : b.len < n) where
  -- the first block's answer is the call's
  pub pull_front_answer : answer_of (pull_front h n a) ≡ answer_of (pullupmsg h count a)
  pull_front_answer = grind (arith, common_steps, same_answer)

  module _ {first : Arena} (first_is : first ≡ value_after a (pull_front h n a)) {u : Unit {0}} (given : answer_of (pull_front h n a) ≡ Ok u) where
    pub taken : (d : ℕ) × (take_data n a.store ≡ Ok d)
    taken = taken_where (front_pulled h n (message_at a h) a) (take_data n a.store) given

    front_pulled_now : first ≡ front_pulled h n (b ∷ bs) a taken.0
    front_pulled_now = grind (arith, common_steps, taken)

    -- the message is held, with as many blocks
    pub front_pulled_held : held_at first h ≡ Some (over_data taken.0 n b ∷ bs)
    front_pulled_held = ap (λ x. held_at x h) front_pulled_now ∙ first_held h n b bs a held taken.0

    pub pulls : {new : Arena} → new ≡ with_bytes_drained h (n - b.len) (message_at first h) first → IsPulled h n a (pullupmsg h count a) new
    pulls {new} new_is =
        let is : new ≡ with_front_pulled h n (b ∷ bs) a taken.0 = new_is ∙ ap (λ x. with_bytes_drained h (n - b.len) (message_at x h) x) front_pulled_now ∙ pulled_is h n b bs a held taken.0 in
        let now : held_at new h ≡ Some (over_data taken.0 n b ∷ blocks_left_over (n - b.len) bs) = ap (λ x. held_at x h) is ∙ pulled_held h n b bs a held taken.0 in
        record {
          done =
              pull_takes h n b bs a held count asked enough many ∙ ap (answer_map (λ d. (tt, with_front_pulled h n (b ∷ bs) a d))) taken.1
              ∙ ap (λ x. Ok (tt, x)) (sym is);
          held = now ∙ ap Some (sym (ap blocks_of now));
          id = ap (λ (x : Arena). x.id) is ∙ pulled_id h n b bs a held taken.0;
        }
