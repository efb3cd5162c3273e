-- Ranks, priority order, and what fits at a place.
use Rattle.std.proofs.Common.{◌≡◌, ◌≢◌, ℕ, true, [], ◌∷◌, Some, refl, sym, ap, ◌∙◌, if◌then◌else◌, ◌<◌, ◌≤◌, Bool, false, ◌&&◌, List, ◌++◌, inl, inr, arith, ◌-◌, ◌^◌, length, Option, None, subst}
use Rattle.std.specs.Prelude.{option_map, slice_get, cond, nat_le, not}
use Rattle.std.proofs.lemmas.Bool.{cond-true, cond-false, cond_both, false_from_ne_true, and_from, and_parts, false≢true, le-leb, leb-false, leb-true, not-false, not-true, or_cases, or_left, or_parts, or_right, true≢false}
use Rattle.std.proofs.lemmas.Option.{none-some, same_Some}
use Rattle.std.specs.List.{list_all, list_any}
use Rattle.std.proofs.lemmas.List.{append_assoc, append-nil}
use Rattle.std.proofs.lemmas.List.Folds.{list_all-append}
use Rattle.std.specs.Option.{ForSome}
use Rattle.strm_data.specs.MsgType.{is_high_priority}
use Rattle.strm_data.specs.DataStore.{DataStore}
use Rattle.strm_data.specs.declared.msg_type.MsgType.{MsgType}
use Rattle.strm_mblk.specs.Block.{Block, Message, kind_of, size_of, head_of}
use Rattle.strm_links.specs.Rows.{IsApart, after, before, first, has, last}
use Rattle.strm_mblk.specs.Arena.{Arena, IsParted, shelf_at}
use Rattle.strm_mblk.specs.Messages.{put_before_head}
use Rattle.strm_mblk.specs.Shelves.{heads_at, is_on}
use Rattle.strm_mblk.specs.Limits.{most_message_blocks}
use Rattle.strm_mblk.proofs.arena.Stands.{heads_apart, heads_room}
use Rattle.strm_queue.specs.Limits.{high_rank}
use Rattle.strm_queue.specs.Rank.{as_queued, rank_of, is_ordered, put_ahead, put_behind}
use Rattle.strm_queue.proofs.Shelf.{Parts, after-head, at_there, before-head, first_of, first_there, heads, last_none, last_of, parts_of, placed-between}
use Rattle.std.proofs.lemmas.Grind.{common_steps}

-- ---- the rank of a message, by the type and the band of its first block

-- the type and the band of the first block give the rank
pub rank_asked : (s : DataStore) (m : Message) (kind : MsgType) (band : ℕ) → option_map (kind_of s) (slice_get m 0) ≡ Some kind → option_map (λ (b : Block). b.band) (slice_get m 0) ≡ Some band
    → (if is_high_priority kind then high_rank else band) ≡ rank_of s m
rank_asked s [] kind band k b = absurd (none-some kind k)
rank_asked s (c ∷ cs) kind band k b = λ i. if is_high_priority (sym (same_Some _ _ k) i) then high_rank else sym (same_Some _ _ b) i

-- a message that is not of high priority is queued as it is
pub low_queued : (s : DataStore) (m : Message) → rank_of s m ≢ high_rank → as_queued s m ≡ m
low_queued s [] low = refl
low_queued s (b ∷ bs) low =
    ap (λ c. c ∷ bs) (cond-false (is_high_priority (kind_of s b)) (record b { band = 0 }) b (false_from_ne_true _ (λ high. low (cond-true (is_high_priority (kind_of s b)) high_rank b.band high))))

-- what a message keeps on a queue: what the band of a high priority message does not change
of_queued : {X : Type 0} (f : Message → X) (s : DataStore) → ((b : Block) (bs : Message) → is_high_priority (kind_of s b) ≡ true → f (record b { band = 0 } ∷ bs) ≡ f (b ∷ bs))
    → (m : Message) → f (as_queued s m) ≡ f m
of_queued f s same [] = refl
of_queued f s same (b ∷ bs) = cond_both (is_high_priority (kind_of s b)) (record b { band = 0 }) b (λ c. f (c ∷ bs) ≡ f (b ∷ bs)) (same b bs) (λ low. refl)

pub rank_of-queued : (s : DataStore) (m : Message) → rank_of s (as_queued s m) ≡ rank_of s m
rank_of-queued s = of_queued (rank_of s) s (λ b bs high. cond-true _ high_rank 0 high ∙ sym (cond-true _ high_rank b.band high))

pub head_of-queued : (s : DataStore) (m : Message) → head_of (as_queued s m) ≡ head_of m
head_of-queued s = of_queued head_of s (λ b bs high. refl)

pub size_of-queued : (s : DataStore) (m : Message) → size_of (as_queued s m) ≡ size_of m
size_of-queued s = of_queued size_of s (λ b bs high. refl)

-- ---- messages in priority order: what keeps the order, and where a message goes by its rank

-- two tests that hold together are one
same_Bool : (b c : Bool) → (b ≡ true → c ≡ true) → (c ≡ true → b ≡ true) → b ≡ c
same_Bool b c there back = grind (arith, common_steps)

flipped : (b : Bool) (xs ys : List Message) → cond b xs ys ≡ cond (not b) ys xs
flipped true xs ys = refl
flipped false xs ys = refl

-- a test of all messages, of which one is known
all_around : (p : Message → Bool) (pre post : List Message) (m : Message) → list_all p (pre ++ m ∷ post) ≡ (p m && list_all p (pre ++ post))
all_around p pre post m = grind (arith, common_steps)

-- what passes one test passes another
all_from : (p q : Message → Bool) → ((x : Message) → p x ≡ true → q x ≡ true) → (xs : List Message) → list_all p xs ≡ true → list_all q xs ≡ true
all_from p q so [] all = refl
all_from p q so (x ∷ xs) all = let parts = and_parts (p x) (list_all p xs) all in and_from (q x) _ (so x parts.0) (all_from p q so xs parts.1)

module _ (rank : Message → ℕ) where
  -- the messages on both sides of one are of at least and of at most its rank, and in order without it
  pub record IsAround (pre post : List Message) (m : Message) : Type 0 where
    pub ahead : list_all (λ y. nat_le (rank m) (rank y)) pre ≡ true
    pub behind : list_all (λ y. nat_le (rank y) (rank m)) post ≡ true
    pub others : is_ordered rank (pre ++ post) ≡ true

  pub around : (pre post : List Message) (m : Message) → is_ordered rank (pre ++ m ∷ post) ≡ true → IsAround pre post m
  around [] post m is = let parts = and_parts (list_all (λ y. nat_le (rank y) (rank m)) post) (is_ordered rank post) is in record { ahead = refl; behind = parts.0; others = parts.1 }
  around (x ∷ pre) post m is =
      let parts = and_parts (list_all (λ y. nat_le (rank y) (rank x)) (pre ++ m ∷ post)) (is_ordered rank (pre ++ m ∷ post)) is in
      let here = and_parts (nat_le (rank m) (rank x)) _ (sym (all_around (λ y. nat_le (rank y) (rank x)) pre post m) ∙ parts.0) in
      let rest = around pre post m parts.1 in
      record { ahead = and_from (nat_le (rank m) (rank x)) _ here.0 rest.ahead; behind = rest.behind; others = and_from (list_all (λ y. nat_le (rank y) (rank x)) (pre ++ post)) _ here.1 rest.others }

  -- and the messages are in order with it
  joined : (pre post : List Message) (m : Message) → IsAround pre post m → is_ordered rank (pre ++ m ∷ post) ≡ true
  joined [] post m sides = and_from (list_all (λ y. nat_le (rank y) (rank m)) post) _ sides.behind sides.others
  joined (x ∷ pre) post m sides =
      let more = and_parts (nat_le (rank m) (rank x)) (list_all (λ y. nat_le (rank m) (rank y)) pre) sides.ahead in
      let parts = and_parts (list_all (λ y. nat_le (rank y) (rank x)) (pre ++ post)) (is_ordered rank (pre ++ post)) sides.others in
      and_from (list_all (λ y. nat_le (rank y) (rank x)) (pre ++ m ∷ post)) _ (all_around (λ y. nat_le (rank y) (rank x)) pre post m ∙ and_from (nat_le (rank m) (rank x)) _ more.0 parts.0)
      (joined pre post m (record { ahead = more.1; behind = sides.behind; others = parts.1 }))

  -- the messages after a place are in order
  pub ordered_last : (pre post : List Message) → is_ordered rank (pre ++ post) ≡ true → is_ordered rank post ≡ true
  ordered_last [] post is = is
  ordered_last (x ∷ pre) post is = ordered_last pre post (and_parts (list_all (λ y. nat_le (rank y) (rank x)) (pre ++ post)) (is_ordered rank (pre ++ post)) is).1

  -- ---- one joins at a place

  -- before one of a greater rank, it breaks the order
  pub rises_behind : (pre post : List Message) (m y : Message) → rank m < rank y → is_ordered rank (pre ++ m ∷ y ∷ post) ≡ false
  rises_behind pre post m y less =
      false_from_ne_true _ (λ is. absurd (omega (arith, less, leb-true (rank y) (rank m) (and_parts (nat_le (rank y) (rank m)) _ (around pre (y ∷ post) m is).behind).0)))

  -- whether the first of these is of at most a rank
  abbrev pub first_fits : ℕ → List Message → Bool
  first_fits r [] = true
  first_fits r (y ∷ ys) = nat_le (rank y) r

  -- so all of them are
  all_fit : (r : ℕ) (post : List Message) → is_ordered rank post ≡ true → first_fits r post ≡ true → list_all (λ y. nat_le (rank y) r) post ≡ true
  all_fit r [] is fits = refl
  all_fit r (y ∷ ys) is fits =
      and_from (nat_le (rank y) r) _ fits
      (all_from (λ z. nat_le (rank z) (rank y)) (λ z. nat_le (rank z) r) (λ z less. le-leb (rank z) r (omega (arith, leb-true (rank z) (rank y) less, leb-true (rank y) r fits))) ys
      (and_parts (list_all (λ z. nat_le (rank z) (rank y)) ys) (is_ordered rank ys) is).0)

  -- as the first message, before one of at most its rank, it keeps the order
  pub fits_first : (post : List Message) (m : Message) → is_ordered rank post ≡ true → first_fits (rank m) post ≡ true → is_ordered rank (m ∷ post) ≡ true
  fits_first post m is fits = and_from (list_all (λ y. nat_le (rank y) (rank m)) post) _ (all_fit (rank m) post is fits) is

  -- after another message it keeps the order exactly if that one is of at least its rank
  pub fits_between : (pre post : List Message) (x m : Message) → is_ordered rank (pre ++ x ∷ post) ≡ true → first_fits (rank m) post ≡ true
      → nat_le (rank m) (rank x) ≡ is_ordered rank ((pre ++ x ∷ []) ++ m ∷ post)
  fits_between pre post x m is fits =
      same_Bool (nat_le (rank m) (rank x)) (is_ordered rank ((pre ++ x ∷ []) ++ m ∷ post))
      (λ less.
      let more = all_from (λ y. nat_le (rank x) (rank y)) (λ y. nat_le (rank m) (rank y))
      (λ y most. le-leb (rank m) (rank y) (omega (arith, leb-true (rank m) (rank x) less, leb-true (rank x) (rank y) most))) pre (around pre post x is).ahead in
      joined (pre ++ x ∷ []) post m
      (record {
        ahead = list_all-append (λ y. nat_le (rank m) (rank y)) pre (x ∷ []) ∙ and_from (list_all (λ y. nat_le (rank m) (rank y)) pre) _ more (and_from (nat_le (rank m) (rank x)) true less refl);
        behind = all_fit (rank m) post (ordered_last (pre ++ x ∷ []) post (ap (is_ordered rank) (append_assoc pre (x ∷ []) post) ∙ is)) fits;
        others = ap (is_ordered rank) (append_assoc pre (x ∷ []) post) ∙ is;
      }))
      (λ ordered.
      (and_parts (nat_le (rank m) (rank x)) _ (sym (all_around (λ y. nat_le (rank m) (rank y)) pre [] x) ∙ (around (pre ++ x ∷ []) post m ordered).ahead)).0)

  -- ---- one joins by its rank

  -- `put` puts m before the first message where `stops` is true, or last
  module _ (m : Message) (put : List Message → List Message) (stops : Message → List Message → Bool) (none : put [] ≡ m ∷ [])
      (step : (x : Message) (xs : List Message) → put (x ∷ xs) ≡ (if stops x xs then m ∷ x ∷ xs else x ∷ put xs)) where
    all_put : (p : Message → Bool) (xs : List Message) → p m ≡ true → list_all p xs ≡ true → list_all p (put xs) ≡ true
    all_put p [] here all = ap (list_all p) none ∙ and_from (p m) true here refl
    all_put p (x ∷ xs) here all =
        let parts = and_parts (p x) (list_all p xs) all in
        ap (list_all p) (step x xs)
        ∙ cond_both (stops x xs) (m ∷ x ∷ xs) (x ∷ put xs) (λ ys. list_all p ys ≡ true) (λ at. and_from (p m) _ here all) (λ later. and_from (p x) _ parts.0 (all_put p xs here parts.1))

    -- it keeps the order where the message ahead of it is of at least its rank, and the one behind of at most
    ordered_put : ((x : Message) (xs : List Message) → is_ordered rank (x ∷ xs) ≡ true → (stops x xs ≡ true → rank x ≤ rank m) × (stops x xs ≡ false → rank m ≤ rank x))
        → (xs : List Message) → is_ordered rank xs ≡ true → is_ordered rank (put xs) ≡ true
    ordered_put fits [] is = ap (is_ordered rank) none
    ordered_put fits (x ∷ xs) is =
        let parts = and_parts (list_all (λ y. nat_le (rank y) (rank x)) xs) (is_ordered rank xs) is in
        ap (is_ordered rank) (step x xs)
        ∙ cond_both (stops x xs) (m ∷ x ∷ xs) (x ∷ put xs) (λ ys. is_ordered rank ys ≡ true) (λ at. fits_first (x ∷ xs) m is (le-leb (rank x) (rank m) ((fits x xs is).0 at)))
        (λ later. and_from (list_all (λ y. nat_le (rank y) (rank x)) (put xs)) _ (all_put (λ y. nat_le (rank y) (rank x)) xs (le-leb (rank m) (rank x) ((fits x xs is).1 later)) parts.0) (ordered_put fits xs parts.1))

  -- ---- after its equals

  -- no one of these is of at least a rank
  abbrev pub are_below : ℕ → List Message → Type 0
  are_below r xs = list_any (λ y. nat_le r (rank y)) xs ≡ false

  -- if all are of lower rank, it goes first
  pub put_behind-front : (m : Message) (post : List Message) → are_below (rank m) post → put_behind rank m post ≡ m ∷ post
  put_behind-front m [] below = refl
  put_behind-front m (y ∷ post) below = cond-false _ _ _ below

  any_there : (r : ℕ) (pre post : List Message) (x : Message) → r ≤ rank x → list_any (λ y. nat_le r (rank y)) (pre ++ x ∷ post) ≡ true
  any_there r [] post x more = or_left (nat_le r (rank x)) _ (le-leb r (rank x) more)
  any_there r (y ∷ pre) post x more = or_right (nat_le r (rank y)) _ (any_there r pre post x more)

  -- else it goes after the last one that is not
  pub put_behind-at : (m x : Message) (pre post : List Message) → rank m ≤ rank x → are_below (rank m) post → put_behind rank m (pre ++ x ∷ post) ≡ pre ++ x ∷ m ∷ post
  put_behind-at m x [] post more below = cond-true _ _ _ (any_there (rank m) [] post x more) ∙ ap (λ ys. x ∷ ys) (put_behind-front m post below)
  put_behind-at m x (y ∷ pre) post more below = cond-true _ _ _ (any_there (rank m) (y ∷ pre) post x more) ∙ ap (λ ys. y ∷ ys) (put_behind-at m x pre post more below)

  -- a rank that one of these reaches is at most one that none of them exceeds
  any_most : (r top : ℕ) (xs : List Message) → list_all (λ y. nat_le (rank y) top) xs ≡ true → list_any (λ y. nat_le r (rank y)) xs ≡ true → r ≤ top
  any_most r top [] all any = absurd (false≢true any)
  any_most r top (x ∷ xs) all any =
      let parts = and_parts (nat_le (rank x) top) (list_all (λ y. nat_le (rank y) top) xs) all in
      elim (or_cases (nat_le r (rank x)) (list_any (λ y. nat_le r (rank y)) xs) any) [
        | inl here ↦ omega (arith, leb-true r (rank x) here, leb-true (rank x) top parts.0)
        | inr later ↦ any_most r top xs parts.1 later
      ]

  -- it keeps the order
  pub ordered_put_behind : (m : Message) (xs : List Message) → is_ordered rank xs ≡ true → is_ordered rank (put_behind rank m xs) ≡ true
  ordered_put_behind m =
      ordered_put m (put_behind rank m) (λ x xs. not (list_any (λ y. nat_le (rank m) (rank y)) (x ∷ xs))) refl (λ x xs. flipped (list_any (λ y. nat_le (rank m) (rank y)) (x ∷ xs)) _ _)
      (λ x xs is. (
        λ none. omega (arith, leb-false (rank m) (rank x) (or_parts (nat_le (rank m) (rank x)) (list_any (λ y. nat_le (rank m) (rank y)) xs) (not-true _ none)).0),
        λ any.
            let all = and_from (nat_le (rank x) (rank x)) _ (le-leb (rank x) (rank x) (omega arith)) (around [] xs x is).behind in
            any_most (rank m) (rank x) (x ∷ xs) all (not-false _ any),
      ))

  -- ---- before its equals

  -- no one of these is of at most a rank
  abbrev pub are_above : ℕ → List Message → Type 0
  are_above r xs = list_any (λ y. nat_le (rank y) r) xs ≡ false

  -- if all are of greater rank, it goes last
  pub put_ahead-last : (m : Message) (pre : List Message) → are_above (rank m) pre → put_ahead rank m pre ≡ pre ++ m ∷ []
  put_ahead-last m [] above = refl
  put_ahead-last m (x ∷ pre) above =
      let parts = or_parts (nat_le (rank x) (rank m)) (list_any (λ y. nat_le (rank y) (rank m)) pre) above in
      cond-false _ _ _ parts.0 ∙ ap (λ ys. x ∷ ys) (put_ahead-last m pre parts.1)

  -- else it goes before the first one that is not
  pub put_ahead-at : (m x : Message) (pre post : List Message) → are_above (rank m) pre → rank x ≤ rank m → put_ahead rank m (pre ++ x ∷ post) ≡ pre ++ m ∷ x ∷ post
  put_ahead-at m x [] post above less = cond-true _ _ _ (le-leb (rank x) (rank m) less)
  put_ahead-at m x (y ∷ pre) post above less =
      let parts = or_parts (nat_le (rank y) (rank m)) (list_any (λ z. nat_le (rank z) (rank m)) pre) above in
      cond-false _ _ _ parts.0 ∙ ap (λ ys. y ∷ ys) (put_ahead-at m x pre post parts.1 less)

  -- it keeps the order
  pub ordered_put_ahead : (m : Message) (xs : List Message) → is_ordered rank xs ≡ true → is_ordered rank (put_ahead rank m xs) ≡ true
  ordered_put_ahead m =
      ordered_put m (put_ahead rank m) (λ x xs. nat_le (rank x) (rank m)) refl (λ x xs. refl) (λ x xs is. (leb-true (rank x) (rank m), λ more. omega (arith, leb-false (rank x) (rank m) more)))

-- ---- whether a message keeps the order at a place, by the messages on both sides of it

-- the messages of a shelf on both sides of a place, which is before this head, or after all messages
pub record IsParting (a : Arena) (q : ℕ) (o : Option ℕ) : Type 0 where
  pub pre : List Message
  pub post : List Message
  pub is : shelf_at a q ≡ pre ++ post
  pub at : o ≡ first (heads post)

pub parting : (a : Arena) (q : ℕ) (o : Option ℕ) → ForSome o (λ h. is_on a q h ≡ true) → IsParting a q o
parting a q None there = record { pre = shelf_at a q; post = []; is = sym (append-nil (shelf_at a q)); at = refl }
parting a q (Some h) there =
    let parts = parts_of h (shelf_at a q) (there h refl) in
    record { pre = parts.pre; post = parts.at ∷ parts.post; is = parts.is; at = ap Some (sym parts.head) }

module _ (a : Arena) (parted : IsParted a) (q : ℕ) (o : Option ℕ) (pre post : List Message) (is : shelf_at a q ≡ pre ++ post) (at : o ≡ first (heads post)) where
  -- ahead of a message is the one before it
  pub ahead_some : (h : ℕ) → o ≡ Some h → before h (heads_at a q) ≡ last (heads pre)
  ahead_some h some =
      let found = first_of h post (sym at ∙ some) in
      let here : shelf_at a q ≡ pre ++ found.at ∷ found.post = is ∙ ap (λ ms. pre ++ ms) found.is in
      ap (before h) (ap heads here) ∙ ap (λ n. before n (heads (pre ++ found.at ∷ found.post))) (sym found.head)
      ∙ before-head pre found.post found.at (subst (λ ms. IsApart (heads ms)) here (heads_apart a parted q))

  module _ (m : Message) where
    pub placed_here : put_before_head head_of o m (shelf_at a q) ≡ pre ++ m ∷ post
    placed_here = grind (arith, common_steps, placed-between, heads, heads_apart)

    abbrev IsOrdered : List Message → Type 0
    IsOrdered ms = is_ordered (rank_of a.store) ms ≡ true

    -- before one of greater rank it does not fit
    pub too_low : first_fits (rank_of a.store) (rank_of a.store m) post ≡ false → false ≡ is_ordered (rank_of a.store) (put_before_head head_of o m (shelf_at a q))
    too_low low = grind (arith, common_steps, placed_here, first_fits, true≢false, rises_behind, leb-false)

    module _ (ordered : IsOrdered (shelf_at a q)) (fits : first_fits (rank_of a.store) (rank_of a.store m) post ≡ true) where
      -- before all messages it fits
      pub fits_in_front : last (heads pre) ≡ None → true ≡ is_ordered (rank_of a.store) (put_before_head head_of o m (shelf_at a q))
      fits_in_front none = grind (arith, common_steps, placed_here, last_none, fits_first, ordered_last)

      -- else the message ahead of it decides
      pub fits_behind : (h n : ℕ) → last (heads pre) ≡ Some h → ((front back : List Message) (x : Message) → shelf_at a q ≡ front ++ x ∷ back → head_of x ≡ h → n ≡ rank_of a.store x)
          → nat_le (rank_of a.store m) n ≡ is_ordered (rank_of a.store) (put_before_head head_of o m (shelf_at a q))
      fits_behind h n some asked =
          let found = last_of h pre some in
          let here : shelf_at a q ≡ found.pre ++ found.at ∷ post = is ∙ ap (λ ms. ms ++ post) found.is ∙ append_assoc found.pre (found.at ∷ []) post in
          ap (nat_le (rank_of a.store m)) (asked found.pre post found.at here found.head)
          ∙ fits_between (rank_of a.store) found.pre post found.at m (subst IsOrdered here ordered) fits
          ∙ sym (ap (is_ordered (rank_of a.store)) (placed_here ∙ ap (λ ms. ms ++ m ∷ post) found.is))

-- `is_at_most` says whether the first message after the place fits
pub first_asked : (a : Arena) (q r : ℕ) (o : Option ℕ) (answer : Bool) → (o ≡ None → answer ≡ true)
    → ((pre post : List Message) (m : Message) → shelf_at a q ≡ pre ++ m ∷ post → o ≡ Some (head_of m) → answer ≡ nat_le (rank_of a.store m) r)
    → (parting : IsParting a q o) → first_fits (rank_of a.store) r parting.post ≡ answer
first_asked a q r o answer none some parting = grind (arith, common_steps)

-- the last message ahead of a place is on the shelf
pub last_there : (a : Arena) (q : ℕ) (pre post : List Message) → shelf_at a q ≡ pre ++ post → (h : ℕ) → last (heads pre) ≡ Some h → is_on a q h ≡ true
last_there a q pre post is h some =
    let found = last_of h pre some in
    ap (λ ms. has h (heads ms)) (is ∙ ap (λ ms. ms ++ post) found.is ∙ append_assoc found.pre (found.at ∷ []) post) ∙ at_there h found.pre post found.at found.head

-- so are the neighbours of a message
module _ (a : Arena) (parted : IsParted a) (q h : ℕ) (there : is_on a q h ≡ true) (k : ℕ) where
  abbrev parts : Parts h (shelf_at a q)
  parts = parts_of h (shelf_at a q) there

  apart : IsApart (heads (parts.pre ++ parts.at ∷ parts.post))
  apart = subst (λ ms. IsApart (heads ms)) parts.is (heads_apart a parted q)

  pub ahead_there : before h (heads_at a q) ≡ Some k → is_on a q k ≡ true
  ahead_there some = grind (arith, common_steps, last_there, before-head, apart, heads)

  pub behind_there : after h (heads_at a q) ≡ Some k → is_on a q k ≡ true
  behind_there some = grind (arith, common_steps, append_assoc, heads, first_there, after-head, apart)

-- a head on a shelf is a number that a `Slot` can store
pub fits_slot : (a : Arena) → IsParted a → length a.held ≤ most_message_blocks → (q : ℕ) (o : Option ℕ) → ForSome o (λ h. is_on a q h ≡ true) → ForSome o (λ h. h < 2 ^ 32 - 1)
fits_slot a parted few q o there h is = omega (arith, few, heads_room a parted q h (there h is))
