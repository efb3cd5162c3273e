-- Messages on a shelf, a shelf split at a place, and lists whose elements are all equal.
use Rattle.std.proofs.Common.{arith, ◌≡◌, ℕ, zero, suc, ◌+◌, ◌<◌, ◌≤◌, Bool, true, false, ◌==◌, ◌||◌, List, [], ◌∷◌, ◌++◌, length, map, drop, set, Option, Some, None, is_none, refl, sym, ap, ◌∙◌, subst, inl, inr, if◌then◌else◌, ◌≢◌, Ok, take, get_or, replicate}
use Rattle.std.specs.Prelude.{filter, nat_lt, not, option_map, slice_get, count_by, is_some, ok_or}
use Rattle.std.specs.List.{position, position_or_len, All, flat_map}
use Rattle.std.proofs.lemmas.Bool.{cond-true, cond-false, eq-eqb, eqb-true, lt-ltb, ne_eqb, false≢true, not_from_true, not_from_false, cases_Bool, cases_eq}
use Rattle.std.proofs.lemmas.List.{map-append, append-nil, take-append-drop}
use Rattle.std.proofs.lemmas.List.Quantifiers.{position-Some}
use Rattle.std.proofs.lemmas.Option.{none-some, same_Some, slice_get-get_or, slice_get-map}
use Rattle.std.proofs.lemmas.List.Elements.{filter-append, filter_passes}
use Rattle.strm_links.specs.Rows.{IsApart, after, before, first, has, last, last_or}
use Rattle.strm_links.proofs.lists.OneList.{absent_around, absent_parts, after-at, before-at, has_cases, has_get, has_head, has_left, has_right, last_has, last_some}
use Rattle.strm_mblk.specs.Arena.{Arena, shelf_at, with_held, with_shelf, IsParted}
use Rattle.strm_mblk.specs.Block.{Message, head_of, Block, kind_of, size_of}
use Rattle.strm_mblk.specs.Messages.{put_before_head, without_head, blocks_of, blocks_on, with_head}
use Rattle.strm_mblk.specs.Shelves.{heads_at, unshelve, head_block, is_on, shelf_of, shelved_message}
use Rattle.strm_data.specs.declared.msg_type.MsgType.{MsgType}
use Rattle.strm_data.specs.declared.refusal.Refusal.TheVariants.{NoSuchPlace}
use Rattle.strm_mblk.specs.Given.{answer_map}
use Rattle.strm_mblk.proofs.arena.Counts.{blocks_in_adds, times-all, head_counts, number_is}
use Rattle.strm_mblk.proofs.Lists.{drop_from, one_most, count_adds}
use Rattle.strm_mblk.proofs.Shelving.{none_begins, parted_adds}
use Rattle.strm_mblk.proofs.arena.Stands.{heads_apart, shelf_of-there}
use Rattle.strm_queue.specs.QueueLooks.{info_of_message}
use Rattle.std.proofs.lemmas.Grind.{common_steps}

-- ---- a list of one value

-- past the end the default is that value too
pub get_or-map_same : {X Y : Type 0} (xs : List X) (y : Y) (i : ℕ) → get_or (map (λ x. y) xs) i y ≡ y
get_or-map_same [] y i = refl
get_or-map_same (x ∷ xs) y zero = refl
get_or-map_same (x ∷ xs) y (suc i) = get_or-map_same xs y i

pub get_or-replicate_same : {X : Type 0} (n : ℕ) (x : X) (i : ℕ) → get_or (replicate n x) i x ≡ x
get_or-replicate_same zero x i = refl
get_or-replicate_same (suc n) x zero = refl
get_or-replicate_same (suc n) x (suc i) = get_or-replicate_same n x i

-- ---- the messages of one shelf, found by their heads, which are all different

abbrev pub heads : List Message → List ℕ
heads ms = map head_of ms

heads-append : (pre post : List Message) → heads (pre ++ post) ≡ heads pre ++ heads post
heads-append pre post = map-append head_of pre post

-- a message with this head, and those before and after it
pub record Parts (h : ℕ) (ms : List Message) : Type 0 where
  pub pre : List Message
  pub at : Message
  pub post : List Message
  pub is : ms ≡ pre ++ at ∷ post
  pub head : head_of at ≡ h

pub parts_of : (h : ℕ) (ms : List Message) → has h (heads ms) ≡ true → Parts h ms
parts_of h [] there = absurd (false≢true there)
parts_of h (x ∷ xs) there =
    elim (has_cases (head_of x) h (heads xs) there) [
      | inl here ↦ record { pre = []; at = x; post = xs; is = refl; head = here }
      | inr later ↦
          let rest = parts_of h xs later in
          record { pre = x ∷ rest.pre; at = rest.at; post = rest.post; is = ap (λ ys. x ∷ ys) rest.is; head = rest.head }
    ]

-- the place of the message with this head
pub record IsPlacedAt (h : ℕ) (ms : List Message) : Type 0 where
  pub place : ℕ
  pub found : position (λ m. head_of m == h) ms ≡ Some place
  pub at : slice_get (heads ms) place ≡ Some h
  pub few : place ≤ length ms

module _ (h : ℕ) where
  abbrev begins : Message → Bool
  begins m = head_of m == h

  -- the message that is found has the head
  placed_at : (ms : List Message) (k : ℕ) → position begins ms ≡ Some k → IsPlacedAt h ms
  placed_at ms k is =
      let there = position-Some begins ms k [] is in
      record {
        place = k;
        found = is;
        at = slice_get-map head_of ms k ∙ ap (option_map head_of) (slice_get-get_or ms k [] there.0) ∙ ap Some (eqb-true _ _ there.1);
        few = omega (arith, there.0);
      }

  first_within : (ms : List Message) → has h (heads ms) ≡ true → position_or_len begins ms < length ms
  first_within [] there = absurd (false≢true there)
  first_within (x ∷ xs) there = of_first (first_within xs) (head_of x == h) refl
    where
      of_first : (has h (heads xs) ≡ true → position_or_len begins xs < length xs) → (b : Bool) → (head_of x == h) ≡ b → position_or_len begins (x ∷ xs) < length (x ∷ xs)
      of_first rest true same = omega (arith, ap {B = ℕ} (λ b. if not b then 1 + position_or_len begins xs else 0) same)
      of_first rest false other =
          omega (
            arith,
            ap {B = ℕ} (λ b. if not b then 1 + position_or_len begins xs else 0) other,
            rest (ap (λ b. b || has h (heads xs)) (sym other) ∙ there),
          )

  -- it is found if it is among these messages
  pub place_there : (ms : List Message) → has h (heads ms) ≡ true → IsPlacedAt h ms
  place_there ms there = placed_at ms (position_or_len begins ms) (cond-true _ _ _ (lt-ltb _ _ (first_within ms there)))

  -- and otherwise not
  pub place_missing : (ms : List Message) → has h (heads ms) ≡ false → position begins ms ≡ None
  unfolding placed_at
  place_missing ms absent = of_place (position begins ms) refl
    where
      of_place : (o : Option ℕ) → position begins ms ≡ o → o ≡ None
      of_place None none = refl
      of_place (Some k) is = absurd (false≢true (sym absent ∙ has_get (heads ms) k h (placed_at ms k is).at))

-- the last of these and those before it
pub record LastParts (h : ℕ) (ms : List Message) : Type 0 where
  pub pre : List Message
  pub at : Message
  pub is : ms ≡ pre ++ at ∷ []
  pub head : head_of at ≡ h

last_from : (h : ℕ) (x : Message) (xs : List Message) → last_or (Some (head_of x)) (heads xs) ≡ Some h → LastParts h (x ∷ xs)
last_from h x [] is = record { pre = []; at = x; is = refl; head = same_Some _ _ is }
last_from h x (y ∷ ys) is =
    let rest = last_from h y ys is in
    record { pre = x ∷ rest.pre; at = rest.at; is = ap (λ zs. x ∷ zs) rest.is; head = rest.head }

pub last_of : (h : ℕ) (ms : List Message) → last (heads ms) ≡ Some h → LastParts h ms
last_of h [] is = absurd (none-some h is)
last_of h (x ∷ xs) is = last_from h x xs is

-- if there is no last one, there is none
pub last_none : (ms : List Message) → last (heads ms) ≡ None → ms ≡ []
last_none [] none = refl
last_none (x ∷ xs) none = absurd (false≢true (sym (last_some (head_of x) (heads xs)) ∙ ap is_none none))

-- if there is no first one, there is none
pub first_none : (ms : List Message) → first (heads ms) ≡ None → ms ≡ []
first_none [] none = refl
first_none (x ∷ xs) none = absurd (none-some (head_of x) (sym none))

-- the first of these, and those after it
pub record FirstParts (h : ℕ) (ms : List Message) : Type 0 where
  pub at : Message
  pub post : List Message
  pub is : ms ≡ at ∷ post
  pub head : head_of at ≡ h

pub first_of : (h : ℕ) (ms : List Message) → first (heads ms) ≡ Some h → FirstParts h ms
first_of h [] is = absurd (none-some h is)
first_of h (x ∷ xs) is = record { at = x; post = xs; is = refl; head = same_Some _ _ is }

-- none is before the first one
pub before_first : (h : ℕ) (xs : List ℕ) → first xs ≡ Some h → before h xs ≡ None
before_first h [] is = absurd (none-some h is)
before_first h (x ∷ xs) is = cond-true _ _ _ (eq-eqb x h (same_Some _ _ is))

-- a message of a shelf is on one
pub on_some_shelf : (a : Arena) (s h : ℕ) → is_on a s h ≡ true → is_some (shelf_of a h) ≡ true
on_some_shelf a s h there = shelf_of-there a s h there

-- the first message after a place is on the shelf
pub first_there : (h : ℕ) (pre post : List Message) → first (heads post) ≡ Some h → has h (heads (pre ++ post)) ≡ true
first_there h pre [] is = absurd (none-some h is)
first_there h pre (x ∷ xs) is = ap (has h) (heads-append pre (x ∷ xs)) ∙ has_right h (heads pre) (heads (x ∷ xs)) (has_head (head_of x) h (heads xs) (same_Some _ _ is))

-- and so is the last one ahead of it
pub last_there : (h : ℕ) (pre post : List Message) → last (heads pre) ≡ Some h → has h (heads (pre ++ post)) ≡ true
last_there h pre post is = grind (arith, common_steps, heads-append, has_left, last_has, eq-eqb)

-- and so is a message at the place
pub at_there : (h : ℕ) (pre post : List Message) (x : Message) → head_of x ≡ h → has h (heads (pre ++ x ∷ post)) ≡ true
at_there h pre post x same = first_there h pre (x ∷ post) (ap Some same)

-- the first message from place k on is the one at k
pub first_at : (ms : List Message) (k : ℕ) → first (heads (drop k ms)) ≡ slice_get (heads ms) k
first_at [] zero = refl
first_at [] (suc k) = refl
first_at (x ∷ xs) zero = refl
first_at (x ∷ xs) (suc k) = first_at xs k

module _ (pre post : List Message) (x : Message) (apart : IsApart (heads (pre ++ x ∷ post))) where
  -- no other message has its head
  pub no_other : (has (head_of x) (heads pre) ≡ false) × (has (head_of x) (heads post) ≡ false)
  no_other = absent_around (heads pre) (heads post) (head_of x) (subst IsApart (heads-append pre (x ∷ post)) apart)

  pub after-head : after (head_of x) (heads (pre ++ x ∷ post)) ≡ first (heads post)
  after-head = ap (after (head_of x)) (heads-append pre (x ∷ post)) ∙ after-at (heads pre) (heads post) (head_of x) no_other.0

  pub before-head : before (head_of x) (heads (pre ++ x ∷ post)) ≡ last (heads pre)
  before-head = ap (before (head_of x)) (heads-append pre (x ∷ post)) ∙ before-at (heads pre) (heads post) (head_of x) no_other.0

-- no message is after the last one
pub after_last : (h : ℕ) (ms : List Message) → IsApart (heads ms) → last (heads ms) ≡ Some h → after h (heads ms) ≡ None
after_last h ms apart is =
    let parts = last_of h ms is in
    (λ i. after (sym parts.head i) (heads (parts.is i))) ∙ after-head parts.pre [] parts.at (subst (λ xs. IsApart (heads xs)) parts.is apart)

-- ---- one joins

placed-here : (m x : Message) (pre post : List Message) → has (head_of x) (heads pre) ≡ false → put_before_head head_of (Some (head_of x)) m (pre ++ x ∷ post) ≡ pre ++ m ∷ x ∷ post
placed-here m x [] post absent = cond-true _ _ _ (eq-eqb (head_of x) (head_of x) refl)
placed-here m x (y ∷ pre) post absent =
    let off = absent_parts (head_of y) (head_of x) (heads pre) absent in
    cond-false _ _ _ (ne_eqb (head_of y) (head_of x) off.0) ∙ ap (λ ys. y ∷ ys) (placed-here m x pre post off.1)

-- put before the first message after a place, or last, a message is at that place
pub placed-between : (m : Message) (pre post : List Message) → IsApart (heads (pre ++ post)) → put_before_head head_of (first (heads post)) m (pre ++ post) ≡ pre ++ m ∷ post
placed-between m pre [] apart = ap (λ ys. ys ++ m ∷ []) (append-nil pre)
placed-between m pre (x ∷ post) apart = placed-here m x pre post (no_other pre post x apart).0

-- ---- one leaves

none_with : (h : ℕ) (ms : List Message) → has h (heads ms) ≡ false → filter (λ m. head_of m == h) ms ≡ []
none_with h [] absent = refl
none_with h (x ∷ xs) absent =
    let off = absent_parts (head_of x) h (heads xs) absent in
    cond-false _ _ _ (ne_eqb (head_of x) h off.0) ∙ none_with h xs off.1

all_without : (h : ℕ) (ms : List Message) → has h (heads ms) ≡ false → without_head head_of h ms ≡ ms
all_without h [] absent = refl
all_without h (x ∷ xs) absent =
    let off = absent_parts (head_of x) h (heads xs) absent in
    cond-true _ _ _ (not_from_false _ (ne_eqb (head_of x) h off.0)) ∙ ap (λ ys. x ∷ ys) (all_without h xs off.1)

module _ (x : Message) (post : List Message) (behind : has (head_of x) (heads post) ≡ false) where
  alone : (pre : List Message) → has (head_of x) (heads pre) ≡ false → filter (λ m. head_of m == head_of x) (pre ++ x ∷ post) ≡ x ∷ []
  alone [] absent = cond-true _ _ _ (eq-eqb (head_of x) (head_of x) refl) ∙ ap (λ ys. x ∷ ys) (none_with (head_of x) post behind)
  alone (y ∷ pre) absent =
      let off = absent_parts (head_of y) (head_of x) (heads pre) absent in
      cond-false _ _ _ (ne_eqb (head_of y) (head_of x) off.0) ∙ alone pre off.1

  others : (pre : List Message) → has (head_of x) (heads pre) ≡ false → without_head head_of (head_of x) (pre ++ x ∷ post) ≡ pre ++ post
  others [] absent = cond-false _ _ _ (not_from_true _ (eq-eqb (head_of x) (head_of x) refl)) ∙ all_without (head_of x) post behind
  others (y ∷ pre) absent =
      let off = absent_parts (head_of y) (head_of x) (heads pre) absent in
      cond-true _ _ _ (not_from_false _ (ne_eqb (head_of y) (head_of x) off.0)) ∙ ap (λ ys. y ∷ ys) (others pre off.1)

module _ (pre post : List Message) (x : Message) (apart : IsApart (heads (pre ++ x ∷ post))) where
  -- it alone has its head
  pub with-at : filter (λ m. head_of m == head_of x) (pre ++ x ∷ post) ≡ x ∷ []
  with-at = let off = no_other pre post x apart in alone x post off.1 pre off.0

  -- the others are left
  pub without-at : without_head head_of (head_of x) (pre ++ x ∷ post) ≡ pre ++ post
  without-at = let off = no_other pre post x apart in others x post off.1 pre off.0

-- the message between these leaves its shelf and is held
pub unshelved : (a : Arena) (q : ℕ) (pre post : List Message) (x : Message) → shelf_at a q ≡ pre ++ x ∷ post → IsApart (heads_at a q) → unshelve q (head_of x) a ≡ with_held x (with_shelf q (pre ++ post) a)
unshelved a q pre post x is apart =
    let here = subst (λ ms. IsApart (heads ms)) is apart in
    λ i. let b : Arena = record a {
      held = set a.held (head_of x) (slice_get ((ap (λ ms. filter (λ m. head_of m == head_of x) ms) is ∙ with-at pre post x here) i) 0);
      shelves = set a.shelves q ((ap (without_head head_of (head_of x)) is ∙ without-at pre post x here) i);
    } in b

-- ---- a message on one shelf is the only one on all shelves with its head

-- messages with this head
abbrev begun : ℕ → List Message → List Message
begun h ms = filter (λ m. head_of m == h) ms

-- no shelf has an empty message
abbrev AreSome : List (List Message) → Type 0
AreSome shelves = (s : ℕ) → All (λ m. 0 < length m) (get_or shelves s [])

-- how often these shelves have a block of a number
abbrev times_on : ℕ → List (List Message) → ℕ
times_on h shelves = count_by (number_is h) (blocks_on shelves)

none_on : (h : ℕ) (shelves : List (List Message)) → AreSome shelves → times_on h shelves ≡ 0 → begun h (flat_map (λ ms. ms) shelves) ≡ []
none_on h [] some none = refl
none_on h (ms ∷ shelves) some none =
    let both = (count_adds (number_is h)).both (flat_map (λ m. m) ms) (blocks_on shelves) in
    filter-append _ ms (flat_map (λ xs. xs) shelves)
    ∙ ap (λ ys. ys ++ begun h (flat_map (λ xs. xs) shelves)) (none_begins h ms (some 0) (omega (arith, both, none)))
    ∙ none_on h shelves (λ s. some (suc s)) (omega (arith, both, none))

-- if a message of a list begins with the number, its blocks have it
begun_counts : (h : ℕ) (m : Message) (ms : List Message) → begun h ms ≡ m ∷ [] → 0 < length m → head_of m ≡ h → 0 < count_by (number_is h) (flat_map (λ x. x) ms)
begun_counts h m ms is some same =
    omega (
      arith,
      parted_adds (count_adds (number_is h)) h ms,
      ap (λ xs. count_by (number_is h) (flat_map (λ x. x) xs)) is,
      (count_adds (number_is h)).both m [],
      head_counts m h some same,
    )

begun_on : (h : ℕ) (shelves : List (List Message)) (q : ℕ) (m : Message) → begun h (get_or shelves q []) ≡ m ∷ [] → 0 < length m → head_of m ≡ h → 0 < times_on h shelves
begun_on h [] q m is some same = absurd (cc)
begun_on h (ms ∷ shelves) zero m is some same =
    omega (arith, (count_adds (number_is h)).both (flat_map (λ x. x) ms) (blocks_on shelves), begun_counts h m ms is some same)
begun_on h (ms ∷ shelves) (suc q) m is some same =
    omega (arith, (count_adds (number_is h)).both (flat_map (λ x. x) ms) (blocks_on shelves), begun_on h shelves q m is some same)

across : (h : ℕ) (shelves : List (List Message)) (q : ℕ) (m : Message) → AreSome shelves → times_on h shelves ≤ 1 → begun h (get_or shelves q []) ≡ m ∷ [] → 0 < length m → head_of m ≡ h
    → begun h (flat_map (λ ms. ms) shelves) ≡ m ∷ []
across h [] q m all once is some same = absurd (cc)
across h (ms ∷ shelves) zero m all once is some same =
    let both = (count_adds (number_is h)).both (flat_map (λ x. x) ms) (blocks_on shelves) in
    filter-append _ ms (flat_map (λ xs. xs) shelves)
    ∙ ap (λ ys. ys ++ begun h (flat_map (λ xs. xs) shelves)) is
    ∙ ap (λ ys. m ∷ ys) (none_on h shelves (λ s. all (suc s)) (omega (arith, both, once, begun_counts h m ms is some same)))
across h (ms ∷ shelves) (suc q) m all once is some same =
    let both = (count_adds (number_is h)).both (flat_map (λ x. x) ms) (blocks_on shelves) in
    filter-append _ ms (flat_map (λ xs. xs) shelves)
    ∙ ap (λ ys. ys ++ begun h (flat_map (λ xs. xs) shelves)) (none_begins h ms (all 0) (omega (arith, both, once, begun_on h shelves q m is some same)))
    ∙ across h shelves q m (λ s. all (suc s)) (omega (arith, both, once)) is some same

-- two shelves have no more of them than all
on_count : (h : ℕ) (shelves : List (List Message)) (q : ℕ) → count_by (number_is h) (flat_map (λ x. x) (get_or shelves q [])) ≤ times_on h shelves
on_count h [] q = omega arith
on_count h (ms ∷ shelves) zero = omega (arith, (count_adds (number_is h)).both (flat_map (λ x. x) ms) (blocks_on shelves))
on_count h (ms ∷ shelves) (suc q) = omega (arith, (count_adds (number_is h)).both (flat_map (λ x. x) ms) (blocks_on shelves), on_count h shelves q)

two_on : (h : ℕ) (shelves : List (List Message)) (p q : ℕ) → p ≢ q
    → count_by (number_is h) (flat_map (λ x. x) (get_or shelves p [])) + count_by (number_is h) (flat_map (λ x. x) (get_or shelves q [])) ≤ times_on h shelves
two_on h [] p q other = omega arith
two_on h (ms ∷ shelves) zero zero other = absurd (other refl)
two_on h (ms ∷ shelves) zero (suc q) other = omega (arith, (count_adds (number_is h)).both (flat_map (λ x. x) ms) (blocks_on shelves), on_count h shelves q)
two_on h (ms ∷ shelves) (suc p) zero other = omega (arith, (count_adds (number_is h)).both (flat_map (λ x. x) ms) (blocks_on shelves), on_count h shelves p)
two_on h (ms ∷ shelves) (suc p) (suc q) other =
    omega (arith, (count_adds (number_is h)).both (flat_map (λ x. x) ms) (blocks_on shelves), two_on h shelves p q (λ same. other (ap suc same)))

module _ (a : Arena) (parted : IsParted a) where
  once_on : (h : ℕ) → times_on h a.shelves ≤ 1
  once_on h = omega (arith, blocks_in_adds (count_adds (number_is h)) a, parted.chains.once h, times-all h a, one_most (nat_lt h (length a.held)))

  module _ (q : ℕ) (pre post : List Message) (m : Message) (is : shelf_at a q ≡ pre ++ m ∷ post) where
    pub apart_here : IsApart (heads (pre ++ m ∷ post))
    apart_here = subst (λ ms. IsApart (heads ms)) is (heads_apart a parted q)

    -- a message of a shelf has a block
    pub some_here : 0 < length m
    some_here = at pre post (subst (All (λ x. 0 < length x)) is (parted.chains.shelved q))
      where
        at : (pre post : List Message) → All (λ x. 0 < length x) (pre ++ m ∷ post) → 0 < length m
        at [] post some = some 0 m (omega arith)
        at (x ∷ pre) post some = at pre post (λ k d within. some (suc k) d (omega (arith, within)))

    -- it is the message with its head
    pub shelved_message_at : shelved_message a (head_of m) ≡ m
    shelved_message_at =
        ap (λ ms. blocks_of (slice_get ms 0))
        (across (head_of m) a.shelves q m parted.chains.shelved (once_on (head_of m)) (ap (begun (head_of m)) is ∙ with-at pre post m apart_here) some_here refl)

-- a list at one of its places
pub split_there : {X : Type 0} (xs : List X) (k : ℕ) (x : X) → slice_get xs k ≡ Some x → xs ≡ take k xs ++ x ∷ drop (k + 1) xs
split_there xs k x is = sym (take-append-drop k xs) ∙ ap (λ ys. take k xs ++ ys) (drop_from xs k x is)

-- the message at a place of a shelf, by its head
pub message_at_place : (a : Arena) → IsParted a → (q k h : ℕ) → slice_get (heads_at a q) k ≡ Some h → slice_get (shelf_at a q) k ≡ Some (shelved_message a h)
message_at_place a parted q k h is = of_place (slice_get (shelf_at a q) k) refl
  where
    seen : slice_get (heads_at a q) k ≡ option_map head_of (slice_get (shelf_at a q) k)
    seen = slice_get-map head_of (shelf_at a q) k

    of_place : (o : Option Message) → slice_get (shelf_at a q) k ≡ o → o ≡ Some (shelved_message a h)
    of_place None none = absurd (none-some h (sym (seen ∙ ap (option_map head_of) none) ∙ is))
    of_place (Some m) some =
        let same : head_of m ≡ h = same_Some (head_of m) h (sym (seen ∙ ap (option_map head_of) some) ∙ is) in
        ap Some (sym (shelved_message_at a parted q (take k (shelf_at a q)) (drop (k + 1) (shelf_at a q)) m (split_there (shelf_at a q) k m some)) ∙ ap (shelved_message a) same)

-- there is none where there is no head
pub no_message_at_place : (a : Arena) (q k : ℕ) → slice_get (heads_at a q) k ≡ None → slice_get (shelf_at a q) k ≡ None
no_message_at_place a q k is = of_place (slice_get (shelf_at a q) k) refl
  where
    of_place : (o : Option Message) → slice_get (shelf_at a q) k ≡ o → o ≡ None
    of_place None none = refl
    of_place (Some m) some = absurd (none-some (head_of m) (sym is ∙ slice_get-map head_of (shelf_at a q) k ∙ ap (option_map head_of) some))

-- ---- what a message with a head is like

first_passes : {X : Type 0} (p : X → Bool) (xs : List X) (m : X) → slice_get (filter p xs) 0 ≡ Some m → p m ≡ true
first_passes {X} p xs m is = of_list (filter p xs) (filter_passes p xs) is
  where
    of_list : (ys : List X) → All (λ x. p x ≡ true) ys → slice_get ys 0 ≡ Some m → p m ≡ true
    of_list [] all at = absurd (none-some m at)
    of_list (y ∷ ys) all at = subst (λ x. p x ≡ true) (same_Some y m at) (all 0 y (omega arith))

-- a message that is found by its head has it
begins_with_head : (h : ℕ) (o : Option Message) (ms : List Message) → slice_get (filter (λ m. head_of m == h) ms) 0 ≡ o → (b : Block) (bs : Message) → blocks_of o ≡ b ∷ bs → b.number ≡ h
begins_with_head h None ms is b bs none = absurd cc
begins_with_head h (Some m) ms is b bs some = sym (ap head_of some) ∙ eqb-true (head_of m) h (first_passes (λ m. head_of m == h) ms m is)

pub info_told : (a : Arena) (h : ℕ) (kind : MsgType) (band size blocks : ℕ) → option_map (kind_of a.store) (head_block a h) ≡ Some kind → option_map (λ (b : Block). b.band) (head_block a h) ≡ Some band
    → size ≡ size_of (shelved_message a h) → blocks ≡ length (shelved_message a h) → info_of_message a.store (shelved_message a h) ≡ Ok (record { head = h; kind = kind; band = band; size = size; blocks = blocks })
info_told a h kind band size blocks kinds bands sizes lengths = of_message (shelved_message a h) refl
  where
    of_message : (m : Message) → shelved_message a h ≡ m → info_of_message a.store m ≡ Ok (record { head = h; kind = kind; band = band; size = size; blocks = blocks })
    of_message [] none = absurd (none-some kind (sym (ap (λ (m : Message). option_map (kind_of a.store) (slice_get m 0)) none) ∙ kinds))
    of_message (b ∷ bs) some =
        let number = begins_with_head h (with_head head_of h (flat_map (λ ms. ms) a.shelves)) (flat_map (λ ms. ms) a.shelves) refl b bs some in
        let kind_is = same_Some (kind_of a.store b) kind (sym (ap (λ (m : Message). option_map (kind_of a.store) (slice_get m 0)) some) ∙ kinds) in
        let band_is = same_Some b.band band (sym (ap (λ (m : Message). option_map (λ (c : Block). c.band) (slice_get m 0)) some) ∙ bands) in
        let size_is = sym (sizes ∙ ap size_of some) in
        let length_is = sym (lengths ∙ ap length some) in
        λ i. Ok (record { head = number i; kind = kind_is i; band = band_is i; size = size_is i; blocks = length_is i })

-- ---- the shelf that has a message

module _ (a : Arena) (h q : ℕ) (is : shelf_of a h ≡ Some q) where
  pub shelf_there : q < length a.shelves
  shelf_there = (position-Some (λ ms. has h (map head_of ms)) a.shelves q [] is).0

  -- it has the message's head
  pub shelf_has : is_on a q h ≡ true
  shelf_has = (position-Some (λ ms. has h (map head_of ms)) a.shelves q [] is).1

module _ (a : Arena) (parted : IsParted a) (h : ℕ) where
  -- a shelf that has the message has a block with its number
  counted_on : (q : ℕ) → is_on a q h ≡ true → 0 < count_by (number_is h) (flat_map (λ x. x) (shelf_at a q))
  counted_on q there =
      let parts = parts_of h (shelf_at a q) there in
      begun_counts h parts.at (shelf_at a q)
      (ap (begun h) parts.is ∙ subst (λ n. begun n (parts.pre ++ parts.at ∷ parts.post) ≡ parts.at ∷ []) parts.head (with-at parts.pre parts.post parts.at (apart_here a parted q parts.pre parts.post parts.at parts.is)))
      (some_here a parted q parts.pre parts.post parts.at parts.is) parts.head

  -- so no other shelf has it
  pub shelf_alone : (q : ℕ) → is_on a q h ≡ true → shelf_of a h ≡ Some q
  shelf_alone q there = of_shelf (shelf_of a h) refl (shelf_of-there a q h there)
    where
      of_shelf : (o : Option ℕ) → shelf_of a h ≡ o → is_some (shelf_of a h) ≡ true → shelf_of a h ≡ Some q
      of_shelf None none some = absurd (false≢true (sym (ap is_some none) ∙ some))
      of_shelf (Some p) is some =
          elim (cases_eq p q) [
            | inl same ↦ is ∙ ap Some same
            | inr other ↦ absurd (omega (arith, once_on a parted h, two_on h a.shelves p q other, counted_on p (shelf_has a h p is), counted_on q there))
          ]

  -- the shelf that has it says whether another one does
  pub shelf_asked : (q p : ℕ) → shelf_of a h ≡ Some p → (p == q) ≡ is_on a q h
  shelf_asked q p is =
      elim (cases_Bool (is_on a q h)) [
        | inl there ↦ eq-eqb p q (same_Some p q (sym is ∙ shelf_alone q there)) ∙ sym there
        | inr not ↦ ne_eqb p q (λ same. false≢true (sym not ∙ ap (λ n. is_on a n h) (sym same) ∙ shelf_has a h p is)) ∙ sym not
      ]

  pub shelf_absent : (q : ℕ) → shelf_of a h ≡ None → false ≡ is_on a q h
  shelf_absent q none =
      elim (cases_Bool (is_on a q h)) [
        | inl there ↦ absurd (none-some q (sym none ∙ shelf_alone q there))
        | inr not ↦ sym not
      ]

-- what is found on it, such as the message behind or before one
pub found_on_shelf : (a : Arena) (h : ℕ) → is_some (shelf_of a h) ≡ true → (find : List ℕ → Option ℕ) (found : Option ℕ) → ((q : ℕ) → is_on a q h ≡ true → found ≡ find (heads_at a q))
    → answer_map (λ q. find (heads_at a q)) (ok_or (shelf_of a h) NoSuchPlace) ≡ Ok found
found_on_shelf a h some find found told = of_shelf (shelf_of a h) refl some
  where
    of_shelf : (o : Option ℕ) → shelf_of a h ≡ o → is_some o ≡ true → answer_map (λ q. find (heads_at a q)) (ok_or o NoSuchPlace) ≡ Ok found
    of_shelf None none some = absurd (false≢true some)
    of_shelf (Some q) is some = ap Ok (sym (told q (shelf_has a h q is)))
