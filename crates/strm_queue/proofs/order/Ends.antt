-- The first and the last message of each rank, when a message joins ordered messages or leaves them.
use Rattle.std.proofs.Common.{◌≡◌, ◌≢◌, ◌⊎◌, ℕ, ◌<◌, Bool, true, false, ◌==◌, List, [], ◌∷◌, ◌++◌, Option, Some, None, refl, sym, ap, ◌∙◌, subst, inl, inr, arith}
use Rattle.std.proofs.lemmas.Grind.{common_steps}
use Rattle.std.specs.Prelude.{nat_le, cond, is_some, if◌then◌else◌}
use Rattle.std.specs.List.{list_all, list_any}
use Rattle.std.specs.Option.{option_or}
use Rattle.std.proofs.lemmas.Bool.{and_parts, cases_Bool, cases_eq, cond-true, cond-false, eq-eqb, false≢true, le-leb, leb-true, lt-leb, ne_eqb, or_parts}
use Rattle.std.proofs.lemmas.List.{append-nil, append_assoc, map-append}
use Rattle.std.proofs.lemmas.List.Elements.{filter-append}
use Rattle.std.proofs.lemmas.Option.{none-some, same_Some}
use Rattle.strm_links.specs.Rows.{IsApart, first, has, is_some_of, last, last_or}
use Rattle.strm_links.proofs.lists.OneList.{ApartParts, IsApart-parts, absent_parts, differ, first_has, has_cases, has_head, has_tail, is_some_of-same, last_has, last_or-append}
use Rattle.strm_mblk.specs.Block.{Message, head_of}
use Rattle.strm_queue.specs.Ends.{first_of_rank, last_of_rank, of_rank}
use Rattle.strm_queue.specs.Rank.{is_ordered, put_behind}
use Rattle.strm_queue.specs.Tallies.{end_after_joining, end_after_leaving}
use Rattle.strm_queue.proofs.Shelf.{first_none, heads, last_none, last_of}
use Rattle.strm_queue.proofs.order.Order.{around, ordered_last}

-- ---- the ends of messages in two parts

-- the first message is that of the first part, if it has one
first_or_other : (pre post : List Message) → first (heads (pre ++ post)) ≡ option_or (first (heads pre)) (first (heads post))
first_or_other [] post = refl
first_or_other (x ∷ pre) post = refl

last_or_some : (k : ℕ) (xs : List ℕ) (o : Option ℕ) → last_or (Some k) xs ≡ option_or (last_or (Some k) xs) o
last_or_some k [] o = refl
last_or_some k (x ∷ xs) o = last_or_some x xs o

last_or_is : (o : Option ℕ) (xs : List ℕ) → last_or o xs ≡ option_or (last xs) o
last_or_is o [] = refl
last_or_is o (x ∷ xs) = last_or_some x xs o

-- the last message is that of the second part, if it has one
last_or_other : (pre post : List Message) → last (heads (pre ++ post)) ≡ option_or (last (heads post)) (last (heads pre))
last_or_other pre post = ap last (map-append head_of pre post) ∙ last_or-append None (heads pre) (heads post) ∙ last_or_is (last (heads pre)) (heads post)

-- if neither is chosen, both are none
or_none : (o p : Option ℕ) → option_or o p ≡ None → (o ≡ None) × (p ≡ None)
or_none None p none = (refl, none)
or_none (Some h) p none = absurd (none-some h (sym none))

-- ---- one end of a rank, the first or the last, once a message of that rank has joined or left

-- Message n is put among messages of its rank. `near` is the end of those on one side of it, `far` of those on the other.
-- `next` is its neighbour on the far side. The end of the rank is `rest` without n, and `whole` with n.
record IsEnd (n : ℕ) (near far next rest whole : Option ℕ) : Type 0 where
  pub rest_is : rest ≡ option_or near far
  pub whole_is : whole ≡ option_or near (Some n)
  pub far_is : (far ≡ None) ⊎ (far ≡ next)
  pub apart : (h : ℕ) → near ≡ Some h → (next ≢ Some h) × (n ≢ h)

-- an option that is not Some k
not_some : (k : ℕ) (o : Option ℕ) → o ≢ Some k → is_some_of k o ≡ false
not_some k None other = refl
not_some k (Some x) other = ne_eqb x k (λ same. other (ap Some same))

-- a message that joins beside the end is the new end
joined_beside : (n : ℕ) (next : Option ℕ) → end_after_joining next next n ≡ Some n
joined_beside n None = refl
joined_beside n (Some h) = cond-true _ _ _ (eq-eqb h h refl)

module _ (n : ℕ) (far next rest whole : Option ℕ) where
  -- the end once n has joined
  joined_is : (near : Option ℕ) → IsEnd n near far next rest whole → end_after_joining rest next n ≡ whole
  joined_is None e =
      ap (λ o. end_after_joining o next n) e.rest_is
      ∙ elim e.far_is [ inl none ↦ ap (λ o. end_after_joining o next n) none | inr beyond ↦ ap (λ o. end_after_joining o next n) beyond ∙ joined_beside n next ]
      ∙ sym e.whole_is
  joined_is (Some h) e = ap (λ o. end_after_joining o next n) e.rest_is ∙ cond-false _ _ _ (not_some h next (e.apart h refl).0) ∙ sym e.whole_is

  -- if n is the end, no message is on the near side
  left_near : (near : Option ℕ) → IsEnd n near far next rest whole → whole ≡ Some n → near ≡ None
  left_near None e here = refl
  left_near (Some h) e here = absurd ((e.apart h refl).1 (same_Some n h (sym here ∙ e.whole_is)))

  -- the end once n has left; the other end says whether n was alone
  module _ (other : Option ℕ) where
    left_alone : (near : Option ℕ) → other ≡ option_or near (Some n) → ((h : ℕ) → near ≡ Some h → n ≢ h) → (far ≡ None → near ≡ None) → (near ≡ None → far ≡ None) → (far ≡ None) ⊎ (far ≡ next)
        → (if is_some_of n other then None else next) ≡ far
    left_alone None is apart to from far_is = cond-true _ _ _ (is_some_of-same n other is) ∙ sym (from refl)
    left_alone (Some h) is apart to from far_is =
        cond-false _ _ _ (not_some n other (λ same. apart h refl (same_Some n h (sym same ∙ is))))
        ∙ elim far_is [ inl none ↦ absurd (none-some h (sym (to none))) | inr beyond ↦ sym beyond ]

    left_is : (near near_other : Option ℕ) → IsEnd n near far next rest whole → other ≡ option_or near_other (Some n) → ((h : ℕ) → near_other ≡ Some h → n ≢ h) → (far ≡ None → near_other ≡ None)
        → (near_other ≡ None → far ≡ None) → end_after_leaving whole other next n ≡ rest
    left_is None near_other e is apart to from =
        cond-true _ _ _ (is_some_of-same n whole e.whole_is) ∙ left_alone near_other is apart to from e.far_is ∙ sym e.rest_is
    left_is (Some h) near_other e is apart to from =
        cond-false _ _ _ (not_some n whole (λ same. (e.apart h refl).1 (same_Some n h (sym same ∙ e.whole_is)))) ∙ e.whole_is ∙ sym e.rest_is

module _ (rank : Message → ℕ) where
  -- ---- the messages of a rank

  -- a message of another rank changes nothing
  pub of_rank-other : (x : ℕ) (pre post : List Message) (m : Message) → x ≢ rank m → of_rank rank x (pre ++ m ∷ post) ≡ of_rank rank x (pre ++ post)
  of_rank-other x [] post m other = cond-false _ _ _ (ne_eqb (rank m) x (λ same. other (sym same)))
  of_rank-other x (y ∷ pre) post m other = ap (λ ms. cond (rank y == x) (y ∷ ms) ms) (of_rank-other x pre post m other)

  of_rank-here : (m : Message) (post : List Message) → of_rank rank (rank m) (m ∷ post) ≡ m ∷ of_rank rank (rank m) post
  of_rank-here m post = cond-true _ _ _ (eq-eqb (rank m) (rank m) refl)

  pub of_rank-append : (r : ℕ) (pre post : List Message) → of_rank rank r (pre ++ post) ≡ of_rank rank r pre ++ of_rank rank r post
  of_rank-append r pre post = filter-append (λ m. rank m == r) pre post

  of_rank-at : (pre post : List Message) (m : Message) → of_rank rank (rank m) (pre ++ m ∷ post) ≡ of_rank rank (rank m) pre ++ m ∷ of_rank rank (rank m) post
  of_rank-at pre post m = of_rank-append (rank m) pre (m ∷ post) ∙ ap (λ ms. of_rank rank (rank m) pre ++ ms) (of_rank-here m post)

  -- the first message of a rank in two parts, and with one of that rank between them
  first_of_rank-append : (r : ℕ) (pre post : List Message) → first_of_rank rank r (pre ++ post) ≡ option_or (first_of_rank rank r pre) (first_of_rank rank r post)
  first_of_rank-append r pre post = ap (λ ms. first (heads ms)) (of_rank-append r pre post) ∙ first_or_other (of_rank rank r pre) (of_rank rank r post)

  first_of_rank-at : (pre post : List Message) (m : Message) → first_of_rank rank (rank m) (pre ++ m ∷ post) ≡ option_or (first_of_rank rank (rank m) pre) (Some (head_of m))
  first_of_rank-at pre post m = ap (λ ms. first (heads ms)) (of_rank-at pre post m) ∙ first_or_other (of_rank rank (rank m) pre) (m ∷ of_rank rank (rank m) post)

  -- so there is a first one
  pub first_of_rank-some : (pre post : List Message) (m : Message) → first_of_rank rank (rank m) (pre ++ m ∷ post) ≢ None
  first_of_rank-some pre post m none = grind (arith, common_steps, none-some, first_of_rank-at)

  -- if there is no first of a rank, neither part has one
  pub first_of_rank-parts : (r : ℕ) (pre post : List Message) → first_of_rank rank r (pre ++ post) ≡ None → (first_of_rank rank r pre ≡ None) × (first_of_rank rank r post ≡ None)
  first_of_rank-parts r pre post none = or_none (first_of_rank rank r pre) (first_of_rank rank r post) (sym (first_of_rank-append r pre post) ∙ none)

  -- and there is no last
  pub last_of_rank-none : (r : ℕ) (ms : List Message) → first_of_rank rank r ms ≡ None → last_of_rank rank r ms ≡ None
  last_of_rank-none r ms none = ap (λ xs. last (heads xs)) (first_none (of_rank rank r ms) none)

  -- if there is no last, there is no first
  pub first_of_rank-none : (r : ℕ) (ms : List Message) → last_of_rank rank r ms ≡ None → first_of_rank rank r ms ≡ None
  first_of_rank-none r ms none = ap (λ xs. first (heads xs)) (last_none (of_rank rank r ms) none)

  -- a head of a message of the rank is a head of a message
  pub has_of_rank : (h r : ℕ) (ms : List Message) → has h (heads (of_rank rank r ms)) ≡ true → has h (heads ms) ≡ true
  has_of_rank h r [] there = there
  has_of_rank h r (x ∷ xs) there = by_rank (rank x == r) (has_of_rank h r xs) there
    where
      by_rank : (here : Bool) → (has h (heads (of_rank rank r xs)) ≡ true → has h (heads xs) ≡ true) → has h (heads (if here then x ∷ of_rank rank r xs else of_rank rank r xs)) ≡ true → has h (heads (x ∷ xs)) ≡ true
      by_rank true rest there =
          elim (has_cases (head_of x) h (heads (of_rank rank r xs)) there) [
            | inl same ↦ has_head (head_of x) h (heads xs) same
            | inr later ↦ has_tail (head_of x) h (heads xs) (rest later)
          ]
      by_rank false rest there = has_tail (head_of x) h (heads xs) (rest there)

  -- so are the heads of the first and the last
  pub first_of_rank-has : (h r : ℕ) (ms : List Message) → first_of_rank rank r ms ≡ Some h → has h (heads ms) ≡ true
  first_of_rank-has h r ms is = has_of_rank h r ms (first_has (heads (of_rank rank r ms)) h (is_some_of-same h _ is))

  pub last_of_rank-has : (h r : ℕ) (ms : List Message) → last_of_rank rank r ms ≡ Some h → has h (heads ms) ≡ true
  last_of_rank-has h r ms is = has_of_rank h r ms (last_has (heads (of_rank rank r ms)) h (is_some_of-same h _ is))

  -- ---- a message goes after its equals

  -- a last message of the rank is the last one also with another message ahead
  last_beyond : (r h : ℕ) (x : Message) (ms : List Message) → last_of_rank rank r ms ≡ Some h → last_of_rank rank r (x ∷ ms) ≡ Some h
  last_beyond r h x ms is =
      ap (λ ys. last (heads ys)) (of_rank-append r (x ∷ []) ms) ∙ last_or_other (of_rank rank r (x ∷ [])) (of_rank rank r ms) ∙ ap (λ o. option_or o (last (heads (of_rank rank r (x ∷ []))))) is

  -- where all are of lower rank, none has the rank
  of_rank-below : (r : ℕ) (ms : List Message) → list_any (λ y. nat_le r (rank y)) ms ≡ false → of_rank rank r ms ≡ []
  of_rank-below r [] below = refl
  of_rank-below r (y ∷ ys) below =
      let parts = or_parts (nat_le r (rank y)) (list_any (λ z. nat_le r (rank z)) ys) below in
      cond-false _ _ _ (ne_eqb (rank y) r (λ same. false≢true (sym parts.0 ∙ le-leb r (rank y) (omega (arith, same))))) ∙ of_rank-below r ys parts.1

  -- if the rank has messages, its first one stays
  pub first_put : (m : Message) (ms : List Message) → first_of_rank rank (rank m) ms ≢ None → first_of_rank rank (rank m) (put_behind rank m ms) ≡ first_of_rank rank (rank m) ms
  first_put m [] some = absurd (some refl)
  first_put m (x ∷ xs) some =
      elim (cases_Bool (list_any (λ y. nat_le (rank m) (rank y)) (x ∷ xs))) [
        | inl more ↦
            ap (first_of_rank rank (rank m)) (cond-true _ (x ∷ put_behind rank m xs) (m ∷ x ∷ xs) more)
            ∙ elim (cases_eq (rank x) (rank m)) [
              | inl same ↦
                  let here = eq-eqb (rank x) (rank m) same in
                  ap (λ ys. first (heads ys)) (cond-true _ (x ∷ of_rank rank (rank m) (put_behind rank m xs)) (of_rank rank (rank m) (put_behind rank m xs)) here)
                  ∙ sym (ap (λ ys. first (heads ys)) (cond-true _ (x ∷ of_rank rank (rank m) xs) (of_rank rank (rank m) xs) here))
              | inr other ↦
                  let past = ne_eqb (rank x) (rank m) other in
                  let rest : first_of_rank rank (rank m) (x ∷ xs) ≡ first_of_rank rank (rank m) xs = ap (λ ys. first (heads ys)) (cond-false _ (x ∷ of_rank rank (rank m) xs) (of_rank rank (rank m) xs) past) in
                  ap (λ ys. first (heads ys)) (cond-false _ (x ∷ of_rank rank (rank m) (put_behind rank m xs)) (of_rank rank (rank m) (put_behind rank m xs)) past)
                  ∙ first_put m xs (λ none. some (rest ∙ none)) ∙ sym rest
            ]
        | inr none ↦ absurd (some (ap (λ ys. first (heads ys)) (of_rank-below (rank m) (x ∷ xs) none)))
      ]

  -- it is then the last of its rank
  pub last_put : (m : Message) (ms : List Message) → last_of_rank rank (rank m) (put_behind rank m ms) ≡ Some (head_of m)
  last_put m [] = ap (λ ys. last (heads ys)) (of_rank-here m [])
  last_put m (x ∷ xs) =
      elim (cases_Bool (list_any (λ y. nat_le (rank m) (rank y)) (x ∷ xs))) [
        | inl some ↦ ap (last_of_rank rank (rank m)) (cond-true _ (x ∷ put_behind rank m xs) (m ∷ x ∷ xs) some) ∙ last_beyond (rank m) (head_of m) x (put_behind rank m xs) (last_put m xs)
        | inr none ↦
            ap (last_of_rank rank (rank m)) (cond-false _ (x ∷ put_behind rank m xs) (m ∷ x ∷ xs) none)
            ∙ ap (λ ys. last (heads ys)) (of_rank-here m (x ∷ xs) ∙ ap (λ ys. m ∷ ys) (of_rank-below (rank m) (x ∷ xs) none))
      ]

  -- ---- in order

  -- if all ranks pass a test, no message has a rank that does not
  pub of_rank-refused : (test : ℕ → Bool) (r : ℕ) (ms : List Message) → list_all (λ y. test (rank y)) ms ≡ true → test r ≡ false → of_rank rank r ms ≡ []
  of_rank-refused test r [] all off = refl
  of_rank-refused test r (x ∷ xs) all off =
      let parts = and_parts (test (rank x)) (list_all (λ y. test (rank y)) xs) all in
      cond-false _ _ _ (ne_eqb (rank x) r (λ same. false≢true (sym off ∙ ap test (sym same) ∙ parts.0))) ∙ of_rank-refused test r xs parts.1 off

  -- the first message of m's rank after m is m's neighbour, if there is one
  behind_first : (post : List Message) (m : Message) → is_ordered rank (m ∷ post) ≡ true → (first_of_rank rank (rank m) post ≡ None) ⊎ (first_of_rank rank (rank m) post ≡ first (heads post))
  behind_first [] m is = inl refl
  behind_first (y ∷ ys) m is =
      elim (cases_eq (rank y) (rank m)) [
        | inl same ↦ inr (ap (λ ms. first (heads ms)) (cond-true _ (y ∷ of_rank rank (rank m) ys) (of_rank rank (rank m) ys) (eq-eqb (rank y) (rank m) same)))
        | inr other ↦
            let most = and_parts (nat_le (rank y) (rank m)) _ (around rank [] (y ∷ ys) m is).behind in
            let less : rank y < rank m = omega (arith, leb-true (rank y) (rank m) most.0, other) in
            inl
            (ap (λ ms. first (heads ms))
            (of_rank-other (rank m) [] ys y (λ same. other (sym same))
            ∙ of_rank-refused (λ n. nat_le n (rank y)) (rank m) ys (around rank [] ys y (ordered_last rank (m ∷ []) (y ∷ ys) is)).behind (lt-leb (rank m) (rank y) less)))
      ]

  -- and the last one ahead of m is m's neighbour, if there is one
  ahead_last_at : (pre post : List Message) (x m : Message) → is_ordered rank (pre ++ x ∷ m ∷ post) ≡ true
      → (last_of_rank rank (rank m) (pre ++ x ∷ []) ≡ None) ⊎ (last_of_rank rank (rank m) (pre ++ x ∷ []) ≡ last (heads (pre ++ x ∷ [])))
  ahead_last_at pre post x m is =
      elim (cases_eq (rank x) (rank m)) [
        | inl same ↦
            inr
            (ap (λ ms. last (heads ms)) (of_rank-append (rank m) pre (x ∷ []) ∙ ap (λ ms. of_rank rank (rank m) pre ++ ms) (cond-true _ (x ∷ []) [] (eq-eqb (rank x) (rank m) same)))
            ∙ last_or_other (of_rank rank (rank m) pre) (x ∷ []) ∙ sym (last_or_other pre (x ∷ [])))
        | inr other ↦
            let most = and_parts (nat_le (rank m) (rank x)) _ (around rank pre (m ∷ post) x is).behind in
            let more : rank m < rank x = omega (arith, leb-true (rank m) (rank x) most.0, other) in
            inl
            (ap (λ ms. last (heads ms))
            (of_rank-other (rank m) pre [] x (λ same. other (sym same)) ∙ ap (of_rank rank (rank m)) (append-nil pre)
            ∙ of_rank-refused (nat_le (rank x)) (rank m) pre (around rank pre (m ∷ post) x is).ahead (lt-leb (rank x) (rank m) more)))
      ]

  ahead_last : (pre post : List Message) (m : Message) → is_ordered rank (pre ++ m ∷ post) ≡ true → (last_of_rank rank (rank m) pre ≡ None) ⊎ (last_of_rank rank (rank m) pre ≡ last (heads pre))
  ahead_last pre post m is =
      elim (last (heads pre)) as (λ o. last (heads pre) ≡ o → (last_of_rank rank (rank m) pre ≡ None) ⊎ (last_of_rank rank (rank m) pre ≡ last (heads pre))) [
        | None ↦ λ none. inl (ap (last_of_rank rank (rank m)) (last_none pre none))
        | Some h ↦ λ some.
            let parts = last_of h pre some in
            subst (λ ms. (last_of_rank rank (rank m) ms ≡ None) ⊎ (last_of_rank rank (rank m) ms ≡ last (heads ms))) (sym parts.is)
            (ahead_last_at parts.pre post parts.at m
            (ap (is_ordered rank) (sym (append_assoc parts.pre (parts.at ∷ []) (m ∷ post)) ∙ ap (λ ms. ms ++ m ∷ post) (sym parts.is)) ∙ is))
      ] refl

  -- ---- a message joins or leaves

  module _ (pre post : List Message) (m : Message) (ordered : is_ordered rank (pre ++ m ∷ post) ≡ true) (apart : IsApart (heads (pre ++ m ∷ post))) where
    sides : ApartParts (heads pre) (heads (m ∷ post))
    sides = IsApart-parts (heads pre) (heads (m ∷ post)) (subst IsApart (map-append head_of pre (m ∷ post)) apart)

    -- the first message of its rank, without it and with it
    first_end : IsEnd (head_of m) (first_of_rank rank (rank m) pre) (first_of_rank rank (rank m) post) (first (heads post)) (first_of_rank rank (rank m) (pre ++ post)) (first_of_rank rank (rank m) (pre ++ m ∷ post))
    first_end = record {
      rest_is = first_of_rank-append (rank m) pre post;
      whole_is = first_of_rank-at pre post m;
      far_is = behind_first post m (ordered_last rank pre (m ∷ post) ordered);
      apart = λ h near.
          let off = absent_parts (head_of m) h (heads post) (sides.cross h (first_of_rank-has h (rank m) pre near)) in
          (λ beyond. false≢true (sym off.1 ∙ first_has (heads post) h (is_some_of-same h _ beyond)), off.0);
    }

    -- and the last message
    last_end : IsEnd (head_of m) (last_of_rank rank (rank m) post) (last_of_rank rank (rank m) pre) (last (heads pre)) (last_of_rank rank (rank m) (pre ++ post)) (last_of_rank rank (rank m) (pre ++ m ∷ post))
    last_end = record {
      rest_is = ap (λ ms. last (heads ms)) (of_rank-append (rank m) pre post) ∙ last_or_other (of_rank rank (rank m) pre) (of_rank rank (rank m) post);
      whole_is =
          ap (λ ms. last (heads ms)) (of_rank-at pre post m) ∙ ap last (map-append head_of (of_rank rank (rank m) pre) (m ∷ of_rank rank (rank m) post))
          ∙ last_or-append None (heads (of_rank rank (rank m) pre)) (heads (m ∷ of_rank rank (rank m) post)) ∙ last_or_is (Some (head_of m)) (heads (of_rank rank (rank m) post));
      far_is = ahead_last pre post m ordered;
      apart = λ h near.
          let there = last_of_rank-has h (rank m) post near in (
            λ beyond. false≢true (sym (sides.cross h (last_has (heads pre) h (is_some_of-same h _ beyond))) ∙ has_tail (head_of m) h (heads post) there),
            differ (head_of m) h (heads post) sides.right.0 there,
          );
    }

    -- if m is the first of its rank, none is ahead of it; if it is the last, none is after it
    pub none_ahead : first_of_rank rank (rank m) (pre ++ m ∷ post) ≡ Some (head_of m) → first_of_rank rank (rank m) pre ≡ None
    none_ahead = left_near (head_of m) _ _ _ _ _ first_end

    pub none_behind : last_of_rank rank (rank m) (pre ++ m ∷ post) ≡ Some (head_of m) → last_of_rank rank (rank m) post ≡ None
    none_behind = left_near (head_of m) _ _ _ _ _ last_end

    -- the ends of its rank once it has joined
    pub first_joined : end_after_joining (first_of_rank rank (rank m) (pre ++ post)) (first (heads post)) (head_of m) ≡ first_of_rank rank (rank m) (pre ++ m ∷ post)
    first_joined = joined_is (head_of m) _ _ _ _ _ first_end

    pub last_joined : end_after_joining (last_of_rank rank (rank m) (pre ++ post)) (last (heads pre)) (head_of m) ≡ last_of_rank rank (rank m) (pre ++ m ∷ post)
    last_joined = joined_is (head_of m) _ _ _ _ _ last_end

    -- a message that goes last is the last of its rank
    pub joins_last : first (heads post) ≡ None → end_after_joining (last_of_rank rank (rank m) (pre ++ post)) (last (heads pre)) (head_of m) ≡ Some (head_of m)
    joins_last none = last_joined ∙ last_end.whole_is ∙ ap (λ ms. option_or (last_of_rank rank (rank m) ms) (Some (head_of m))) (first_none post none)

    -- if a message is not the last of its rank, there is one after it
    pub more_behind : last_of_rank rank (rank m) (pre ++ m ∷ post) ≢ Some (head_of m) → is_some (first (heads post)) ≡ true
    more_behind other =
        elim (first (heads post)) as (λ o. first (heads post) ≡ o → is_some o ≡ true) [
          | None ↦ λ none. absurd (other (last_end.whole_is ∙ ap (λ ms. option_or (last_of_rank rank (rank m) ms) (Some (head_of m))) (first_none post none)))
          | Some h ↦ λ some. refl
        ] refl

    -- and one that is first is the first of its rank
    pub leaves_first : last (heads pre) ≡ None → first_of_rank rank (rank m) (pre ++ m ∷ post) ≡ Some (head_of m)
    leaves_first none = first_end.whole_is ∙ ap (λ ms. option_or (first_of_rank rank (rank m) ms) (Some (head_of m))) (last_none pre none)

    -- and once it has left
    pub first_left : end_after_leaving (first_of_rank rank (rank m) (pre ++ m ∷ post)) (last_of_rank rank (rank m) (pre ++ m ∷ post)) (first (heads post)) (head_of m) ≡ first_of_rank rank (rank m) (pre ++ post)
    first_left = grind (arith, common_steps, first_end, last_end, last_of_rank-none, first_of_rank-none)

    pub last_left : end_after_leaving (last_of_rank rank (rank m) (pre ++ m ∷ post)) (first_of_rank rank (rank m) (pre ++ m ∷ post)) (last (heads pre)) (head_of m) ≡ last_of_rank rank (rank m) (pre ++ post)
    last_left = grind (arith, common_steps, last_end, first_end, first_of_rank-none, last_of_rank-none)
