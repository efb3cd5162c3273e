-- Where a message goes among messages in order, found by the first and the last message of each rank.
use Rattle.std.proofs.Common.{◌≡◌, ℕ, ◌<◌, ◌≤◌, Bool, true, false, List, [], ◌∷◌, ◌++◌, Some, None, refl, sym, ap, ◌∙◌, subst, inl, inr, arith}
use Rattle.std.specs.Prelude.{nat_le, is_some}
use Rattle.std.specs.List.{list_any}
use Rattle.std.proofs.lemmas.Bool.{cases_eq, cases_order, false_from_ne_true, false≢true, leb-true, lt-leb, or_from}
use Rattle.std.proofs.lemmas.List.{append_assoc, map-append, get_or_past}
use Rattle.std.proofs.lemmas.Grind.{common_steps}
use Rattle.strm_links.specs.Rows.{IsApart, after, first, has}
use Rattle.strm_links.proofs.lists.OneList.{first_has, has-append, is_some_of-same, last_has}
use Rattle.strm_mblk.specs.Block.{Message, head_of}
use Rattle.strm_mblk.specs.Messages.{put_before_head}
use Rattle.strm_queue.specs.Ends.{first_of_rank, last_of_rank, of_rank}
use Rattle.strm_queue.specs.Rank.{is_ordered, put_ahead, put_behind}
use Rattle.strm_queue.proofs.order.Ends.{first_of_rank-has, first_of_rank-none, first_of_rank-parts, first_of_rank-some, has_of_rank, last_of_rank-has, none_ahead, none_behind, of_rank-refused, of_rank-other}
use Rattle.strm_queue.proofs.Shelf.{after-head, heads, no_other, parts_of, placed-between, first_there}
use Rattle.strm_queue.proofs.order.Order.{are_above, are_below, around, put_ahead-at, put_ahead-last, put_behind-at, put_behind-front}
use Rattle.strm_queue.specs.Limits.{ranks}
use Rattle.strm_queue.specs.Tallies.{AreEndsOf, Tally, has_rank}

module _ (rank : Message → ℕ) where
  -- if no rank that passes a test has messages, no message passes it
  none_passes : (test : ℕ → Bool) (ms : List Message) → ((x : ℕ) → test x ≡ true → first_of_rank rank x ms ≡ None) → list_any (λ y. test (rank y)) ms ≡ false
  none_passes test [] none = refl
  none_passes test (y ∷ ys) none =
      or_from (test (rank y)) _
      (false_from_ne_true _ (λ passes. first_of_rank-some rank [] ys y (none (rank y) passes)))
      (none_passes test ys (λ x passes. (first_of_rank-parts rank x (y ∷ []) ys (none x passes)).1))

  module _ (pre post : List Message) (at : Message) (ordered : is_ordered rank (pre ++ at ∷ post) ≡ true) (apart : IsApart (heads (pre ++ at ∷ post))) where
    -- if the heads of a rank have the message's head, it is of that rank
    rank_at : (r : ℕ) → has (head_of at) (heads (of_rank rank r (pre ++ at ∷ post))) ≡ true → rank at ≡ r
    rank_at r there =
        elim (cases_eq (rank at) r) [
          | inl same ↦ same
          | inr other ↦
              let off = no_other pre post at apart in
              let others = ap (λ ms. has (head_of at) (heads ms)) (sym (of_rank-other rank r pre post at (λ same. other (sym same)))) ∙ there in
              absurd
              (false≢true
              (sym (ap (has (head_of at)) (map-append head_of pre post) ∙ has-append (head_of at) (heads pre) (heads post) ∙ or_from _ _ off.0 off.1)
              ∙ has_of_rank rank (head_of at) r (pre ++ post) others))
        ]

    -- after the last of its rank no message is of at least r, if no rank from r up to its own has messages
    below_behind : (r : ℕ) → last_of_rank rank (rank at) (pre ++ at ∷ post) ≡ Some (head_of at)
        → ((x : ℕ) → r ≤ x → x < rank at → first_of_rank rank x (pre ++ at ∷ post) ≡ None) → are_below rank r post
    below_behind r is_last none =
        none_passes (nat_le r) post (λ x more.
        elim (cases_order x (rank at)) [
          | inl same ↦
              subst (λ n. first_of_rank rank n post ≡ None) (sym same)
              (first_of_rank-none rank (rank at) post (none_behind rank pre post at ordered apart is_last))
          | inr (inl less) ↦ (first_of_rank-parts rank x (at ∷ []) post (first_of_rank-parts rank x pre (at ∷ post) (none x (leb-true r x more) less)).1).1
          | inr (inr greater) ↦ ap (λ ms. first (heads ms)) (of_rank-refused rank (λ n. nat_le n (rank at)) x post (around rank pre post at ordered).behind (lt-leb x (rank at) greater))
        ])

    -- ahead of the first of its rank no message is of at most r, if no rank from its own up to r has messages
    above_ahead : (r : ℕ) → first_of_rank rank (rank at) (pre ++ at ∷ post) ≡ Some (head_of at)
        → ((x : ℕ) → rank at < x → x ≤ r → first_of_rank rank x (pre ++ at ∷ post) ≡ None) → are_above rank r pre
    above_ahead r is_first none =
        none_passes (λ n. nat_le n r) pre (λ x less.
        elim (cases_order x (rank at)) [
          | inl same ↦
              subst (λ n. first_of_rank rank n pre ≡ None) (sym same)
              (none_ahead rank pre post at ordered apart is_first)
          | inr (inl lower) ↦ ap (λ ms. first (heads ms)) (of_rank-refused rank (nat_le (rank at)) x pre (around rank pre post at ordered).ahead (lt-leb (rank at) x lower))
          | inr (inr greater) ↦ (first_of_rank-parts rank x pre (at ∷ post) (none x greater (leb-true x r less))).0
        ])

    module _ (m : Message) where
      -- it is the last of its rank, and the message goes after it
      behind_at : (p l : ℕ) → head_of at ≡ l → rank m ≤ p → last_of_rank rank p (pre ++ at ∷ post) ≡ Some l → ((x : ℕ) → rank m ≤ x → x < p → first_of_rank rank x (pre ++ at ∷ post) ≡ None)
          → put_before_head head_of (after l (heads (pre ++ at ∷ post))) m (pre ++ at ∷ post) ≡ put_behind rank m (pre ++ at ∷ post)
      behind_at p l head more is_last none =
          let at_last : last_of_rank rank p (pre ++ at ∷ post) ≡ Some (head_of at) = is_last ∙ ap Some (sym head) in
          let same : rank at ≡ p = rank_at p (last_has (heads (of_rank rank p (pre ++ at ∷ post))) (head_of at) (is_some_of-same (head_of at) _ at_last)) in
          let below : are_below rank (rank m) post = below_behind (rank m) (ap (λ n. last_of_rank rank n (pre ++ at ∷ post)) same ∙ at_last) (λ x least less. none x least (omega (arith, same, less))) in
          let is : (pre ++ at ∷ []) ++ post ≡ pre ++ at ∷ post = append_assoc pre (at ∷ []) post in
          ap (λ o. put_before_head head_of o m (pre ++ at ∷ post)) (ap (λ k. after k (heads (pre ++ at ∷ post))) (sym head) ∙ after-head pre post at apart)
          ∙ ap (put_before_head head_of (first (heads post)) m) (sym is)
          ∙ placed-between m (pre ++ at ∷ []) post (subst (λ ms. IsApart (heads ms)) (sym is) apart)
          ∙ append_assoc pre (at ∷ []) (m ∷ post) ∙ sym (put_behind-at rank m at pre post (omega (arith, same, more)) below)

      -- it is the first of its rank, and the message goes before it
      ahead_at : (p f : ℕ) → head_of at ≡ f → p ≤ rank m → first_of_rank rank p (pre ++ at ∷ post) ≡ Some f → ((x : ℕ) → p < x → x ≤ rank m → first_of_rank rank x (pre ++ at ∷ post) ≡ None)
          → put_before_head head_of (Some f) m (pre ++ at ∷ post) ≡ put_ahead rank m (pre ++ at ∷ post)
      ahead_at p f head less is_first none =
          let at_first : first_of_rank rank p (pre ++ at ∷ post) ≡ Some (head_of at) = is_first ∙ ap Some (sym head) in
          let same : rank at ≡ p = rank_at p (first_has (heads (of_rank rank p (pre ++ at ∷ post))) (head_of at) (is_some_of-same (head_of at) _ at_first)) in
          let above : are_above rank (rank m) pre = above_ahead (rank m) (ap (λ n. first_of_rank rank n (pre ++ at ∷ post)) same ∙ at_first) (λ x more most. none x (omega (arith, same, more)) most) in
          ap (λ k. put_before_head head_of (Some k) m (pre ++ at ∷ post)) (sym head)
          ∙ placed-between m pre (at ∷ post) apart ∙ sym (put_ahead-at rank m at pre post above (omega (arith, same, less)))

  module _ (ms : List Message) (ordered : is_ordered rank ms ≡ true) (apart : IsApart (heads ms)) (r : ℕ) where
    -- a message of rank r goes after the last message of the least rank from r on that has messages
    pub placed_behind-some : (p l : ℕ) → r ≤ p → last_of_rank rank p ms ≡ Some l → ((x : ℕ) → r ≤ x → x < p → first_of_rank rank x ms ≡ None)
        → (m : Message) → rank m ≡ r → put_before_head head_of (after l (heads ms)) m ms ≡ put_behind rank m ms
    placed_behind-some p l more is none m is_rank =
        let parts = parts_of l ms (last_of_rank-has rank l p ms is) in
        subst (λ xs. put_before_head head_of (after l (heads xs)) m xs ≡ put_behind rank m xs) (sym parts.is)
        (behind_at parts.pre parts.post parts.at (subst (λ xs. is_ordered rank xs ≡ true) parts.is ordered) (subst (λ xs. IsApart (heads xs)) parts.is apart) m p l parts.head (omega (arith, is_rank, more))
        (ap (last_of_rank rank p) (sym parts.is) ∙ is) (λ x least less. ap (first_of_rank rank x) (sym parts.is) ∙ none x (omega (arith, is_rank, least)) less))

    -- if no such rank has messages, it goes first
    pub placed_behind-none : ((x : ℕ) → r ≤ x → first_of_rank rank x ms ≡ None) → (m : Message) → rank m ≡ r → put_before_head head_of (first (heads ms)) m ms ≡ put_behind rank m ms
    placed_behind-none none m is_rank =
        placed-between m [] ms apart
        ∙ sym (put_behind-front rank m ms (none_passes (nat_le (rank m)) ms (λ x more. none x (omega (arith, is_rank, leb-true (rank m) x more)))))

    -- a message of rank r goes before the first message of the greatest rank up to r that has messages
    pub placed_ahead-some : (p f : ℕ) → p ≤ r → first_of_rank rank p ms ≡ Some f → ((x : ℕ) → p < x → x ≤ r → first_of_rank rank x ms ≡ None)
        → (m : Message) → rank m ≡ r → put_before_head head_of (Some f) m ms ≡ put_ahead rank m ms
    placed_ahead-some p f less is none m is_rank =
        let parts = parts_of f ms (first_of_rank-has rank f p ms is) in
        subst (λ xs. put_before_head head_of (Some f) m xs ≡ put_ahead rank m xs) (sym parts.is)
        (ahead_at parts.pre parts.post parts.at (subst (λ xs. is_ordered rank xs ≡ true) parts.is ordered) (subst (λ xs. IsApart (heads xs)) parts.is apart) m p f parts.head (omega (arith, is_rank, less))
        (ap (first_of_rank rank p) (sym parts.is) ∙ is) (λ x more most. ap (first_of_rank rank x) (sym parts.is) ∙ none x more (omega (arith, is_rank, most))))

    -- if no such rank has messages, it goes last
    pub placed_ahead-none : ((x : ℕ) → x ≤ r → first_of_rank rank x ms ≡ None) → (m : Message) → rank m ≡ r → put_before_head head_of None m ms ≡ put_ahead rank m ms
    placed_ahead-none none m is_rank =
        sym (put_ahead-last rank m ms (none_passes (λ n. nat_le n (rank m)) ms (λ x less. none x (omega (arith, is_rank, leb-true x (rank m) less)))))

-- ---- by what is stored

module _ (rank : Message → ℕ) (ms : List Message) (t : Tally) (ends : AreEndsOf rank ms t) where
  -- the tally says whether a rank has messages
  has_told : (x : ℕ) → has_rank t x ≡ is_some (first_of_rank rank x ms)
  has_told x = grind (arith, common_steps, ends.used x, ends.firsts x)

  pub none_told : (x : ℕ) → has_rank t x ≡ false → first_of_rank rank x ms ≡ None
  none_told x none = grind (arith, common_steps)

  pub some_told : (x : ℕ) → has_rank t x ≡ true → (h : ℕ) × (first_of_rank rank x ms ≡ Some h)
  some_told x some = grind (arith, common_steps, has_told, false≢true)

  -- above the greatest rank there are no messages
  pub none_beyond : (x : ℕ) → ranks ≤ x → first_of_rank rank x ms ≡ None
  none_beyond x past = sym (ends.firsts x) ∙ get_or_past t.firsts x None (omega (arith, past, ends.each_first))

-- the message after another one is on the same shelf
pub after_there : (h x : ℕ) (ms : List Message) → IsApart (heads ms) → has h (heads ms) ≡ true → after h (heads ms) ≡ Some x → has x (heads ms) ≡ true
after_there h x ms apart there some =
    let parts = parts_of h ms there in
    let is : ms ≡ (parts.pre ++ parts.at ∷ []) ++ parts.post = parts.is ∙ sym (append_assoc parts.pre (parts.at ∷ []) parts.post) in
    ap (λ xs. has x (heads xs)) is
    ∙ first_there x (parts.pre ++ parts.at ∷ []) parts.post
    (sym (after-head parts.pre parts.post parts.at (subst (λ xs. IsApart (heads xs)) parts.is apart)) ∙ (λ i. after (parts.head i) (heads (sym parts.is i))) ∙ some)
