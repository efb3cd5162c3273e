-- A node other than the first leaves a chain, and becomes a chain of one.
use Rattle.std.proofs.Common.{◌≡◌, ◌≢◌, ℕ, suc, ◌+◌, ◌-◌, ◌<◌, true, false, ◌==◌, List, [], ◌∷◌, ◌++◌, length, get_or, set, take, drop, Option, Some, None, IsSome, if◌then◌else◌, refl, sym, ap, ◌∙◌, subst, arith, length-append, drop-cons}
use Rattle.std.specs.Prelude.{is_none, slice_get}
use Rattle.std.proofs.lemmas.List.{take-append-drop}
use Rattle.std.proofs.lemmas.Option.{same_Some, slice_get-get_or}
use Rattle.strm_links.specs.Rows.{has, IsApart, first, last}
use Rattle.strm_links.specs.Layout.{LeadsOn}
use Rattle.strm_links.specs.Counting.{times}
use Rattle.strm_links.specs.Chains.{chain_in, items_of}
use Rattle.strm_links.specs.ChainLayout.{ByHead, chain_at}
use Rattle.strm_links.specs.ChainLayout.{IsChained, IsChain, after_at, onward, span_at}
use Rattle.strm_links.specs.declared.chained.Link.{Link}
use Rattle.strm_links.proofs.lists.ListLinks.{LeadsOn-kept, LeadsOn-parts, first-take, first_front, has_first, has_last, last-take, last_without, link_at, onward-at, LeadsOn-append, LeadsOn-end}
use Rattle.strm_links.proofs.lists.Counting.{times-append}
use Rattle.strm_links.proofs.lists.OneList.{ApartParts, IsApart-parts, differ, has_head, has_left, has_right, has_tail}
use Rattle.strm_links.proofs.chains.StoredChains.{span_without, IsChained-two, behind_begins_none, head_low, chain_laid, apart_from, write_elsewhere, write_here, chain_apart, chain_low}

module _ {nodes : List Link} {first_free : Option ℕ} {free_len : ℕ} {v : ByHead} (laid : IsChained nodes first_free free_len v) (h : ℕ) (some_h : IsSome (chain_in v.chains h)) where
  was : IsChain (after_at nodes) (span_at nodes h) h (chain_at v h)
  was = chain_laid laid h some_h

  -- ---- n follows t

  module _ (pre post : List ℕ) (n : ℕ) {t : ℕ} (split : chain_at v h ≡ pre ++ n ∷ post) (begins : first pre ≡ Some h) (ends : last pre ≡ Some t) where
    apart : IsApart (pre ++ n ∷ post)
    apart = subst IsApart split (chain_apart v laid.once h)

    parts : ApartParts pre (n ∷ post)
    parts = IsApart-parts pre (n ∷ post) apart

    leads : LeadsOn (after_at nodes) pre (Some n) × LeadsOn (after_at nodes) (n ∷ post) None
    leads = LeadsOn-parts (after_at nodes) pre (n ∷ post) None (subst (λ xs. LeadsOn (after_at nodes) xs None) split was.leads)

    in_pre : (k : ℕ) → has k pre ≡ true → has k (chain_at v h) ≡ true
    in_pre k there = ap (has k) split ∙ has_left k pre (n ∷ post) there

    in_post : (k : ℕ) → has k (n ∷ post) ≡ true → has k (chain_at v h) ≡ true
    in_post k there = ap (has k) split ∙ has_right k pre (n ∷ post) there

    n_in : has n (chain_at v h) ≡ true
    n_in = in_post n (has_head n n post refl)

    t_in : has t (chain_at v h) ≡ true
    t_in = in_pre t (has_last pre t ends)

    -- a node before n differs from n and from each node after it
    pre_off : (k j : ℕ) → has k pre ≡ true → has j (n ∷ post) ≡ true → k ≢ j
    pre_off k j here there = apart_from k j (n ∷ post) there (parts.cross k here)

    n_off_h : h ≢ n
    n_off_h = pre_off h n (has_first pre h begins) (has_head n n post refl)

    -- the last node of the chain without n
    last_left : last (pre ++ post) ≡ Some (span_without (span_at nodes h) 1 t (after_at nodes n)).last
    last_left =
        last_without pre (n ∷ []) post t (span_at nodes h).last ends (ap last (sym split) ∙ was.last)
        ∙ ap (λ o. Some (if is_none o then t else (span_at nodes h).last)) (sym leads.1.0)

    module _ (new : List Link) (long : length new ≡ length nodes) (nexts : (k : ℕ) → after_at new k ≡ (if n == k then None else (if t == k then after_at nodes n else after_at nodes k)))
        (spans : (k : ℕ) → span_at new k
        ≡ (if h == k then span_without (span_at nodes h) 1 t (after_at nodes n) else (if n == k then record { last = n; len = 1 } else span_at nodes k))) where
      links : (k : ℕ) → k ≢ n → k ≢ t → after_at new k ≡ after_at nodes k
      links k off_n off_t = nexts k ∙ write_elsewhere n k _ off_n ∙ write_elsewhere t k _ off_t

      links_off : (k : ℕ) → has k (chain_at v h) ≡ false → after_at new k ≡ after_at nodes k
      links_off k absent = links k (apart_from k n (chain_at v h) n_in absent) (apart_from k t (chain_at v h) t_in absent)

      others_lead : LeadsOn (after_at new) (pre ++ post) None
      others_lead =
          let t_next : after_at new t ≡ first post = nexts t ∙ write_elsewhere n t _ (pre_off t n (has_last pre t ends) (has_head n n post refl)) ∙ write_here t _ ∙ leads.1.0 in
          LeadsOn-append (after_at new) pre post None
          (LeadsOn-end (after_at nodes) (after_at new) pre (Some n) (first post) t ends parts.left leads.0 t_next
          (λ k there off. links k (pre_off k n there (has_head n n post refl)) off))
          (LeadsOn-kept (after_at nodes) (after_at new) post None
          (λ k there. links k (λ same. differ n k post parts.right.0 there (sym same)) (λ same. pre_off t k (has_last pre t ends) (has_tail n k post there) (sym same)))
          leads.1.1)

      here : IsChain (after_at new) (span_without (span_at nodes h) 1 t (after_at nodes n)) h (pre ++ post)
      here = record {
        head = first_front h pre post begins;
        last = last_left;
        len = omega (arith, was.len, ap length split, length-append pre (n ∷ post), length-append pre post);
        leads = others_lead;
      }

      there : IsChain (after_at new) (record { last = n; len = 1 }) n (n ∷ [])
      there = record { head = refl; last = refl; len = refl; leads = (nexts n ∙ write_here n _, tt) }

      pub IsChained-apart : IsChained new first_free free_len (record v { chains = set (set v.chains h (Some (pre ++ post))) n (Some (n ∷ [])) })
      IsChained-apart =
          let n_none = behind_begins_none laid n h (λ same. n_off_h (sym same)) n_in in
          IsChained-two laid h new long links_off h n (Some (pre ++ post)) (Some (n ∷ [])) n_off_h (head_low laid h some_h) (chain_low v laid.once h n n_in)
          (λ g off_h off_n. (off_h, spans g ∙ write_elsewhere h g _ off_h ∙ write_elsewhere n g _ off_n))
          (subst (λ s. IsChain (after_at new) s h (pre ++ post)) (sym (spans h ∙ write_here h _)) here)
          (subst (λ s. IsChain (after_at new) s n (n ∷ [])) (sym (spans n ∙ write_elsewhere h n _ (λ same. n_off_h (sym same)) ∙ write_here n _)) there)
          (λ k. omega (arith, ap (times k) split, times-append k pre (n ∷ post), times-append k (n ∷ []) post, times-append k pre post, ap (λ m. times k (items_of m)) n_none))

  -- ---- the node at a place

  module _ (place : ℕ) (behind : 0 < place) (inside : place < length (chain_at v h)) where
    abbrev before : ℕ
    before = place - 1

    is : place ≡ suc before
    is = omega (arith, behind)

    -- the node at the place, and the one before it
    pub place_at : slice_get (chain_at v h) place ≡ Some (get_or (chain_at v h) place 0)
    place_at = slice_get-get_or (chain_at v h) place 0 inside

    pub place_there : onward (after_at nodes) before (Some h) ≡ Some (get_or (chain_at v h) before 0)
    place_there = ap (onward (after_at nodes) before) (sym was.head) ∙ onward-at (after_at nodes) (chain_at v h) None before was.leads (omega (arith, is, inside))

    module _ {t : ℕ} (walked : onward (after_at nodes) before (Some h) ≡ Some t) where
      t_is : Some t ≡ Some (get_or (chain_at v h) before 0)
      t_is = sym walked ∙ place_there

      pub place_next : after_at nodes t ≡ Some (get_or (chain_at v h) place 0)
      place_next =
          ap (after_at nodes) (same_Some _ _ t_is) ∙ link_at (after_at nodes) (chain_at v h) None before was.leads (omega (arith, is, inside))
          ∙ ap (λ j. first (drop j (chain_at v h))) (sym is) ∙ ap first (drop-cons (chain_at v h) place 0 inside)

    module _ {t n : ℕ} (walked : onward (after_at nodes) before (Some h) ≡ Some t) (next : after_at nodes t ≡ Some n) where
      n_is : Some n ≡ Some (get_or (chain_at v h) place 0)
      n_is = sym next ∙ place_next walked

      pub place_is : slice_get (chain_at v h) place ≡ Some n
      place_is = place_at ∙ sym n_is

      split : chain_at v h ≡ take place (chain_at v h) ++ n ∷ drop (place + 1) (chain_at v h)
      split =
          sym (take-append-drop place (chain_at v h))
          ∙ ap (λ ys. take place (chain_at v h) ++ ys) (drop-cons (chain_at v h) place 0 inside
          ∙ (λ i. same_Some _ _ (sym n_is) i ∷ drop (more i) (chain_at v h)))
        where
          more : suc place ≡ place + 1
          more = omega arith

      begins : first (take place (chain_at v h)) ≡ Some h
      begins = ap (λ j. first (take j (chain_at v h))) is ∙ first-take (chain_at v h) before ∙ was.head

      ends : last (take place (chain_at v h)) ≡ Some t
      ends = ap (λ j. last (take j (chain_at v h))) is ∙ last-take (chain_at v h) before (omega (arith, is, inside)) ∙ sym (t_is walked)

      pub IsChained-taken_out : (new : List Link) → length new ≡ length nodes → ((k : ℕ) → after_at new k ≡ (if n == k then None else (if t == k then after_at nodes n else after_at nodes k)))
          → ((k : ℕ) → span_at new k
          ≡ (if h == k then span_without (span_at nodes h) 1 t (after_at nodes n) else (if n == k then record { last = n; len = 1 } else span_at nodes k)))
          → IsChained new first_free free_len (record v { chains = set (set v.chains h (Some (take place (chain_at v h) ++ drop (place + 1) (chain_at v h)))) n (Some (n ∷ [])) })
      IsChained-taken_out new long nexts spans = IsChained-apart (take place (chain_at v h)) (drop (place + 1) (chain_at v h)) n split begins ends new long nexts spans

      -- no chain begins with the node
      pub place_none : chain_in v.chains n ≡ None
      place_none =
          let pre = take place (chain_at v h) in
          let post = drop (place + 1) (chain_at v h) in
          behind_begins_none laid n h (λ same. n_off_h pre post n split begins ends (sym same)) (n_in pre post n split begins ends)
