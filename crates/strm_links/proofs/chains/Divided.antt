-- A chain is divided after its first node.
use Rattle.std.proofs.Common.{◌≡◌, ◌≢◌, ℕ, ◌-◌, ◌<◌, true, false, ◌==◌, List, [], ◌∷◌, length, set, Option, Some, None, IsSome, if◌then◌else◌, refl, sym, ap, ◌∙◌, subst, arith}
use Rattle.std.specs.Prelude.{slice_get}
use Rattle.strm_links.specs.Rows.{has, IsApart, first}
use Rattle.strm_links.specs.Layout.{LeadsOn}
use Rattle.strm_links.specs.Counting.{times}
use Rattle.strm_links.specs.Chains.{chain_in, items_of}
use Rattle.strm_links.specs.ChainLayout.{ByHead, chain_at}
use Rattle.strm_links.specs.ChainLayout.{IsChained, IsChain, after_at, span_at}
use Rattle.strm_links.specs.declared.chained.Link.{Link}
use Rattle.strm_links.proofs.lists.ListLinks.{LeadsOn-kept}
use Rattle.strm_links.proofs.lists.Counting.{times-append}
use Rattle.strm_links.proofs.lists.OneList.{differ, has_head, has_tail}
use Rattle.strm_links.proofs.chains.StoredChains.{IsChained-two, behind_begins_none, head_in, head_low, chain_laid, apart_from, write_elsewhere, write_here, chain_apart, chain_low}

module _ {nodes : List Link} {first_free : Option ℕ} {free_len : ℕ} {v : ByHead} (laid : IsChained nodes first_free free_len v) (h : ℕ) (some_h : IsSome (chain_in v.chains h)) where
  -- a head without a next node is alone
  pub alone : after_at nodes h ≡ None → chain_at v h ≡ h ∷ []
  alone none = let was = chain_laid laid h some_h in one (chain_at v h) was.head was.leads
    where
      one : (xs : List ℕ) → first xs ≡ Some h → LeadsOn (after_at nodes) xs None → xs ≡ h ∷ []
      one [] is leads = grind arith
      one (x ∷ []) is leads = grind arith
      one (x ∷ y ∷ xs) is leads = grind (arith, none, leads.0)

  module _ {c : ℕ} (on : after_at nodes h ≡ Some c) where
    -- any other chain begins with the head and its next node
    pub two : (rest : List ℕ) × (chain_at v h ≡ h ∷ c ∷ rest)
    two = let was = chain_laid laid h some_h in more (chain_at v h) was.head was.leads
      where
        more : (xs : List ℕ) → first xs ≡ Some h → LeadsOn (after_at nodes) xs None → (rest : List ℕ) × (xs ≡ h ∷ c ∷ rest)
        more [] is leads = absurd (cc)
        more (x ∷ []) is leads = absurd (let led = leads.0 in cc)
        more (x ∷ y ∷ rest) is leads = (rest, let led = leads.0 in cc)

    pub divided_second : slice_get (chain_at v h) 1 ≡ Some c
    divided_second = ap (λ (xs : List ℕ). slice_get xs 1) two.1

    in_chain : (k : ℕ) → has k (c ∷ two.0) ≡ true → has k (chain_at v h) ≡ true
    in_chain k there = ap (has k) two.1 ∙ has_tail h k (c ∷ two.0) there

    second_in : has c (chain_at v h) ≡ true
    second_in = in_chain c (has_head c c two.0 refl)

    pub divided_low : c < length v.chains
    divided_low = chain_low v laid.once h c second_in

    apart : IsApart (h ∷ c ∷ two.0)
    apart = subst IsApart two.1 (chain_apart v laid.once h)

    other : h ≢ c
    other = differ h c (c ∷ two.0) apart.0 (has_head c c two.0 refl)

    -- no chain begins with it
    pub divided_none : chain_in v.chains c ≡ None
    divided_none = behind_begins_none laid c h (λ same. other (sym same)) second_in

    was : IsChain (after_at nodes) (span_at nodes h) h (h ∷ c ∷ two.0)
    was = subst (IsChain (after_at nodes) (span_at nodes h) h) two.1 (chain_laid laid h some_h)

    pub divided_len : 1 < (span_at nodes h).len
    divided_len = omega (arith, was.len)

    module _ (new : List Link) (long : length new ≡ length nodes) (nexts : (k : ℕ) → after_at new k ≡ (if h == k then None else after_at nodes k))
        (spans : (k : ℕ) → span_at new k ≡ (if c == k then record { last = (span_at nodes h).last; len = (span_at nodes h).len - 1 } else (if h == k then record { last = h; len = 1 } else span_at nodes k))) where
      links : (k : ℕ) → has k (chain_at v h) ≡ false → after_at new k ≡ after_at nodes k
      links k absent = nexts k ∙ write_elsewhere h k _ (apart_from k h (chain_at v h) (head_in laid h some_h) absent)

      here : IsChain (after_at new) (record { last = h; len = 1 }) h (h ∷ [])
      here = record { head = refl; last = refl; len = refl; leads = (nexts h ∙ write_here h _, tt) }

      there : IsChain (after_at new) (record { last = (span_at nodes h).last; len = (span_at nodes h).len - 1 }) c (c ∷ two.0)
      there = record {
        head = refl;
        last = was.last;
        len = omega (arith, was.len);
        leads = LeadsOn-kept (after_at nodes) (after_at new) (c ∷ two.0) None (λ k there. nexts k ∙ write_elsewhere h k _ (λ same. differ h k (c ∷ two.0) apart.0 there (sym same))) was.leads.1;
      }

      pub IsChained-divided : IsChained new first_free free_len (record v { chains = set (set v.chains h (Some (h ∷ []))) c (Some (c ∷ two.0)) })
      IsChained-divided =
          IsChained-two laid h new long links h c (Some (h ∷ [])) (Some (c ∷ two.0)) other (head_low laid h some_h) divided_low
          (λ g off_h off_c. (off_h, spans g ∙ write_elsewhere c g _ off_c ∙ write_elsewhere h g _ off_h))
          (subst (λ s. IsChain (after_at new) s h (h ∷ [])) (sym (spans h ∙ write_elsewhere c h _ other ∙ write_here h _)) here)
          (subst (λ s. IsChain (after_at new) s c (c ∷ two.0)) (sym (spans c ∙ write_here c _)) there)
          (λ k. omega (arith, times-append k (h ∷ []) (c ∷ two.0), ap (times k) two.1, ap (λ m. times k (items_of m)) divided_none))
