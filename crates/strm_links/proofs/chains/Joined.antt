-- One chain joins the end of another.
use Rattle.std.proofs.Common.{◌≡◌, ◌≢◌, ℕ, ◌+◌, ◌≤◌, false, ◌==◌, List, ◌++◌, length, Option, Some, None, IsSome, if◌then◌else◌, sym, ap, ◌∙◌, subst, arith, length-append}
use Rattle.strm_links.specs.Rows.{has}
use Rattle.strm_links.specs.Layout.{LeadsOn}
use Rattle.strm_links.specs.Chains.{chain_in, chains_joined}
use Rattle.strm_links.specs.ChainLayout.{ByHead, chain_at}
use Rattle.strm_links.specs.ChainLayout.{IsChained, IsChain, after_at, no_span, span_at}
use Rattle.strm_links.specs.declared.chained.Link.{Link}
use Rattle.strm_links.specs.declared.chained.Span.{Span}
use Rattle.strm_links.proofs.lists.ListLinks.{LeadsOn-kept, first_front, last_back, LeadsOn-append, LeadsOn-end}
use Rattle.strm_links.proofs.lists.Counting.{times-append}
use Rattle.strm_links.proofs.chains.StoredChains.{IsChained-two, head_low, last_in, chain_laid, apart_from, write_elsewhere, write_here, not_in_other, chain_apart, two_few}

module _ {nodes : List Link} {first_free : Option ℕ} {free_len : ℕ} {v : ByHead} (laid : IsChained nodes first_free free_len v) (h g : ℕ) (some_h : IsSome (chain_in v.chains h)) (some_g : IsSome (chain_in v.chains g)) (other : h ≢ g) where
  laid_h : IsChain (after_at nodes) (span_at nodes h) h (chain_at v h)
  laid_h = chain_laid laid h some_h

  laid_g : IsChain (after_at nodes) (span_at nodes g) g (chain_at v g)
  laid_g = chain_laid laid g some_g

  -- two chains together have at most all nodes
  pub joined_few : (span_at nodes h).len + (span_at nodes g).len ≤ length v.chains
  joined_few = omega (arith, laid_h.len, laid_g.len, length-append (chain_at v h) (chain_at v g), two_few v laid.once h g other)

  both : List ℕ
  both = chain_at v h ++ chain_at v g

  -- what the head keeps after the call
  span : Span
  span = record { last = (span_at nodes g).last; len = (span_at nodes h).len + (span_at nodes g).len }

  module _ (new : List Link) (long : length new ≡ length nodes) (nexts : (k : ℕ) → after_at new k ≡ (if (span_at nodes h).last == k then Some g else after_at nodes k))
      (spans : (k : ℕ) → span_at new k ≡ (if h == k then record { last = (span_at nodes g).last; len = (span_at nodes h).len + (span_at nodes g).len } else (if g == k then no_span else span_at nodes k))) where
    links : (k : ℕ) → has k (chain_at v h) ≡ false → after_at new k ≡ after_at nodes k
    links k absent = nexts k ∙ write_elsewhere _ k _ (apart_from k _ (chain_at v h) (last_in laid h some_h) absent)

    leads : LeadsOn (after_at new) both None
    unfolding both
    leads =
        let t = (span_at nodes h).last in
        LeadsOn-append (after_at new) (chain_at v h) (chain_at v g) None
        (subst (LeadsOn (after_at new) (chain_at v h)) (sym laid_g.head)
        (LeadsOn-end (after_at nodes) (after_at new) (chain_at v h) None (Some g) t laid_h.last (chain_apart v laid.once h) laid_h.leads (nexts t ∙ write_here t _) (λ k there off. nexts k ∙ write_elsewhere t k _ off)))
        (LeadsOn-kept (after_at nodes) (after_at new) (chain_at v g) None (λ k there. links k (not_in_other v laid.once g h k (λ same. other (sym same)) there)) laid_g.leads)

    here : IsChain (after_at new) span h both
    unfolding both span
    here = record {
      head = first_front h (chain_at v h) (chain_at v g) laid_h.head;
      last = last_back _ (chain_at v h) (chain_at v g) laid_g.last;
      len = omega (arith, laid_h.len, laid_g.len, length-append (chain_at v h) (chain_at v g));
      leads = leads;
    }

    pub IsChained-joined : IsChained new first_free free_len (record v { chains = chains_joined h g v.chains })
    unfolding both span
    IsChained-joined =
        let away : g ≢ h = λ same. other (sym same) in
        let none : (span_at new g).len ≡ 0 = ap (λ (s : Span). s.len) (spans g ∙ write_elsewhere h g _ away ∙ write_here g _) in
        IsChained-two laid h new long links g h None (Some both) away (head_low laid g some_g) (head_low laid h some_h)
        (λ k off_g off_h. (off_h, spans k ∙ write_elsewhere h k _ off_h ∙ write_elsewhere g k _ off_g)) none
        (subst (λ s. IsChain (after_at new) s h both) (sym (spans h ∙ write_here h _)) here)
        (λ k. omega (arith, times-append k (chain_at v h) (chain_at v g)))
