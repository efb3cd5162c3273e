-- New chains: all nodes are free, and all shelves are empty.
use Rattle.std.proofs.Common.{◌≡◌, ℕ, zero, suc, ◌+◌, ◌<◌, ◌^◌, List, [], map, length, replicate, Some, None, is_some, if◌then◌else◌, refl, sym, ap, ◌∙◌, subst, arith, inl, inr}
use Rattle.std.specs.Prelude.{nat_lt}
use Rattle.std.specs.List.{concat, range_with_len}
use Rattle.std.proofs.lemmas.Bool.{cases_lt, false≢true}
use Rattle.std.proofs.lemmas.List.{get_or_past, get_or-replicate, length-replicate}
use Rattle.std.proofs.lemmas.Simd.{map-map}
use Rattle.strm_links.specs.Rows.{Rows, holder}
use Rattle.strm_links.specs.Layout.{IsSoundTable, IsSound, carried_by, rows_in, rows_of}
use Rattle.strm_links.specs.ChainLists.{opening_chains}
use Rattle.strm_links.specs.ChainLayout.{ByHead, IsChained, IsWhole, after_at, chain_at, chains_but, linked_at, links_of, lists_in, lists_of, loads_of, no_link, no_span, span_at, unlinked}
use Rattle.strm_links.specs.declared.chained.Link.{Link}
use Rattle.strm_links.specs.declared.table.Ends.{Ends}
use Rattle.strm_links.specs.declared.table.Node.{Node}
use Rattle.strm_links.specs.declared.table.Place.{Place}
use Rattle.strm_links.specs.declared.table.Table.{Table}
use Rattle.strm_links.proofs.linking.Carried.{alike}
use Rattle.strm_links.proofs.lists.AllLists.{holder-empty}
use Rattle.strm_links.proofs.chains.Begun.{IsChained-opened}
use Rattle.strm_links.proofs.chains.StoredChains.{IsChained-stored, by_head_is}
use Rattle.strm_links.proofs.chains.Whole.{loads_rest, places_rest}
use Rattle.strm_links.proofs.chains.Written.{length-links}

-- no node leads on at first
pub none_linked : {T : Type 0} (n : ℕ) (load : T) (nodes : List (Node Link T)) → carried_by nodes ≡ replicate n (no_link, load) → (k : ℕ) → linked_at (links_of nodes) k ≡ no_link
none_linked {T} n load nodes carried k =
    let all : links_of nodes ≡ replicate n no_link =
    sym (map-map (λ (p : Link × T). p.0) (λ (x : Node Link T). (x.link, x.load)) nodes) ∙ ap (map (λ (p : Link × T). p.0)) carried ∙ alike (λ (p : Link × T). p.0) n (no_link, load) in
    ap (λ ls. linked_at ls k) all
    ∙ elim (cases_lt k n) [
      | inl within ↦ get_or-replicate n k no_link no_link within
      | inr past ↦ get_or_past (replicate n no_link) k no_link (omega (arith, length-replicate {A = Link} n no_link))
    ]

-- empty shelves have no head
no_heads : (s : ℕ) → concat (replicate s []) ≡ []
no_heads zero = refl
no_heads (suc s) = no_heads s

module _ {T : Type 0} {n : ℕ} (s : ℕ) (load : T) (old new : Table Link T) (laid : IsSoundTable old) (rows : rows_in old ≡ record { nodes = n; lists = replicate s [] }) (carried : carried_by old.nodes.items ≡ replicate n (no_link, load))
    (rest : unlinked new.nodes.items ≡ unlinked old.nodes.items) (ends : new.ends ≡ old.ends) (few : n < 2 ^ 32) (long : length new.nodes.items ≡ n)
    (leads : (k : ℕ) → k < n → after_at (links_of new.nodes.items) k ≡ (if nat_lt (k + 1) n then Some (k + 1) else None)) (spans : (k : ℕ) → span_at (links_of new.nodes.items) k ≡ no_span) where
  empty : Rows
  empty = record { nodes = n; lists = replicate s [] }

  all_free : ByHead
  all_free = record { free = range_with_len 0 n; chains = replicate n None }

  chained : IsChained (links_of new.nodes.items) (if nat_lt 0 n then Some 0 else None) n all_free
  unfolding all_free
  chained = IsChained-opened (links_of new.nodes.items) few (length-links new.nodes.items ∙ long) leads spans

  rows_now : rows_in new ≡ empty
  unfolding empty
  rows_now = (λ i. rows_of (places_rest old.nodes.items new.nodes.items rest i) (ends i).items) ∙ rows

  pub loads_now : loads_of new.nodes.items ≡ replicate n load
  loads_now =
      loads_rest old.nodes.items new.nodes.items rest ∙ sym (map-map (λ (p : Link × T). p.1) (λ (x : Node Link T). (x.link, x.load)) old.nodes.items) ∙ ap (map (λ (p : Link × T). p.1)) carried
      ∙ alike (λ (p : Link × T). p.1) n (no_link, load)

  pub IsWhole-opened : IsWhole new (if nat_lt 0 n then Some 0 else None) n n
  unfolding empty
  IsWhole-opened = record {
    sound = subst (λ (x : List Place × List Ends). IsSound x.0 x.1 (rows_of x.0 x.1)) (sym (λ i. (places_rest old.nodes.items new.nodes.items rest i, (ends i).items))) laid;
    chained = IsChained-stored chained;
    begun = λ h on. absurd (false≢true (sym (ap is_some (ap (holder h) rows_now ∙ holder-empty n s h)) ∙ on));
    fewest = omega arith;
  }

  pub opened_is : lists_in new (if nat_lt 0 n then Some 0 else None) n n ≡ opening_chains n s
  unfolding empty all_free
  opened_is =
      (λ i. lists_of (by_head_is chained i) (rows_now i) n)
      ∙ (λ i. record {
        free = range_with_len 0 n;
        held = chains_but (no_heads s i) (replicate n None);
        shelves = alike (map (chain_at all_free)) s [] i;
        least = n;
      })
