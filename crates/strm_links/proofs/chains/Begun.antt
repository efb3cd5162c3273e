-- Chains as they are opened, and nodes that begin chains.
use Rattle.std.proofs.Common.{◌≡◌, ℕ, zero, suc, ◌+◌, zero-add, ◌<◌, ◌^◌, List, ◌++◌, length, replicate, Option, Some, None, if◌then◌else◌, refl, sym, ap, ◌∙◌, subst, arith, ◌-◌, true, ◌==◌, get_or, set, take, drop, length-append}
use Rattle.std.specs.Prelude.{nat_lt}
use Rattle.std.specs.List.{range_with_len}
use Rattle.std.proofs.lemmas.Bool.{cond-true, cond-false, lt-ltb, le-ltb}
use Rattle.std.proofs.lemmas.List.{append-nil, length-replicate, length-take-le, take-append-drop}
use Rattle.std.proofs.lemmas.List.FromFn.{length-range_with_len}
use Rattle.strm_links.specs.Rows.{first, has, IsApart, last}
use Rattle.strm_links.specs.Layout.{LeadsOn}
use Rattle.strm_links.specs.Counting.{times}
use Rattle.strm_links.specs.Chains.{chain_in, items_of}
use Rattle.strm_links.specs.ChainLayout.{ByHead}
use Rattle.strm_links.specs.ChainLayout.{IsHeadOf, IsChained, after_at, no_span, span_at, IsChain, onward}
use Rattle.strm_links.specs.declared.chained.Link.{Link}
use Rattle.strm_links.specs.declared.chained.Span.{Span}
use Rattle.strm_links.proofs.lists.Counting.{times_below, items_none, times-append, Changes-one, times-set}
use Rattle.strm_links.proofs.lists.ListLinks.{LeadsOn-kept, LeadsOn-parts, first-take, has_first, has_last, last-take, link_last, onward-at, LeadsOn-end}
use Rattle.strm_links.proofs.lists.OneList.{ApartParts, IsApart-parts, has_left}
use Rattle.strm_links.proofs.chains.StoredChains.{begins_none, IsChained-moved, apart_from, write_elsewhere, write_here, free_apart, free_low, not_free, not_in_chain}

-- ---- the nodes of a new arena, which are all free

-- the first of the numbers from a to m - 1
first_below : (a n m : ℕ) → a + n ≡ m → (if nat_lt a m then Some a else None) ≡ first (range_with_len a n)
first_below a zero m is = cond-false _ _ _ (le-ltb a m (omega (arith, is)))
first_below a (suc n) m is = cond-true _ _ _ (lt-ltb a m (omega (arith, is)))

-- each of them leads on to the next
below_lead : (next : ℕ → Option ℕ) (a n m : ℕ) → a + n ≡ m → ((k : ℕ) → k < m → next k ≡ (if nat_lt (k + 1) m then Some (k + 1) else None)) → LeadsOn next (range_with_len a n) None
below_lead next a zero m is links = tt
below_lead next a (suc n) m is links = (links a (omega (arith, is)) ∙ first_below (a + 1) n m (omega (arith, is)), below_lead next (a + 1) n m (omega (arith, is)) links)

none_begun : (n h : ℕ) → chain_in {X = ℕ} (replicate n None) h ≡ None
none_begun zero h = refl
none_begun (suc n) zero = refl
none_begun (suc n) (suc h) = none_begun n h

-- all nodes are free, and lead on in rising order
pub IsChained-opened : {n : ℕ} (links : List Link) → n < 2 ^ 32 → length links ≡ n → ((k : ℕ) → k < n → after_at links k ≡ (if nat_lt (k + 1) n then Some (k + 1) else None)) → ((k : ℕ) → span_at links k ≡ no_span)
    → IsChained links (if nat_lt 0 n then Some 0 else None) n (record { free = range_with_len 0 n; chains = replicate n None })
IsChained-opened {n} links few long leads spans =
    let many : length (replicate {A = Option (List ℕ)} n None) ≡ n = length-replicate n None in
    record {
      node_count = long ∙ sym many;
      few_nodes = omega (arith, few, many);
      free_count = sym (length-range_with_len 0 n);
      free_front = first_below 0 n n (zero-add n);
      free_leads = below_lead (after_at links) 0 n n (zero-add n) leads;
      heads = λ h. subst (IsHeadOf (after_at links) (span_at links h) h) (sym (none_begun n h)) (ap (λ (s : Span). s.len) (spans h));
      once = λ k.
          ap (λ xs. times k (range_with_len 0 n ++ xs)) (items_none n) ∙ ap (times k) (append-nil (range_with_len 0 n)) ∙ times_below k n
          ∙ ap (λ m. if nat_lt k m then 1 else 0) (sym many);
    }

-- ---- the first free nodes become a chain

module _ {nodes : List Link} {first_free : Option ℕ} {free_len : ℕ} {v : ByHead} (laid : IsChained nodes first_free free_len v) where
  -- ---- the first part of the free nodes, from h to t

  module _ (ps qs : List ℕ) (split : v.free ≡ ps ++ qs) (h t : ℕ) (begins : first ps ≡ Some h) (ends : last ps ≡ Some t) where
    in_free : (k : ℕ) → has k ps ≡ true → has k v.free ≡ true
    in_free k there = ap (has k) split ∙ has_left k ps qs there

    -- both are nodes
    pub begun_low : (h < length v.chains) × (t < length v.chains)
    begun_low = (free_low v laid.once h (in_free h (has_first ps h begins)), free_low v laid.once t (in_free t (has_last ps t ends)))

    parts : ApartParts ps qs
    parts = IsApart-parts ps qs (subst IsApart split (free_apart v laid.once))

    leads : LeadsOn (after_at nodes) ps (first qs) × LeadsOn (after_at nodes) qs None
    leads = LeadsOn-parts (after_at nodes) ps qs None (subst (λ xs. LeadsOn (after_at nodes) xs None) split laid.free_leads)

    -- the last leads on to the free nodes that are left
    pub begun_next : after_at nodes t ≡ first qs
    begun_next = link_last (after_at nodes) ps (first qs) t ends leads.0

    module _ (new : List Link) (long : length new ≡ length nodes) (nexts : (k : ℕ) → after_at new k ≡ (if t == k then None else after_at nodes k))
        (spans : (k : ℕ) → span_at new k ≡ (if h == k then record { last = t; len = length ps } else span_at nodes k)) where
      begun_chain : IsChain (after_at new) (record { last = t; len = length ps }) h ps
      begun_chain = record {
        head = begins;
        last = ends;
        len = refl;
        leads = LeadsOn-end (after_at nodes) (after_at new) ps (first qs) None t ends parts.left leads.0 (nexts t ∙ write_here t _) (λ k there other. nexts k ∙ write_elsewhere t k _ other);
      }

      pub IsChained-begun : IsChained new (after_at nodes t) (free_len - length ps) (record v { free = qs; chains = set v.chains h (Some ps) })
      IsChained-begun =
          let here : IsChain (after_at new) (span_at new h) h ps = subst (λ s. IsChain (after_at new) s h ps) (sym (spans h ∙ write_here h _)) begun_chain in
          let none = begins_none laid h (not_in_chain v laid.once h h (in_free h (has_first ps h begins))) in
          IsChained-moved new qs v.free (set v.chains h (Some ps)) h h (Some ps) (Some ps)
          (record {
            long = long;
            changes = Changes-one v.chains h (Some ps) begun_low.0;
            spans = λ g other _. spans g ∙ write_elsewhere h g _ other;
            links = λ k absent. nexts k ∙ write_elsewhere t k _ (apart_from k t v.free (in_free t (has_last ps t ends)) absent);
            others = λ g k _ _ there. not_free v laid.once g k there;
            here = here;
            there = here;
            free_leads = LeadsOn-kept (after_at nodes) (after_at new) qs None (λ k there. nexts k ∙ write_elsewhere t k _ (λ same. apart_from t k qs there (parts.cross t (has_last ps t ends)) (sym same))) leads.1;
            same = λ k. omega (arith, times-append k ps qs, ap (times k) split, times-set k h (Some ps) v.chains begun_low.0, ap (λ m. times k (items_of m)) none);
          }) (free_len - length ps) laid begun_next (omega (arith, laid.free_count, ap length split, length-append ps qs))

  -- ---- several

  -- the first of them is a node
  pub front_low : {h : ℕ} → first_free ≡ Some h → h < length v.chains
  front_low {h} at = free_low v laid.once h (has_first v.free h (sym laid.free_front ∙ at))

  -- with which no chain begins
  pub front_none : {h : ℕ} → first_free ≡ Some h → chain_in v.chains h ≡ None
  front_none {h} at = begins_none laid h (not_in_chain v laid.once h h (has_first v.free h (sym laid.free_front ∙ at)))

  module _ {h : ℕ} (c m : ℕ) (at : first_free ≡ Some h) (is : c ≡ suc m) (enough : m < length v.free) where
    -- one step less leads to the last of them
    pub several_there : onward (after_at nodes) m (Some h) ≡ Some (get_or v.free m 0)
    several_there = ap (onward (after_at nodes) m) (sym at ∙ laid.free_front) ∙ onward-at (after_at nodes) v.free None m laid.free_leads enough

    module _ {t : ℕ} (walked : onward (after_at nodes) m (Some h) ≡ Some t) where
      begins : first (take c v.free) ≡ Some h
      begins = ap (λ j. first (take j v.free)) is ∙ first-take v.free m ∙ sym laid.free_front ∙ at

      ends : last (take c v.free) ≡ Some t
      ends = ap (λ j. last (take j v.free)) is ∙ last-take v.free m enough ∙ sym several_there ∙ walked

      split : v.free ≡ take c v.free ++ drop c v.free
      split = sym (take-append-drop c v.free)

      pub several_low : (h < length v.chains) × (t < length v.chains)
      several_low = begun_low (take c v.free) (drop c v.free) split h t begins ends

      pub IsChained-begun_several : (new : List Link) → length new ≡ length nodes → ((k : ℕ) → after_at new k ≡ (if t == k then None else after_at nodes k))
          → ((k : ℕ) → span_at new k ≡ (if h == k then record { last = t; len = c } else span_at nodes k))
          → IsChained new (after_at nodes t) (free_len - c) (record v { free = drop c v.free; chains = set v.chains h (Some (take c v.free)) })
      IsChained-begun_several new long nexts spans =
          let few : length (take c v.free) ≡ c = length-take-le c v.free (omega (arith, is)) in
          subst (λ j. IsChained new (after_at nodes t) (free_len - j) (record v { free = drop c v.free; chains = set v.chains h (Some (take c v.free)) })) few
          (IsChained-begun (take c v.free) (drop c v.free) split h t begins ends new long nexts
          (λ k. spans k ∙ ap (λ j. if h == k then record { last = t; len = j } else span_at nodes k) (sym few)))
