-- How `Chained` stores free nodes and chains, what it stores says of them, and what a change has to keep.
use Rattle.std.proofs.Common.{set, reverse, length-append, ◌≡◌, ◌≢◌, ◌⊎◌, ℕ, ◌+◌, ◌-◌, ◌<◌, ◌≤◌, true, false, List, ◌++◌, length, if◌then◌else◌, sym, ◌∙◌, inl, inr, arith, [], ◌∷◌, map, Option, Some, None, IsSome, refl, ap, subst, ◌==◌}
use Rattle.std.specs.Prelude.{is_none, nat_lt, slice_get}
use Rattle.std.specs.List.{range_with_len}
use Rattle.std.proofs.lemmas.Bool.{cases_lt, cond-true, cond-false, lt-ltb, le-ltb, false_from_ne_true, eq-eqb, ne_eqb, false≢true, cases_eq}
use Rattle.std.proofs.lemmas.Bool.Decides.{nat_tests}
use Rattle.std.proofs.lemmas.List.{length-reverse, get_or_past}
use Rattle.std.proofs.lemmas.List.FromFn.{fill_by_all}
use Rattle.std.proofs.lemmas.Option.{none-some}
use Rattle.strm_links.specs.Rows.{first_or, has, IsApart, first, after}
use Rattle.strm_links.specs.Counting.{times}
use Rattle.strm_links.specs.Chains.{items_in, chain_in, items_of}
use Rattle.strm_links.specs.ChainLayout.{ByHead, all_in, chain_at}
use Rattle.strm_links.specs.Layout.{walk, LeadsOn}
use Rattle.strm_links.specs.ChainLayout.{IsHeadOf, IsChained, IsChain, after_at, no_link, path, span_at, chain_from, by_head}
use Rattle.strm_links.specs.declared.chained.Link.{Link}
use Rattle.strm_links.specs.declared.chained.Span.{Span}
use Rattle.strm_links.proofs.lists.Counting.{times-reverse, apart_once, has_times, times-append, times_has, Changes-one, Changes-two, times-set, times-set_two, some_chain, times_one, times_two, Changes}
use Rattle.strm_links.proofs.lists.OneList.{first_or-append, length_below, after-get, has_get}
use Rattle.strm_links.proofs.lists.ListLinks.{LeadsOn-append, LeadsOn-kept, next_is, walk_is, has_first, has_last}

-- ---- each node is once in all, free or in a chain

module _ (v : ByHead) (once : (n : ℕ) → times n (all_in v) ≡ (if nat_lt n (length v.chains) then 1 else 0)) where
  -- how often a node is in all
  pub node_once : (k : ℕ) → k < length v.chains → times k v.free + times k (items_in v.chains) ≡ 1
  node_once k within = sym (times-append k v.free (items_in v.chains)) ∙ once k ∙ cond-true _ 1 0 (lt-ltb k (length v.chains) within)

  -- a number that is no node is not there
  past_none : (k : ℕ) → length v.chains ≤ k → times k v.free + times k (items_in v.chains) ≡ 0
  past_none k past = sym (times-append k v.free (items_in v.chains)) ∙ once k ∙ cond-false _ 1 0 (le-ltb k (length v.chains) past)

  most : (k : ℕ) → times k v.free + times k (items_in v.chains) ≤ 1
  most k = elim (cases_lt k (length v.chains)) [ inl within ↦ omega (arith, node_once k within) | inr past ↦ omega (arith, past_none k past) ]

  low : (k : ℕ) → 0 < times k v.free + times k (items_in v.chains) → k < length v.chains
  low k some = elim (cases_lt k (length v.chains)) [ inl within ↦ within | inr past ↦ absurd (omega (arith, some, past_none k past)) ]

  -- ---- some of all nodes

  module _ (xs : List ℕ) (some : (k : ℕ) → times k xs ≤ times k v.free + times k (items_in v.chains)) where
    -- none of them is there twice
    pub part_apart : IsApart xs
    part_apart = apart_once xs (λ k. omega (arith, some k, most k))

    -- each is below the number of nodes
    pub part_low : (k : ℕ) → has k xs ≡ true → k < length v.chains
    part_low k there = low k (omega (arith, some k, times_has k xs there))

    -- there are at most as many as nodes
    pub part_few : length xs ≤ length v.chains
    part_few = length_below (length v.chains) xs part_apart part_low

  free_part : (k : ℕ) → times k v.free ≤ times k v.free + times k (items_in v.chains)
  free_part k = omega arith

  chain_part : (h k : ℕ) → times k (chain_at v h) ≤ times k v.free + times k (items_in v.chains)
  chain_part h k = omega (arith, times_one k h v.chains)

  -- ---- the free nodes, and those of a chain

  pub free_apart : IsApart v.free
  free_apart = part_apart v.free free_part

  pub free_low : (k : ℕ) → has k v.free ≡ true → k < length v.chains
  free_low = part_low v.free free_part

  pub chain_apart : (h : ℕ) → IsApart (chain_at v h)
  chain_apart h = part_apart (chain_at v h) (chain_part h)

  pub chain_low : (h k : ℕ) → has k (chain_at v h) ≡ true → k < length v.chains
  chain_low h = part_low (chain_at v h) (chain_part h)

  -- ---- two of these have no node in common

  pub not_in_chain : (h k : ℕ) → has k v.free ≡ true → has k (chain_at v h) ≡ false
  not_in_chain h k free = false_from_ne_true _ (λ here. absurd (omega (arith, most k, times_one k h v.chains, times_has k v.free free, times_has k (chain_at v h) here)))

  pub not_free : (h k : ℕ) → has k (chain_at v h) ≡ true → has k v.free ≡ false
  not_free h k here = false_from_ne_true _ (λ free. absurd (omega (arith, most k, times_one k h v.chains, times_has k v.free free, times_has k (chain_at v h) here)))

  pub not_in_other : (g h k : ℕ) → g ≢ h → has k (chain_at v g) ≡ true → has k (chain_at v h) ≡ false
  not_in_other g h k other there =
      false_from_ne_true _ (λ here. absurd (omega (arith, most k, times_two k g h v.chains other, times_has k (chain_at v g) there, times_has k (chain_at v h) here)))

  -- two together have at most all nodes
  pub two_few : (g h : ℕ) → g ≢ h → length (chain_at v g ++ chain_at v h) ≤ length v.chains
  two_few g h other =
      part_few (chain_at v g ++ chain_at v h) (λ k. omega (arith, times-append k (chain_at v g) (chain_at v h), times_two k g h v.chains other))

  pub freed_few : (h : ℕ) → length (chain_at v h ++ v.free) ≤ length v.chains
  freed_few h = part_few (chain_at v h ++ v.free) (λ k. omega (arith, times-append k (chain_at v h) v.free, times_one k h v.chains))

  -- ---- each node is free or in a chain

  pub somewhere : (k : ℕ) → k < length v.chains → (has k v.free ≡ true) ⊎ ((h : ℕ) × (has k (chain_at v h) ≡ true))
  somewhere k within =
      elim (cases_lt 0 (times k v.free)) [
        | inl free ↦ inl (has_times k v.free free)
        | inr none ↦ inr (some_chain k v.chains (omega (arith, node_once k within, none)))
      ]

-- ---- the view

-- the walk from a head finds its chain
path_is : (nodes : List Link) {span : Span} {h : ℕ} {xs : List ℕ} → IsChain (after_at nodes) span h xs → path nodes span.len (Some h) ≡ xs
unfolding path
path_is nodes {xs} laid = rw (laid.len, sym laid.head) (walk_is (after_at nodes) xs None laid.leads)

-- a contract sees the chain that is stored at a node
chain_is : (nodes : List Link) (h : ℕ) (m : Option (List ℕ)) → IsHeadOf (after_at nodes) (span_at nodes h) h m → chain_from nodes h ≡ m
chain_is nodes h None laid = cond-true _ _ _ (eq-eqb (span_at nodes h).len 0 laid)
chain_is nodes h (Some []) laid = absurd (none-some h laid.head)
chain_is nodes h (Some (x ∷ xs)) laid =
    cond-false _ _ _ (ne_eqb (span_at nodes h).len 0 (λ same. absurd (omega (arith, same, laid.len)))) ∙ ap Some (path_is nodes laid)

-- a contract sees stored nodes as what they hold
pub by_head_is : {nodes : List Link} {first_free : Option ℕ} {free_len : ℕ} {v : ByHead} → IsChained nodes first_free free_len v → by_head nodes first_free free_len ≡ v
unfolding path
by_head_is {nodes} {first_free} {free_len} {v} laid =
    let free : walk (after_at nodes) free_len first_free ≡ v.free = rw (laid.free_count, laid.free_front) (walk_is (after_at nodes) v.free None laid.free_leads) in
    let chains : map (chain_from nodes) (range_with_len 0 (length nodes)) ≡ v.chains =
    sym (fill_by_all (chain_from nodes) v.chains (length nodes) None (sym laid.node_count) (λ h within. sym (chain_is nodes h (chain_in v.chains h) (laid.heads h)))) in
    λ i. record { free = free i; chains = chains i }

-- the stored invariant holds at the value that a contract sees
pub IsChained-stored : {nodes : List Link} {first_free : Option ℕ} {free_len : ℕ} {v : ByHead} → IsChained nodes first_free free_len v → IsChained nodes first_free free_len (by_head nodes first_free free_len)
IsChained-stored {nodes} {first_free} {free_len} laid = subst (IsChained nodes first_free free_len) (sym (by_head_is laid)) laid

-- ---- what the stored nodes say

pub some_items : (m : Option (List ℕ)) → IsSome m → m ≡ Some (items_of m)
some_items None some = absurd (false≢true some)
some_items (Some xs) some = refl

-- a head stays one if what it keeps and the links of its chain stay
pub IsHeadOf-kept : (next new : ℕ → Option ℕ) {span span' : Span} (h : ℕ) (m : Option (List ℕ)) → span' ≡ span → ((k : ℕ) → has k (items_of m) ≡ true → new k ≡ next k)
    → IsHeadOf next span h m → IsHeadOf new span' h m
IsHeadOf-kept next new h None same links was = ap (λ (s : Span). s.len) same ∙ was
IsHeadOf-kept next new h (Some xs) same links was = record {
  head = was.head;
  last = was.last ∙ sym (ap (λ (s : Span). Some s.last) same);
  len = ap (λ (s : Span). s.len) same ∙ was.len;
  leads = LeadsOn-kept next new xs None links was.leads;
}

has_after : (xs : List ℕ) (k j : ℕ) → after k xs ≡ Some j → has j xs ≡ true
has_after [] k j is = absurd (none-some j is)
has_after (x ∷ []) k j is = grind (arith, nat_tests)
has_after (x ∷ y ∷ xs) k j is = grind (arith, nat_tests, has_after (y ∷ xs) k j)

module _ {nodes : List Link} {first_free : Option ℕ} {free_len : ℕ} {v : ByHead} (laid : IsChained nodes first_free free_len v) where
  -- the chain with this head
  pub chain_laid : (h : ℕ) → IsSome (chain_in v.chains h) → IsChain (after_at nodes) (span_at nodes h) h (chain_at v h)
  chain_laid h some = subst (IsHeadOf (after_at nodes) (span_at nodes h) h) (some_items (chain_in v.chains h) some) (laid.heads h)

  pub chain_path : (h : ℕ) → IsSome (chain_in v.chains h) → path nodes (span_at nodes h).len (Some h) ≡ chain_at v h
  chain_path h some = path_is nodes (chain_laid h some)

  -- its head and its last node are in it, and are nodes
  pub head_in : (h : ℕ) → IsSome (chain_in v.chains h) → has h (chain_at v h) ≡ true
  head_in h some = has_first (chain_at v h) h (chain_laid h some).head

  pub head_low : (h : ℕ) → IsSome (chain_in v.chains h) → h < length v.chains
  head_low h some = chain_low v laid.once h h (head_in h some)

  pub last_in : (h : ℕ) → IsSome (chain_in v.chains h) → has (span_at nodes h).last (chain_at v h) ≡ true
  last_in h some = has_last (chain_at v h) (span_at nodes h).last (chain_laid h some).last

  pub last_low : (h : ℕ) → IsSome (chain_in v.chains h) → (span_at nodes h).last < length v.chains
  last_low h some = chain_low v laid.once h (span_at nodes h).last (last_in h some)

  -- no chain begins with a node that is not in the chain at that node
  pub begins_none : (h : ℕ) → has h (chain_at v h) ≡ false → chain_in v.chains h ≡ None
  begins_none h absent = grind (arith, nat_tests, head_in h)

  -- so none begins with a later node of another chain
  pub behind_begins_none : (g h : ℕ) → g ≢ h → has g (chain_at v h) ≡ true → chain_in v.chains g ≡ None
  behind_begins_none g h other there = begins_none g (false_from_ne_true _ (λ here. false≢true (sym (not_in_other v laid.once g h g other here) ∙ there)))

  -- ---- where the links lead

  head_leads : (h : ℕ) (m : Option (List ℕ)) → IsHeadOf (after_at nodes) (span_at nodes h) h m → LeadsOn (after_at nodes) (items_of m) None
  head_leads h None was = tt
  head_leads h (Some xs) was = was.leads

  -- from each node of a chain to the next one
  pub next_in_chain : (h i : ℕ) {k : ℕ} → slice_get (chain_at v h) i ≡ Some k → after_at nodes k ≡ slice_get (chain_at v h) (i + 1)
  next_in_chain h i {k} is =
      next_is (after_at nodes) (chain_at v h) k (head_leads h (chain_in v.chains h) (laid.heads h)) (has_get (chain_at v h) i k is)
      ∙ after-get (chain_at v h) i k (chain_apart v laid.once h) is

  -- only to nodes
  pub next_within : (k : ℕ) {j : ℕ} → after_at nodes k ≡ Some j → j < length v.chains
  next_within k {j} is =
      elim (cases_lt k (length v.chains)) [
        | inl within ↦
            elim (somewhere v laid.once k within) [
              | inl free ↦ free_low v laid.once j (on_list v.free laid.free_leads free)
              | inr there ↦ chain_low v laid.once there.0 j (on_list (chain_at v there.0) (head_leads there.0 (chain_in v.chains there.0) (laid.heads there.0)) there.1)
            ]
        | inr past ↦ absurd (none-some j (sym (ap (λ (x : Link). x.next) (get_or_past nodes k no_link (omega (arith, laid.node_count)))) ∙ is))
      ]
    where
      on_list : (xs : List ℕ) → LeadsOn (after_at nodes) xs None → has k xs ≡ true → has j xs ≡ true
      on_list xs leads there = has_after xs k j (sym (next_is (after_at nodes) xs k leads there) ∙ is)

-- ---- a change

-- only nodes of `touched` may lead elsewhere, and only the heads a and b keep something else: the chains `m` and
-- `o` begin there now, and the nodes of `free` are free
pub record Moves (old new : List Link) (v : ByHead) (free touched : List ℕ) (chains : List (Option (List ℕ))) (a b : ℕ) (m o : Option (List ℕ)) : Type 0 where
  pub long : length new ≡ length old
  pub changes : Changes v.chains chains a b m o
  pub spans : (g : ℕ) → g ≢ a → g ≢ b → span_at new g ≡ span_at old g
  pub links : (k : ℕ) → has k touched ≡ false → after_at new k ≡ after_at old k
  pub others : (g k : ℕ) → g ≢ a → g ≢ b → has k (chain_at v g) ≡ true → has k touched ≡ false
  pub here : IsHeadOf (after_at new) (span_at new a) a m
  pub there : IsHeadOf (after_at new) (span_at new b) b o
  pub free_leads : LeadsOn (after_at new) free None
  pub same : (k : ℕ) → times k free + times k (items_in chains) ≡ times k v.free + times k (items_in v.chains)

module _ {old : List Link} (new : List Link) {v : ByHead} (free touched : List ℕ) (chains : List (Option (List ℕ))) (a b : ℕ) (m o : Option (List ℕ)) (moves : Moves old new v free touched chains a b m o) where
  heads : ((h : ℕ) → IsHeadOf (after_at old) (span_at old h) h (chain_in v.chains h)) → (g : ℕ) → IsHeadOf (after_at new) (span_at new g) g (chain_in chains g)
  heads was g =
      elim (cases_eq g a) [
        | inl same ↦ subst (λ j. IsHeadOf (after_at new) (span_at new j) j (chain_in chains j)) (sym same) (subst (IsHeadOf (after_at new) (span_at new a) a) (sym moves.changes.here) moves.here)
        | inr off_a ↦
            elim (cases_eq g b) [
              | inl same ↦ subst (λ j. IsHeadOf (after_at new) (span_at new j) j (chain_in chains j)) (sym same) (subst (IsHeadOf (after_at new) (span_at new b) b) (sym moves.changes.there) moves.there)
              | inr off_b ↦
                  subst (IsHeadOf (after_at new) (span_at new g) g) (sym (moves.changes.others g off_a off_b))
                  (IsHeadOf-kept (after_at old) (after_at new) g (chain_in v.chains g) (moves.spans g off_a off_b)
                  (λ k there. moves.links k (moves.others g k off_a off_b there)) (was g))
            ]
      ]

  -- after such a change the nodes store these lists
  pub IsChained-moved : {first_free first_free' : Option ℕ} {free_len : ℕ} (free_len' : ℕ) → IsChained old first_free free_len v → first_free' ≡ first free → free_len' ≡ length free → IsChained new first_free' free_len' (record { free = free; chains = chains })
  IsChained-moved free_len' laid begins counts = record {
    node_count = moves.long ∙ laid.node_count ∙ sym moves.changes.long;
    few_nodes = omega (arith, laid.few_nodes, moves.changes.long);
    free_count = counts;
    free_front = begins;
    free_leads = moves.free_leads;
    heads = heads laid.heads;
    once = λ k.
        let all : times k (free ++ items_in chains) ≡ times k (all_in v) = omega (arith, times-append k free (items_in chains), times-append k v.free (items_in v.chains), moves.same k) in
        all ∙ laid.once k ∙ ap (λ n. if nat_lt k n then 1 else 0) (sym moves.changes.long);
  }

-- only links of the chain at h change
module _ {nodes : List Link} {first_free : Option ℕ} {free_len : ℕ} {v : ByHead} (laid : IsChained nodes first_free free_len v) (h : ℕ) (new : List Link) (long : length new ≡ length nodes) (links : (k : ℕ) → has k (chain_at v h) ≡ false → after_at new k ≡ after_at nodes k) where
  -- the free nodes lead on as before
  free_kept : LeadsOn (after_at new) v.free None
  free_kept = LeadsOn-kept (after_at nodes) (after_at new) v.free None (λ k there. links k (not_in_chain v laid.once h k there)) laid.free_leads

  -- the nodes of `out` leave the chain and become free, the last one first; `m` is what is left of the chain
  pub IsChained-out : (out : List ℕ) (m : Option (List ℕ)) (first_free' : Option ℕ) (free_len' : ℕ) → IsSome (chain_in v.chains h) → LeadsOn (after_at new) (reverse out) first_free → ((g : ℕ) → g ≢ h → span_at new g ≡ span_at nodes g)
      → IsHeadOf (after_at new) (span_at new h) h m → ((k : ℕ) → times k (chain_at v h) ≡ times k out + times k (items_of m)) → first_free' ≡ first_or first_free (reverse out) → free_len' ≡ free_len + length out
      → IsChained new first_free' free_len' (record { free = reverse out ++ v.free; chains = set v.chains h m })
  IsChained-out out m first_free' free_len' some reversed spans here same begins counts =
      let low = head_low laid h some in
      IsChained-moved new (reverse out ++ v.free) (chain_at v h) (set v.chains h m) h h m m
      (record {
        long = long;
        changes = Changes-one v.chains h m low;
        spans = λ g other _. spans g other;
        links = links;
        others = λ g k other _ there. not_in_other v laid.once g h k other there;
        here = here;
        there = here;
        free_leads = LeadsOn-append (after_at new) (reverse out) v.free None (subst (LeadsOn (after_at new) (reverse out)) laid.free_front reversed) free_kept;
        same = λ k. omega (arith, same k, times-append k (reverse out) v.free, times-reverse k out, times-set k h m v.chains low);
      }) free_len' laid
      (begins ∙ ap (λ o. first_or o (reverse out)) laid.free_front ∙ sym (first_or-append None (reverse out) v.free))
      (omega (arith, counts, laid.free_count, length-append (reverse out) v.free, length-reverse out))

  -- the chains at a and b, of which one is h, exchange nodes: `m` and `o` begin there now
  pub IsChained-two : (a b : ℕ) (m o : Option (List ℕ)) → a ≢ b → a < length v.chains → b < length v.chains → ((g : ℕ) → g ≢ a → g ≢ b → (g ≢ h) × (span_at new g ≡ span_at nodes g))
      → IsHeadOf (after_at new) (span_at new a) a m → IsHeadOf (after_at new) (span_at new b) b o → ((k : ℕ) → times k (chain_at v a) + times k (chain_at v b) ≡ times k (items_of m) + times k (items_of o))
      → IsChained new first_free free_len (record v { chains = set (set v.chains a m) b o })
  IsChained-two a b m o other low_a low_b off here there same =
      IsChained-moved new v.free (chain_at v h) (set (set v.chains a m) b o) a b m o
      (record {
        long = long;
        changes = Changes-two v.chains a b m o other low_a low_b;
        spans = λ g off_a off_b. (off g off_a off_b).1;
        links = links;
        others = λ g k off_a off_b there. not_in_other v laid.once g h k (off g off_a off_b).0 there;
        here = here;
        there = there;
        free_leads = free_kept;
        same = λ k. omega (arith, same k, times-set_two k a b m o v.chains other low_a low_b);
      }) free_len laid laid.free_front laid.free_count

-- what a head stores once `count` nodes after `ahead` have left its chain, and `next` follows
abbrev pub span_without : Span → ℕ → ℕ → Option ℕ → Span
span_without s count ahead next = record { last = (if is_none next then ahead else s.last); len = s.len - count }

-- ---- one write

-- a value where the write is, and elsewhere
pub write_here : {X : Type 0} (at : ℕ) {x : X} (y : X) → (if at == at then x else y) ≡ x
write_here at y = cond-true _ _ _ (eq-eqb at at refl)

pub write_elsewhere : {X : Type 0} (at k : ℕ) (x : X) {y : X} → k ≢ at → (if at == k then x else y) ≡ y
write_elsewhere at k x other = cond-false _ _ _ (ne_eqb at k (λ same. other (sym same)))

-- a number that is not in a list differs from one that is
pub apart_from : (k at : ℕ) (xs : List ℕ) → has at xs ≡ true → has k xs ≡ false → k ≢ at
apart_from k at xs there absent same = false≢true (sym absent ∙ ap (λ j. has j xs) same ∙ there)
