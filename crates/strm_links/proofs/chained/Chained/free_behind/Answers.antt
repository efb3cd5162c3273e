use Rattle.std.proofs.Common.{◌≡◌, ◌≢◌, ◌==◌, ◌+◌, ◌++◌, ◌<◌, List, ℕ, length, drop, reverse, set, take, ap, arith, false, refl, sym, ◌∙◌, subst, Some, IsSome, if◌then◌else◌}
use Rattle.std.proofs.lemmas.Bool.{false≢true}
use Rattle.strm_links.specs.Rows.{IsApart, first, first_or, has}
use Rattle.strm_links.specs.Layout.{LeadsOn}
use Rattle.strm_links.specs.Chains.{chain_in}
use Rattle.strm_links.specs.ChainLists.{IsLawful, nodes_at, with_behind_freed}
use Rattle.strm_links.specs.ChainLayout.{IsChained, after_at, chain_at, chains_in, links_of}
use Rattle.strm_links.specs.declared.chained.Link.{Link}
use Rattle.strm_links.proofs.lists.ListLinks.{LeadsOn-kept}
use Rattle.strm_links.proofs.lists.Counting.{is_there}
use Rattle.strm_links.proofs.chains.Freed.{IsChained-behind_freed, behind_apart, behind_count, behind_first, behind_len, behind_low, behind_off, behind_onward, behind_path, behind_room, behind_some, has-reverse}
use Rattle.strm_links.proofs.chains.StoredChains.{span_without, write_elsewhere, write_here}
use Rattle.strm_links.proofs.chains.Whole.{IsLawful-whole, Shows, IsWhole-one, count_is, free_is, held_low, held_read, least_is, lists_are, loads_kept, low_room, nodes_are, none_freed, off, room, there}
use Rattle.strm_links.proofs.chains.Written.{links_long}
use Rattle.strm_links.proofs.chained.Chained.free_behind.Given.{Over}
use Rattle.strm_links.proofs.chained.Chained.free_behind.Goals as goal
use Rattle.strm_links.proofs.chained.Chained.free_behind.Goals.{Start, After-index, After-keep}

-- the chain is held
held : (g : Over) (c : Start g) → IsSome (chain_in c.args.self.now.lists.held c.args.head)
held g c = is_there (chain_in c.args.self.now.lists.held c.args.head) c.args.count c.requires

pub index-requires : goal.index-requires
index-requires g c = omega (arith, held_low c.self.invariant c.self.view_is c.args.head (held g (goal.at.index-requires g c).Start))

pub returns-then-count-eq0 : goal.returns-then-count-eq0
returns-then-count-eq0 g c = record {
  after = sym (none_freed c.self.invariant c.self.view_is c.args.head (held g (goal.at.returns-then-count-eq0 g c).Start)) ∙ ap (λ n. with_behind_freed c.args.head n (nodes_at c.args.self.now.lists c.args.head) c.args.self.now.lists) (sym c.if-count-eq0.true);
  loads = refl;
  parted = subst IsLawful (lists_are c.self.invariant c.self.view_is) (IsLawful-whole c.self.invariant);
}

-- the chain is longer than the count
longer : (g : Over) (c : After-index g) → c.args.count < length (chain_at (chains_in c.self.inside.table c.self.inside.first_free c.self.inside.free_len) c.args.head)
longer g c = subst (λ xs. c.args.count < length xs) (nodes_are c.self.invariant c.self.view_is c.args.head (is_there (chain_in c.args.self.now.lists.held c.args.head) c.args.count c.requires)) c.requires

-- ---- the nodes whose links are reversed

pub number-requires : goal.number-requires
number-requires g c =
    let at = goal.at.number-requires g c in
    subst IsSome (sym (ap (λ (l : Link). l.next) (held_read c.self.invariant c.self.view_is c.args.head (held g at.Start) c.index.ensures)))
    (behind_some c.self.invariant.chained c.args.head (there c.self.invariant c.self.view_is c.args.head (held g at.Start)) c.args.count (omega (arith, c.if-count-eq0.false)) (longer g at.After-index))

pub reverse_links-freed-requires : goal.reverse_links-freed-requires
reverse_links-freed-requires g c =
    let at = goal.at.reverse_links-freed-requires g c in
    let chained = c.self.invariant.chained in
    let h = there c.self.invariant c.self.view_is c.args.head (held g at.Start) in
    let longer = longer g at.After-index in
    let any : 0 < c.args.count = omega (arith, c.if-count-eq0.false) in
    let on = sym (ap (λ (l : Link). l.next) (held_read c.self.invariant c.self.view_is c.args.head (held g at.Start) c.index.ensures)) ∙ c.number.ensures in
    let is = behind_path chained c.args.head h c.args.count any longer on in
    record {
      few = omega (arith, room c.self.invariant c.self.view_is, count_is c.self.invariant c.self.view_is, chained.few_nodes);
      begins = ap first is ∙ behind_first chained c.args.head h c.args.count any longer on;
      len = ap length is ∙ behind_count chained c.args.head h c.args.count any longer;
      apart = subst IsApart (sym is) (behind_apart chained c.args.head h c.args.count any longer);
      within = λ k inside. omega (arith, low_room c.self.invariant c.self.view_is k (behind_low chained c.args.head h c.args.count any longer k (sym (ap (has k) is) ∙ inside)));
    }

pub lead-requires : goal.lead-requires
lead-requires g c = omega (arith, c.reverse_links-freed.ensures.len, held_low c.self.invariant c.self.view_is c.args.head (held g (goal.at.lead-requires g c).Start))

pub without-requires : goal.without-requires
without-requires g c =
    let at = goal.at.without-requires g c in
    omega (
      arith,
      ap (λ (l : Link). l.span.len) (held_read c.self.invariant c.self.view_is c.args.head (held g at.Start) c.index.ensures),
      behind_len c.self.invariant.chained c.args.head (there c.self.invariant c.self.view_is c.args.head (held g at.Start)) c.args.count (omega (arith, c.if-count-eq0.false)) (longer g at.After-index),
    )

pub keep-requires : goal.keep-requires
keep-requires g c = omega (arith, c.lead.ensures.len, c.reverse_links-freed.ensures.len, held_low c.self.invariant c.self.view_is c.args.head (held g (goal.at.keep-requires g c).Start))

pub overflow_add-self : goal.overflow_add-self
overflow_add-self g c =
    let at = goal.at.overflow_add-self g c in
    omega (
      arith,
      c.self.invariant.chained.few_nodes,
      behind_room c.self.invariant.chained c.args.head (there c.self.invariant c.self.view_is c.args.head (held g at.Start)) c.args.count (omega (arith, c.if-count-eq0.false)) (longer g at.After-index),
    )

-- ---- what the nodes hold after the writes

moved : (g : Over) (c : After-keep g)
    → Shows (record c.self.inside.table { nodes = c.keep.new.nodes }) c.reverse_links-freed.result.last (c.self.inside.free_len + c.args.count) c.self.inside.least
    (with_behind_freed c.args.head c.args.count (nodes_at c.args.self.now.lists c.args.head) c.args.self.now.lists)
moved g c =
    let chained = c.self.invariant.chained in
    let now = c.args.self.now.lists in
    let links = links_of c.self.inside.table.nodes.items in
    let new = links_of c.keep.new.nodes.items in
    let h = c.args.head in
    let n = c.args.count in
    let v = chains_in c.self.inside.table c.self.inside.first_free c.self.inside.free_len in
    let some = is_there (chain_in now.held h) n c.requires in
    let chain = there c.self.invariant c.self.view_is h some in
    let longer = subst (λ xs. n < length xs) (nodes_are c.self.invariant c.self.view_is h some) c.requires in
    let read = held_read c.self.invariant c.self.view_is h some c.index.ensures in
    let any : 0 < n = omega (arith, c.if-count-eq0.false) in
    let on : after_at links h ≡ Some c.number.result = sym (ap (λ (l : Link). l.next) read) ∙ c.number.ensures in
    let reversed = behind_path chained h chain n any longer on in
    let out = take n (drop 1 (chain_at v h)) in
    let rest = take 1 (chain_at v h) ++ drop (n + 1) (chain_at v h) in
    let outside : has h out ≡ false = behind_off chained h chain n any longer in
    let beyond : c.reverse_links-freed.result.next ≡ first (drop (n + 1) (chain_at v h)) = c.reverse_links-freed.ensures.next ∙ behind_onward chained h chain n any longer on in
    let last : c.reverse_links-freed.result.last ≡ first_or c.self.inside.first_free (reverse out) = c.reverse_links-freed.ensures.last ∙ ap (λ (xs : List ℕ). first_or c.self.inside.first_free (reverse xs)) reversed in
    let others : (k : ℕ) → k ≢ h → after_at new k ≡ after_at (links_of c.reverse_links-freed.new.nodes.items) k = λ k other. c.keep.ensures.nexts k ∙ c.lead.ensures.nexts k ∙ write_elsewhere h k _ other in
    let leads : LeadsOn (after_at new) (reverse out) c.self.inside.first_free =
    LeadsOn-kept _ (after_at new) _ _ (λ k found. others k (λ same. false≢true (sym outside ∙ ap (λ j. has j out) (sym same) ∙ has-reverse k out found)))
    (subst (λ (xs : List ℕ). LeadsOn (after_at (links_of c.reverse_links-freed.new.nodes.items)) (reverse xs) c.self.inside.first_free) reversed c.reverse_links-freed.ensures.reversed) in
    let laid = IsChained-behind_freed chained h chain n any longer new (links_long _ _ (omega (arith, c.keep.ensures.len, c.lead.ensures.len, c.reverse_links-freed.ensures.len))) leads
    (c.keep.ensures.nexts h ∙ c.lead.ensures.nexts h ∙ write_here h _ ∙ beyond)
    (λ k other absent. others k other ∙ c.reverse_links-freed.ensures.others k (ap (has k) reversed ∙ absent))
    (λ k. c.keep.ensures.spans k
    ∙ (λ i. if h == k then c.without.ensures i else c.lead.ensures.spans k i)
    ∙ (λ i. if h == k then span_without (read i).span n h (beyond i) else c.reverse_links-freed.ensures.spans k i)) in
    subst (Shows _ _ _ _) ((λ i. record now { free = reverse out ++ free_is c.self.invariant c.self.view_is i; held = set now.held h (Some rest); least = least_is c.self.invariant c.self.view_is i }) ∙ ap (λ xs. with_behind_freed h n xs now) (sym (nodes_are c.self.invariant c.self.view_is h some)))
    (IsWhole-one c.self.invariant c.self.view_is c.keep.new.nodes (c.keep.ensures.rest ∙ c.lead.ensures.rest ∙ c.reverse_links-freed.ensures.rest) h _ (off c.self.invariant c.self.view_is h some)
    (subst (λ o. IsChained new o (c.self.inside.free_len + n) (record { free = reverse out ++ v.free; chains = set v.chains h (Some rest) })) (sym last) laid) (omega (arith, c.self.invariant.fewest)))

pub invariant_of-self : goal.invariant_of-self
invariant_of-self g c = (moved g (goal.at.invariant_of-self g c).After-keep).whole

pub returns : goal.returns
returns g c =
    let both = moved g (goal.at.returns g c).After-keep in
    record { after = both.lists; loads = loads_kept c.self.invariant c.self.view_is c.keep.new.nodes (c.keep.ensures.rest ∙ c.lead.ensures.rest ∙ c.reverse_links-freed.ensures.rest); parted = IsLawful-whole both.whole }
