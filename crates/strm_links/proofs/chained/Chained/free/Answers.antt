use Rattle.std.proofs.Common.{◌≡◌, ◌==◌, ◌+◌, ◌++◌, List, ℕ, length, reverse, set, ap, arith, sym, ◌∙◌, subst, Some, None, if◌then◌else◌}
use Rattle.strm_links.specs.Rows.{IsApart, first, first_or, has}
use Rattle.strm_links.specs.Layout.{LeadsOn}
use Rattle.strm_links.specs.ChainLists.{nodes_at}
use Rattle.strm_links.specs.ChainLayout.{after_at, chain_at, chains_in, links_of, path, span_at}
use Rattle.strm_links.proofs.lists.ListLinks.{LeadsOn-kept}
use Rattle.strm_links.proofs.chains.Freed.{IsChained-freed, freed_room}
use Rattle.strm_links.proofs.chains.StoredChains.{chain_apart, chain_laid, chain_low, chain_path}
use Rattle.strm_links.proofs.chains.Whole.{IsLawful-whole, Shows, IsWhole-one, count_is, free_is, held_low, least_is, loads_kept, low_room, nodes_are, off, room, there}
use Rattle.strm_links.proofs.chains.Written.{links_long}
use Rattle.strm_links.proofs.chained.Chained.free.Given.{Over}
use Rattle.strm_links.proofs.chained.Chained.free.Goals as goal
use Rattle.strm_links.proofs.chained.Chained.free.Goals.{After-self, After-keep}

-- the number of nodes is the one that the head stores
counted : (g : Over) (c : After-self g) → c.args.len ≡ (span_at (links_of c.self.inside.table.nodes.items) c.args.head).len
counted g c = c.requires.len ∙ ap length (nodes_are c.self.invariant c.self.view_is c.args.head c.requires.head) ∙ sym (chain_laid c.self.invariant.chained c.args.head (there c.self.invariant c.self.view_is c.args.head c.requires.head)).len

pub reverse_links-reversed-requires : goal.reverse_links-reversed-requires
reverse_links-reversed-requires g c =
    let at = (goal.at.reverse_links-reversed-requires g c).After-self in
    let chained = c.self.invariant.chained in
    let some = there c.self.invariant c.self.view_is c.args.head c.requires.head in
    let chain = chain_laid chained c.args.head some in
    let is = ap (λ n. path (links_of c.self.inside.table.nodes.items) n (Some c.args.head)) (counted g at) ∙ chain_path chained c.args.head some in
    record {
      few = omega (arith, room c.self.invariant c.self.view_is, count_is c.self.invariant c.self.view_is, chained.few_nodes);
      begins = ap first is ∙ chain.head;
      len = ap length is ∙ sym (counted g at ∙ chain.len);
      apart = subst IsApart (sym is) (chain_apart (chains_in c.self.inside.table c.self.inside.first_free c.self.inside.free_len) chained.once c.args.head);
      within = λ k found. omega (arith, low_room c.self.invariant c.self.view_is k (chain_low (chains_in c.self.inside.table c.self.inside.first_free c.self.inside.free_len) chained.once c.args.head k (sym (ap (has k) is) ∙ found)));
    }

pub keep-requires : goal.keep-requires
keep-requires g c = omega (arith, c.reverse_links-reversed.ensures.len, held_low c.self.invariant c.self.view_is c.args.head c.requires.head)

pub overflow_add-self : goal.overflow_add-self
overflow_add-self g c =
    omega (arith, c.self.invariant.chained.few_nodes, freed_room c.self.invariant.chained c.args.head (there c.self.invariant c.self.view_is c.args.head c.requires.head), counted g (goal.at.overflow_add-self g c).After-self)

moved : (g : Over) (c : After-keep g) → c.args.len ≡ (span_at (links_of c.self.inside.table.nodes.items) c.args.head).len
    → Shows (record c.self.inside.table { nodes = c.keep.new.nodes }) c.reverse_links-reversed.result.last (c.self.inside.free_len + c.args.len) c.self.inside.least
    (record c.args.self.now.lists { free = reverse (nodes_at c.args.self.now.lists c.args.head) ++ c.args.self.now.lists.free; held = set c.args.self.now.lists.held c.args.head None })
moved g c counted =
    let h = c.args.head in
    let some = there c.self.invariant c.self.view_is h c.requires.head in
    let reversed = ap (λ n. path (links_of c.self.inside.table.nodes.items) n (Some h)) counted ∙ chain_path c.self.invariant.chained h some in
    let now = c.args.self.now.lists in
    let v = chains_in c.self.inside.table c.self.inside.first_free c.self.inside.free_len in
    let new = links_of c.keep.new.nodes.items in
    let leads : LeadsOn (after_at new) (reverse (chain_at v h)) c.self.inside.first_free =
    subst (λ (xs : List ℕ). LeadsOn (after_at new) (reverse xs) c.self.inside.first_free) reversed (LeadsOn-kept _ (after_at new) _ _ (λ k _. c.keep.ensures.nexts k) c.reverse_links-reversed.ensures.reversed) in
    let laid = IsChained-freed c.self.invariant.chained h some new (links_long _ _ (omega (arith, c.keep.ensures.len, c.reverse_links-reversed.ensures.len))) leads
    (λ k absent. c.keep.ensures.nexts k ∙ c.reverse_links-reversed.ensures.others k (ap (has k) reversed ∙ absent))
    (λ k. c.keep.ensures.spans k ∙ (λ i. if h == k then c.none.ensures i else c.reverse_links-reversed.ensures.spans k i))
    c.reverse_links-reversed.result.last (c.self.inside.free_len + c.args.len) (c.reverse_links-reversed.ensures.last ∙ ap (λ (xs : List ℕ). first_or c.self.inside.first_free (reverse xs)) reversed) (omega (arith, counted)) in
    subst (Shows _ _ _ _) (λ i. record now { free = reverse (sym (nodes_are c.self.invariant c.self.view_is h c.requires.head) i) ++ free_is c.self.invariant c.self.view_is i; held = set now.held h None; least = least_is c.self.invariant c.self.view_is i })
    (IsWhole-one c.self.invariant c.self.view_is c.keep.new.nodes (c.keep.ensures.rest ∙ c.reverse_links-reversed.ensures.rest) h _ (off c.self.invariant c.self.view_is h c.requires.head) laid (omega (arith, c.self.invariant.fewest)))

pub invariant_of-self : goal.invariant_of-self
invariant_of-self g c = let at = goal.at.invariant_of-self g c in (moved g at.After-keep (counted g at.After-self)).whole

pub returns : goal.returns
returns g c =
    let at = goal.at.returns g c in
    let both = moved g at.After-keep (counted g at.After-self) in
    record { after = both.lists; loads = loads_kept c.self.invariant c.self.view_is c.keep.new.nodes (c.keep.ensures.rest ∙ c.reverse_links-reversed.ensures.rest); parted = IsLawful-whole both.whole }
