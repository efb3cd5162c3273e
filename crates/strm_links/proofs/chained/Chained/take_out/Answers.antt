use Rattle.std.proofs.Common.{◌≡◌, ◌==◌, ◌<◌, ◌-◌, [], ◌∷◌, length, set, ap, arith, sym, ◌∙◌, subst, refl, Some, None, IsSome, if◌then◌else◌}
use Rattle.std.specs.Prelude.{slice_get}
use Rattle.strm_links.specs.Chains.{without_place}
use Rattle.strm_links.specs.ChainLists.{nodes_at}
use Rattle.strm_links.specs.ChainLayout.{after_at, chain_at, chains_in, links_of, onward, span_at}
use Rattle.strm_links.specs.declared.chained.Link.{Link}
use Rattle.strm_links.proofs.chains.StoredChains.{span_without, chain_laid, next_within}
use Rattle.strm_links.proofs.chains.TakenOut.{IsChained-taken_out, place_is, place_next, place_none, place_there}
use Rattle.strm_links.proofs.chains.Whole.{IsLawful-whole, Shows, IsWhole-two, free_is, held_low, held_read, least_is, loads_kept, low_room, nodes_are, none_off, off, there}
use Rattle.strm_links.proofs.chains.Written.{link_read, links_long}
use Rattle.strm_links.proofs.chained.Chained.take_out.Given.{Over}
use Rattle.strm_links.proofs.chained.Chained.take_out.Goals as goal
use Rattle.strm_links.proofs.chained.Chained.take_out.Goals.{After-index, After-index-2, After-keep, After-number-node}

pub index-requires : goal.index-requires
index-requires g c = omega (arith, held_low c.self.invariant c.self.view_is c.args.head c.requires.held)

-- the chain has the place
inside : (g : Over) (c : After-index g) → c.args.place < length (chain_at (chains_in c.self.inside.table c.self.inside.first_free c.self.inside.free_len) c.args.head)
inside g c = subst (λ xs. c.args.place < length xs) (nodes_are c.self.invariant c.self.view_is c.args.head c.requires.held) c.requires.there

pub node_behind-ahead-requires : goal.node_behind-ahead-requires
node_behind-ahead-requires g c =
    let ahead = place_there c.self.invariant.chained c.args.head (there c.self.invariant c.self.view_is c.args.head c.requires.held) c.args.place c.requires.behind (inside g (goal.at.node_behind-ahead-requires g c).After-index) in
    record {
      from = omega (arith, c.deref.ensures.len, held_low c.self.invariant c.self.view_is c.args.head c.requires.held);
      within = λ k j is. omega (arith, c.deref.ensures.len, low_room c.self.invariant c.self.view_is j (next_within c.self.invariant.chained k (ap (λ ns. after_at (links_of ns) k) (sym c.deref.ensures.value) ∙ is)));
      there = subst IsSome (sym (ap (λ ns. onward (after_at (links_of ns)) (c.args.place - 1) (Some c.args.head)) c.deref.ensures.value ∙ ahead)) refl;
    }

-- where the walk ends, which is the node before the place; and its link
module _ (g : Over) (c : After-index-2 g) where
  walked : onward (after_at (links_of c.self.inside.table.nodes.items)) (c.args.place - 1) (Some c.args.head) ≡ Some c.node_behind-ahead.result
  walked = ap (λ ns. onward (after_at (links_of ns)) (c.args.place - 1) (Some c.args.head)) (sym c.deref.ensures.value) ∙ c.node_behind-ahead.ensures.value

  link : c.index-2.result.now.link.next ≡ after_at (links_of c.self.inside.table.nodes.items) c.node_behind-ahead.result
  link = ap (λ (l : Link). l.next) (link_read _ c.node_behind-ahead.result (omega (arith, c.node_behind-ahead.ensures.in_range, c.deref.ensures.len)) c.index-2.ensures)

pub number-node-requires : goal.number-node-requires
number-node-requires g c =
    let at = goal.at.number-node-requires g c in
    let next = place_next c.self.invariant.chained c.args.head (there c.self.invariant c.self.view_is c.args.head c.requires.held) c.args.place c.requires.behind (inside g at.After-index) (walked g at.After-index-2) in
    subst IsSome (sym (link g at.After-index-2 ∙ next)) refl

-- the node at the place, which the link leads to
low : (g : Over) (c : After-number-node g) → c.index-2.result.now.link.next ≡ after_at (links_of c.self.inside.table.nodes.items) c.node_behind-ahead.result → c.number-node.result < length c.self.inside.table.nodes.items
low g c link = low_room c.self.invariant c.self.view_is _ (next_within c.self.invariant.chained c.node_behind-ahead.result (sym link ∙ c.number-node.ensures))

pub index-requires-3 : goal.index-requires-3
index-requires-3 g c = let at = goal.at.index-requires-3 g c in omega (arith, low g at.After-number-node (link g at.After-index-2))

pub chain_up-requires : goal.chain_up-requires
chain_up-requires g c =
    let at = goal.at.chain_up-requires g c in
    let low = low g at.After-number-node (link g at.After-index-2) in
    record { head = omega (arith, c.lead.ensures.len, low); last = omega (arith, c.lead.ensures.len, low) }

pub without-requires : goal.without-requires
without-requires g c =
    omega (
      arith,
      c.requires.behind,
      inside g (goal.at.without-requires g c).After-index,
      (chain_laid c.self.invariant.chained c.args.head (there c.self.invariant c.self.view_is c.args.head c.requires.held)).len,
      ap (λ (l : Link). l.span.len) (held_read c.self.invariant c.self.view_is c.args.head c.requires.held c.index.ensures),
    )

pub keep-requires : goal.keep-requires
keep-requires g c = omega (arith, c.chain_up.ensures.len, c.lead.ensures.len, held_low c.self.invariant c.self.view_is c.args.head c.requires.held)

moved : (g : Over) (c : After-keep g) → c.args.place < length (chain_at (chains_in c.self.inside.table c.self.inside.first_free c.self.inside.free_len) c.args.head)
    → onward (after_at (links_of c.self.inside.table.nodes.items)) (c.args.place - 1) (Some c.args.head) ≡ Some c.node_behind-ahead.result → c.index-2.result.now.link.next ≡ after_at (links_of c.self.inside.table.nodes.items) c.node_behind-ahead.result
    → Shows (record c.self.inside.table { nodes = c.keep.new.nodes }) c.self.inside.first_free c.self.inside.free_len c.self.inside.least
    (record c.args.self.now.lists { held = set (set c.args.self.now.lists.held c.args.head (Some (without_place c.args.place (nodes_at c.args.self.now.lists c.args.head)))) c.number-node.result (Some (c.number-node.result ∷ [])) })
    × (slice_get (nodes_at c.args.self.now.lists c.args.head) c.args.place ≡ Some c.number-node.result)
moved g c inside walked link =
    let chained = c.self.invariant.chained in
    let now = c.args.self.now.lists in
    let links = links_of c.self.inside.table.nodes.items in
    let h = c.args.head in
    let t = c.node_behind-ahead.result in
    let n = c.number-node.result in
    let some = there c.self.invariant c.self.view_is h c.requires.held in
    let on : after_at links t ≡ Some n = sym link ∙ c.number-node.ensures in
    let read = held_read c.self.invariant c.self.view_is h c.requires.held c.index.ensures in
    let behind : c.index-3.result.now.link.next ≡ after_at links n = ap (λ (l : Link). l.next) (link_read _ n (low_room c.self.invariant c.self.view_is n (next_within chained t on)) c.index-3.ensures) in
    let less : c.without.result ≡ span_without (span_at links h) 1 t (after_at links n) =
    c.without.ensures ∙ (λ i. span_without (read i).span 1 t (behind i)) in
    let laid = IsChained-taken_out chained h some c.args.place c.requires.behind inside walked on
    (links_of c.keep.new.nodes.items) (links_long _ _ (omega (arith, c.keep.ensures.len, c.chain_up.ensures.len, c.lead.ensures.len)))
    (λ k. c.keep.ensures.nexts k ∙ c.chain_up.ensures.nexts k ∙ (λ i. if n == k then None else c.lead.ensures.nexts k i) ∙ (λ i. if n == k then None else (if t == k then behind i else after_at links k)))
    (λ k. c.keep.ensures.spans k
    ∙ (λ i. if h == k then less i else c.chain_up.ensures.spans k i)
    ∙ (λ i. if h == k then span_without (span_at links h) 1 t (after_at links n) else (if n == k then record { last = n; len = 1 } else c.lead.ensures.spans k i))) in (
      subst (Shows _ _ _ _) (λ i. record now { free = free_is c.self.invariant c.self.view_is i; held = set (set now.held h (Some (without_place c.args.place (sym (nodes_are c.self.invariant c.self.view_is h c.requires.held) i)))) n (Some (n ∷ [])); least = least_is c.self.invariant c.self.view_is i })
          (IsWhole-two c.self.invariant c.self.view_is c.keep.new.nodes (c.keep.ensures.rest ∙ c.chain_up.ensures.rest ∙ c.lead.ensures.rest) h n _ _ (off c.self.invariant c.self.view_is h c.requires.held)
          (none_off c.self.invariant c.self.view_is n (place_none chained h some c.args.place c.requires.behind inside walked on)) laid c.self.invariant.fewest),
      ap (λ xs. slice_get xs c.args.place) (nodes_are c.self.invariant c.self.view_is h c.requires.held) ∙ place_is chained h some c.args.place c.requires.behind inside walked on,
    )

pub invariant_of-self : goal.invariant_of-self
invariant_of-self g c = let at = goal.at.invariant_of-self g c in (moved g at.After-keep (inside g at.After-index) (walked g at.After-index-2) (link g at.After-index-2)).0.whole

pub returns : goal.returns
returns g c =
    let at = goal.at.returns g c in
    let both = moved g at.After-keep (inside g at.After-index) (walked g at.After-index-2) (link g at.After-index-2) in
    record {
      answer = both.1;
      after = both.0.lists;
      loads = loads_kept c.self.invariant c.self.view_is c.keep.new.nodes (c.keep.ensures.rest ∙ c.chain_up.ensures.rest ∙ c.lead.ensures.rest);
      parted = IsLawful-whole both.0.whole;
    }
