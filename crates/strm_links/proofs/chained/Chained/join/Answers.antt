use Rattle.std.proofs.Common.{subst, ◌==◌, ◌+◌, ◌++◌, set, ap, arith, sym, ◌∙◌, None, Some, if◌then◌else◌}
use Rattle.strm_links.specs.Chains.{chains_joined}
use Rattle.strm_links.specs.ChainLayout.{after_at, chains_in, links_of}
use Rattle.strm_links.specs.declared.chained.Link.{Link}
use Rattle.strm_links.proofs.chains.Joined.{IsChained-joined, joined_few}
use Rattle.strm_links.proofs.chains.StoredChains.{last_low}
use Rattle.strm_links.proofs.chains.Whole.{IsLawful-whole, Shows, IsWhole-two, count_is, free_is, held_low, held_read, least_is, loads_kept, low_room, nodes_are, off, room, there}
use Rattle.strm_links.proofs.chains.Written.{links_long}
use Rattle.strm_links.proofs.chained.Chained.join.Given.{Over}
use Rattle.strm_links.proofs.chained.Chained.join.Goals as goal
use Rattle.strm_links.proofs.chained.Chained.join.Goals.{After-keep-2}

pub index-requires : goal.index-requires
index-requires g c = omega (arith, held_low c.self.invariant c.self.view_is c.args.head c.requires.head)

pub index-requires-2 : goal.index-requires-2
index-requires-2 g c = omega (arith, held_low c.self.invariant c.self.view_is c.args.tail c.requires.tail)

pub lead-requires : goal.lead-requires
lead-requires g c =
    omega (
      arith,
      ap (λ (l : Link). l.span.last) (held_read c.self.invariant c.self.view_is c.args.head c.requires.head c.index.ensures),
      low_room c.self.invariant c.self.view_is _ (last_low c.self.invariant.chained c.args.head (there c.self.invariant c.self.view_is c.args.head c.requires.head)),
    )

pub some-requires : goal.some-requires
some-requires g c = omega (arith, held_low c.self.invariant c.self.view_is c.args.tail c.requires.tail, room c.self.invariant c.self.view_is, count_is c.self.invariant c.self.view_is, c.self.invariant.chained.few_nodes)

pub keep-requires : goal.keep-requires
keep-requires g c = omega (arith, c.lead.ensures.len, held_low c.self.invariant c.self.view_is c.args.tail c.requires.tail)

pub keep-requires-2 : goal.keep-requires-2
keep-requires-2 g c = omega (arith, c.keep.ensures.len, c.lead.ensures.len, held_low c.self.invariant c.self.view_is c.args.head c.requires.head)

pub overflow_add-span : goal.overflow_add-span
overflow_add-span g c =
    omega (
      arith,
      c.self.invariant.chained.few_nodes,
      ap (λ (l : Link). l.span.len) (held_read c.self.invariant c.self.view_is c.args.head c.requires.head c.index.ensures),
      ap (λ (l : Link). l.span.len) (held_read c.self.invariant c.self.view_is c.args.tail c.requires.tail c.index-2.ensures),
      joined_few c.self.invariant.chained c.args.head c.args.tail (there c.self.invariant c.self.view_is c.args.head c.requires.head) (there c.self.invariant c.self.view_is c.args.tail c.requires.tail) c.requires.other,
    )

moved : (g : Over) (c : After-keep-2 g)
    → Shows (record c.self.inside.table { nodes = c.keep-2.new.nodes }) c.self.inside.first_free c.self.inside.free_len c.self.inside.least (record c.args.self.now.lists { held = chains_joined c.args.head c.args.tail c.args.self.now.lists.held })
moved g c =
    let first = held_read c.self.invariant c.self.view_is c.args.head c.requires.head c.index.ensures in
    let second = held_read c.self.invariant c.self.view_is c.args.tail c.requires.tail c.index-2.ensures in
    let links = links_of c.self.inside.table.nodes.items in
    let v = chains_in c.self.inside.table c.self.inside.first_free c.self.inside.free_len in
    let now = c.args.self.now.lists in
    let h = c.args.head in
    let t = c.args.tail in
    let laid = IsChained-joined c.self.invariant.chained h t (there c.self.invariant c.self.view_is h c.requires.head) (there c.self.invariant c.self.view_is t c.requires.tail) c.requires.other
    (links_of c.keep-2.new.nodes.items) (links_long _ _ (omega (arith, c.keep-2.ensures.len, c.keep.ensures.len, c.lead.ensures.len)))
    (λ k. c.keep-2.ensures.nexts k ∙ c.keep.ensures.nexts k ∙ c.lead.ensures.nexts k ∙ (λ i. if (first i).span.last == k then c.some.ensures i else after_at links k))
    (λ k. c.keep-2.ensures.spans k ∙ ap (λ s. if h == k then record { last = c.index-2.result.now.link.span.last; len = c.index.result.now.link.span.len + c.index-2.result.now.link.span.len } else s) (c.keep.ensures.spans k)
    ∙ (λ i. if h == k then record { last = (second i).span.last; len = (first i).span.len + (second i).span.len } else (if t == k then c.none.ensures i else c.lead.ensures.spans k i))) in
    subst (Shows _ _ _ _) (λ i. record now { free = free_is c.self.invariant c.self.view_is i; held = set (set now.held t None) h (Some (sym (nodes_are c.self.invariant c.self.view_is h c.requires.head) i ++ sym (nodes_are c.self.invariant c.self.view_is t c.requires.tail) i)); least = least_is c.self.invariant c.self.view_is i })
    (IsWhole-two c.self.invariant c.self.view_is c.keep-2.new.nodes (c.keep-2.ensures.rest ∙ c.keep.ensures.rest ∙ c.lead.ensures.rest) t h _ _ (off c.self.invariant c.self.view_is t c.requires.tail)
    (off c.self.invariant c.self.view_is h c.requires.head) laid c.self.invariant.fewest)

pub invariant_of-self : goal.invariant_of-self
invariant_of-self g c = (moved g (goal.at.invariant_of-self g c).After-keep-2).whole

pub returns : goal.returns
returns g c =
    let both = moved g (goal.at.returns g c).After-keep-2 in
    record { after = both.lists; loads = loads_kept c.self.invariant c.self.view_is c.keep-2.new.nodes (c.keep-2.ensures.rest ∙ c.keep.ensures.rest ∙ c.lead.ensures.rest); parted = IsLawful-whole both.whole }
