use Rattle.std.proofs.Common.{◌≡◌, suc, ◌-◌, ◌+◌, arith, ap, sym, ◌∙◌, subst, Some, IsSome}
use Rattle.strm_links.specs.ChainLayout.{after_at, links_of, onward}
use Rattle.strm_links.specs.declared.chained.Link.{Link}
use Rattle.strm_links.proofs.lists.ListLinks.{onward_some}
use Rattle.strm_links.proofs.chains.Written.{link_read}
use Rattle.strm_links.proofs.chained.node_behind.Given.{Over}
use Rattle.strm_links.proofs.chained.node_behind.Goals as goal
use Rattle.strm_links.proofs.chained.node_behind.Goals.{After-index-nodes-at}

-- the link that the code reads, and the steps that are left
link : (g : Over) (c : After-index-nodes-at g) → c.index-nodes-at.result.link.next ≡ after_at (links_of c.args.nodes.now) c.loop-step.at
link g c = ap (λ (l : Link). l.next) (link_read c.args.nodes.now c.loop-step.at c.loop-step.invariant.within c.index-nodes-at.is)

left : (g : Over) (c : After-index-nodes-at g) → c.args.steps - c.loop-step._step ≡ suc (c.args.steps - (c.loop-step._step + 1))
left g c = omega (arith, c.loop-step-test.true)

pub number-at-requires : goal.number-at-requires
number-at-requires g c =
    let next = after_at (links_of c.args.nodes.now) in
    subst (λ x. IsSome x.link.next) c.index-nodes-at.is
    (onward_some next (c.args.steps - (c.loop-step._step + 1)) c.loop-step.at c.index-nodes-at.result.link.next (link g c)
    (subst IsSome (sym c.loop-step.invariant.rest ∙ ap (λ j. onward next j (Some c.loop-step.at)) (left g c)) c.requires.there))

pub loop-step-preserved : goal.loop-step-preserved
loop-step-preserved g c =
    let here = (goal.at.loop-step-preserved g c).After-index-nodes-at in
    let next = after_at (links_of c.args.nodes.now) in
    let is : next c.loop-step.at ≡ Some c.number-at.result = sym (link g here) ∙ ap (λ x. x.link.next) c.index-nodes-at.is ∙ c.number-at.ensures in
    record {
      rest = ap (onward next (c.args.steps - (c.loop-step._step + 1))) (sym is) ∙ ap (λ j. onward next j (Some c.loop-step.at)) (sym (left g here)) ∙ c.loop-step.invariant.rest;
      within = c.requires.within c.loop-step.at c.number-at.result is;
    }
