use Rattle.std.proofs.Common.{Ok, refl, sym, ap, ◌∙◌}
use Rattle.std.specs.Prelude.{ok_or, slice_get}
use Rattle.strm_data.specs.declared.refusal.Refusal.TheVariants.{NoSuchBlock}
use Rattle.strm_mblk.specs.declared.blocks.Fields.{Fields}
use Rattle.strm_mblk.specs.BlocksLayout.{block_of}
use Rattle.strm_links.specs.ChainLists.{nodes_at}
use Rattle.strm_mblk.proofs.layout.HeldBlocks.{block_none, block_some}
use Rattle.strm_mblk.proofs.blocks.Blocks.found.Goals as goal

pub returns-in_default-clause-answer : goal.returns-in_default-clause-answer
returns-in_default-clause-answer c =
    sym (ap (λ o. ok_or o NoSuchBlock)
    (block_none c.self.invariant.filled c.self.view_is c.args.token.now.head c.args.place
    (ap (λ h. slice_get (nodes_at c.self.inside.chains.lists h) c.args.place) (sym c.head.ensures) ∙ sym c.node_at.ensures.value ∙ c.in_default.is)))

pub returns-clause-answer : goal.returns-clause-answer
returns-clause-answer c =
    let at =
    block_some c.self.invariant.filled c.self.view_is c.args.token.now.head c.args.place
    c.args.token.now refl c.requires
    (ap (λ h. slice_get (nodes_at c.self.inside.chains.lists h) c.args.place) (sym c.head.ensures) ∙ sym c.node_at.ensures.value ∙ c.in-Some.is) in
    let read = c.fields_at-fields.ensures in
    ap (λ (f : Fields). Ok (block_of c.in-Some.node f)) read ∙ sym (ap (λ o. ok_or o NoSuchBlock) at.block)
