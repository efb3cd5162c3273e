use Rattle.std.proofs.Common.{refl, sym, ap, ◌∙◌}
use Rattle.std.specs.Prelude.{ok_or}
use Rattle.std.proofs.lemmas.Bool.{cond-true}
use Rattle.strm_data.specs.declared.refusal.Refusal.TheVariants.{NoSuchPlace}
use Rattle.strm_mblk.proofs.arena.Stands.{shelf_of-there}
use Rattle.strm_queue.proofs.Shelf.{message_at_place, no_message_at_place}
use Rattle.strm_queue.proofs.queues.Queues.queued_head.Goals as goal

pub returns-in-Some-clause-message : goal.returns-in-Some-clause-message
returns-in-Some-clause-message c =
    sym (cond-true _ _ _ (sym c.has_queue.ensures ∙ c.if-not-has_queue.false)
    ∙ ap (λ o. ok_or o NoSuchPlace) (message_at_place c.args.blocks.now c.lawful.ensures.parted c.args.queue c.args.place c.in-Some.head (sym c.in-Some.ensures.value)))

pub returns-in-Some-clause-there : goal.returns-in-Some-clause-there
returns-in-Some-clause-there c = shelf_of-there c.args.blocks.now c.args.queue c.in-Some.head (c.in-Some.ensures.there c.in-Some.head refl)

pub returns-in-None-clause-message : goal.returns-in-None-clause-message
returns-in-None-clause-message c =
    sym (cond-true _ _ _ (sym c.has_queue.ensures ∙ c.if-not-has_queue.false)
    ∙ ap (λ o. ok_or o NoSuchPlace) (no_message_at_place c.args.blocks.now c.args.queue c.args.place (sym c.in-None.ensures.value)))
