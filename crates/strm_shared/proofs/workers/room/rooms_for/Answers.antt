use Rattle.std.proofs.Common.{rules, ◌++◌, ◌∷◌, [], get_or, take, sym, subst}
use Rattle.std.proofs.lemmas.List.{take_more}
use Rattle.strm_shared.specs.RunsLayout.{AreReady, IsReady}
use Rattle.strm_shared.proofs.Crews.{ready_more}
use Rattle.strm_shared.proofs.workers.room.rooms_for.Goals as goal

pub loop-i-preserved : goal.loop-i-preserved
loop-i-preserved c =
    let parts = c.args.parts.now in
    let i = c.loop-i.i in
    let rooms = c.loop-i.rooms.items in
    let room = c.in_ok-with_capacity.field-0 in
    let lines = c.index-parts-i.result in
    let keeps = c.args.keeps in
    let ready : IsReady keeps (get_or parts i lines) room = (c.in_ok-with_capacity.ensures.items, λ keep. search (rules, c.replies_kept.ensures keep, c.in_ok-with_capacity.ensures.capacity)) in
    record {
      count = search rules;
      room = search rules;
      ready = subst (λ ps. AreReady keeps ps c.push_reserved.new.self.items) (sym (take_more parts i lines c.loop-i-test.true))
          (subst (AreReady keeps (take i parts ++ get_or parts i lines ∷ [])) (sym c.push_reserved.ensures.items)
          (ready_more keeps (take i parts) rooms (get_or parts i lines) room c.loop-i.invariant.ready ready));
    }
