use Rattle.std.proofs.Common.{length, subst, sym}
use Rattle.std.proofs.lemmas.List.{length-map}
use Rattle.strm_mblk.specs.Arena.{shelf_at}
use Rattle.strm_queue.specs.QueuesLayout.{AreBanded, spec_in, value_of}
use Rattle.strm_queue.proofs.Laid.{each_banded}
use Rattle.strm_queue.proofs.Counting.{whole}
use Rattle.strm_queue.proofs.queues.Queues.lawful.Goals as goal

pub returns-clause-whole : goal.returns-clause-whole
returns-clause-whole c queue = whole c.args.blocks.now.store (shelf_at c.args.blocks.now queue)

pub returns-clause-banded : goal.returns-clause-banded
returns-clause-banded c =
    let v = c.args.self.now.state in
    each_banded (length v.specs) v.flags v.marks (subst (λ w. AreBanded (length w.state.specs) w.state.flags w.state.marks) c.self.view_is (subst (λ n. AreBanded n (value_of c.self.inside).state.flags (value_of c.self.inside).state.marks) (sym (length-map c.self.inside.queues.items spec_in)) c.self.invariant.banded))
