use Rattle.strm_shared.specs.Batches.{IsAfterBatch}
use Rattle.strm_shared.proofs.Batching.{batch_refused}
use Rattle.strm_shared.proofs.shared.Shared.serve_batch.Goals as goal

pub returns : goal.returns
returns g c =
    let turned = c.turn_all-answer in
    let after : IsAfterBatch g.N.Name c.args.desk.now c.args.lines.now turned.new.replies turned.new.desk turned.result =
    (_, _, record { lawful = c.lawful.ensures.law; sized = c.lawful.ensures.sized }, record { lawful = c.lawful-2.ensures.law; sized = c.lawful-2.ensures.sized }, turned.ensures.answer) in
    record {
      after = after;
      refused = batch_refused g.N.Name c.args.desk.now c.args.lines.now turned.new.replies turned.new.desk turned.result after;
      kept = turned.ensures.kept;
    }
