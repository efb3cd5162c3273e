-- A full band is wanted now, and the writer is recorded.
use Rattle.std.proofs.Common.{◌≡◌, ◌<◌, ◌∙◌, Bool, List, Ok, ap, arith, false, sym}
use Rattle.strm_mblk.specs.Given.{answer_of}
use Rattle.strm_pool.specs.PoolValue.{on_queues, queued_blocks_of}
use Rattle.strm_queue.specs.Limits.{most_queues}
use Rattle.strm_queue.specs.QueueCalls.{bcanput}
use Rattle.strm_scheduler.specs.Writers.{Writer, waits, with_answer}
use Rattle.strm_scheduler.proofs.Recording.{refused_waits}
use Rattle.strm_scheduler.proofs.Wanting.{awaited, refused_there, refused_wanted}
use Rattle.strm_scheduler.proofs.writers.Writers.bcanput.Goals as goal

pub returns-clause-refused : goal.returns-clause-refused
returns-clause-refused c = λ refused.
    let v = c.args.pool.now in
    let law = c.lawful.ensures in
    let q = c.args.queue in
    let band = c.args.band in
    let low : band < 256 = omega arith in
    let answer : answer_of (on_queues v (bcanput q band (queued_blocks_of v))) ≡ Ok false = sym c.bcanput.ensures.answer ∙ c.in_ok-room.was ∙ refused in
    let room : c.in_ok-room.room ≡ false = cc in
    let there : q < most_queues = omega (arith, refused_there v law q band low answer, law.few_queues) in
    record {
      recorded =
          ap (λ (ws : List Writer). waits (q, band) ws) (c.record.ensures.recorded ∙ ap (λ (so : Bool). with_answer q band so c.args.self.now) room)
          ∙ refused_waits q band c.args.self.now there;
      awaited = awaited c.bcanput.new.self c.lawful-2.ensures q band (refused_wanted v law q band low answer c.bcanput.new.self c.bcanput.ensures.after);
    }
