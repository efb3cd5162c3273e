use Rattle.strm_queue.specs.QueueCalls.{IsBurstPlace}
use Rattle.strm_pool.specs.PoolValue.{queued_blocks_of}
use Rattle.strm_c.specs.Series.{putq}
use Rattle.strm_c.proofs.Serial.{HasSpent}
use Rattle.strm_c.proofs.several.putq_each.Given as goal

-- the calls that were made, and where the next message goes
abbrev pub invariant-loop-place : goal.invariant-loop-place
invariant-loop-place l = record {
  so : HasSpent (putq l.queue) l.msgs l.fn.named l.named l.place;
  burst : IsBurstPlace l.burst l.queue (queued_blocks_of l.named.pool);
}
