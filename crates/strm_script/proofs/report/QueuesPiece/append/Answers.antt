use Rattle.std.proofs.Common.{sym, ◌∙◌}
use Rattle.strm_pool.specs.PoolValue.{queued_blocks_of}
use Rattle.strm_script.proofs.Reports.{queues-next, queues-end}
use Rattle.strm_script.proofs.report.QueuesPiece.append.Goals as goal

pub loop-info-preserved : goal.loop-info-preserved
loop-info-preserved c =
    queues-next (queued_blocks_of c.args.self.0.now) c.args.text.now.items c.loop-info.text.items c.append.new.text.items _ c.loop-info.queue c.in-Ok.info
    (sym c.queue_info.ensures ∙ c.in-Ok.is) c.in_ok-append.ensures.ok c.loop-info.invariant

pub returns-clause-ok : goal.returns-clause-ok
returns-clause-ok c =
    queues-end (queued_blocks_of c.args.self.0.now) c.args.text.now.items c.loop-info.text.items _ c.loop-info.queue c.in_default.field-0 (sym c.queue_info.ensures ∙ c.in_default.is) c.loop-info.invariant
