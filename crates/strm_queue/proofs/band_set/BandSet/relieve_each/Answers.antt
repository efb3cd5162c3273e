use Rattle.std.proofs.Common.{◌+◌, ◌<◌, false, arith, rules}
use Rattle.strm_queue.specs.Limits.{bands}
use Rattle.strm_queue.proofs.bands.Bands.{AreLookedAt, looked_at_first, looked_at_last, looked_leaves, looked_stays, looked_to}
use Rattle.strm_queue.proofs.band_set.BandSet.relieve_each.Invariants.{has_drained_at}
use Rattle.strm_queue.proofs.band_set.BandSet.relieve_each.Goals.{then-counts-from, else-counts-from}
use Rattle.strm_queue.proofs.band_set.BandSet.relieve_each.Goals as goal

pub loop-next-init : goal.loop-next-init
loop-next-init c =
    let may = has_drained_at c.args.counts.now c.args.marks.now in
    looked_to c.args.self.now may 0 c.args.self.now false (looked_at_first c.args.self.now may c.lawful.ensures) c.at_least-next.result (omega arith) c.at_least-next.ensures.some c.at_least-next.ensures.none

pub loop-next-preserved : goal.loop-next-preserved
loop-next-preserved c =
    let may = has_drained_at c.args.counts.now c.args.marks.now in
    let (are, marked) = rw c.in-Some.is at c.loop-next.invariant in
    let low : c.in-Some.band < bands = search rules in
    let next : AreLookedAt c.args.self.now may (c.in-Some.band + 1) c.if-counts-from.self c.if-counts-from.some =
    elim c.if-counts-from.branch [
      | then-counts-from w ↦ rw (w.self-is, w.some-is, w.remove.ensures) (looked_leaves c.args.self.now may c.in-Some.band c.loop-next.self c.loop-next.some are low marked (search rules))
      | else-counts-from w ↦ rw (w.self-is, w.some-is) (looked_stays c.args.self.now may c.in-Some.band c.loop-next.self c.loop-next.some are low marked (search rules))
    ]
    in
    looked_to c.args.self.now may (c.in-Some.band + 1) c.if-counts-from.self c.if-counts-from.some next c.above-next.result (omega (arith, low)) c.above-next.ensures.some c.above-next.ensures.none

pub returns-clause-left : goal.returns-clause-left
returns-clause-left c = (looked_at_last c.args.self.now (has_drained_at c.args.counts.now c.args.marks.now) c.loop-next.self c.loop-next.some (rw c.in_default.is at c.loop-next.invariant.0)).0

pub returns-clause-some : goal.returns-clause-some
returns-clause-some c = (looked_at_last c.args.self.now (has_drained_at c.args.counts.now c.args.marks.now) c.loop-next.self c.loop-next.some (rw c.in_default.is at c.loop-next.invariant.0)).1
