-- Each look so far was before the stamp came.
use Rattle.std.proofs.Common.{length}
use Rattle.strm_monitor.specs.Watching.{Looks}
use Rattle.strm_monitor.proofs.monitor.watch.Given as goal

abbrev pub invariant-loop-looks : goal.invariant-loop-looks
invariant-loop-looks g l = Looks (length g.N.Name.opened.arena.held) l.initial.desk l.looks l.fewest l.desk
