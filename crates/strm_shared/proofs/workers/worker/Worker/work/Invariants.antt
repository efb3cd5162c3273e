use Rattle.std.proofs.Common.{◌≡◌, ◌≤◌, true, List, length, vec_capacity}
use Rattle.strm_pool.specs.declared.reply.Reply.{Reply}
use Rattle.strm_shared.specs.Runs.{AreServed}
use Rattle.strm_shared.proofs.workers.worker.Worker.work.Given as goal

abbrev pub invariant-loop-i : goal.invariant-loop-i
invariant-loop-i g l = record {
  room : l.site.keeps ≡ true → length l.lines ≤ vec_capacity l.replies;
  served : (all : List Reply) × (length all ≡ l.i) × AreServed g.N.Name l.lines l.initial.desk all l.desk × (l.site.keeps ≡ true → l.replies.items ≡ all);
}
