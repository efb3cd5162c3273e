use Rattle.std.proofs.Common.{rules, arith, ◌∙◌, length-drop}
use Rattle.std.proofs.Math.Seq.{take-add}
use Rattle.std.proofs.lemmas.List.{take_rest}
use Rattle.std.proofs.KnownBytes.{Appends-trans}
use Rattle.strm_run.proofs.Texts.{stops_more}
use Rattle.strm_run.proofs.output.write_text.Goals as goal

pub loop-written-preserved : goal.loop-written-preserved
loop-written-preserved g c = record {
  within = omega (arith, c.in-Ok.ensures.bound, length-drop c.loop-written.written c.args.text.now);
  wrote = rw take-add (Appends-trans _ _ _ _ _ c.loop-written.invariant.wrote (rw take_rest at c.in-Ok.ensures.bytes));
  failed = search rules;
  ended = c.in-Ok.ensures.ended ∙ c.loop-written.invariant.ended;
  stops = stops_more c.args.writer.now c.loop-written.writer c.write.new.self c.loop-written.invariant.stops c.loop-written.invariant.failed c.loop-written.invariant.ended c.in-Ok.ensures.past;
  desks = c.in-Ok.ensures.desks ∙ c.loop-written.invariant.desks;
}
