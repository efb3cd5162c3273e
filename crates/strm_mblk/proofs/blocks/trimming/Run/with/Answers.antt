use Rattle.std.proofs.Common.{sym, ◌∙◌}
use Rattle.std.proofs.lemmas.Bool.{cond-true, cond-false}
use Rattle.strm_data.specs.MsgType.{same_kind}
use Rattle.strm_mblk.proofs.blocks.trimming.Run.with.Goals as goal

pub returns-then-eq : goal.returns-then-eq
unfolding same_kind
returns-then-eq c = sym (cond-true (same_kind c.args.kind c.args.self.kind) _ _ (sym c.eq.ensures ∙ c.if-eq.true))

pub returns-else-eq : goal.returns-else-eq
unfolding same_kind
returns-else-eq c = sym (cond-false (same_kind c.args.kind c.args.self.kind) _ _ (sym c.eq.ensures ∙ c.if-eq.false))
