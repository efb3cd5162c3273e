-- A request goes back, and any other message passes.
use Rattle.std.proofs.Common.{Err, refl, subst, sym, ◌∙◌}
use Rattle.strm_data.specs.declared.msg_type.MsgType.TheVariants.{MIocack}
use Rattle.strm_mblk.specs.BlockCalls.{settype}
use Rattle.strm_header.specs.Modules.{Acknowledges}
use Rattle.strm_header.proofs.Outcomes.{altered_there, passed_refused, passed_unasked, sent_back}
use Rattle.strm_header.proofs.modules.AcknowledgingModule.treat.Goals as goal

pub returns-then-not-is_request : goal.returns-then-not-is_request
returns-then-not-is_request c =
    let v = c.args.pool.now in
    let w = c.send.new.pool in
    let out = passed_unasked c.other_of-other.result c.args.queue c.args.next c.args.token v w c.requires.apart c.requires.ahead c.requires.has (sym c.is_request.ensures ∙ c.if-not-is_request.true) c.send.ensures in
    (out.0, (refl, subst (λ p. Acknowledges p c.args.queue c.args.next c.args.token out.0 v w) c.other_of-other.ensures out.1), out.2)

pub returns-in-Ok : goal.returns-in-Ok
returns-in-Ok c =
    let v = c.args.pool.now in
    let w = c.send-in-Ok.new.pool in
    let asked = sym c.is_request.ensures ∙ c.if-not-is_request.false in
    let out = sent_back c.other_of-other.result c.args.queue c.args.next c.args.token v w c.requires.apart c.requires.ahead c.settype.new.self asked c.in-Ok.ensures c.send-in-Ok.ensures in
    (out.0, (refl, subst (λ p. Acknowledges p c.args.queue c.args.next c.args.token out.0 v w) c.other_of-other.ensures out.1), out.2)

pub send-requires-in-Err-clause-there : goal.send-requires-in-Err-clause-there
send-requires-in-Err-clause-there c =
    let v = c.args.pool.now in
    altered_there c.args.token v c.settype.new.self c.args.next (settype c.args.token.head 0 MIocack v.arena) (Err c.in-Err.field-0) c.in-Err.ensures c.requires.ahead

pub returns-in-Err : goal.returns-in-Err
returns-in-Err c =
    let v = c.args.pool.now in
    let w = c.send-in-Err.new.pool in
    let asked = sym c.is_request.ensures ∙ c.if-not-is_request.false in
    let out =
    passed_refused c.other_of-other.result c.args.queue c.args.next c.args.token v w c.requires.apart c.requires.ahead c.settype.new.self asked c.in-Err.field-0 c.requires.has c.in-Err.ensures c.send-in-Err.ensures in
    (out.0, (refl, subst (λ p. Acknowledges p c.args.queue c.args.next c.args.token out.0 v w) c.other_of-other.ensures out.1), out.2)
