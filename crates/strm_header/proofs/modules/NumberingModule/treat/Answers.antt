-- Data gets a header, and any other message passes.
use Rattle.std.proofs.Common.{◌≡◌, Err, Ok, refl, sym, subst, true, ◌∙◌}
use Rattle.strm_mblk.specs.BlockCalls.{testb}
use Rattle.strm_mblk.specs.InPlace.{prepend}
use Rattle.strm_pool.specs.PoolValue.{PoolValue}
use Rattle.strm_header.specs.Modules.{header_of}
use Rattle.strm_scheduler.proofs.Unchanged.{keeps_joined}
use Rattle.strm_header.proofs.Outcomes.{altered_keeps, block_ready, headed_in_block, headed_in_room, passed_numbered, passed_unnumbered, refused_same}
use Rattle.strm_header.proofs.modules.NumberingModule.treat.Goals as goal

pub returns-then-not-is_message_of : goal.returns-then-not-is_message_of
returns-then-not-is_message_of c =
    passed_unnumbered c.args.self.now.number c.args._queue c.args.next c.args.token c.args.pool.now c.send.new.pool c.requires.apart c.requires.ahead
    (sym c.is_message_of.ensures ∙ c.if-not-is_message_of.true) c.requires.has c.send.ensures

pub returns-in-Ok : goal.returns-in-Ok
returns-in-Ok c =
    let number = c.args.self.now.number in
    let t = c.args.token in
    let v = c.args.pool.now in
    let x = c.prepend.new.self in
    let call = prepend t.head (header_of number) v.arena in
    passed_numbered number c.args._queue c.args.next t v c.send-in-Ok.new.pool c.requires.apart c.requires.ahead _ t x
    (sym c.is_message_of.ensures ∙ c.if-not-is_message_of.false) refl (headed_in_room t v x (header_of number) call c.in-Ok.ensures) c.in-Ok.ensures.had (altered_keeps t v x call (Ok tt) c.in-Ok.ensures) c.send-in-Ok.ensures

pub link_header-token-requires-clause-free : goal.link_header-token-requires-clause-free
link_header-token-requires-clause-free c =
    let t = c.args.token in
    let v = c.args.pool.now in
    let same = (refused_same t v c.prepend.new.self (prepend t.head (header_of c.args.self.now.number) v.arena) c.in-Err.field-0 c.in-Err.ensures).1 in
    subst (λ (p : PoolValue). testb 2 p.arena ≡ true) (sym same)
    (block_ready _ c.args.self.now c.args._queue c.args.next t v c.requires.met c.requires.met.needed (sym c.is_message_of.ensures ∙ c.if-not-is_message_of.false))

pub returns-in-Err : goal.returns-in-Err
returns-in-Err c =
    let number = c.args.self.now.number in
    let t = c.args.token in
    let v = c.args.pool.now in
    let x = c.prepend.new.self in
    let w = c.link_header-token.new.pool in
    let call = prepend t.head (header_of number) v.arena in
    let linked = c.link_header-token.ensures in
    passed_numbered number c.args._queue c.args.next t v c.send-in-Err.new.pool c.requires.apart c.requires.ahead _ c.link_header-token.result w
    (sym c.is_message_of.ensures ∙ c.if-not-is_message_of.false) refl (headed_in_block t v x (header_of number) call c.in-Err.field-0 c.link_header-token.result w c.in-Err.ensures linked.linked)
    linked.has (keeps_joined v x w (altered_keeps t v x call (Err c.in-Err.field-0) c.in-Err.ensures) linked.keeps) c.send-in-Err.ensures
