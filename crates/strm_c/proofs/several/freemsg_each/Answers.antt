use Rattle.std.proofs.Common.{[], ◌∷◌, Err, Ok, arith, get_or}
use Rattle.strm_mblk.specs.Freeing as freeing
use Rattle.strm_mblk.specs.Given.{given_nothing}
use Rattle.strm_pool.specs.PoolValue.{with_arena}
use Rattle.strm_pool.proofs.Tokens.{err_not_ok}
use Rattle.strm_named.specs.declared.name.Name.{Name}
use Rattle.strm_named.specs.NamedCalls.{Outcome, no_message, on_name}
use Rattle.strm_named.specs.NamedValue.{NamedValue}
use Rattle.strm_c.specs.InC.{no_name}
use Rattle.strm_c.specs.Series.{freemsg}
use Rattle.strm_c.proofs.Renaming.{gave_up, went_on}
use Rattle.strm_c.proofs.Serial.{made, spent_ended, spent_halted, spent_more, spent_none}
use Rattle.strm_c.proofs.several.freemsg_each.Goals as goal

pub loop-place-init : goal.loop-place-init
loop-place-init c = spent_none freemsg c.args.msgs.now c.args.named.now

abbrev outcome : Name → NamedValue → Outcome (Unit {0})
outcome m v = on_name v m (given_nothing (with_arena v.pool (freeing.freemsg m.head v.pool.arena)))

pub loop-place-preserved : goal.loop-place-preserved
loop-place-preserved c =
    let m : Name = get_or c.args.msgs.now c.loop-place.place no_name in
    let v = c.loop-place.named in
    let w = c.freemsg.new.self in
    spent_more freemsg c.args.msgs.now c.args.named.now v c.loop-place.place c.loop-place.invariant (omega arith) w
    (made no_message Ok (outcome m) (m.head ∷ []) v w c.freemsg.result (Ok tt) c.freemsg.ensures c.in-Ok.ensures)
    (went_on no_message Ok (outcome m v) (m.head ∷ []) v w c.freemsg.result c.freemsg.ensures tt c.in-Ok.ensures).2

pub returns-in-Err : goal.returns-in-Err
returns-in-Err c =
    let m : Name = get_or c.args.msgs.now c.loop-place.place no_name in
    let v = c.loop-place.named in
    let w = c.freemsg.new.self in
    let is = spent_halted freemsg c.args.msgs.now c.args.named.now v c.loop-place.place c.loop-place.invariant (omega arith) w c.in-Err.code c.stopped.result
    (made no_message Ok (outcome m) (m.head ∷ []) v w c.freemsg.result (Err c.in-Err.code) c.freemsg.ensures c.in-Err.ensures)
    c.stopped.ensures
    (gave_up no_message Ok (outcome m v) (m.head ∷ []) v w c.freemsg.result c.freemsg.ensures c.in-Err.code c.in-Err.ensures (λ x is _. absurd (err_not_ok is))) in
    record { makes = is.makes; spent = is.spent }

pub returns : goal.returns
returns c =
    let is = spent_ended freemsg c.args.msgs.now c.args.named.now c.loop-place.named c.loop-place.place c.loop-place.invariant _ (omega arith) (omega arith) in
    record { makes = is.makes; spent = is.spent }
