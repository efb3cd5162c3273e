use Rattle.std.proofs.Common.{ℕ, [], ◌∷◌, Err, Ok, arith, get_or, length, subst}
use Rattle.strm_queue.specs.QueueCalls as queues
use Rattle.strm_pool.specs.PoolValue.{on_queues, queued_blocks_of}
use Rattle.strm_pool.proofs.Tokens.{err_not_ok}
use Rattle.strm_named.specs.declared.name.Name.{Name}
use Rattle.strm_named.specs.NamedCalls.{Outcome, no_message, on_name}
use Rattle.strm_named.specs.NamedValue.{NamedValue}
use Rattle.strm_c.specs.InC.{no_name}
use Rattle.strm_c.specs.Series.{putq}
use Rattle.strm_c.proofs.Renaming.{gave_up, went_on}
use Rattle.strm_c.proofs.Serial.{HasSpentAll, made, spent_ended, spent_halted, spent_more, spent_none}
use Rattle.strm_c.proofs.several.putq_each.Goals as goal

pub loop-place-init : goal.loop-place-init
loop-place-init c = record {
  so = spent_none (putq c.capped_number-queue.result) c.args.msgs.now c.args.named.now;
  burst = c.new-burst.ensures c.capped_number-queue.result (queued_blocks_of c.args.named.now.pool);
}

abbrev outcome : ℕ → Name → NamedValue → Outcome (Unit {0})
outcome q m v = on_name v m (on_queues v.pool (queues.putq q m.head (queued_blocks_of v.pool)))

pub loop-place-preserved : goal.loop-place-preserved
loop-place-preserved c =
    let q = c.capped_number-queue.result in
    let m : Name = get_or c.args.msgs.now c.loop-place.place no_name in
    let v = c.loop-place.named in
    let w = c.putq_in_burst.new.self in
    record {
      so =
          spent_more (putq q) c.args.msgs.now c.args.named.now v c.loop-place.place c.loop-place.invariant.so (omega arith) w
          (made no_message Ok (outcome q m) (m.head ∷ []) v w c.putq_in_burst.result (Ok tt) c.putq_in_burst.ensures.does c.in-Ok.ensures)
          (went_on no_message Ok (outcome q m v) (m.head ∷ []) v w c.putq_in_burst.result c.putq_in_burst.ensures.does tt c.in-Ok.ensures).2;
      burst = c.putq_in_burst.ensures.place;
    }

pub returns-in-Err : goal.returns-in-Err
returns-in-Err c =
    let q = c.capped_number-queue.result in
    let m : Name = get_or c.args.msgs.now c.loop-place.place no_name in
    let v = c.loop-place.named in
    let w = c.putq_in_burst.new.self in
    let is = subst (λ (n : ℕ). HasSpentAll (putq n) c.args.msgs.now c.args.named.now w c.stopped.result) c.capped_number-queue.ensures
    (spent_halted (putq q) c.args.msgs.now c.args.named.now v c.loop-place.place c.loop-place.invariant.so (omega arith) w c.in-Err.code c.stopped.result
    (made no_message Ok (outcome q m) (m.head ∷ []) v w c.putq_in_burst.result (Err c.in-Err.code) c.putq_in_burst.ensures.does c.in-Err.ensures)
    c.stopped.ensures
    (gave_up no_message Ok (outcome q m v) (m.head ∷ []) v w c.putq_in_burst.result c.putq_in_burst.ensures.does c.in-Err.code c.in-Err.ensures (λ x is _. absurd (err_not_ok is)))) in
    record { makes = is.makes; spent = is.spent }

pub returns : goal.returns
returns c =
    let is = subst (λ (n : ℕ). HasSpentAll (putq n) c.args.msgs.now c.args.named.now c.loop-place.named (Ok (length c.args.msgs.now))) c.capped_number-queue.ensures
    (spent_ended (putq c.capped_number-queue.result) c.args.msgs.now c.args.named.now c.loop-place.named c.loop-place.place c.loop-place.invariant.so (length c.args.msgs.now) (omega arith) (omega arith)) in
    record { makes = is.makes; spent = is.spent }
