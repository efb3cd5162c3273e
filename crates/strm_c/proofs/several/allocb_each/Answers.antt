use Rattle.std.proofs.Common.{◌≡◌, ℕ, [], Err, Ok, ap, arith, length, refl, replicate, subst}
use Rattle.std.specs.Prelude.{take}
use Rattle.std.proofs.lemmas.List.{length-replicate}
use Rattle.strm_mblk.specs.BlockCalls as blocks
use Rattle.strm_mblk.specs.BlockCalls.{IsSupplied}
use Rattle.strm_pool.specs.PoolValue.{PoolValue, on_arena}
use Rattle.strm_pool.proofs.Tokens.{same_ok}
use Rattle.strm_named.specs.NamedCalls.{Outcome, one_message, outcome_of}
use Rattle.strm_named.specs.NamedValue.{NamedValue}
use Rattle.strm_c.specs.declared.code.Code.TheVariants.{Refused}
use Rattle.strm_c.specs.Series.{allocb}
use Rattle.strm_c.proofs.Renaming.{gives_one, went_on}
use Rattle.strm_c.proofs.Serial.{HasStored, made, made_not, replicated, stored_ended, stored_halted, stored_more, stored_none}
use Rattle.strm_c.proofs.Unheld.{allocb_unheld}
use Rattle.strm_c.proofs.several.allocb_each.Goals as goal

pub loop-place-init : goal.loop-place-init
loop-place-init c = record {
  within = omega arith;
  so = stored_none (replicate (length c.args.msgs.now) (allocb c.args.size)) c.args.named.now c.args.msgs.now;
}

abbrev outcome : ℕ → NamedValue → Outcome ℕ
outcome size v = outcome_of (on_arena v.pool (blocks.allocb size v.pool.arena))

pub loop-at-init : goal.loop-at-init
loop-at-init c = record {
  so = c.loop-place.invariant.so;
  supplied = subst (λ (p : PoolValue). IsSupplied c.args.size p.arena c.in-Ok.found) c.pool.ensures c.in-Ok.ensures.supply;
  enough = omega (arith, c.min.ensures);
}

pub loop-at-preserved : goal.loop-at-preserved
loop-at-preserved c =
    let v = c.loop-at.named in
    let w = c.allocb_from.new.self in
    let does = c.allocb_from.ensures.does in
    let told : Ok c.allocb_from.result ≡ Ok c.allocb_from.result = refl in
    let one = went_on one_message Ok (outcome c.args.size v) [] v w (Ok c.allocb_from.result) does c.allocb_from.result told in
    record {
      so =
          stored_more (replicate (length c.args.msgs.now) (allocb c.args.size)) c.args.named.now v c.args.msgs.now c.loop-at.msgs c.loop-at.at c.loop-at.invariant.so (allocb c.args.size)
          (replicated (length c.args.msgs.now) c.loop-at.at (allocb c.args.size) (omega arith)) w c.allocb_from.result
          (made one_message Ok (outcome c.args.size) [] v w (Ok c.allocb_from.result) (Ok c.allocb_from.result) does told)
          (omega arith)
          (gives_one (take c.loop-at.at c.loop-at.msgs) c.args.named.now v w c.loop-at.invariant.so.given one.0.0 one.2
          (allocb_unheld c.args.size v.pool c.lawful.ensures.pool.parted one.0 one.1) c.allocb_from.result (same_ok one.3));
      supplied = c.allocb_from.ensures.supply;
      enough = omega arith;
    }

pub loop-place-preserved : goal.loop-place-preserved
loop-place-preserved c = record {
  within = omega (arith, c.min.ensures);
  so = subst (HasStored (replicate (length c.args.msgs.now) (allocb c.args.size)) c.args.named.now c.loop-at.named c.args.msgs.now c.loop-at.msgs) (omega arith) c.loop-at.invariant.so;
}

pub returns-in-Err : goal.returns-in-Err
returns-in-Err c =
    let v = c.loop-place.named in
    let is = stored_halted (replicate (length c.args.msgs.now) (allocb c.args.size)) c.args.named.now v c.args.msgs.now c.loop-place.msgs c.loop-place.place c.loop-place.invariant.so (allocb c.args.size)
    (replicated (length c.args.msgs.now) c.loop-place.place (allocb c.args.size) (omega arith)) v (Refused c.in-Err.why) c.stopped.result
    (made_not one_message Ok (outcome c.args.size) v (ap (λ g. outcome_of (on_arena v.pool g)) (subst (λ (p : PoolValue). blocks.allocb c.args.size p.arena ≡ Err c.in-Err.why) c.pool.ensures c.in-Err.ensures.refused)))
    c.stopped.ensures (omega arith) c.loop-place.invariant.so.given in
    record { makes = is.makes; names = is.names; valid = is.valid }

pub returns : goal.returns
returns c =
    let is = stored_ended (replicate (length c.args.msgs.now) (allocb c.args.size)) c.args.named.now c.loop-place.named c.args.msgs.now c.loop-place.msgs c.loop-place.place c.loop-place.invariant.so (omega arith)
    (omega (arith, length-replicate (length c.args.msgs.now) (allocb c.args.size))) in
    record { makes = is.makes; names = is.names; valid = is.valid }
