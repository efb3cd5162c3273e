use Rattle.std.proofs.Common.{rules, ◌+◌, [], ◌∷◌, ◌++◌, length, ◌∙◌, ap, arith, subst, sym}
use Rattle.std.proofs.lemmas.List.{length_push}
use Rattle.strm_pool.specs.Limits.{most_registers}
use Rattle.strm_pool.specs.Registers.{CarryId, entries_of}
use Rattle.strm_shared.specs.Ledger.{blocks_held}
use Rattle.strm_shared.specs.declared.views.History.{History}
use Rattle.strm_shared.specs.Pairs.{pair_at}
use Rattle.strm_shared.specs.Desks.{desk_value}
use Rattle.strm_shared.specs.Seats.{new_known, opening_history}
use Rattle.strm_shared.specs.SeatsLayout.{IsLock}
use Rattle.strm_shared.proofs.seats.Desks.{known_is}
use Rattle.strm_shared.proofs.seats.Histories.{opening_more}
use Rattle.strm_shared.proofs.Opening.{carry_none, fresh_more, new_seated}
use Rattle.strm_shared.proofs.start.hand_out.Goals as goal

pub split_off-requires-clause-has_parts : goal.split_off-requires-clause-has_parts
split_off-requires-clause-has_parts g c = omega (arith, c.loop-number-test.true, c.loop-number.invariant.parts)

pub split_off-requires-clause-left_backed : goal.split_off-requires-clause-left_backed
split_off-requires-clause-left_backed g c = λ _. sym c.loop-number.invariant.amount

pub invariant_of-push : goal.invariant_of-push
invariant_of-push g c = record {
  desk = record {
    below = omega (arith, c.loop-number-test.true, c.requires.below);
    carry = subst (CarryId g.N.Name.opened.arena.id) (sym c.new.ensures) (carry_none g.N.Name.opened.arena.id most_registers);
  };
  share = record { one = c.split_off.ensures.parts; counted = c.split_off.ensures.amount ∙ sym (ap blocks_held c.new.ensures) };
  seat = new_seated _ (pair_at g.N.Name.first g.N.Name.opened) _ _ _ _ _ c.requires.blocks c.requires.few_blocks c.requires.first (ap entries_of c.new.ensures) (c.seat_desk.ensures _ c.loop-number.invariant.lock).1;
}

pub loop-number-preserved : goal.loop-number-preserved
loop-number-preserved g c =
    let o = pair_at g.N.Name.first g.N.Name.opened in
    let n = c.loop-number.number in
    let seats = c.seat_desk.ensures (opening_history o n) c.loop-number.invariant.lock in
    let left = known_is g.N.Name.board (new_known (opening_history o n)) c.seat_desk.result seats.1 in
    record {
      lock = subst (λ (h : History). IsLock g.N.Name.board h [] c.seat_desk.new.lock) (opening_more o n) seats.0;
      desks = c.push.ensures ∙ (λ i. c.loop-number.invariant.desks i ++ desk_value n (c.new.ensures i) (left i).pairs (left i).served ∷ []) ∙ sym (fresh_more n (o ∷ []));
      len = ap length c.push.ensures ∙ length_push _ _ ∙ ap (λ k. k + 1) c.loop-number.invariant.len;
      parts = omega (arith, c.split_off.ensures.parts_left, c.loop-number.invariant.parts);
      amount = search rules;
    }
