use Rattle.std.proofs.Common.{◌≡◌, ◌+◌, ◌-◌, List, arith, ap, drop, length, map, sym, take, ◌∙◌}
use Rattle.std.proofs.lemmas.List.{length-drop, take_rest}
use Rattle.strm_mblk.specs.InPlace.{infos_from}
use Rattle.strm_c.specs.declared.layout.StrmBlockInfo.{StrmBlockInfo}
use Rattle.strm_c.specs.Exports.{array_with}
use Rattle.strm_c.specs.InC.{block_in_c}
use Rattle.strm_c.proofs.BlockArrays.{few_blocks, infos_behind, length-infos_from, more_stored}
use borrow.Rule.Slice.PartMut.{put_mid}
use Rattle.strm_c.proofs.arrays.store_all.Goals.{After-store_some-count}
use Rattle.strm_c.proofs.arrays.store_all.Goals as goal

module _ (c : After-store_some-count) where
  abbrev infos : List StrmBlockInfo
  infos = map block_in_c (infos_from c.args.msg.head c.args.from c.args.named.now.pool.arena)

  -- the array after this part
  more : put_mid c.loop-done.done (length c.loop-done.into - c.loop-done.done) c.loop-done.into c.store_some-count.new.into ≡ array_with (c.loop-done.done + c.store_some-count.result) infos c.args.into.now
  more =
      let h = c.args.msg.head in
      let a = c.args.named.now.pool.arena in
      let d = c.loop-done.done in
      let n = c.store_some-count.result in
      let now = c.loop-done.into in
      more_stored d n infos c.args.into.now now c.store_some-count.new.into (omega (arith, c.loop-done.invariant.few, length-infos_from h c.args.from a)) c.loop-done.invariant.told
      (c.store_some-count.ensures.infos ∙ ap (array_with n (map block_in_c (infos_from h c.loop-done.place a))) (take_rest now d)
      ∙ ap (λ xs. array_with n xs (drop d now)) (ap (λ k. map block_in_c (infos_from h k a)) c.loop-done.invariant.at ∙ sym (infos_behind h c.args.from d a)))

  room : length (take (length c.loop-done.into - c.loop-done.done) (drop c.loop-done.done c.loop-done.into)) ≡ length c.loop-done.into - c.loop-done.done
  room = ap length (take_rest c.loop-done.into c.loop-done.done) ∙ length-drop c.loop-done.done c.loop-done.into

pub returns-then-count-lt-TOGETHER-clause-infos : goal.returns-then-count-lt-TOGETHER-clause-infos
returns-then-count-lt-TOGETHER-clause-infos c =
    let now = (goal.at.returns-then-count-lt-TOGETHER-clause-infos c).After-store_some-count in
    more now
    ∙ ap (λ n. array_with n (infos now) c.args.into.now)
    (omega (arith, room now, c.store_some-count.ensures.count, c.loop-done.invariant.at, c.loop-done.invariant.few, c.loop-done.invariant.within, c.if-count-lt-TOGETHER.true, c.loop-done.auto.into))

pub overflow_add-place : goal.overflow_add-place
overflow_add-place c =
    omega (arith, few_blocks c.args.named.now.pool c.lawful.ensures.pool c.args.msg.head, c.store_some-count.ensures.count, c.if-count-lt-TOGETHER.false)

pub loop-done-preserved : goal.loop-done-preserved
loop-done-preserved c =
    let now = (goal.at.loop-done-preserved c).After-store_some-count in
    record {
      at = omega (arith, c.loop-done.invariant.at);
      few = omega (arith, room now, c.store_some-count.ensures.count, c.loop-done.invariant.at, c.loop-done.invariant.few);
      within = omega (arith, room now, c.store_some-count.ensures.count, c.loop-done.invariant.within);
      told = more now;
    }
