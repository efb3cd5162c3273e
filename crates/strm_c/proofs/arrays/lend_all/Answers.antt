use Rattle.std.proofs.Common.{◌≡◌, List, ℕ, Some, arith, length, subst, sym}
use Rattle.std.specs.Prelude.{slice_get}
use denote.RawPtr.{InBlock}
use Rattle.strm_c.specs.declared.layout.StrmIov.{StrmIov}
use Rattle.strm_c.specs.InPlace.{blocks_lent, lengths_lent}
use Rattle.strm_c.proofs.BlockArrays.{few_lent, length-lengths_in, lent_at, lent_more, lent_none, within_sizes}
use Rattle.strm_c.proofs.arrays.lend_all.Goals.{In-Some}
use Rattle.strm_c.proofs.arrays.lend_all.Goals as goal

pub loop-done-init : goal.loop-done-init
loop-done-init c = record {
  at = omega arith;
  lent = lent_none (lengths_lent c.args.named.now c.args.lent c.args.from) c.args.into.now;
}

module _ (c : In-Some) where
  abbrev sizes : List ℕ
  sizes = lengths_lent c.args.named.now c.args.lent c.args.from

  -- the number of bytes of the next block
  next : slice_get sizes c.loop-done.done ≡ Some (length c.in-Some.bytes.now)
  next =
      lent_at c.args.named.now.pool.arena.store (blocks_lent c.args.named.now c.args.lent) c.args.from c.loop-done.done c.loop-done.place c.loop-done.invariant.at c.in-Some.bytes.now c.in-Some.ensures

pub overflow_add-place : goal.overflow_add-place
overflow_add-place c =
    let here = (goal.at.overflow_add-place c).In-Some in
    omega (
      arith,
      few_lent c.args.named.now c.lawful.ensures.pool c.args.lent,
      length-lengths_in c.args.named.now.pool.arena.store (blocks_lent c.args.named.now c.args.lent) c.args.from,
      within_sizes (sizes here) c.loop-done.done (length c.in-Some.bytes.now) (next here),
      c.loop-done.invariant.at,
    )

pub loop-done-preserved : goal.loop-done-preserved
loop-done-preserved c =
    let here = (goal.at.loop-done-preserved c).In-Some in
    let item : StrmIov = record { base = c.address_of.result; length = length c.in-Some.bytes.now } in
    record {
      at = omega (arith, c.loop-done.invariant.at);
      lent =
          lent_more (sizes here) c.args.into.now c.loop-done.into c.loop-done.done item c.loop-done.invariant.lent (omega (arith, c.loop-done-test.true, c.loop-done.auto.into)) c.loop-done.auto.into
          (next here) (subst InBlock (sym c.address_of.ensures) tt);
    }
