use Rattle.std.proofs.Common.{◌≡◌, ◌∙◌, ap, sym, arith, length, None}
use Rattle.std.proofs.lemmas.List.{length-map, take_all}
use Rattle.std.proofs.lemmas.List.Sums.{sum_by_more}
use Rattle.strm_pool.specs.Limits.{most_registers}
use Rattle.strm_pool.specs.Registers.{entries_of, register}
use Rattle.strm_shared.specs.Desks.{DeskValue}
use Rattle.strm_shared.specs.Ledger.{blocks_listed, entry_blocks}
use Rattle.strm_shared.proofs.desk.Desk.blocks_held.Goals as goal

pub loop-place-preserved : goal.loop-place-preserved
loop-place-preserved g c =
    let rs = c.args.self.now.regs in
    let es = entries_of rs in
    let x = c.loop-place.place in
    let same : c.entry.result ≡ register es x = c.entry.ensures ∙ ap (λ (d : DeskValue). register (entries_of d.regs) c.in-Some.reg) c.self.view_is ∙ ap (register es) (c.in-Some.ensures.1) in
    let long : length es ≡ most_registers = length-map rs _ ∙ ap (λ (d : DeskValue). length d.regs) (sym c.self.view_is) ∙ c.lawful.ensures in
    record {
      sum = omega (
        arith,
        c.loop-place.invariant.sum,
        c.blocks_told-blocks.ensures.value,
        ap entry_blocks same,
        sum_by_more entry_blocks es x None (omega (arith, c.loop-place-test.true, long)),
      );
      small = omega (arith, c.loop-place.invariant.small, c.blocks_told-blocks.ensures.small);
    }

pub overflow_add-blocks : goal.overflow_add-blocks
overflow_add-blocks g c = omega (arith, c.loop-place.invariant.small, c.loop-place-test.true, c.blocks_told-blocks.ensures.small)

pub returns : goal.returns
returns g c =
    let rs = c.args.self.now.regs in
    let es = entries_of rs in
    let long : length es ≡ most_registers = length-map rs _ ∙ ap (λ (d : DeskValue). length d.regs) (sym c.self.view_is) ∙ c.lawful.ensures in
    c.loop-place.invariant.sum ∙ ap blocks_listed (take_all c.loop-place.place es (omega (arith, long, c.loop-place-test.false)))
