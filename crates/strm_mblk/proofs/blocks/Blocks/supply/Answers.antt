use Rattle.std.proofs.Common.{◌≡◌, subst, arith}
use Rattle.strm_data.proofs.store.Lawful.{class_there}
use Rattle.strm_mblk.specs.declared.blocks.Supply.{Supply}
use Rattle.strm_mblk.specs.Arena.{Arena}
use Rattle.strm_mblk.specs.BlockCalls.{IsSupplied, calls_supplied}
use Rattle.strm_mblk.proofs.blocks.Blocks.supply.Goals as goal

pub free_in-requires : goal.free_in-requires
free_in-requires c = omega (arith, class_there c.self.inside.data.store c.in_ok-class.class c.in_ok-class.ensures.found.some, c.self.invariant.filled.kept.lists)

pub returns-clause-supply : goal.returns-clause-supply
returns-clause-supply c =
    let supply : Supply = record { class = c.in_ok-class.class; count = c.min-count.result } in
    subst (λ a. IsSupplied c.args.size a supply) c.self.view_is
    (record {
      class = c.in_ok-class.ensures.class;
      data_blocks = omega (arith, c.min-count.ensures, c.free_in.ensures);
      message_blocks = omega (arith, c.min-count.ensures, c.free_len-free.ensures);
    })

pub returns-clause-count : goal.returns-clause-count
returns-clause-count c =
    subst (λ (a : Arena). c.min-count.result ≡ calls_supplied c.in_ok-class.class a) c.self.view_is
    (omega (arith, c.min-count.ensures, c.free_in.ensures, c.free_len-free.ensures))
