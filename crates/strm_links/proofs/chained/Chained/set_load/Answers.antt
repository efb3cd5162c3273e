use Rattle.std.proofs.Common.{arith, refl}
use Rattle.std.specs.Vec.{with_item}
use Rattle.strm_links.proofs.chains.Whole.{IsWhole-loaded, lists_kept, load_room, loaded_is}
use Rattle.strm_links.proofs.chained.Chained.set_load.Goals as goal

pub index_mut-requires : goal.index_mut-requires
index_mut-requires g c = omega (arith, c.requires, load_room c.self.invariant c.self.view_is)

pub invariant_of-self : goal.invariant_of-self
invariant_of-self g c = IsWhole-loaded c.self.invariant c.self.view_is _ c.args.node c.args.load c.index_mut.ensures.value refl

pub returns : goal.returns
returns g c = record {
  lists = lists_kept c.self.invariant c.self.view_is (with_item c.self.inside.table.nodes c.args.node (record c.index_mut.result.now { load = c.args.load })) c.args.node c.args.load c.index_mut.ensures.value refl;
  loads = loaded_is c.self.invariant c.self.view_is (with_item c.self.inside.table.nodes c.args.node (record c.index_mut.result.now { load = c.args.load })) c.args.node c.args.load c.index_mut.ensures.value refl;
}
