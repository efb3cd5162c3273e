use Rattle.std.proofs.Common.{sym, ap, ◌∙◌, subst, arith}
use Rattle.strm_links.specs.StackLayout.{stacked_rows, IsSound}
use Rattle.strm_links.proofs.Stacked.{behind-reloaded, load_room, loads-reloaded, rows_are}
use Rattle.strm_links.proofs.stacks.Stacks.set_load.Goals as goal

pub index_mut-requires : goal.index_mut-requires
index_mut-requires g c = omega (arith, c.requires, load_room _ _ _ c.self.view_is)

pub invariant_of-self : goal.invariant_of-self
invariant_of-self g c =
    subst (λ bs. IsSound bs c.self.inside.tops.items (stacked_rows bs c.self.inside.tops.items))
    (sym (behind-reloaded _ _ _ c.self.view_is c.args.node c.index_mut.result.now c.index_mut.ensures.value c.args.load)) c.self.invariant

pub returns : goal.returns
returns g c = record {
  rows =
      ap (λ bs. stacked_rows bs c.self.inside.tops.items) (behind-reloaded _ _ _ c.self.view_is c.args.node c.index_mut.result.now c.index_mut.ensures.value c.args.load)
      ∙ rows_are _ _ _ c.self.view_is;
  loads = loads-reloaded _ _ _ c.self.view_is c.args.node c.index_mut.result.now c.index_mut.ensures.value c.args.load;
}
