use Rattle.std.proofs.Common.{List, ap, refl, arith, subst, sym, ◌∙◌}
use Rattle.strm_data.specs.DataStore.{capacity_of}
use Rattle.strm_mblk.specs.Arena.{Arena, shelved_blocks}
use Rattle.strm_mblk.proofs.Altering.{data_there, fields_filled, fields_show, number_there}
use Rattle.strm_mblk.proofs.layout.StoredArena.{still_whole}
use Rattle.strm_links.specs.ChainLists.{ChainLists}
use Rattle.strm_mblk.specs.declared.blocks.Fields.{Fields}
use Rattle.strm_mblk.specs.BlocksLayout.{IsFilled, arena_of}
use Rattle.strm_mblk.proofs.blocks.Blocks.set_fields.Goals as goal

pub set_load-requires : goal.set_load-requires
set_load-requires c =
    let suits = c.requires in
    omega (arith, number_there c.self.invariant.filled c.self.view_is c.args.node suits.head suits.place suits.block suits.found suits.number)

pub invariant_of-self : goal.invariant_of-self
invariant_of-self c =
    let suits = c.requires in
    let i = c.self.inside in
    still_whole _ c.self.invariant c.self.view_is refl
    (subst (λ (p : List Fields × ChainLists). IsFilled i.data p.0 p.1 (arena_of i.id i.data.store p.0 p.1)) (λ j. (sym c.set_load.ensures.loads j, sym c.set_load.ensures.lists j))
    (fields_filled c.self.invariant.filled c.self.view_is
    c.args.node suits.head suits.place suits.block suits.found suits.number c.args.fields suits.same
    (record {
      there =
          data_there c.self.invariant.filled c.self.view_is
          c.args.node suits.head suits.place suits.block suits.found suits.number c.args.fields suits.same;
      within = omega (arith, suits.room, ap (λ (a : Arena). capacity_of a.store c.args.fields.data_number) c.self.view_is);
      banded = suits.banded;
    })))
    (ap shelved_blocks ((λ j. arena_of i.id i.data.store (c.set_load.ensures.loads j) (c.set_load.ensures.lists j)) ∙ fields_show c.self.invariant.filled c.self.view_is
    c.args.node suits.head suits.place suits.block suits.found suits.number c.args.fields))

pub returns : goal.returns
returns c h k b found number =
    let i = c.self.inside in
    (λ j. arena_of i.id i.data.store (c.set_load.ensures.loads j) (c.set_load.ensures.lists j))
    ∙ fields_show c.self.invariant.filled c.self.view_is c.args.node h k b found number c.args.fields
