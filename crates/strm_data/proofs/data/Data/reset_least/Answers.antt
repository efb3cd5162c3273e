use Rattle.std.proofs.Common.{◌≡◌, List, map, sym, ap, ◌∙◌, subst}
use Rattle.std.specs.Vec.{with_items}
use Rattle.std.proofs.lemmas.List.{with_items_is}
use Rattle.strm_data.specs.declared.data.Class.{Class}
use Rattle.strm_data.specs.CountedStore.{CountedStore, IsKept}
use Rattle.strm_data.specs.DataLayout.{room_of, store_of, store_of_parts, IsPlaced}
use Rattle.strm_data.proofs.layout.Taking.{specs_of}
use Rattle.strm_data.specs.DataStore.{IsLeast, with_data_reset}
use Rattle.strm_data.proofs.store.Kept.{IsKept-least, IsLeast-reset}
use Rattle.strm_data.proofs.data.Data.reset_least.Goals as goal
use Rattle.strm_data.proofs.data.Data.reset_least.Goals.{After-reset}

module _ (c : After-reset) where
  abbrev now : List Class
  now = c.reset.new.classes

  is : (with_items c.self.inside.classes now).items ≡ now
  is = with_items_is c.self.inside.classes now (c.reset.auto.classes ∙ c.deref_mut.ensures.len)

  rooms : map room_of now ≡ map room_of c.self.inside.classes.items
  rooms = c.reset.ensures.rooms ∙ ap (map room_of) c.deref_mut.ensures.value

  after : store_of_parts (with_items c.self.inside.classes now).items c.self.inside.bytes.items c.self.inside.blocks.loads c.self.inside.blocks.rows.lists
      ≡ record c.args.self.now { store = with_data_reset c.args.self.now.store }
  after =
      ap (λ ks. store_of_parts ks c.self.inside.bytes.items c.self.inside.blocks.loads c.self.inside.blocks.rows.lists) is
      ∙ (λ i. record (store_of c.self.inside) { store = record (store_of c.self.inside).store { classes = specs_of now c.self.inside.classes.items rooms i; least = c.reset.ensures.least i } })
      ∙ ap (λ (s : CountedStore). record s { store = with_data_reset s.store }) c.self.view_is

  kept_before : IsKept c.args.self.now
  kept_before = subst IsKept c.self.view_is c.self.invariant.kept

  kept : IsKept (record c.args.self.now { store = with_data_reset c.args.self.now.store })
  kept = IsKept-least c.args.self.now (with_data_reset c.args.self.now.store).least kept_before

  placed : IsPlaced (map room_of (with_items c.self.inside.classes now).items) c.self.inside.bytes.items c.self.inside.blocks.loads
  placed = subst (λ rs. IsPlaced rs c.self.inside.bytes.items c.self.inside.blocks.loads) (sym (ap (map room_of) is ∙ rooms)) c.self.invariant.placed

pub returns-clause-after : goal.returns-clause-after
returns-clause-after c = after (goal.at.returns-clause-after c).After-reset

pub returns-clause-kept : goal.returns-clause-kept
returns-clause-kept c = let at = (goal.at.returns-clause-kept c).After-reset in subst IsKept (sym (after at)) (kept at)

pub invariant_of-self : goal.invariant_of-self
invariant_of-self c =
    let at = (goal.at.invariant_of-self c).After-reset in
    record {
      kept = subst IsKept (sym (after at)) (kept at);
      placed = placed at;
      least = subst (λ (s : CountedStore). IsLeast s.store) (sym (after at)) (IsLeast-reset c.args.self.now.store (kept_before at).lists);
      nodes = c.self.invariant.nodes;
    }
