use Rattle.std.proofs.Common.{◌≡◌, ◌≢◌, ◌∷◌, [], get_or, length, set, refl, sym, ap, ◌∙◌, subst, arith}
use Rattle.strm_links.specs.LoadedRows.{LoadedRows}
use Rattle.strm_links.specs.Rows.{Rows, holder}
use Rattle.strm_data.specs.declared.data.DataBlock.{DataBlock}
use Rattle.strm_data.specs.CountedStore.{CountedStore, IsKept, IsInUse, without_reference}
use Rattle.strm_data.specs.DataLayout.{store_of, store_of_parts, IsSound}
use Rattle.strm_data.specs.DataStore as store
use Rattle.strm_data.specs.DataStore.{IsLeast}
use Rattle.strm_data.proofs.layout.Alterations.{lowered, released, IsSound-altered}
use Rattle.strm_data.proofs.layout.Seen.{count_is, holder_unlisted, seen_is}
use Rattle.strm_data.proofs.store.Kept.{IsKept-without_name, IsLeast-without_name}
use Rattle.strm_data.proofs.data.Data.drop_name.Goals as goal
use Rattle.strm_data.proofs.data.Data.drop_name.Goals.{After-set_load}

-- what holds of the data blocks once a contract sees a reference less
module _ (c : After-set_load) (now : LoadedRows DataBlock)
    (after : store_of_parts c.self.inside.classes.items c.self.inside.bytes.items now.loads now.rows.lists ≡ without_reference c.args.number c.args.self.now) where
  kept : IsKept (store_of_parts c.self.inside.classes.items c.self.inside.bytes.items now.loads now.rows.lists)
  kept =
      subst IsKept (sym after)
      (IsKept-without_name c.args.self.now c.args.number (subst IsKept c.self.view_is c.self.invariant.kept) c.requires.used c.requires.there)

  sound : now.rows.nodes ≡ c.self.inside.blocks.rows.nodes → now.loads ≡ c.set_load.new.self.loads → IsSound (record c.self.inside { blocks = now })
  sound nodes loads =
      IsSound-altered c.self.inside _ c.self.view_is c.args.number c.load-block.result.now c.load-block.ensures _ refl now (loads ∙ c.set_load.ensures.loads) c.self.invariant nodes kept
      (subst (λ (s : CountedStore). IsLeast s.store) (sym after)
      (IsLeast-without_name c.args.self.now c.args.number (subst IsKept c.self.view_is c.self.invariant.kept) c.requires.there
      (subst (λ (s : CountedStore). IsLeast s.store) c.self.view_is c.self.invariant.least)))

pub push_front-requires-clause-list : goal.push_front-requires-clause-list
push_front-requires-clause-list c =
    let kept = subst IsKept c.self.view_is c.self.invariant.kept in
    omega (
      arith,
      ap (λ (b : store.DataBlock). b.class) (seen_is c.self.inside _ c.self.view_is c.args.number c.load-block.result.now c.load-block.ensures),
      kept.classed c.args.number c.requires.there,
      kept.lists,
      ap (λ (s : CountedStore). length s.store.free) c.self.view_is,
      ap (λ (r : Rows). length r.lists) c.set_load.ensures.rows,
    )

pub push_front-requires-clause-free : goal.push_front-requires-clause-free
push_front-requires-clause-free c =
    ap (holder c.args.number) c.set_load.ensures.rows
    ∙ holder_unlisted (store_of c.self.inside) c.self.invariant.kept c.self.inside.blocks.rows.nodes c.args.number (subst (λ s. IsInUse s c.args.number) (sym c.self.view_is) c.requires.used)

pub returns-then-block-eq0-clause-after : goal.returns-then-block-eq0-clause-after
returns-then-block-eq0-clause-after c =
    let references = count_is c.self.inside _ c.self.view_is c.args.number c.load-block.result.now c.load-block.ensures in
    released c.self.inside _ c.self.view_is c.args.number c.load-block.result.now c.load-block.ensures c.push_front.new.self (c.push_front.ensures.loads ∙ c.set_load.ensures.loads) (omega (arith, references, c.requires.used))
    (ap (λ (r : Rows). r.lists) c.push_front.ensures.lists
    ∙ (λ i. set (c.set_load.ensures.rows i).lists (c.from.ensures i) (c.args.number ∷ get_or (c.set_load.ensures.rows i).lists (c.from.ensures i) [])))

pub returns-then-block-eq0-clause-kept : goal.returns-then-block-eq0-clause-kept
returns-then-block-eq0-clause-kept c = kept (goal.at.returns-then-block-eq0-clause-kept c).After-set_load c.push_front.new.self (returns-then-block-eq0-clause-after c)

pub invariant_of-self : goal.invariant_of-self
invariant_of-self c =
    sound (goal.at.invariant_of-self c).After-set_load c.push_front.new.self (returns-then-block-eq0-clause-after c)
    (ap (λ (r : Rows). r.nodes) (c.push_front.ensures.lists) ∙ ap (λ (r : Rows). r.nodes) c.set_load.ensures.rows) c.push_front.ensures.loads

pub returns-else-block-eq0-clause-after : goal.returns-else-block-eq0-clause-after
returns-else-block-eq0-clause-after c =
    let more : c.load-block.result.now.references ≢ 1 = λ one. c.if-block-eq0.false (omega arith) in
    lowered c.self.inside _ c.self.view_is c.args.number c.load-block.result.now c.load-block.ensures c.set_load.new.self c.set_load.ensures.loads c.set_load.ensures.rows more

pub returns-else-block-eq0-clause-kept : goal.returns-else-block-eq0-clause-kept
returns-else-block-eq0-clause-kept c = kept (goal.at.returns-else-block-eq0-clause-kept c).After-set_load c.set_load.new.self (returns-else-block-eq0-clause-after c)

pub invariant_of-self-else-block-eq0 : goal.invariant_of-self-else-block-eq0
invariant_of-self-else-block-eq0 c =
    sound (goal.at.invariant_of-self-else-block-eq0 c).After-set_load c.set_load.new.self (returns-else-block-eq0-clause-after c) (ap (λ (r : Rows). r.nodes) c.set_load.ensures.rows) refl
