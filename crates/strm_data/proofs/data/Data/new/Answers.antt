use Rattle.std.proofs.Common.{◌≡◌, ◌-◌, [], length, get_or, replicate, set, refl, sym, ap, ◌∙◌, subst, arith}
use Rattle.std.specs.List.{range_with_len}
use Rattle.strm_links.specs.Rows.{Rows, holder}
use Rattle.strm_links.proofs.lists.AllLists.{holder-empty}
use Rattle.strm_data.specs.CountedStore.{CountedStore, IsKept}
use Rattle.strm_data.specs.DataLayout.{store_of_parts}
use Rattle.strm_data.specs.DataStore.{no_class_spec, IsLeast}
use Rattle.strm_data.proofs.layout.Opened.{AreLaid-more, AreLaid-none, end_few, end_low, filled-all, filled-more, filled-next, length-filled, length-laid, length_opened, opened_is, total_of_more, total_of_next, IsPlaced-opened}
use Rattle.strm_data.proofs.store.Kept.{IsLeast-opening}
use Rattle.strm_data.proofs.store.Lawful.{lawful_size}
use Rattle.strm_data.proofs.store.Opening.{IsKept-opening}
use Rattle.strm_data.proofs.data.Data.new.Goals as goal

pub loop-number-init : goal.loop-number-init
loop-number-init c =
    let opened = c.in_ok-blocks.ensures in
    record {
      first = refl;
      few = omega arith;
      nodes = ap (λ (r : Rows). r.nodes) opened.rows ∙ c.total_of.ensures;
      lists = ap (λ (r : Rows). r.lists) opened.rows ∙ ap (λ n. replicate n []) (let e : length c.args.specs.now ≡ length c.args.specs.now - 0 = omega arith in e);
      laid = AreLaid-none c.args.specs.now _ _ c.in_ok-classes.ensures.items (opened.loads ∙ (λ i. replicate (c.total_of.ensures i) (c.no_block.ensures i)));
      unlinked = λ k _. ap (holder k) opened.rows ∙ holder-empty c.total_of.result (length c.args.specs.now) k;
    }

pub fill-requires-clause-list : goal.fill-requires-clause-list
fill-requires-clause-list c =
    let specs = c.args.specs.now in
    omega (arith, c.loop-number-test.true, ap length c.loop-number.invariant.lists, length-filled specs c.loop-number.number (omega (arith, c.loop-number-test.true)))

pub fill-requires-clause-empty : goal.fill-requires-clause-empty
fill-requires-clause-empty c = ap (λ xs. get_or xs c.loop-number.number []) c.loop-number.invariant.lists ∙ filled-next c.args.specs.now c.loop-number.number c.loop-number-test.true

pub fill-requires-clause-loads : goal.fill-requires-clause-loads
fill-requires-clause-loads c =
    omega (
      arith,
      c.loop-number.invariant.nodes,
      length-laid c.args.specs.now c.loop-number.number c.loop-number.classes.items c.loop-number.start c.loop-number.blocks.loads c.loop-number.invariant.laid no_class_spec c.loop-number-test.true,
    )

pub fill-requires-clause-size : goal.fill-requires-clause-size
fill-requires-clause-size c = (lawful_size c.args.specs.now c.requires c.loop-number.number c.loop-number-test.true).1

pub fill-requires-clause-nodes : goal.fill-requires-clause-nodes
fill-requires-clause-nodes c =
    omega (arith, c.loop-number.invariant.nodes, c.loop-number.invariant.first, total_of_more c.args.specs.now c.loop-number.number no_class_spec c.loop-number-test.true)

pub overflow_mul-spec : goal.overflow_mul-spec
overflow_mul-spec c =
    omega (arith, end_low c.args.specs.now c.requires c.loop-number.number c.loop-number-test.true c.loop-number.first c.loop-number.start c.loop-number.invariant.first c.loop-number.invariant.few)

pub overflow_add-start : goal.overflow_add-start
overflow_add-start c =
    omega (arith, end_low c.args.specs.now c.requires c.loop-number.number c.loop-number-test.true c.loop-number.first c.loop-number.start c.loop-number.invariant.first c.loop-number.invariant.few)

pub line_after-start-requires : goal.line_after-start-requires
line_after-start-requires c =
    end_low c.args.specs.now c.requires c.loop-number.number c.loop-number-test.true c.loop-number.first c.loop-number.start c.loop-number.invariant.first c.loop-number.invariant.few

pub loop-number-preserved : goal.loop-number-preserved
loop-number-preserved c =
    let specs = c.args.specs.now in
    let i = c.loop-number.number in
    let spec = get_or specs i no_class_spec in
    let now = c.loop-number.invariant in
    record {
      first = omega (arith, now.first, total_of_next specs i no_class_spec c.loop-number-test.true);
      few = omega (arith, end_few specs c.requires i c.loop-number-test.true c.loop-number.first c.loop-number.start now.first now.few, c.line_after-start.ensures.near);
      nodes = ap (λ (r : Rows). r.nodes) c.fill.ensures.lists ∙ now.nodes;
      lists =
          ap (λ (r : Rows). r.lists) c.fill.ensures.lists ∙ ap (λ ls. set ls i (range_with_len c.loop-number.first spec.count)) now.lists
          ∙ filled-more specs i no_class_spec c.loop-number.first c.loop-number-test.true now.first;
      laid =
          rw (c.in_ok-push.ensures.items, c.fill.ensures.loads)
          (AreLaid-more specs i c.loop-number.classes.items c.loop-number.start c.loop-number.blocks.loads now.laid no_class_spec c.loop-number-test.true _ c.loop-number.first c.line_after-start.result refl now.first
          c.line_after-start.ensures.after);
      unlinked = c.fill.ensures.unlinked;
    }

pub returns-clause-opened : goal.returns-clause-opened
returns-clause-opened c =
    let now = c.loop-number in
    (λ i. store_of_parts now.classes.items (c.in_ok-vec.ensures.items_if_clones_equal (λ y same. same) i) now.blocks.loads ((now.invariant.lists ∙ filled-all c.args.specs.now now.number c.loop-number-test.false) i))
    ∙ opened_is c.args.specs.now now.number now.classes.items now.start now.blocks.loads now.invariant.laid c.loop-number-test.false

pub returns-clause-kept : goal.returns-clause-kept
returns-clause-kept c = subst IsKept (sym (returns-clause-opened c)) (IsKept-opening c.args.specs.now c.requires)

pub invariant_of-result : goal.invariant_of-result
invariant_of-result c =
    let now = c.loop-number in
    record {
      kept = returns-clause-kept c;
      placed =
          rw (c.in_ok-vec.ensures.items_if_clones_equal (λ y same. same))
          (IsPlaced-opened c.args.specs.now now.number now.classes.items now.start now.blocks.loads now.invariant.laid c.loop-number-test.false);
      least = subst (λ (s : CountedStore). IsLeast s.store) (sym (returns-clause-opened c)) (IsLeast-opening c.args.specs.now);
      nodes = now.invariant.nodes ∙ sym (length_opened c.args.specs.now now.number now.classes.items now.start now.blocks.loads now.invariant.laid c.loop-number-test.false);
    }
