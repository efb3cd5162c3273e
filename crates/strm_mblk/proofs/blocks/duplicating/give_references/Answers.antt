use Rattle.std.proofs.Common.{◌≡◌, ◌<◌, ℕ, Some, length, not, arith, ap, sym, ◌∙◌, subst}
use Rattle.std.specs.Prelude.{slice_get, take}
use Rattle.strm_data.specs.DataStore.{DataStore}
use Rattle.strm_mblk.specs.BlocksLayout.{fields_at, data_used_by, with_references_given}
use Rattle.strm_links.specs.ChainLists.{nodes_at}
use Rattle.strm_mblk.proofs.Freeing.{named-get}
use Rattle.strm_mblk.proofs.making.Duplicated.{back_now, few_now, named_now, next_full, next_given, next_used, store_now}
use Rattle.strm_mblk.proofs.blocks.duplicating.give_references.Goals.{After-loop-given, In-loop-given}
use Rattle.strm_mblk.specs.declared.blocks.Fields.{Fields}
use Rattle.strm_data.specs.CountedStore.{count_of, with_reference}
use Rattle.strm_mblk.proofs.blocks.duplicating.give_references.Goals as goal
use Rattle.std.proofs.lemmas.Grind.{common_steps}

module _ (c : In-loop-given) where
  abbrev d : ℕ
  d = (fields_at c.args.chains.now.loads c.loop-given.node).data_number

  named_at : slice_get (data_used_by c.args.chains.now.loads (nodes_at c.args.chains.now.lists c.args.head)) c.loop-given.given ≡ Some d
  named_at = named-get c.args.chains.now.loads (nodes_at c.args.chains.now.lists c.args.head) c.loop-given.given (c.loop-given.invariant.at.here (omega (arith, c.loop-given-test.true, c.requires.count)))

  same_store : c.loop-given.stored.store ≡ c.args.stored.now.store
  same_store = store_now (data_used_by c.args.chains.now.loads (nodes_at c.args.chains.now.lists c.args.head)) c.loop-given.given c.args.stored.now c.requires.used c.loop-given.invariant.after

  there : (n : ℕ) → n < length c.args.chains.now.loads → (fields_at c.args.chains.now.loads n).data_number < length c.loop-given.stored.store.blocks
  there n within = subst (λ (s : DataStore). (fields_at c.args.chains.now.loads n).data_number < length s.blocks) (sym same_store) (c.requires.there n within)

  node_in : c.loop-given.node < length c.args.chains.now.loads
  node_in = omega (arith, c.loop-given.invariant.at.in_range (omega (arith, c.loop-given-test.true, c.requires.count)), c.requires.blocks)

pub fields_at-data_number-requires : goal.fields_at-data_number-requires
fields_at-data_number-requires c = node_in c

pub count-requires : goal.count-requires
count-requires c =
    let at = (goal.at.count-requires c).In-loop-given in
    subst (λ (f : Fields). f.data_number < length c.loop-given.stored.store.blocks) (sym c.fields_at-data_number.ensures) (there at c.loop-given.node (node_in at))

pub drop_references-requires-clause-there : goal.drop_references-requires-clause-there
drop_references-requires-clause-there c = there (goal.at.drop_references-requires-clause-there c).In-loop-given

pub drop_references-requires-clause-named : goal.drop_references-requires-clause-named
drop_references-requires-clause-named c = grind (arith, common_steps, named_now)

pub drop_references-requires-clause-kept : goal.drop_references-requires-clause-kept
drop_references-requires-clause-kept c = c.loop-given.invariant.kept

pub returns-then-count-clause-answer : goal.returns-then-count-clause-answer
returns-then-count-clause-answer c =
    let at = (goal.at.returns-then-count-clause-answer c).In-loop-given in
    sym (ap not (next_full (data_used_by c.args.chains.now.loads (nodes_at c.args.chains.now.lists c.args.head)) c.loop-given.given c.args.stored.now c.requires.used c.loop-given.invariant.after (named_at at) c.args.count c.loop-given-test.true (sym (c.count.ensures ∙ ap (λ (f : Fields). count_of c.loop-given.stored f.data_number) c.fields_at-data_number.ensures) ∙ c.if-count.true)))

pub returns-then-count-clause-after : goal.returns-then-count-clause-after
returns-then-count-clause-after c = grind (arith, common_steps, back_now)

pub name-requires-clause-there : goal.name-requires-clause-there
name-requires-clause-there c =
    let at = (goal.at.name-requires-clause-there c).In-loop-given in
    subst (λ (f : Fields). f.data_number < length c.loop-given.stored.store.blocks) (sym c.fields_at-data_number.ensures) (there at c.loop-given.node (node_in at))

pub name-requires-clause-used : goal.name-requires-clause-used
name-requires-clause-used c =
    let at = (goal.at.name-requires-clause-used c).In-loop-given in
    subst (λ (f : Fields). 0 < count_of c.loop-given.stored f.data_number) (sym c.fields_at-data_number.ensures)
    (next_used (data_used_by c.args.chains.now.loads (nodes_at c.args.chains.now.lists c.args.head)) c.loop-given.given c.args.stored.now c.requires.used c.loop-given.invariant.after (named_at at))

pub loop-given-preserved : goal.loop-given-preserved
loop-given-preserved c =
    let at = (goal.at.loop-given-preserved c).In-loop-given in
    record {
      at = c.onward-node.ensures c.args.head c.loop-given.given c.loop-given.invariant.at;
      after =
          c.name.ensures.after ∙ ap (λ (f : Fields). with_reference f.data_number c.loop-given.stored) c.fields_at-data_number.ensures
          ∙ next_given (data_used_by c.args.chains.now.loads (nodes_at c.args.chains.now.lists c.args.head)) c.loop-given.given c.args.stored.now c.requires.used c.loop-given.invariant.after (named_at at);
      kept = c.name.ensures.kept;
    }

-- all have a name more
module _ (c : After-loop-given) where
  all_given : c.loop-given.stored ≡ with_references_given (take c.args.count (data_used_by c.args.chains.now.loads (nodes_at c.args.chains.now.lists c.args.head))) c.args.stored.now
  all_given = grind (arith, common_steps)

pub returns-clause-answer : goal.returns-clause-answer
returns-clause-answer c = grind (arith, common_steps, few_now, all_given)

pub returns-clause-after : goal.returns-clause-after
returns-clause-after c = all_given c

pub returns-clause-kept : goal.returns-clause-kept
returns-clause-kept c = c.loop-given.invariant.kept
