use Rattle.std.proofs.Common.{◌≡◌, ◌+◌, ◌-◌, ◌<◌, false, length, Some, ap, arith, set, subst, sym, ◌∙◌, ◌^◌}
use Rattle.std.specs.Prelude.{slice_get}
use Rattle.strm_data.specs.CountedStore.{without_reference}
use Rattle.strm_mblk.specs.declared.blocks.Fields.{Fields}
use Rattle.strm_mblk.specs.BlocksLayout.{fields_at, IsReached}
use Rattle.strm_mblk.specs.Cutting.{fields_cut}
use Rattle.strm_links.specs.ChainLists.{nodes_at, LoadedChains}
use Rattle.strm_mblk.proofs.pulling.Taken.{AreTaken, AreTaking, first_takes, name_there, next_takes, none_left, nothing_left, part_left}
use Rattle.strm_mblk.proofs.blocks.pulling.take_bytes.Goals.{After-fields_at-fields, After-loop-used, After-onward-node, After-set_load, In-loop-used, Then-left-eq0}
use Rattle.strm_mblk.proofs.layout.HeldBlocks.{still_on}
use Rattle.strm_mblk.proofs.blocks.pulling.take_bytes.Goals as goal
use Rattle.std.proofs.lemmas.Grind.{common_steps}

pub loop-used-init : goal.loop-used-init
loop-used-init c = grind (arith, common_steps, first_takes)

-- ---- no bytes are left to take

module _ (c : In-loop-used) where
  -- the walk is at a block of the message
  node_here : slice_get (nodes_at c.args.chains.now.lists c.args.head) c.loop-used.used ≡ Some c.loop-used.node
  node_here = c.loop-used.invariant.at.here (omega (arith, c.len-behind.ensures, c.loop-used-test.true))

module _ (c : Then-left-eq0) where
  nothing : AreTaken c.args.chains.now.loads (nodes_at c.args.chains.now.lists c.args.head) c.args.count c.args.stored.now c.loop-used.used c.args.chains.now.loads c.loop-used.stored
  nothing = nothing_left _ _ _ _ c.loop-used.invariant.takes c.if-left-eq0.true

pub returns-then-left-eq0-clause-used : goal.returns-then-left-eq0-clause-used
returns-then-left-eq0-clause-used c = (nothing c).used

pub returns-then-left-eq0-clause-dropped : goal.returns-then-left-eq0-clause-dropped
returns-then-left-eq0-clause-dropped c = (nothing c).dropped

pub returns-then-left-eq0-clause-cut : goal.returns-then-left-eq0-clause-cut
returns-then-left-eq0-clause-cut c = ap (λ (u : LoadedChains Fields). u.loads) c.loop-used.invariant.same ∙ (nothing c).cut

pub returns-then-left-eq0-clause-lists : goal.returns-then-left-eq0-clause-lists
returns-then-left-eq0-clause-lists c = ap (λ (u : LoadedChains Fields). u.lists) c.loop-used.invariant.same

pub returns-then-left-eq0-clause-kept : goal.returns-then-left-eq0-clause-kept
returns-then-left-eq0-clause-kept c = c.loop-used.invariant.kept

-- ---- the next block

pub onward-node-requires : goal.onward-node-requires
onward-node-requires c =
    omega (
      arith,
      c.requires.listed,
      c.requires.within c.loop-used.used c.loop-used.node (node_here (goal.at.onward-node-requires c).In-loop-used),
      ap (λ (u : LoadedChains Fields). length u.lists.held) c.loop-used.invariant.same,
    )

module _ (c : After-onward-node) where
  -- the walk goes on
  reached : IsReached c.args.chains.now.lists c.args.head (c.loop-used.used + 1) c.onward-node.result
  reached = still_on (ap (λ (u : LoadedChains Fields). u.lists) c.loop-used.invariant.same) c.onward-node.ensures c.args.head c.loop-used.used c.loop-used.invariant.at

  -- it is one of the message
  next_here : slice_get (nodes_at c.args.chains.now.lists c.args.head) (c.loop-used.used + 1) ≡ Some c.onward-node.result
  next_here = reached.here (omega (arith, c.len-behind.ensures, c.loop-used-test.true))

  next_there : c.onward-node.result < length c.args.chains.now.loads
  next_there = c.requires.within (c.loop-used.used + 1) c.onward-node.result next_here

-- what was read is what it stores
read : (c : After-fields_at-fields) → c.fields_at-fields.result ≡ fields_at c.args.chains.now.loads c.onward-node.result
read c = c.fields_at-fields.ensures ∙ ap (λ (u : LoadedChains Fields). fields_at u.loads c.onward-node.result) c.loop-used.invariant.same

pub fields_at-fields-requires : goal.fields_at-fields-requires
fields_at-fields-requires c = omega (arith, next_there (goal.at.fields_at-fields-requires c).After-onward-node, ap (λ (u : LoadedChains Fields). length u.loads) c.loop-used.invariant.same)

pub set_load-requires : goal.set_load-requires
set_load-requires c = omega (arith, next_there (goal.at.set_load-requires c).After-onward-node, ap (λ (u : LoadedChains Fields). length u.loads) c.loop-used.invariant.same)

pub cut-requires : goal.cut-requires
cut-requires c =
    subst (λ (f : Fields). f.offset + f.len < 2 ^ 32) (sym (read (goal.at.cut-requires c).After-fields_at-fields))
    (c.requires.small c.onward-node.result (next_there (goal.at.cut-requires c).After-onward-node))

module _ (c : After-set_load) (d : slice_get (nodes_at c.args.chains.now.lists c.args.head) (c.loop-used.used + 1) ≡ Some c.onward-node.result) (is : c.fields_at-fields.result ≡ fields_at c.args.chains.now.loads c.onward-node.result) where
  part : AreTaken c.args.chains.now.loads (nodes_at c.args.chains.now.lists c.args.head) c.args.count c.args.stored.now c.loop-used.used c.set_load.new.self.loads c.loop-used.stored
  part =
      subst (λ fields. AreTaken c.args.chains.now.loads (nodes_at c.args.chains.now.lists c.args.head) c.args.count c.args.stored.now c.loop-used.used fields c.loop-used.stored)
      (sym (c.set_load.ensures.loads ∙ (λ i. set (c.loop-used.invariant.same i).loads c.onward-node.result ((c.cut.ensures ∙ ap (fields_cut false c.loop-used.left) is) i))))
      (part_left _ _ _ _ c.loop-used.invariant.takes d (omega (arith, c.if-left-fields.true, ap (λ (f : Fields). f.len) is)))

pub returns-then-left-fields : goal.returns-then-left-fields
returns-then-left-fields c =
    let at = goal.at.returns-then-left-fields c in
    let cut = part at.After-set_load (next_here at.After-onward-node) (read at.After-fields_at-fields) in
    record { lists = c.set_load.ensures.lists ∙ ap (λ (u : LoadedChains Fields). u.lists) c.loop-used.invariant.same; used = cut.used; dropped = cut.dropped; cut = cut.cut; kept = c.loop-used.invariant.kept }

-- ---- it is used up

pub drop_name-requires-clause-there : goal.drop_name-requires-clause-there
drop_name-requires-clause-there c =
    let d = (goal.at.drop_name-requires-clause-there c).After-onward-node in
    let read = read (goal.at.drop_name-requires-clause-there c).After-fields_at-fields in
    grind (arith, common_steps, read, next_there)

pub drop_name-requires-clause-used : goal.drop_name-requires-clause-used
drop_name-requires-clause-used c =
    let read = read (goal.at.drop_name-requires-clause-used c).After-fields_at-fields in
    grind (arith, common_steps, name_there, read, next_here)

pub loop-used-preserved : goal.loop-used-preserved
loop-used-preserved c =
    let d = (goal.at.loop-used-preserved c).After-onward-node in
    let read = read (goal.at.loop-used-preserved c).After-fields_at-fields in
    let n = c.onward-node.result in
    let next = next_takes _ _ _ _ c.loop-used.invariant.takes (next_here d) (omega (arith, c.if-left-eq0.false)) (omega (arith, c.if-left-fields.false, ap (λ (f : Fields). f.len) read)) in
    let dropped : c.drop_name.new.self ≡ without_reference (fields_at c.args.chains.now.loads n).data_number c.loop-used.stored =
    c.drop_name.ensures.after ∙ ap (λ (f : Fields). without_reference f.data_number c.loop-used.stored) read in
    record {
      at = reached d;
      takes =
          subst (λ s. AreTaking c.args.chains.now.loads (nodes_at c.args.chains.now.lists c.args.head) c.args.count c.args.stored.now (c.loop-used.used + 1) (c.loop-used.left - c.fields_at-fields.result.len) s) (sym dropped)
          (subst (λ (f : Fields). AreTaking c.args.chains.now.loads (nodes_at c.args.chains.now.lists c.args.head) c.args.count c.args.stored.now (c.loop-used.used + 1) (c.loop-used.left - f.len) (without_reference (fields_at c.args.chains.now.loads n).data_number c.loop-used.stored)) (sym read)
          next);
      same = c.loop-used.invariant.same;
      kept = c.drop_name.ensures.kept;
    }

-- ---- there is no other block

module _ (c : After-loop-used) where
  last : c.loop-used.used ≡ c.len-behind.result - 1
  last = omega (arith, c.loop-used-test.false, c.loop-used.auto.used-end)

  none : AreTaken c.args.chains.now.loads (nodes_at c.args.chains.now.lists c.args.head) c.args.count c.args.stored.now (c.len-behind.result - 1) c.args.chains.now.loads c.loop-used.stored
  none =
      subst (λ i. AreTaken c.args.chains.now.loads (nodes_at c.args.chains.now.lists c.args.head) c.args.count c.args.stored.now i c.args.chains.now.loads c.loop-used.stored) last
      (none_left _ _ _ _ c.loop-used.invariant.takes (omega (arith, c.len-behind.ensures, last)))

pub returns-clause-used : goal.returns-clause-used
returns-clause-used c = (none c).used

pub returns-clause-dropped : goal.returns-clause-dropped
returns-clause-dropped c = (none c).dropped

pub returns-clause-cut : goal.returns-clause-cut
returns-clause-cut c = ap (λ (u : LoadedChains Fields). u.loads) c.loop-used.invariant.same ∙ (none c).cut

pub returns-clause-lists : goal.returns-clause-lists
returns-clause-lists c = ap (λ (u : LoadedChains Fields). u.lists) c.loop-used.invariant.same

pub returns-clause-kept : goal.returns-clause-kept
returns-clause-kept c = c.loop-used.invariant.kept
