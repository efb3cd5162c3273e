use Rattle.std.proofs.Common.{◌+◌, ◌∷◌, set, ap, ◌∙◌, arith}
use Rattle.std.proofs.lemmas.List.{length-map}
use Rattle.strm_links.specs.Rows.{list_at, holder}
use Rattle.strm_links.specs.StackLayout.{behind_of, IsSound}
use Rattle.strm_links.proofs.Stacked.{behind-relinked, IsSound-rows, IsSound-stored, loads-relinked, parts, stacked_rows_is, push_room, IsSound-push, push_holder, push_others}
use Rattle.strm_links.proofs.stacks.Stacks.push_front.Given.{Over}
use Rattle.strm_links.proofs.stacks.Stacks.push_front.Goals as goal
use Rattle.strm_links.proofs.stacks.Stacks.push_front.Goals.{After-some-top}

pub index_mut-requires : goal.index_mut-requires
index_mut-requires g c =
    let sound = IsSound-rows _ _ _ c.self.view_is c.self.invariant in
    omega (arith, sound.node_count, c.requires.node, length-map c.self.inside.nodes.items (λ n. n.behind))

pub overflow_add-top : goal.overflow_add-top
overflow_add-top g c =
    let sound = IsSound-rows _ _ _ c.self.view_is c.self.invariant in
    omega (arith, sound.few_nodes, push_room _ _ _ sound c.args.list c.requires.list _ c.index_mut-top.ensures.value c.args.node c.requires.node c.requires.free)

-- the stack's fields after the writes
after_push : (g : Over) (c : After-some-top g)
    → IsSound (behind_of (set c.self.inside.nodes.items c.args.node (record c.index_mut.result.now { behind = c.index_mut-top.result.now.front }))) (set c.self.inside.tops.items c.args.list (record { len = c.index_mut-top.result.now.len + 1; front = c.some-top.result }))
    (record c.args.self.now.rows { lists = set c.args.self.now.rows.lists c.args.list (c.args.node ∷ list_at c.args.list c.args.self.now.rows) })
after_push g c =
    let sound = IsSound-rows _ _ _ c.self.view_is c.self.invariant in
    rw (behind-relinked _ _ _ c.self.view_is c.args.node c.index_mut.result.now c.index_mut.ensures.value c.index_mut-top.result.now.front)
    (IsSound-push _ _ _ sound c.args.list c.requires.list _ c.index_mut-top.ensures.value c.args.node c.requires.node c.requires.free _ c.some-top.ensures)

pub invariant_of-self : goal.invariant_of-self
invariant_of-self g c = IsSound-stored _ _ _ (after_push g (goal.at.invariant_of-self g c).After-some-top)

pub returns : goal.returns
returns g c =
    let sound = IsSound-rows _ _ _ c.self.view_is c.self.invariant in
    let after = after_push g (goal.at.returns g c).After-some-top in
    record {
      lists = stacked_rows_is _ _ _ after;
      held = ap (holder c.args.node) (stacked_rows_is _ _ _ after) ∙ push_holder _ _ _ sound c.args.list c.requires.list _ c.index_mut-top.ensures.value c.args.node c.requires.node c.requires.free;
      others = λ k other. ap (holder k) (stacked_rows_is _ _ _ after) ∙ push_others _ _ _ sound c.args.list c.requires.list _ c.index_mut-top.ensures.value c.args.node c.requires.node c.requires.free k other;
      loads = loads-relinked _ _ _ c.self.view_is c.args.node c.index_mut.result.now c.index_mut.ensures.value c.index_mut-top.result.now.front;
      parting = parts _ _ _ (IsSound-stored _ _ _ after);
    }
