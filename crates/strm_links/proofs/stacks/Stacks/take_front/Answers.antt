use Rattle.std.proofs.Common.{◌-◌, set, drop, sym, ap, ◌∙◌, arith}
use Rattle.std.proofs.lemmas.List.{length-map}
use Rattle.strm_links.specs.Rows.{list_at, holder}
use Rattle.strm_links.specs.StackLayout.{behind_of, IsSound}
use Rattle.strm_links.proofs.Stacked.{behind_read, here, IsSound-rows, IsSound-stored, loads_are, parts, stacked_rows_is, front_holder, front_within, front_there, pop_some, IsSound-pop, pop_freed, pop_others}
use Rattle.strm_links.proofs.stacks.Stacks.take_front.Given.{Over}
use Rattle.strm_links.proofs.stacks.Stacks.take_front.Goals as goal
use Rattle.strm_links.proofs.stacks.Stacks.take_front.Goals.{After-index_mut}

pub number-node-requires : goal.number-node-requires
number-node-requires g c =
    let sound = IsSound-rows _ _ _ c.self.view_is c.self.invariant in
    front_there _ _ _ sound c.args.list c.requires.list _ c.index-top.ensures c.requires.some

pub index-requires : goal.index-requires
index-requires g c =
    let sound = IsSound-rows _ _ _ c.self.view_is c.self.invariant in
    omega (arith, sound.node_count, length-map c.self.inside.nodes.items (λ n. n.behind), front_within _ _ _ sound c.args.list c.requires.list _ c.index-top.ensures c.number-node.result c.number-node.ensures)

pub overflow_sub-top : goal.overflow_sub-top
overflow_sub-top g c =
    let sound = IsSound-rows _ _ _ c.self.view_is c.self.invariant in
    omega (arith, pop_some _ _ _ sound c.args.list c.requires.list _ c.index-top.ensures c.number-node.result c.number-node.ensures)

after_pop : (g : Over) (c : After-index_mut g) → IsSound (behind_of c.self.inside.nodes.items) (set c.self.inside.tops.items c.args.list (record { len = c.index-top.result.now.len - 1; front = c.index.result.now.behind }))
    (record c.args.self.now.rows { lists = set c.args.self.now.rows.lists c.args.list (drop 1 (list_at c.args.list c.args.self.now.rows)) })
after_pop g c =
    let sound = IsSound-rows _ _ _ c.self.view_is c.self.invariant in
    IsSound-pop _ _ _ sound c.args.list c.requires.list _ c.index-top.ensures c.number-node.result c.number-node.ensures _
    (behind_read _ _ _ c.self.view_is c.number-node.result c.index.result.now c.index.ensures
    (omega (arith, sound.node_count, length-map c.self.inside.nodes.items (λ n. n.behind), front_within _ _ _ sound c.args.list c.requires.list _ c.index-top.ensures c.number-node.result c.number-node.ensures)))

pub invariant_of-self : goal.invariant_of-self
invariant_of-self g c = IsSound-stored _ _ _ (after_pop g (goal.at.invariant_of-self g c).After-index_mut)

pub returns : goal.returns
returns g c =
    let sound = IsSound-rows _ _ _ c.self.view_is c.self.invariant in
    let n = c.number-node.result in
    let front = c.number-node.ensures in
    let rows = stacked_rows_is _ _ _ (after_pop g (goal.at.returns g c).After-index_mut) in
    record {
      value = sym (here _ _ _ sound c.args.list c.requires.list _ c.index-top.ensures).front ∙ front;
      lists = rows;
      member = front_holder _ _ _ sound c.args.list c.requires.list _ c.index-top.ensures n front;
      in_range = front_within _ _ _ sound c.args.list c.requires.list _ c.index-top.ensures n front;
      freed = ap (holder n) rows ∙ pop_freed _ _ _ sound c.args.list c.requires.list _ c.index-top.ensures n front;
      others = λ k other. ap (holder k) rows ∙ pop_others _ _ _ sound c.args.list c.requires.list _ c.index-top.ensures n front k other;
      loads = loads_are _ _ _ c.self.view_is;
      parting = parts _ _ _ (IsSound-stored _ _ _ (after_pop g (goal.at.returns g c).After-index_mut));
    }
