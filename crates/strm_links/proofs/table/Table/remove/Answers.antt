use Rattle.std.proofs.Common.{◌≡◌, ◌<◌, ◌-◌, length, set, map, arith, ap, sym, subst, refl, ◌∙◌, IsSome, Some}
use Rattle.std.proofs.lemmas.Bool.{cond-true, cond-false, eq-eqb, ne_eqb}
use Rattle.std.proofs.lemmas.List.{length-map}
use Rattle.strm_links.specs.declared.table.Place.{Place}
use Rattle.strm_links.specs.declared.table.Ends.{Ends}
use Rattle.strm_links.specs.Rows.{holder, without}
use Rattle.strm_links.specs.Layout.{place_at, places_of, rows_in, with_next, with_previous, IsSound}
use Rattle.strm_links.proofs.lists.AllLists.{holder-remove}
use Rattle.strm_links.proofs.linking.TableCalls.{held_list, held_low, held_place}
use Rattle.strm_links.proofs.linking.StoredRows.{apart_all, ends_read, IsSound-stored, parts, rows_of_is}
use Rattle.strm_links.proofs.linking.TableCalls.{left_list, left_previous, left_next, left_len, IsSound-left}
use Rattle.strm_links.proofs.table.Table.remove.Given.{Over}
use Rattle.strm_links.proofs.table.Table.remove.Goals as goal
use Rattle.strm_links.proofs.table.Table.remove.Goals.{After-put, After-set_previous}

pub index-requires : goal.index-requires
index-requires g c = omega (arith, held_low c.args.self.now c.requires.sound c.args.node c.requires.held)

pub number-list-requires : goal.number-list-requires
number-list-requires g c = subst IsSome (held_list c.args.self.now c.requires.sound c.args.node c.requires.held c.index.ensures) c.requires.held

pub put-requires : goal.put-requires
put-requires g c = omega (arith, held_low c.args.self.now c.requires.sound c.args.node c.requires.held)

-- the list that holds the node, and what the code reads
module _ (g : Over) (c : After-put g) where
  holds : holder c.args.node (rows_in c.args.self.now) ≡ Some c.number-list.result
  holds = held_list c.args.self.now c.requires.sound c.args.node c.requires.held c.index.ensures ∙ c.number-list.ensures

  read : c.index.result.now.place ≡ place_at (places_of c.args.self.now.nodes.items) c.args.node
  read = held_place c.args.self.now c.requires.sound c.args.node c.requires.held c.index.ensures

  within : c.number-list.result < length (rows_in c.args.self.now).lists
  within = left_list c.requires.sound c.args.node holds

pub index_mut-ends-requires : goal.index_mut-ends-requires
index_mut-ends-requires g c = omega (arith, within g (goal.at.index_mut-ends-requires g c).After-put, c.requires.sound.list_count)

pub set_next-requires : goal.set_next-requires
set_next-requires g c k is =
    let at = (goal.at.set_next-requires g c).After-put in
    omega (
      arith,
      c.put.ensures.len,
      length-map c.args.self.now.nodes.items (λ n. n.place),
      left_previous c.requires.sound c.args.node (holds g at) (sym (ap (λ (p : Place). p.previous) (read g at)) ∙ is),
    )

pub set_previous-requires : goal.set_previous-requires
set_previous-requires g c k is =
    let at = (goal.at.set_previous-requires g c).After-put in
    omega (
      arith,
      c.put.ensures.len,
      c.set_next.ensures.len,
      length-map c.args.self.now.nodes.items (λ n. n.place),
      left_next c.requires.sound c.args.node (holds g at) (sym (ap (λ (p : Place). p.next) (read g at)) ∙ is),
    )

pub overflow_sub-ends : goal.overflow_sub-ends
overflow_sub-ends g c =
    let at = (goal.at.overflow_sub-ends g c).After-put in
    let len = ap (λ (e : Ends). e.len) c.set_previous.ensures.ends ∙ ap (λ (e : Ends). e.len) c.set_next.ensures.ends ∙ ap (λ (e : Ends). e.len) (ends_read c.requires.sound c.number-list.result (within g at) c.index_mut-ends.ensures.value) in
    omega (arith, len, left_len c.requires.sound c.args.node (holds g at))

-- the table after the writes
changes : (g : Over) (c : After-set_previous g)
    → IsSound (places_of c.set_previous.new.nodes.items) (set c.args.self.now.ends.items c.number-list.result (record c.set_previous.new.ends { len = c.set_previous.new.ends.len - 1 }))
    (record (rows_in c.args.self.now) { lists = map (without c.args.node) (rows_in c.args.self.now).lists })
changes g c =
    let x = c.index.result.now.place in
    let holds = held_list c.args.self.now c.requires.sound c.args.node c.requires.held c.index.ensures ∙ c.number-list.ensures in
    let places = c.set_previous.ensures.places ∙ ap (with_previous x.next x.previous) (c.set_next.ensures.places ∙ ap (with_next x.previous x.next) c.put.ensures.places) in
    rw places
    (IsSound-left c.requires.sound c.args.node holds (held_place c.args.self.now c.requires.sound c.args.node c.requires.held c.index.ensures) c.free.ensures
    (ends_read c.requires.sound c.number-list.result (left_list c.requires.sound c.args.node holds) c.index_mut-ends.ensures.value) c.set_next.ensures.ends c.set_previous.ensures.ends)

pub returns-clause-sound : goal.returns-clause-sound
returns-clause-sound g c = IsSound-stored (changes g (goal.at.returns-clause-sound g c).After-set_previous)

pub returns-clause-parting : goal.returns-clause-parting
returns-clause-parting g c = parts _ _ _ (returns-clause-sound g c)

pub returns-clause-lists : goal.returns-clause-lists
returns-clause-lists g c = rows_of_is (changes g (goal.at.returns-clause-lists g c).After-set_previous)

pub returns-clause-freed : goal.returns-clause-freed
returns-clause-freed g c =
    ap (holder c.args.node) (returns-clause-lists g c) ∙ holder-remove (rows_in c.args.self.now) (apart_all c.requires.sound) c.args.node c.args.node ∙ cond-true _ _ _ (eq-eqb c.args.node c.args.node refl)

pub returns-clause-others : goal.returns-clause-others
returns-clause-others g c k other =
    ap (holder k) (returns-clause-lists g c) ∙ holder-remove (rows_in c.args.self.now) (apart_all c.requires.sound) c.args.node k ∙ cond-false _ _ _ (ne_eqb c.args.node k (λ same. other (sym same)))
