use Rattle.std.proofs.Common.{◌≡◌, ◌+◌, set, arith, ap, sym, ◌∙◌}
use Rattle.std.proofs.lemmas.List.{length-map}
use Rattle.std.specs.Option.{option_map_or}
use Rattle.strm_links.specs.declared.table.Ends.{Ends}
use Rattle.strm_links.specs.Rows.{list_at, holder, put_in}
use Rattle.strm_links.specs.Layout.{places_of, previous_at, rows_in, with_next, with_previous, IsSound}
use Rattle.strm_links.proofs.linking.StoredRows.{IsSound-stored, parts, rows_of_is, ends_read}
use Rattle.strm_links.proofs.linking.TableCalls.{joined_next_within, joined_ahead_within, joined_len, IsSound-joined, joined_holder, other_holder}
use Rattle.strm_links.proofs.table.Table.link_at.Given.{Over}
use Rattle.strm_links.proofs.table.Table.link_at.Goals as goal
use Rattle.strm_links.proofs.table.Table.link_at.Goals.{After-set_previous}

pub ahead_of-previous-requires : goal.ahead_of-previous-requires
ahead_of-previous-requires g c at is =
    omega (arith, c.deref.ensures.len, length-map c.args.self.now.nodes.items (λ n. n.place), joined_next_within c.requires.sound c.args.list c.args.node c.args.next c.requires.list c.requires.node c.requires.free c.requires.next is)

-- the node ahead of the place is what the places and the ends say
ahead : (g : Over) (c : After-set_previous g) → c.ahead_of-previous.result ≡ option_map_or (λ k. previous_at (places_of c.args.self.now.nodes.items) k) c.args.next c.index_mut-ends.result.now.back
ahead g c = c.ahead_of-previous.ensures ∙ ap (λ xs. option_map_or (λ k. previous_at (places_of xs) k) c.args.next c.index_mut-ends.result.now.back) c.deref.ensures.value

pub set_next-requires : goal.set_next-requires
set_next-requires g c k is =
    let read = ends_read c.requires.sound c.args.list c.requires.list c.index_mut-ends.ensures.value in
    let before = c.ahead_of-previous.ensures ∙ ap (λ xs. option_map_or (λ j. previous_at (places_of xs) j) c.args.next c.index_mut-ends.result.now.back) c.deref.ensures.value ∙ ap (λ (e : Ends). option_map_or (λ j. previous_at (places_of c.args.self.now.nodes.items) j) c.args.next e.back) read in
    omega (
      arith,
      c.put.ensures.len,
      length-map c.args.self.now.nodes.items (λ n. n.place),
      joined_ahead_within c.requires.sound c.args.list c.args.node c.args.next c.requires.list c.requires.node c.requires.free c.requires.next (sym before ∙ is),
    )

pub set_previous-requires : goal.set_previous-requires
set_previous-requires g c at is =
    omega (
      arith,
      c.put.ensures.len,
      c.set_next.ensures.len,
      length-map c.args.self.now.nodes.items (λ n. n.place),
      joined_next_within c.requires.sound c.args.list c.args.node c.args.next c.requires.list c.requires.node c.requires.free c.requires.next is,
    )

pub overflow_add-ends : goal.overflow_add-ends
overflow_add-ends g c =
    let read = ends_read c.requires.sound c.args.list c.requires.list c.index_mut-ends.ensures.value in
    let len = ap (λ (e : Ends). e.len) c.set_previous.ensures.ends ∙ ap (λ (e : Ends). e.len) c.set_next.ensures.ends ∙ ap (λ (e : Ends). e.len) read in
    omega (arith, len, c.requires.sound.few_nodes, joined_len c.requires.sound c.args.list c.args.node c.args.next c.requires.list c.requires.node c.requires.free c.requires.next)

-- the table after the writes
changes : (g : Over) (c : After-set_previous g) → IsSound (places_of c.set_previous.new.nodes.items) (set c.args.self.now.ends.items c.args.list (record c.set_previous.new.ends { len = c.set_previous.new.ends.len + 1 }))
    (record (rows_in c.args.self.now) { lists = set (rows_in c.args.self.now).lists c.args.list (put_in c.args.next c.args.node (list_at c.args.list (rows_in c.args.self.now))) })
changes g c =
    let places = c.set_previous.ensures.places ∙ ap (with_previous c.args.next c.some-own.result) (c.set_next.ensures.places ∙ ap (with_next c.ahead_of-previous.result c.some-own.result) c.put.ensures.places) in
    rw places
    (IsSound-joined c.requires.sound c.args.list c.args.node c.args.next c.requires.list c.requires.node c.requires.free c.requires.next c.some.ensures c.some-own.ensures
    (ends_read c.requires.sound c.args.list c.requires.list c.index_mut-ends.ensures.value) (ahead g c) c.set_next.ensures.ends c.set_previous.ensures.ends)

pub returns-clause-sound : goal.returns-clause-sound
returns-clause-sound g c = IsSound-stored (changes g (goal.at.returns-clause-sound g c).After-set_previous)

pub returns-clause-parting : goal.returns-clause-parting
returns-clause-parting g c = parts _ _ _ (returns-clause-sound g c)

pub returns-clause-lists : goal.returns-clause-lists
returns-clause-lists g c = rows_of_is (changes g (goal.at.returns-clause-lists g c).After-set_previous)

pub returns-clause-held : goal.returns-clause-held
returns-clause-held g c =
    ap (holder c.args.node) (returns-clause-lists g c) ∙ joined_holder c.requires.sound c.args.list c.args.node c.args.next c.requires.list c.requires.node c.requires.free c.requires.next

pub returns-clause-others : goal.returns-clause-others
returns-clause-others g c k other =
    ap (holder k) (returns-clause-lists g c) ∙ other_holder c.requires.sound c.args.list c.args.node c.args.next c.requires.list c.requires.node c.requires.free c.requires.next k other
