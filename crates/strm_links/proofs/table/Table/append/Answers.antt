use Rattle.std.proofs.Common.{◌≡◌, set, [], ◌++◌, ◌+◌, length, arith, ap, ◌∙◌}
use Rattle.std.proofs.lemmas.Bool.{cond-true, cond-false, false_from_ne_true}
use Rattle.std.proofs.lemmas.List.{length-map}
use Rattle.strm_links.specs.declared.table.Ends.{Ends}
use Rattle.strm_links.specs.Rows.{list_at, holder}
use Rattle.strm_links.specs.Layout.{places_of, rows_in, with_previous, IsSound}
use Rattle.strm_links.proofs.lists.OneList.{is_some_of-same, some_of}
use Rattle.strm_links.proofs.lists.AllLists.{holder-append}
use Rattle.strm_links.proofs.linking.StoredRows.{apart_all, ends_read, IsSound-stored, parts, rows_of_is}
use Rattle.strm_links.proofs.linking.TableCalls.{walk_within, front_within, back_within, both_len, IsSound-appended}
use Rattle.strm_links.proofs.table.Table.append.Given.{Over}
use Rattle.strm_links.proofs.table.Table.append.Goals as goal
use Rattle.strm_links.proofs.table.Table.append.Goals.{After-index_mut-2}

pub set_owners-requires : goal.set_owners-requires
set_owners-requires g c k found =
    omega (
      arith,
      length-map c.args.self.now.nodes.items (λ n. n.place),
      walk_within c.requires.sound c.args.from c.requires.from (ends_read c.requires.sound c.args.from c.requires.from c.index-tail.ensures) k found,
    )

pub set_next-requires : goal.set_next-requires
set_next-requires g c k is =
    omega (
      arith,
      c.set_owners.ensures.len,
      length-map c.args.self.now.nodes.items (λ n. n.place),
      back_within c.requires.sound c.args.to c.requires.to (ends_read c.requires.sound c.args.to c.requires.to c.index.ensures) is,
    )

pub set_previous-requires : goal.set_previous-requires
set_previous-requires g c k is =
    omega (
      arith,
      c.set_owners.ensures.len,
      c.set_next.ensures.len,
      length-map c.args.self.now.nodes.items (λ n. n.place),
      front_within c.requires.sound c.args.from c.requires.from (ends_read c.requires.sound c.args.from c.requires.from c.index-tail.ensures) is,
    )

pub overflow_add-ends : goal.overflow_add-ends
overflow_add-ends g c =
    let len = ap (λ (e : Ends). e.len) c.set_previous.ensures.ends ∙ ap (λ (e : Ends). e.len) c.set_next.ensures.ends ∙ ap (λ (e : Ends). e.len) (ends_read c.requires.sound c.args.to c.requires.to c.index.ensures) in
    omega (
      arith,
      len,
      ap (λ (e : Ends). e.len) (ends_read c.requires.sound c.args.from c.requires.from c.index-tail.ensures),
      c.requires.sound.few_nodes,
      both_len c.requires.sound c.args.to c.args.from c.requires.to c.requires.from c.requires.other,
    )

-- the table after the writes
changes : (g : Over) (c : After-index_mut-2 g)
    → IsSound (places_of c.set_previous.new.nodes.items) (set (set c.args.self.now.ends.items c.args.to (record { len = c.set_previous.new.ends.len + c.index-tail.result.now.len; front = c.set_previous.new.ends.front; back = c.or-ends.result })) c.args.from c.empty.result)
    (record (rows_in c.args.self.now) {
      lists = set (set (rows_in c.args.self.now).lists c.args.to (list_at c.args.to (rows_in c.args.self.now) ++ list_at c.args.from (rows_in c.args.self.now))) c.args.from [];
    })
changes g c =
    let places = c.set_previous.ensures.places ∙ ap (with_previous c.index-tail.result.now.front c.index.result.now.back) c.set_next.ensures.places in
    let long : length (places_of c.set_owners.new.nodes.items) ≡ length (places_of c.args.self.now.nodes.items) =
    omega (arith, length-map c.set_owners.new.nodes.items (λ n. n.place), c.set_owners.ensures.len, length-map c.args.self.now.nodes.items (λ n. n.place)) in
    rw places
    (IsSound-appended c.requires.sound c.args.to c.args.from c.requires.to c.requires.from c.requires.other _ c.some.ensures
    (ends_read c.requires.sound c.args.to c.requires.to c.index.ensures) (ends_read c.requires.sound c.args.from c.requires.from c.index-tail.ensures) c.empty.ensures long c.set_owners.ensures.owners c.set_owners.ensures.nexts
    c.set_owners.ensures.previous c.set_next.ensures.ends c.set_previous.ensures.ends c.or-ends.ensures)

pub returns-clause-sound : goal.returns-clause-sound
returns-clause-sound g c = IsSound-stored (changes g (goal.at.returns-clause-sound g c).After-index_mut-2)

pub returns-clause-parting : goal.returns-clause-parting
returns-clause-parting g c = parts _ _ _ (returns-clause-sound g c)

pub returns-clause-lists : goal.returns-clause-lists
returns-clause-lists g c = rows_of_is (changes g (goal.at.returns-clause-lists g c).After-index_mut-2)

pub returns-clause-moved : goal.returns-clause-moved
returns-clause-moved g c k was =
    ap (holder k) (returns-clause-lists g c)
    ∙ holder-append (rows_in c.args.self.now) (apart_all c.requires.sound) c.args.to c.args.from k c.requires.to c.requires.from c.requires.other
    ∙ cond-true _ _ _ (is_some_of-same c.args.from (holder k (rows_in c.args.self.now)) was)

pub returns-clause-others : goal.returns-clause-others
returns-clause-others g c k was =
    ap (holder k) (returns-clause-lists g c)
    ∙ holder-append (rows_in c.args.self.now) (apart_all c.requires.sound) c.args.to c.args.from k c.requires.to c.requires.from c.requires.other
    ∙ cond-false _ _ _ (false_from_ne_true _ (λ is. was (some_of c.args.from (holder k (rows_in c.args.self.now)) is)))
