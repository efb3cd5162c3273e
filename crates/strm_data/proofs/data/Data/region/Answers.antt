use Rattle.std.proofs.Common.{◌≡◌, ◌<◌, ◌*◌, List, Some, None, drop, get_or, length, map, sym, take, ap, ◌∙◌, arith}
use Rattle.std.proofs.lemmas.Bool.{cond-true, lt-ltb, ltb-true}
use Rattle.std.proofs.lemmas.List.{get_or_default, length-map}
use Rattle.strm_data.specs.declared.data.Class.{Class}
use Rattle.strm_data.specs.CountedStore.{CountedStore}
use Rattle.strm_data.specs.DataLayout.{Room, end_of, no_class, room_of}
use Rattle.strm_data.specs.DataStore.{class_bytes}
use Rattle.strm_data.proofs.layout.Extents.{room_at, room_fits}
use Rattle.strm_data.proofs.layout.Seen.{class_bytes_are}
use Rattle.strm_data.proofs.store.Kept.{get_or-map_all}
use Rattle.strm_data.proofs.data.Data.region.Goals as goal
use Rattle.strm_data.proofs.data.Data.region.Goals.{In_ok-class}

module _ (c : In_ok-class) where
  abbrev rooms : List Room
  rooms = map room_of c.self.inside.classes.items

  within : c.args.class < length c.self.inside.classes.items
  within = omega (arith, ltb-true _ _ (sym c.in_ok-class.ensures.lookup.0), c.from.ensures, ap length c.deref.ensures.value)

  in_rooms : c.args.class < length rooms
  in_rooms = omega (arith, within, length-map c.self.inside.classes.items room_of)

  room_is : room_at rooms c.args.class ≡ room_of c.in_ok-class.class.now
  room_is =
      let k = c.in_ok-class.class.now in
      let read : k ≡ get_or c.self.inside.classes.items c.args.class k = c.in_ok-class.ensures.lookup.1 ∙ (λ j. get_or (c.deref.ensures.value j) (c.from.ensures j) k) in
      sym (get_or-map_all room_of c.self.inside.classes.items c.args.class no_class) ∙ ap room_of (sym (read ∙ get_or_default c.self.inside.classes.items c.args.class k no_class within))

pub part_of-requires : goal.part_of-requires
part_of-requires c =
    let at = (goal.at.part_of-requires c).In_ok-class in
    omega (
      arith,
      room_fits 0 (length c.self.inside.bytes.items) (rooms at) c.args.class (in_rooms at) c.self.invariant.placed.fit,
      ap end_of (room_is at),
      ap length c.deref-2.ensures.value,
    )

pub returns : goal.returns
returns c =
    let at = (goal.at.returns c).In_ok-class in
    let k = c.in_ok-class.class.now in
    let there : c.args.class < length c.args.self.now.store.classes =
    omega (arith, within at, length-map c.self.inside.classes.items (λ (x : Class). x.spec), ap (λ (s : CountedStore). length s.store.classes) c.self.view_is) in
    ap Some (c.part_of.ensures ∙ ap (λ bs. take (k.spec.size * k.spec.count) (drop k.start bs)) c.deref-2.ensures.value
    ∙ (λ j. take ((sym (room_is at) j).spec.size * (sym (room_is at) j).spec.count) (drop (sym (room_is at) j).start c.self.inside.bytes.items))
    ∙ sym (class_bytes_are (rooms at) c.self.inside.bytes.items _ c.self.invariant.placed c.args.class (in_rooms at))
    ∙ ap (λ (s : CountedStore). class_bytes c.args.class s.store) c.self.view_is)
    ∙ sym (cond-true _ (Some (class_bytes c.args.class c.args.self.now.store)) None (lt-ltb c.args.class (length c.args.self.now.store.classes) there))
