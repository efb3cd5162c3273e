-- A data block that is taken from the front of a free list, and the fewest free ones of each class.
use Rattle.std.proofs.Common.{◌≡◌, ℕ, ◌-◌, ◌<◌, ◌≤◌, min, List, [], length, get_or, set, map, Ok, Some, drop, refl, sym, ap, ◌∙◌, subst, arith, get_or-set_same, get_or-set_other}
use Rattle.std.specs.Prelude.{slice_get}
use Rattle.std.proofs.lemmas.List.{get_or_default, length-drop, length-map, map-set}
use Rattle.std.proofs.Math.Seq.{map-set_same}
use Rattle.strm_links.specs.LoadedRows.{LoadedRows}
use Rattle.strm_links.specs.Rows.{first, list_at}
use Rattle.strm_data.specs.declared.data.Class.{Class}
use Rattle.strm_data.specs.declared.data.Data.TheInside.{Inside}
use Rattle.strm_data.specs.declared.data.DataBlock.{DataBlock}
use Rattle.strm_data.specs.declared.msg_type.MsgType.TheVariants.{MData}
use Rattle.strm_data.specs.CountedStore.{CountedStore, IsKept, IsUnused, after_take}
use Rattle.std.proofs.lemmas.Simd.{map-map}
use Rattle.strm_data.specs.DataLayout.{Room, no_class, room_of, store_of_parts, store_of, IsPlaced, IsSound}
use Rattle.strm_data.specs.DataStore.{IsClassFor, IsTakenFrom, least_of, take_data, capacity_of, class_of, free_of, with_data_taken, class_spec_at}
use Rattle.strm_data.proofs.store.Kept.{first_unused, get_or-map_all}
use Rattle.strm_data.proofs.store.Lawful.{IsClassFor-kept, class_there}
use Rattle.strm_data.proofs.layout.Seen.{get_or_first}
use Rattle.strm_data.proofs.layout.Alterations.{altered, placed_still}

-- classes in the same rooms are the same for a contract
pub specs_of : (new old : List Class) → map room_of new ≡ map room_of old → map (λ (k : Class). k.spec) new ≡ map (λ (k : Class). k.spec) old
specs_of new old rooms = sym (map-map (λ (r : Room). r.spec) room_of new) ∙ ap (map (λ (r : Room). r.spec)) rooms ∙ map-map (λ (r : Room). r.spec) room_of old

-- class c, which k is, gets another number of the fewest that were free
module _ (classes : List Class) (c : ℕ) (k : Class) (class_is : k ≡ get_or classes c no_class) (n : ℕ) where
  pub rooms_noted : map room_of (set classes c (record k { least = n })) ≡ map room_of classes
  rooms_noted = map-set_same room_of classes c (record k { least = n }) no_class (ap room_of class_is)

  pub least_noted : map (λ (x : Class). x.least) (set classes c (record k { least = n })) ≡ set (map (λ (x : Class). x.least) classes) c n
  least_noted = map-set (λ (x : Class). x.least) classes c (record k { least = n })

-- the data blocks in memory
abbrev pub loads_in : Inside → List DataBlock
loads_in a = a.blocks.loads

-- a class from which a size takes has a free data block
pub free_there : (a : Inside) (v : CountedStore) (size c : ℕ) → store_of a ≡ v → IsTakenFrom size v.store c → 0 < length (list_at c a.blocks.rows)
free_there a v size c view found = subst (λ (s : CountedStore). 0 < length (free_of s.store c)) (sym view) found.some

-- data block n is the first free one of class c, from which the size takes
module _ (a : Inside) (v : CountedStore) (view : store_of a ≡ v) (sound : IsSound a) (size c n : ℕ) (found : IsTakenFrom size v.store c) (is : first (list_at c a.blocks.rows) ≡ Some n) where
  first_is : first (free_of v.store c) ≡ Some n
  first_is = ap (λ (s : CountedStore). first (free_of s.store c)) (sym view) ∙ is

  pub front_is : get_or (free_of v.store c) 0 0 ≡ n
  front_is = get_or_first (free_of v.store c) n first_is

  here : (class_of v.store n ≡ c) × IsUnused v n
  here = subst (λ d. (class_of v.store d ≡ c) × IsUnused v d) front_is (first_unused v (subst IsKept view sound.kept) c found.some)

  pub unused : IsUnused v n
  unused = here.1

  -- its class is as wide as the size
  pub room : size ≤ capacity_of v.store n
  room = omega (arith, (subst IsKept view sound.kept).sized n unused.there, ap (λ e. (class_spec_at v.store e).size) here.0, found.wide)

  pub after_is : after_take v (take_data size v.store) ≡ after_take v (Ok n)
  after_is = ap (after_take v) (found.front ∙ ap Ok front_is)

  -- the class is still that for the size, and has one free data block less
  pub class_taken : IsClassFor size v.store c → IsClassFor size (after_take v (take_data size v.store)).store c
  class_taken for =
      subst (λ (s : CountedStore). IsClassFor size s.store c) (sym after_is)
      (IsClassFor-kept size v.store (with_data_taken n v.store) c refl
      (λ k below. get_or-set_other v.store.free (class_of v.store n) k (drop 1 (free_of v.store (class_of v.store n))) [] (λ same. absurd (omega (arith, below, same, here.0)))) for)

  pub left_taken : length (free_of (after_take v (take_data size v.store)).store c) ≡ length (free_of v.store c) - 1
  left_taken =
      subst (λ (s : CountedStore). length (free_of s.store c) ≡ length (free_of v.store c) - 1) (sym after_is)
      (ap (λ e. length (get_or (set v.store.free e (drop 1 (free_of v.store e))) c [])) here.0
      ∙ ap length (get_or-set_same v.store.free c (drop 1 (free_of v.store c)) [] (class_there v.store c found.some))
      ∙ length-drop 1 (free_of v.store c))

  pub found_within : c < length a.classes.items
  found_within =
      omega (
        arith,
        here.0,
        (subst IsKept view sound.kept).classed n unused.there,
        ap (λ (s : CountedStore). length s.store.classes) view,
        length-map a.classes.items (λ (k : Class). k.spec),
      )

  -- it has left its list, of which m are left, is of type M_DATA, and has one reference
  module _ (b : DataBlock) (read : slice_get a.blocks.loads n ≡ Some b) (now : LoadedRows DataBlock) (loads : now.loads ≡ set a.blocks.loads n (record b { kind = MData; references = 1 }))
      (popped : now.rows.lists ≡ set a.blocks.rows.lists c (drop 1 (get_or a.blocks.rows.lists c [])))
      (k : Class) (read_class : k ≡ get_or a.classes.items c k) (m : ℕ) (left : m ≡ length (get_or a.blocks.rows.lists c []) - 1) (noted : Class) (noted_is : noted ≡ record k { least = min k.least m }) where
    abbrev classes_now : List Class
    classes_now = set a.classes.items c noted

    class_is : k ≡ get_or a.classes.items c no_class
    class_is = read_class ∙ get_or_default a.classes.items c k no_class found_within

    rooms_now : map room_of classes_now ≡ map room_of a.classes.items
    rooms_now = ap (λ x. map room_of (set a.classes.items c x)) noted_is ∙ rooms_noted a.classes.items c k class_is (min k.least m)

    least_now : map (λ (x : Class). x.least) classes_now ≡ set v.store.least c (min (least_of v.store c) (length (drop 1 (free_of v.store c))))
    least_now =
        ap (λ x. map (λ (y : Class). y.least) (set a.classes.items c x)) noted_is ∙ least_noted a.classes.items c k class_is (min k.least m)
        ∙ ap (λ x. set (map (λ (y : Class). y.least) a.classes.items) c (min x m)) (ap (λ (x : Class). x.least) class_is ∙ get_or-map_all (λ (x : Class). x.least) a.classes.items c no_class)
        ∙ ap (λ (s : CountedStore). set s.store.least c (min (least_of s.store c) m)) view
        ∙ ap (λ x. set v.store.least c (min (least_of v.store c) x)) (left ∙ ap (λ (s : CountedStore). length (free_of s.store c) - 1) view ∙ sym (length-drop 1 (free_of v.store c)))

    pub taken : store_of_parts classes_now a.bytes.items now.loads now.rows.lists ≡ after_take v (take_data size v.store)
    taken =
        (λ i. record (store_of_parts a.classes.items a.bytes.items now.loads now.rows.lists) {
          store = record (store_of_parts a.classes.items a.bytes.items now.loads now.rows.lists).store { classes = specs_of classes_now a.classes.items rooms_now i; least = least_now i };
        })
        ∙ ap (λ (s : CountedStore). record s { store = record s.store { classes = map (λ (x : Class). x.spec) a.classes.items; least = set v.store.least c (min (least_of v.store c) (length (drop 1 (free_of v.store c)))) } })
        (altered a v view n b read (record b { kind = MData; references = 1 }) refl now loads)
        ∙ cc (popped, view, here.0, after_is)

    pub placed_taken : IsPlaced (map room_of classes_now) a.bytes.items now.loads
    placed_taken =
        subst (λ rs. IsPlaced rs a.bytes.items now.loads) (sym rooms_now)
        (placed_still a v view n b read (record b { kind = MData; references = 1 }) refl now loads (map room_of a.classes.items) sound.placed)
