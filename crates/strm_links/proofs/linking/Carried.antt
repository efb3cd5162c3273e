-- What a write of one node makes of the places, and of what else the nodes carry.
use Rattle.std.proofs.Common.{◌≡◌, ℕ, zero, suc, ◌<◌, ◌-◌, List, [], ◌∷◌, ◌++◌, map, take, replicate, length, get_or, set, Option, Some, refl, arith, ap, ◌∙◌, sym}
use Rattle.std.proofs.Math.Seq.{map-set_same, take-nil}
use Rattle.std.proofs.lemmas.List.{get_or-map, map-set}
use Rattle.strm_links.specs.Layout.{place_at, no_place, with_next, with_previous, places_of, carried_by}
use Rattle.strm_links.specs.declared.table.Node.{Node}
use Rattle.strm_links.specs.declared.table.Place.{Place}

module _ {L T : Type 0} (nodes : List (Node L T)) (k : ℕ) (x : Node L T) where
  -- the place of a node
  pub place_read : k < length nodes → x ≡ get_or nodes k x → x.place ≡ place_at (places_of nodes) k
  place_read within read = ap (λ (y : Node L T). y.place) read ∙ sym (get_or-map (λ (y : Node L T). y.place) nodes k x no_place within)

  -- a node's place is written
  pub places-set : places_of (set nodes k x) ≡ set (places_of nodes) k x.place
  places-set = map-set (λ (y : Node L T). y.place) nodes k x

  -- one of its neighbours is
  module _ {at : Option ℕ} (to : Option ℕ) (is : at ≡ Some k) (within : k < length nodes) (read : x ≡ get_or nodes k x) where
    pub next_written : places_of (set nodes k (record x { place = record x.place { next = to } })) ≡ with_next at to (places_of nodes)
    next_written =
        map-set (λ (y : Node L T). y.place) nodes k (record x { place = record x.place { next = to } })
        ∙ (λ i. set (places_of nodes) k (record (place_read within read i) { next = to })) ∙ sym (ap (λ o. with_next o to (places_of nodes)) is)

    pub previous_written : places_of (set nodes k (record x { place = record x.place { previous = to } })) ≡ with_previous at to (places_of nodes)
    previous_written =
        map-set (λ (y : Node L T). y.place) nodes k (record x { place = record x.place { previous = to } })
        ∙ (λ i. set (places_of nodes) k (record (place_read within read i) { previous = to })) ∙ sym (ap (λ o. with_previous o to (places_of nodes)) is)

module _ {L T : Type 0} (nodes : List (Node L T)) (k : ℕ) (old : Node L T) (place : Place) where
  -- and all that the nodes carry stays
  pub carried-set : old ≡ get_or nodes k old → carried_by (set nodes k (record old { place = place })) ≡ carried_by nodes
  carried-set read = map-set_same (λ (y : Node L T). (y.link, y.load)) nodes k (record old { place = place }) old (ap (λ (y : Node L T). (y.link, y.load)) read)

-- ---- items that are all alike

pub alike : {X Y : Type 0} (f : X → Y) (n : ℕ) (x : X) → map f (replicate n x) ≡ replicate n (f x)
alike f zero x = refl
alike f (suc n) x = ap (λ ys. f x ∷ ys) (alike f n x)

-- once none became n
pub all_alike : {X Y : Type 0} (f : X → Y) (n m : ℕ) (items old : List X) (x : X) → items ≡ take n old ++ replicate (n - m) x → old ≡ [] → m ≡ 0 → map f items ≡ replicate n (f x)
all_alike f n m items old x is none zero_len =
    let all : n - m ≡ n = omega arith in
    ap (map f) (is ∙ (λ i. take n (none i) ++ replicate (all i) x) ∙ ap (λ ys. ys ++ replicate n x) (take-nil n)) ∙ alike f n x

-- nodes, by their places, and by what they carry
module _ {L T : Type 0} (n m : ℕ) (items old : List (Node L T)) (x : Node L T) (is : items ≡ take n old ++ replicate (n - m) x) (none : old ≡ []) (zero_len : m ≡ 0) where
  pub places_alike : places_of items ≡ replicate n x.place
  places_alike = all_alike (λ (y : Node L T). y.place) n m items old x is none zero_len

  pub carried_alike : carried_by items ≡ replicate n (x.link, x.load)
  carried_alike = all_alike (λ (y : Node L T). (y.link, y.load)) n m items old x is none zero_len
