-- Where a test first passes in a list.
use Rattle.std.proofs.Common.{◌≡◌, ℕ, suc, ◌+◌, ◌<◌, Bool, cond, List, [], ◌∷◌, map, length, get_or, Some, None, refl, arith}
use Rattle.std.specs.Prelude.{nat_lt, not}
use Rattle.std.specs.List.{position, position_or_len}
use Rattle.std.proofs.lemmas.List.{length-map}

module _ {X Y : Type 0} (p : X → Bool) (q : Y → Bool) (f : Y → X) (d : Y) where
  -- where a test first passes, among lists and among what each of them gives
  place_same : (ys : List Y) → ((k : ℕ) → k < length ys → p (f (get_or ys k d)) ≡ q (get_or ys k d)) → position_or_len p (map f ys) ≡ position_or_len q ys
  place_same [] each = refl
  place_same (y ∷ ys) each =
      let here = each 0 (omega arith) in
      let behind = place_same ys (λ k within. each (suc k) (omega (arith, within))) in
      λ j. cond (not (here j)) (1 + behind j) 0

  pub position_same : (ys : List Y) → ((k : ℕ) → k < length ys → p (f (get_or ys k d)) ≡ q (get_or ys k d)) → position p (map f ys) ≡ position q ys
  position_same ys each =
      let place = place_same ys each in
      let long = length-map ys f in
      λ j. cond (nat_lt (place j) (long j)) (Some (place j)) None
