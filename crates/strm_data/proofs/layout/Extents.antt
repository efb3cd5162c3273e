-- Where the bytes of data blocks are laid out: among the bytes of their class, apart, and one data block after the other.
use Rattle.std.proofs.Common.{◌≡◌, ℕ, zero, suc, ◌+◌, ◌-◌, ◌*◌, ◌<◌, ◌≤◌, List, [], ◌∷◌, ◌++◌, ◌≢◌, length, get_or, map, take, drop, refl, sym, ap, ◌∙◌, inl, inr, arith, if◌then◌else◌, ◌==◌, append_assoc, length-append}
use Rattle.std.specs.List.{flat_map, range_with_len}
use Rattle.std.proofs.lemmas.Bool.{cases_lt, cond-true, cond-false, eq-eqb, ne_eqb}
use Rattle.std.proofs.lemmas.Grind.{flat_map-append}
use Rattle.std.proofs.lemmas.List.{append-nil, drop-drop, get_or-append_right, get_or_append_left}
use Rattle.std.proofs.lemmas.List.FromFn.{length-map-range_with_len, get_or-map-range_with_len}
use Rattle.std.proofs.Math.Nat.{mul-le-mul_right}
use Rattle.std.proofs.Math.Seq.{take-add}
use Rattle.strm_data.specs.Classes.{total_of}
use Rattle.strm_data.specs.DataLayout.{Extent, FitFrom, Room, bytes_in, end_of, extent_in, extent_of, extents_from, extents_in, no_block, no_class, room_of}
use Rattle.strm_data.proofs.store.Opening.{total_of-cons}

-- extent d, and the room of class k
abbrev pub extent_at : List Extent → ℕ → Extent
extent_at es d = get_or es d (extent_of no_block)

abbrev pub room_at : List Room → ℕ → Room
room_at rooms k = get_or rooms k (room_of no_class)

length-extents_in : (c : ℕ) (room : Room) → length (extents_in c room) ≡ room.spec.count
length-extents_in c room = length-map-range_with_len (extent_in c room) 0 room.spec.count

pub length-extents_from : (c : ℕ) (rooms : List Room) → length (extents_from c rooms) ≡ total_of (map (λ r. r.spec) rooms)
length-extents_from c [] = refl
length-extents_from c (room ∷ rooms) =
    omega (
      arith,
      length-append (extents_in c room) (extents_from (c + 1) rooms),
      length-extents_in c room,
      length-extents_from (c + 1) rooms,
      total_of-cons room.spec (map (λ r. r.spec) rooms),
    )

-- those of one class more
pub extents_from-push : (c : ℕ) (rooms : List Room) (room : Room) → extents_from c (rooms ++ room ∷ []) ≡ extents_from c rooms ++ extents_in (c + length rooms) room
extents_from-push c [] room = append-nil _ ∙ ap (λ n. extents_in n room) (let e : c ≡ c + 0 = omega arith in e)
extents_from-push c (x ∷ xs) room =
    ap (λ es. extents_in c x ++ es) (extents_from-push (c + 1) xs room) ∙ sym (append_assoc (extents_in c x) (extents_from (c + 1) xs) (extents_in (c + 1 + length xs) room))
    ∙ ap (λ n. extents_from c (x ∷ xs) ++ extents_in n room) (let e : c + 1 + length xs ≡ c + length (x ∷ xs) = omega arith in e)

-- ---- how classes fit

pub fit_ends : (at end : ℕ) (rooms : List Room) → FitFrom at rooms end → at ≤ end
fit_ends at end [] fit = fit
fit_ends at end (room ∷ rooms) fit = omega (arith, fit.0, fit_ends (end_of room) end rooms fit.1)

pub FitFrom-push : (at end next : ℕ) (rooms : List Room) (room : Room) → FitFrom at rooms end → end ≤ room.start → end_of room ≤ next → FitFrom at (rooms ++ room ∷ []) next
FitFrom-push at end next [] room fit start past = (omega (arith, fit, start), past)
FitFrom-push at end next (x ∷ xs) room fit start past = (fit.0, FitFrom-push (end_of x) end next xs room fit.1 start past)

pub room_fits : (at end : ℕ) (rooms : List Room) (k : ℕ) → k < length rooms → FitFrom at rooms end → end_of (room_at rooms k) ≤ end
room_fits at end [] k within fit = absurd (omega arith)
room_fits at end (room ∷ rooms) zero within fit = fit_ends (end_of room) end rooms fit.1
room_fits at end (room ∷ rooms) (suc k) within fit = room_fits (end_of room) end rooms k (omega arith) fit.1

-- a data block of the first class, and one of a later class
module _ (c : ℕ) (room : Room) (rooms : List Room) (d : ℕ) where
  extent_here : d < room.spec.count → extent_at (extents_from c (room ∷ rooms)) d ≡ extent_in c room d
  extent_here within =
      get_or_append_left (extents_in c room) (extents_from (c + 1) rooms) (extent_of no_block) d (omega (arith, length-extents_in c room))
      ∙ get_or-map-range_with_len (extent_in c room) 0 room.spec.count d d (extent_of no_block) within (let e : 0 + d ≡ d = omega arith in e)

  extent_past : room.spec.count ≤ d → extent_at (extents_from c (room ∷ rooms)) d ≡ extent_at (extents_from (c + 1) rooms) (d - room.spec.count)
  extent_past past = get_or-append_right (extents_in c room) (extents_from (c + 1) rooms) room.spec.count d (extent_of no_block) (length-extents_in c room) past

-- data block j of a class ends before the class does
pub ends_within : (size j count : ℕ) → j < count → j * size + size ≤ size * count
ends_within size j count below =
    let next : (j + 1) * size ≤ count * size = mul-le-mul_right size (let l : j + 1 ≤ count = omega arith in l) in
    omega (arith, next)

pub extents_within : (c at end : ℕ) (rooms : List Room) (d : ℕ) → FitFrom at rooms end → d < length (extents_from c rooms)
    → (at ≤ (extent_at (extents_from c rooms) d).start) × ((extent_at (extents_from c rooms) d).start + (extent_at (extents_from c rooms) d).size ≤ end)
extents_within c at end [] d fit within = absurd (omega arith)
extents_within c at end (room ∷ rooms) d fit within = elim (cases_lt d room.spec.count) [
  | inl here ↦
      rw (extent_here c room rooms d here)
      (omega (arith, fit.0), omega (arith, ends_within room.spec.size d room.spec.count here, fit_ends (end_of room) end rooms fit.1))
  | inr past ↦
      let later = extents_within (c + 1) (end_of room) end rooms (d - room.spec.count) fit.1
      (omega (arith, length-append (extents_in c room) (extents_from (c + 1) rooms), length-extents_in c room)) in
      rw (extent_past c room rooms d past) (omega (arith, fit.0, later.0), later.1)
]

-- data blocks are apart
pub extents_apart : (c at end : ℕ) (rooms : List Room) (d e : ℕ) → FitFrom at rooms end → d < e → e < length (extents_from c rooms)
    → (extent_at (extents_from c rooms) d).start + (extent_at (extents_from c rooms) d).size ≤ (extent_at (extents_from c rooms) e).start
extents_apart c at end [] d e fit before within = absurd (omega arith)
extents_apart c at end (room ∷ rooms) d e fit before within = elim (cases_lt e room.spec.count) [
  | inl here ↦
      let l : d + 1 ≤ e = omega arith in
      let next : (d + 1) * room.spec.size ≤ e * room.spec.size = mul-le-mul_right room.spec.size l in
      rw (extent_here c room rooms d (omega arith), extent_here c room rooms e here) (omega (arith, next))
  | inr past ↦
      let there : e - room.spec.count < length (extents_from (c + 1) rooms) = omega (arith, length-append (extents_in c room) (extents_from (c + 1) rooms), length-extents_in c room) in
      elim (cases_lt d room.spec.count) [
        | inl first ↦
            rw (extent_here c room rooms d first, extent_past c room rooms e past)
            (omega (arith, ends_within room.spec.size d room.spec.count first, (extents_within (c + 1) (end_of room) end rooms (e - room.spec.count) fit.1 there).0))
        | inr later ↦
            rw (extent_past c room rooms d later, extent_past c room rooms e past)
            (extents_apart (c + 1) (end_of room) end rooms (d - room.spec.count) (e - room.spec.count) fit.1 (omega arith) there)
      ]
]

-- ---- the bytes of all data blocks of a class

-- what functions of consecutive numbers give together
module _ {X : Type 0} (g : X → List ℕ) (f : ℕ → X) where
  nothing : (a n : ℕ) → ((d : ℕ) → g (f d) ≡ []) → flat_map g (map f (range_with_len a n)) ≡ []
  nothing a zero none = refl
  nothing a (suc n) none = λ i. none a i ++ nothing (a + 1) n none i

  parts : (a n start size : ℕ) (xs : List ℕ) → ((j : ℕ) → j < n → g (f (a + j)) ≡ take size (drop (start + j * size) xs))
      → flat_map g (map f (range_with_len a n)) ≡ take (n * size) (drop start xs)
  parts a zero start size xs each = ap (λ k. take k (drop start xs)) (let e : 0 ≡ zero * size = omega arith in e)
  parts a (suc n) start size xs each =
      let first : g (f a) ≡ take size (drop start xs) =
      ap (λ k. g (f k)) (let e : a ≡ a + 0 = omega arith in e) ∙ each 0 (omega arith) ∙ ap (λ k. take size (drop k xs)) (let e : start + 0 * size ≡ start = omega arith in e) in
      let rest : flat_map g (map f (range_with_len (a + 1) n)) ≡ take (n * size) (drop (start + size) xs) =
      parts (a + 1) n (start + size) size xs (λ j below.
      ap (λ k. g (f k)) (let e : a + 1 + j ≡ a + (j + 1) = omega arith in e) ∙ each (j + 1) (omega arith)
      ∙ ap (λ k. take size (drop k xs)) (let e : start + (j + 1) * size ≡ start + size + j * size = omega arith in e)) in
      (λ i. first i ++ rest i) ∙ ap (λ ys. take size (drop start xs) ++ take (n * size) ys) (sym (drop-drop size start xs))
      ∙ sym (take-add size (n * size) (drop start xs)) ∙ ap (λ k. take k (drop start xs)) (let e : size + n * size ≡ suc n * size = omega arith in e)

module _ (bytes : List ℕ) (m : ℕ) where
  -- the bytes of an extent of class m
  abbrev pub given : Extent → List ℕ
  given e = if e.class == m then bytes_in bytes e else []

  -- another class gives none
  none_of : (c : ℕ) (room : Room) → c ≢ m → flat_map given (extents_in c room) ≡ []
  none_of c room other = nothing given (extent_in c room) 0 room.spec.count (λ d. cond-false (c == m) (bytes_in bytes (extent_in c room d)) [] (ne_eqb c m other))

  none_later : (c : ℕ) (rooms : List Room) → m < c → flat_map given (extents_from c rooms) ≡ []
  none_later c [] after = refl
  none_later c (room ∷ rooms) after =
      flat_map-append given (extents_in c room) (extents_from (c + 1) rooms)
      ∙ (λ i. none_of c room (λ same. absurd (omega (arith, same))) i ++ none_later (c + 1) rooms (omega arith) i)

  -- class m has number k among these
  pub class_given : (c k : ℕ) (rooms : List Room) → m ≡ c + k → k < length rooms
      → flat_map given (extents_from c rooms) ≡ take ((room_at rooms k).spec.size * (room_at rooms k).spec.count) (drop (room_at rooms k).start bytes)
  class_given c k [] is within = absurd (omega arith)
  class_given c zero (room ∷ rooms) is within =
      let same : c ≡ m = omega (arith, is) in
      let own = parts given (extent_in c room) 0 room.spec.count room.start room.spec.size bytes
      (λ j below.
      ap (λ n. given (extent_in c room n)) (let e : 0 + j ≡ j = omega arith in e)
      ∙ cond-true (c == m) (bytes_in bytes (extent_in c room j)) [] (eq-eqb c m same)) in
      flat_map-append given (extents_in c room) (extents_from (c + 1) rooms) ∙ (λ i. own i ++ none_later (c + 1) rooms (omega (arith, same)) i) ∙ append-nil _
      ∙ ap (λ n. take n (drop room.start bytes)) (let e : room.spec.count * room.spec.size ≡ room.spec.size * room.spec.count = omega arith in e)
  class_given c (suc k) (room ∷ rooms) is within =
      flat_map-append given (extents_in c room) (extents_from (c + 1) rooms)
      ∙ (λ i. none_of c room (λ same. absurd (omega (arith, same, is))) i ++ class_given (c + 1) k rooms (omega (arith, is)) (omega arith) i)
