-- Desks in memory, and desks that met the lock in the order of their numbers.
use Rattle.std.proofs.Common.{ℕ, ◌<◌, List, [], ◌∷◌, length, map, sym, arith, ◌≡◌, zero, suc, ◌+◌, ◌-◌, ◌≤◌, get_or, refl, ap, ◌∙◌, subst, IsTrue}
use Rattle.std.specs.List.Sorted.{IsNonDecreasingBy}
use Rattle.std.proofs.lemmas.List.{get_or-map, length-map, ext_get_or}
use Rattle.std.specs.List.{All}
use Rattle.strm_links.specs.Counting.{times}
use Rattle.strm_links.proofs.lists.Counting.{times-cons, times_here, times_some}
use Rattle.strm_pool.specs.PoolValue.{PoolValue, owns}
use Rattle.strm_pool.specs.Registers.{AreAccounted, entries_of}
use Rattle.strm_pool.proofs.Accounts.{accounted_owned}
use Rattle.strm_shared.specs.declared.views.History.{History}
use Rattle.strm_shared.specs.Desks.{DeskValue, no_desk, with_pair_seen}
use Rattle.strm_shared.specs.Pairs.{Pair}
use Rattle.strm_shared.specs.SeatsLayout.{IsDeskOfHistory}

-- ---- lists of desks as they lie in memory

module _ {X Y : Type 0} (f : X → Y) where
  -- sorted by what is seen of each element, the list of that is sorted
  pub sorted-map : (n : Y → ℕ) (xs : List X) → IsNonDecreasingBy (λ x. n (f x)) xs → IsNonDecreasingBy n (map f xs)
  sorted-map n [] sorted i j d le lt = absurd (omega (arith, lt))
  sorted-map n (x ∷ xs) sorted i j d le lt =
      let low : j < length (x ∷ xs) = rw (sym (length-map (x ∷ xs) f)) lt in
      rw (get_or-map f (x ∷ xs) i x d (omega (arith, le, low)), get_or-map f (x ∷ xs) j x d low) (sorted i j x le low)

-- ---- desks that met the lock in the order of their numbers: their registers are what the book knows

-- ---- the order of the numbers

-- where each number stands once at most, two places have two numbers
apart : (xs : List ℕ) → ((k : ℕ) → times k xs ≤ 1) → (i j : ℕ) → i < j → j < length xs → get_or xs i 0 ≡ get_or xs j 0 → ⊥
apart [] once i j before within same = omega (arith, within)
apart (x ∷ xs) once i zero before within same = omega (arith, before)
apart (x ∷ xs) once zero (suc j) before within same =
    omega (arith, once x, times_here x x xs refl, times_some xs j (omega (arith, within)), ap (λ n. times n xs) same)
apart (x ∷ xs) once (suc i) (suc j) before within same =
    apart xs (λ k. omega (arith, once k, times-cons k x xs)) i j (omega (arith, before)) (omega (arith, within)) same

-- desks that have seen one pair more are in the same order
pub sorted_shown : (p : Pair) (ds : List DeskValue) → IsNonDecreasingBy (λ (d : DeskValue). d.number) ds → IsNonDecreasingBy (λ (d : DeskValue). d.number) (map (with_pair_seen p) ds)
sorted_shown p ds sorted = sorted-map (with_pair_seen p) (λ (d : DeskValue). d.number) ds sorted

module _ (ds : List DeskValue) (sorted : IsNonDecreasingBy (λ (d : DeskValue). d.number) ds) (once : (k : ℕ) → times k (map (λ (d : DeskValue). d.number) ds) ≤ 1) where
  -- the number at a place further back is greater by as many places at least
  rises : (i k : ℕ) → i + k < length ds → (get_or ds i no_desk).number + k ≤ (get_or ds (i + k) no_desk).number
  rises i zero within =
      let here : i + 0 ≡ i = omega arith in
      omega (arith, ap (λ (j : ℕ). (get_or ds j no_desk).number) here)
  rises i (suc k) within =
      let before : i + k < i + suc k = omega arith in
      let other = apart (map (λ (d : DeskValue). d.number) ds) once (i + k) (i + suc k) before (omega (arith, within, length-map ds (λ (d : DeskValue). d.number))) in
      let front = get_or-map (λ (d : DeskValue). d.number) ds (i + k) no_desk 0 (omega (arith, within)) in
      let back = get_or-map (λ (d : DeskValue). d.number) ds (i + suc k) no_desk 0 within in
      let differ : (get_or ds (i + k) no_desk).number ≡ (get_or ds (i + suc k) no_desk).number → ⊥ = λ same. other (front ∙ same ∙ sym back) in
      omega (arith, rises i k (omega (arith, within)), sorted (i + k) (i + suc k) no_desk (omega (arith, before)) within, differ)

  -- as many as there are numbers, each stands at the place of its number
  pub number_at : All (λ (d : DeskValue). d.number < length ds) ds → (k : ℕ) → k < length ds → (get_or ds k no_desk).number ≡ k
  number_at below k within =
      let rest : ℕ = length ds - 1 - k in
      let front : 0 + k ≡ k = omega arith in
      let back : k + rest ≡ length ds - 1 = omega (arith, within) in
      omega (
        arith,
        within,
        rises 0 k (omega (arith, within)),
        ap (λ (j : ℕ). (get_or ds j no_desk).number) front,
        rises k rest (omega (arith, within)),
        ap (λ (j : ℕ). (get_or ds j no_desk).number) back,
        below (length ds - 1) no_desk (omega (arith, within)),
      )

-- ---- what the registers tell

module _ (desks first : ℕ) (h : History) (v : PoolValue) (ds : List DeskValue) (met : All (IsDeskOfHistory v.arena.id desks first h) ds) (accounted : AreAccounted v.arena h.tables) (many : length h.tables ≡ desks) where
  -- the pool owns the registers of each
  pub all_owned : All (λ (d : DeskValue). IsTrue (owns v d.regs)) ds
  all_owned k d within =
      let x : DeskValue = get_or ds k d in
      let is = met k d within in
      accounted_owned v x.regs h.tables x.number (omega (arith, is.desk.below, many)) is.table accounted is.desk.carry

  -- and if all came, each held message is in one register of one of them
  module _ (sorted : IsNonDecreasingBy (λ (d : DeskValue). d.number) ds) (once : (k : ℕ) → times k (map (λ (d : DeskValue). d.number) ds) ≤ 1) (all : length ds ≡ desks) where
    listed : map (λ (d : DeskValue). entries_of d.regs) ds ≡ h.tables
    listed =
        ext_get_or [] (map (λ (d : DeskValue). entries_of d.regs) ds) h.tables (length-map ds (λ (d : DeskValue). entries_of d.regs) ∙ all ∙ sym many) (λ k lt.
        let within : k < length ds = omega (arith, lt, length-map ds (λ (d : DeskValue). entries_of d.regs)) in
        let is = number_at ds sorted once (λ j d inside. omega (arith, (met j d inside).desk.below, all)) k within in
        get_or-map (λ (d : DeskValue). entries_of d.regs) ds k no_desk [] within ∙ sym (met k no_desk within).table ∙ ap (λ (j : ℕ). get_or h.tables j []) is)

    pub all_accounted : AreAccounted v.arena (map (λ (d : DeskValue). entries_of d.regs) ds)
    all_accounted = subst (AreAccounted v.arena) (sym listed) accounted
