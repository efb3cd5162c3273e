-- Sets of bands: lists of marks, one for each band.
use Rattle.std.proofs.Common.{◌≡◌, ℕ, ◌+◌, ◌*◌, ◌/◌, ◌%◌, ◌<◌, ◌≤◌, Bool, true, false, not, ◌&&◌, ◌||◌, ◌==◌, List, [], ◌∷◌, length, map, get_or, Option, None, Some, inl, inr, refl, sym, ap, ◌∙◌, arith, if◌then◌else◌}
use Rattle.std.specs.Int.{bit_at}
use Rattle.std.specs.Prelude.{nat_lt, slice_index_or, slice_set}
use Rattle.std.specs.List.{list_any, range_with_len}
use Rattle.std.specs.Option.{IfNone, IfSome, unwrap_or}
use Rattle.std.proofs.lemmas.Bool.{cases_lt, le-ltb, lt-ltb, true≢false}
use Rattle.std.proofs.lemmas.List.{ext_get_or, get_or-map, get_or_past, length-map, length-set}
use Rattle.std.proofs.lemmas.Bool.Decides.{nat_tests}
use Rattle.std.proofs.lemmas.Grind.{common_steps}
use Rattle.std.proofs.lemmas.List.Folds.{list_any_at, list_any_none}
use Rattle.std.proofs.lemmas.List.FromFn.{get_or-range_with_len, length-range_with_len}
use Rattle.strm_queue.specs.BandSets.{IsFirstFrom, IsHighestTo, IsLastTo, IsLowestFrom, is_in}
use Rattle.strm_queue.specs.Flow.{bands_where, every_band, has_band}
use Rattle.strm_queue.specs.Limits.{bands}

-- ---- every band

-- the only place that unfolds `every_band`
every_is : every_band ≡ range_with_len 0 bands
unfolding every_band
every_is = refl

-- there are as many bands as the limit says
pub length_every_band : length every_band ≡ bands
length_every_band = ap length every_is ∙ length-range_with_len 0 bands

-- each band is at its own place of the list
pub get_or-every_band : (band : ℕ) → band < bands → get_or every_band band 0 ≡ band
get_or-every_band band below = ap (λ l. get_or l band 0) every_is ∙ omega (arith, get_or-range_with_len 0 bands band 0 below)

-- ---- marks

-- the mark of a band
pub has_band_where : (p : ℕ → Bool) (band : ℕ) → band < bands → has_band (bands_where p) band ≡ p band
has_band_where p band below = get_or-map p every_band band 0 false (omega (arith, below, length_every_band)) ∙ ap p (get_or-every_band band below)

-- there are as many marks as bands
pub length-bands_where : (p : ℕ → Bool) → length (bands_where p) ≡ length every_band
length-bands_where p = length-map every_band p

-- past the last band there is no mark
pub unmarked_past : (ms : List Bool) → length ms ≡ length every_band → (band : ℕ) → bands ≤ band → has_band ms band ≡ false
unmarked_past ms long band past = get_or_past ms band false (omega (arith, past, long, length_every_band))

pub wanted_past : (p : ℕ → Bool) (band : ℕ) → bands ≤ band → has_band (bands_where p) band ≡ false
wanted_past p = unmarked_past (bands_where p) (length-bands_where p)

-- the set without bands has none
pub none_where : (band : ℕ) → has_band (bands_where (λ x. false)) band ≡ false
none_where band = elim (cases_lt band bands) [ inl below ↦ has_band_where (λ x. false) band below | inr past ↦ wanted_past (λ x. false) band past ]

-- so one that is marked is a band
wanted_below : (ms : List Bool) → length ms ≡ length every_band → (band : ℕ) → has_band ms band ≡ true → band < bands
wanted_below ms long band marked = grind (arith, common_steps, cases_lt, true≢false, unmarked_past)

-- a list of marks that agrees with p at each band is the marks of p
pub bands_are : (ms : List Bool) (p : ℕ → Bool) → length ms ≡ length every_band → ((band : ℕ) → band < bands → has_band ms band ≡ p band) → ms ≡ bands_where p
bands_are ms p long same =
    ext_get_or false ms (bands_where p) (long ∙ sym (length-bands_where p))
    (λ band below. let low : band < bands = omega (arith, below, long, length_every_band) in same band low ∙ sym (has_band_where p band low))

-- tests that agree at each band have the same marks
pub bands_where-same : (p q : ℕ → Bool) → ((band : ℕ) → band < bands → p band ≡ q band) → bands_where p ≡ bands_where q
bands_where-same p q same = bands_are (bands_where p) q (length-bands_where p) (λ band below. has_band_where p band below ∙ same band below)

-- ---- one mark is set or cleared

pub bands_where-set : (p : ℕ → Bool) (b : ℕ) (so : Bool) → b < bands → slice_set (bands_where p) b so ≡ bands_where (λ band. if band == b then so else p band)
bands_where-set p b so low = bands_are (slice_set (bands_where p) b so) (λ band. if band == b then so else p band) (length-set (bands_where p) b so ∙ length-bands_where p) at
  where
    at : (band : ℕ) → band < bands → has_band (slice_set (bands_where p) b so) band ≡ (if band == b then so else p band)
    at band below = grind (arith, common_steps, has_band_where p, length-bands_where p, length_every_band)

-- ---- whether there is one

-- whether a mark is set
abbrev pub any_in : List Bool → Bool
any_in ms = list_any (λ mark. mark) ms

any-map : (p : ℕ → Bool) (xs : List ℕ) → any_in (map p xs) ≡ list_any p xs
any-map p [] = refl
any-map p (x ∷ xs) = ap (λ t. p x || t) (any-map p xs)

-- one of the marks is set where p is true of one of the bands
pub some_where : (p : ℕ → Bool) → any_in (bands_where p) ≡ list_any p every_band
some_where p = any-map p every_band

-- so tests that agree at each band agree here
pub some_same : (p q : ℕ → Bool) → ((band : ℕ) → band < bands → p band ≡ q band) → list_any p every_band ≡ list_any q every_band
some_same p q same = sym (some_where p) ∙ ap any_in (bands_where-same p q same) ∙ some_where q

-- ---- bits of words

-- whether the set with these words has a band
abbrev pub bit_in : List ℕ → ℕ → Bool
bit_in words = is_in (record { words = words })

-- one word gets another bit b, and keeps its other bits
module _ (words : List ℕ) (b word : ℕ) (so : Bool) (within : b / 64 < length words) (low : b < bands) (bit : (bit_at word (b % 64) == 1) ≡ so)
    (kept : (i : ℕ) → i < 64 → (i ≡ b % 64 → ⊥) → bit_at word i ≡ bit_at (slice_index_or words (b / 64) 0) i) where
  bit_in-set : (band : ℕ) → bit_in (slice_set words (b / 64) word) band ≡ (if band == b then so else bit_in words band)
  bit_in-set band = grind (arith, common_steps)

  pub bands-set : bands_where (bit_in (slice_set words (b / 64) word)) ≡ slice_set (bands_where (bit_in words)) b so
  bands-set = bands_where-same _ _ (λ band below. bit_in-set band) ∙ sym (bands_where-set (bit_in words) b so low)

-- ---- the nearest of a set

module _ (words : List ℕ) where
  -- none of the bands from this one on and before that one is in the set
  abbrev pub AreNone : ℕ → ℕ → Type 0
  AreNone from to = (band : ℕ) → from ≤ band → band < to → bit_in words band ≡ false

  -- the band of a bit of a word
  bit_in-word : (word i : ℕ) → i < 64 → bit_in words (word * 64 + i) ≡ (bit_at (slice_index_or words word 0) i == 1)
  bit_in-word word i low = grind (arith, common_steps)

  -- bits of a word that are 0
  none_of_word : (word from to : ℕ) → to ≤ 64 → ((i : ℕ) → from ≤ i → i < to → bit_at (slice_index_or words word 0) i ≡ 0) → AreNone (word * 64 + from) (word * 64 + to)
  none_of_word word from to low zeros band above below = grind (arith, common_steps)

  none_over : (from mid to : ℕ) → AreNone from mid → AreNone mid to → AreNone from to
  none_over from mid to low high band above below = grind (arith, low band, high band)

  -- the marks of these bands are false
  pub none_marked : (from to : ℕ) → AreNone from to → (band : ℕ) → from ≤ band → (band < bands → band < to) → has_band (bands_where (bit_in words)) band ≡ false
  none_marked from to none band above below = grind (arith, common_steps, cases_lt, has_band_where, wanted_past)

  module _ (word : ℕ) (low : word < 4) where
    -- a bit that is 1
    marked : (place : ℕ) → place < 64 → bit_at (slice_index_or words word 0) place ≡ 1 → has_band (bands_where (bit_in words)) (word * 64 + place) ≡ true
    marked place within one = has_band_where (bit_in words) (word * 64 + place) (omega (arith, low, within)) ∙ bit_in-word word place within ∙ ap (λ n. n == 1) one

    module _ (band from : ℕ) (start : band ≤ word * 64 + from) (none : AreNone band (word * 64 + from)) where
      -- the words before have none, and this word has the first
      pub first_in : (place : ℕ) → IsLowestFrom (slice_index_or words word 0) from place → IsFirstFrom (bands_where (bit_in words)) band (word * 64 + place)
      first_in place (above, within, one, zeros) =
          (omega (arith, start, above), marked place within one, λ x from_band below. none_marked band (word * 64 + place) before x from_band (λ in_range. below))
        where
          before : AreNone band (word * 64 + place)
          before = none_over band (word * 64 + from) (word * 64 + place) none (none_of_word word from place (omega (arith, within)) zeros)

    module _ (band to : ℕ) (within : to < 64) (end : word * 64 + to ≤ band) (none : AreNone (word * 64 + to + 1) (band + 1)) where
      -- the words after it have none, and this word has the last
      pub last_in : (place : ℕ) → IsHighestTo (slice_index_or words word 0) to place → IsLastTo (bands_where (bit_in words)) band (word * 64 + place)
      last_in place (below, one, zeros) =
          (omega (arith, end, below), marked place (omega (arith, below, within)) one, λ x above to_band. none_marked (word * 64 + (place + 1)) (band + 1) behind x (omega (arith, above)) (λ in_range. omega (arith, to_band)))
        where
          behind : AreNone (word * 64 + (place + 1)) (band + 1)
          behind = grind (arith, common_steps)

      -- or this word has none either
      pub word_before : ((i : ℕ) → i ≤ to → bit_at (slice_index_or words word 0) i ≡ 0) → AreNone (word * 64) (band + 1)
      word_before zeros x above below_end = grind (arith, common_steps)

-- ---- marks taken out, one band after the other

-- a band between n and m that does not leave is the same before both
before_both : (leaves : Bool) (band n m : ℕ) → n ≤ m → (n ≤ band → band < m → leaves ≡ false) → (nat_lt band n && leaves) ≡ (nat_lt band m && leaves)
before_both leaves band n m further stay = grind (arith, nat_tests)

-- where band n leaves, it is what the next step takes out
one_less : (marked leaves : Bool) (band n : ℕ) → (band ≡ n → leaves ≡ true) → (if band == n then false else marked && not (nat_lt band n && leaves)) ≡ (marked && not (nat_lt band (n + 1) && leaves))
one_less marked leaves band n here = grind (arith, nat_tests)

module _ (old : List Bool) (may : ℕ → Bool) where
  -- whether a band leaves: it is marked and may
  abbrev pub leaves : ℕ → Bool
  leaves band = has_band old band && may band

  -- whether a band before band n leaves
  abbrev pub leaves_before : ℕ → ℕ → Bool
  leaves_before n band = nat_lt band n && leaves band

  -- the marks once all bands before band n were looked at
  abbrev pub left_before : ℕ → List Bool
  left_before n = bands_where (λ band. has_band old band && not (leaves_before n band))

  -- then `now` is left, and `some` says whether a band has left
  abbrev pub AreLookedAt : ℕ → List Bool → Bool → Type 0
  AreLookedAt n now some = (now ≡ left_before n) × (some ≡ list_any (leaves_before n) every_band)

  -- a band from n on is not among them, and one before n is
  none_before : (n band : ℕ) → n ≤ band → leaves_before n band ≡ false
  none_before n band from = ap (λ t. t && leaves band) (le-ltb band n from)

  all_before : (n band : ℕ) → band < n → leaves_before n band ≡ leaves band
  all_before n band below = ap (λ t. t && leaves band) (lt-ltb band n below)

  -- at first no band was looked at
  pub looked_at_first : length old ≡ length every_band → AreLookedAt 0 old false
  looked_at_first long = grind (arith, common_steps, bands_are, none_before, some_same, list_any_none)

  -- at last all bands were
  pub looked_at_last : (now : List Bool) (some : Bool) → AreLookedAt bands now some
      → (now ≡ bands_where (λ band. has_band old band && not (leaves band))) × (some ≡ list_any leaves every_band)
  looked_at_last now some (left, are) = (
    left ∙ bands_where-same _ _ (λ band below. ap (λ t. has_band old band && not t) (all_before bands band below)),
    are ∙ some_same (leaves_before bands) leaves (λ band below. all_before bands band below),
  )

  module _ (n : ℕ) (now : List Bool) (some : Bool) (are : AreLookedAt n now some) where
    -- a band that was not looked at has the mark that it had
    wanted_still : (band : ℕ) → n ≤ band → band < bands → has_band now band ≡ has_band old band
    wanted_still band from low = grind (arith, common_steps, has_band_where, none_before)

    -- none of the bands from this one on and before that one leaves: nothing changes
    looked_over : (m : ℕ) → n ≤ m → ((band : ℕ) → n ≤ band → band < m → band < bands → leaves band ≡ false) → AreLookedAt m now some
    looked_over m further stay = grind (arith, common_steps, bands_where-same, some_same, before_both)

    -- a band that has no mark now and was not looked at does not leave
    stays : (band : ℕ) → n ≤ band → band < bands → has_band now band ≡ false → leaves band ≡ false
    stays band from low unmarked = ap (λ t. t && may band) (sym (wanted_still band from low) ∙ unmarked)

    -- the loop goes on to the next marked band
    pub looked_to : (next : Option ℕ) → n ≤ bands → IfSome next (IsFirstFrom now n) → IfNone next ((band : ℕ) → n ≤ band → has_band now band ≡ false)
        → AreLookedAt (unwrap_or next bands) now some × IfSome next (λ band. has_band old band ≡ true)
    looked_to None low found none = (looked_over bands low (λ band from below in_range. stays band from in_range (none band from)), tt)
    looked_to (Some next) low (from, marked, none) _ =
        (looked_over next from (λ band above below in_range. stays band above in_range (none band above below)), sym (wanted_still next from (wanted_below now (ap length are.0 ∙ length-bands_where _) next marked)) ∙ marked)

    module _ (low : n < bands) (marked : has_band old n ≡ true) where
      -- the band itself stays
      pub looked_stays : may n ≡ false → AreLookedAt (n + 1) now some
      looked_stays stays = looked_over (n + 1) (omega arith) (λ band from below in_range. let is : band ≡ n = omega (arith, from, below) in ap leaves is ∙ (λ i. marked i && stays i))

      -- or it leaves
      pub looked_leaves : may n ≡ true → AreLookedAt (n + 1) (slice_set now n false) true
      looked_leaves goes = (
        ap (λ ms. slice_set ms n false) are.0 ∙ bands_where-set _ n false low ∙ bands_where-same _ _ (λ band below. one_less (has_band old band) (leaves band) band n (λ here. ap leaves here ∙ leaves_n)),
        sym (list_any_at (leaves_before (n + 1)) every_band n 0 (omega (arith, low, length_every_band)) (ap (leaves_before (n + 1)) (get_or-every_band n low) ∙ all_before (n + 1) n (omega arith) ∙ leaves_n)),
      )
        where
          leaves_n : leaves n ≡ true
          leaves_n = λ i. marked i && goes i

  -- if no band is marked, no band leaves
  pub looked_at_none : length old ≡ length every_band → ((band : ℕ) → has_band old band ≡ false) → AreLookedAt bands old false
  looked_at_none long none = (looked_to 0 old false (looked_at_first long) None (omega arith) tt (λ band from. none band)).0
