-- Sets of bands as the bits of words, and the nearest band or bit of a set. No public clause cites this module.
use Rattle.std.specs.Prelude.{◌≡◌, ℕ, ◌<◌, ◌≤◌, Bool, true, false, ◌==◌, ◌/◌, ◌%◌, List, slice_index_or}
use Rattle.std.specs.Int.{bit_at}
use Rattle.strm_queue.specs.Flow.{bands_where, has_band}
use Rattle.strm_queue.specs.declared.band_set.BandSet.TheInside.{Inside}

-- band b is in the set if bit b % 64 of word b / 64 is 1
abbrev pub is_in : Inside → ℕ → Bool
is_in a band = bit_at (slice_index_or a.words (band / 64) 0) (band % 64) == 1

abbrev pub bands_in : Inside → List Bool
bands_in a = bands_where (is_in a)

-- found is the smallest band of the set from this one on
abbrev pub IsFirstFrom : List Bool → ℕ → ℕ → Type 0
IsFirstFrom set band found = (band ≤ found) × (has_band set found ≡ true) × ((x : ℕ) → band ≤ x → x < found → has_band set x ≡ false)

-- found is the greatest band of the set up to this one
abbrev pub IsLastTo : List Bool → ℕ → ℕ → Type 0
IsLastTo set band found = (found ≤ band) × (has_band set found ≡ true) × ((x : ℕ) → found < x → x ≤ band → has_band set x ≡ false)

-- found is the place of the lowest 1 of a word from this place on
abbrev pub IsLowestFrom : ℕ → ℕ → ℕ → Type 0
IsLowestFrom word place found = (place ≤ found) × (found < 64) × (bit_at word found ≡ 1) × ((i : ℕ) → place ≤ i → i < found → bit_at word i ≡ 0)

-- found is the place of the highest 1 of a word up to this place
abbrev pub IsHighestTo : ℕ → ℕ → ℕ → Type 0
IsHighestTo word place found = (found ≤ place) × (bit_at word found ≡ 1) × ((i : ℕ) → found < i → i ≤ place → bit_at word i ≡ 0)
