-- What is stored of a queue's messages (its tally), and when it is true of them.
use Rattle.std.specs.Prelude.{◌≡◌, ℕ, ◌+◌, ◌-◌, ◌^◌, ◌<◌, ◌≤◌, Bool, true, false, nat_lt, List, length, replicate, slice_index_or, slice_set, Option, None, Some, is_some, if◌then◌else◌}
use Rattle.std.specs.Option.{ForSome}
use Rattle.strm_data.specs.DataStore.{DataStore}
use Rattle.strm_links.specs.Rows as rows
use Rattle.strm_mblk.specs.Block.{Message}
use Rattle.strm_queue.specs.declared.tally.Leaving.{Leaving}
use Rattle.strm_queue.specs.declared.tally.Placed.{Placed}
use Rattle.strm_queue.specs.Ends.{first_of_rank, last_of_rank}
use Rattle.strm_queue.specs.Flow.{band_count, band_of_rank, bands_where, bytes_on, fills, has_band}
use Rattle.strm_queue.specs.Limits.{bands, ranks}
use Rattle.strm_queue.specs.Rank.{rank_of}

-- The number of messages and of their bytes; for each band its bytes, and whether it is full; for each rank the heads of
-- its first and last message, if any. For each rank that is a band, `used` says whether it has messages.
pub record Tally : Type 0 where
  pub len : ℕ
  pub bytes : ℕ
  pub counts : List ℕ
  pub full : List Bool
  pub firsts : List (Option ℕ)
  pub lasts : List (Option ℕ)
  pub used : List Bool

abbrev pub no_tally : Tally
no_tally = record {
  len = 0;
  bytes = 0;
  counts = replicate bands 0;
  full = bands_where (λ band. false);
  firsts = replicate ranks None;
  lasts = replicate ranks None;
  used = bands_where (λ band. false);
}

-- the stored number of bytes of a band
abbrev pub count_of : Tally → ℕ → ℕ
count_of t band = slice_index_or t.counts band 0

-- the stored heads of the first and the last message of a rank
abbrev pub first_in : Tally → ℕ → Option ℕ
first_in t r = slice_index_or t.firsts r None

abbrev pub last_in : Tally → ℕ → Option ℕ
last_in t r = slice_index_or t.lasts r None

-- ---- when a tally is true

-- the stored ends of each rank are the first and the last of its messages
pub record AreEndsOf (rank : Message → ℕ) (ms : List Message) (t : Tally) : Type 0 where
  pub each_first : length t.firsts ≡ ranks
  pub each_last : length t.lasts ≡ ranks
  pub each_used : length t.used ≡ bands
  pub firsts : (r : ℕ) → first_in t r ≡ first_of_rank rank r ms
  pub lasts : (r : ℕ) → last_in t r ≡ last_of_rank rank r ms
  pub used : (r : ℕ) → r < bands → has_band t.used r ≡ is_some (first_of_rank rank r ms)

-- the tally is true of these messages, on a queue whose bands have these high water marks
pub record IsTallyOf (s : DataStore) (hiwat : ℕ → ℕ) (ms : List Message) (t : Tally) : Type 0 where
  pub len : t.len ≡ length ms
  pub bytes : t.bytes ≡ bytes_on ms
  pub each_band : length t.counts ≡ bands
  pub each_mark : length t.full ≡ bands
  pub counts : (band : ℕ) → band < bands → count_of t band ≡ band_count s band ms
  pub full : (band : ℕ) → band < bands → has_band t.full band ≡ fills (hiwat band) (band_count s band ms)
  pub ends : AreEndsOf (rank_of s) ms t

-- ---- a message joins or leaves (no public clause cites what follows)

-- the head of the message, and those of its neighbours, are numbers that a `Slot` can store
pub record IsNumbered (p : Placed) : Type 0 where
  pub head : p.head < 2 ^ 32 - 1
  pub ahead : ForSome p.ahead (λ k. k < 2 ^ 32 - 1)
  pub behind : ForSome p.behind (λ k. k < 2 ^ 32 - 1)

-- the stored full mark of a band says whether its stored bytes reach this high water mark
abbrev pub IsMarkTrue : ℕ → ℕ → Tally → Type 0
IsMarkTrue hiwat band t = has_band t.full band ≡ fills hiwat (count_of t band)

-- the stored mark of a rank, if there is one, says whether it has messages
abbrev pub IsUseTrue : ℕ → Tally → Type 0
IsUseTrue r t = r < length t.used → has_band t.used r ≡ is_some (first_in t r)

-- an end of a rank after a message joined it: the message, if the rank was empty or its end is beside; else the old end
abbrev pub end_after_joining : Option ℕ → Option ℕ → ℕ → Option ℕ
end_after_joining None beside head = Some head
end_after_joining (Some at) beside head = if rows.is_some_of at beside then Some head else Some at

-- the message goes after the last one of its rank, and not before the first
pub record IsFollowing (p : Placed) (t : Tally) : Type 0 where
  pub first : end_after_joining (first_in t p.rank) p.behind p.head ≡ first_in t p.rank
  pub last : end_after_joining (last_in t p.rank) p.ahead p.head ≡ Some p.head
  pub used : IsUseTrue p.rank t

-- a band is stored with n bytes, and with its full mark by this high water mark
abbrev pub with_count : ℕ → ℕ → ℕ → Tally → Tally
with_count hiwat band n t = record t { counts = slice_set t.counts band n; full = slice_set t.full band (fills hiwat n) }

-- the full mark of a band is stored anew, by this high water mark
abbrev pub with_full_mark : ℕ → ℕ → Tally → Tally
with_full_mark hiwat band t = with_count hiwat band (count_of t band) t

-- these heads are stored as the first and the last message of a rank
abbrev pub with_ends : ℕ → Option ℕ → Option ℕ → Tally → Tally
with_ends r first last t = record t { firsts = slice_set t.firsts r first; lasts = slice_set t.lasts r last; used = slice_set t.used r (is_some first) }

-- An end of a rank after a message left it. If the message was that end: the one beside, or none if it was the other end too.
-- Else the old end.
abbrev pub end_after_leaving : Option ℕ → Option ℕ → Option ℕ → ℕ → Option ℕ
end_after_leaving end other beside head = if rows.is_some_of head end then (if rows.is_some_of head other then None else beside) else end

-- the tally once a message has joined whose band has this high water mark
abbrev pub one_more : ℕ → Placed → Tally → Tally
one_more hiwat p t =
    with_ends p.rank (end_after_joining (first_in t p.rank) p.behind p.head) (end_after_joining (last_in t p.rank) p.ahead p.head)
    (with_count hiwat (band_of_rank p.rank) (count_of t (band_of_rank p.rank) + p.size) (record t { len = t.len + 1; bytes = t.bytes + p.size }))

-- the tally once a message has left whose band has this high water mark
abbrev pub one_less : ℕ → Placed → Tally → Tally
one_less hiwat p t =
    with_ends p.rank (end_after_leaving (first_in t p.rank) (last_in t p.rank) p.behind p.head) (end_after_leaving (last_in t p.rank) (first_in t p.rank) p.ahead p.head)
    (with_count hiwat (band_of_rank p.rank) (count_of t (band_of_rank p.rank) - p.size) (record t { len = t.len - 1; bytes = t.bytes - p.size }))

-- the tally once the first messages of a rank have left, but not all: their number and bytes, and the head of the first that is left
abbrev pub without_front : ℕ → Leaving → Tally → Tally
without_front hiwat l t =
    let u = with_count hiwat (band_of_rank l.rank) (count_of t (band_of_rank l.rank) - l.bytes) t in
    record u { len = t.len - l.len; bytes = t.bytes - l.bytes; firsts = slice_set t.firsts l.rank (Some l.first) }

-- messages that leave are among those of the tally, and all these numbers fit
pub record AreAmong (l : Leaving) (t : Tally) : Type 0 where
  pub len : l.len ≤ t.len
  pub bytes : l.bytes ≤ t.bytes
  pub count : l.bytes ≤ count_of t (band_of_rank l.rank)
  pub few : t.len < 2 ^ 32
  pub light : t.bytes < 2 ^ 32
  pub rank : l.rank < ranks
  pub first : l.first < 2 ^ 32 - 1

-- ---- ranks that have messages

-- whether a rank has messages, by the tally
abbrev pub has_rank : Tally → ℕ → Bool
has_rank t r = if nat_lt r bands then has_band t.used r else is_some (first_in t r)

-- found is the smallest rank from this one on that has messages
abbrev pub IsRankFrom : Tally → ℕ → ℕ → Type 0
IsRankFrom t r found = (r ≤ found) × (found < ranks) × (has_rank t found ≡ true) × ((x : ℕ) → r ≤ x → x < found → has_rank t x ≡ false)

-- found is the greatest rank up to this one that has messages
abbrev pub IsRankTo : Tally → ℕ → ℕ → Type 0
IsRankTo t r found = (found ≤ r) × (has_rank t found ≡ true) × ((x : ℕ) → found < x → x ≤ r → has_rank t x ≡ false)
