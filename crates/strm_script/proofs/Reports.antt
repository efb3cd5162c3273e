-- The lines of a report, one by one.
use Rattle.std.proofs.Common.{◌≡◌, ℕ, zero, suc, ◌+◌, zero-add, ◌-◌, ◌<◌, ◌≤◌, Bool, true, false, List, [], ◌∷◌, ◌++◌, Some, None, Ok, Err, length, take, drop, reverse, refl, sym, ap, ◌∙◌, inl, inr, append_assoc, append-nil, arith, if◌then◌else◌}
use Rattle.std.specs.Prelude.{codes, nat_lt, slice_get}
use Rattle.std.specs.List.{flat_map, range_with_len}
use Rattle.std.specs.Option.{is_some}
use Rattle.std.proofs.lemmas.Bool.{ltb-true, ltb-false}
use Rattle.std.proofs.lemmas.Grind.{common_steps}
use Rattle.std.proofs.lemmas.List.{drop_more, drop_all, reverse-append, take_all, take_at}
use Rattle.std.proofs.lemmas.List.FromFn.{get_or-range_with_len, length-range_with_len}
use Rattle.std.proofs.lemmas.Option.{none-some, slice_get_cases, slice_get_past, slice_get-get_or, slice_get_within, get_or_from_slice_get}
use Rattle.strm_data.specs.declared.refusal.Refusal.{Refusal}
use Rattle.strm_data.specs.declared.refusal.Refusal.TheVariants.{NoSuchQueue}
use Rattle.strm_data.proofs.Lists.{range_with_len_more}
use Rattle.strm_mblk.specs.Given.{answer_of}
use Rattle.strm_queue.specs.declared.band_info.BandInfo.{BandInfo}
use Rattle.strm_queue.specs.declared.queue_info.QueueInfo.{QueueInfo}
use Rattle.strm_queue.specs.Flow.{every_band}
use Rattle.strm_queue.specs.Limits.{bands}
use Rattle.strm_queue.specs.QueueCalls.{band_info, band_info_of, has_queue, info_of, queue_info}
use Rattle.strm_queue.specs.QueuedBlocks.{QueuedBlocks}
use Rattle.strm_script.specs.Piece.{Begins}
use Rattle.strm_script.specs.Text.{band_lines, band_text, bands_text, list_text, queue_lines, queue_text}

-- the text so far begins with the text that there was, and with the rest it is the whole
abbrev pub IsPartly : List ℕ → List ℕ → List ℕ → List ℕ → Type 0
IsPartly start so_far rest all = Begins start so_far × (so_far ++ rest ≡ start ++ all)

-- what the text so far begins with, a longer text begins with too
begins_still : (start so_far more : List ℕ) → Begins start so_far → Begins so_far more → Begins start more
begins_still start so_far more front grown = grind (arith, common_steps)

-- so it is when the next part of the rest is written
written : (start so_far more all here rest behind : List ℕ) → behind ≡ here ++ rest → more ≡ so_far ++ here → IsPartly start so_far behind all → IsPartly start more rest all
written start so_far more all here rest behind parts grown before = (
  begins_still start so_far more before.0 (ap (take (length so_far)) grown ∙ take_at so_far here (length so_far) refl),
  ap (λ bs. bs ++ rest) grown ∙ append_assoc so_far here rest ∙ ap (λ bs. so_far ++ bs) (sym parts) ∙ before.1,
)

-- so it is when the next item's line is written
pub lines-next : {X : Type 0} (line : X → List ℕ) (start so_far more all : List ℕ) (items : List X) (i : ℕ) (item : X) → slice_get items i ≡ Some item → more ≡ so_far ++ line item
    → IsPartly start so_far (flat_map line (drop i items)) all → IsPartly start more (flat_map line (drop (i + 1) items)) all
lines-next line start so_far more all items i item is grown before =
    let next : drop i items ≡ item ∷ drop (i + 1) items =
    cc (drop_more items i item (slice_get_within items i item is), get_or_from_slice_get items i item item is) in
    written start so_far more all (line item) (flat_map line (drop (i + 1) items)) (flat_map line (drop i items)) (ap (flat_map line) next) grown before

-- and behind the last item all is written
pub lines-end : {X : Type 0} (line : X → List ℕ) (start so_far all : List ℕ) (items : List X) (i : ℕ) → slice_get items i ≡ None → IsPartly start so_far (flat_map line (drop i items)) all → so_far ≡ start ++ all
lines-end line start so_far all items i none before =
    elim ((slice_get_cases items i).1) [
      | inl within ↦ absurd (none-some _ (sym none ∙ within.2))
      | inr past ↦ sym (append-nil so_far) ∙ ap (λ xs. so_far ++ flat_map line xs) (sym (drop_all i items past.0)) ∙ before.1
    ]

-- ---- queues and their bands

-- the numbers below n, by place
number_at : (n k : ℕ) → nat_lt k n ≡ true → slice_get (range_with_len 0 n) k ≡ Some k
number_at n k below =
    let within : k < n = ltb-true k n below in
    slice_get-get_or (range_with_len 0 n) k 0 (omega (arith, within, length-range_with_len 0 n)) ∙ ap Some (get_or-range_with_len 0 n k 0 within ∙ zero-add k)

number_past : (n k : ℕ) → nat_lt k n ≡ false → slice_get (range_with_len 0 n) k ≡ None
number_past n k above = slice_get_past (range_with_len 0 n) k (omega (arith, ltb-false k n above, length-range_with_len 0 n))

-- the report of a queue that exists
told : {X V : Type 0} (there : Bool) (x y : X) (v : V) (why : Refusal) → answer_of (if there then Ok (x, v) else Err why) ≡ Ok y → (there ≡ true) × (y ≡ x)
told true x y v why is = (refl, cc)
told false x y v why is = cc

-- and of one that does not
untold : {X V : Type 0} (there : Bool) (x : X) (v : V) (why seen : Refusal) → answer_of (if there then Ok (x, v) else Err why) ≡ Err seen → there ≡ false
untold true x v why seen is = cc
untold false x v why seen is = refl

pub told_band : (v : QueuedBlocks) (q band : ℕ) (info : BandInfo) → answer_of (band_info q band v) ≡ Ok info → band_text band info ≡ band_lines v q band
told_band v q band info is = ap (band_text band) (told (has_queue v q) (band_info_of v q band) info v NoSuchQueue is).1

-- so it is when the next queue's lines are written
pub queues-next : (v : QueuedBlocks) (start so_far more all : List ℕ) (q : ℕ) (info : QueueInfo) → answer_of (queue_info q v) ≡ Ok info → more ≡ so_far ++ (queue_text q info ++ bands_text v q)
    → IsPartly start so_far (flat_map (queue_lines v) (drop q (range_with_len 0 (length v.queues.specs)))) all
    → IsPartly start more (flat_map (queue_lines v) (drop (q + 1) (range_with_len 0 (length v.queues.specs)))) all
queues-next v start so_far more all q info is grown before =
    let asked : (has_queue v q ≡ true) × (info ≡ info_of v q) = told (has_queue v q) (info_of v q) info v NoSuchQueue is in
    lines-next (queue_lines v) start so_far more all (range_with_len 0 (length v.queues.specs)) q q (number_at (length v.queues.specs) q asked.0)
    (grown ∙ ap (λ i. so_far ++ (queue_text q i ++ bands_text v q)) asked.1) before

-- and behind the last queue all is written
pub queues-end : (v : QueuedBlocks) (start so_far all : List ℕ) (q : ℕ) (why : Refusal) → answer_of (queue_info q v) ≡ Err why
    → IsPartly start so_far (flat_map (queue_lines v) (drop q (range_with_len 0 (length v.queues.specs)))) all → so_far ≡ start ++ all
queues-end v start so_far all q why is before =
    lines-end (queue_lines v) start so_far all (range_with_len 0 (length v.queues.specs)) q
    (number_past (length v.queues.specs) q (untold (has_queue v q) (info_of v q) v NoSuchQueue why is)) before

-- the numbers below n, downwards
unfoldable pub downwards : ℕ → List ℕ
downwards n = reverse (range_with_len 0 n)

downwards_more : (n : ℕ) → downwards (n + 1) ≡ n ∷ downwards n
unfolding downwards
downwards_more n = ap reverse (range_with_len_more 0 n n (zero-add n)) ∙ reverse-append (range_with_len 0 n) (n ∷ [])

-- at first all bands are left
pub bands-start : (line : ℕ → List ℕ) (start : List ℕ) → IsPartly start start (flat_map line (downwards bands)) (flat_map line (reverse every_band))
unfolding downwards every_band
bands-start line start = (take_all (length start) start (omega arith), refl)

-- so it is when the next band's line is written
pub bands-next : (line : ℕ → List ℕ) (start so_far more all : List ℕ) (band : ℕ) → 0 < band → more ≡ so_far ++ line band
    → IsPartly start so_far (flat_map line (downwards (band + 1))) all → IsPartly start more (flat_map line (downwards (band - 1 + 1))) all
bands-next line start so_far more all band above grown before =
    let same : band - 1 + 1 ≡ band = omega arith in
    rw same (written start so_far more all (line band) (flat_map line (downwards band)) (flat_map line (downwards (band + 1))) (ap (flat_map line) (downwards_more band)) grown before)

-- and behind band 0 all is written
pub bands-end : (line : ℕ → List ℕ) (start so_far more all : List ℕ) (band : ℕ) → band ≤ 0 → more ≡ so_far ++ line band
    → IsPartly start so_far (flat_map line (downwards (band + 1))) all → more ≡ start ++ all
unfolding downwards
bands-end line start so_far more all zero least grown before = grown ∙ ap (λ bs. so_far ++ bs) (sym (append-nil (line 0))) ∙ before.1
bands-end line start so_far more all (suc n) least grown before = absurd (omega arith)

-- ---- lines of items

-- behind the last one of items of which there are some the line ends
pub list-end : {X : Type 0} (name : List ℕ) (item : X → List ℕ) (start so_far : List ℕ) (items : List X) (place : ℕ) → is_some (slice_get items 0) ≡ true → slice_get items place ≡ None
    → IsPartly (start ++ name) so_far (flat_map item (drop place items)) (flat_map item items) → so_far ++ codes "\n" ≡ start ++ list_text name item items
list-end name item start so_far [] place some none before = cc
list-end name item start so_far (x ∷ xs) place some none before =
    let listed : List ℕ = flat_map item (x ∷ xs) in
    cc (lines-end item (start ++ name) so_far listed (x ∷ xs) place none before, append_assoc (start ++ name) listed (codes "\n"), append_assoc start name (listed ++ codes "\n"))
