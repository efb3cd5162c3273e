-- Bytes of a reply, a replay with one call more, and wishes.
use Rattle.std.proofs.Common.{◌≡◌, ◌-◌, ◌++◌, ℕ, List, drop, length, min, take, sym, ap, ◌∙◌, arith, length-append, [], ◌∷◌, refl, suc, ◌<◌}
use Rattle.std.proofs.lemmas.List.{length-drop, length-take-le, take_at, take_min}
use Rattle.std.specs.List.{refill}
use Rattle.std.specs.Prelude.{slice_set}
use Rattle.std.proofs.lemmas.List.Edits.{length-remove}
use Rattle.std.proofs.lemmas.List.Elements.{All-append, All-drop, All-take}
use Rattle.std.proofs.lemmas.List.Quantifiers.{all_pairs_remove}
use Rattle.strm_pool.specs.PoolValue.{PoolValue, Wish, WishState}
use Rattle.strm_pool.specs.Registers.{RegisterTable}
use Rattle.strm_pool.specs.Step.{DeskCall, Replay, replay_from, step, table_at, with_reply}
use Rattle.strm_pool.specs.Wishes.{AreLawful, Rises, IsGiven, wishes_without}

-- ---- the bytes that a reply carries

-- what was read into a full vector, which then keeps as many bytes as were read
pub read_octets : (bytes old new : List ℕ) (at size count : ℕ) → length bytes ≡ size → count ≡ min (length old) (size - at) → new ≡ take count (drop at bytes) ++ drop count old
    → take count (refill (length old) old new) ≡ take (length old) (drop at bytes)
read_octets bytes old new at size count sized counted is =
    let rest = drop at bytes in
    let long : length rest ≡ size - at = length-drop at bytes ∙ ap (λ n. n - at) sized in
    let taken : length (take count rest) ≡ count = length-take-le count rest (omega (arith, counted, long)) in
    let all : length new ≡ length old = omega (arith, ap length is, length-append (take count rest) (drop count old), taken, length-drop count old, counted) in
    ap (take count) (take_at new (drop (length new) old) (length old) all)
    ∙ ap (take count) is
    ∙ take_at (take count rest) (drop count old) count taken
    ∙ ap (λ n. take n rest) (counted ∙ ap (min (length old)) (sym long))
    ∙ take_min (length old) rest

-- ---- a replay with one call more at its end

-- a replay, and one call of a desk behind it
abbrev pub replay_more : Replay → DeskCall → Replay
replay_more r last =
    let o = step r.pool (table_at r.tables last.desk) last.call in
    record { pool = o.pool; tables = slice_set r.tables last.desk o.table; replies = r.replies ++ o.reply ∷ [] }

-- a last call is a step from what the calls before it leave
pub replay_push : (v : PoolValue) (ts : List RegisterTable) (calls : List DeskCall) (last : DeskCall)
    → replay_from v ts (calls ++ last ∷ []) ≡ replay_more (replay_from v ts calls) last
replay_push v ts [] last = refl
replay_push v ts (first ∷ calls) last =
    let o = step v (table_at ts first.desk) first.call in
    ap (with_reply o.reply) (replay_push o.pool (slice_set ts first.desk o.table) calls last)

-- ---- taking out a wish keeps the law of wishes

pub without_lawful : (s : WishState) (k : ℕ) → k < length s.pending → AreLawful s → AreLawful (wishes_without k s)
without_lawful s k there lawful =
    let IsGivenWish : Wish → Type 0 = λ w. IsGiven s.next w.0 in
    record {
      few = omega (arith, length-remove s.pending k there, lawful.few);
      rising = all_pairs_remove Rises s.pending k there lawful.rising;
      given = All-append IsGivenWish _ _ (All-take IsGivenWish k s.pending lawful.given) (All-drop IsGivenWish (suc k) s.pending lawful.given);
    }
