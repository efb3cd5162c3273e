-- Messages that are held, by their tokens.
use Rattle.std.proofs.Common.{◌≡◌, ℕ, ◌<◌, ◌||◌, true, false, List, [], ◌∷◌, ◌++◌, length, Option, Some, None, Result, Ok, Err, sym, ap, ◌∙◌, subst, inl, inr, arith}
use Rattle.std.specs.Prelude.{is_some, IfOk, IfSome, ok_or, slice_get}
use Rattle.std.proofs.lemmas.Bool.{cases_Bool, cases_eq, cases_lt, false≢true, ne_eqb, or_from, or_left, or_right}
use Rattle.std.proofs.lemmas.List.{get_or_past}
use Rattle.strm_data.specs.declared.refusal.Refusal.{Refusal}
use Rattle.strm_data.specs.declared.refusal.Refusal.TheVariants.{NoSuchBlock}
use Rattle.strm_links.specs.Rows.{IsApart}
use Rattle.strm_links.specs.Rows as rows
use Rattle.strm_links.proofs.lists.OneList.{has-append}
use Rattle.strm_mblk.specs.declared.block_info.BlockInfo.{BlockInfo}
use Rattle.strm_mblk.specs.declared.rejected.Rejected.{Rejected}
use Rattle.strm_mblk.specs.declared.token.TokenValue.{TokenValue}
use Rattle.strm_mblk.specs.Arena.{Arena, has, held_at, IsParted, message_at}
use Rattle.strm_mblk.specs.Block.{Message, head_of, size_of}
use Rattle.strm_mblk.specs.BlockCalls.{block, info_of}
use Rattle.strm_mblk.specs.Frame.{LeavesOthers}
use Rattle.strm_mblk.specs.Given.{answer_map, answer_of}
use Rattle.strm_mblk.specs.Messages.{blocks_of}
use Rattle.strm_mblk.proofs.arena.Counts.{had_message}
use Rattle.strm_queue.specs.declared.queued_info.QueuedInfo.{QueuedInfo}
use Rattle.strm_queue.specs.QueueLooks.{info_of_message}
use Rattle.strm_pool.proofs.Tokens.{Each, Moves, heads_of}
use Rattle.strm_named.specs.Stamps.{HaveStamps, token_answered, tokens_answered, tokens_in, tokens_parted}

-- ---- tokens and messages

-- one that is had is held
pub stands_had : (a : Arena) (t : TokenValue) → has a t ≡ true → is_some (held_at a t.head) ≡ true
stands_had a t is = ap is_some (had_message a t is).1.held

-- what is held begins with a block
pub within_some : (a : Arena) (h : ℕ) → is_some (held_at a h) ≡ true → h < length a.held
within_some a h is =
    elim (cases_lt h (length a.held)) [
      | inl within ↦ within
      | inr past ↦ absurd (false≢true (sym (ap is_some (get_or_past a.held h None past)) ∙ is))
    ]

-- each token that the arena has is of a held message
pub stands_each : (a : Arena) (ts : List TokenValue) (h : ℕ) → Each (λ t. has a t ≡ true) ts → rows.has h (heads_of ts) ≡ true → is_some (held_at a h) ≡ true
stands_each a [] h each is = absurd (false≢true is)
stands_each a (t ∷ ts) h each is =
    elim (cases_eq t.head h) [
      | inl same ↦ ap (λ k. is_some (held_at a k)) (sym same) ∙ stands_had a t each.0
      | inr other ↦ stands_each a ts h each.1 (ap (λ b. b || rows.has h (heads_of ts)) (sym (ne_eqb t.head h other)) ∙ is)
    ]

-- ---- stamps of messages that a call gives

-- There are n stamps: one for each message block before the call.
module _ {hs : List ℕ} {a b : Arena} {n : ℕ} (fits : n ≡ length a.held) (others : LeavesOthers hs a b) where
  pub has_stamp : (t : TokenValue) → has b t ≡ true → t.head < n
  has_stamp t had = omega (arith, fits, others.size, within_some b t.head (stands_had b t had))

  pub have_rest : (rest : Option TokenValue) → IfSome rest (λ t. has b t ≡ true) → HaveStamps (tokens_in rest) n
  have_rest None had = tt
  have_rest (Some t) had = (has_stamp t had, tt)

  pub have_one : (given : Result TokenValue Refusal) → IfOk given (λ t. has b t ≡ true) → HaveStamps (token_answered given) n
  have_one (Ok t) had = (has_stamp t had, tt)
  have_one (Err why) had = tt

  pub have_any : (given : Result (Option TokenValue) Refusal) → IfOk given (λ any. IfSome any (λ t. has b t ≡ true)) → HaveStamps (tokens_answered given) n
  have_any (Ok any) had = have_rest any had
  have_any (Err why) had = tt

  pub have_parts : (parted : Result (TokenValue × Option TokenValue) Rejected) → IfOk parted (λ ts. has b ts.0 ≡ true) → IfOk parted (λ ts. IfSome ts.1 (λ t. has b t ≡ true))
      → HaveStamps (tokens_parted parted) n
  have_parts (Ok ts) had rest_had = (has_stamp ts.0 had, have_rest ts.1 rest_had)
  have_parts (Err rejected) had rest_had = tt

-- ---- what is held after a call

-- A call spends the names of the messages held at some heads, and gives messages held at others.
pub record Turns (spent given : List ℕ) (a b : Arena) : Type 0 where
  pub id : b.id ≡ a.id
  pub size : length b.held ≡ length a.held
  pub apart : IsApart given
  pub now : (h : ℕ) → rows.has h given ≡ true → is_some (held_at b h) ≡ true
  pub gone : (h : ℕ) → rows.has h given ≡ false → rows.has h spent ≡ true → is_some (held_at b h) ≡ false
  pub still : (h : ℕ) → rows.has h given ≡ false → rows.has h spent ≡ false → is_some (held_at b h) ≡ is_some (held_at a h)

-- the last of those that are apart are apart
apart_last : (hs ks : List ℕ) → IsApart (hs ++ ks) → IsApart ks
apart_last [] ks apart = apart
apart_last (h ∷ hs) ks apart = apart_last hs ks apart.1

-- The heads of tokens that moved are those that stay and those that are spent before, and those that stay and those that are given
-- afterwards.
pub turns : {a b : Arena} (kept spent given : List ℕ) {before after : List TokenValue} → Moves a b before after → heads_of before ≡ kept ++ spent → heads_of after ≡ kept ++ given
    → ((h : ℕ) → rows.has h spent ≡ true → rows.has h kept ≡ false) → Turns spent given a b
turns {a} {b} kept spent given {before} {after} moves were are other = record {
  id = moves.id;
  size = moves.size;
  apart = apart_last kept given (subst IsApart are moves.apart);
  now = λ h is. stands_each b after h moves.has_now (in_after h ∙ or_right (rows.has h kept) (rows.has h given) is);
  gone = λ h not_given is.
      ap is_some (moves.gone h (in_before h ∙ or_right (rows.has h kept) (rows.has h spent) is)
      (in_after h ∙ or_from (rows.has h kept) (rows.has h given) (other h is) not_given));
  still = λ h not_given not_spent.
      elim (cases_Bool (rows.has h kept)) [
        | inl is ↦
            stands_each b after h moves.has_now (in_after h ∙ or_left (rows.has h kept) (rows.has h given) is)
            ∙ sym (stands_each a before h moves.had (in_before h ∙ or_left (rows.has h kept) (rows.has h spent) is))
        | inr not ↦
            ap is_some (moves.others h (in_before h ∙ or_from (rows.has h kept) (rows.has h spent) not not_spent) (in_after h ∙ or_from (rows.has h kept) (rows.has h given) not not_given))
      ];
}
  where
    in_before : (h : ℕ) → rows.has h (heads_of before) ≡ (rows.has h kept || rows.has h spent)
    in_before h = ap (rows.has h) were ∙ has-append h kept spent

    in_after : (h : ℕ) → rows.has h (heads_of after) ≡ (rows.has h kept || rows.has h given)
    in_after h = ap (rows.has h) are ∙ has-append h kept given

-- ---- what a held message is like, by its token

module _ (a : Arena) (t : TokenValue) (had : has a t ≡ true) (parted : IsParted a) where
  -- its first block, and what is told of that and of the whole message
  pub record IsTold : Type 0 where
    pub first : BlockInfo
    pub found : answer_of (block t.head 0 a) ≡ Ok first
    pub told : info_of_message a.store (message_at a t.head) ≡ Ok (let q : QueuedInfo = record { head = t.head; kind = first.kind; band = first.band; size = size_of (message_at a t.head); blocks = t.blocks } in q)

  each : (m : Message) → held_at a t.head ≡ Some m → length m ≡ t.blocks → (0 < length m) × (head_of m ≡ t.head) → IsTold
  each [] held blocks law = absurd (omega (arith, law.0))
  each (b ∷ bs) held blocks law =
      let at : message_at a t.head ≡ b ∷ bs = ap blocks_of held in
      record {
        first = info_of a b;
        found = ap (λ m. answer_of (answer_map (λ c. (info_of a c, a)) (ok_or (slice_get m 0) NoSuchBlock))) at;
        told =
            ap (info_of_message a.store) at
            ∙ (λ i. Ok (let q : QueuedInfo = record { head = law.1 i; kind = (info_of a b).kind; band = b.band; size = size_of (sym at i); blocks = blocks i } in q));
      }

  pub is_told : IsTold
  is_told =
      let m = had_message a t had in
      each m.0 m.1.held m.1.blocks (subst (λ o. IfSome o (λ x. (0 < length x) × (head_of x ≡ t.head))) m.1.held (parted.chains.heads t.head))
