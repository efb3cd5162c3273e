-- Draining registers frees what they hold, and nothing else.
use Rattle.std.proofs.Common.{◌≡◌, ℕ, zero, suc, ◌+◌, true, false, ◌&&◌, ◌||◌, ◌==◌, List, [], ◌∷◌, ◌++◌, length, map, Option, None, Some, replicate, refl, sym, ap, ◌∙◌, subst, inl, inr, arith, append-nil, append_assoc}
use Rattle.std.specs.Prelude.{count_by}
use Rattle.std.specs.List.{flat_map}
use Rattle.std.proofs.lemmas.Bool.{cases_Bool, cases_eq, and_from, eqb-true, eq-eqb, ne_eqb, false≢true}
use Rattle.std.proofs.lemmas.List.{map-append}
use Rattle.std.proofs.lemmas.List.Sums.{sum_by-cons}
use Rattle.strm_links.proofs.lists.Counting.{one_if}
use Rattle.strm_mblk.specs.Block.{Message}
use Rattle.strm_mblk.specs.declared.token.TokenValue.{TokenValue}
use Rattle.strm_mblk.specs.Arena.{has, held_at, is_of_length}
use Rattle.strm_mblk.specs.Freeing.{with_token_spent}
use Rattle.strm_mblk.proofs.Lists.{count_adds}
use Rattle.strm_mblk.proofs.arena.Frame.{leaves_spent, spent_gone}
use Rattle.strm_pool.specs.declared.call.Call.{Call}
use Rattle.strm_pool.specs.declared.reply.Reply.{Reply}
use Rattle.strm_pool.specs.Limits.{most_registers}
use Rattle.strm_pool.specs.PoolValue.{PoolValue, with_tokens_spent}
use Rattle.strm_pool.specs.PoolValue as pools
use Rattle.strm_pool.specs.Registers.{AreAccounted, CarryId, Entries, entries_of, is_entry_of, times_listed}
use Rattle.strm_pool.specs.Step.{Applies}
use Rattle.strm_shared.specs.Desks.{DeskValue}
use Rattle.strm_run.specs.Holding.{AreHeldAlike, IsIdle}

-- ---- a token that is spent

-- an entry more
told_more : (h n : ℕ) (o : Option (ℕ × ℕ)) (es : Entries) (others : List Entries) → times_listed h n ((o ∷ es) ∷ others) ≡ one_if (is_entry_of h n o) + times_listed h n (es ∷ others)
told_more h n o es others = sum_by-cons (λ x. one_if (is_entry_of h n x)) o (flat_map (λ xs. xs) (es ∷ others))

module _ (v : PoolValue) (t : TokenValue) (es : Entries) (others : List Entries)
    (carried : t.pool ≡ v.arena.id) (accounted : AreAccounted v.arena ((Some (t.head, t.blocks) ∷ es) ∷ others)) where
  here : is_entry_of t.head t.blocks (Some (t.head, t.blocks)) ≡ true
  here = and_from _ _ (eq-eqb t.head t.head refl) (eq-eqb t.blocks t.blocks refl)

  -- its message is held
  is_held : is_of_length t.blocks (held_at v.arena t.head) ≡ true
  is_held =
      elim (cases_Bool (is_of_length t.blocks (held_at v.arena t.head))) [
        | inl is ↦ is
        | inr not ↦
            absurd (omega (arith, told_more t.head t.blocks (Some (t.head, t.blocks)) es others, accounted t.head t.blocks, ap one_if not, ap one_if here))
      ]

  has_it : has v.arena t ≡ true
  has_it = and_from _ _ (eq-eqb t.pool v.arena.id carried) is_held

  -- in as many blocks as the token has
  alike : (n : ℕ) → is_of_length n (held_at v.arena t.head) ≡ is_entry_of t.head n (Some (t.head, t.blocks))
  alike n = at (held_at v.arena t.head) is_held
    where
      at : (o : Option Message) → is_of_length t.blocks o ≡ true → is_of_length n o ≡ is_entry_of t.head n (Some (t.head, t.blocks))
      at None is = absurd (false≢true is)
      at (Some m) is = ap (λ k. k == n) (eqb-true (length m) t.blocks is) ∙ sym (ap (λ b. b && t.blocks == n) (eq-eqb t.head t.head refl))

  -- then the others are accounted for
  spent_accounted : AreAccounted (with_token_spent v.arena t) (es ∷ others)
  spent_accounted h n =
      elim (cases_eq h t.head) [
        | inl same ↦
            let once : times_listed t.head n (es ∷ others) ≡ 0 =
            omega (arith, told_more t.head n (Some (t.head, t.blocks)) es others, accounted t.head n, ap one_if (alike n)) in
            cc (same, once, spent_gone v.arena t has_it)
        | inr other ↦
            let apart : is_entry_of h n (Some (t.head, t.blocks)) ≡ false = ap (λ b. b && t.blocks == n) (ne_eqb t.head h (λ same. other (sym same))) in
            let there : held_at (with_token_spent v.arena t) h ≡ held_at v.arena h = (leaves_spent v.arena t).others.held h (ap (λ b. b || false) (ne_eqb t.head h (λ same. other (sym same)))) in
            omega (arith, told_more h n (Some (t.head, t.blocks)) es others, accounted h n, ap one_if apart, ap (λ o. one_if (is_of_length n o)) there)
      ]

-- ---- registers that are drained

pub drained_alike : (v : PoolValue) (rs : List (Option TokenValue)) → CarryId v.arena.id rs → AreHeldAlike v (entries_of rs ∷ []) (with_tokens_spent v rs) []
drained_alike v [] carry = record { id = refl; accounted = λ others accounted. accounted }
drained_alike v (None ∷ rs) carry =
    let rest = drained_alike v rs (λ x. carry (suc x)) in
    record {
      id = rest.id;
      accounted = λ others accounted. rest.accounted others (λ h n. omega (arith, told_more h n None (entries_of rs) others, accounted h n));
    }
drained_alike v (Some t ∷ rs) carry =
    let w = pools.with_token_spent v t in
    let same : w.arena.id ≡ v.arena.id = (leaves_spent v.arena t).others.id in
    let rest = drained_alike w rs (subst (λ id. CarryId id rs) (sym same) (λ x. carry (suc x))) in
    record {
      id = rest.id ∙ same;
      accounted = λ others accounted. rest.accounted others (spent_accounted v t (entries_of rs) others (carry 0) accounted);
    }

-- ---- one after another

pub alike_same : (v : PoolValue) (es : List Entries) → AreHeldAlike v es v es
alike_same v es = record { id = refl; accounted = λ others accounted. accounted }

-- a call is served on the registers
pub alike_applied : (u v w : PoolValue) (es : Entries) (rs ss : List (Option TokenValue)) (call : Call) (reply : Reply) → Applies v rs call w ss reply
    → AreHeldAlike u (es ∷ []) v (entries_of rs ∷ []) → AreHeldAlike u (es ∷ []) w (entries_of ss ∷ [])
alike_applied u v w es rs ss call reply applies alike = record {
  id = applies.same ∙ alike.id;
  accounted = λ others accounted. applies.accounted (entries_of rs ∷ others) 0 (omega arith) refl (alike.accounted others accounted);
}

-- empty registers hold nothing
none_told : (h n m : ℕ) (others : List Entries) → times_listed h n (replicate m None ∷ others) ≡ times_listed h n others
none_told h n zero others = refl
none_told h n (suc m) others = omega (arith, told_more h n None (replicate m None) others, none_told h n m others)

-- the registers of a section: they begin empty, lines are served on them, later sections leave what they hold, and that is freed
pub section_alike : (u v w : PoolValue) (rs ss : List (Option TokenValue)) → rs ≡ replicate most_registers None → AreHeldAlike u (entries_of rs ∷ []) v (entries_of ss ∷ []) → CarryId v.arena.id ss
    → AreHeldAlike v [] w [] → AreHeldAlike u [] (with_tokens_spent w ss) []
section_alike u v w rs ss empty served carry later =
    let drains = drained_alike w ss (subst (λ id. CarryId id ss) (sym later.id) carry) in
    record {
      id = drains.id ∙ later.id ∙ served.id;
      accounted = λ others accounted.
          drains.accounted others (later.accounted (entries_of ss ∷ others) (served.accounted others
          (subst (λ (qs : List (Option TokenValue)). AreAccounted u.arena (entries_of qs ∷ others)) (sym empty) (λ h n. none_told h n most_registers others ∙ accounted h n))));
    }

-- ---- the registers of desks

told_first : (h n : ℕ) (es : Entries) (others : List Entries) → times_listed h n (es ∷ others) ≡ count_by (is_entry_of h n) es + times_listed h n others
told_first h n es others = (count_adds (is_entry_of h n)).both es (flat_map (λ xs. xs) others)

-- in which order registers are counted is the same
told_moved : (h n : ℕ) (es : Entries) (firsts others : List Entries) → times_listed h n (firsts ++ es ∷ others) ≡ times_listed h n (es ∷ (firsts ++ others))
told_moved h n es [] others = refl
told_moved h n es (fs ∷ firsts) others =
    omega (
      arith,
      told_first h n fs (firsts ++ es ∷ others),
      told_moved h n es firsts others,
      told_first h n es (firsts ++ others),
      told_first h n es (fs ∷ (firsts ++ others)),
      told_first h n fs (firsts ++ others),
    )

-- what desks' registers hold
abbrev pub entries_at : List DeskValue → List Entries
entries_at ds = map (λ d. entries_of d.regs) ds

-- the last desk is drained
pub last_drained : (u v : PoolValue) (ds ls : List DeskValue) (d : DeskValue) (all : List DeskValue) → all ≡ ls ++ d ∷ [] → CarryId v.arena.id d.regs
    → AreHeldAlike u (entries_at ds) v (entries_at all) → AreHeldAlike u (entries_at ds) (with_tokens_spent v d.regs) (entries_at ls)
last_drained u v ds ls d all is carry alike =
    let drains = drained_alike v d.regs carry in
    let split : (others : List Entries) → entries_at all ++ others ≡ entries_at ls ++ entries_of d.regs ∷ others =
    λ others. ap (λ xs. entries_at xs ++ others) is ∙ ap (λ xs. xs ++ others) (map-append (λ x. entries_of x.regs) ls (d ∷ [])) ∙ append_assoc (entries_at ls) (entries_of d.regs ∷ []) others in
    record {
      id = drains.id ∙ alike.id;
      accounted = λ others accounted.
          drains.accounted (entries_at ls ++ others)
          (λ h n. sym (told_moved h n (entries_of d.regs) (entries_at ls) others) ∙ subst (AreAccounted v.arena) (split others) (alike.accounted others accounted) h n);
    }

-- where desks' registers had all that was held, and nothing is left in them, nothing is held
pub idle_after : (u v : PoolValue) (ds : List DeskValue) → AreAccounted u.arena (entries_at ds) → AreHeldAlike u (entries_at ds) v [] → IsIdle v
idle_after u v ds accounted alike h = at (held_at v.arena h) refl
  where
    none : AreAccounted v.arena []
    none = alike.accounted [] (subst (AreAccounted u.arena) (sym (append-nil (entries_at ds))) accounted)

    at : (o : Option Message) → held_at v.arena h ≡ o → held_at v.arena h ≡ None
    at None is = is
    at (Some m) is =
        absurd (omega (arith, none h (length m), ap (λ o. one_if (is_of_length (length m) o)) is, ap one_if (eq-eqb (length m) (length m) refl)))
