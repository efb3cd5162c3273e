-- Why a worker's call may be refused.
use Rattle.std.proofs.Common.{◌≡◌, ℕ, ◌+◌, ◌<◌, ◌≤◌, Bool, true, false, Option, Some, None, Err, inl, inr, refl, subst, sym, ap, ◌∙◌, true≢false, arith}
use Rattle.std.specs.Prelude.{IfSome, ◌==◌, ◌⊎◌, if◌then◌else◌, length}
use Rattle.std.specs.Option.{option_map_or}
use Rattle.std.proofs.lemmas.Bool.{eqb-true}
use Rattle.std.proofs.lemmas.Option.{none-some}
use Rattle.strm_data.specs.declared.refusal.Refusal.{Refusal}
use Rattle.strm_data.specs.declared.refusal.Refusal.TheVariants.{TraceFull, Worn}
use Rattle.strm_pool.specs.declared.call.Call.{Call}
use Rattle.strm_shared.specs.Books.{BookValue, IsAfter, IsEnd, IsLawfulBook, end_of, pair_in}
use Rattle.strm_shared.specs.Desks.{DeskValue, with_pair_seen, stamp_seen}
use Rattle.strm_shared.specs.Limits.{most_stamp}
use Rattle.strm_shared.specs.Pairs.{Pair}
use Rattle.strm_shared.specs.Traces.{entries_kept, is_full}
use Rattle.strm_shared.specs.declared.name.Name.{Ghosts}
use Rattle.strm_shared.proofs.seats.Histories.{last_pair-push}

some_same : (x y : Refusal) → Some x ≡ Some y → x ≡ y
some_same x y same = cc (same)

-- no call is served any more: the stamp is the last, or the trace is full
ended : (worn full : Bool) (why : Refusal) → (if worn then Some Worn else (if full then Some TraceFull else None)) ≡ Some why → ((worn ≡ true) × (Worn ≡ why)) ⊎ ((full ≡ true) × (TraceFull ≡ why))
ended true full why is = inl (refl, some_same Worn why is)
ended false true why is = inr (refl, some_same TraceFull why is)
ended false false why is = absurd (none-some why is)

-- ---- the stamp that shows it

module _ {N : Type 0} (n : Ghosts N) (most : ℕ) (kept : n.kept ≡ Some most) (b : BookValue) (lawful : IsLawfulBook n b) where
  -- the stamp has counted no more calls than entries may be kept
  within : b.stamp ≤ n.first + most
  within =
      let few : length b.entries ≤ most = subst (λ o. IfSome o (λ k. length b.entries ≤ k)) kept lawful.trace.few in
      omega (arith, few, lawful.told.stamped)

  -- and as many where the trace is full
  full_long : is_full b.trace ≡ true → b.stamp ≡ n.first + most
  full_long full =
      let same : b.trace.entries ≡ b.entries = lawful.trace.entries ∙ ap (λ o. entries_kept o b.entries) kept in
      let long = eqb-true (length b.trace.entries) most (subst (λ o. option_map_or (λ k. length b.trace.entries == k) o false ≡ true) (lawful.trace.most ∙ kept) full) in
      omega (arith, long, ap length same, lawful.told.stamped)

-- so the book's stamp shows why
full_end : {N : Type 0} (n : Ghosts N) (b : BookValue) → IsLawfulBook n b → is_full b.trace ≡ true → (kept : Option ℕ) → n.kept ≡ kept → IsEnd n TraceFull b.stamp
full_end n b lawful full None none =
    absurd (true≢false (sym (subst (λ o. option_map_or (λ k. length b.trace.entries == k) o false ≡ true) (lawful.trace.most ∙ none) full)))
full_end n b lawful full (Some most) kept = (most, kept, full_long n most kept b lawful full)

end_at : {N : Type 0} (n : Ghosts N) (b : BookValue) → IsLawfulBook n b → (why : Refusal) → end_of b ≡ Some why → IsEnd n why b.stamp
end_at n b lawful why is = elim (ended (b.stamp == most_stamp) (is_full b.trace) why is) [
  | inl worn ↦ subst (λ (w : Refusal). IsEnd n w b.stamp) worn.1 (eqb-true b.stamp most_stamp worn.0)
  | inr full ↦ subst (λ (w : Refusal). IsEnd n w b.stamp) full.1 (full_end n b lawful full.0 n.kept refl)
]

-- and the desk has seen it
pub end_seen : {N : Type 0} (n : Ghosts N) (d : DeskValue) (line : ℕ) (call : Call) (e : DeskValue) (why : Refusal) → IsAfter n d line call e (Err why) → IsEnd n why (stamp_seen e)
end_seen n d line call e why after =
    subst (IsEnd n why)
    (sym (ap stamp_seen after.4.2 ∙ ap (λ (p : Pair). p.0) (last_pair-push d.pairs (pair_in after.0))))
    (end_at n after.0 after.2.lawful why after.4.0)

-- so of a desk that a refused batch shows the pair of such a book
pub end_shown : {N : Type 0} (n : Ghosts N) (b : BookValue) (d e : DeskValue) (why : Refusal) → IsLawfulBook n b → end_of b ≡ Some why → e ≡ with_pair_seen (pair_in b) d → IsEnd n why (stamp_seen e)
end_shown n b d e why lawful is seen =
    subst (IsEnd n why) (sym (ap stamp_seen seen ∙ ap (λ (p : Pair). p.0) (last_pair-push d.pairs (pair_in b)))) (end_at n b lawful why is)

-- where an end by the trace comes before the last stamp, whoever is refused has seen the stamp of a full trace
pub full_shown : {N : Type 0} (n : Ghosts N) (most : ℕ) → n.kept ≡ Some most → n.first + most < most_stamp
    → (d : DeskValue) (line : ℕ) (call : Call) (e : DeskValue) (why : Refusal) → IsAfter n d line call e (Err why) → (p : Pair) × (e ≡ with_pair_seen p d) × (p.0 ≡ n.first + most)
full_shown n most kept few d line call e why after =
    let b = after.0 in
    let lawful = after.2.lawful in
    let stamp : b.stamp ≡ n.first + most =
    elim (ended (b.stamp == most_stamp) (is_full b.trace) why after.4.0) [
      | inl worn ↦ absurd (omega (arith, few, within n most kept b lawful, eqb-true b.stamp most_stamp worn.0))
      | inr full ↦ full_long n most kept b lawful full.0
    ] in
    (pair_in b, after.4.2, stamp)
