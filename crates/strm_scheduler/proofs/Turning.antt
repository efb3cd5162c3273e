-- The run list turns: its first queues go to its end, or its last one comes first. What that leaves.
use Rattle.std.proofs.Common.{◌≡◌, ℕ, ◌-◌, ◌<◌, ◌≤◌, inl, inr, Bool, true, false, List, [], ◌∷◌, ◌++◌, drop, length, refl, sym, ap, ◌∙◌, arith, append-nil, append_assoc, if◌then◌else◌, ◌||◌, ◌==◌, take, take-append-drop, nat_eq}
use Rattle.std.proofs.lemmas.Bool.{or_cases, or_left, or_right}
use Rattle.strm_links.specs.Rows as rows
use Rattle.strm_pool.specs.PoolValue.{PoolValue, queued_blocks_of}
use Rattle.strm_scheduler.specs.Laws.{AreKeptAwake}
use Rattle.strm_scheduler.specs.Serving.{IsServing, powers}
use Rattle.strm_scheduler.specs.Steps.{with_run}
use Rattle.strm_scheduler.proofs.Falling.{powers-append}
use Rattle.strm_scheduler.proofs.Keeping.{awake_grown}
use Rattle.std.proofs.lemmas.List.Folds.{list_any-append}
use Rattle.strm_scheduler.specs.Running.{last_first, with_woken_first}
use Rattle.std.proofs.lemmas.List.{length-take-le}

-- ---- the first queues of the run list go to its end

-- none does
pub turn_none : (v : PoolValue) (first behind : List ℕ) → v.queues.run ≡ first ++ behind → length first ≡ 0 → v ≡ with_run (behind ++ first) v
turn_none v [] behind is none = ap (λ r. with_run r v) (is ∙ sym (append-nil behind))
turn_none v (x ∷ first) behind is none = absurd (omega (arith, none))

-- one does, and then others
module _ (v x w : PoolValue) (count : ℕ) (some : 0 < count)
    (step : (q : ℕ) (behind : List ℕ) → v.queues.run ≡ q ∷ behind → x ≡ with_run (behind ++ q ∷ []) v)
    (further : (first behind : List ℕ) → x.queues.run ≡ first ++ behind → length first ≡ count - 1 → w ≡ with_run (behind ++ first) x) where
  pub turn_more : (first behind : List ℕ) → v.queues.run ≡ first ++ behind → length first ≡ count → w ≡ with_run (behind ++ first) v
  turn_more [] behind is long = absurd (omega (arith, some, long))
  turn_more (q ∷ first) behind is long =
      let stepped : x ≡ with_run ((first ++ behind) ++ q ∷ []) v = step q (first ++ behind) is in
      let run : x.queues.run ≡ first ++ (behind ++ q ∷ []) = ap (λ (p : PoolValue). p.queues.run) stepped ∙ append_assoc first behind (q ∷ []) in
      further first (behind ++ q ∷ []) run (omega (arith, long))
      ∙ ap (with_run ((behind ++ q ∷ []) ++ first)) stepped
      ∙ ap (λ r. with_run r v) (append_assoc behind (q ∷ []) first)

-- the last one comes first
module _ (v w : PoolValue) (enabled now : ℕ) (here : now ≡ length v.queues.run)
    (turned : (first behind : List ℕ) → v.queues.run ≡ first ++ behind → length first ≡ now - 1 → w ≡ with_run (behind ++ first) v) where
  pub turned_first : nat_eq now enabled ≡ true → w ≡ with_woken_first enabled v
  turned_first same =
      let run = v.queues.run in
      let n = length run - 1 in
      let less : length run - 1 ≤ length run = omega (arith) in
      turned (take n run) (drop n run) (sym (take-append-drop n run)) (length-take-le n run less ∙ ap (λ k. k - 1) (sym here))
      ∙ ap (λ b. if b then with_run (last_first run) v else v) (sym (ap (λ k. nat_eq k enabled) (sym here) ∙ same))

-- ---- the last queue of the run list comes first

last_first_has : (r : ℕ) (run : List ℕ) → rows.has r run ≡ true → rows.has r (last_first run) ≡ true
last_first_has r run on =
    let n = length run - 1 in
    let split : rows.has r (take n run) || rows.has r (drop n run) ≡ true =
    sym (list_any-append (λ x. x == r) (take n run) (drop n run)) ∙ ap (rows.has r) (take-append-drop n run) ∙ on in
    list_any-append (λ x. x == r) (drop n run) (take n run)
    ∙ elim (or_cases (rows.has r (take n run)) (rows.has r (drop n run)) split) [
      | inl front ↦ or_right (rows.has r (drop n run)) (rows.has r (take n run)) front
      | inr back ↦ or_left (rows.has r (drop n run)) (rows.has r (take n run)) back
    ]

-- queue q is being served still
serving_first : (q n : ℕ) (v : PoolValue) → IsServing q n v → IsServing q n (with_run (last_first v.queues.run) v)
serving_first q n v s = record {
  sides = s.sides;
  next = s.next;
  off = s.off;
  others = λ p t other next.
      awake_grown (queued_blocks_of v) (record v.queues { run = last_first v.queues.run }) (record { alone = refl; more = λ r on. last_first_has r v.queues.run on }) p t (s.others p t other next);
}

pub serving_woken : (q n enabled : ℕ) (v : PoolValue) → IsServing q n v → IsServing q n (with_woken_first enabled v)
serving_woken q n enabled v s = by_number (nat_eq (length v.queues.run) enabled)
  where
    by_number : (b : Bool) → IsServing q n (if b then with_run (last_first v.queues.run) v else v)
    by_number true = serving_first q n v s
    by_number false = s

kept_first : (v : PoolValue) → AreKeptAwake v → AreKeptAwake (with_run (last_first v.queues.run) v)
kept_first v kept = record {
  sides = kept.sides;
  awake = λ p t next. awake_grown (queued_blocks_of v) (record v.queues { run = last_first v.queues.run }) (record { alone = refl; more = λ r on. last_first_has r v.queues.run on }) p t (kept.awake p t next);
}

pub kept_woken : (enabled : ℕ) (v : PoolValue) → AreKeptAwake v → AreKeptAwake (with_woken_first enabled v)
kept_woken enabled v kept = by_number (nat_eq (length v.queues.run) enabled)
  where
    by_number : (b : Bool) → AreKeptAwake (if b then with_run (last_first v.queues.run) v else v)
    by_number true = kept_first v kept
    by_number false = kept

pub woken_powers : (enabled : ℕ) (v : PoolValue) → powers (with_woken_first enabled v).queues.run ≡ powers v.queues.run
woken_powers enabled v = by_number (nat_eq (length v.queues.run) enabled)
  where
    by_number : (b : Bool) → powers (if b then with_run (last_first v.queues.run) v else v).queues.run ≡ powers v.queues.run
    by_number true =
        let run = v.queues.run in
        let n = length run - 1 in
        let turned = powers-append (drop n run) (take n run) in
        let before = powers-append (take n run) (drop n run) in
        let whole = ap powers (take-append-drop n run) in
        omega (arith, turned, before, whole)
    by_number false = refl

pub woken_arena : (enabled : ℕ) (v : PoolValue) → (with_woken_first enabled v).arena ≡ v.arena
woken_arena enabled v = by_number (nat_eq (length v.queues.run) enabled)
  where
    by_number : (b : Bool) → (if b then with_run (last_first v.queues.run) v else v).arena ≡ v.arena
    by_number true = refl
    by_number false = refl
