-- Which numbers of desks are in the views of all seats.
use Rattle.std.proofs.Common.{◌≡◌, ◌≢◌, ℕ, zero, suc, ◌+◌, ◌<◌, ◌≤◌, List, [], ◌∷◌, ◌++◌, map, length, set, get_or, refl, sym, ap, ◌∙◌, inl, inr, arith, if◌then◌else◌}
use Rattle.std.specs.Prelude.{All, nat_lt, ◌==◌}
use Rattle.std.specs.List.{flat_map}
use Rattle.std.proofs.lemmas.Bool.{cases_Bool, cases_eq, cases_lt, cond-false, cond-true, le-ltb, lt-ltb}
use Rattle.std.proofs.lemmas.List.Concat.{flat_map-append}
use Rattle.std.proofs.lemmas.List.Elements.{All-cons, All-nil}
use mathlib.Core.Option.{some, some-injective, some-ne-none}
use lib.ListN.{get_elem?}
use Rattle.atomic_table.proofs.Lists.{set_else}
use Rattle.strm_links.specs.Counting.{times}
use Rattle.strm_links.proofs.lists.Counting.{times-append, times-cons, times_here, times_other}
use Rattle.strm_mblk.proofs.Lists.{count_adds, flat_map-set_adds}
use Rattle.strm_shared.specs.declared.views.Known.{Known}
use Rattle.strm_shared.specs.declared.views.View.{View}
use Rattle.strm_shared.specs.declared.views.View.TheVariants.{Spent}
use Rattle.strm_shared.specs.Pairs.{Pair}
use Rattle.strm_shared.specs.Seats.{numbers_in, with_pair}

-- how often a number is in all views together
abbrev pub standing : ℕ → List View → ℕ
standing n views = times n (flat_map numbers_in views)

within : {A : Type 0} (xs : List A) (i : ℕ) (x d : A) → get_elem? xs i ≡ some x → (i < length xs) × (get_or xs i d ≡ x)
within [] i x d at = absurd (some-ne-none x (sym at))
within (y ∷ ys) zero x d at = (omega arith, some-injective y x at)
within (y ∷ ys) (suc i) x d at = let rest = within ys i x d at in (omega (arith, rest.0), rest.1)

-- ---- views that change

module _ (n : ℕ) (views : List View) where
  -- a view becomes another
  pub standing-set : (i : ℕ) (v w : View) → get_elem? views i ≡ some v → standing n (set views i w) + times n (numbers_in v) ≡ standing n views + times n (numbers_in w)
  standing-set i v w at =
      let here = within views i v Spent at in
      omega (arith, flat_map-set_adds (count_adds (λ x. x == n)) numbers_in views i w Spent here.0, ap (λ u. times n (numbers_in u)) here.1)

  -- a view comes behind the others
  pub standing-push : (v : View) → standing n (views ++ v ∷ []) ≡ standing n views + times n (numbers_in v)
  standing-push v =
      ap (times n) (flat_map-append numbers_in views (v ∷ []))
      ∙ times-append n (flat_map numbers_in views) (numbers_in v ++ [])
      ∙ ap (λ k. standing n views + k) (times-append n (numbers_in v) [] ∙ omega arith)

  -- a number is in all views together at least as often as in one
  pub standing_one : (i : ℕ) (v : View) → get_elem? views i ≡ some v → times n (numbers_in v) ≤ standing n views
  standing_one i v at = omega (arith, standing-set i v Spent at)

-- and as in two
pub standing_two : (n : ℕ) (views : List View) (i j : ℕ) (v u : View) → j ≢ i → get_elem? views i ≡ some v → get_elem? views j ≡ some u
    → times n (numbers_in v) + times n (numbers_in u) ≤ standing n views
standing_two n views i j v u apart at_i at_j =
    let left = standing_one n (set views i Spent) j u (set_else views i j Spent apart ∙ at_j) in
    omega (arith, left, standing-set n views i v Spent at_i)

-- ---- numbers

-- one number more is below the next bound
pub below_more : (n m : ℕ) → (if nat_lt n m then 1 else 0) + times n (m ∷ []) ≡ (if nat_lt n (m + 1) then 1 else 0)
below_more n m =
    elim (cases_eq m n) [
      | inl same ↦
          let here = times_here n m [] same in
          let not_yet = cond-false {A = ℕ} (nat_lt n m) 1 0 (le-ltb n m (omega (arith, same))) in
          let now = cond-true {A = ℕ} (nat_lt n (m + 1)) 1 0 (lt-ltb n (m + 1) (omega (arith, same))) in
          omega (arith, here, not_yet, now)
      | inr other ↦
          let away = times_other n m [] other in
          elim (cases_lt n m) [
            | inl below ↦
                omega (arith, away, cond-true {A = ℕ} (nat_lt n m) 1 0 (lt-ltb n m below), cond-true {A = ℕ} (nat_lt n (m + 1)) 1 0 (lt-ltb n (m + 1) (omega (arith, below))))
            | inr beyond ↦
                omega (arith, away, cond-false {A = ℕ} (nat_lt n m) 1 0 (le-ltb n m beyond), cond-false {A = ℕ} (nat_lt n (m + 1)) 1 0 (le-ltb n (m + 1) (omega (arith, beyond, other))))
          ]
    ]

-- a number below the bound counts once
pub once_at_most : (n m : ℕ) → (if nat_lt n m then 1 else 0) ≤ 1
once_at_most n m =
    elim (cases_Bool (nat_lt n m)) [
      | inl is ↦ omega (arith, cond-true {A = ℕ} (nat_lt n m) 1 0 is)
      | inr not ↦ omega (arith, cond-false {A = ℕ} (nat_lt n m) 1 0 not)
    ]

-- none of these desks has this number, if their numbers do not include it
pub none_numbered : (n : ℕ) (ds : List Known) → times n (map (λ d. d.number) ds) ≡ 0 → All (λ d. d.number ≢ n) ds
none_numbered n [] none = All-nil (λ (d : Known). d.number ≢ n)
none_numbered n (d ∷ ds) none =
    let both = times-cons n d.number (map (λ x. x.number) ds) in
    All-cons (λ (x : Known). x.number ≢ n) d ds (λ same. omega (arith, none, times_here n d.number (map (λ x. x.number) ds) same))
    (none_numbered n ds (omega (arith, none, both)))

-- that they have seen a pair more changes no number
pub numbers-with_pair : (p : Pair) (ds : List Known) → map (λ d. d.number) (map (with_pair p) ds) ≡ map (λ d. d.number) ds
numbers-with_pair p [] = refl
numbers-with_pair p (d ∷ ds) = ap (λ ns. d.number ∷ ns) (numbers-with_pair p ds)
