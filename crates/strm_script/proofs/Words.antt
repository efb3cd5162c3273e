-- Texts cut into words, and words read from left to right.
use Rattle.std.proofs.Common.{◌≡◌, ℕ, ◌+◌, ◌-◌, ◌≤◌, Option, inl, inr, Bool, true, false, not, cond, List, [], ◌∷◌, length, take, drop, None, Some, refl, ap, ◌∙◌, arith, ◌≢◌, ◌==◌, true≢false, map, sym, bytes_eq, option_map, ◌<◌, Result, Ok, Err}
use Rattle.std.specs.List.{slice_split, onto_first, position, position_or_len, prefix_len}
use Rattle.std.proofs.lemmas.Bool.{cases_Bool, cond-false, cond-true, le-ltb, lt-ltb, ltb-true, ltb-false, eqb-false, ne_eqb}
use Rattle.std.proofs.lemmas.List.{take_rest}
use Rattle.std.proofs.lemmas.List.Splits.{slice_split_first}
use Rattle.std.proofs.lemmas.List.Sums.{position_or_len_is}
use Rattle.std.specs.Prelude.{nat_lt}
use Rattle.std.proofs.lemmas.Option.{cond_some}
use Rattle.std.proofs.lemmas.Slice.Eq.{bytes_eq-Decides}
use Rattle.std.specs.Result.{IsErrAnd}
use Rattle.std.proofs.lemmas.Result.{err_from_is_err_and}
use Rattle.memchr.specs.Find.{IsFirstByte}
use Rattle.strm_script.specs.Entry.{call_among, call_of, commands}
use Rattle.strm_script.specs.Word.{found, of_length}
use Rattle.strm_script.specs.declared.fault.Kind.{Kind}
use Rattle.strm_script.specs.declared.fault.Kind.TheVariants.{Shape}
use Rattle.strm_script.specs.Shape.{◌>>=◌, read_none}

-- ---- a text cut at its first separator

slice_split-uncut : {X : Type 0} (p : X → Bool) (xs : List X) → length xs ≤ position_or_len p xs → slice_split p xs ≡ xs ∷ []
slice_split-uncut p [] none = refl
slice_split-uncut p (x ∷ xs) none =
    (elim (p x) as (λ b. length (x ∷ xs) ≤ cond (not b) (1 + prefix_len (λ y. not (p y)) xs) 0 → cond b ([] ∷ slice_split p xs) (onto_first x (slice_split p xs)) ≡ (x ∷ xs) ∷ []) [
      | true ↦ λ few. absurd (omega arith)
      | false ↦ λ few. ap (onto_first x) (slice_split-uncut p xs (omega arith))
    ])
    none

cond_none : {X : Type 0} (b : Bool) (x : X) → cond b (Some x) None ≡ None → b ≡ false
cond_none true x e = cc
cond_none false x e = refl

-- where no element is a separator
pub slice_split-None : {X : Type 0} (p : X → Bool) (xs : List X) → position p xs ≡ None → slice_split p xs ≡ xs ∷ []
slice_split-None p xs none = slice_split-uncut p xs (ltb-false _ _ (cond_none _ _ none))

-- where the first separator stands at this index
pub slice_split-Some : {X : Type 0} (p : X → Bool) (xs : List X) (at : ℕ) (d : X) → position p xs ≡ Some at → slice_split p xs ≡ take at xs ∷ slice_split p (take (length xs - (at + 1)) (drop (at + 1) xs))
slice_split-Some p xs at d found =
    let place = cond_some _ _ _ found in
    let first = slice_split_first p xs d (ltb-true _ _ place.0) in
    let rest = take_rest xs (at + 1) in
    rw (rest, ← place.1) first

fails : {b : Bool} → ¬ b ≡ true → b ≡ false
fails {b} never = elim (cases_Bool b) [ inl passes ↦ absurd (never passes) | inr is ↦ is ]

-- the first place at which a byte passes, as a search tells it
pub position-first : (p : ℕ → Bool) (bytes : List ℕ) (place : Option ℕ) → IsFirstByte p bytes place → position p bytes ≡ place
position-first p bytes None nowhere =
    let past : position_or_len p bytes ≡ length bytes =
    position_or_len_is p bytes (length bytes) 0 (omega arith) (λ k below. fails (nowhere k (omega arith) below)) (λ inside. absurd (omega (arith, inside))) in
    cond-false (nat_lt (position_or_len p bytes) (length bytes)) _ _ (le-ltb (position_or_len p bytes) (length bytes) (omega (arith, past)))
position-first p bytes (Some k) (first, passes) =
    let at : position_or_len p bytes ≡ k =
    position_or_len_is p bytes k 0 (omega (arith, first.high)) (λ i below. fails (first.before i (omega arith) below)) (λ inside. passes) in
    cond-true (nat_lt (position_or_len p bytes) (length bytes)) _ _ (lt-ltb (position_or_len p bytes) (length bytes) (omega (arith, at, first.high))) ∙ ap Some at

-- ---- the words of one length decide on a text of that length

-- texts of two lengths are not alike
bytes_eq-lengths : (xs ys : List ℕ) → length xs == length ys ≡ false → bytes_eq xs ys ≡ false
bytes_eq-lengths xs ys apart =
    elim (cases_Bool (bytes_eq xs ys)) [
      | inl alike ↦ absurd (eqb-false (length xs) (length ys) apart (ap length ((bytes_eq-Decides xs ys).0 alike)))
      | inr unlike ↦ unlike
    ]

found-length : {X : Type 0} (rows : List (List ℕ × X)) (text : List ℕ) → found (of_length (length text) rows) text ≡ found rows text
found-length [] text = refl
found-length (row ∷ rows) text =
    elim (cases_Bool (length row.0 == length text)) [
      | inl same ↦ rw same (ap (λ rest. cond (bytes_eq row.0 text) (Some row.1) rest) (found-length rows text))
      | inr apart ↦ rw (apart, bytes_eq-lengths row.0 text apart) (found-length rows text)
    ]

pub call_of-length : (n : ℕ) (first : List ℕ) (arguments : List (List ℕ)) → length first ≡ n → call_among (of_length n commands) first arguments ≡ call_of first arguments
call_of-length n first arguments is = rw (← is) (ap (option_map (λ call. call arguments)) (found-length commands first))

-- whether one of these numbers is n
is_among : ℕ → List ℕ → Bool
is_among n [] = false
is_among n (m ∷ ms) = cond (m == n) true (is_among n ms)

-- a table has no word of a length that differs from those of its words
of_length-none : {X : Type 0} (n : ℕ) (rows : List (List ℕ × X)) → is_among n (map (λ row. length row.0) rows) ≡ false → of_length n rows ≡ []
unfolding is_among
of_length-none n [] none = refl
of_length-none n (row ∷ rows) none =
    let rest : Bool = is_among n (map (λ r. length r.0) rows) in
    elim (cases_Bool (length row.0 == n)) [
      | inl same ↦ absurd (true≢false (sym (ap (λ b. cond b true rest) same) ∙ none))
      | inr apart ↦ rw apart (of_length-none n rows (sym (ap (λ b. cond b true rest) apart) ∙ none))
    ]

-- no command has a word of another length
none-of : (n : ℕ) → 4 == n ≡ false → 5 == n ≡ false → 6 == n ≡ false → 7 == n ≡ false → 8 == n ≡ false → 9 == n ≡ false → is_among n (map (λ row. length row.0) commands) ≡ false
unfolding is_among
none-of n four five six seven eight nine = rw (four, five, six, seven, eight, nine) refl

pub call_of-other : (first : List ℕ) (arguments : List (List ℕ)) → 4 ≢ length first → 5 ≢ length first → 6 ≢ length first → 7 ≢ length first → 8 ≢ length first → 9 ≢ length first → None ≡ call_of first arguments
call_of-other first arguments four five six seven eight nine =
    let none : of_length (length first) commands ≡ [] =
    of_length-none (length first) commands (none-of (length first) (ne_eqb 4 _ four) (ne_eqb 5 _ five) (ne_eqb 6 _ six) (ne_eqb 7 _ seven) (ne_eqb 8 _ eight) (ne_eqb 9 _ nine)) in
    sym (ap (λ rows. call_among rows first arguments) none) ∙ call_of-length (length first) first arguments refl

-- ---- words read from left to right

-- ---- the first word that isn't of its form decides

pub exits : {A B : Type 0} (result : Result B Kind) (made : Result A Kind) (f : A → Result B Kind) (kind : Kind) → IsErrAnd result (λ e. e ≡ kind) → Err kind ≡ made → result ≡ (made >>= f)
exits result made f kind out is_made =
    let found = err_from_is_err_and result out in
    found.1 ∙ ap (λ (k : Kind). Err k) found.2 ∙ ap (λ r. r >>= f) is_made

pub goes_on : {A B : Type 0} (result : Result B Kind) (made : Result A Kind) (f : A → Result B Kind) (x : A) → Ok x ≡ made → result ≡ f x → result ≡ (made >>= f)
goes_on result made f x is_made then = then ∙ ap (λ r. r >>= f) is_made

-- ---- words cut one by one

-- where there is a word
pub read_none-some : (ws : List (List ℕ)) → 0 < length ws → read_none ws ≡ Err Shape
read_none-some [] some = absurd (omega arith)
read_none-some (a ∷ ws) some = refl

no_words : (ws : List (List ℕ)) → Ok tt ≡ read_none ws → ws ≡ []
no_words [] none = refl
no_words (a ∷ ws) none = cc

pub four_words : {a b c d : List ℕ} (ws behind_a behind_b behind_c behind_d : List (List ℕ)) → ws ≡ a ∷ behind_a → behind_a ≡ b ∷ behind_b → behind_b ≡ c ∷ behind_c → behind_c ≡ d ∷ behind_d → Ok tt ≡ read_none behind_d → ws ≡ a ∷ b ∷ c ∷ d ∷ []
four_words {a} {b} {c} {d} ws behind_a behind_b behind_c behind_d first second third fourth none =
    first ∙ ap (λ ws. a ∷ ws) (second ∙ ap (λ ws. b ∷ ws) (third ∙ ap (λ ws. c ∷ ws) (fourth ∙ ap (λ ws. d ∷ ws) (no_words behind_d none))))
