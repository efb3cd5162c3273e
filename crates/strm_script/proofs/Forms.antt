-- Digits of bytes and of numbers.
use Rattle.std.proofs.Common.{◌≡◌, ℕ, ◌+◌, zero-add, ◌-◌, ◌/◌, ◌%◌, ◌^◌, ◌<◌, ◌≤◌, false, List, [], ◌∷◌, ◌++◌, length, drop, get_or, set, sym, ap, ◌∙◌, arith, ◌*◌, true, ◌&&◌, cond, nat_le, take, Ok, Err, Option, None, Some, fold, option_map, refl, slice_index_or, append_assoc, take-append-drop}
use Rattle.std.specs.Prelude.{codes, decimal, option_and_then, unwrap_or}
use Rattle.std.specs.Fmt.{digit_glyph, digits}
use Rattle.std.proofs.lemmas.Fmt.{hex_one_digit, length-decimal-le}
use Rattle.std.proofs.lemmas.List.{drop-set, take_rest}
use Rattle.std.proofs.lemmas.List.FromFn.{get_or-map-range_with_len}
use Rattle.std.proofs.lemmas.List.Sums.{fold-append}
use Rattle.std.proofs.lemmas.Bool.{lt-leb}
use Rattle.strm_script.specs.Text.{hex_text}
use Rattle.strm_script.specs.declared.fault.Kind.TheVariants.{Number}
use Rattle.strm_script.specs.declared.form.TheConstants.{HEX_DIGITS}
use Rattle.strm_script.specs.Form.{is_numeral, value_of, number_of, hex_digit, hex_pair, hex_bytes, before_bytes}

-- ---- the digits of bytes and of numbers

-- ---- bytes

-- all digits, in order
abbrev all_digits : List ℕ
all_digits = codes "0123456789abcdef"

-- a digit stands at its place
one_digit : (n : ℕ) → n < 16 → get_or all_digits n 0 ∷ [] ≡ digits 16 false n
one_digit n small = ap (λ d. d ∷ []) (get_or-map-range_with_len (digit_glyph false) 0 16 n n 0 small (zero-add n)) ∙ sym (hex_one_digit false n small)

-- the two digits of a byte
pub two_digits : (b : ℕ) → b < 256 → get_or all_digits (b / 16) 0 ∷ get_or all_digits (b % 16) 0 ∷ [] ≡ hex_text b
two_digits b small =
    ap (λ ds. ds ++ get_or all_digits (b % 16) 0 ∷ []) (one_digit (b / 16) (omega arith)) ∙ ap (λ ds. digits 16 false (b / 16) ++ ds) (one_digit (b % 16) (omega arith))

-- ---- numbers

-- how many digits a number of 32 bits, and one of 8, has at most
pub length_u32 : (n : ℕ) → n < 2 ^ 32 → length (decimal n) ≤ 10
length_u32 n small = length-decimal-le 10 n (omega arith) (omega arith) (omega arith)

pub length_u8 : (n : ℕ) → n < 2 ^ 8 → length (decimal n) ≤ 3
length_u8 n small = length-decimal-le 3 n (omega arith) (omega arith) (omega arith)

-- a byte stands between what was written last and what was written first
pub placed : (byte : ℕ) (first last before behind : List ℕ) (at start : ℕ) → 0 < at → at ≤ length first → drop at first ≡ behind → drop start last ≡ before ++ drop (at - 1) (set first (at - 1) byte)
    → drop start last ≡ before ++ (byte ∷ behind)
placed byte first last before behind at start above within is whole =
    let next : at - 1 + 1 ≡ at = omega arith in
    whole ∙ ap (λ bs. before ++ bs) (drop-set first (at - 1) byte (omega arith) ∙ ap (λ n. byte ∷ drop n first) next ∙ ap (λ bs. byte ∷ bs) is)

-- ---- digits of a number, and pairs of digits of a byte

-- more digits never make a number smaller
value-grows : (n : ℕ) (digits : List ℕ) → n ≤ fold (λ n b. 10 * n + (b - 48)) n digits
value-grows n [] = omega arith
value-grows n (b ∷ bs) = omega (arith, value-grows (10 * n + (b - 48)) bs)

value_of-take : (k : ℕ) (word : List ℕ) → value_of (take k word) ≤ value_of word
value_of-take k word =
    let whole = ap value_of (take-append-drop k word) in
    let parts = fold-append (λ n b. 10 * n + (b - 48)) 0 (take k word) (drop k word) in
    omega (arith, whole, parts, value-grows (value_of (take k word)) (drop k word))

-- where the first digits are above the greatest number, so is the whole
pub number_of-above : (most : ℕ) (word : List ℕ) (k : ℕ) → most < value_of (take k word) → number_of most word ≡ Err Number
number_of-above most word k above =
    let small : most < value_of word = omega (arith, value_of-take k word) in
    elim (is_numeral word) as (λ b. cond (b && nat_le (value_of word) most) (Ok (value_of word)) (Err Number) ≡ Err Number) [
      | true ↦ ap (λ b. cond b (Ok (value_of word)) (Err Number)) (lt-leb (value_of word) most small)
      | false ↦ refl
    ]

-- these bytes before the others, where those are there
abbrev pub with_front : List ℕ → Option (List ℕ) → Option (List ℕ)
with_front front read = option_map (λ bytes. front ++ bytes) read

with_front-before : (front : List ℕ) (b : ℕ) (read : Option (List ℕ)) → with_front front (before_bytes (Some b) read) ≡ with_front (front ++ b ∷ []) read
with_front-before front b None = refl
with_front-before front b (Some bytes) = ap (λ (bs : List ℕ). Some bs) (sym (append_assoc front (b ∷ []) bytes))

-- the first two digits, and what the rest gives
pub hex_bytes-step : (front : List ℕ) (rest : List ℕ) (word : List ℕ) (b : ℕ) → 2 ≤ length rest → hex_pair (get_or rest 0 0) (get_or rest 1 0) ≡ Some b → with_front front (hex_bytes rest) ≡ hex_bytes word → with_front (front ++ b ∷ []) (hex_bytes (take (length rest - 2) (drop 2 rest))) ≡ hex_bytes word
hex_bytes-step front [] word b long pair so = absurd (omega arith)
hex_bytes-step front (x ∷ []) word b long pair so = absurd (omega arith)
hex_bytes-step front (x ∷ y ∷ rest) word b long pair so = cc (take_rest (x ∷ y ∷ rest) 2, with_front-before front b (hex_bytes rest), pair, so)

-- ---- digits by the table

-- the value of a hexadecimal digit, or 16 for another byte
abbrev digit_or_16 : ℕ → ℕ
digit_or_16 b = unwrap_or (hex_digit b) 16

pub hex_digits-at : (b : ℕ) → b < 256 → slice_index_or HEX_DIGITS b 0 ≡ unwrap_or (hex_digit b) 16
hex_digits-at b below = get_or-map-range_with_len digit_or_16 0 256 b b 0 below (omega arith)

some_digit : (digit : Option ℕ) → unwrap_or digit 16 ≤ 15 → digit ≡ Some (unwrap_or digit 16)
some_digit (Some d) small = refl
some_digit None small = absurd (omega (arith, small))

pub hex_pair-digits : (high low h l : ℕ) → h ≡ unwrap_or (hex_digit high) 16 → l ≡ unwrap_or (hex_digit low) 16 → h ≤ 15 → l ≤ 15 → hex_pair high low ≡ Some (16 * h + l)
hex_pair-digits high low h l is_h is_l small_h small_l =
    rw (is_h, is_l)
    (ap (λ digit. option_and_then (λ h. option_map (λ l. 16 * h + l) (hex_digit low)) digit) (some_digit (hex_digit high) (rw is_h at small_h))
    ∙ ap (λ digit. option_map (λ l. 16 * unwrap_or (hex_digit high) 16 + l) digit) (some_digit (hex_digit low) (rw is_l at small_l)))
