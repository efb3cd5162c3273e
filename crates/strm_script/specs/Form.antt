-- Arguments: what a word means as a number, a register, a word or bytes.
use Rattle.std.specs.Prelude.{ℕ, ◌+◌, ◌-◌, ◌*◌, ◌^◌, ℤ, pos, neg_ℤ, Bool, true, false, not, ◌&&◌, ◌==◌, nat_lt, nat_le, fold, find, List, [], ◌∷◌, length, Option, None, Some, Result, Ok, Err, bytes_eq, option_and_then, option_map, ok_or, if◌then◌else◌, codes}
use Rattle.std.specs.List.{list_all}
use Rattle.strm_data.specs.MsgType.{all_types, name_of}
use Rattle.strm_data.specs.declared.msg_type.MsgType.{MsgType}
use Rattle.strm_pool.specs.Limits.{most_octets}
use Rattle.strm_queue.specs.declared.flush.Flush.{Flush}
use Rattle.strm_queue.specs.declared.flush.Flush.TheVariants.{All, Data}
use Rattle.strm_script.specs.declared.fault.Kind.{Kind}
use Rattle.strm_script.specs.declared.fault.Kind.TheVariants.{Number, Register, Word, Hex}

-- a byte is one of `0` to `9`
abbrev pub is_digit : ℕ → Bool
is_digit b = nat_le 48 b && nat_le b 57

abbrev pub are_digits : List ℕ → Bool
are_digits word = list_all is_digit word

-- a word has a first byte, which is `0` only if the word has no other
abbrev pub begins_well : List ℕ → Bool
begins_well [] = false
begins_well (b ∷ []) = true
begins_well (b ∷ c ∷ bs) = not (b == 48)

-- a word is `0`, or digits of which the first is not `0`
abbrev pub is_numeral : List ℕ → Bool
is_numeral word = are_digits word && begins_well word

-- the number that digits mean
abbrev pub value_of : List ℕ → ℕ
value_of digits = fold (λ n b. 10 * n + (b - 48)) 0 digits

-- a number from 0 to `most`
abbrev pub number_of : ℕ → List ℕ → Result ℕ Kind
number_of most word = if is_numeral word && nat_le (value_of word) most then Ok (value_of word) else Err Number

-- a number from 0 to 2^32 - 1; and the number of a queue or a band, from 0 to 255
abbrev pub u32_of : List ℕ → Result ℕ Kind
u32_of word = number_of (2 ^ 32 - 1) word

abbrev pub u8_of : List ℕ → Result ℕ Kind
u8_of word = number_of 255 word

abbrev pub signed_number : (ℕ → ℤ) → Result ℕ Kind → Result ℤ Kind
signed_number sign (Ok n) = Ok (sign n)
signed_number sign (Err kind) = Err kind

-- the number below 0 that `-` and these digits mean; `-0` is no number
abbrev pub negative_of : List ℕ → Result ℤ Kind
negative_of digits = if bytes_eq digits (codes "0") then Err Number else signed_number (λ n. neg_ℤ (pos n)) (number_of (2 ^ 31) digits)

-- a number from -2^31 to 2^31 - 1: `-` may come before a number that is not `0`
abbrev pub i32_of : List ℕ → Result ℤ Kind
i32_of [] = Err Number
i32_of (b ∷ bs) = if b == 45 then negative_of bs else signed_number (λ n. pos n) (number_of (2 ^ 31 - 1) (b ∷ bs))

-- one letter of `a` to `z`, as its place in the alphabet
abbrev pub register_of : List ℕ → Result ℕ Kind
register_of [] = Err Register
register_of (b ∷ []) = if nat_le 97 b && nat_le b 122 then Ok (b - 97) else Err Register
register_of (b ∷ c ∷ bs) = Err Register

-- the type with this name, if any
abbrev pub type_named : List ℕ → Option MsgType
type_named word = find (λ t. bytes_eq (name_of t) word) all_types

-- a type, by its name
abbrev pub type_of : List ℕ → Result MsgType Kind
type_of word = ok_or (type_named word) Word

-- which messages a flush frees: `all` or `data`
abbrev pub flush_of : List ℕ → Result Flush Kind
flush_of word = if bytes_eq word (codes "all") then Ok All else (if bytes_eq word (codes "data") then Ok Data else Err Word)

-- whether a queue has a service procedure: `s` or `n`
abbrev pub service_of : List ℕ → Result Bool Kind
service_of word = if bytes_eq word (codes "s") then Ok true else (if bytes_eq word (codes "n") then Ok false else Err Word)

-- `-`, which means none
abbrev pub is_dash : List ℕ → Bool
is_dash word = bytes_eq word (codes "-")

abbrev pub as_next : Result ℕ Kind → Result (Option ℕ) Kind
as_next (Ok q) = Ok (Some q)
as_next (Err kind) = Err kind

-- the next queue, 0 to 255, or none for `-`
abbrev pub next_of : List ℕ → Result (Option ℕ) Kind
next_of word = if is_dash word then Ok None else as_next (number_of 255 word)

-- the value of a lower case hexadecimal digit
abbrev pub hex_digit : ℕ → Option ℕ
hex_digit b = if is_digit b then Some (b - 48) else (if nat_le 97 b && nat_le b 102 then Some (b - 87) else None)

-- the byte that two hexadecimal digits mean
abbrev pub hex_pair : ℕ → ℕ → Option ℕ
hex_pair high low = option_and_then (λ h. option_map (λ l. 16 * h + l) (hex_digit low)) (hex_digit high)

-- a byte before others, if all of them are there
abbrev pub before_bytes : Option ℕ → Option (List ℕ) → Option (List ℕ)
before_bytes byte bytes = option_and_then (λ b. option_map (λ bs. b ∷ bs) bytes) byte

-- the bytes of a word with two hexadecimal digits for each, if all are right
abbrev pub hex_bytes : List ℕ → Option (List ℕ)
hex_bytes [] = Some []
hex_bytes (b ∷ []) = None
hex_bytes (b ∷ c ∷ bs) = before_bytes (hex_pair b c) (hex_bytes bs)

-- 1 to most_octets bytes in hexadecimal, or no bytes for `-`
abbrev pub octets_of : List ℕ → Result (List ℕ) Kind
octets_of word =
    if is_dash word then Ok []
    else (if nat_lt 0 (length word) && nat_le (length word) (2 * most_octets) then ok_or (hex_bytes word) Hex else Err Hex)
