-- How one word holds a number or none. No public clause cites this module.
use Rattle.std.specs.Prelude.{◌≡◌, ℕ, ◌-◌, ◌^◌, true, false, Option, Some, None, if◌then◌else◌, ◌==◌, refl, unwrap_or}
use Rattle.std.proofs.lemmas.Bool.{eqb-true}
use Rattle.std.proofs.Common.{sym}

-- the word that means none
abbrev pub no_number : ℕ
no_number = 2 ^ 32 - 1

-- the number that a word holds
abbrev pub slot_value : ℕ → Option ℕ
slot_value word = if word == no_number then None else Some word

-- the word that holds a number
abbrev pub slot_word : Option ℕ → ℕ
slot_word o = unwrap_or o no_number

-- what a word holds determines the word
pub slot_word-slot_value : (word : ℕ) → slot_word (slot_value word) ≡ word
slot_word-slot_value word =
    elim (word == no_number) as (λ b. (word == no_number) ≡ b → slot_word (if b then None else Some word) ≡ word) [
      | true ↦ λ is. sym (eqb-true word no_number is)
      | false ↦ λ _. refl
    ] refl
