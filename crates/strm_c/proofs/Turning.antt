-- Two numbers of 32 bits in one of 64, turned round.
use Rattle.std.proofs.Common.{◌≡◌, ℕ, ◌+◌, ◌*◌, ◌/◌, ◌%◌, ◌^◌, ◌<◌, arith, ap, ◌∙◌, bit_or}
use Rattle.std.specs.Int.{rotate_left, w64}
use Rattle.std.proofs.lemmas.Nat.{mod_low, or_shifted, shl_below, shl_whole, shr_high}

-- both, the first above the second
joined : (high low : ℕ) → high < 2 ^ 32 → low < 2 ^ 32 → bit_or ((high * 2 ^ 32) % 2 ^ 64) low ≡ high * 2 ^ 32 + low
joined high low p q = ap (λ n. bit_or n low) (shl_whole high 32 32 64 p (omega arith)) ∙ or_shifted high 32 low q

shifted : (high low : ℕ) → low < 2 ^ 32 → ((high * 2 ^ 32 + low) * 2 ^ 32) % 2 ^ 64 ≡ low * 2 ^ 32
shifted high low q = ap (λ n. n % 2 ^ 64) (omega arith) ∙ mod_low high 64 (low * 2 ^ 32) (shl_below low 32 32 q)

pub turned : (high low : ℕ) → high < 2 ^ 32 → low < 2 ^ 32 → rotate_left w64 (bit_or ((high * 2 ^ 32) % 2 ^ 64) low) 32 ≡ low * 2 ^ 32 + high
turned high low p q =
    ap (λ n. rotate_left w64 n 32) (joined high low p q)
    ∙ (ap (λ n. bit_or n ((high * 2 ^ 32 + low) / 2 ^ 32)) (shifted high low q)
    ∙ (ap (bit_or (low * 2 ^ 32)) (shr_high high 32 low q) ∙ or_shifted low 32 high p))
