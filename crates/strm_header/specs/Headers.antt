-- What a router does with a message whose first block begins with a header of 20 bytes, that is of ten words. Byte 0 tells the header's
-- form, byte 8 the time to live, and bytes 10 and 11 are the checksum.
use Rattle.std.specs.Prelude.{◌≡◌, ℕ, ◌+◌, ◌-◌, ◌*◌, ◌/◌, ◌%◌, Bool, not, ◌==◌, IsTrue, nat_lt, List, [], ◌∷◌, length, take, Result, Ok, Err, slice_index_or, slice_set, if◌then◌else◌}
use Rattle.strm_data.specs.declared.refusal.Refusal.TheVariants.{Shared}
use Rattle.strm_header.specs.declared.header.HeaderFault.{HeaderFault}
use Rattle.strm_header.specs.declared.header.HeaderFault.TheVariants.{TooShort, WrongForm, WrongChecksum, Expired}
use Rattle.strm_header.specs.declared.header.Outcome.{Outcome}
use Rattle.strm_header.specs.declared.header.Outcome.TheVariants.{GoesOn, Dropped, Refused}
use Rattle.strm_mblk.specs.declared.token.TokenValue.{TokenValue}
use Rattle.strm_mblk.specs.Calls.{Alters, Spends}
use Rattle.strm_mblk.specs.InPlace as in_place
use Rattle.strm_pool.specs.PoolValue.{PoolValue, arena, on_arena, with_token_spent}

-- ---- a header

-- the sum of the words of two bytes, of which the first counts 256 times
abbrev pub sum_of_words : List ℕ → ℕ
sum_of_words [] = 0
sum_of_words (high ∷ []) = 0
sum_of_words (high ∷ low ∷ rest) = 256 * high + low + sum_of_words rest

-- whether the checksum is right: the words' sum is 0 in one's complement (RFC 1071)
abbrev pub has_right_checksum : List ℕ → Bool
has_right_checksum bytes = sum_of_words (take 20 bytes) % 65535 == 0

-- byte n
abbrev pub byte_at : List ℕ → ℕ → ℕ
byte_at bytes n = slice_index_or bytes n 0

-- what is wrong with the header at the front of these bytes, if anything
abbrev pub verdict_on : List ℕ → Result (Unit {0}) HeaderFault
verdict_on bytes =
    if nat_lt (length bytes) 20 then Err TooShort
    else (if not (byte_at bytes 0 == 69) then Err WrongForm
    else (if not (has_right_checksum bytes) then Err WrongChecksum
    else (if nat_lt 1 (byte_at bytes 8) then Ok tt else Err Expired)))

-- these bytes with this checksum
abbrev pub with_checksum : ℕ → List ℕ → List ℕ
with_checksum c bytes = slice_set (slice_set bytes 10 (c / 256)) 11 (c % 256)

-- these bytes after one hop: the time to live is one less, and the checksum 256 more in one's complement (RFC 1624)
abbrev pub aged : List ℕ → List ℕ
aged bytes = with_checksum ((256 * byte_at bytes 10 + byte_at bytes 11 + 256) % 65535) (slice_set bytes 8 (byte_at bytes 8 - 1))

-- these bytes after one hop if the verdict on them is this
abbrev pub aged_if : Result (Unit {0}) HeaderFault → List ℕ → List ℕ
aged_if (Ok done) bytes = aged bytes
aged_if (Err why) bytes = bytes

abbrev pub aged_if_right : List ℕ → List ℕ
aged_if_right bytes = aged_if (verdict_on bytes) bytes

-- ---- a message

-- The header is right. It is rewritten in place, and the token comes back.
pub record Rewrites (t u : TokenValue) (old new : PoolValue) : Type 0 where
  -- the bytes of the first block, in a data block that no other block uses
  pub bytes : List ℕ
  pub lent : in_place.bytes_to_edit t.head 0 old.arena ≡ Ok bytes
  pub right : verdict_on bytes ≡ Ok tt
  -- only these bytes change
  pub after : Alters arena t u (on_arena old (in_place.edit {R = Unit {0}} t.head 0 tt (aged bytes) old.arena)) old new (Ok tt)
  pub token : u ≡ t
  -- the first block has them now, and their checksum is right
  pub left : in_place.bytes t.head 0 new.arena ≡ Ok (aged bytes)
  pub checksum : IsTrue (has_right_checksum (aged bytes))

-- The header is wrong. The message is freed, and nothing else changes.
pub record Drops (t : TokenValue) (why : HeaderFault) (old new : PoolValue) : Type 0 where
  pub bytes : List ℕ
  pub lent : in_place.bytes_to_edit t.head 0 old.arena ≡ Ok bytes
  pub wrong : verdict_on bytes ≡ Err why
  pub after : Spends arena t (with_token_spent old t) old new

-- Another block uses the data block of the first. Nothing changes, and the token comes back.
pub record Refuses (t u : TokenValue) (old new : PoolValue) : Type 0 where
  pub shared : in_place.bytes_to_edit t.head 0 old.arena ≡ Err Shared
  pub after : new ≡ old
  pub token : u ≡ t

-- what `hop` does with the message of token t, by what it returns
abbrev pub Hops : TokenValue → PoolValue → PoolValue → Outcome → Type 0
Hops t old new (GoesOn u) = Rewrites t u old new
Hops t old new (Dropped why) = Drops t why old new
Hops t old new (Refused u) = Refuses t u old new
