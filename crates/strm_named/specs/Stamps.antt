-- Stamps, by the heads of messages, and what calls do to them. No public clause cites this module.
use Rattle.std.specs.Prelude.{◌≡◌, ◌<◌, ℕ, true, List, [], ◌∷◌, map, Option, None, Some, option_map, Result, Ok, Err, slice_index_or}
use Rattle.strm_data.specs.declared.refusal.Refusal.{Refusal}
use Rattle.strm_mblk.specs.declared.rejected.Rejected.{Rejected}
use Rattle.strm_mblk.specs.declared.token.TokenValue.{TokenValue}
use Rattle.strm_mblk.specs.Arena.{Arena, has}
use Rattle.strm_named.specs.declared.fault.Fault.{Fault}
use Rattle.strm_named.specs.declared.fault.Fault.TheVariants.{Refused}
use Rattle.strm_named.specs.declared.name.Name.{Name}
use Rattle.strm_named.specs.NamedValue.{stamps_given}

-- the name of a token's message
abbrev pub name_in : List ℕ → TokenValue → Name
name_in stamps t = record { pool = t.pool; head = t.head; stamp = slice_index_or stamps t.head 0 }

-- the token of the message that a name is for
pub record IsTokenOf (n : Name) (a : Arena) (t : TokenValue) : Type 0 where
  pub had : has a t ≡ true
  pub head : t.head ≡ n.head

-- the messages of these tokens were given, one after another
abbrev pub with_tokens : List TokenValue → List ℕ → List ℕ
with_tokens ts stamps = stamps_given (map (λ t. t.head) ts) stamps

-- of this many stamps, there is one for the message of each of these tokens
abbrev pub HaveStamps : List TokenValue → ℕ → Type 0
HaveStamps [] n = Unit {0}
HaveStamps (t ∷ ts) n = (t.head < n) × HaveStamps ts n

-- ---- the tokens that a call gives

abbrev pub tokens_in : Option TokenValue → List TokenValue
tokens_in None = []
tokens_in (Some t) = t ∷ []

abbrev pub token_answered : Result TokenValue Refusal → List TokenValue
token_answered (Ok t) = t ∷ []
token_answered (Err why) = []

abbrev pub tokens_answered : Result (Option TokenValue) Refusal → List TokenValue
tokens_answered (Ok any) = tokens_in any
tokens_answered (Err why) = []

-- ---- a call that parts a message, or rejects its token

-- the tokens of the parts
abbrev pub tokens_parted : Result (TokenValue × Option TokenValue) Rejected → List TokenValue
tokens_parted (Ok ts) = ts.0 ∷ tokens_in ts.1
tokens_parted (Err rejected) = []

-- the names of the parts, from the stamps before and after
abbrev pub parted_in : List ℕ → List ℕ → Result (TokenValue × Option TokenValue) Rejected → Result (Name × Option Name) Fault
parted_in old new (Ok ts) = Ok (name_in (with_tokens (ts.0 ∷ []) old) ts.0, option_map (name_in new) ts.1)
parted_in old new (Err rejected) = Err (Refused rejected.why)
