-- The result of a call's definition: what the call returns, and the value that it leaves.
use Rattle.std.specs.Prelude.{Result, Ok, Err}
use Rattle.strm_data.specs.declared.refusal.Refusal.{Refusal}
use Rattle.strm_mblk.specs.declared.rejected.Rejected.{Rejected}
use Rattle.strm_mblk.specs.declared.token.TokenValue.{TokenValue}

-- what a call returns, with the value that it leaves; a refused call leaves the value unchanged
abbrev pub Given : Type 0 → Type 0 → Type 0
Given V X = Result (X × V) Refusal

-- the result of a call that returns nothing and is never refused
abbrev pub given_nothing : {V : Type 0} → V → Given V (Unit {0})
given_nothing v = Ok (tt, v)

-- what the call returns
abbrev pub answer_of : {V X : Type 0} → Given V X → Result X Refusal
answer_of (Ok given) = Ok given.0
answer_of (Err why) = Err why

-- the value after the call
abbrev pub value_after : {V X : Type 0} → V → Given V X → V
value_after v (Ok given) = given.1
value_after v (Err why) = v

-- the result of a second call on what the first returned, or the first one's refusal
abbrev pub and_then : {A B : Type 0} → (A → Result B Refusal) → Result A Refusal → Result B Refusal
and_then next (Ok given) = next given
and_then next (Err why) = Err why

-- a function of what a call returned, or the call's refusal
abbrev pub answer_map : {A B : Type 0} → (A → B) → Result A Refusal → Result B Refusal
answer_map f (Ok given) = Ok (f given)
answer_map f (Err why) = Err why

-- what a call returned, or its refusal with the token that the call got
abbrev pub or_rejected : {A : Type 0} → TokenValue → Result A Refusal → Result A Rejected
or_rejected t (Ok given) = Ok given
or_rejected t (Err why) = Err (record { why = why; token = t })

-- what a call returned, or its refusal alone
abbrev pub without_token : {A : Type 0} → Result A Rejected → Result A Refusal
without_token (Ok given) = Ok given
without_token (Err rejected) = Err rejected.why
