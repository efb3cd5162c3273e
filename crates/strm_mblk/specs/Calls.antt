-- What a call does with messages: a record for each shape of a call. The records are about a value with an arena, which `arena` finds in
-- it. `call` is the result of the call's definition for the old value. `result` is what the call returns: `Ok result` if it is never
-- refused, and `Ok tt` if it returns nothing. A refused call changes nothing.
use Rattle.std.specs.Prelude.{◌≡◌, ◌≢◌, ◌⊎◌, ℕ, IsTrue, List, [], ◌∷◌, Option, None, Some, Result, Err, IfOk, IfSome, MatchResult, option_map}
use Rattle.strm_data.specs.declared.refusal.Refusal.{Refusal}
use Rattle.strm_data.specs.Lending.{Edits}
use Rattle.strm_mblk.specs.declared.rejected.Rejected.{Rejected}
use Rattle.strm_mblk.specs.declared.token.TokenValue.{TokenValue}
use Rattle.strm_mblk.specs.Arena.{Arena, has, held_at, token_of}
use Rattle.strm_mblk.specs.Frame.{LeavesOthers, LeavesShelves, head_answered, heads_answered, heads_parted}
use Rattle.strm_mblk.specs.Given.{Given, answer_map, answer_of, or_rejected, value_after, without_token}

-- an arena is its own arena
abbrev pub itself : Arena → Arena
itself a = a

-- ---- calls that change no shelf

-- A call that makes a message, perhaps from a held one, its source.
pub record Gives {V : Type 0} (arena : V → Arena) (source : Option TokenValue) (call : Given V ℕ) (old new : V) (result : Result TokenValue Refusal) : Type 0 where
  pub after : new ≡ value_after old call
  pub token : result ≡ answer_map (token_of (arena new)) (answer_of call)
  -- the token is of a held message, and no message was held at its head before
  pub had : IfOk result (λ t. IsTrue (has (arena new) t))
  pub unheld : IfOk result (λ t. held_at (arena old) t.head ≡ None)
  -- the source stays held
  pub kept : IfSome source (λ t. IsTrue (has (arena new) t))
  pub others : LeavesOthers (head_answered result) (arena old) (arena new)
  pub shelves : LeavesShelves (head_answered result) (arena old) (arena new)

-- A call that alters the message of token t, which becomes u.
pub record Alters {V X : Type 0} (arena : V → Arena) (t u : TokenValue) (call : Given V X) (old new : V) (result : Result X Refusal) : Type 0 where
  pub after : new ≡ value_after old call
  pub answer : result ≡ answer_of call
  -- the message is still held at its head
  pub token : u ≡ token_of (arena new) t.head
  pub had : IsTrue (has (arena new) u)
  pub others : LeavesOthers (t.head ∷ []) (arena old) (arena new)
  pub shelves : LeavesShelves (t.head ∷ []) (arena old) (arena new)

-- A call that lends bytes of the message of token t to a closure, or is refused. `lent` are the bytes. `call` is the result of the call's
-- definition if the closure returns r and leaves these bytes, as many as before. A refused call does not call the closure: it may be called
-- only where bytes are lent.
abbrev pub Lends : {V X R : Type 0} → (V → Arena) → TokenValue → (List ℕ → R → List ℕ → Type 0) → Result (List ℕ) Refusal
    → (R → List ℕ → Given V X) → V → V → Result X Refusal → Type 0
Lends {R} arena t closure lent call old new result = MatchResult lent
    (λ bytes. (r : R) × Edits closure bytes r (λ left. Alters arena t t (call r left) old new result))
    (λ why. Alters arena t t (Err why) old new result)

-- A call that appends the message of token u, which is spent, to that of token s, which becomes t. `next` is the value that the
-- definition gives.
pub record Joins {V : Type 0} (arena : V → Arena) (s t u : TokenValue) (next old new : V) : Type 0 where
  pub after : new ≡ next
  -- the first message is still held at its head, and none at the other's head
  pub token : t ≡ token_of (arena new) s.head
  pub had : IsTrue (has (arena new) t)
  pub gone : s.head ≢ u.head → held_at (arena new) u.head ≡ None
  pub others : LeavesOthers (s.head ∷ u.head ∷ []) (arena old) (arena new)
  pub shelves : LeavesShelves (s.head ∷ u.head ∷ []) (arena old) (arena new)

-- A call that leaves only the first block in the message of token t, which becomes u, and returns the token of the rest, if any.
pub record Unlinks {V : Type 0} (arena : V → Arena) (t u : TokenValue) (call : Given V (Option ℕ)) (old new : V) (result : Result (Option TokenValue) Refusal) : Type 0 where
  pub after : new ≡ value_after old call
  pub rest : result ≡ answer_map (option_map (token_of (arena new))) (answer_of call)
  pub token : u ≡ token_of (arena new) t.head
  -- both messages are held, and no message was held at the head of the rest before
  pub had : IsTrue (has (arena new) u)
  pub rest_had : IfOk result (λ rest. IfSome rest (λ r. IsTrue (has (arena new) r)))
  pub unheld : IfOk result (λ rest. IfSome rest (λ r. held_at (arena old) r.head ≡ None))
  pub others : LeavesOthers (t.head ∷ heads_answered result) (arena old) (arena new)
  pub shelves : LeavesShelves (t.head ∷ heads_answered result) (arena old) (arena new)

-- A call that frees the first block of the message of token t, which is spent, and returns the token of the rest, if any.
pub record Frees {V : Type 0} (arena : V → Arena) (t : TokenValue) (call : Given V (Option ℕ)) (old new : V) (result : Result (Option TokenValue) Refusal) : Type 0 where
  pub after : new ≡ value_after old call
  pub rest : result ≡ answer_map (option_map (token_of (arena new))) (answer_of call)
  -- the rest is held, and no message was held at its head before
  pub had : IfOk result (λ rest. IfSome rest (λ r. IsTrue (has (arena new) r)))
  pub unheld : IfOk result (λ rest. IfSome rest (λ r. held_at (arena old) r.head ≡ None))
  -- no message is held at the old head
  pub gone : IfOk result (λ rest. held_at (arena new) t.head ≡ None)
  pub others : LeavesOthers (t.head ∷ heads_answered result) (arena old) (arena new)
  pub shelves : LeavesShelves (t.head ∷ heads_answered result) (arena old) (arena new)

-- A call that divides the message of token t, which is spent, into two, or into one if the first gets all blocks. It returns their
-- tokens, or t if it is refused.
pub record Parts {V : Type 0} (arena : V → Arena) (t : TokenValue) (call : Given V (ℕ × Option ℕ)) (old new : V) (result : Result (TokenValue × Option TokenValue) Rejected) : Type 0 where
  pub after : new ≡ value_after old call
  pub answer : result ≡ or_rejected t (answer_map
      (λ heads. (token_of (arena new) heads.0, option_map (token_of (arena new)) heads.1)) (answer_of call))
  -- both messages are held; one has the old head, and no message was held at the other's head before
  pub kept : IfOk result (λ tokens. (tokens.0.head ≡ t.head) ⊎ (option_map (λ r. r.head) tokens.1 ≡ Some t.head))
  pub had : IfOk result (λ tokens. IsTrue (has (arena new) tokens.0))
  pub rest_had : IfOk result (λ tokens. IfSome tokens.1 (λ r. IsTrue (has (arena new) r)))
  pub unheld : IfOk result (λ tokens. tokens.0.head ≢ t.head → held_at (arena old) tokens.0.head ≡ None)
  pub rest_unheld : IfOk result (λ tokens. IfSome tokens.1 (λ r. r.head ≢ t.head → held_at (arena old) r.head ≡ None))
  pub apart : IfOk result (λ tokens. IfSome tokens.1 (λ r. r.head ≢ tokens.0.head))
  pub others : LeavesOthers (t.head ∷ heads_parted result) (arena old) (arena new)
  pub shelves : LeavesShelves (t.head ∷ heads_parted result) (arena old) (arena new)

-- A call that spends token t, and frees its message if it is held. `next` is the value that the definition gives.
pub record Spends {V : Type 0} (arena : V → Arena) (t : TokenValue) (next old new : V) : Type 0 where
  pub after : new ≡ next
  -- no message is held at its head any more
  pub gone : IsTrue (has (arena old) t) → held_at (arena new) t.head ≡ None
  pub others : LeavesOthers (t.head ∷ []) (arena old) (arena new)
  pub shelves : LeavesShelves (t.head ∷ []) (arena old) (arena new)

-- A call that makes the message of token t anew in another pool, and spends t here, or returns t if it is refused. `call` is the result of
-- the call's definition for the other pool, and `next` is the value that spending t gives here.
pub record Transfers {V : Type 0} (arena : V → Arena) (t : TokenValue) (call : Given V ℕ) (next old new other_old other_new : V) (result : Result TokenValue Rejected) : Type 0 where
  pub there : Gives arena None call other_old other_new (without_token result)
  pub here : MatchResult result (λ u. Spends arena t next old new) (λ rejected. (rejected.token ≡ t) × (new ≡ old))

-- ---- calls that change shelves, or what queues store

-- A call that puts the message of token t on a shelf, or returns t if it is refused.
pub record Puts {V : Type 0} (arena : V → Arena) (t : TokenValue) (call : Given V (Unit {0})) (old new : V) (result : Result (Unit {0}) Rejected) : Type 0 where
  pub after : new ≡ value_after old call
  pub answer : result ≡ or_rejected t (answer_of call)
  -- no message is held at its head any more, or the token is of a held message still
  pub gone : MatchResult result (λ done. held_at (arena new) t.head ≡ None) (λ rejected. IsTrue (has (arena new) t))
  pub others : LeavesOthers (t.head ∷ []) (arena old) (arena new)

-- A call that takes a message off a shelf.
pub record Takes {V : Type 0} (arena : V → Arena) (call : Given V ℕ) (old new : V) (result : Result TokenValue Refusal) : Type 0 where
  pub after : new ≡ value_after old call
  pub token : result ≡ answer_map (token_of (arena new)) (answer_of call)
  -- the token is of a held message, and no message was held at its head before
  pub had : IfOk result (λ t. IsTrue (has (arena new) t))
  pub unheld : IfOk result (λ t. held_at (arena old) t.head ≡ None)
  pub others : LeavesOthers (head_answered result) (arena old) (arena new)

-- A call that takes a message off a shelf, if any.
pub record TakesAny {V : Type 0} (arena : V → Arena) (call : Given V (Option ℕ)) (old new : V) (result : Result (Option TokenValue) Refusal) : Type 0 where
  pub after : new ≡ value_after old call
  pub token : result ≡ answer_map (option_map (token_of (arena new))) (answer_of call)
  -- the token is of a held message, and no message was held at its head before
  pub had : IfOk result (λ given. IfSome given (λ t. IsTrue (has (arena new) t)))
  pub unheld : IfOk result (λ given. IfSome given (λ t. held_at (arena old) t.head ≡ None))
  pub others : LeavesOthers (heads_answered result) (arena old) (arena new)

-- A call that frees messages on shelves, and leaves held messages unchanged.
pub record Flushes {V : Type 0} (arena : V → Arena) (call : Given V (Unit {0})) (old new : V) (result : Result (Unit {0}) Refusal) : Type 0 where
  pub after : new ≡ value_after old call
  pub answer : result ≡ answer_of call
  pub others : LeavesOthers [] (arena old) (arena new)

-- A call that changes no message and no message block.
pub record LeavesBlocks {V X : Type 0} (arena : V → Arena) (call : Given V X) (old new : V) (result : Result X Refusal) : Type 0 where
  pub after : new ≡ value_after old call
  pub answer : result ≡ answer_of call
  pub arena_stays : arena new ≡ arena old
