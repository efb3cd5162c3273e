-- How the records of specs/Calls are made, each from what its call found.
use Rattle.std.proofs.Common.{◌≡◌, ◌≢◌, ℕ, true, [], ◌∷◌, length, set, Option, Some, None, Result, Ok, Err, refl, sym, ap, ◌∙◌, subst, arith, get_or-set_same, length-set}
use Rattle.std.specs.Prelude.{IfSome, List, MatchResult}
use Rattle.strm_data.specs.declared.refusal.Refusal.{Refusal}
use Rattle.strm_data.specs.DataStore.{DataStore, data_block_at}
use Rattle.strm_data.specs.Lending.{Edits}
use Rattle.strm_mblk.specs.declared.token.TokenValue.{TokenValue}
use Rattle.strm_mblk.specs.Arena.{Arena, has, held_at, message_at, token_of}
use Rattle.strm_mblk.specs.Block.{Block, Message}
use Rattle.strm_mblk.specs.BlockCalls.{own_block, with_block}
use Rattle.strm_mblk.specs.Calls.{Alters, Flushes, Gives, LeavesBlocks, Lends, Puts, Takes, TakesAny, itself}
use Rattle.strm_mblk.specs.Given.{Given, answer_of, value_after}
use Rattle.strm_mblk.specs.Messages.{blocks_of}
use Rattle.strm_mblk.proofs.arena.Frame.{Leaves, Making, leaves_given, leaves_fields, leaves_same, leaves_with_block, leaves_with_store}
use Rattle.strm_mblk.proofs.arena.Counts.{held_within, had_again, had_is, had_message, token_had}
use Rattle.std.proofs.lemmas.Grind.{common_steps}

-- a call that answers a refusal was refused
pub refused_is : {V X : Type 0} (call : Given V X) {why : Refusal} → answer_of call ≡ Err why → call ≡ Err why
refused_is (Ok given) is = absurd cc
refused_is (Err other) {why} is = let same : other ≡ why = cc in ap (λ (x : Refusal). Err x) same

module _ (a b : Arena) (source : Option TokenValue) (call : Given Arena ℕ) where
  -- a message was made
  pub gives : {t : TokenValue} (h : ℕ) {m : Message} → call ≡ Ok (h, b) → t ≡ token_of b h → held_at b h ≡ Some m → held_at a h ≡ None → IfSome source (λ s. has b s ≡ true) → Making a call
      → Gives itself source call a b (Ok t)
  gives h is token held absent kept leaves = grind (arith, common_steps, leaves_given, token_had)

  -- none was
  pub gives_none : {why : Refusal} → call ≡ Err why → b ≡ a → IfSome source (λ s. has a s ≡ true) → Gives itself source call a b (Err why)
  gives_none is same kept = grind (arith, common_steps, leaves_same)

module _ {X : Type 0} (a b : Arena) (t : TokenValue) (call : Given Arena X) where
  -- a message was altered
  pub alters : (x : X) {u : TokenValue} → call ≡ Ok (x, b) → u ≡ token_of b t.head → has b u ≡ true → Leaves (t.head ∷ []) a (value_after a call) → Alters itself t u call a b (Ok x)
  alters x is token had left = grind (arith, common_steps)

  -- it was, and has as many blocks as before
  pub alters_kept : (x : X) → call ≡ Ok (x, b) → has b t ≡ true → Leaves (t.head ∷ []) a (value_after a call) → Alters itself t t call a b (Ok x)
  alters_kept x is had left = alters x is (had_is b t had) had left

  pub alters_to : (x : X) → call ≡ Ok (x, b) → has b t ≡ true → Leaves (t.head ∷ []) a b → Alters itself t t call a b (Ok x)
  alters_to x is had left = alters_kept x is had (subst (Leaves (t.head ∷ []) a) (sym (ap (value_after a) is)) left)

  -- it was not
  pub alters_none : (why : Refusal) → call ≡ Err why → b ≡ a → has a t ≡ true → Alters itself t t call a b (Err why)
  alters_none why is same had = grind (arith, common_steps, leaves_same, had_is)

-- a token is had once a block of its message is another
pub had_with_block : (a : Arena) (s : DataStore) (t : TokenValue) (k : ℕ) (c : Block) → has a t ≡ true → has (with_block t.head k c (record a { store = s })) t ≡ true
had_with_block a s t k c had =
    let message = had_message a t had in
    had_again a (with_block t.head k c (record a { store = s })) t message.0 (set (message_at a t.head) k c) message.1
    (get_or-set_same a.held t.head _ None (held_within a t.head message.0 message.1.held))
    (length-set (message_at a t.head) k c ∙ ap (λ o. length (blocks_of o)) message.1.held) refl

-- block k of the message that a token names gets other fields
pub alters_fields : {X : Type 0} (a b : Arena) (t : TokenValue) (k : ℕ) (c : Block) → has a t ≡ true → (call : Given Arena X) (given : X) → b ≡ with_block t.head k c a → call ≡ Ok (given, with_block t.head k c a)
    → Alters itself t t call a b (Ok given)
alters_fields a b t k c had call given now is =
    subst (λ d. Alters itself t t call a d (Ok given)) (sym now)
    (alters_to a (with_block t.head k c a) t call given is (had_with_block a a.store t k c had) (leaves_fields a t.head k c))

-- block k of the message that a token names alone uses its data block, which becomes another
module _ (a b : Arena) (t : TokenValue) (k : ℕ) {x : Block} (own : own_block t.head k a ≡ Ok x) (had : has a t ≡ true) (s : DataStore) (same : (d : ℕ) → d ≢ x.data_number → data_block_at s d ≡ data_block_at a.store d)
    {X : Type 0} (call : Given Arena X) (given : X) where
  pub alters_store : b ≡ record a { store = s } → call ≡ Ok (given, record a { store = s }) → Alters itself t t call a b (Ok given)
  alters_store now is =
      subst (λ c. Alters itself t t call a c (Ok given)) (sym now)
      (alters_to a (record a { store = s }) t call given is had (leaves_with_store a t.head k own s same))

  -- and the block, too
  pub alters_block : (c : Block) → b ≡ with_block t.head k c (record a { store = s }) → call ≡ Ok (given, with_block t.head k c (record a { store = s })) → Alters itself t t call a b (Ok given)
  alters_block c now is =
      subst (λ d. Alters itself t t call a d (Ok given)) (sym now)
      (alters_to a (with_block t.head k c (record a { store = s })) t call given is (had_with_block a s t k c had) (leaves_with_block a t.head k own s same c))

-- bytes are lent
pub lends : {X R : Type 0} (a b : Arena) (t : TokenValue) (closure : List ℕ → R → List ℕ → Type 0) {lent : Result (List ℕ) Refusal} (call : R → List ℕ → Given Arena X) {bytes : List ℕ} (r : R) (result : Result X Refusal)
    → lent ≡ Ok bytes → Edits closure bytes r (λ left. Alters itself t t (call r left) a b result) → Lends itself t closure lent call a b result
lends {R} a b t closure call r result is edits =
    subst (λ (l : Result (List ℕ) Refusal). MatchResult l (λ bs. (x : R) × Edits closure bs x (λ left. Alters itself t t (call x left) a b result)) (λ why. Alters itself t t (Err why) a b result)) (sym is)
    (r, edits)

-- ---- calls on shelves that are refused

module _ {V : Type 0} (arena : V → Arena) (v : V) where
  pub puts_none : (t : TokenValue) (call : Given V (Unit {0})) (why : Refusal) → call ≡ Err why → has (arena v) t ≡ true → Puts arena t call v v (Err (record { why = why; token = t }))
  puts_none t call why is had = grind (arith, common_steps, leaves_same)

  pub takes_none : (call : Given V ℕ) (why : Refusal) → call ≡ Err why → Takes arena call v v (Err why)
  takes_none call why is = grind (arith, common_steps, leaves_same)

  pub takes_any_none : (call : Given V (Option ℕ)) (why : Refusal) → call ≡ Err why → TakesAny arena call v v (Err why)
  takes_any_none call why is = grind (arith, common_steps, leaves_same)

  pub flushes_none : (call : Given V (Unit {0})) (why : Refusal) → call ≡ Err why → Flushes arena call v v (Err why)
  flushes_none call why is = record { after = sym (ap (value_after v) is); answer = sym (ap answer_of is); others = (leaves_same (arena v) []).others }

  pub leaves_blocks : {X : Type 0} (call : Given V X) (w : V) (result : Result X Refusal) → w ≡ value_after v call → result ≡ answer_of call → arena w ≡ arena v → LeavesBlocks arena call v w result
  leaves_blocks call w result after answer same = record { after = after; answer = answer; arena_stays = same }
