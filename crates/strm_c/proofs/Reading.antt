-- What a look at a queue copies, and what a transfer leaves.
use Rattle.std.proofs.Common.{◌≡◌, ℕ, List, [], ◌∷◌, ◌++◌, length, take, drop, Result, Ok, Err, refl, subst}
use Rattle.std.specs.Prelude.{◌-◌, IfErr, IfOk, MatchResult, min}
use Rattle.strm_data.specs.declared.refusal.Refusal.{Refusal}
use Rattle.strm_data.specs.DataStore.{DataStore}
use Rattle.strm_mblk.specs.Block.{Message, bytes_of, size_of}
use Rattle.strm_mblk.specs.Given.{answer_map}
use Rattle.strm_pool.specs.PoolValue.{PoolValue}
use Rattle.strm_named.specs.declared.fault.Fault.{Fault}
use Rattle.strm_named.specs.declared.name.Name.{Name}
use Rattle.strm_named.specs.NamedCalls.{Does, Outcome, TransfersNamed, no_message, outcome_of}
use Rattle.strm_named.specs.NamedValue.{NamedValue, Renames}
use Rattle.strm_c.specs.Exports.{after_transfer, buffer_with_message}

-- a buffer, by the clauses of the call that read a queued message
pub queued_read : (s : DataStore) (found : Result Message Refusal) (at : ℕ) (old new : List ℕ) (answer : Result ℕ Refusal) → answer ≡ answer_map (λ m. min (length old) (size_of m - at)) found
    → ((m : Message) (n : ℕ) → found ≡ Ok m → answer ≡ Ok n → new ≡ take n (drop at (bytes_of s m)) ++ drop n old) → IfErr answer (λ why. new ≡ old) → new ≡ buffer_with_message s found at old
queued_read s (Ok m) at old new answer is read kept = read m (min (length old) (size_of m - at)) refl is
queued_read s (Err why) at old new answer is read kept = subst (λ (r : Result ℕ Refusal). IfErr r (λ w. new ≡ old)) is kept

-- the pool that a message was to be transferred from, and its names
pub record Left (n : Name) (outcome : Outcome ℕ) (left : PoolValue) (v x : NamedValue) : Type 0 where
  pub after : x ≡ after_transfer v outcome left
  pub names : IfOk outcome (λ given. Renames (n.head ∷ []) [] v x)

pub left_of : (n : Name) (outcome : Outcome ℕ) (left : PoolValue) (v x w y : NamedValue) (answer : Result Name Fault)
    → TransfersNamed n outcome (outcome_of (Ok (tt, left))) v x w y answer → Left n outcome left v x
left_of n (Ok given) left v x w y answer call =
    let freed : Outcome (Unit {0}) = Ok (tt, left) in
    let here : Does no_message freed (n.head ∷ []) v x (Ok tt) =
    subst (λ (r : Result Name Fault). MatchResult r (λ made. Does no_message freed (n.head ∷ []) v x (Ok tt)) (λ fault. x ≡ v)) call.there.told call.here in
    record { after = here.after; names = here.names }
left_of n (Err fault) left v x w y answer call =
    record {
      after =
          subst (λ (r : Result Name Fault). MatchResult r (λ made. Does no_message (outcome_of (Ok (tt, left))) (n.head ∷ []) v x (Ok tt)) (λ f. x ≡ v)) call.there.told call.here;
      names = tt;
    }
