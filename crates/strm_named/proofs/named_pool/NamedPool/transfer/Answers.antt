use Rattle.std.proofs.Common.{◌≡◌, ◌∙◌, ℕ, true, List, None, [], ◌∷◌, Result, Ok, Err, refl, sym, ap, subst}
use Rattle.std.proofs.lemmas.Bool.{cond-true}
use Rattle.strm_data.specs.declared.refusal.Refusal.{Refusal}
use Rattle.strm_mblk.specs.declared.token.TokenValue.{TokenValue}
use Rattle.strm_mblk.specs.Arena.{Arena, has}
use Rattle.strm_mblk.specs.BlockCalls as blocks
use Rattle.strm_mblk.specs.Calls.{Gives, Spends}
use Rattle.strm_mblk.specs.Freeing as freeing
use Rattle.strm_mblk.specs.Given.{given_nothing}
use Rattle.strm_pool.specs.PoolValue.{PoolValue, arena, on_arena, with_arena}
use Rattle.strm_named.specs.declared.fault.Fault.{Fault}
use Rattle.strm_named.specs.declared.fault.Fault.TheVariants.{Invalid}
use Rattle.strm_named.specs.declared.name.Name.{Name}
use Rattle.strm_named.specs.NamedCalls.{Does, Outcome, as_named_result, no_message, TransfersNamed, on_name, one_message, outcome_of, result_map}
use Rattle.strm_named.specs.NamedLayout.{Fits, pool_with}
use Rattle.strm_named.specs.NamedValue.{NamedValue, is_valid}
use Rattle.strm_named.specs.Stamps.{IsTokenOf, name_in, token_answered, with_tokens}
use Rattle.strm_named.proofs.Held.{has_stamp}
use Rattle.strm_named.proofs.Shaped.{Called, frees, gives_new, here, seen, tested}
use Rattle.strm_named.proofs.named_pool.NamedPool.transfer.Goals.{in-Ok, in-Err}
use Rattle.strm_named.proofs.named_pool.NamedPool.transfer.Goals as goal

pub give-requires : goal.give-requires
give-requires c = has_stamp c.other.invariant c.in-Ok.ensures.there.others c.in-Ok.made c.in-Ok.ensures.there.had

-- the other pool gives the message anew, or refuses
given : (ps : List ℕ) {v w : NamedValue} {n : Name} {t : TokenValue} {p x r : PoolValue} {xs qs : List ℕ} → pool_with p ps ≡ v → pool_with x xs ≡ w → is_valid v n ≡ true → IsTokenOf n p.arena t → Fits x.arena xs
    → (result : Result TokenValue Refusal) {answer : Result Name Fault} → Gives arena None (on_arena x (blocks.transfer p.arena t.head x.arena)) x r result → qs ≡ with_tokens (token_answered result) xs
    → answer ≡ result_map (name_in qs) (as_named_result result)
    → Does one_message (on_name v n (on_arena w.pool (blocks.transfer v.pool.arena n.head w.pool.arena))) [] w (pool_with r qs) answer
given ps {v} {w} {n} {t} {p} {x} {r} {xs} {qs} view other_view valid of fits result {answer} is stamps told =
    (tested valid (seen (λ (y : NamedValue). on_arena y.pool (blocks.transfer v.pool.arena n.head y.pool.arena)) other_view
    (subst (λ (q : Arena × ℕ). Called one_message (outcome_of (on_arena x (blocks.transfer q.0 q.1 x.arena))) [] (pool_with x xs) r qs answer)
    (λ i. ((view i).pool.arena, of.head i)) (gives_new fits is stamps told)))).does

-- the message is freed here
freed : {v : NamedValue} {n : Name} {t : TokenValue} {p r : PoolValue} {ps qs : List ℕ} → pool_with p ps ≡ v → is_valid v n ≡ true → IsTokenOf n p.arena t → Fits p.arena ps
    → Spends arena t (with_arena p (freeing.with_token_spent p.arena t)) p r → qs ≡ ps
    → Does no_message (outcome_of (given_nothing (with_arena v.pool (freeing.freemsg n.head v.pool.arena)))) (n.head ∷ []) v (pool_with r qs) (Ok tt)
freed {v} {n} {t} {p} {r} {ps} {qs} view valid of fits is stamps =
    let g : Outcome (Unit {0}) = outcome_of (given_nothing (with_arena v.pool (freeing.freemsg n.head v.pool.arena))) in
    let answer : Result (Unit {0}) Fault = Ok tt in
    subst (λ (o : Outcome (Unit {0})). Does no_message o (n.head ∷ []) v (pool_with r qs) answer) (cond-true (is_valid v n) g (Err Invalid) valid)
    (frees fits view valid of (λ h y. with_arena y.pool (freeing.freemsg h y.pool.arena))
    (subst (λ (b : Arena). Spends arena t (with_arena p b) p r) (cond-true (has p.arena t) (freeing.freemsg t.head p.arena) p.arena of.had) is) stamps refl).does

pub returns : goal.returns
returns c =
    let v = c.args.self.now in
    let w = c.args.other.now in
    let n = c.args.name in
    let valid = sym c.has.ensures ∙ c.if-not-has.false in
    let of = here c.self.view_is c.token-token.ensures in
    let call = on_name v n (on_arena w.pool (blocks.transfer v.pool.arena n.head w.pool.arena)) in
    let free = outcome_of (given_nothing (with_arena v.pool (freeing.freemsg n.head v.pool.arena))) in
    let left = pool_with c.transfer.new.self c.self.inside.stamps.items in
    elim c.match-transfer.branch [
      | in-Ok x ↦
          let is = x.in-Ok.ensures in
          subst (λ (y : NamedValue × Result Name Fault). TransfersNamed n call free v left w y.0 y.1) (λ i. (sym x.other-is i, sym x.result-is i)) (record {
            there = given c.self.inside.stamps.items c.self.view_is c.other.view_is valid of c.other.invariant (Ok x.in-Ok.made) is.there x.give.ensures.stamps (ap (λ (m : Name). Ok m) x.give.ensures.name);
            here = freed c.self.view_is valid of c.self.invariant is.here refl;
          })
      | in-Err x ↦
          let is = x.in-Err.ensures in
          subst (λ (y : NamedValue × Result Name Fault). TransfersNamed n call free v left w y.0 y.1) (λ i. (sym x.other-is i, sym x.result-is i)) (record {
            there = given c.self.inside.stamps.items c.self.view_is c.other.view_is valid of c.other.invariant (Err x.in-Err.rejected.why) is.there refl (ap (λ (f : Fault). Err f) x.refused.ensures);
            here = (λ i. pool_with (is.here.1 i) c.self.inside.stamps.items) ∙ c.self.view_is;
          })
    ]
