-- A pointer that owns nothing is made of nothing.
use Rattle.std.proofs.Common.{◌≡◌, [], ◌∷◌, refl, lit<}
use Rattle.std.specs.Prelude.{None}
use Rattle.strm_c.proofs.Machine.{Fn, Val, SProp, emp, id⊢, ftrue, fact, fact_i, tables}
use Rattle.strm_c.proofs.Steps.{‵, raw, ◌⊛◌, ◌$◌, ◌∵◌, !, qed, by, move, drop, use0, use1, split, fjoin, agg, lit, no_more, and_then, returns, enter, alloc_all, pass_all, free_all, look_at, sets, nothing, proved_at, leaves}
use Rattle.strm_c.proofs.Meaning.{null_ptr, alive, Stays, walk_of}
use Rattle.strm_c.proofs.Words.{pointer_val, pointer_own, pointer_made}
use Rattle.strm_c.specs.contracts.pointer.PoolPointer as pointer
use Rattle.strm_c.specs.contracts.pointer.PoolPointer.none.{ended, clauses}
use Rattle.strm_c.specs.contracts.pointer.PoolPointer.none.Key.{name as #self}
use Rattle.strm_c.proofs.pointer.PoolPointer.none.Statement.{statement}
use Rattle.strm_c.proofs.pointer.PoolPointer.none.Code as compiled

pub none_spec : {M : Type 1} → statement M
none_spec 𝓤 𝓛 𝓜 𝓡 wired =
    let H = 𝓛.H in
    let fn : Fn = compiled.function in
    let c = clauses 𝓛 𝓜.mem 𝓡.returns in
    let C = (tables 𝓤 H 𝓜 𝓡 𝓡.env).C in
    let Λ = (tables 𝓤 H 𝓜 𝓡 𝓡.env).Λ in
    let stays : Stays ended.signature.params ended.kept = tt in
    proved_at 𝓛 ended stays c 𝓜 𝓡 tt #self fn (compiled.unfolded 𝓤 H 𝓜 𝓡 wired) (λ z are.
    let Post : Val → SProp 𝓤 = (walk_of 𝓛 ended stays c).post z in
    let x : (pointer.the_row).Denot = record { raw = null_ptr; named = None } in
    qed 𝓛 ((raw (alive 𝓛 ended.signature z.0.0 z.0.1) ⊛ ‵ ftrue) ∷ ‵ ftrue ∷ []) ∵ move ! (1 ∷ []) $ drop ! $ split ! $ move ! (1 ∷ []) $ drop ! $
    enter ! C Λ fn [] Post $ alloc_all ! (λ l. pass_all ! refl tt $
    sets ! (agg ! (and_then ! (lit ! tt) (no_more !))) refl (tt, (record { fits = lit< tt }, tt)) $
    returns ! (look_at ! 0 refl) $ free_all ! refl $
    nothing ! $ use0 𝓛 (‵ (pointer_own null_ptr (pointer_val null_ptr ∷ []))) (pointer_made 𝓛 null_ptr) $ fjoin ! $
    use1 𝓛 (‵ ((pointer.the_row).own_val x (pointer_val null_ptr ∷ []))) (id⊢ 𝓤 _) $
    use0 𝓛 (raw (fact 𝓤 (x.named ≡ None))) (fact_i 𝓤 (x.named ≡ None) (emp 𝓤) refl) $ nothing ! $ move ! (3 ∷ 0 ∷ 2 ∷ 1 ∷ []) $
    by ! (leaves 𝓛 ended stays c z (pointer_val null_ptr) x tt tt)))
