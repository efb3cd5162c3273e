-- The pointer owns what the parts of the box owned.
use Rattle.std.proofs.Common.{◌≡◌, List, [], ◌∷◌, ◌++◌, refl}
use Rattle.std.specs.Prelude.{Some}
use Rattle.strm_c.proofs.Machine.{Fn, Val, SProp, emp, id⊢, ftrue, WpFn, fact, fact_i, tables}
use Rattle.strm_c.proofs.Steps.{‵, raw, ◌⊛◌, prop, ◌$◌, ◌∵◌, !, qed, by, move, drop, use0, use1, split, regoal, fsplit, fjoin, whole, sub, agg, stop, fld, of_opd, no_more, and_then, returns, enter, alloc_all, pass_all, free_all, look_at, get, get_in, sets, nothing, box_out, proved_at, leaves}
use Rattle.strm_c.proofs.Meaning.{owns, block_ptr, types_at, alive, Stays, stay_dropped, walk_of, Goes-blank, D, B, word, box_typed}
use Rattle.strm_c.specs.Holding as holding
use Rattle.strm_c.proofs.AsBox.{E}
use Rattle.strm_c.proofs.Words.{pointer_val, pointer_own, pointer_made, slot_at}
use Rattle.strm_c.specs.contracts.pointer.PoolPointer as pointer
use Rattle.strm_c.specs.contracts.pointer.PoolPointer.of.{ended, clauses}
use Rattle.strm_c.specs.contracts.pointer.PoolPointer.of.Key.{name as #self}
use Rattle.strm_c.proofs.pointer.PoolPointer.of.Statement.{statement}
use Rattle.strm_c.proofs.pointer.PoolPointer.of.Code as compiled

pub of_spec : {M : Type 1} → statement M
of_spec 𝓤 𝓛 𝓜 𝓡 wired =
    let H = 𝓛.H in
    let fn : Fn = compiled.function in
    let c = clauses 𝓛 𝓜.mem 𝓡.returns in
    let C = (tables 𝓤 H 𝓜 𝓡 𝓡.env).C in
    let Λ = (tables 𝓤 H 𝓜 𝓡 𝓡.env).Λ in
    let stays : Stays ended.signature.params ended.kept = (stay_dropped (slot_at 0 ended.signature.params) ended.kept.0, tt) in
    proved_at 𝓛 ended stays c 𝓜 𝓡 (Goes-blank 𝓛 0 (slot_at 0 ended.signature.params) ended.kept.0 (λ κs x f. tt), tt) #self fn (compiled.unfolded 𝓤 H 𝓜 𝓡 wired) (λ z are.
    let Post : Val → SProp 𝓤 = (walk_of 𝓛 ended stays c).post z in
    let a = z.0.3 in let vss = z.0.4 in
    let v : D E = record { ptr = a.0.ptr; alloc = a.0.alloc; value = a.0.value } in
    qed 𝓛 ((raw (alive 𝓛 ended.signature z.0.0 z.0.1) ⊛ ‵ (owns (types_at ended.signature.params z.0.0) a vss)) ∷ ‵ ftrue ∷ []) ∵ move ! (1 ∷ []) $ drop ! $ split ! $ move ! (1 ∷ []) $
    fsplit ! $ use1 𝓛 (‵ ((B E).own_val v vss.0)) (id⊢ 𝓤 _) $ box_out E ! v vss.0 (λ b o hv e ws fa. fjoin ! $
    let x : (pointer.the_row).Denot = record { raw = block_ptr b o; named = Some v.value } in
    use1 𝓛 (‵ (holding.held (block_ptr b o) (Some v.value))) (id⊢ 𝓤 _) $ move ! (1 ∷ 2 ∷ []) $ drop ! $ drop ! $
    -- [the value with its token; the tokens]
    regoal ! (λ (us : List Val). prop (WpFn 𝓤 H C Λ fn (us ++ []) Post)) ws refl $
    enter ! C Λ fn (word E hv b o ∷ []) Post $ alloc_all ! (λ l. pass_all ! refl (box_typed E hv b o fa, tt) $
    sets ! (of_opd ! (get_in ! (fld ! refl (stop !)) (sub ! 0 refl (whole !)))) refl (tt, tt) $
    sets ! (of_opd ! (get ! refl)) refl (tt, tt) $
    sets ! (agg ! (and_then ! (get ! refl) (no_more !))) refl (tt, (tt, tt)) $
    returns ! (look_at ! 0 refl) $ free_all ! refl $
    use0 𝓛 (‵ (pointer_own (block_ptr b o) (pointer_val (block_ptr b o) ∷ []))) (pointer_made 𝓛 (block_ptr b o)) $ fjoin ! $
    use1 𝓛 (‵ ((pointer.the_row).own_val x (pointer_val (block_ptr b o) ∷ []))) (id⊢ 𝓤 _) $
    use0 𝓛 (raw (fact 𝓤 (x.named ≡ Some v.value))) (fact_i 𝓤 (x.named ≡ Some v.value) (emp 𝓤) refl) $ nothing ! $ nothing ! $ fjoin ! $ move ! (3 ∷ 0 ∷ 2 ∷ 1 ∷ []) $
    by ! (leaves 𝓛 ended stays c z (pointer_val (block_ptr b o)) x (tt, tt) (tt, tt)))))
