-- The parts own what the pointer owned.
use Rattle.std.proofs.Common.{◌≡◌, ◌∙◌, List, [], ◌∷◌, ◌++◌, refl, sym, ap}
use Rattle.std.specs.Prelude.{IsSome, Some}
use Rattle.strm_c.proofs.Machine.{Fn, Val, SProp, emp, id⊢, never, fst∗, WpFn, fact, fact_i, tables, bare}
use Rattle.strm_c.proofs.Steps.{sem, ‵, raw, ◌⊛◌, prop, ◌$◌, ◌∵◌, !, qed, by, move, drop, use0, use1, split, regoal, rewrite, fsplit, fjoin, whole, sub, agg, stop, fld, of_opd, no_more, and_then, returns, enter, alloc_all, pass_all, free_all, look_at, get, get_in, sets, nothing, heard, box_in, proved_at, leaves}
use Rattle.strm_c.proofs.Meaning.{owns, Ptr, block_ptr, null_ptr, in_a_block, types_at, alive, Stays, stay_dropped, walk_of, Goes-blank, token, handle_tells, box_owns, D, R, τ, word, box_typed}
use Rattle.strm_c.specs.Holding.{held}
use Rattle.strm_c.proofs.AsBox.{E}
use Rattle.strm_c.proofs.Words.{pointer_val, pointer_told, slot_at, there_is}
use Rattle.strm_c.specs.contracts.parts.Parts as parts
use Rattle.strm_c.specs.contracts.pointer.PoolPointer.into_parts.{ended, clauses}
use Rattle.strm_c.specs.contracts.pointer.PoolPointer.into_parts.Key.{name as #self}
use Rattle.strm_c.proofs.pointer.PoolPointer.into_parts.Statement.{statement}
use Rattle.strm_c.proofs.pointer.PoolPointer.into_parts.Code as compiled

pub into_parts_spec : {M : Type 1} → statement M
into_parts_spec 𝓤 𝓛 𝓜 𝓡 wired =
    let H = 𝓛.H in
    let fn : Fn = compiled.function in
    let c = clauses 𝓛 𝓜.mem 𝓡.returns in
    let C = (tables 𝓤 H 𝓜 𝓡 𝓡.env).C in
    let Λ = (tables 𝓤 H 𝓜 𝓡 𝓡.env).Λ in
    let stays : Stays ended.signature.params ended.kept = (stay_dropped (slot_at 0 ended.signature.params) ended.kept.0, (stay_dropped (slot_at 1 ended.signature.params) ended.kept.1.0, tt)) in
    proved_at 𝓛 ended stays c 𝓜 𝓡 (Goes-blank 𝓛 0 (slot_at 0 ended.signature.params) ended.kept.0 (λ κs x f. tt), (Goes-blank 𝓛 0 (slot_at 1 ended.signature.params) ended.kept.1.0 (λ κs x f. tt), tt)) #self fn (compiled.unfolded 𝓤 H 𝓜 𝓡 wired) (λ z are.
    let Post : Val → SProp 𝓤 = (walk_of 𝓛 ended stays c).post z in
    let a = z.0.3 in let vss = z.0.4 in let x = a.0 in let heap = a.1.0 in
    let told = pointer_told x.raw vss.0 are.0.0 in
    qed 𝓛 ((raw (alive 𝓛 ended.signature z.0.0 z.0.1) ⊛ ‵ (owns (types_at ended.signature.params z.0.0) a vss)) ∷ raw (fact 𝓤 (IsSome x.named)) ∷ []) ∵ move ! (1 ∷ []) $ heard ! (IsSome x.named) (λ some. split ! $ move ! (1 ∷ []) $
    let there = there_is x.named some in let y = there.0 in
    fsplit ! $ fsplit ! $ drop ! $ rewrite ! 0 (λ m. ‵ (held x.raw m)) there.1 refl $
    use1 𝓛 (‵ (box_owns (token E.al heap) (R E) x.raw y)) (id⊢ 𝓤 _) $
    in_a_block ! x.raw (λ p. box_owns (token E.al heap) (R E) p y) (fst∗ 𝓤 (never 𝓤) (sem 𝓛 (token E.al heap (bare (τ E)) null_ptr))) (λ b o e. move ! (1 ∷ []) $
    fsplit ! $ handle_tells E.al ! heap vss.1.0 (λ hv ea fa. move ! (1 ∷ []) $ drop ! $ move ! (1 ∷ 0 ∷ []) $
    let v : D E = record { ptr = block_ptr b o; alloc = heap; value = y } in
    let made : (parts.the_row (R E) E.al.row E.al.g).Denot = record { ptr = block_ptr b o; alloc = heap; value = y } in
    -- [the value with its token; the allocator; the tokens]
    regoal ! (λ (us : List Val). prop (WpFn 𝓤 H C Λ fn us Post)) (λ i. (told ∙ ap (λ (p : Ptr). pointer_val p ∷ []) e) i ++ (ea i ++ [])) refl $
    enter ! C Λ fn (pointer_val (block_ptr b o) ∷ hv ∷ []) Post $
    alloc_all ! (λ l. pass_all ! refl ((tt, (tt, tt)), (fa, tt)) $
    sets ! (of_opd ! (get_in ! (fld ! refl (stop !)) (sub ! 0 refl (whole !)))) refl (tt, tt) $
    sets ! (of_opd ! (get ! refl)) refl (tt, tt) $
    sets ! (agg ! (and_then ! (get ! refl) (and_then ! (get ! refl) (no_more !)))) refl (box_typed E hv b o fa) $
    returns ! (look_at ! 0 refl) $ free_all ! refl $ fsplit ! $ box_in E ! v b o y refl refl $
    use1 𝓛 (‵ ((parts.the_row (R E) E.al.row E.al.g).own_val made (word E hv b o ∷ []))) (id⊢ 𝓤 _) $
    use0 𝓛 (raw (fact 𝓤 (Some y ≡ x.named))) (fact_i 𝓤 (Some y ≡ x.named) (emp 𝓤) (sym there.1)) $ nothing ! $ nothing ! $ nothing ! $ fjoin ! $ move ! (1 ∷ 0 ∷ []) $ fjoin ! $ move ! (3 ∷ 0 ∷ 2 ∷ 1 ∷ []) $
    by ! (leaves 𝓛 ended stays c z (word E hv b o) made (tt, (tt, tt)) (tt, (tt, tt))))))))
