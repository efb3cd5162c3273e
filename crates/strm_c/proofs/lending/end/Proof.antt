-- The lifetime ends, and the pool comes back.
use Rattle.std.proofs.Common.{◌≡◌, ◌∙◌, ℕ, List, [], ◌∷◌, ◌++◌, refl, ap}
use Rattle.std.specs.Prelude.{IsSome, Some}
use base.Fraction.{full_share}
use base.Fml.{Share, ftrue, flft}
use types.Kit.{keep}
use types.Tokens.{lft_end, lent_back}
use denote.Memory.{shared_of}
use denote.RawPtr.{in_block, lies_at}
use denote.Struct.Lending.{lent_at}
use Rattle.strm_c.proofs.Machine.{Fn, Val, SProp, emp, id⊢, never, fst∗, WpFn, fact, fact_i, tables}
use Rattle.strm_c.proofs.Steps.{sem, ‵, raw, ◌⊛◌, prop, ◌$◌, ◌∵◌, !, qed, by, move, drop, use0, use1, split, regoal, rewrite, fsplit, fjoin, whole, sub, agg, stop, fld, of_opd, no_more, and_then, returns, enter, alloc_all, pass_all, free_all, look_at, get, get_in, sets, nothing, heard, proved_at, leaves}
use Rattle.strm_c.proofs.Meaning.{owns, Ptr, block_ptr, in_a_block, types_at, alive, Stays, stay_dropped, walk_of, Goes-blank}
use Rattle.strm_c.proofs.Words.{pointer_val, pointer_own, pointer_told, pointer_made, slot_at, there_is}
use Rattle.strm_c.proofs.Readers.{reader_out}
use Rattle.strm_named.specs.contracts.named_pool.NamedPool.{the_row as V}
use Rattle.strm_c.specs.Holding.{held}
use Rattle.strm_c.specs.contracts.pointer.PoolPointer.{the_row as Pointer}
use Rattle.strm_c.specs.contracts.lending.end.{ended, clauses}
use Rattle.strm_c.specs.contracts.lending.end.Key.{name as #self}
use Rattle.strm_c.proofs.lending.end.Statement.{statement}
use Rattle.strm_c.proofs.lending.end.Code as compiled

pub end_spec : {M : Type 1} → statement M
end_spec 𝓤 𝓛 𝓜 𝓡 wired =
    let H = 𝓛.H in
    let fn : Fn = compiled.function in
    let c = clauses 𝓛 𝓜.mem 𝓡.returns in
    let C = (tables 𝓤 H 𝓜 𝓡 𝓡.env).C in
    let Λ = (tables 𝓤 H 𝓜 𝓡 𝓡.env).Λ in
    let stays : Stays ended.signature.params ended.kept = (stay_dropped (slot_at 0 ended.signature.params) ended.kept.0, (stay_dropped (slot_at 1 ended.signature.params) ended.kept.1.0, tt)) in
    proved_at 𝓛 ended stays c 𝓜 𝓡 (Goes-blank 𝓛 0 (slot_at 0 ended.signature.params) ended.kept.0 (λ κs x f. tt), (Goes-blank 𝓛 0 (slot_at 1 ended.signature.params) ended.kept.1.0 (λ κs x f. tt), tt)) #self fn (compiled.unfolded 𝓤 H 𝓜 𝓡 wired) (λ z are.
    let Post : Val → SProp 𝓤 = (walk_of 𝓛 ended stays c).post z in
    let a = z.0.3 in let vss = z.0.4 in let l = a.0 in let r = a.1.0 in let κ = l.life ∷ [] in
    let told = pointer_told l.raw vss.0 are.0.0 in let told' = pointer_told r.raw vss.1.0 are.1.0.0 in
    let Asked = IsSome r.named × (r.life ≡ l.life) × (r.share ≡ full_share) in
    qed 𝓛 ((raw (alive 𝓛 ended.signature z.0.0 z.0.1) ⊛ ‵ (owns (types_at ended.signature.params z.0.0) a vss)) ∷ raw (fact 𝓤 Asked) ∷ []) ∵ move ! (1 ∷ []) $ heard ! Asked (λ is. split ! $ move ! (1 ∷ []) $
    let there = there_is r.named is.0 in let y = there.0 in
    fsplit ! $ fsplit ! $ drop ! $ fsplit ! $ in_a_block ! l.raw (λ p. in_block p ftrue) (id⊢ 𝓤 _) (λ b o e. drop ! $ fsplit ! $ move ! (2 ∷ []) $ fsplit ! $
    use1 𝓛 (‵ (flft (r.life ∷ []) r.share) ⊛ ‵ (lent_at V r.raw y (r.life ∷ []))) (reader_out 𝓛 r y there.1 vss.1.0) $ split ! $ move ! (1 ∷ []) $
    in_a_block ! r.raw (λ p. lent_at V p y (r.life ∷ [])) (fst∗ 𝓤 (never 𝓤) (sem 𝓛 (shared_of V y 0 0 (r.life ∷ [])))) (λ b' o' e'. drop ! $
    rewrite ! 0 (λ (n : ℕ). ‵ (flft (n ∷ []) r.share)) is.1 refl $ rewrite ! 0 (λ (s : Share). ‵ (flft κ s)) is.2 refl $
    -- [the token; nothing; what comes back; the right to free the block; the tokens]
    let word = pointer_val (block_ptr b o) in let word' = pointer_val (block_ptr b' o') in
    let pool : Pointer.Denot = record { raw = l.raw; named = Some l.named } in
    let in_words = λ (p : Ptr). pointer_val p ∷ [] in
    regoal ! (λ (us : List Val). prop (WpFn 𝓤 H C Λ fn us Post)) (λ i. (told ∙ ap in_words e) i ++ ((told' ∙ ap in_words e') i ++ [])) refl $
    enter ! C Λ fn (word ∷ word' ∷ []) Post $ alloc_all ! (λ n. pass_all ! refl ((tt, (tt, tt)), ((tt, (tt, tt)), tt)) $
    sets ! (of_opd ! (get_in ! (fld ! refl (stop !)) (sub ! 0 refl (whole !)))) refl (tt, tt) $
    sets ! (agg ! (and_then ! (get ! refl) (no_more !))) refl (tt, (tt, tt)) $
    lft_end ! tt $ move ! (0 ∷ 2 ∷ []) $ lent_back ! tt {P = lies_at V full_share l.raw l.named} $
    returns ! (look_at ! 0 refl) $ free_all ! refl $
    move ! (0 ∷ 2 ∷ []) $ fjoin ! $ use1 𝓛 (‵ (held l.raw (Some l.named))) (id⊢ 𝓤 _) $
    use0 𝓛 (‵ (pointer_own l.raw (pointer_val l.raw ∷ []))) (pointer_made 𝓛 l.raw) $ fjoin ! $
    use1 𝓛 (‵ (Pointer.own_val pool (pointer_val l.raw ∷ []))) (id⊢ 𝓤 _) $
    rewrite ! 0 (λ (p : Ptr). ‵ (Pointer.own_val pool (pointer_val p ∷ []))) e refl $
    use0 𝓛 (raw (fact 𝓤 ((Some l.named ≡ Some l.named) × (l.raw ≡ l.raw)))) (fact_i 𝓤 _ (emp 𝓤) (refl, refl)) $
    nothing ! $ nothing ! $ nothing ! $ fjoin ! $ move ! (1 ∷ 0 ∷ []) $ fjoin ! $ keep ! (4 ∷ 0 ∷ 2 ∷ 1 ∷ []) $
    by ! (leaves 𝓛 ended stays c z word pool (tt, (tt, tt)) (tt, (tt, tt))))))))
