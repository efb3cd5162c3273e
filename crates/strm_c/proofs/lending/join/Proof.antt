-- The tokens are joined.
use Rattle.std.proofs.Common.{◌≡◌, ◌∙◌, List, [], ◌∷◌, ◌++◌, refl, sym, ap}
use Rattle.std.specs.Prelude.{IsSome}
use base.Fraction.{left, right}
use base.Fml.{Share, flft}
use types.Kit.{use2, keep}
use denote.Memory.{shared_of}
use denote.Struct.Lending.{lent_at}
use Rattle.strm_c.proofs.Machine.{Fn, Val, SProp, emp, never, fst∗, WpFn, fact, fact_i, tables}
use Rattle.strm_c.proofs.Steps.{sem, ‵, raw, ◌⊛◌, prop, ◌$◌, ◌∵◌, !, qed, by, move, use0, use1, split, regoal, rewrite, fsplit, fjoin, whole, sub, agg, stop, fld, of_opd, no_more, and_then, returns, enter, alloc_all, pass_all, free_all, look_at, get, get_in, sets, nothing, heard, proved_at, leaves}
use Rattle.strm_c.proofs.Meaning.{owns, Ptr, block_ptr, in_a_block, types_at, alive, Stays, stay_dropped, walk_of, Goes-blank}
use Rattle.strm_c.proofs.Words.{pointer_val, pointer_told, slot_at, there_is}
use Rattle.strm_c.proofs.Readers.{reader_out, reader_in}
use Rattle.strm_named.specs.contracts.named_pool.NamedPool.{the_row as V}
use Rattle.strm_c.specs.Viewing.{with_share}
use Rattle.strm_c.specs.contracts.view_pointer.ViewPointer.{the_row as Reader}
use Rattle.strm_c.specs.contracts.lending.join.{ended, clauses}
use Rattle.strm_c.specs.contracts.lending.join.Key.{name as #self}
use Rattle.strm_c.proofs.lending.join.Statement.{statement}
use Rattle.strm_c.proofs.lending.join.Code as compiled

pub join_spec : {M : Type 1} → statement M
join_spec 𝓤 𝓛 𝓜 𝓡 wired =
    let H = 𝓛.H in
    let fn : Fn = compiled.function in
    let c = clauses 𝓛 𝓜.mem 𝓡.returns in
    let C = (tables 𝓤 H 𝓜 𝓡 𝓡.env).C in
    let Λ = (tables 𝓤 H 𝓜 𝓡 𝓡.env).Λ in
    let stays : Stays ended.signature.params ended.kept = (stay_dropped (slot_at 0 ended.signature.params) ended.kept.0, (stay_dropped (slot_at 1 ended.signature.params) ended.kept.1.0, tt)) in
    proved_at 𝓛 ended stays c 𝓜 𝓡 (Goes-blank 𝓛 0 (slot_at 0 ended.signature.params) ended.kept.0 (λ κs x f. tt), (Goes-blank 𝓛 0 (slot_at 1 ended.signature.params) ended.kept.1.0 (λ κs x f. tt), tt)) #self fn (compiled.unfolded 𝓤 H 𝓜 𝓡 wired) (λ z are.
    let Post : Val → SProp 𝓤 = (walk_of 𝓛 ended stays c).post z in
    let a = z.0.3 in let vss = z.0.4 in let x = a.0 in let other = a.1.0 in let w = z.1 in let κ = x.life ∷ [] in
    let told = pointer_told x.raw vss.0 are.0.0 in let told' = pointer_told other.raw vss.1.0 are.1.0.0 in
    let Asked = IsSome x.named × (other ≡ with_share x (right w)) × (x.share ≡ left w) in
    qed 𝓛 ((raw (alive 𝓛 ended.signature z.0.0 z.0.1) ⊛ ‵ (owns (types_at ended.signature.params z.0.0) a vss)) ∷ raw (fact 𝓤 Asked) ∷ []) ∵ move ! (1 ∷ []) $ heard ! Asked (λ is. split ! $ move ! (1 ∷ []) $
    let there = there_is x.named is.0 in let y = there.0 in
    fsplit ! $ use1 𝓛 (‵ (flft κ x.share) ⊛ ‵ (lent_at V x.raw y κ)) (reader_out 𝓛 x y there.1 vss.0) $ split ! $ move ! (1 ∷ []) $
    in_a_block ! x.raw (λ p. lent_at V p y κ) (fst∗ 𝓤 (never 𝓤) (sem 𝓛 (shared_of V y 0 0 κ))) (λ b o e.
    rewrite ! 0 (λ (p : Ptr). ‵ (lent_at V p y κ)) (sym e) refl $ move ! (2 ∷ []) $ fsplit ! $
    rewrite ! 0 (λ (r : Reader.Denot). ‵ (Reader.own_val r vss.1.0)) is.1 refl $
    use1 𝓛 (‵ (flft κ (right w)) ⊛ ‵ (lent_at V x.raw y κ)) (reader_out 𝓛 (with_share x (right w)) y there.1 vss.1.0) $ split ! $
    -- [a token; the pool, lent; nothing; the pool, lent; the other token; the tokens]
    let word = pointer_val (block_ptr b o) in let one = with_share x w in
    let e' : other.raw ≡ block_ptr b o = ap (λ (r : Reader.Denot). r.raw) is.1 ∙ e in
    let in_words = λ (r : Ptr). pointer_val r ∷ [] in
    regoal ! (λ (us : List Val). prop (WpFn 𝓤 H C Λ fn us Post)) (λ i. (told ∙ ap in_words e) i ++ ((told' ∙ ap in_words e') i ++ [])) refl $
    enter ! C Λ fn (word ∷ word ∷ []) Post $ alloc_all ! (λ l. pass_all ! refl ((tt, (tt, tt)), ((tt, (tt, tt)), tt)) $
    sets ! (of_opd ! (get_in ! (fld ! refl (stop !)) (sub ! 0 refl (whole !)))) refl (tt, tt) $
    sets ! (agg ! (and_then ! (get ! refl) (no_more !))) refl (tt, (tt, tt)) $
    returns ! (look_at ! 0 refl) $ free_all ! refl $
    move ! (4 ∷ 0 ∷ []) $ rewrite ! 0 (λ (s : Share). ‵ (flft κ s)) is.2 refl $ use2 𝓛 (‵ (flft κ w)) (𝓛.lfts.lft_join κ w) $
    use2 𝓛 (‵ (Reader.own_val one (word ∷ []))) (reader_in 𝓛 one y there.1 (block_ptr b o) e) $
    use0 𝓛 (raw (fact 𝓤 (one ≡ one))) (fact_i 𝓤 _ (emp 𝓤) refl) $
    nothing ! $ nothing ! $ nothing ! $ fjoin ! $ move ! (1 ∷ 0 ∷ []) $ fjoin ! $ keep ! (5 ∷ 0 ∷ 2 ∷ 1 ∷ []) $
    by ! (leaves 𝓛 ended stays c z word one (tt, (tt, tt)) (tt, (tt, tt)))))))
