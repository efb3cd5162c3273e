-- The pool is lent for a new lifetime. The reader has that lifetime's whole token, the lender what comes back.
use Rattle.std.proofs.Common.{◌≡◌, ◌∙◌, List, [], ◌∷◌, ◌++◌, refl, sym, ap}
use Rattle.std.specs.Prelude.{IsSome, Some}
use base.Fraction.{full_share}
use base.Fml.{Incl-refl, flft}
use contract.BorrowLft.{⊑_static}
use types.Tokens.{lft_new, bor_new}
use types.Kit.{use2, keep, fpack}
use denote.RattleType.{Valss}
use denote.RawPtr.{lies_at}
use denote.Struct.Struct.{within}
use denote.Struct.Declared.{shape}
use denote.Struct.Tuple.{tuple_type}
use denote.Struct.Lending.{lent_at, Lends-lies}
use Rattle.strm_c.proofs.Machine.{Fn, Val, SProp, emp, id⊢, never, fst∗, WpFn, fact, fact_i, tables, bare, vstruct, of_list}
use Rattle.strm_c.proofs.Steps.{sem, ‵, raw, ◌⊛◌, prop, ◌$◌, ◌∵◌, !, qed, by, move, drop, use0, use1, split, later, await, regoal, rewrite, fsplit, fjoin, feq_i, whole, sub, agg, stop, fld, of_opd, no_more, and_then, returns, enter, alloc_all, pass_all, free_all, look_at, get, get_in, sets, nothing, heard, proved_at, leaves}
use Rattle.strm_c.proofs.Meaning.{owns, Ptr, block_ptr, null_ptr, in_a_block, types_at, alive, Stays, stay_dropped, walk_of, Goes-blank, box_owns}
use Rattle.strm_c.proofs.Words.{pointer_val, pointer_own, pointer_told, pointer_made, slot_at, there_is}
use denote.Memory.{lone}
use Rattle.std_heap.specs.contracts.GlobalAllocator.TheImpl.{ghosts}
use Rattle.strm_named.specs.contracts.named_pool.NamedPool.{the_row as V}
use Rattle.strm_named.proofs.named_pool.NamedPool.TheLaws.{the_row_laws}
use Rattle.strm_c.specs.Holding.{heap, held}
use Rattle.strm_c.specs.Rights.{lender_owns, reads}
use Rattle.strm_c.specs.contracts.view_pointer.ViewPointer.{the_row as Reader}
use Rattle.strm_c.specs.contracts.lending.Lender.{the_row as Lender}
use Rattle.strm_c.specs.contracts.lending.lend.{ended, clauses}
use Rattle.strm_c.specs.contracts.lending.lend.Key.{name as #self}
use Rattle.strm_c.proofs.lending.lend.Statement.{statement}
use Rattle.strm_c.proofs.lending.lend.Code as compiled

pub lend_spec : {M : Type 1} → statement M
lend_spec 𝓤 𝓛 𝓜 𝓡 wired =
    let H = 𝓛.H in
    let fn : Fn = compiled.function in
    let c = clauses 𝓛 𝓜.mem 𝓡.returns in
    let C = (tables 𝓤 H 𝓜 𝓡 𝓡.env).C in
    let Λ = (tables 𝓤 H 𝓜 𝓡 𝓡.env).Λ in
    let stays : Stays ended.signature.params ended.kept = (stay_dropped (slot_at 0 ended.signature.params) ended.kept.0, tt) in
    proved_at 𝓛 ended stays c 𝓜 𝓡 (Goes-blank 𝓛 0 (slot_at 0 ended.signature.params) ended.kept.0 (λ κs x f. tt), tt) #self fn (compiled.unfolded 𝓤 H 𝓜 𝓡 wired) (λ z are.
    let Post : Val → SProp 𝓤 = (walk_of 𝓛 ended stays c).post z in
    let a = z.0.3 in let vss = z.0.4 in let x = a.0 in
    let told = pointer_told x.raw vss.0 are.0.0 in
    qed 𝓛 ((raw (alive 𝓛 ended.signature z.0.0 z.0.1) ⊛ ‵ (owns (types_at ended.signature.params z.0.0) a vss)) ∷ raw (fact 𝓤 (IsSome x.named)) ∷ []) ∵ move ! (1 ∷ []) $ heard ! (IsSome x.named) (λ some. split ! $ move ! (1 ∷ []) $
    let there = there_is x.named some in let y = there.0 in
    fsplit ! $ fsplit ! $ drop ! $ rewrite ! 0 (λ m. ‵ (held x.raw m)) there.1 refl $
    use1 𝓛 (‵ (box_owns (ghosts.dealloc_token heap) V x.raw y)) (id⊢ 𝓤 _) $
    in_a_block ! x.raw (λ p. box_owns (ghosts.dealloc_token heap) V p y) (fst∗ 𝓤 (never 𝓤) (sem 𝓛 (ghosts.dealloc_token heap (bare (lone V.mir)) null_ptr))) (λ b o e. fsplit ! $
    let p = block_ptr b o in
    let word = pointer_val p in
    let both = vstruct (of_list (word ∷ word ∷ [])) in
    -- [the pool; the right to free its block; nothing; the tokens]
    regoal ! (λ (us : List Val). prop (WpFn 𝓤 H C Λ fn (us ++ []) Post)) (told ∙ ap (λ (r : Ptr). pointer_val r ∷ []) e) refl $
    enter ! C Λ fn (word ∷ []) Post $ alloc_all ! (λ l. pass_all ! refl ((tt, (tt, tt)), tt) $
    sets ! (of_opd ! (get_in ! (fld ! refl (stop !)) (sub ! 0 refl (whole !)))) refl (tt, tt) $
    sets ! (agg ! (and_then ! (get ! refl) (no_more !))) refl (tt, (tt, tt)) $
    sets ! (agg ! (and_then ! (get ! refl) (no_more !))) refl (tt, (tt, tt)) $
    sets ! (agg ! (and_then ! (get ! refl) (and_then ! (get ! refl) (no_more !)))) refl (tt, ((tt, tt), ((tt, tt), tt))) $
    lft_new ! tt (λ life.
    let κ = life ∷ [] in
    let reader : Reader.Denot = record { raw = p; named = Some y; life = life; share = full_share } in
    let lender : Lender.Denot = record { raw = p; named = y; life = life } in
    move ! (1 ∷ []) $ bor_new ! tt κ {P = lies_at V full_share p y} $ move ! (0 ∷ 2 ∷ []) $
    use2 𝓛 (later (‵ (lent_at V p y κ) ⊛ ‵ (flft κ full_share))) (Lends-lies 𝓛 V V.lives p y (the_row_laws.shares 𝓛 y) κ ((κ, full_share) ∷ []) (⊑_static κ) (Incl-refl κ)) $ await ! tt $ split ! $
    -- [the pool, lent; the token; what comes back; the right to free the block; nothing; the tokens; the locals]
    returns ! (look_at ! 0 refl) $ free_all ! refl $
    move ! (2 ∷ 3 ∷ []) $ fjoin ! $ nothing ! $ fjoin ! $ use1 𝓛 (‵ (lender_owns p y life)) (id⊢ 𝓤 _) $
    use0 𝓛 (‵ (pointer_own p (word ∷ []))) (pointer_made 𝓛 p) $ fjoin ! $ use1 𝓛 (‵ (Lender.own_val lender (word ∷ []))) (id⊢ 𝓤 _) $
    move ! (2 ∷ 1 ∷ []) $ fjoin ! $ use1 𝓛 (‵ (reads p y life full_share)) (id⊢ 𝓤 _) $
    use0 𝓛 (‵ (pointer_own p (word ∷ []))) (pointer_made 𝓛 p) $ fjoin ! $ use1 𝓛 (‵ (Reader.own_val reader (word ∷ []))) (id⊢ 𝓤 _) $
    -- [the reader; the lender; nothing; the tokens]
    nothing ! $ move ! (2 ∷ 0 ∷ []) $ fjoin ! $ move ! (1 ∷ 0 ∷ []) $ fjoin ! $ feq_i ! (List Val) (both ∷ []) (both ∷ []) refl $ fjoin ! $
    fpack ! (Valss (Reader ∷ Lender ∷ [])) (within (shape (tuple_type (Reader ∷ Lender ∷ []))) (reader, (lender, tt)) (both ∷ [])) (word ∷ [], (word ∷ [], tt)) $
    use0 𝓛 (raw (fact 𝓤 ((Some y ≡ x.named) × (Some y ≡ x.named) × (life ≡ life) × (full_share ≡ full_share) × (p ≡ x.raw) × (p ≡ x.raw)))) (fact_i 𝓤 _ (emp 𝓤) (sym there.1, sym there.1, refl, refl, sym e, sym e)) $
    nothing ! $ nothing ! $ fjoin ! $ keep ! (4 ∷ 0 ∷ 2 ∷ 1 ∷ []) $
    by ! (leaves 𝓛 ended stays c z both (reader, lender) (tt, tt) (tt, tt)))))))
