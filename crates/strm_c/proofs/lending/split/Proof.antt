-- The token is split, and what is lent is had twice.
use Rattle.std.proofs.Common.{◌≡◌, ◌∙◌, List, [], ◌∷◌, ◌++◌, refl, sym, ap}
use Rattle.std.specs.Prelude.{IsSome}
use base.Fraction.{left, right}
use base.Fml.{flft}
use types.Kit.{use2, keep, fpack}
use denote.RattleType.{Valss}
use denote.Memory.{shared_of}
use denote.SharingLaws.{contraction}
use denote.Struct.Struct.{within}
use denote.Struct.Declared.{shape}
use denote.Struct.Tuple.{tuple_type}
use denote.Struct.Lending.{lent_at, lent_at_shr_laws}
use Rattle.strm_c.proofs.Machine.{Fn, Val, SProp, emp, never, fst∗, WpFn, fact, fact_i, tables, vstruct, of_list}
use Rattle.strm_c.proofs.Steps.{sem, ‵, raw, ◌⊛◌, prop, ◌$◌, ◌∵◌, !, qed, by, move, use0, use1, split, regoal, rewrite, fsplit, fjoin, feq_i, whole, sub, agg, stop, fld, of_opd, no_more, and_then, returns, enter, alloc_all, pass_all, free_all, look_at, get, get_in, sets, nothing, heard, proved_at, leaves}
use Rattle.strm_c.proofs.Meaning.{owns, Ptr, block_ptr, in_a_block, types_at, alive, Stays, stay_dropped, walk_of, Goes-blank}
use Rattle.strm_c.proofs.Words.{pointer_val, pointer_told, slot_at, there_is}
use Rattle.strm_c.proofs.Readers.{reader_out, reader_in}
use Rattle.strm_named.specs.contracts.named_pool.NamedPool.{the_row as V}
use Rattle.strm_named.proofs.named_pool.NamedPool.TheLaws.{the_row_laws}
use Rattle.strm_c.specs.Viewing.{with_share}
use Rattle.strm_c.specs.contracts.view_pointer.ViewPointer.{the_row as Reader}
use Rattle.strm_c.specs.contracts.lending.split.{ended, clauses}
use Rattle.strm_c.specs.contracts.lending.split.Key.{name as #self}
use Rattle.strm_c.proofs.lending.split.Statement.{statement}
use Rattle.strm_c.proofs.lending.split.Code as compiled

pub split_spec : {M : Type 1} → statement M
split_spec 𝓤 𝓛 𝓜 𝓡 wired =
    let H = 𝓛.H in
    let fn : Fn = compiled.function in
    let c = clauses 𝓛 𝓜.mem 𝓡.returns in
    let C = (tables 𝓤 H 𝓜 𝓡 𝓡.env).C in
    let Λ = (tables 𝓤 H 𝓜 𝓡 𝓡.env).Λ in
    let stays : Stays ended.signature.params ended.kept = (stay_dropped (slot_at 0 ended.signature.params) ended.kept.0, tt) in
    proved_at 𝓛 ended stays c 𝓜 𝓡 (Goes-blank 𝓛 0 (slot_at 0 ended.signature.params) ended.kept.0 (λ κs x f. tt), tt) #self fn (compiled.unfolded 𝓤 H 𝓜 𝓡 wired) (λ z are.
    let Post : Val → SProp 𝓤 = (walk_of 𝓛 ended stays c).post z in
    let a = z.0.3 in let vss = z.0.4 in let x = a.0 in let κ = x.life ∷ [] in
    let told = pointer_told x.raw vss.0 are.0.0 in
    qed 𝓛 ((raw (alive 𝓛 ended.signature z.0.0 z.0.1) ⊛ ‵ (owns (types_at ended.signature.params z.0.0) a vss)) ∷ raw (fact 𝓤 (IsSome x.named)) ∷ []) ∵ move ! (1 ∷ []) $ heard ! (IsSome x.named) (λ some. split ! $ move ! (1 ∷ []) $
    let there = there_is x.named some in let y = there.0 in
    fsplit ! $ use1 𝓛 (‵ (flft κ x.share) ⊛ ‵ (lent_at V x.raw y κ)) (reader_out 𝓛 x y there.1 vss.0) $ split ! $ move ! (1 ∷ []) $
    in_a_block ! x.raw (λ p. lent_at V p y κ) (fst∗ 𝓤 (never 𝓤) (sem 𝓛 (shared_of V y 0 0 κ))) (λ b o e.
    rewrite ! 0 (λ (p : Ptr). ‵ (lent_at V p y κ)) (sym e) refl $
    let word = pointer_val (block_ptr b o) in
    let both = vstruct (of_list (word ∷ word ∷ [])) in
    let one = with_share x (left x.share) in let two = with_share x (right x.share) in
    -- [the pool, lent; the token; nothing; the tokens]
    regoal ! (λ (us : List Val). prop (WpFn 𝓤 H C Λ fn (us ++ []) Post)) (told ∙ ap (λ (r : Ptr). pointer_val r ∷ []) e) refl $
    enter ! C Λ fn (word ∷ []) Post $ alloc_all ! (λ l. pass_all ! refl ((tt, (tt, tt)), tt) $
    sets ! (of_opd ! (get_in ! (fld ! refl (stop !)) (sub ! 0 refl (whole !)))) refl (tt, tt) $
    sets ! (agg ! (and_then ! (get ! refl) (no_more !))) refl (tt, (tt, tt)) $
    sets ! (agg ! (and_then ! (get ! refl) (no_more !))) refl (tt, (tt, tt)) $
    sets ! (agg ! (and_then ! (get ! refl) (and_then ! (get ! refl) (no_more !)))) refl (tt, ((tt, tt), ((tt, tt), tt))) $
    returns ! (look_at ! 0 refl) $ free_all ! refl $
    use1 𝓛 (‵ (lent_at V x.raw y κ) ⊛ ‵ (lent_at V x.raw y κ)) (contraction 𝓛 (lent_at V x.raw y) (lent_at_shr_laws V the_row_laws.shr_laws x.raw y) κ) $ split ! $
    move ! (2 ∷ []) $ use1 𝓛 (‵ (flft κ (left x.share)) ⊛ ‵ (flft κ (right x.share))) (𝓛.lfts.lft_split κ x.share) $ split ! $
    move ! (1 ∷ 2 ∷ []) $ use2 𝓛 (‵ (Reader.own_val two (word ∷ []))) (reader_in 𝓛 two y there.1 (block_ptr b o) e) $
    move ! (1 ∷ 2 ∷ []) $ use2 𝓛 (‵ (Reader.own_val one (word ∷ []))) (reader_in 𝓛 one y there.1 (block_ptr b o) e) $
    -- [one reader; the other; nothing; the tokens]
    nothing ! $ move ! (2 ∷ 0 ∷ []) $ fjoin ! $ move ! (1 ∷ 0 ∷ []) $ fjoin ! $ feq_i ! (List Val) (both ∷ []) (both ∷ []) refl $ fjoin ! $
    fpack ! (Valss (Reader ∷ Reader ∷ [])) (within (shape (tuple_type (Reader ∷ Reader ∷ []))) (one, (two, tt)) (both ∷ [])) (word ∷ [], (word ∷ [], tt)) $
    use0 𝓛 (raw (fact 𝓤 ((one ≡ one) × (two ≡ two)))) (fact_i 𝓤 _ (emp 𝓤) (refl, refl)) $
    nothing ! $ nothing ! $ fjoin ! $ keep ! (4 ∷ 0 ∷ 2 ∷ 1 ∷ []) $
    by ! (leaves 𝓛 ended stays c z both (one, two) (tt, tt) (tt, tt))))))
