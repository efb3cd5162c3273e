-- The pointer lends its pool, and what it holds follows the pool.
use Rattle.std.proofs.Common.{◌≡◌, ℕ, List, [], ◌∷◌, refl, sym, ap, ◌∙◌}
use Rattle.std.specs.Prelude.{Option, Some, IsSome, option_map}
use seplogic.Ra.Ura.{Ura}
use base.Fraction.{full_share}
use base.Logic.{sep}
use base.Fml.{Fml, GName}
use mir.Syntax.{named}
use types.Kit.{keep, group, frame, fsplit3, fpack}
use types.Part.{look_in}
use types.Run.{addr, load}
use types.ByLocal.{through, sets_last}
use denote.Ref.{MutRef, mut_vals, mut_Tells}
use denote.Signature.{mut_ref_to}
use denote.Memory.{cell_at, part_at, part_of, mem}
use denote.Follow.{follows, lends_Part}
use denote.Laws.{shows}
use denote.Steps.{opens, peeks}
use denote.Triple.Walked.{Goes-spent_ref}
use Rattle.std.proofs.raw_atomic.Walks.{proved}
use Rattle.std.proofs.VecSteps.Shapes.{after}
use Rattle.strm_c.proofs.Machine.{Val, vptr, ent, id⊢, never, fst∗, ftrue, fsep, flft, fact, tables, bare}
use Rattle.strm_c.proofs.Steps.{Logic, sem, ‵, raw, ◌⊛◌, some, later, at_ret, ◌$◌, ◌∵◌, !, qed, move, drop, use0, use1, split, split3, pick, join, rewrite, fsplit, fjoin, suffices, await, done, whole, sub, stop, fld, of_opd, returns, enter, first, blocks, exec, alloc_all, pass_all, free_all, look_at, get, sets, env, heard, nothing}
use Rattle.strm_c.proofs.Meaning.{no, Ptr, block_ptr, null_ptr, in_a_block, plain, Stays, stay_dropped, walk_of, says, ends_at, token, box_owns, τ}
use Rattle.strm_c.specs.Holding.{heap, held}
use Rattle.strm_c.specs.Lending.{pointer_with}
use Rattle.strm_c.proofs.AsBox.{E}
use Rattle.strm_c.proofs.Words.{pointer_val, pointer_own, pointer_told, pointer_made, there_is}
use Rattle.strm_named.specs.contracts.named_pool.NamedPool.{the_row as V}
use Rattle.strm_c.specs.contracts.pointer.PoolPointer.{the_row as R}
use Rattle.strm_c.specs.contracts.pointer.PoolPointer.named_mut as f
use Rattle.strm_c.proofs.pointer.PoolPointer.named_mut.Statement.{statement}
use Rattle.strm_c.proofs.pointer.PoolPointer.named_mut.Code as code

abbrev stayed : Stays f.ended.signature.params f.ended.kept
stayed = (stay_dropped (mut_ref_to (0 ∷ []) tt (plain (λ _. R))) no, tt)

module _ {M : Type 1} {𝓤 : Ura M} (𝓛 : Logic 𝓤) (h : R.Denot) (x : V.Denot) (b o b' o' : ℕ) where
  -- all of what is held but the pool
  abbrev Rest : Fml
  Rest = fsep (token E.al heap (bare (τ E)) (block_ptr b' o')) (cell_at full_share R.mir (pointer_val (block_ptr b' o') ∷ []) b o)

  back : h.raw ≡ block_ptr b' o' → h.named ≡ Some x → (w : V.Denot) → ent 𝓤 (sep 𝓤 (sem 𝓛 ((mem V).own_at w b' o')) (sem 𝓛 Rest)) (sem 𝓛 ((mem R).own_at (pointer_with h w) b o))
  unfolding part_of
  back e there w =
      qed 𝓛 (‵ (part_at V full_share w b' o') ∷ ‵ Rest ∷ []) ∵ move ! (1 ∷ []) $ fsplit ! $ move ! (2 ∷ 0 ∷ []) $ fjoin ! $
      use1 𝓛 (‵ (held (block_ptr b' o') (Some w))) (id⊢ 𝓤 _) $
      rewrite ! 0 (λ (p : Ptr). ‵ (held p (Some w))) (sym e) refl $
      rewrite ! 0 (λ (m : Option V.Denot). ‵ (held h.raw (option_map (λ (_ : V.Denot). w) m))) (sym there) refl $
      use0 𝓛 (‵ (pointer_own h.raw (pointer_val h.raw ∷ []))) (pointer_made 𝓛 h.raw) $ fjoin ! $
      use1 𝓛 (‵ (R.own_val (pointer_with h w) (pointer_val h.raw ∷ []))) (id⊢ 𝓤 _) $
      rewrite ! 0 (λ (p : Ptr). ‵ (R.own_val (pointer_with h w) (pointer_val p ∷ []))) e refl $
      move ! (1 ∷ 0 ∷ []) $ fjoin ! $
      fpack ! (List Val) (λ (us : List Val). fsep (cell_at full_share R.mir us b o) (R.own_val (pointer_with h w) us)) (pointer_val (block_ptr b' o') ∷ []) $ done !

pub named_mut_spec : {M : Type 1} → statement M
named_mut_spec 𝓤 𝓛 𝓜 𝓡 wired =
    let c = f.clauses 𝓛 𝓜.mem 𝓡.returns in let W = walk_of 𝓛 f.ended stayed c in let 𝓣 = tables 𝓤 𝓛.H 𝓜 𝓡 𝓡.env in
    proved 𝓛 f.ended stayed c 𝓜 𝓡 (Goes-spent_ref 𝓛 1 (0 ∷ []) tt (plain (λ _. R)), tt)
    f.Key.name code.function (code.unfolded 𝓤 𝓛.H 𝓜 𝓡 wired)
    (λ κs. (mut_vals, tt)) (λ κs. (mut_Tells (named 0) κs.0 R, tt)) (λ κs qs bounds a _ are.
    let κ = κs.0 in let q = qs.0 in
    let b = a.0.ref_ptr.0 in let o = a.0.ref_ptr.1 in let γ = a.0.ghost_name in let h = a.0.now in let vs = mut_vals a.0 in
    let y : W.Ghost = ((κs, qs, bounds, a, (vs, tt)), tt) in
    qed 𝓛 (((‵ (flft κ q) ⊛ ‵ ftrue) ⊛ ‵ ((MutRef (named 0) κ R).own_val a.0 vs) ⊛ ‵ ftrue) ∷ raw (fact 𝓤 (IsSome h.named)) ∷ []) ∵
    move ! (1 ∷ []) $ heard ! (IsSome h.named) (λ some'.
    let there = there_is h.named some' in let x = there.0 in
    split ! $ split ! $ move ! (2 ∷ []) $ split ! $ keep ! (0 ∷ 2 ∷ []) $
    enter ! _ _ _ _ _ $ alloc_all ! (λ l. pass_all ! refl ((tt, tt), tt) $
    fsplit3 ! $ move ! (1 ∷ 2 ∷ 3 ∷ []) $ opens ! tt R b o (λ us.
    move ! (1 ∷ []) $ peeks ! R _ (shows 𝓛 R) h us (λ is. fsplit ! $ drop ! $
    -- [what the pointer owns; the cell; the open borrow, in three entries]
    rewrite ! 0 (λ (m : Option V.Denot). ‵ (held h.raw m)) there.1 refl $
    use1 𝓛 (‵ (box_owns (token E.al heap) V h.raw x)) (id⊢ 𝓤 _) $
    in_a_block ! h.raw (λ p. box_owns (token E.al heap) V p x) (fst∗ 𝓤 (never 𝓤) (sem 𝓛 (token E.al heap (bare (τ E)) null_ptr))) (λ b' o' e.
    fsplit ! $ rewrite ! 2 (λ (ws : List Val). ‵ (cell_at full_share R.mir ws b o)) (pointer_told h.raw us is.0 ∙ ap (λ (p : Ptr). pointer_val p ∷ []) e) refl $
    -- [the pool; the token; the cell; the open borrow]
    first ! $ blocks ! $
    sets ! (of_opd ! (load ! (through ! refl (fld ! refl (stop !))) (look_in ! 2 (sub ! 0 refl (whole !))))) refl (tt, tt) $
    sets ! (of_opd ! (get ! refl)) refl (tt, tt) $
    sets_last ! (addr ! (through ! refl (stop !))) refl (tt, tt) $
    exec ! 𝓣.C 𝓣.Λ (env code.Mir.locals l) (after 1 (code.function).body) (at_ret _ (W.post y)) $
    sets ! (of_opd ! (get ! refl)) refl (tt, tt) $
    move ! (1 ∷ 2 ∷ []) $ fjoin ! $ move ! (2 ∷ 3 ∷ 4 ∷ 1 ∷ 0 ∷ []) $ group ! 5 $
    use1 𝓛 (later (some (λ (γ' : GName). ‵ ((MutRef (named 0) κ V).own_val (record { ref_ptr = (b', o'); ghost_name = γ'; now = x }) (vptr b' o' ∷ [])) ⊛ ‵ (flft κ q) ⊛ ‵ (follows R V γ γ' (pointer_with h)))))
    (lends_Part 𝓛 R V (pointer_with h) (named 0) κ q b o b' o' γ (sem 𝓛 (Rest 𝓛 h x b o b' o')) (back 𝓛 h x b o b' o' e there.1) (R.coded.code h) (R.coded.code h) x) $
    await ! tt $ pick ! (λ γ'. split3 ! $ returns ! (look_at ! 0 refl) $ free_all ! refl $
    suffices ! _ (ends_at 𝓛 f.ended stayed c y (vptr b' o') (record { ref_ptr = (b', o'); ghost_name = γ'; now = x }) (tt, tt) (tt, tt)) $
    nothing ! $ nothing ! $ fjoin ! $ join ! $ nothing ! $ move ! (2 ∷ 0 ∷ []) $ join ! $ join ! $ frame ! $ says ! (sym there.1) $ keep ! (0 ∷ []) $ done !)))))))
