-- The pointer is seen as a view, in its place, and what it has follows the view.
use Rattle.std.proofs.Common.{◌≡◌, ℕ, List, [], ◌∷◌, refl, sym}
use Rattle.std.specs.Prelude.{Option, Some, IsSome, option_map}
use Rattle.std.proofs.raw_atomic.Walks.{proved}
use Rattle.std.proofs.VecSteps.Shapes.{after}
use seplogic.Ra.Ura.{Ura}
use base.Fraction.{full_share}
use base.Logic.{sep, ent, id⊢}
use base.Fml.{GName, ftrue, fsep, flft}
use mir.Syntax.{named}
use mir.Val.{Val, vptr}
use contract.Monad.{fact}
use contract.Running.{tables}
use types.Logic.{Logic, sem}
use types.Kit.{‵, raw, ◌⊛◌, some, later, at_ret, ◌$◌, ◌∵◌, !, qed, move, keep, use1, split, split3, pick, join, rewrite, group, frame, fsplit, fsplit3, fjoin, fpick, fpack, suffices, await, done}
use types.Run.{addr, stop, of_opd, returns, enter, first, blocks, exec}
use types.ByLocal.{alloc_all, pass_all, free_all, look_at, get, through, sets, sets_last, env}
use denote.Exit.{no}
use denote.Ref.{MutRef, mut_vals, mut_Tells}
use denote.Signature.{mut_ref_to, plain}
use denote.Memory.{cell_at, part_of, mem}
use denote.Follow.{follows, lends_Part}
use denote.Steps.{heard, nothing, opens}
use denote.Triple.Walked.{says, Stays, stay_dropped, walk_of, ends_at, Goes-spent_ref}
use Rattle.strm_named.specs.contracts.named_pool.NamedPool.{the_row as P}
use Rattle.strm_c.specs.Rights.{may_read}
use Rattle.strm_c.specs.Viewing.{view_pointer_with}
use Rattle.strm_c.proofs.Words.{there_is}
use Rattle.strm_c.specs.contracts.view.PoolView.{the_row as V}
use Rattle.strm_c.specs.contracts.view_pointer.ViewPointer.{the_row as R}
use Rattle.strm_c.specs.contracts.view_pointer.ViewPointer.view as f
use Rattle.strm_c.proofs.view_pointer.ViewPointer.view.Statement.{statement}
use Rattle.strm_c.proofs.view_pointer.ViewPointer.view.Code as code

abbrev stayed : Stays f.ended.signature.params f.ended.kept
stayed = (stay_dropped (mut_ref_to (0 ∷ []) tt (plain (λ _. R))) no, tt)

module _ {M : Type 1} {𝓤 : Ura M} (𝓛 : Logic 𝓤) (h : R.Denot) (y : P.Denot) (there : h.named ≡ Some y) (b o : ℕ) where
  -- the pointer as a view, and a view as a pointer
  abbrev seen : V.Denot
  seen = record { at = h.raw; named = y; life = h.life; share = h.share }

  out : (us : List Val) → ent 𝓤 (sep 𝓤 (sem 𝓛 (cell_at full_share R.mir us b o)) (sem 𝓛 (R.own_val h us))) (sem 𝓛 ((mem V).own_at seen b o))
  unfolding part_of
  out us =
      qed 𝓛 (‵ (cell_at full_share R.mir us b o) ∷ ‵ (R.own_val h us) ∷ []) ∵ move ! (1 ∷ []) $ fsplit ! $ move ! (1 ∷ []) $
      rewrite ! 0 (λ (m : Option P.Denot). ‵ (may_read h.raw m h.life h.share)) there refl $ move ! (1 ∷ 0 ∷ []) $ fjoin ! $
      use1 𝓛 (‵ (V.own_val seen us)) (id⊢ 𝓤 _) $ move ! (1 ∷ 0 ∷ []) $ fjoin ! $
      fpack ! (List Val) (λ (ws : List Val). fsep (cell_at full_share V.mir ws b o) (V.own_val seen ws)) us $ done !

  back : (w : V.Denot) → ent 𝓤 (sep 𝓤 (sem 𝓛 ((mem V).own_at w b o)) (sem 𝓛 ftrue)) (sem 𝓛 ((mem R).own_at (view_pointer_with h w) b o))
  unfolding part_of
  back w =
      qed 𝓛 (‵ ((mem V).own_at w b o) ∷ ‵ ftrue ∷ []) ∵ fpick ! (λ us. fsplit ! $ move ! (1 ∷ []) $ fsplit ! $ move ! (1 ∷ []) $
      use1 𝓛 (‵ (may_read w.at (Some w.named) w.life w.share)) (id⊢ 𝓤 _) $
      rewrite ! 0 (λ (m : Option P.Denot). ‵ (may_read w.at (option_map (λ (_ : P.Denot). w.named) m) w.life w.share)) (sym there) refl $ move ! (1 ∷ 0 ∷ []) $ fjoin ! $
      use1 𝓛 (‵ (R.own_val (view_pointer_with h w) us)) (id⊢ 𝓤 _) $ move ! (1 ∷ 0 ∷ []) $ fjoin ! $
      fpack ! (List Val) (λ (ws : List Val). fsep (cell_at full_share R.mir ws b o) (R.own_val (view_pointer_with h w) ws)) us $ keep ! (0 ∷ []) $ done !)

pub view_spec : {M : Type 1} → statement M
view_spec 𝓤 𝓛 𝓜 𝓡 wired =
    let c = f.clauses 𝓛 𝓜.mem 𝓡.returns in let W = walk_of 𝓛 f.ended stayed c in let 𝓣 = tables 𝓤 𝓛.H 𝓜 𝓡 𝓡.env in
    proved 𝓛 f.ended stayed c 𝓜 𝓡 (Goes-spent_ref 𝓛 1 (0 ∷ []) tt (plain (λ _. R)), tt)
    f.Key.name code.function (code.unfolded 𝓤 𝓛.H 𝓜 𝓡 wired)
    (λ κs. (mut_vals, tt)) (λ κs. (mut_Tells (named 0) κs.0 R, tt)) (λ κs qs bounds a _ are.
    let κ = κs.0 in let q = qs.0 in
    let b = a.0.ref_ptr.0 in let o = a.0.ref_ptr.1 in let γ = a.0.ghost_name in let h = a.0.now in let vs = mut_vals a.0 in
    let y : W.Ghost = ((κs, qs, bounds, a, (vs, tt)), tt) in
    qed 𝓛 (((‵ (flft κ q) ⊛ ‵ ftrue) ⊛ ‵ ((MutRef (named 0) κ R).own_val a.0 vs) ⊛ ‵ ftrue) ∷ raw (fact 𝓤 (IsSome h.named)) ∷ []) ∵
    move ! (1 ∷ []) $ heard ! (IsSome h.named) (λ some'.
    let there = there_is h.named some' in let x = seen 𝓛 h there.0 there.1 b o in
    split ! $ split ! $ move ! (2 ∷ []) $ split ! $ keep ! (0 ∷ 2 ∷ []) $
    enter ! _ _ _ _ _ $ alloc_all ! (λ l. pass_all ! refl ((tt, tt), tt) $
    first ! $ blocks ! $
    sets ! (addr ! (through ! refl (stop !))) refl (tt, tt) $
    sets ! (of_opd ! (get ! refl)) refl (tt, tt) $
    sets_last ! (addr ! (through ! refl (stop !))) refl (tt, tt) $
    exec ! 𝓣.C 𝓣.Λ (env code.Mir.locals l) (after 1 (code.function).body) (at_ret _ (W.post y)) $
    sets ! (of_opd ! (get ! refl)) refl (tt, tt) $
    fsplit3 ! $ move ! (1 ∷ 2 ∷ 3 ∷ []) $ opens ! tt R b o (λ us. group ! 2 $
    -- [the pointer, as a view; the open borrow, in three entries]
    use1 𝓛 (‵ ((mem V).own_at x b o)) (out 𝓛 h there.0 there.1 b o us) $ nothing ! $
    move ! (2 ∷ 3 ∷ 4 ∷ 1 ∷ 0 ∷ []) $ group ! 5 $
    use1 𝓛 (later (some (λ (γ' : GName). ‵ ((MutRef (named 0) κ V).own_val (record { ref_ptr = (b, o); ghost_name = γ'; now = x }) (vptr b o ∷ [])) ⊛ ‵ (flft κ q) ⊛ ‵ (follows R V γ γ' (view_pointer_with h)))))
    (lends_Part 𝓛 R V (view_pointer_with h) (named 0) κ q b o b o γ (sem 𝓛 ftrue) (back 𝓛 h there.0 there.1 b o) (R.coded.code h) (R.coded.code h) x) $
    await ! tt $ pick ! (λ γ'. split3 ! $ returns ! (look_at ! 0 refl) $ free_all ! refl $
    suffices ! _ (ends_at 𝓛 f.ended stayed c y (vptr b o) (record { ref_ptr = (b, o); ghost_name = γ'; now = x }) (tt, tt) (tt, tt)) $
    nothing ! $ nothing ! $ fjoin ! $ join ! $ nothing ! $ move ! (2 ∷ 0 ∷ []) $ join ! $ join ! $ frame ! $ says ! (sym there.1, refl, refl, refl) $ keep ! (0 ∷ []) $ done !)))))
