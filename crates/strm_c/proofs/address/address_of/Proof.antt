-- The address is that of the slice, which the function forgets.
use Rattle.std.proofs.Common.{List, [], ◌∷◌, refl}
use Rattle.std.proofs.raw_atomic.Walks.{proved}
use mir.Syntax.{named}
use types.Kit.{keep}
use types.Run.{addr, from, hop}
use types.ByLocal.{look_in_at}
use denote.Builtin.{u8}
use denote.Exit.{yes}
use denote.Slice.{ShrSlice, shr_slice_vals, shr_slice_Tells}
use denote.Triple.Walked.{Goes-dropped}
use Rattle.strm_c.proofs.Machine.{Val, vptr, ftrue, flft}
use Rattle.strm_c.proofs.Steps.{‵, ◌⊛◌, ◌$◌, ◌∵◌, !, qed, move, split, join, fjoin, feq_i, suffices, done, whole, sub, stop, fld, returns, enter, alloc_all, pass_all, free_all, look_at, sets, nothing}
use Rattle.strm_c.proofs.Meaning.{block_ptr, Stays, stay_dropped, walk_of, says, ends_at}
use Rattle.strm_c.proofs.Words.{slot_at}
use Rattle.strm_c.specs.contracts.address.address_of as f
use Rattle.strm_c.proofs.address.address_of.Statement.{statement}
use Rattle.strm_c.proofs.address.address_of.Code as code

abbrev stayed : Stays f.ended.signature.params f.ended.kept
stayed = (stay_dropped (slot_at 0 f.ended.signature.params) yes, tt)

pub address_of_spec : {M : Type 1} → statement M
address_of_spec 𝓤 𝓛 𝓜 𝓡 wired =
    let c = f.clauses 𝓛 𝓜.mem 𝓡.returns in let W = walk_of 𝓛 f.ended stayed c in
    proved 𝓛 f.ended stayed c 𝓜 𝓡 (Goes-dropped 𝓛 1 (slot_at 0 f.ended.signature.params) yes (λ κs x w. refl), tt)
    f.Key.name code.function (code.unfolded 𝓤 𝓛.H 𝓜 𝓡 wired)
    (λ κs. (shr_slice_vals, tt)) (λ κs. (shr_slice_Tells (named 0) κs.0 u8, tt)) (λ κs qs bounds a _ are.
    let κ = κs.0 in let q = qs.0 in let b = a.0.ref_ptr.0 in let o = a.0.ref_ptr.1 in let vs = shr_slice_vals a.0 in
    let y : W.Ghost = ((κs, qs, bounds, a, (vs, tt)), tt) in
    qed 𝓛 (((‵ (flft κ q) ⊛ ‵ ftrue) ⊛ ‵ ((ShrSlice (named 0) κ u8).own_val a.0 vs) ⊛ ‵ ftrue) ∷ ‵ ftrue ∷ []) ∵
    split ! $ keep ! (0 ∷ []) $
    -- [the token]
    enter ! _ _ _ _ _ $ alloc_all ! (λ l. pass_all ! refl ((tt, (tt, (record { fits = are.0.0.1.0 }, tt))), tt) $
    sets ! (addr ! (from ! (fld ! refl (hop ! (look_in_at ! 1 (sub ! 0 refl (whole !))) (stop !))))) refl (tt, tt) $
    returns ! (look_at ! 0 refl) $ free_all ! refl $ feq_i ! (List Val) (vptr b o ∷ []) (vptr b o ∷ []) refl $
    suffices ! _ (ends_at 𝓛 f.ended stayed c y (vptr b o) (block_ptr b o) (tt, tt) (tt, tt)) $ says ! refl $
    nothing ! $ nothing ! $ fjoin ! $ join ! $ move ! (1 ∷ 0 ∷ []) $ join ! $ done !))
