-- The address is that of the slice, which comes back as it was.
use Rattle.std.proofs.Common.{◌≡◌, List, [], ◌∷◌, length, refl}
use Rattle.std.proofs.raw_atomic.Walks.{proved}
use mir.Syntax.{named}
use types.Kit.{keep}
use types.Run.{addr, from, hop}
use types.ByLocal.{look_in_at}
use denote.Builtin.{u8}
use denote.Slice.{MutSlice, mut_slice_vals, mut_slice_Tells}
use denote.Triple.Walked.{Goes-slice, stay_slice}
use Rattle.core.proofs.mem.Facts.{says_two}
use Rattle.strm_c.proofs.Machine.{Val, vptr, ftrue, flft}
use Rattle.strm_c.proofs.Steps.{‵, ◌⊛◌, ◌$◌, ◌∵◌, !, qed, move, split, join, fjoin, feq_i, suffices, done, whole, sub, stop, fld, returns, enter, alloc_all, pass_all, free_all, look_at, sets}
use Rattle.strm_c.proofs.Meaning.{block_ptr, plain, Stays, walk_of, ends_at}
use Rattle.strm_c.specs.contracts.address.mut_address_of as f
use Rattle.strm_c.proofs.address.mut_address_of.Statement.{statement}
use Rattle.strm_c.proofs.address.mut_address_of.Code as code

abbrev stayed : Stays f.ended.signature.params f.ended.kept
stayed = (stay_slice (0 ∷ []) tt (plain (λ _. u8)), tt)

pub mut_address_of_spec : {M : Type 1} → statement M
mut_address_of_spec 𝓤 𝓛 𝓜 𝓡 wired =
    let c = f.clauses 𝓛 𝓜.mem 𝓡.returns in let W = walk_of 𝓛 f.ended stayed c in
    proved 𝓛 f.ended stayed c 𝓜 𝓡 (Goes-slice 𝓛 1 0 tt (plain (λ _. u8)), tt)
    f.Key.name code.function (code.unfolded 𝓤 𝓛.H 𝓜 𝓡 wired)
    (λ κs. (mut_slice_vals, tt)) (λ κs. (mut_slice_Tells (named 0) κs.0 u8, tt)) (λ κs qs bounds a _ are.
    let κ = κs.0 in let q = qs.0 in let b = a.0.ref_ptr.0 in let o = a.0.ref_ptr.1 in let vs = mut_slice_vals a.0 in
    let y : W.Ghost = ((κs, qs, bounds, a, (vs, tt)), tt) in
    qed 𝓛 (((‵ (flft κ q) ⊛ ‵ ftrue) ⊛ ‵ ((MutSlice (named 0) κ u8).own_val a.0 vs) ⊛ ‵ ftrue) ∷ ‵ ftrue ∷ []) ∵
    split ! $ keep ! (0 ∷ 1 ∷ []) $ move ! (1 ∷ []) $ split ! $ fjoin ! $
    -- [the slice; the token]
    enter ! _ _ _ _ _ $ alloc_all ! (λ l. pass_all ! refl ((tt, (tt, (record { fits = are.0.0.1.0 }, tt))), tt) $
    sets ! (addr ! (from ! (fld ! refl (hop ! (look_in_at ! 1 (sub ! 0 refl (whole !))) (stop !))))) refl (tt, tt) $
    returns ! (look_at ! 0 refl) $ free_all ! refl $ feq_i ! (List Val) (vptr b o ∷ []) (vptr b o ∷ []) refl $
    suffices ! _ (ends_at 𝓛 f.ended stayed c y (vptr b o) (block_ptr b o) (a.0.now, tt) (refl, tt)) $ says_two ! (refl, refl) $
    move ! (1 ∷ 0 ∷ []) $ join ! $ move ! (1 ∷ 0 ∷ []) $ join ! $ done !))
