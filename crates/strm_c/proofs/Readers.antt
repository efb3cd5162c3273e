-- A reader that has a pool is a share of a token, and the pool, lent.
use Rattle.std.proofs.Common.{◌≡◌, [], ◌∷◌, List, refl, sym}
use Rattle.std.specs.Prelude.{Option, Some}
use seplogic.Ra.Ura.{Ura}
use mir.Val.{Val}
use base.Logic.{ent, sep, id⊢}
use base.Fml.{flft}
use types.Logic.{Logic, sem}
use types.Kit.{‵, ◌$◌, ◌∵◌, !, qed, drop, join, use0, use1, rewrite, fsplit, fjoin, done}
use denote.RawPtr.{Ptr}
use denote.Struct.Lending.{lent_at}
use Rattle.strm_named.specs.contracts.named_pool.NamedPool.{the_row as V}
use Rattle.strm_c.specs.Rights.{may_read, reads}
use Rattle.strm_c.specs.contracts.view_pointer.ViewPointer.{the_row as Reader}
use Rattle.strm_c.proofs.Words.{pointer_val, pointer_own, pointer_made}

module _ {M : Type 1} {𝓤 : Ura M} (𝓛 : Logic 𝓤) (r : Reader.Denot) (y : V.Denot) (there : r.named ≡ Some y) where
  pub reader_out : (vs : List Val) → ent 𝓤 (sem 𝓛 (Reader.own_val r vs)) (sep 𝓤 (sem 𝓛 (flft (r.life ∷ []) r.share)) (sem 𝓛 (lent_at V r.raw y (r.life ∷ []))))
  reader_out vs =
      qed 𝓛 (‵ (Reader.own_val r vs) ∷ []) ∵ fsplit ! $ drop ! $
      rewrite ! 0 (λ (m : Option V.Denot). ‵ (may_read r.raw m r.life r.share)) there refl $
      use1 𝓛 (‵ (reads r.raw y r.life r.share)) (id⊢ 𝓤 _) $ fsplit ! $ join ! $ done !

  pub reader_in : (p : Ptr) → r.raw ≡ p → ent 𝓤 (sep 𝓤 (sem 𝓛 (flft (r.life ∷ []) r.share)) (sem 𝓛 (lent_at V r.raw y (r.life ∷ [])))) (sem 𝓛 (Reader.own_val r (pointer_val p ∷ [])))
  reader_in p e =
      qed 𝓛 (‵ (flft (r.life ∷ []) r.share) ∷ ‵ (lent_at V r.raw y (r.life ∷ [])) ∷ []) ∵ fjoin ! $
      use1 𝓛 (‵ (may_read r.raw (Some y) r.life r.share)) (id⊢ 𝓤 _) $
      rewrite ! 0 (λ (m : Option V.Denot). ‵ (may_read r.raw m r.life r.share)) (sym there) refl $
      use0 𝓛 (‵ (pointer_own r.raw (pointer_val r.raw ∷ []))) (pointer_made 𝓛 r.raw) $ fjoin ! $
      use1 𝓛 (‵ (Reader.own_val r (pointer_val r.raw ∷ []))) (id⊢ 𝓤 _) $
      rewrite ! 0 (λ (q : Ptr). ‵ (Reader.own_val r (pointer_val q ∷ []))) e refl $ done !
