use Rattle.std.proofs.Common.{Ok, length, refl, sym, ap, ◌∙◌, subst}
use Rattle.strm_mblk.specs.Arena.{held_at, with_least_reset}
use Rattle.strm_mblk.specs.Given.{given_nothing}
use Rattle.strm_pool.specs.PoolValue.{PoolValue, on_arena}
use Rattle.strm_named.specs.NamedLayout.{pool_with}
use Rattle.strm_named.specs.NamedCalls.{LeavesNames}
use Rattle.strm_named.proofs.Shaped.{leaves_names}
use Rattle.strm_named.proofs.named_pool.NamedPool.reset_least.Goals as goal

pub invariant_of-self : goal.invariant_of-self
invariant_of-self c = c.self.invariant ∙ ap (λ (p : PoolValue). length p.arena.held) (sym c.reset_least.ensures)

pub returns : goal.returns
returns c =
    let p = c.self.inside.pool in
    let ps = c.self.inside.stamps.items in
    let r = c.reset_least.new.self in
    subst (λ w. LeavesNames (on_arena w.pool (given_nothing (with_least_reset w.pool.arena))) w (pool_with r ps) (Ok tt)) c.self.view_is
    (leaves_names (on_arena p (given_nothing (with_least_reset p.arena))) (pool_with p ps) (pool_with r ps) (Ok tt)
    (ap (λ (x : PoolValue). pool_with x ps) c.reset_least.ensures) refl (ap (λ (x : PoolValue). x.arena.id) c.reset_least.ensures)
    (λ h. ap (λ (x : PoolValue). held_at x.arena h) c.reset_least.ensures))
