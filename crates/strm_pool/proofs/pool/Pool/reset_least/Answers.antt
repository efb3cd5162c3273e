use Rattle.std.proofs.Common.{[], sym, ap, ◌∙◌, subst}
use Rattle.strm_mblk.specs.Arena.{Arena, with_least_reset}
use Rattle.strm_mblk.specs.Frame.{LeavesShelves}
use Rattle.strm_mblk.proofs.arena.Frame.{leaves_same}
use Rattle.strm_queue.specs.QueuedBlocks.{Agrees}
use Rattle.strm_pool.specs.PoolLayout.{pool_value}
use Rattle.strm_pool.specs.PoolValue.{PoolValue, with_arena}
use Rattle.strm_pool.proofs.OnParts.{agrees_still}
use Rattle.strm_pool.proofs.pool.Pool.reset_least.Goals as goal

-- all shelves stay, and all data
leaves_shelves : (a : Arena) → LeavesShelves [] a (with_least_reset a)
leaves_shelves a =
    let same = (leaves_same a []).shelves in
    record { shelves = same.shelves; shelved_data = same.shelved_data; held_data = same.held_data }

pub invariant_of-self : goal.invariant_of-self
invariant_of-self c =
    subst (Agrees c.self.inside.queues) (sym c.reset_least.ensures) (agrees_still (leaves_shelves c.self.inside.blocks) c.self.invariant)

pub returns : goal.returns
returns c =
    ap (λ b. record (pool_value c.self.inside) { arena = b }) c.reset_least.ensures ∙ ap (λ (v : PoolValue). with_arena v (with_least_reset v.arena)) c.self.view_is
