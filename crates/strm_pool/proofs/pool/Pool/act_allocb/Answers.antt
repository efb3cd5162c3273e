use Rattle.std.proofs.Common.{refl}
use Rattle.strm_mblk.specs.BlockCalls as blocks
use Rattle.strm_pool.specs.PoolValue.{on_arena}
use Rattle.strm_pool.proofs.Shaped.{gives_new}
use Rattle.strm_pool.proofs.pool.Pool.act_allocb.Goals as goal

pub returns : goal.returns
returns c =
    let v = c.args.self.now in
    gives_new refl c.requires c.args.into refl (on_arena v (blocks.allocb c.args.size v.arena)) refl c.allocb.ensures c.give.ensures
