-- A pool that was just opened holds nothing.
use Rattle.std.proofs.Common.{length, None, refl, ap, ◌∙◌}
use Rattle.strm_data.proofs.Lists.{flat_map-replicate}
use Rattle.strm_mblk.specs.Arena.{held_blocks}
use Rattle.strm_mblk.specs.Messages.{blocks_of}
use Rattle.strm_pool.specs.PoolValue.{PoolValue}
use Rattle.strm_pool.proofs.pool.Pool.new.Goals as goal

pub returns-in-Ok-clause-idle : goal.returns-in-Ok-clause-idle
returns-in-Ok-clause-idle c =
    ap (λ (v : PoolValue). length (held_blocks v.arena)) c.in-Ok.ensures ∙ ap length (flat_map-replicate blocks_of c.args.config.mblks None refl)
