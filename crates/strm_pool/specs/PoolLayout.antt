-- How `Pool` stores its parts. No public clause cites this module.
use Rattle.strm_queue.specs.QueuedBlocks.{Agrees}
use Rattle.strm_pool.specs.declared.pool.Pool.TheInside.{Inside}
use Rattle.strm_pool.specs.PoolValue.{PoolValue}

abbrev pub pool_value : Inside → PoolValue
pool_value a = record { arena = a.blocks; queues = a.queues.state; wishes = a.wishes }

-- the queues agree with the message blocks
abbrev pub IsSound : Inside → Type 0
IsSound a = Agrees a.queues a.blocks
