use Rattle.strm_mblk.specs.BlockCalls as blocks
use Rattle.strm_mblk.specs.Freeing as freeing
use Rattle.strm_pool.specs.PoolValue.{on_arena, with_arena}
use Rattle.strm_named.specs.NamedCalls.{on_name}
use Rattle.strm_c.proofs.Reading.{Left, left_of}
use Rattle.strm_c.proofs.transferring.transferred.Goals.{After-transfer}
use Rattle.strm_c.proofs.transferring.transferred.Goals as goal

-- what is left here
left : (c : After-transfer) → Left c.args.msg (on_name c.args.named.now c.args.msg (on_arena c.args.other.now.pool (blocks.transfer c.args.named.now.pool.arena c.args.msg.head c.args.other.now.pool.arena)))
    (with_arena c.args.named.now.pool (freeing.freemsg c.args.msg.head c.args.named.now.pool.arena)) c.args.named.now c.transfer.new.self
left c =
    left_of c.args.msg (on_name c.args.named.now c.args.msg (on_arena c.args.other.now.pool (blocks.transfer c.args.named.now.pool.arena c.args.msg.head c.args.other.now.pool.arena)))
    (with_arena c.args.named.now.pool (freeing.freemsg c.args.msg.head c.args.named.now.pool.arena)) c.args.named.now c.transfer.new.self c.args.other.now c.transfer.new.other c.transfer.result c.transfer.ensures

pub returns-clause-here : goal.returns-clause-here
returns-clause-here c = (left (goal.at.returns-clause-here c).After-transfer).after

pub returns-clause-names : goal.returns-clause-names
returns-clause-names c = (left (goal.at.returns-clause-names c).After-transfer).names
