use Rattle.strm_mblk.proofs.Reading.{length-message}
use Rattle.strm_mblk.proofs.blocks.Blocks.read.Goals as goal

pub returns-clause-sized : goal.returns-clause-sized
returns-clause-sized c = length-message c.self.invariant.filled c.self.view_is c.args.token.now c.requires
