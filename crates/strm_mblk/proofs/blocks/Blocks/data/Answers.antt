use Rattle.std.proofs.Common.{ap, sym, ◌∙◌}
use Rattle.strm_mblk.specs.Arena.{counted_in}
use Rattle.strm_mblk.proofs.layout.StoredArena.{counted_is}
use Rattle.strm_mblk.proofs.blocks.Blocks.data.Goals as goal

pub returns : goal.returns
returns c = sym (counted_is c.self.invariant.filled) ∙ ap counted_in c.self.view_is
