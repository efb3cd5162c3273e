use Rattle.strm_links.proofs.lists.ListLinks.{Reads-after, Reads-before}
use Rattle.strm_mblk.specs.Shelves.{heads_at}
use Rattle.strm_mblk.proofs.layout.StoredArena.{parted_inside}
use Rattle.strm_mblk.proofs.arena.Stands.{heads_apart}
use Rattle.strm_mblk.proofs.blocks.Blocks.reads_alike.Goals as goal

pub returns-clause-apart : goal.returns-clause-apart
returns-clause-apart c shelf = heads_apart c.args.self.now (parted_inside c.self.invariant c.self.view_is) shelf

pub returns-clause-forward : goal.returns-clause-forward
returns-clause-forward c shelf = Reads-after (heads_at c.args.self.now shelf) (returns-clause-apart c shelf)

pub returns-clause-backward : goal.returns-clause-backward
returns-clause-backward c shelf = Reads-before (heads_at c.args.self.now shelf) (returns-clause-apart c shelf)
