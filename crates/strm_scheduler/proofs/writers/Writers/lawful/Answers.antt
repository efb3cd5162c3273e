-- The list has each node once, and no others.
use Rattle.std.proofs.Common.{subst}
use Rattle.strm_scheduler.specs.Writers.{AreOnce, AreWithin}
use Rattle.strm_scheduler.proofs.Recording.{are_once, are_within}
use Rattle.strm_scheduler.proofs.writers.Writers.lawful.Goals as goal

pub returns-clause-once : goal.returns-clause-once
returns-clause-once c = subst AreOnce c.self.view_is (are_once c.self.inside.links c.self.invariant c.parts_nodes.ensures.parting)

pub returns-clause-within : goal.returns-clause-within
returns-clause-within c = subst AreWithin c.self.view_is (are_within c.self.inside.links c.self.invariant c.parts_nodes.ensures.parting)
