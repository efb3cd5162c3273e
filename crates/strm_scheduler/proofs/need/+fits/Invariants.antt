-- Fewer classes are left.
use Rattle.std.proofs.Common.{◌-◌, length}
use Rattle.strm_data.specs.DataStore.{class_infos}
use Rattle.strm_scheduler.proofs.need.+fits.Given as goal

abbrev pub decreases-fits : goal.decreases-fits
decreases-fits l = length (class_infos l.pool.now.arena.store) - l.class
