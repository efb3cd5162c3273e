use Rattle.strm_scheduler.proofs.waits.+rest_each.Given as goal

abbrev pub decreases-rest_each : goal.decreases-rest_each
decreases-rest_each l = l.count
