use Rattle.strm_scheduler.proofs.starting.+turn.Given as goal

abbrev pub decreases-turn : goal.decreases-turn
decreases-turn l = l.count
