-- The constants of the code are the numbers of the definitions.
use Rattle.std.proofs.Common.{◌≡◌, refl}
use Rattle.strm_queue.specs.declared.limits.TheConstants.{BANDS, HIGH_RANK, MOST_QUEUES, RANKS}
use Rattle.strm_queue.specs.Limits.{bands, high_rank, most_queues, ranks}

pub queues : MOST_QUEUES ≡ most_queues
queues = refl

pub bands_there : BANDS ≡ bands
bands_there = refl

pub high_rank_there : HIGH_RANK ≡ high_rank
high_rank_there = refl

pub ranks_there : RANKS ≡ ranks
ranks_there = refl
