-- The name under which the pool is shared.
use Rattle.strm_shared.specs.Starts.{name_of}
use Rattle.strm_bench.proofs.share.Given as goal

abbrev pub ghosts-served_rounds : goal.ghosts-served_rounds
ghosts-served_rounds g a = name_of a.start
