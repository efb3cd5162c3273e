-- The name under which the pool is shared.
use Rattle.strm_shared.specs.Starts.{name_of}
use Rattle.strm_bench.proofs.spread.Given as goal

abbrev pub ghosts-rounds_of_threads : goal.ghosts-rounds_of_threads
ghosts-rounds_of_threads g a = name_of a.start
