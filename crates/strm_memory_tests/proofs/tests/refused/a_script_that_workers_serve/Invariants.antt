-- The name under which the pool is shared.
use Rattle.strm_shared.specs.Starts.{name_of}
use Rattle.strm_memory_tests.proofs.tests.refused.a_script_that_workers_serve.Given as goal

abbrev pub ghosts-serve : goal.ghosts-serve
ghosts-serve g a = name_of a.start
