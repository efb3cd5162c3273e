-- The name under which the pool is shared.
use Rattle.strm_shared.specs.Starts.{name_of}
use Rattle.strm_memory_tests.proofs.tests.refused.a_section_that_is_served_at_once.Given as goal

abbrev pub ghosts-serve_first : goal.ghosts-serve_first
ghosts-serve_first g a = name_of a.start
