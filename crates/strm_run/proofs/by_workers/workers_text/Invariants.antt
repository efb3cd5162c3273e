-- The name under which the pool is shared.
use Rattle.strm_shared.specs.Starts.{name_of}
use Rattle.strm_run.proofs.by_workers.workers_text.Given as goal

abbrev pub ghosts-shared_text : goal.ghosts-shared_text
ghosts-shared_text g a = name_of a.start
