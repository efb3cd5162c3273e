-- The name under which the pool is shared.
use Rattle.strm_shared.specs.Starts.{name_of}
use Rattle.strm_monitor.proofs.shared_out.Given as goal

abbrev pub ghosts-serve_watched : goal.ghosts-serve_watched
ghosts-serve_watched g a = name_of a.start
