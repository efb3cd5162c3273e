-- How writers that wait are stored: in one list of nodes, which has a node for each writer. No public clause cites this.
use Rattle.std.specs.Prelude.{◌≡◌, ℕ, ◌+◌, ◌*◌, ◌/◌, ◌%◌, List, length, map}
use Rattle.strm_links.specs.Rows.{Rows, list_at}
use Rattle.strm_queue.specs.Limits.{bands, most_queues}
use Rattle.strm_scheduler.specs.Writers.{Writer}

-- the node of a writer, and the writer of a node
abbrev pub node_of : ℕ → ℕ → ℕ
node_of q band = q * bands + band

abbrev pub writer_of : ℕ → Writer
writer_of node = (node / bands, node % bands)

-- the writers of the list
abbrev pub writers_in : Rows → List Writer
writers_in rows = map writer_of (list_at 0 rows)

-- there is one list, and a node for each writer
pub record HasPlaces (rows : Rows) : Type 0 where
  pub nodes : rows.nodes ≡ most_queues * bands
  pub one : length rows.lists ≡ 1
