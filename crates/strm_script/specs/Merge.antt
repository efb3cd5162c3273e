-- Merges: orders of the lines of several workers.
use Rattle.std.specs.Prelude.{◌≡◌, ℕ, ◌==◌, List, [], filter, map, slice_index_or}
use Rattle.std.specs.List.{flat_map, enumerate_from}
use Rattle.strm_pool.specs.declared.line.Entry.{Entry}
use Rattle.strm_pool.specs.declared.line.Line.{Line}

-- a line, with its worker
pub record Served : Type 0 where
  pub worker : ℕ
  pub line : Line

-- the lines of one worker, in this order
abbrev pub part_of : ℕ → List Served → List Line
part_of worker served = map (λ s. s.line) (filter (λ s. s.worker == worker) served)

-- A merge has all lines of all workers, each worker's in order.
abbrev pub IsMerge : List (List Line) → List Served → Type 0
IsMerge parts served = (worker : ℕ) → part_of worker served ≡ slice_index_or parts worker []

-- these lines, with this worker
abbrev pub by_worker : ℕ → List Line → List Served
by_worker worker lines = map (λ line. record { worker = worker; line = line }) lines

-- worker k's lines, then worker k + 1's, and so on
abbrev pub serial_from : ℕ → List (List Line) → List Served
serial_from k parts = flat_map (λ p. by_worker p.0 p.1) (enumerate_from k parts)

-- worker 0's lines, then worker 1's, and so on
abbrev pub serial_merge : List (List Line) → List Served
serial_merge parts = serial_from 0 parts

-- the order in which the calls of a trace were served
abbrev pub merge_of : List Entry → List Served
merge_of es = map (λ e. record { worker = e.desk; line = record { number = e.line; call = e.call } }) es
