-- How `Queues` stores queues and the run list. No public clause cites this module.
use Rattle.std.specs.Prelude.{◌≡◌, ◌<◌, ℕ, true, false, List, [], length, map, slice_index_or}
use Rattle.std.specs.List.{All}
use Rattle.strm_links.specs.Rows.{list_at}
use Rattle.strm_queue.specs.declared.marks.Marks.{Marks}
use Rattle.strm_queue.specs.declared.queue_spec.QueueSpec.{QueueSpec}
use Rattle.strm_queue.specs.declared.queues.Queue.{Queue}
use Rattle.strm_queue.specs.declared.queues.Queues.TheInside.{Inside}
use Rattle.strm_queue.specs.Flow.{AreMarksApart, Flags, bands_where, opening_flags, opening_marks, spec_at}
use Rattle.strm_queue.specs.Limits.{bands}
use Rattle.strm_queue.specs.QueueSpecs.{are_lawful}
use Rattle.strm_queue.specs.QueuedBlocks.{QueuesValue}
use Rattle.strm_queue.specs.Tallies.{Tally, no_tally}

-- a queue as it is made
abbrev pub new_queue : QueueSpec → Queue
new_queue spec = record { spec = spec; tally = no_tally; marks = opening_marks spec; read = true; noenable = false; wanted = bands_where (λ band. false) }

-- the spec, tally, marks and flags of a stored queue
abbrev pub spec_in : Queue → QueueSpec
spec_in q = q.spec

abbrev pub tally_in : Queue → Tally
tally_in q = q.tally

abbrev pub marks_in : Queue → List Marks
marks_in q = q.marks

abbrev pub flags_in : Queue → Flags
flags_in q = record { read = q.read; noenable = q.noenable; wanted = q.wanted }

abbrev pub value_of : Inside → QueuesValue
value_of a = record {
  state = record { specs = map spec_in a.queues.items; marks = map marks_in a.queues.items; flags = map flags_in a.queues.items; run = list_at 0 a.run };
  tallies = map tally_in a.queues.items;
}

-- Each of the first n queues has a wanted mark and water marks for each band. (It is unfolded in proofs/layout/Banded.antt alone.)
unfoldable pub AreBanded : ℕ → List Flags → List (List Marks) → Type 0
AreBanded n flags marks = (q : ℕ) → q < n → (length (slice_index_or flags q opening_flags).wanted ≡ bands) × (length (slice_index_or marks q []) ≡ bands)

-- The specs are lawful, each queue has marks for each band, and each low water mark is below its high one. The run list is the
-- one list of its links, which have a node for each queue. Each queue on it has a service procedure.
pub record IsSound (a : Inside) : Type 0 where
  pub specs : are_lawful (value_of a).state.specs ≡ true
  pub apart : AreMarksApart (value_of a).state
  pub banded : AreBanded (length a.queues.items) (value_of a).state.flags (value_of a).state.marks
  pub nodes : a.run.nodes ≡ length a.queues.items
  pub lists : length a.run.lists ≡ 1
  pub served : All (λ q. (spec_at (value_of a).state.specs q).service ≡ true) (value_of a).state.run
