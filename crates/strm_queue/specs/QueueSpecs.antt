-- The specs that queues are made with, and when they are lawful.
use Rattle.std.specs.Prelude.{ℕ, Bool, true, not, ◌&&◌, nat_lt, nat_le, List, length, count_by, Option, None, Some}
use Rattle.std.specs.List.{list_all, list_any, enumerate_from}
use Rattle.strm_links.specs.Rows as rows
use Rattle.strm_queue.specs.Limits.{most_queues}
use Rattle.strm_queue.specs.declared.queue_spec.QueueSpec.{QueueSpec}

-- some low water mark is not below its high one
abbrev pub marks_meet : List QueueSpec → Bool
marks_meet qs = list_any (λ q. nat_le q.hiwat q.lowat) qs

-- the number of queues whose next is queue n
abbrev pub times_next : List QueueSpec → ℕ → ℕ
times_next qs n = count_by (λ q. rows.is_some_of n q.next) qs

-- a next queue exists, has a greater number than its own queue, and is named once
abbrev pub next_fits : List QueueSpec → ℕ → Option ℕ → Bool
next_fits qs q None = true
next_fits qs q (Some n) = nat_lt q n && (nat_lt n (length qs) && nat_le (times_next qs n) 1)

abbrev pub nexts_fit : List QueueSpec → Bool
nexts_fit qs = list_all (λ p. next_fits qs p.0 p.1.next) (enumerate_from 0 qs)

-- Specs are lawful if there are 1 to `most_queues` of them, each low water mark is below the high one, and next queues fit.
abbrev pub are_lawful : List QueueSpec → Bool
are_lawful qs = nat_le 1 (length qs) && (nat_le (length qs) most_queues && (not (marks_meet qs) && nexts_fit qs))
