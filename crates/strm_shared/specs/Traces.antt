-- The trace of a shared pool: which served calls are kept, and when it is full.
use Rattle.std.specs.Prelude.{◌≡◌, ℕ, ◌≤◌, ◌==◌, Bool, false, not, ◌&&◌, nat_le, List, [], length, Option, None, Some, IfSome}
use Rattle.std.specs.Option.{option_map_or}
use Rattle.strm_pool.specs.declared.line.Entry.{Entry}
use Rattle.strm_shared.specs.declared.setup.Trace.{Trace}
use Rattle.strm_shared.specs.declared.setup.Trace.TheVariants.{Keep, Off}
use Rattle.strm_shared.specs.Limits.{most_trace}

-- The greatest number of entries, if a trace is kept, and the entries.
pub record TraceValue : Type 0 where
  pub most : Option ℕ
  pub entries : List Entry

-- the greatest number of entries that a caller asks for
abbrev pub most_of : Trace → Option ℕ
most_of Off = None
most_of (Keep n) = Some n

-- the number of entries is out of range
abbrev pub is_bad_trace : Trace → Bool
is_bad_trace Off = false
is_bad_trace (Keep n) = not (nat_le 1 n && nat_le n most_trace)

abbrev pub empty_trace : Option ℕ → TraceValue
empty_trace most = record { most = most; entries = [] }

-- the trace has as many entries as it may
abbrev pub is_full : TraceValue → Bool
is_full t = option_map_or (λ n. length t.entries == n) t.most false

-- the entries that are kept: all of these, or none
abbrev pub entries_kept : Option ℕ → List Entry → List Entry
entries_kept None es = []
entries_kept (Some n) es = es

-- The trace of a pool that keeps up to this number of entries, if any, and has served these calls.
pub record IsTraceOf (kept : Option ℕ) (es : List Entry) (t : TraceValue) : Type 0 where
  pub most : t.most ≡ kept
  pub entries : t.entries ≡ entries_kept kept es
  pub few : IfSome kept (λ n. length es ≤ n)
