use Rattle.std.proofs.Common.{◌≡◌, ◌+◌, ℕ, length, Some, None, if◌then◌else◌}
use Rattle.std.specs.Prelude.{nat_lt}
use Rattle.strm_links.specs.ChainLayout.{after_at, links_of, no_span, span_at, unlinked}
use Rattle.strm_links.proofs.chained.Chained.new.Given as goal

-- there are `nodes` nodes, and each before `number` leads on to the next number
abbrev pub invariant-loop-number : goal.invariant-loop-number
invariant-loop-number g l = record {
  len : length l.table.nodes.items ≡ l.nodes;
  leads : (k : ℕ) → after_at (links_of l.table.nodes.items) k ≡ (if nat_lt (k + 1) l.number then Some (k + 1) else None);
  spans : (k : ℕ) → span_at (links_of l.table.nodes.items) k ≡ no_span;
  rest : unlinked l.table.nodes.items ≡ unlinked l.initial.table.nodes.items;
  ends : l.table.ends ≡ l.initial.table.ends;
}
