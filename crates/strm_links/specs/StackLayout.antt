-- How `Stacks` lays out its lists. No public clause cites this module.
use Rattle.std.specs.Prelude.{◌≡◌, ℕ, ◌<◌, ◌≤◌, ◌^◌, List, map, length, Option, None, slice_index_or}
use Rattle.strm_links.specs.Counting.{times}
use Rattle.strm_links.specs.Rows.{Rows, first, list_at, linked_nodes}
use Rattle.strm_links.specs.Layout.{walk, LeadsOn}
use Rattle.strm_links.specs.LoadedRows.{LoadedRows}
use Rattle.strm_links.specs.declared.stacks.Node.{Node}
use Rattle.strm_links.specs.declared.stacks.Top.{Top}

-- the top of an empty stack; also the result of a read past the stacks
abbrev pub no_top : Top
no_top = record { len = 0; front = None }

-- the top of a stack
abbrev pub top_at : List Top → ℕ → Top
top_at tops l = slice_index_or tops l no_top

-- the node after a node
abbrev pub behind_at : List (Option ℕ) → ℕ → Option ℕ
behind_at behind k = slice_index_or behind k None

-- the nodes of a stack, from its top on
unfoldable pub stack : List (Option ℕ) → Top → List ℕ
stack behind t = walk (behind_at behind) t.len t.front

-- the rows that links and tops mean, which contracts see
abbrev pub stacked_rows : List (Option ℕ) → List Top → Rows
stacked_rows behind tops = record { nodes = length behind; lists = map (stack behind) tops }

-- top and links say that a stack has these nodes
pub record IsStack (next : ℕ → Option ℕ) (t : Top) (xs : List ℕ) : Type 0 where
  pub len : t.len ≡ length xs
  pub front : t.front ≡ first xs
  pub leads_on : LeadsOn next xs None

-- links and tops mean these rows: each stack is linked, and all stacks together have each node at most once, and no other numbers.
-- A node does not store its stack, so counting says that no two stacks share one
pub record IsSound (behind : List (Option ℕ)) (tops : List Top) (rows : Rows) : Type 0 where
  pub node_count : length behind ≡ rows.nodes
  pub list_count : length tops ≡ length rows.lists
  pub few_nodes : rows.nodes < 2 ^ 32
  pub few_lists : length rows.lists < 2 ^ 32
  pub once : (k : ℕ) → times k (linked_nodes rows) ≤ 1
  pub within : (k : ℕ) → 0 < times k (linked_nodes rows) → k < rows.nodes
  pub linked : (l : ℕ) → l < length rows.lists → IsStack (behind_at behind) (top_at tops l) (list_at l rows)

-- ---- nodes that carry loads

-- their links, and their loads
abbrev pub behind_of : {T : Type 0} → List (Node T) → List (Option ℕ)
behind_of nodes = map (λ n. n.behind) nodes

abbrev pub loads_of : {T : Type 0} → List (Node T) → List T
loads_of nodes = map (λ n. n.load) nodes

-- the rows and the loads that nodes and tops mean
abbrev pub loaded_rows : {T : Type 0} → List (Node T) → List Top → LoadedRows T
loaded_rows nodes tops = record { rows = stacked_rows (behind_of nodes) tops; loads = loads_of nodes }

-- nodes and tops are sound
abbrev pub IsLaid : {T : Type 0} → List (Node T) → List Top → Type 0
IsLaid nodes tops = IsSound (behind_of nodes) tops (stacked_rows (behind_of nodes) tops)
