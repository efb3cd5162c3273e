-- How `Links` and `Chained` lay out lists. No public clause cites this module.
use Rattle.std.specs.Prelude.{◌≡◌, ℕ, zero, suc, ◌<◌, ◌^◌, List, [], ◌∷◌, map, length, Option, Some, None, slice_index_or, slice_set}
use Rattle.strm_links.specs.Rows.{Rows, has, IsApart, first_or, first, last, is_some_of, list_at}
use Rattle.strm_links.specs.declared.table.Node.{Node}
use Rattle.strm_links.specs.declared.table.Place.{Place}
use Rattle.strm_links.specs.declared.table.Ends.{Ends}
use Rattle.strm_links.specs.declared.table.Table.{Table}

-- the place of a node that is in no list; also the result of a read past the nodes
abbrev pub no_place : Place
no_place = record { list = None; previous = None; next = None }

-- the ends of an empty list; also the result of a read past the lists
abbrev pub no_ends : Ends
no_ends = record { len = 0; front = None; back = None }

-- the fields of a node's place, each as a function of its number
abbrev pub place_at : List Place → ℕ → Place
place_at places k = slice_index_or places k no_place

abbrev pub owner_at : List Place → ℕ → Option ℕ
owner_at places k = (place_at places k).list

abbrev pub previous_at : List Place → ℕ → Option ℕ
previous_at places k = (place_at places k).previous

abbrev pub next_at : List Place → ℕ → Option ℕ
next_at places k = (place_at places k).next

-- the places once `next` comes after `at`, or `previous` before it; if `at` is none, an end of the list changes instead
abbrev pub with_next : Option ℕ → Option ℕ → List Place → List Place
with_next None next places = places
with_next (Some k) next places = slice_set places k (record (place_at places k) { next = next })

abbrev pub with_previous : Option ℕ → Option ℕ → List Place → List Place
with_previous None previous places = places
with_previous (Some k) previous places = slice_set places k (record (place_at places k) { previous = previous })

-- the ends of a list
abbrev pub ends_at : List Ends → ℕ → Ends
ends_at ends l = slice_index_or ends l no_ends

-- the nodes that the links lead to from a first one on, the given number at most
abbrev pub walk : (ℕ → Option ℕ) → ℕ → Option ℕ → List ℕ
walk next zero at = []
walk next (suc count) None = []
walk next (suc count) (Some k) = k ∷ walk next count (next k)

-- the node that `steps` links from `at` lead to; none if they end before
abbrev pub onward : (ℕ → Option ℕ) → ℕ → Option ℕ → Option ℕ
onward next zero at = at
onward next (suc steps) None = None
onward next (suc steps) (Some k) = onward next steps (next k)

-- the nodes from the front of a list on, as the links lead, as many as its length says
unfoldable pub nodes_between : List Place → Ends → List ℕ
nodes_between places e = walk (next_at places) e.len e.front

-- the rows that places and ends mean, which contracts see
abbrev pub rows_of : List Place → List Ends → Rows
rows_of places ends = record { nodes = length places; lists = map (nodes_between places) ends }

-- `next` leads from each node to the one after it, and from the last to `beyond`
abbrev pub LeadsOn : (ℕ → Option ℕ) → List ℕ → Option ℕ → Type 0
LeadsOn next [] beyond = Unit {0}
LeadsOn next (x ∷ xs) beyond = (next x ≡ first_or beyond xs) × LeadsOn next xs beyond

-- `previous` leads from each node to the one before it, and from the first to `ahead`
abbrev pub LeadsBack : (ℕ → Option ℕ) → Option ℕ → List ℕ → Type 0
LeadsBack previous ahead [] = Unit {0}
LeadsBack previous ahead (x ∷ xs) = (previous x ≡ ahead) × LeadsBack previous (Some x) xs

-- ends, links and owners say that list l has nodes xs, in both directions
pub record IsLinked (owner previous next : ℕ → Option ℕ) (e : Ends) (l : ℕ) (xs : List ℕ) : Type 0 where
  pub len : e.len ≡ length xs
  pub front : e.front ≡ first xs
  pub back : e.back ≡ last xs
  pub leads_on : LeadsOn next xs None
  pub leads_back : LeadsBack previous None xs
  pub apart : IsApart xs
  pub owned : (k : ℕ) → has k xs ≡ is_some_of l (owner k)

-- places and ends mean these rows: each list is linked, each owner is a list, and a node without an owner has no links
pub record IsSound (places : List Place) (ends : List Ends) (rows : Rows) : Type 0 where
  pub node_count : length places ≡ rows.nodes
  pub list_count : length ends ≡ length rows.lists
  pub few_nodes : rows.nodes < 2 ^ 32
  pub few_lists : length rows.lists < 2 ^ 32
  pub known : (k l : ℕ) → owner_at places k ≡ Some l → l < length rows.lists
  pub free_next : (k : ℕ) → owner_at places k ≡ None → next_at places k ≡ None
  pub free_previous : (k : ℕ) → owner_at places k ≡ None → previous_at places k ≡ None
  pub linked : (l : ℕ) → l < length rows.lists → IsLinked (owner_at places) (previous_at places) (next_at places)
      (ends_at ends l) l (list_at l rows)

-- ---- nodes that carry more than their places

-- their places
abbrev pub places_of : {L T : Type 0} → List (Node L T) → List Place
places_of nodes = map (λ n. n.place) nodes

-- what else they carry
abbrev pub carried_by : {L T : Type 0} → List (Node L T) → List (L × T)
carried_by nodes = map (λ n. (n.link, n.load)) nodes

-- the rows that a table means
abbrev pub rows_in : {L T : Type 0} → Table L T → Rows
rows_in table = rows_of (places_of table.nodes.items) table.ends.items

-- the table is sound
abbrev pub IsSoundTable : {L T : Type 0} → Table L T → Type 0
IsSoundTable table = IsSound (places_of table.nodes.items) table.ends.items (rows_in table)
