-- What a contract sees of `Chained`: the free nodes, the chains of the others, and the nodes' loads.
use Rattle.std.specs.Prelude.{ℕ, ◌+◌, ◌≤◌, min, List, [], ◌++◌, length, map, replicate, reverse, take, drop, Option, None, Some, slice_index_or, slice_set, unwrap_or, refl}
use Rattle.std.specs.List.{flat_map, position, range_with_len}
use Rattle.std.specs.Coded.{Coded, code_by, coded×, coded_ℕ, coded_list, coded_option}
use Rattle.strm_links.specs.Rows.{has}
use Rattle.strm_links.specs.Chains.{AreParted, items_of, chain_in, shelf_in, with_head}

-- The free nodes, the next to be taken first. For each node, the held chain that begins with it, if any. For each shelf, its chains,
-- front to back. The fewest nodes that were free.
pub record ChainLists : Type 0 where
  pub free : List ℕ
  pub held : List (Option (List ℕ))
  pub shelves : List (List (List ℕ))
  pub least : ℕ

-- these lists, and the load of each node
pub record LoadedChains (L : Type 0) : Type 0 where
  pub lists : ChainLists
  pub loads : List L

-- how they are stored: as nested pairs of their fields
abbrev pub lists_code : Coded ChainLists
lists_code =
    code_by
    (List ℕ × (List (Option (List ℕ)) × (List (List (List ℕ)) × ℕ)))
    (coded× (coded_list coded_ℕ) (coded× (coded_list (coded_option (coded_list coded_ℕ))) (coded× (coded_list (coded_list (coded_list coded_ℕ))) coded_ℕ)))
    (λ v. (v.free, (v.held, (v.shelves, v.least))))
    (λ p. record { free = p.0; held = p.1.0; shelves = p.1.1.0; least = p.1.1.1 })
    (λ _. refl)

abbrev pub loaded_code : {L : Type 0} → Coded L → Coded (LoadedChains L)
loaded_code {L = L} loads =
    code_by
    (ChainLists × List L)
    (coded× lists_code (coded_list loads))
    (λ v. (v.lists, v.loads))
    (λ p. record { lists = p.0; loads = p.1 })
    (λ _. refl)

-- the nodes of the held chain with this head; none if there is no such chain
abbrev pub nodes_at : ChainLists → ℕ → List ℕ
nodes_at v h = items_of (chain_in v.held h)

-- the first node of a chain
abbrev pub head_node : List ℕ → ℕ
head_node ns = slice_index_or ns 0 0

-- the nodes of the chain with this head, held or on a shelf; none if there is no such chain
abbrev pub chain_of : ChainLists → ℕ → List ℕ
chain_of v h = unwrap_or (chain_in v.held h) (items_of (with_head head_node h (flat_map (λ ns. ns) v.shelves)))

-- the heads of the chains on a shelf
abbrev pub heads_on : ChainLists → ℕ → List ℕ
heads_on v s = map head_node (shelf_in v.shelves s)

-- the shelf that has a chain with this head, if any
abbrev pub shelf_with : ChainLists → ℕ → Option ℕ
shelf_with v h = position (λ ns. has h (map head_node ns)) v.shelves

-- the nodes of chain k of a shelf
abbrev pub shelved_nodes : ChainLists → ℕ → ℕ → List ℕ
shelved_nodes v s k = slice_index_or (shelf_in v.shelves s) k []

-- each node is in one place, and no fewer nodes are free than the fewest
pub record IsLawful (v : ChainLists) : Type 0 where
  pub parts : AreParted (λ ns. ns) head_node v.free v.shelves v.held
  pub least : v.least ≤ length v.free

-- new lists: all nodes are free, in rising order, and all shelves are empty
abbrev pub opening_chains : ℕ → ℕ → ChainLists
opening_chains nodes shelves = record { free = range_with_len 0 nodes; held = replicate nodes None; shelves = replicate shelves []; least = nodes }

-- the lists after others than these were taken from the free nodes
abbrev pub with_free_left : List ℕ → ChainLists → ChainLists
with_free_left ns v = record v { free = ns; least = min v.least (length ns) }

-- the lists after the first k free nodes became the chain held at h
abbrev pub with_begun : ChainLists → ℕ → ℕ → ChainLists
with_begun v h k = record (with_free_left (drop k v.free) v) { held = slice_set v.held h (Some (take k v.free)) }

-- of the chain held at h, which has these nodes, `count` nodes after the first are freed, the last to the front; the others stay
abbrev pub with_behind_freed : ℕ → ℕ → List ℕ → ChainLists → ChainLists
with_behind_freed h count ns v = record v {
  free = reverse (take count (drop 1 ns)) ++ v.free;
  held = slice_set v.held h (Some (take 1 ns ++ drop (count + 1) ns));
}
