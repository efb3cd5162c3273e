-- How `Chained` lays out its chains. No public clause cites this module.
use Rattle.std.specs.Prelude.{◌≡◌, ℕ, ◌+◌, ◌<◌, ◌≤◌, ◌^◌, ◌==◌, nat_lt, List, [], ◌∷◌, ◌++◌, map, length, reverse, take, drop, Option, None, Some, IsSome, slice_index_or, slice_set, if◌then◌else◌}
use Rattle.std.specs.List.{range_with_len}
use Rattle.strm_links.specs.Rows.{Rows, first, holder, last, linked_nodes}
use Rattle.strm_links.specs.Layout.{IsSoundTable, rows_in, walk, LeadsOn}
pub use Rattle.strm_links.specs.Layout.{onward}
use Rattle.strm_links.specs.Counting.{times}
use Rattle.strm_links.specs.Chains.{chain_in, items_in, items_of}
use Rattle.strm_links.specs.ChainLists.{ChainLists, LoadedChains}
use Rattle.strm_links.specs.declared.table.Node.{Node}
use Rattle.strm_links.specs.declared.table.Place.{Place}
use Rattle.strm_links.specs.declared.table.Table.{Table}
use Rattle.strm_links.specs.declared.chained.Link.{Link}
use Rattle.strm_links.specs.declared.chained.Span.{Span}

-- what a node that is no head stores
abbrev pub no_span : Span
no_span = record { last = 0; len = 0 }

-- the link of a node that is last and no head; also the result of a read past the nodes
abbrev pub no_link : Link
no_link = record { next = None; span = no_span }

-- the links of nodes, their loads, and all but the links
abbrev pub links_of : {T : Type 0} → List (Node Link T) → List Link
links_of nodes = map (λ n. n.link) nodes

abbrev pub loads_of : {T : Type 0} → List (Node Link T) → List T
loads_of nodes = map (λ n. n.load) nodes

abbrev pub unlinked : {T : Type 0} → List (Node Link T) → List (Place × T)
unlinked nodes = map (λ n. (n.place, n.load)) nodes

-- the fields of a link, each as a function of its node
abbrev pub linked_at : List Link → ℕ → Link
linked_at links k = slice_index_or links k no_link

abbrev pub after_at : List Link → ℕ → Option ℕ
after_at links k = (linked_at links k).next

abbrev pub span_at : List Link → ℕ → Span
span_at links k = (linked_at links k).span

-- a number of nodes, as the links lead, from the given one on
unfoldable pub path : List Link → ℕ → Option ℕ → List ℕ
path links len at = walk (after_at links) len at

-- the free nodes; and for each node the chain that begins with it, held or on a shelf
pub record ByHead : Type 0 where
  pub free : List ℕ
  pub chains : List (Option (List ℕ))

-- the nodes of the chain with this head, first to last
abbrev pub chain_at : ByHead → ℕ → List ℕ
chain_at v h = items_of (chain_in v.chains h)

-- all nodes, whether free or of a chain
abbrev pub all_in : ByHead → List ℕ
all_in v = v.free ++ items_in v.chains

-- of the chain at h, which has nodes xs, `count` nodes after the first are freed, the last to the front; the others stay
abbrev pub behind_freed : ℕ → ℕ → List ℕ → ByHead → ByHead
behind_freed h count xs v = record {
  free = reverse (take count (drop 1 xs)) ++ v.free;
  chains = slice_set v.chains h (Some (take 1 xs ++ drop (count + 1) xs));
}

-- the chain that begins with node h, if any
abbrev pub chain_from : List Link → ℕ → Option (List ℕ)
chain_from links h = if (span_at links h).len == 0 then None else Some (path links (span_at links h).len (Some h))

-- the free nodes and chains that links mean
abbrev pub by_head : List Link → Option ℕ → ℕ → ByHead
by_head links first_free free_len = record {
  free = path links free_len first_free;
  chains = map (chain_from links) (range_with_len 0 (length links));
}

-- the links, and the span that the head stores, say that these nodes are a chain
pub record IsChain (next : ℕ → Option ℕ) (span : Span) (h : ℕ) (xs : List ℕ) : Type 0 where
  pub head : first xs ≡ Some h
  pub last : last xs ≡ Some span.last
  pub len : span.len ≡ length xs
  pub leads : LeadsOn next xs None

-- the span at node h says which chain begins with it, if any
abbrev pub IsHeadOf : (ℕ → Option ℕ) → Span → ℕ → Option (List ℕ) → Type 0
IsHeadOf next span h None = span.len ≡ 0
IsHeadOf next span h (Some xs) = IsChain next span h xs

-- links mean these free nodes and these chains, which together have each node exactly once
pub record IsChained (links : List Link) (first_free : Option ℕ) (free_len : ℕ) (v : ByHead) : Type 0 where
  pub node_count : length links ≡ length v.chains
  pub few_nodes : length v.chains < 2 ^ 32
  pub free_count : free_len ≡ length v.free
  pub free_front : first_free ≡ first v.free
  pub free_leads : LeadsOn (after_at links) v.free None
  pub heads : (h : ℕ) → IsHeadOf (after_at links) (span_at links h) h (chain_in v.chains h)
  pub once : (n : ℕ) → times n (all_in v) ≡ (if nat_lt n (length v.chains) then 1 else 0)

-- ---- which chains are on shelves

-- the chains without those that begin with these nodes
abbrev pub chains_but : List ℕ → List (Option (List ℕ)) → List (Option (List ℕ))
chains_but [] chains = chains
chains_but (h ∷ hs) chains = chains_but hs (slice_set chains h None)

-- what a contract sees of chains and of the heads on shelves: a chain whose head is on a shelf is there, and any other is held
abbrev pub lists_of : ByHead → Rows → ℕ → ChainLists
lists_of v heads least = record {
  free = v.free;
  held = chains_but (linked_nodes heads) v.chains;
  shelves = map (map (chain_at v)) heads.lists;
  least = least;
}

-- the chains that a table of nodes means
abbrev pub chains_in : {T : Type 0} → Table Link T → Option ℕ → ℕ → ByHead
chains_in table first_free free_len = by_head (links_of table.nodes.items) first_free free_len

abbrev pub lists_in : {T : Type 0} → Table Link T → Option ℕ → ℕ → ℕ → ChainLists
lists_in table first_free free_len least = lists_of (chains_in table first_free free_len) (rows_in table) least

abbrev pub view_of : {T : Type 0} → Table Link T → Option ℕ → ℕ → ℕ → LoadedChains T
view_of table first_free free_len least = record { lists = lists_in table first_free free_len least; loads = loads_of table.nodes.items }

-- the table and the chains are sound; each head on a shelf begins a chain; and no fewer nodes are free than the fewest
pub record IsWhole {T : Type 0} (table : Table Link T) (first_free : Option ℕ) (free_len least : ℕ) : Type 0 where
  pub sound : IsSoundTable table
  pub chained : IsChained (links_of table.nodes.items) first_free free_len (chains_in table first_free free_len)
  pub begun : (h : ℕ) → IsSome (holder h (rows_in table)) → IsSome (chain_in (chains_in table first_free free_len).chains h)
  pub fewest : least ≤ free_len
