-- Chains of items of any kind. A held one is stored at the number of its first item.
use Rattle.std.specs.Prelude.{◌≡◌, ℕ, ◌+◌, ◌<◌, ◌==◌, nat_lt, not, length, IfSome, List, [], ◌∷◌, ◌++◌, filter, take, drop, Option, None, Some, unwrap_or, slice_get, slice_index_or, slice_set, if◌then◌else◌}
use Rattle.std.specs.List.{All, flat_map}
use Rattle.strm_links.specs.Counting.{times}

-- the items of a chain, or none if there is no chain
abbrev pub items_of : {X : Type 0} → Option (List X) → List X
items_of m = unwrap_or m []

-- the chain that begins with this number, if any
abbrev pub chain_in : {X : Type 0} → List (Option (List X)) → ℕ → Option (List X)
chain_in chains h = slice_index_or chains h None

-- all items of these chains
abbrev pub items_in : {X : Type 0} → List (Option (List X)) → List X
items_in chains = flat_map items_of chains

-- the chain at g is appended to the one at h
abbrev pub chains_joined : {X : Type 0} → ℕ → ℕ → List (Option (List X)) → List (Option (List X))
chains_joined h g chains = slice_set (slice_set chains g None) h (Some (items_of (chain_in chains h) ++ items_of (chain_in chains g)))

-- the chain at h, which has these items, keeps the first one; the others, if any, become a chain of their own
abbrev pub chain_divided : {X : Type 0} → (X → ℕ) → ℕ → List X → List (Option (List X)) → List (Option (List X))
chain_divided number h [] chains = chains
chain_divided number h (x ∷ []) chains = chains
chain_divided number h (x ∷ y ∷ rest) chains = slice_set (slice_set chains h (Some (x ∷ []))) (number y) (Some (y ∷ rest))

-- the list without place k
abbrev pub without_place : {X : Type 0} → ℕ → List X → List X
without_place k xs = take k xs ++ drop (k + 1) xs

-- ---- chains on shelves, if `head` gives the number that a chain begins with

-- the chains on a shelf, front to back
abbrev pub shelf_in : {X : Type 0} → List (List (List X)) → ℕ → List (List X)
shelf_in shelves s = slice_index_or shelves s []

-- all items of the chains on these shelves
abbrev pub items_on : {X : Type 0} → List (List (List X)) → List X
items_on shelves = flat_map (flat_map (λ m. m)) shelves

-- the chains after m joined them just before the one that begins with `at`, or last if there is no such chain
abbrev pub put_before_head : {M : Type 0} → (M → ℕ) → Option ℕ → M → List M → List M
put_before_head head None m ms = ms ++ m ∷ []
put_before_head head (Some at) m [] = m ∷ []
put_before_head head (Some at) m (x ∷ xs) = if head x == at then m ∷ x ∷ xs else x ∷ put_before_head head (Some at) m xs

-- the chains after the one that begins with h has left
abbrev pub without_head : {M : Type 0} → (M → ℕ) → ℕ → List M → List M
without_head head h ms = filter (λ m. not (head m == h)) ms

-- the chain that begins with h, if any
abbrev pub with_head : {M : Type 0} → (M → ℕ) → ℕ → List M → Option M
with_head head h ms = slice_get (filter (λ m. head m == h) ms) 0

-- ---- each item in one place

-- Items have numbers, and `head` gives the number that a chain begins with. Free ones, chains on shelves and held chains together have
-- each number once. Each held chain is at its head, and no chain is empty.
pub record AreParted {X : Type 0} (numbers : List X → List ℕ) (head : List X → ℕ) (free : List ℕ) (shelves : List (List (List X))) (held : List (Option (List X))) : Type 0 where
  pub once : (n : ℕ) → times n (free ++ numbers (items_on shelves ++ items_in held)) ≡ (if nat_lt n (length held) then 1 else 0)
  pub heads : (h : ℕ) → IfSome (chain_in held h) (λ m. (0 < length m) × (head m ≡ h))
  pub shelved : (s : ℕ) → All (λ m. 0 < length m) (shelf_in shelves s)
