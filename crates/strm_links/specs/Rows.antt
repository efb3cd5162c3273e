-- What a contract sees of `Links` and `Stacks`: lists of node numbers, and the terms for one list and for all.
use Rattle.std.specs.Prelude.{◌≡◌, ℕ, ◌<◌, Bool, false, List, [], ◌∷◌, ◌++◌, Option, Some, None, not, ◌==◌, filter, slice_index_or, if◌then◌else◌, refl}
use Rattle.std.specs.List.{All, list_any, position, concat}
use Rattle.std.specs.Option.{option_map_or}
use Rattle.std.specs.Coded.{Coded, code_by, coded×, coded_ℕ, coded_list}

-- the number of nodes, and the nodes of each list from front to back
pub record Rows : Type 0 where
  pub nodes : ℕ
  pub lists : List (List ℕ)

-- how rows are stored: as the pair of their fields
abbrev pub rows_code : Coded Rows
rows_code =
    code_by
    (ℕ × List (List ℕ))
    (coded× coded_ℕ (coded_list (coded_list coded_ℕ)))
    (λ r. (r.nodes, r.lists))
    (λ p. record { nodes = p.0; lists = p.1 })
    (λ _. refl)

-- ---- one list of nodes

-- the option has this number
abbrev pub is_some_of : ℕ → Option ℕ → Bool
is_some_of k None = false
is_some_of k (Some x) = x == k

-- the node is in the list
abbrev pub has : ℕ → List ℕ → Bool
has node xs = list_any (λ x. x == node) xs

-- no node is in the list twice
abbrev pub IsApart : List ℕ → Type 0
IsApart [] = Unit {0}
IsApart (x ∷ xs) = (has x xs ≡ false) × IsApart xs

-- the front of the list, or `otherwise` if the list is empty
abbrev pub first_or : Option ℕ → List ℕ → Option ℕ
first_or otherwise [] = otherwise
first_or otherwise (x ∷ xs) = Some x

-- the back of the list, or `otherwise` if the list is empty
abbrev pub last_or : Option ℕ → List ℕ → Option ℕ
last_or otherwise [] = otherwise
last_or otherwise (x ∷ xs) = last_or (Some x) xs

-- the front of the list, or none if it is empty
abbrev pub first : List ℕ → Option ℕ
first xs = first_or None xs

-- the back of the list, or none if it is empty
abbrev pub last : List ℕ → Option ℕ
last xs = last_or None xs

-- the node after a node; none if that is the last, or not in the list
abbrev pub after : ℕ → List ℕ → Option ℕ
after node [] = None
after node (x ∷ xs) = if x == node then first xs else after node xs

-- the node before a node, if `ahead` comes before the list
abbrev pub before_from : Option ℕ → ℕ → List ℕ → Option ℕ
before_from ahead node [] = None
before_from ahead node (x ∷ xs) = if x == node then ahead else before_from (Some x) node xs

-- the node before a node; none if that is the first, or not in the list
abbrev pub before : ℕ → List ℕ → Option ℕ
before node xs = before_from None node xs

-- the list after a node has left it
abbrev pub without : ℕ → List ℕ → List ℕ
without node xs = filter (λ x. not (x == node)) xs

-- the list after a node has joined it just before `at`; unchanged if `at` is not in it
abbrev pub put_before : ℕ → ℕ → List ℕ → List ℕ
put_before at node [] = []
put_before at node (x ∷ xs) = if x == at then node ∷ x ∷ xs else x ∷ put_before at node xs

-- the list after a node has joined it just before another, or at the back if that is none
abbrev pub put_in : Option ℕ → ℕ → List ℕ → List ℕ
put_in None node xs = xs ++ node ∷ []
put_in (Some at) node xs = put_before at node xs

-- `step` leads from `at` through these nodes, and ends after the last of them
abbrev pub Reads : (ℕ → Option ℕ) → Option ℕ → List ℕ → Type 0
Reads step at [] = at ≡ None
Reads step at (x ∷ xs) = (at ≡ Some x) × Reads step (step x) xs

-- ---- all the lists

-- the nodes of a list, from front to back
abbrev pub list_at : ℕ → Rows → List ℕ
list_at list rows = slice_index_or rows.lists list []

-- the number of the list that the node is in
abbrev pub holder : ℕ → Rows → Option ℕ
holder node rows = position (has node) rows.lists

-- the nodes of the node's list; none for a free node
abbrev pub row_of : ℕ → Rows → List ℕ
row_of node rows = option_map_or (λ list. list_at list rows) (holder node rows) []

-- the node after this one in its list
abbrev pub next_in : Rows → ℕ → Option ℕ
next_in rows node = after node (row_of node rows)

-- the node before this one in its list
abbrev pub previous_in : Rows → ℕ → Option ℕ
previous_in rows node = before node (row_of node rows)

-- the nodes of all lists, one list after the other
abbrev pub linked_nodes : Rows → List ℕ
linked_nodes rows = concat rows.lists

-- all lists together have each node at most once, and no other numbers
pub record IsParting (rows : Rows) : Type 0 where
  pub apart : IsApart (linked_nodes rows)
  pub within : All (λ node. node < rows.nodes) (linked_nodes rows)
