-- How `Links` stores the rows that a contract sees.
use Rattle.std.proofs.Common.{◌≡◌, ℕ, suc, ◌+◌, ◌<◌, ◌≤◌, ◌^◌, true, false, ◌||◌, List, [], ◌∷◌, map, length, reverse, replicate, get_or, Option, Some, None, refl, sym, ap, ◌∙◌, subst, inl, inr, arith}
use Rattle.std.proofs.lemmas.Bool.{cases_lt, false≢true, false_from_ne_true}
use Rattle.std.proofs.lemmas.List.{length-map, get_or-map, get_or_past, get_or_default, same_lists, get_or_read, append-nil, get_or-replicate, length-replicate}
use Rattle.std.proofs.lemmas.Option.{none-some, same_Some}
use Rattle.std.specs.List.{concat, All}
use Rattle.std.specs.Option.{option_map_or}
use Rattle.strm_links.specs.declared.table.Place.{Place}
use Rattle.strm_links.specs.declared.table.Ends.{Ends}
use Rattle.strm_links.specs.Rows.{Rows, row_of, IsParting, has, IsApart, is_some_of, first, last, after, before, Reads, list_at, holder, next_in, previous_in, linked_nodes}
use Rattle.strm_links.specs.Layout.{no_place, no_ends, place_at, owner_at, previous_at, next_at, ends_at, nodes_between, rows_of, IsLinked, IsSound}
use Rattle.strm_links.proofs.lists.OneList.{has_at, has-append, IsApart-append, is_some_of-same, some_of}
use Rattle.strm_links.proofs.lists.AllLists.{holder_is}
use Rattle.strm_links.proofs.lists.ListLinks.{walk_is, next_is, previous_is, Reads-on, Reads-back, LeadsOn-kept, LeadsBack-kept}

-- ---- the view

-- the walk between the ends of a list finds it
between_is : (nodes : List Place) {e : Ends} {l : ℕ} {xs : List ℕ} → IsLinked (owner_at nodes) (previous_at nodes) (next_at nodes) e l xs → nodes_between nodes e ≡ xs
unfolding nodes_between
between_is nodes {xs} linked = rw (linked.len, linked.front) (walk_is (next_at nodes) xs None linked.leads_on)

-- a contract sees sound nodes and ends as the rows that they hold
pub rows_of_is : {nodes : List Place} {ends : List Ends} {rows : Rows} → IsSound nodes ends rows → rows_of nodes ends ≡ rows
rows_of_is {nodes} {ends} {rows} sound =
    let lists : map (nodes_between nodes) ends ≡ rows.lists =
    same_lists _ _ (length-map ends (nodes_between nodes) ∙ sound.list_count)
    (λ l d inside.
    let within : l < length rows.lists = omega (arith, length-map ends (nodes_between nodes), sound.list_count) in
    get_or-map (nodes_between nodes) ends l no_ends d (omega (arith, sound.list_count))
    ∙ between_is nodes (sound.linked l within)
    ∙ get_or_default rows.lists l [] d within) in
    λ i. record { nodes = sound.node_count i; lists = lists i }

-- the stored invariant holds at the rows that a contract sees
pub IsSound-rows : {nodes : List Place} {ends : List Ends} {rows : Rows} → rows_of nodes ends ≡ rows → IsSound nodes ends (rows_of nodes ends) → IsSound nodes ends rows
IsSound-rows {nodes} {ends} view sound = subst (IsSound nodes ends) view sound

-- and the other way round
pub IsSound-stored : {nodes : List Place} {ends : List Ends} {rows : Rows} → IsSound nodes ends rows → IsSound nodes ends (rows_of nodes ends)
IsSound-stored {nodes} {ends} sound = subst (IsSound nodes ends) (sym (rows_of_is sound)) sound

-- ---- what sound nodes and ends say

-- a number with an owner is a node
pub node_within : (nodes : List Place) (k : ℕ) {l : ℕ} → owner_at nodes k ≡ Some l → k < length nodes
node_within nodes k {l} is =
    elim (cases_lt k (length nodes)) [
      | inl within ↦ within
      | inr past ↦ absurd (none-some l (sym (ap (λ (n : Place). n.list) (get_or_past nodes k no_place past)) ∙ is))
    ]

module _ {nodes : List Place} {ends : List Ends} {rows : Rows} (sound : IsSound nodes ends rows) where
  -- the list that holds a node is its stored owner
  pub holder-owner : (k : ℕ) → holder k rows ≡ owner_at nodes k
  holder-owner k = holder_is k rows (owner_at nodes k) (λ l within. (sound.linked l within).owned k) (sound.known k)

  pub ends_read : (l : ℕ) {e : Ends} → l < length rows.lists → e ≡ get_or ends l e → e ≡ ends_at ends l
  ends_read l {e} within read = get_or_read ends l e (omega (arith, sound.list_count)) read no_ends

  -- the owner of a node in list l is l
  pub owner_from : (l k : ℕ) → l < length rows.lists → has k (list_at l rows) ≡ true → owner_at nodes k ≡ Some l
  owner_from l k within there = some_of l (owner_at nodes k) (sym ((sound.linked l within).owned k) ∙ there)

  -- a node with owner l is in list l
  pub has_owned : {l : ℕ} (k : ℕ) → owner_at nodes k ≡ Some l → has k (list_at l rows) ≡ true
  has_owned {l} k is = (sound.linked l (sound.known k l is)).owned k ∙ is_some_of-same l (owner_at nodes k) is

  -- a number in a list is a node
  pub listed_within : (l k : ℕ) → l < length rows.lists → has k (list_at l rows) ≡ true → k < length nodes
  listed_within l k within there = node_within nodes k (owner_from l k within there)

  -- a stored link is the neighbour in the rows, if it is in each list, and is none for a free node
  neighbour-at : (k : ℕ) (link : Option ℕ) (beside : List ℕ → Option ℕ) → (owner_at nodes k ≡ None → beside [] ≡ link) → ((l : ℕ) → owner_at nodes k ≡ Some l → beside (list_at l rows) ≡ link) → beside (row_of k rows) ≡ link
  neighbour-at k link beside free listed =
      elim (owner_at nodes k) as (λ o. owner_at nodes k ≡ o → beside (row_of k rows) ≡ link) [
        | None ↦ λ is. ap (λ o. beside (option_map_or (λ l. list_at l rows) o [])) (holder-owner k ∙ is) ∙ free is
        | Some l ↦ λ is. ap (λ o. beside (option_map_or (λ l. list_at l rows) o [])) (holder-owner k ∙ is) ∙ listed l is
      ] refl

  pub next_in-at : (k : ℕ) → next_in rows k ≡ next_at nodes k
  next_in-at k =
      neighbour-at k (next_at nodes k) (after k) (λ none. sym (sound.free_next k none))
      (λ l is. sym (next_is (next_at nodes) (list_at l rows) k (sound.linked l (sound.known k l is)).leads_on (has_owned k is)))

  pub previous_in-at : (k : ℕ) → previous_in rows k ≡ previous_at nodes k
  previous_in-at k =
      neighbour-at k (previous_at nodes k) (before k) (λ none. sym (sound.free_previous k none))
      (λ l is. sym (previous_is (previous_at nodes) None (list_at l rows) k (sound.linked l (sound.known k l is)).leads_back (has_owned k is)))

  -- following `next` from the front reads the list
  pub reads_forward : (l : ℕ) → Reads (next_in rows) (first (list_at l rows)) (list_at l rows)
  reads_forward l =
      elim (cases_lt l (length rows.lists)) [
        | inl within ↦ Reads-on (next_in rows) (list_at l rows) (LeadsOn-kept (next_at nodes) (next_in rows) (list_at l rows) None (λ k there. next_in-at k) (sound.linked l within).leads_on)
        | inr past ↦ subst (λ xs. Reads (next_in rows) (first xs) xs) (sym (get_or_past rows.lists l [] past)) refl
      ]

  -- following `prev` from the back reads its reverse
  pub reads_backward : (l : ℕ) → Reads (previous_in rows) (last (list_at l rows)) (reverse (list_at l rows))
  reads_backward l =
      elim (cases_lt l (length rows.lists)) [
        | inl within ↦
            subst (Reads (previous_in rows) (last (list_at l rows))) (append-nil (reverse (list_at l rows)))
            (Reads-back (previous_in rows) None (list_at l rows) [] (LeadsBack-kept (previous_at nodes) (previous_in rows) None (list_at l rows) (λ k there. previous_in-at k) (sound.linked l within).leads_back) refl)
        | inr past ↦ subst (λ xs. Reads (previous_in rows) (last xs) (reverse xs)) (sym (get_or_past rows.lists l [] past)) refl
      ]

-- ---- no node twice

module _ (owner : ℕ → Option ℕ) where
  -- list l of these, numbered from i on, has exactly the nodes of owner i + l, and none twice
  Owns : ℕ → List (List ℕ) → Type 0
  Owns i lists = (l m : ℕ) → l < length lists → m ≡ i + l → IsApart (get_or lists l []) × ((k : ℕ) → has k (get_or lists l []) ≡ is_some_of m (owner k))

  owns_rest : (i : ℕ) (xs : List ℕ) (lists : List (List ℕ)) → Owns i (xs ∷ lists) → Owns (suc i) lists
  unfolding Owns
  owns_rest i xs lists owns = λ l m within is. owns (suc l) m (omega arith) (omega (arith, is))

  -- a node of the lists has an owner among them
  owner_among : (i : ℕ) (lists : List (List ℕ)) (k : ℕ) → Owns i lists → has k (concat lists) ≡ true → (m : ℕ) × (i ≤ m) × (owner k ≡ Some m)
  unfolding Owns
  owner_among i [] k owns found = absurd (false≢true found)
  owner_among i (xs ∷ lists) k owns found =
      elim (has k xs) as (λ b. has k xs ≡ b → (m : ℕ) × (i ≤ m) × (owner k ≡ Some m)) [
        | true ↦ λ here. (i, omega arith, some_of i (owner k) (sym ((owns 0 i (omega arith) (omega arith)).1 k) ∙ here))
        | false ↦ λ absent.
            let rest = owner_among (suc i) lists k (owns_rest i xs lists owns) (ap (λ b. b || has k (concat lists)) (sym absent) ∙ sym (has-append k xs (concat lists)) ∙ found) in
            (rest.0, omega (arith, rest.1), rest.2)
      ] refl

  -- so no node is in them twice
  concat_apart : (i : ℕ) (lists : List (List ℕ)) → Owns i lists → IsApart (concat lists)
  unfolding Owns
  concat_apart i [] owns = tt
  concat_apart i (xs ∷ lists) owns =
      let mine = owns 0 i (omega arith) (omega arith) in
      IsApart-append xs (concat lists)
      (record {
        left = mine.0;
        right = concat_apart (suc i) lists (owns_rest i xs lists owns);
        cross = λ k here. false_from_ne_true _
            (λ there.
            let later = owner_among (suc i) lists k (owns_rest i xs lists owns) there in
            let same = same_Some _ _ (sym (some_of i (owner k) (sym (mine.1 k) ∙ here)) ∙ later.2) in
            absurd (omega (arith, same, later.1)));
      })

module _ {nodes : List Place} {ends : List Ends} {rows : Rows} (sound : IsSound nodes ends rows) where
  -- the rows are such lists
  owns_all : Owns (owner_at nodes) 0 rows.lists
  unfolding Owns
  owns_all = λ l m within is.
      let same : l ≡ m = omega (arith, is) in
      ((sound.linked l within).apart, λ k. (sound.linked l within).owned k ∙ ap (λ j. is_some_of j (owner_at nodes k)) same)

  -- no node is in the rows twice
  pub apart_all : IsApart (linked_nodes rows)
  apart_all = concat_apart (owner_at nodes) 0 rows.lists owns_all

  -- each number in the rows is a node
  pub in_range : All (λ node. node < rows.nodes) (linked_nodes rows)
  in_range = λ i d within.
      let k = get_or (linked_nodes rows) i d in
      let found = owner_among (owner_at nodes) 0 rows.lists k owns_all (has_at (linked_nodes rows) i d within) in
      omega (arith, node_within nodes k found.2, sound.node_count)

-- ---- empty lists

-- free nodes and empty lists are sound
pub IsSound-new : (n m : ℕ) → n < 2 ^ 32 → m < 2 ^ 32 → IsSound (replicate n no_place) (replicate m no_ends) (record { nodes = n; lists = replicate m [] })
IsSound-new n m few_nodes few_lists =
    let none : (k : ℕ) → place_at (replicate n no_place) k ≡ no_place =
    λ k. elim (cases_lt k n) [
      | inl within ↦ get_or-replicate n k no_place no_place within
      | inr past ↦ get_or_past (replicate n no_place) k no_place (omega (arith, length-replicate {A = Place} n no_place))
    ] in
    let free : (k : ℕ) → owner_at (replicate n no_place) k ≡ None = λ k. ap (λ (x : Place). x.list) (none k) in
    let empty : List ℕ = [] in
    let lists : length (replicate m empty) ≡ m = length-replicate m empty in
    record {
      node_count = length-replicate n no_place;
      list_count = length-replicate m no_ends ∙ sym lists;
      few_nodes = few_nodes;
      few_lists = omega (arith, lists);
      known = λ k l is. absurd (none-some l (sym (free k) ∙ is));
      free_next = λ k is. ap (λ (x : Place). x.next) (none k);
      free_previous = λ k is. ap (λ (x : Place). x.previous) (none k);
      linked = λ l within.
          let inside : l < m = omega (arith, lists) in
          rw (get_or-replicate m l no_ends no_ends inside, get_or-replicate m l empty empty inside)
          (record {
            len = refl;
            front = refl;
            back = refl;
            leads_on = tt;
            leads_back = tt;
            apart = tt;
            owned = λ k. sym (ap (is_some_of l) (free k));
          });
    }

-- sound nodes and ends hold each node at most once
pub parts : (nodes : List Place) (ends : List Ends) (rows : Rows) → IsSound nodes ends rows → IsParting rows
parts nodes ends rows sound = record { apart = apart_all sound; within = in_range sound }
