-- A node joins a list before a given one or leaves its list, and a list joins another: what the calls of `Table` read, and what their writes leave.
use Rattle.std.proofs.Common.{◌≡◌, ◌≢◌, ℕ, ◌+◌, ◌-◌, ◌<◌, ◌≤◌, true, ◌||◌, ◌==◌, List, [], ◌∷◌, ◌++◌, map, length, get_or, set, Option, Some, None, IsSome, is_none, if◌then◌else◌, refl, sym, ap, ◌∙◌, subst, inl, inr, arith, length-set}
use Rattle.std.proofs.lemmas.Bool.{cond-true, eq-eqb, ne_eqb, or_cases, false≢true}
use Rattle.std.proofs.lemmas.List.{append-nil, append_assoc, length-append, length-map}
use Rattle.std.proofs.lemmas.Option.{none-some}
use Rattle.std.specs.Option.{option_map_or}
use Rattle.strm_links.specs.declared.table.Node.{Node}
use Rattle.strm_links.specs.declared.table.Place.{Place}
use Rattle.strm_links.specs.declared.table.Ends.{Ends}
use Rattle.strm_links.specs.declared.table.Table.{Table}
use Rattle.strm_links.specs.Rows.{Rows, has, IsApart, is_some_of, first, last, after, before, without, put_before, put_in, list_at, holder}
use Rattle.strm_links.specs.Layout.{no_place, no_ends, place_at, walk, owner_at, previous_at, next_at, with_next, with_previous, ends_at, places_of, rows_in, IsSoundTable, IsSound}
use Rattle.strm_links.proofs.lists.OneList.{has_tail, has_cases, has_left, has_right, upto, beyond, split_at, absent_upto, absent_around, before-at, after-at, without-at, put_before-at, has-append, has-push_back, has-put_before, IsApart-append, length_below, first_has, is_some_of-same, last_has, number_of}
use Rattle.strm_links.proofs.linking.Carried.{place_read}
use Rattle.strm_links.proofs.linking.Changes.{Rewires-both, Rewires-same, length-written, Gives, Puts, Puts-set, IsSound-insert, IsSound-remove, IsSound-append}
use Rattle.strm_links.proofs.lists.AllLists.{map-without, holder-insert_here, holder-insert_other}
use Rattle.strm_links.proofs.lists.ListLinks.{next_is, previous_is, walk_is}
use Rattle.strm_links.proofs.linking.StoredRows.{holder-owner, owner_from, has_owned, listed_within, node_within, apart_all}

-- ---- the place before a node, or at the back

-- the part of the list before the place
abbrev pub pre_of : Option ℕ → List ℕ → List ℕ
pre_of next xs = option_map_or (λ at. upto at xs) next xs

-- the part of the list from the place on
abbrev pub post_of : Option ℕ → List ℕ → List ℕ
post_of next xs = option_map_or (λ at. at ∷ beyond at xs) next []

module _ (xs : List ℕ) where
  -- the list is the two parts
  split_is : (next : Option ℕ) → ((at : ℕ) → next ≡ Some at → has at xs ≡ true) → xs ≡ pre_of next xs ++ post_of next xs
  split_is None there = sym (append-nil xs)
  split_is (Some at) there = split_at at xs (there at refl)

  -- the second part begins with the node that the place is before
  first-post_of : (next : Option ℕ) → first (post_of next xs) ≡ next
  first-post_of None = refl
  first-post_of (Some at) = refl

  -- a node that joins at the place is between the two parts
  put_in-at : (next : Option ℕ) (n : ℕ) → ((at : ℕ) → next ≡ Some at → has at xs ≡ true) → put_in next n xs ≡ pre_of next xs ++ n ∷ post_of next xs
  put_in-at None n there = refl
  put_in-at (Some at) n there = ap (put_before at n) (split_at at xs (there at refl)) ∙ put_before-at (upto at xs) (beyond at xs) at n (absent_upto at xs)

  -- the node before the place is the last of the first part
  ahead_is : (previous : ℕ → Option ℕ) {back : Option ℕ} (next : Option ℕ) → ((at : ℕ) → has at xs ≡ true → previous at ≡ last (upto at xs)) → back ≡ last xs → ((at : ℕ) → next ≡ Some at → has at xs ≡ true) → option_map_or previous next back ≡ last (pre_of next xs)
  ahead_is previous None before end there = end
  ahead_is previous (Some at) before end there = before at (there at refl)

-- the list has the new node and what it had
has-put_in : (next : Option ℕ) (n k : ℕ) (xs : List ℕ) → ((at : ℕ) → next ≡ Some at → has at xs ≡ true) → has k (put_in next n xs) ≡ ((n == k) || has k xs)
has-put_in None n k xs there = has-push_back k n xs
has-put_in (Some at) n k xs there = has-put_before k at n xs (there at refl)

-- a node that joins before the front is the new front
pub put_in-first : (n : ℕ) (xs : List ℕ) → put_in (first xs) n xs ≡ n ∷ xs
put_in-first n [] = refl
put_in-first n (x ∷ xs) = cond-true _ _ _ (eq-eqb x x refl)

-- ---- neighbours

module _ {nodes : List Place} {ends : List Ends} {rows : Rows} (sound : IsSound nodes ends rows) (l : ℕ) (within : l < length rows.lists) where
  -- the stored previous node is the last of those before k
  pub previous-last : (k : ℕ) → has k (list_at l rows) ≡ true → previous_at nodes k ≡ last (upto k (list_at l rows))
  previous-last k there =
      previous_is (previous_at nodes) None (list_at l rows) k (sound.linked l within).leads_back there
      ∙ ap (before k) (split_at k (list_at l rows) there) ∙ before-at (upto k (list_at l rows)) (beyond k (list_at l rows)) k (absent_upto k (list_at l rows))

  -- the stored next node is the first of those after k
  pub next-first : (k : ℕ) → has k (list_at l rows) ≡ true → next_at nodes k ≡ first (beyond k (list_at l rows))
  next-first k there =
      next_is (next_at nodes) (list_at l rows) k (sound.linked l within).leads_on there
      ∙ ap (after k) (split_at k (list_at l rows) there) ∙ after-at (upto k (list_at l rows)) (beyond k (list_at l rows)) k (absent_upto k (list_at l rows))

  -- the last of a part of the list is a node
  pub last_within : (pre post : List ℕ) {k : ℕ} → list_at l rows ≡ pre ++ post → last pre ≡ Some k → k < length nodes
  last_within pre post {k} split is =
      listed_within sound l k within (ap (has k) split ∙ has_left k pre post (last_has pre k (is_some_of-same k (last pre) is)))

  -- the first of a part of the list is a node
  pub first_within : (pre post : List ℕ) {k : ℕ} → list_at l rows ≡ pre ++ post → first post ≡ Some k → k < length nodes
  first_within pre post {k} split is =
      listed_within sound l k within (ap (has k) split ∙ has_right k pre post (first_has post k (is_some_of-same k (first post) is)))

-- ---- a node joins

module _ {nodes : List Place} {ends : List Ends} {rows : Rows} (sound : IsSound nodes ends rows) (l n : ℕ) (next : Option ℕ) (within : l < length rows.lists) (inside : n < rows.nodes) (free : holder n rows ≡ None) (there : (at : ℕ) → next ≡ Some at → holder at rows ≡ Some l) where
  -- the node has no owner
  owner_none : owner_at nodes n ≡ None
  owner_none = sym (holder-owner sound n) ∙ free

  -- the list has the node at the place
  joined_has : (at : ℕ) → next ≡ Some at → has at (list_at l rows) ≡ true
  joined_has at is = has_owned sound at (sym (holder-owner sound at) ∙ there at is)

  -- the node at the place is a node of the arena
  pub joined_next_within : {at : ℕ} → next ≡ Some at → at < length nodes
  joined_next_within {at} is = listed_within sound l at within (joined_has at is)

  -- what the code reads as the previous node is the last of the first part
  pub joined_ahead : option_map_or (λ k. previous_at nodes k) next (ends_at ends l).back ≡ last (pre_of next (list_at l rows))
  joined_ahead = ahead_is (list_at l rows) (previous_at nodes) next (previous-last sound l within) (sound.linked l within).back joined_has

  -- it is a node of the arena
  pub joined_ahead_within : {k : ℕ} → option_map_or (λ j. previous_at nodes j) next (ends_at ends l).back ≡ Some k → k < length nodes
  joined_ahead_within is = last_within sound l within (pre_of next (list_at l rows)) (post_of next (list_at l rows)) (split_is (list_at l rows) next joined_has) (sym joined_ahead ∙ is)

  -- a list that lacks a node is shorter than the number of nodes
  pub joined_len : (ends_at ends l).len < rows.nodes
  joined_len =
      let list = sound.linked l within in
      let most = length_below (length nodes) (n ∷ list_at l rows) (list.owned n ∙ ap (is_some_of l) owner_none, list.apart)
      (λ k found. elim (has_cases n k (list_at l rows) found) [
        | inl same ↦ omega (arith, same, sound.node_count)
        | inr later ↦ listed_within sound l k within later
      ]) in
      omega (arith, list.len, most, sound.node_count)

  -- the nodes and the ends are sound after the writes
  pub IsSound-joined : {list p own : Option ℕ} {e e1 e2 : Ends} → list ≡ Some l → own ≡ Some n → e ≡ ends_at ends l → p ≡ option_map_or (λ k. previous_at nodes k) next e.back
      → e1 ≡ record e { front = (if is_none p then own else e.front) } → e2 ≡ record e1 { back = (if is_none next then own else e1.back) }
      → IsSound (with_previous next own (with_next p own (set nodes n (record { list = list; previous = p; next = next })))) (set ends l (record e2 { len = e2.len + 1 })) (record rows { lists = set rows.lists l (put_in next n (list_at l rows)) })
  IsSound-joined {list} {p} {own} {e} {e1} {e2} list_is own_is e_is p_is front back =
      let pre = pre_of next (list_at l rows) in
      let post = post_of next (list_at l rows) in
      let x : Place = record { list = list; previous = p; next = next } in
      let mid = set nodes n x in
      let there : p ≡ option_map_or (λ k. previous_at nodes k) next (ends_at ends l).back = p_is ∙ ap (λ (f : Ends). option_map_or (λ k. previous_at nodes k) next f.back) e_is in
      let ahead : p ≡ last pre = there ∙ joined_ahead in
      let on : next ≡ first post = sym (first-post_of (list_at l rows) next) in
      let puts : Puts nodes mid n (record { list = Some l; previous = last pre; next = first post }) =
      subst (Puts nodes mid n) (λ i. record { list = list_is i; previous = ahead i; next = on i }) (Puts-set nodes n x (omega (arith, inside, sound.node_count))) in
      let written = Rewires-same
      (Rewires-both mid e e1 e2 p next own own (λ k is. omega (arith, length-set nodes n x, joined_ahead_within (sym there ∙ is))) (λ at is. omega (arith, length-set nodes n x, joined_next_within is)) front back)
      e_is ahead on own_is own_is in
      rw (put_in-at (list_at l rows) next n joined_has)
      (IsSound-insert l pre post sound within (length-written mid p next own own ∙ length-set nodes n x) owner_none (split_is (list_at l rows) next joined_has) puts written)

  -- what the list has after the writes
  put_in_has : (k : ℕ) → has k (put_in next n (list_at l rows)) ≡ ((n == k) || has k (list_at l rows))
  put_in_has k = has-put_in next n k (list_at l rows) joined_has

  -- the list holds the node
  pub joined_holder : holder n (record rows { lists = set rows.lists l (put_in next n (list_at l rows)) }) ≡ Some l
  joined_holder = holder-insert_here rows (apart_all sound) n l _ within free (put_in_has n)

  -- every other node is held as before
  pub other_holder : (k : ℕ) → k ≢ n → holder k (record rows { lists = set rows.lists l (put_in next n (list_at l rows)) }) ≡ holder k rows
  other_holder k = holder-insert_other rows (apart_all sound) n l k _ within free (put_in_has k)

-- ---- what the stored ends and links name

module _ (nodes : List Place) (ends : List Ends) (rows : Rows) (sound : IsSound nodes ends rows) (l : ℕ) (within : l < length rows.lists) (e : Ends) (e_is : e ≡ ends_at ends l) where
  -- the stored ends are those of the list
  pub front_is : e.front ≡ first (list_at l rows)
  front_is = ap (λ (f : Ends). f.front) e_is ∙ (sound.linked l within).front

  pub back_is : e.back ≡ last (list_at l rows)
  back_is = ap (λ (f : Ends). f.back) e_is ∙ (sound.linked l within).back

  -- a node in the list is held by it
  pub listed_holder : (k : ℕ) → has k (list_at l rows) ≡ true → holder k rows ≡ Some l
  listed_holder k there = holder-owner sound k ∙ owner_from sound l k within there

  -- the list holds its front and its back
  pub front_holder : {k : ℕ} → e.front ≡ Some k → holder k rows ≡ Some l
  front_holder {k} is = listed_holder k (first_has (list_at l rows) k (is_some_of-same k (first (list_at l rows)) (sym front_is ∙ is)))

  pub back_holder : {k : ℕ} → e.back ≡ Some k → holder k rows ≡ Some l
  back_holder {k} is = listed_holder k (last_has (list_at l rows) k (is_some_of-same k (last (list_at l rows)) (sym back_is ∙ is)))

module _ {nodes : List Place} {ends : List Ends} {rows : Rows} (sound : IsSound nodes ends rows) where
  -- a node that a list holds is a node of the arena
  pub holder_within : (k : ℕ) {l : ℕ} → holder k rows ≡ Some l → k < rows.nodes
  holder_within k is = omega (arith, node_within nodes k (sym (holder-owner sound k) ∙ is), sound.node_count)

  -- a node that is in the list of k is held as k is
  neighbour : (k j : ℕ) → owner_at nodes k ≢ None → ((l : ℕ) → owner_at nodes k ≡ Some l → has j (list_at l rows) ≡ true) → (holder j rows ≡ holder k rows) × (j < rows.nodes)
  neighbour k j owned beside =
      elim (owner_at nodes k) as (λ o. owner_at nodes k ≡ o → (holder j rows ≡ holder k rows) × (j < rows.nodes)) [
        | None ↦ λ is. absurd (owned is)
        | Some l ↦ λ is.
            let held = listed_holder nodes ends rows sound l (sound.known k l is) (ends_at ends l) refl j (beside l is) in
            (held ∙ sym (holder-owner sound k ∙ is), holder_within j held)
      ] refl

  -- the next node is in the list of k
  pub next_neighbour : (k : ℕ) {j : ℕ} → next_at nodes k ≡ Some j → (holder j rows ≡ holder k rows) × (j < rows.nodes)
  next_neighbour k {j} at =
      neighbour k j (λ none. none-some j (sym (sound.free_next k none) ∙ at))
      (λ l is.
      let xs = list_at l rows in
      let there = has_owned sound k is in
      let behind = first_has (beyond k xs) j (is_some_of-same j (first (beyond k xs)) (sym (next-first sound l (sound.known k l is) k there) ∙ at)) in
      ap (has j) (split_at k xs there) ∙ has_right j (upto k xs) (k ∷ beyond k xs) (has_tail k j (beyond k xs) behind))

  -- the previous node is in the list of k
  pub previous_neighbour : (k : ℕ) {j : ℕ} → previous_at nodes k ≡ Some j → (holder j rows ≡ holder k rows) × (j < rows.nodes)
  previous_neighbour k {j} at =
      neighbour k j (λ none. none-some j (sym (sound.free_previous k none) ∙ at))
      (λ l is.
      let xs = list_at l rows in
      let there = has_owned sound k is in
      let ahead = last_has (upto k xs) j (is_some_of-same j (last (upto k xs)) (sym (previous-last sound l (sound.known k l is) k there) ∙ at)) in
      ap (has j) (split_at k xs there) ∙ has_left j (upto k xs) (k ∷ beyond k xs) ahead)

-- ---- a node that some list holds

module _ {nodes : List Place} {ends : List Ends} {rows : Rows} (sound : IsSound nodes ends rows) (n : ℕ) (some : IsSome (holder n rows)) where
  -- it is a node of the arena
  pub held_within : n < rows.nodes
  held_within =
      let list = number_of (holder n rows) some in
      omega (arith, node_within nodes n (sym (holder-owner sound n) ∙ list.1), sound.node_count)

module _ {L T : Type 0} (t : Table L T) (sound : IsSoundTable t) (n : ℕ) (some : IsSome (holder n (rows_in t))) where
  pub held_low : n < length t.nodes.items
  held_low = omega (arith, held_within sound n some, sound.node_count, length-map t.nodes.items (λ x. x.place))

  module _ {x : Node L T} (read : x ≡ get_or t.nodes.items n x) where
    -- what the code reads is its place
    pub held_place : x.place ≡ place_at (places_of t.nodes.items) n
    held_place = place_read t.nodes.items n x held_low read

    -- the stored list holds it
    pub held_list : holder n (rows_in t) ≡ x.place.list
    held_list = holder-owner sound n ∙ sym (ap (λ (p : Place). p.list) held_place)

-- ---- a node leaves

module _ {nodes : List Place} {ends : List Ends} {rows : Rows} (sound : IsSound nodes ends rows) {l : ℕ} (n : ℕ) (is : holder n rows ≡ Some l) where
  -- its stored owner is that list
  owner_is : owner_at nodes n ≡ Some l
  owner_is = sym (holder-owner sound n) ∙ is

  pub left_list : l < length rows.lists
  left_list = sound.known n l owner_is

  pub left_node : n < length nodes
  left_node = node_within nodes n owner_is

  -- the list has it
  left_has : has n (list_at l rows) ≡ true
  left_has = has_owned sound n owner_is

  -- the list is the part before it, the node and the part after it
  left_split : list_at l rows ≡ upto n (list_at l rows) ++ n ∷ beyond n (list_at l rows)
  left_split = split_at n (list_at l rows) left_has

  pub left_previous : {k : ℕ} → previous_at nodes n ≡ Some k → k < length nodes
  left_previous at = last_within sound l left_list (upto n (list_at l rows)) (n ∷ beyond n (list_at l rows)) left_split (sym (previous-last sound l left_list n left_has) ∙ at)

  pub left_next : {k : ℕ} → next_at nodes n ≡ Some k → k < length nodes
  left_next at = first_within sound l left_list (upto n (list_at l rows) ++ n ∷ []) (beyond n (list_at l rows))
      (left_split ∙ sym (append_assoc (upto n (list_at l rows)) (n ∷ []) (beyond n (list_at l rows)))) (sym (next-first sound l left_list n left_has) ∙ at)

  pub left_len : 0 < (ends_at ends l).len
  left_len = omega (arith, (sound.linked l left_list).len, ap length left_split, length-append (upto n (list_at l rows)) (n ∷ beyond n (list_at l rows)))

  -- the nodes and the ends are sound after the writes
  pub IsSound-left : {x free : Place} {e e1 e2 : Ends} → x ≡ place_at nodes n → free ≡ no_place → e ≡ ends_at ends l
      → e1 ≡ record e { front = (if is_none x.previous then x.next else e.front) } → e2 ≡ record e1 { back = (if is_none x.next then x.previous else e1.back) }
      → IsSound (with_previous x.next x.previous (with_next x.previous x.next (set nodes n free))) (set ends l (record e2 { len = e2.len - 1 })) (record rows { lists = map (without n) rows.lists })
  IsSound-left {x} {free} {e} {e1} {e2} x_is free_is e_is front back =
      let list = list_at l rows in
      let pre = upto n list in
      let post = beyond n list in
      let mid = set nodes n free in
      let off = absent_around pre post n (subst IsApart left_split (sound.linked l left_list).apart) in
      let behind : x.next ≡ first post = ap (λ (y : Place). y.next) x_is ∙ next-first sound l left_list n left_has in
      let ahead : x.previous ≡ last pre = ap (λ (y : Place). y.previous) x_is ∙ previous-last sound l left_list n left_has in
      let puts : Puts nodes mid n no_place = subst (Puts nodes mid n) free_is (Puts-set nodes n free left_node) in
      let written = Rewires-same
      (Rewires-both mid e e1 e2 x.previous x.next x.next x.previous (λ k is. omega (arith, length-set nodes n free, left_previous (sym (ap (λ (y : Place). y.previous) x_is) ∙ is)))
      (λ k is. omega (arith, length-set nodes n free, left_next (sym (ap (λ (y : Place). y.next) x_is) ∙ is))) front back)
      e_is ahead behind behind ahead in
      let lists : map (without n) rows.lists ≡ set rows.lists l (pre ++ post) =
      map-without rows (apart_all sound) n l is
      ∙ ap (set rows.lists l) (ap (without n) left_split ∙ without-at pre post n off.0 off.1) in
      rw lists (IsSound-remove l pre post sound left_list (length-written mid x.previous x.next x.next x.previous ∙ length-set nodes n free) left_split puts written)

-- ---- a list joins another

module _ {nodes : List Place} {ends : List Ends} {rows : Rows} (sound : IsSound nodes ends rows) (l : ℕ) (within : l < length rows.lists) {e : Ends} (e_is : e ≡ ends_at ends l) where
  -- the walk between the ends of a list finds it
  pub walk_list : walk (next_at nodes) e.len e.front ≡ list_at l rows
  walk_list =
      let list = sound.linked l within in
      rw (e_is, list.len, list.front) (walk_is (next_at nodes) (list_at l rows) None list.leads_on)

  -- each number that the walk finds is a node of the arena
  pub walk_within : (k : ℕ) → has k (walk (next_at nodes) e.len e.front) ≡ true → k < length nodes
  walk_within k found = listed_within sound l k within (ap (has k) (sym walk_list) ∙ found)

  pub front_within : {k : ℕ} → e.front ≡ Some k → k < length nodes
  front_within is = first_within sound l within [] (list_at l rows) refl (sym (ap (λ (f : Ends). f.front) e_is ∙ (sound.linked l within).front) ∙ is)

  pub back_within : {k : ℕ} → e.back ≡ Some k → k < length nodes
  back_within is = last_within sound l within (list_at l rows) [] (sym (append-nil (list_at l rows))) (sym (ap (λ (f : Ends). f.back) e_is ∙ (sound.linked l within).back) ∙ is)

module _ {nodes : List Place} {ends : List Ends} {rows : Rows} (sound : IsSound nodes ends rows) (to from : ℕ) (to_within : to < length rows.lists) (from_within : from < length rows.lists) (other : to ≢ from) where
  -- two lists together are no longer than the number of nodes
  pub both_len : (ends_at ends to).len + (ends_at ends from).len ≤ rows.nodes
  both_len =
      let head = sound.linked to to_within in
      let tail = sound.linked from from_within in
      let xs = list_at to rows in
      let ys = list_at from rows in
      let apart = IsApart-append xs ys
      (record {
        left = head.apart;
        right = tail.apart;
        cross = λ k there. tail.owned k ∙ ap (is_some_of from) (owner_from sound to k to_within there) ∙ ne_eqb to from other;
      }) in
      let most = length_below (length nodes) (xs ++ ys) apart
      (λ k found. elim (or_cases _ _ (sym (has-append k xs ys) ∙ found)) [
        | inl here ↦ listed_within sound to k to_within here
        | inr there ↦ listed_within sound from k from_within there
      ]) in
      omega (arith, most, head.len, tail.len, sound.node_count, length-append xs ys)

  -- the nodes and the ends are sound after the writes
  pub IsSound-appended : (mid : List Place) {list : Option ℕ} {e f e1 e2 empty : Ends} {back : Option ℕ} → list ≡ Some to → e ≡ ends_at ends to → f ≡ ends_at ends from → empty ≡ no_ends
      → length mid ≡ length nodes
      → ((k : ℕ) → owner_at mid k ≡ (if has k (walk (next_at nodes) f.len f.front) then list else owner_at nodes k))
      → ((k : ℕ) → next_at mid k ≡ next_at nodes k)
      → ((k : ℕ) → previous_at mid k ≡ previous_at nodes k)
      → e1 ≡ record e { front = (if is_none e.back then f.front else e.front) } → e2 ≡ record e1 { back = (if is_none f.front then e.back else e1.back) }
      → back ≡ (if is_none f.back then e.back else f.back)
      → IsSound (with_previous f.front e.back (with_next e.back f.front mid)) (set (set ends to (record { len = e2.len + f.len; front = e2.front; back = back })) from empty)
      (record rows { lists = set (set rows.lists to (list_at to rows ++ list_at from rows)) from [] })
  IsSound-appended mid {list} {e} {f} {e1} {e2} {back} list_is e_is f_is empty_is mid_long owners nexts previous front_end back_end back_is =
      let head = sound.linked to to_within in
      let tail = sound.linked from from_within in
      let gives : Gives nodes mid (Some to) (list_at from rows) [] = record {
        owners = λ k. owners k ∙ ap (λ ys. if has k ys then list else owner_at nodes k) (walk_list sound from from_within f_is) ∙ ap (λ o. if has k (list_at from rows) then o else owner_at nodes k) list_is;
        nexts = nexts;
        previous = previous;
        within = λ k nowhere. absurd (false≢true nowhere);
        len = mid_long;
      } in
      let end_is : e.back ≡ last (list_at to rows) = ap (λ (g : Ends). g.back) e_is ∙ head.back in
      let front_is : f.front ≡ first (list_at from rows) = ap (λ (g : Ends). g.front) f_is ∙ tail.front in
      let written = Rewires-same
      (Rewires-both mid e e1 e2 e.back f.front f.front e.back (λ k is. omega (arith, mid_long, back_within sound to to_within e_is is)) (λ k is. omega (arith, mid_long, front_within sound from from_within f_is is))
      front_end back_end)
      e_is end_is front_is front_is end_is in
      rw (empty_is, ap (λ (g : Ends). g.len) f_is)
      (IsSound-append nodes mid _ ends from back sound to_within from_within other gives written (length-written mid e.back f.front f.front e.back ∙ mid_long)
      (back_is ∙ ap (λ o. if is_none o then e.back else o) (ap (λ (g : Ends). g.back) f_is ∙ tail.back) ∙ ap (λ o. if is_none (last (list_at from rows)) then o else last (list_at from rows)) end_is))
