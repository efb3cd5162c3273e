-- A table of chains and shelves as a contract sees it, and how it stays whole.
use Rattle.std.proofs.Common.{◌≡◌, ◌≢◌, ℕ, suc, ◌<◌, ◌≤◌, true, ◌&&◌, ◌==◌, List, [], ◌∷◌, ◌++◌, map, length, get_or, set, take, drop, Option, Some, None, IsSome, IfSome, is_some, refl, sym, ap, ◌∙◌, subst, inl, inr, arith, get_or-set_same, get_or-set_other, length-set, zero, Vec, Global, if◌then◌else◌, Bool, false}
use Rattle.std.specs.Prelude.{nat_lt, not, slice_get, unwrap_or}
use Rattle.std.specs.List.{All, flat_map}
use Rattle.std.specs.Option.{option_map_or}
use Rattle.std.proofs.lemmas.Bool.{cases_eq, false≢true, lt-ltb}
use Rattle.std.proofs.Math.Bool.{and-false, and-true}
use Rattle.std.proofs.lemmas.List.{get_or-map, length-map, map-set, set-get_or, set-set, take-append-drop}
use Rattle.std.proofs.lemmas.Option.{none-some, same_Some, slice_get-get_or}
use Rattle.std.proofs.lemmas.Simd.{map-map}
use Rattle.std.proofs.Math.Seq.{map-set_same}
use Rattle.strm_links.specs.Rows.{Rows, has, IsParting, first, after, before, list_at, holder, linked_nodes, next_in, previous_in}
use Rattle.strm_links.specs.Layout.{IsSoundTable, IsSound, carried_by, places_of, rows_in, rows_of}
use Rattle.strm_links.specs.Counting.{times}
use Rattle.strm_links.specs.Chains.{chain_in, items_of, items_in, items_on, shelf_in, with_head}
use Rattle.strm_links.specs.ChainLists.{ChainLists, IsLawful, LoadedChains, chain_of, head_node, heads_on, nodes_at, shelf_with, shelved_nodes, with_behind_freed}
use Rattle.strm_links.specs.ChainLayout.{ByHead, IsChained, IsHeadOf, IsWhole, after_at, by_head, chain_at, chains_in, linked_at, links_of, lists_in, lists_of, loads_of, span_at, unlinked, view_of}
use Rattle.strm_links.specs.declared.table.Node.{Node}
use Rattle.strm_links.specs.declared.table.Place.{Place}
use Rattle.strm_links.specs.declared.table.Table.{Table}
use Rattle.strm_links.specs.declared.chained.Link.{Link}
use Rattle.strm_links.proofs.linking.StoredRows.{parts}
use Rattle.strm_links.proofs.lists.AllLists.{has-holder}
use Rattle.strm_links.proofs.lists.Counting.{times-append}
use Rattle.strm_links.proofs.lists.Positions.{position_same}
use Rattle.strm_links.proofs.lists.OneList.{All-has, has_head, has_tail, some_of}
use Rattle.strm_links.proofs.chains.Freed.{front_some}
use Rattle.strm_links.proofs.chains.StoredChains.{IsChained-stored, by_head_is, chain_laid, head_low, some_items}
use Rattle.strm_links.proofs.chains.Written.{length-links, link_read}
use Rattle.strm_links.proofs.chains.Shelves.{held, held_as, held_off, held_on, held-set, heads_of, length-held, listed, off_shelf, on_some, parts_sum, shelf-get, shelves-set, shelves_concat, shelves_flat, unlisted, with-map, with-none}

-- ---- all but the links

module _ {T : Type 0} (old new : List (Node Link T)) (rest : unlinked new ≡ unlinked old) where
  -- the places and the loads stay
  pub places_rest : places_of new ≡ places_of old
  places_rest = sym (map-map (λ (p : Place × T). p.0) (λ (n : Node Link T). (n.place, n.load)) new) ∙ ap (map (λ (p : Place × T). p.0)) rest ∙ map-map (λ (p : Place × T). p.0) (λ (n : Node Link T). (n.place, n.load)) old

  pub loads_rest : loads_of new ≡ loads_of old
  loads_rest = sym (map-map (λ (p : Place × T). p.1) (λ (n : Node Link T). (n.place, n.load)) new) ∙ ap (map (λ (p : Place × T). p.1)) rest ∙ map-map (λ (p : Place × T). p.1) (λ (n : Node Link T). (n.place, n.load)) old

-- a table is whole, and a contract sees these lists
pub record Shows {T : Type 0} (t : Table Link T) (front : Option ℕ) (free least : ℕ) (seen : ChainLists) : Type 0 where
  pub whole : IsWhole t front free least
  pub lists : lists_in t front free least ≡ seen

-- the first node of a chain
first_node : (xs : List ℕ) {x : ℕ} → first xs ≡ Some x → head_node xs ≡ x
first_node [] {x} is = absurd (none-some x is)
first_node (y ∷ ys) {x} is = same_Some y x is

first_get : (xs : List ℕ) {h : ℕ} → slice_get xs 0 ≡ Some h → head_node xs ≡ h
first_get [] {h} is = absurd (none-some h is)
first_get (y ∷ ys) {h} is = same_Some y h is

some_first : (xs : List ℕ) {x : ℕ} → first xs ≡ Some x → 0 < length xs
some_first [] {x} is = absurd (none-some x is)
some_first (y ∷ ys) is = omega arith

module _ {T : Type 0} {t : Table Link T} {front : Option ℕ} {free least : ℕ} (whole : IsWhole t front free least) where
  abbrev chains : ByHead
  chains = chains_in t front free

  abbrev rows : Rows
  rows = rows_in t

  parting : IsParting rows
  parting = parts _ _ _ whole.sound

  -- a chain that is there begins with its number
  pub begins : (h : ℕ) → IsSome (chain_in chains.chains h) → first (chain_at chains h) ≡ Some h
  begins h some = (chain_laid whole.chained h some).head

  -- a head on a shelf is on that list, and begins a chain
  on_list : (x s : ℕ) → has x (list_at s rows) ≡ true → holder x rows ≡ Some s
  on_list x s there = some_of s (holder x rows) (sym (has-holder x s rows parting.apart) ∙ there)

  pub head_listed : (x s : ℕ) → has x (list_at s rows) ≡ true → head_node (chain_at chains x) ≡ x
  head_listed x s there = first_node (chain_at chains x) (begins x (whole.begun x (ap is_some (on_list x s there))))

  -- as many places as links
  node_room : rows.nodes ≡ length chains.chains
  node_room = length-map t.nodes.items (λ (n : Node Link T). n.place) ∙ sym (length-links t.nodes.items) ∙ whole.chained.node_count

  -- each node is in one place
  pub IsLawful-whole : IsLawful (lists_in t front free least)
  IsLawful-whole =
      record {
        parts = record {
          once = λ n.
              omega (
                arith,
                times-append n chains.free (items_on (map (map (chain_at chains)) rows.lists) ++ items_in (lists_in t front free least).held),
                times-append n (items_on (map (map (chain_at chains)) rows.lists)) (items_in (lists_in t front free least).held),
                ap (times n) (shelves_flat (chain_at chains) rows.lists),
                parts_sum n (linked_nodes rows) chains.chains parting.apart (λ h there. omega (arith, node_room, All-has (λ k. k < rows.nodes) (linked_nodes rows) h parting.within there)),
                times-append n chains.free (items_in chains.chains),
                whole.chained.once n,
                ap {B = ℕ} (λ l. if nat_lt n l then 1 else 0) (length-held chains rows),
              );
          heads = λ h.
              elim (holder h rows) as (λ o. holder h rows ≡ o → IfSome (chain_in (lists_in t front free least).held h) (λ m. (0 < length m) × (head_node m ≡ h))) [
                | None ↦ λ none. subst (λ o. IfSome o (λ m. (0 < length m) × (head_node m ≡ h))) (sym (held_off chains rows h none)) (heads h (chain_in chains.chains h) (whole.chained.heads h))
                | Some k ↦ λ some. subst (λ o. IfSome o (λ m. (0 < length m) × (head_node m ≡ h))) (sym (held_on chains rows h (ap is_some some))) tt
              ] refl;
          shelved = λ s.
              subst (All (λ m. 0 < length m)) (sym (shelf-get chains rows s))
              (long (list_at s rows) (λ h there. some_first (chain_at chains h) (begins h (whole.begun h (ap is_some (on_list h s there))))));
        };
        least = omega (arith, whole.fewest, whole.chained.free_count);
      }
    where
      heads : (h : ℕ) (m : Option (List ℕ)) → IsHeadOf (after_at (links_of t.nodes.items)) (span_at (links_of t.nodes.items) h) h m → IfSome m (λ xs. (0 < length xs) × (head_node xs ≡ h))
      heads h None is = tt
      heads h (Some xs) is = (some_first xs is.head, first_node xs is.head)

      long : (hs : List ℕ) → ((h : ℕ) → has h hs ≡ true → 0 < length (chain_at chains h)) → All (λ m. 0 < length m) (map (chain_at chains) hs)
      long [] each i d within = absurd (omega arith)
      long (h ∷ hs) each zero d within = each h (has_head h h hs refl)
      long (h ∷ hs) each (suc i) d within = long hs (λ k there. each k (has_tail h k hs there)) i d (omega arith)

  -- ---- what a caller reads off the value that it sees

  module _ {v : LoadedChains T} (view : view_of t front free least ≡ v) where
    pub lists_are : lists_in t front free least ≡ v.lists
    lists_are = ap (λ (u : LoadedChains T). u.lists) view

    pub least_is : least ≡ v.lists.least
    least_is = ap (λ (u : ChainLists). u.least) lists_are

    -- the numbers of nodes and shelves
    pub count_is : length v.lists.held ≡ length chains.chains
    count_is = ap (λ (u : ChainLists). length u.held) (sym lists_are) ∙ length-held chains rows

    pub room : length t.nodes.items ≡ length v.lists.held
    room = sym (length-links t.nodes.items) ∙ whole.chained.node_count ∙ sym count_is

    pub load_room : length t.nodes.items ≡ length v.loads
    load_room = sym (length-map t.nodes.items (λ (n : Node Link T). n.load)) ∙ ap (λ (u : LoadedChains T). length u.loads) view

    pub place_room : rows.nodes ≡ length v.lists.held
    place_room = node_room ∙ sym count_is

    pub shelf_room : length v.lists.shelves ≡ length rows.lists
    shelf_room = ap (λ (u : ChainLists). length u.shelves) (sym lists_are) ∙ length-map rows.lists (map (chain_at chains))

    pub free_is : chains.free ≡ v.lists.free
    free_is = ap (λ (u : ChainLists). u.free) lists_are

    -- a held chain is on no shelf, and is there
    pub off : (h : ℕ) → IsSome (chain_in v.lists.held h) → holder h rows ≡ None
    off h some = off_shelf chains rows h (subst (λ (u : ChainLists). IsSome (chain_in u.held h)) (sym lists_are) some)

    pub held_is : (h : ℕ) → holder h rows ≡ None → chain_in v.lists.held h ≡ chain_in chains.chains h
    held_is h none = ap (λ (u : ChainLists). chain_in u.held h) (sym lists_are) ∙ held_off chains rows h none

    pub there : (h : ℕ) → IsSome (chain_in v.lists.held h) → IsSome (chain_in chains.chains h)
    there h some = subst IsSome (held_is h (off h some)) some

    pub nodes_are : (h : ℕ) → IsSome (chain_in v.lists.held h) → nodes_at v.lists h ≡ chain_at chains h
    nodes_are h some = ap items_of (held_is h (off h some))

    -- a node is in the table, and what the code reads there is its link
    pub low_room : (k : ℕ) → k < length chains.chains → k < length t.nodes.items
    low_room k low = omega (arith, low, room, count_is)

    pub held_low : (h : ℕ) → IsSome (chain_in v.lists.held h) → h < length t.nodes.items
    held_low h some = low_room h (head_low whole.chained h (there h some))

    pub held_read : (h : ℕ) → IsSome (chain_in v.lists.held h) → {x : Node Link T} → x ≡ get_or t.nodes.items h x → x.link ≡ linked_at (links_of t.nodes.items) h
    held_read h some read = link_read t.nodes.items h (held_low h some) read

    -- a node that begins no chain is on no shelf
    pub none_off : (h : ℕ) → chain_in chains.chains h ≡ None → holder h rows ≡ None
    none_off h none =
        elim (holder h rows) as (λ o. holder h rows ≡ o → o ≡ None) [
          | None ↦ λ _. refl
          | Some s ↦ λ is. absurd (false≢true (sym (ap is_some none) ∙ whole.begun h (ap is_some is)))
        ] refl

    -- the chain of a head, held or on a shelf
    pub chain_of_is : (h : ℕ) → chain_of v.lists h ≡ chain_at chains h
    chain_of_is h =
        ap (λ u. chain_of u h) (sym lists_are)
        ∙ elim (holder h rows) as (λ o. holder h rows ≡ o → chain_of (lists_in t front free least) h ≡ chain_at chains h) [
          | None ↦ λ none.
              (λ i. unwrap_or (held_off chains rows h none i) (items_of (with_head head_node h (flat i)))) ∙ held_or (chain_in chains.chains h) (with-none chains h (linked_nodes rows) listing (unlisted h rows none))
          | Some s ↦ λ some.
              (λ i. unwrap_or (held_on chains rows h (ap is_some some) i) (items_of (with_head head_node h (flat i))))
              ∙ ap items_of (sym (with-map chains h (linked_nodes rows) listing (on_some h rows (ap is_some some))))
        ] refl
      where
        flat : flat_map (λ (ns : List (List ℕ)). ns) (map (map (chain_at chains)) rows.lists) ≡ map (chain_at chains) (linked_nodes rows)
        flat = shelves_concat (chain_at chains) rows.lists

        listing : (g : ℕ) → has g (linked_nodes rows) ≡ true → head_node (chain_at chains g) ≡ g
        listing g found = let at = listed g rows.lists found in head_listed g at.0 at.1

        held_or : (o : Option (List ℕ)) {m : Option (List ℕ)} → m ≡ None → unwrap_or o (items_of m) ≡ items_of o
        held_or None none = ap items_of none
        held_or (Some xs) none = refl

    -- the chains on a shelf
    pub shelf_is : (s : ℕ) → shelf_in v.lists.shelves s ≡ map (chain_at chains) (list_at s rows)
    shelf_is s = ap (λ (u : ChainLists). shelf_in u.shelves s) (sym lists_are) ∙ shelf-get chains rows s

    -- the chain of a head that is held, and of one on a shelf
    pub held_chain : (h : ℕ) → IsSome (chain_in v.lists.held h) → chain_of v.lists h ≡ nodes_at v.lists h
    held_chain h some = chain_of_is h ∙ sym (nodes_are h some)

    pub shelved_chain : (s k h : ℕ) → slice_get (shelved_nodes v.lists s k) 0 ≡ Some h → chain_of v.lists h ≡ shelved_nodes v.lists s k
    shelved_chain s k h begins = chain_of_is h ∙ at (list_at s rows) (λ x found. found) k (ap (λ ms. slice_get (get_or ms k []) 0) (sym (shelf_is s)) ∙ begins) ∙ ap (λ ms. get_or ms k []) (sym (shelf_is s))
      where
        at : (xs : List ℕ) → ((x : ℕ) → has x xs ≡ true → has x (list_at s rows) ≡ true) → (j : ℕ) → slice_get (get_or (map (chain_at chains) xs) j []) 0 ≡ Some h → chain_at chains h ≡ get_or (map (chain_at chains) xs) j []
        at [] there j begins = absurd (none-some h begins)
        at (x ∷ xs) there zero begins = ap (chain_at chains) (sym (first_get (chain_at chains x) begins) ∙ head_listed x s (there x (has_head x x xs refl)))
        at (x ∷ xs) there (suc j) begins = at xs (λ y found. there y (has_tail x y xs found)) j begins

    -- whether a chain is held at h, and its number of nodes passes a test that 0 does not
    pub held_with : (h : ℕ) (test : ℕ → Bool) → test 0 ≡ false → (is_some (chain_in v.lists.held h) && test (length (nodes_at v.lists h))) ≡ (test (span_at (links_of t.nodes.items) h).len && not (is_some (holder h rows)))
    held_with h test none_at_0 =
        elim (holder h rows) as (λ o. holder h rows ≡ o → (is_some (chain_in v.lists.held h) && test (length (nodes_at v.lists h))) ≡ (test (span_at (links_of t.nodes.items) h).len && not (is_some o))) [
          | None ↦ λ none.
              (λ i. is_some (held_is h none i) && test (length (items_of (held_is h none i)))) ∙ alone (chain_in chains.chains h) (whole.chained.heads h)
              ∙ sym (and-true (test (span_at (links_of t.nodes.items) h).len))
          | Some s ↦ λ is.
              let gone : chain_in v.lists.held h ≡ None = ap (λ (u : ChainLists). chain_in u.held h) (sym lists_are) ∙ held_on chains rows h (ap is_some is) in
              (λ i. is_some (gone i) && test (length (items_of (gone i)))) ∙ sym (and-false (test (span_at (links_of t.nodes.items) h).len))
        ] refl
      where
        alone : (m : Option (List ℕ)) → IsHeadOf (after_at (links_of t.nodes.items)) (span_at (links_of t.nodes.items) h) h m → (is_some m && test (length (items_of m))) ≡ test (span_at (links_of t.nodes.items) h).len
        alone None is = sym (ap test is ∙ none_at_0)
        alone (Some xs) is = ap test (sym is.len)

    -- a held chain has a node
    pub held_here : (h : ℕ) → is_some (chain_in v.lists.held h) ≡ (nat_lt 0 (span_at (links_of t.nodes.items) h).len && not (is_some (holder h rows)))
    held_here h = sym (some_long (chain_in v.lists.held h) ((subst IsLawful lists_are IsLawful-whole).parts.heads h)) ∙ held_with h (nat_lt 0) refl
      where
        some_long : (m : Option (List ℕ)) → IfSome m (λ xs. (0 < length xs) × (head_node xs ≡ h)) → (is_some m && nat_lt 0 (length (items_of m))) ≡ is_some m
        some_long None is = refl
        some_long (Some xs) is = lt-ltb 0 (length xs) is.0

    -- the load of a node
    pub load_at : (k : ℕ) {x : Node Link T} → k < length t.nodes.items → x ≡ get_or t.nodes.items k x → slice_get v.loads k ≡ Some x.load
    load_at k {x} within read =
        ap (λ (u : LoadedChains T). slice_get u.loads k) (sym view)
        ∙ slice_get-get_or (loads_of t.nodes.items) k x.load (omega (arith, within, length-map t.nodes.items (λ (n : Node Link T). n.load)))
        ∙ ap Some (get_or-map (λ (n : Node Link T). n.load) t.nodes.items k x x.load within ∙ sym (ap (λ (n : Node Link T). n.load) read))

    -- the first free node is there if some are
    pub front_there : 0 < length v.lists.free → IsSome front
    front_there some = subst IsSome (sym whole.chained.free_front) (front_some chains.free (omega (arith, some, ap length free_is)))

    pub heads_at : (s : ℕ) → heads_on v.lists s ≡ list_at s rows
    heads_at s = ap (map head_node) (shelf_is s) ∙ heads_of chains (list_at s rows) (λ x found. head_listed x s found)

    pub shelf_with_is : (h : ℕ) → shelf_with v.lists h ≡ holder h rows
    shelf_with_is h =
        ap (λ u. shelf_with u h) (sym lists_are)
        ∙ position_same (λ ns. has h (map head_node ns)) (has h) (map (chain_at chains)) [] rows.lists (λ s within. ap (has h) (ap (map head_node) (sym (shelf_is s)) ∙ heads_at s))

    pub shelved_at : (x s : ℕ) → has x (heads_on v.lists s) ≡ true → holder x rows ≡ Some s
    shelved_at x s found = on_list x s (ap (has x) (sym (heads_at s)) ∙ found)

    pub after_is : (x s : ℕ) → has x (heads_on v.lists s) ≡ true → next_in rows x ≡ after x (heads_on v.lists s)
    after_is x s found = ap (λ o. after x (option_map_or (λ l. list_at l rows) o [])) (shelved_at x s found) ∙ ap (after x) (sym (heads_at s))

    pub before_is : (x s : ℕ) → has x (heads_on v.lists s) ≡ true → previous_in rows x ≡ before x (heads_on v.lists s)
    before_is x s found = ap (λ o. before x (option_map_or (λ l. list_at l rows) o [])) (shelved_at x s found) ∙ ap (before x) (sym (heads_at s))

    -- freeing 0 nodes changes nothing
    pub none_freed : (h : ℕ) → IsSome (chain_in v.lists.held h) → with_behind_freed h 0 (nodes_at v.lists h) v.lists ≡ v.lists
    none_freed h some =
        let same : take 1 (nodes_at v.lists h) ++ drop 1 (nodes_at v.lists h) ≡ nodes_at v.lists h = take-append-drop 1 (nodes_at v.lists h) in
        λ i. record v.lists { held = (ap (λ xs. set v.lists.held h (Some xs)) same ∙ ap (set v.lists.held h) (sym (some_items (chain_in v.lists.held h) some)) ∙ set-get_or v.lists.held h None) i }

    -- ---- the links change, at heads that are on no shelf

    module _ (nodes : Vec (Node Link T) Global) (rest : unlinked nodes.items ≡ unlinked t.nodes.items) where
      abbrev new : Table Link T
      new = record { nodes = nodes; ends = t.ends }

      rows_same : rows_in new ≡ rows
      rows_same = ap (λ ps. rows_of ps t.ends.items) (places_rest t.nodes.items nodes.items rest)

      pub loads_kept : loads_of nodes.items ≡ v.loads
      loads_kept = loads_rest t.nodes.items nodes.items rest ∙ ap (λ (u : LoadedChains T). u.loads) view

      -- at two of them
      pub IsWhole-two : (a b : ℕ) (m o : Option (List ℕ)) {fs : List ℕ} {front' : Option ℕ} {free' least' : ℕ} → holder a rows ≡ None → holder b rows ≡ None
          → IsChained (links_of nodes.items) front' free' (record { free = fs; chains = set (set chains.chains a m) b o }) → least' ≤ free'
          → Shows new front' free' least' (record v.lists { free = fs; held = set (set v.lists.held a m) b o; least = least' })
      IsWhole-two a b m o {fs} {least'} off_a off_b laid few =
          let now = by_head_is laid in
          let one : ByHead = record { free = fs; chains = set chains.chains a m } in
          record {
            whole = record {
              sound = subst (λ ps. IsSound ps t.ends.items (rows_of ps t.ends.items)) (sym (places_rest t.nodes.items nodes.items rest)) whole.sound;
              chained = IsChained-stored laid;
              begun = λ g on.
                  let was : IsSome (holder g rows) = subst (λ r. IsSome (holder g r)) rows_same on in
                  subst (λ (u : ByHead). IsSome (chain_in u.chains g)) (sym now)
                  (subst IsSome (sym (get_or-set_other (set chains.chains a m) b g o None (differs g b was off_b) ∙ get_or-set_other chains.chains a g m None (differs g a was off_a))) (whole.begun g was));
              fewest = few;
            };
            lists = (λ i. lists_of (now i) (rows_same i) least')
                ∙ (λ i. record {
                  free = fs;
                  held = (held-set one rows b o off_b ∙ ap (λ xs. set xs b o) (held-set chains rows a m off_a)) i;
                  shelves = (shelves-set one rows b o off_b fs ∙ shelves-set chains rows a m off_a fs) i;
                  least = least';
                })
                ∙ ap (λ (u : ChainLists). record u { free = fs; held = set (set u.held a m) b o; least = least' }) lists_are;
          }
        where
          differs : (g h : ℕ) → IsSome (holder g rows) → holder h rows ≡ None → g ≢ h
          differs g h on none same = false≢true (sym (ap (λ k. is_some (holder k rows)) same ∙ ap is_some none) ∙ on)

      -- at one
      pub IsWhole-one : (h : ℕ) (o : Option (List ℕ)) {fs : List ℕ} {front' : Option ℕ} {free' least' : ℕ} → holder h rows ≡ None → IsChained (links_of nodes.items) front' free' (record { free = fs; chains = set chains.chains h o }) → least' ≤ free'
          → Shows new front' free' least' (record v.lists { free = fs; held = set v.lists.held h o; least = least' })
      IsWhole-one h o {fs} {front'} {free'} {least'} off_h laid few =
          let both = IsWhole-two h h o o off_h off_h (subst (λ xs. IsChained (links_of nodes.items) front' free' (record { free = fs; chains = xs })) (sym (set-set chains.chains h o o)) laid) few in
          record { whole = both.whole; lists = both.lists ∙ (λ i. record v.lists { free = fs; held = set-set v.lists.held h o o i; least = least' }) }

    -- ---- a chain comes on a shelf, or leaves it

    pub loads_carried : (nodes : List (Node Link T)) → carried_by nodes ≡ carried_by t.nodes.items → loads_of nodes ≡ v.loads
    loads_carried nodes carried =
        sym (map-map (λ (p : Link × T). p.1) (λ (n : Node Link T). (n.link, n.load)) nodes) ∙ ap (map (λ (p : Link × T). p.1)) carried ∙ map-map (λ (p : Link × T). p.1) (λ (n : Node Link T). (n.link, n.load)) t.nodes.items
        ∙ ap (λ (u : LoadedChains T). u.loads) view

    module _ (new : Table Link T) (carried : carried_by new.nodes.items ≡ carried_by t.nodes.items) (laid : IsSoundTable new) (h s : ℕ) (ys : List ℕ) (lists : rows_in new ≡ record rows { lists = set rows.lists s ys })
        (others : (k : ℕ) → k ≢ h → holder k (rows_in new) ≡ holder k rows) (begun : IsSome (chain_in chains.chains h)) where
      links_same : links_of new.nodes.items ≡ links_of t.nodes.items
      links_same =
          sym (map-map (λ (p : Link × T). p.0) (λ (n : Node Link T). (n.link, n.load)) new.nodes.items) ∙ ap (map (λ (p : Link × T). p.0)) carried ∙ map-map (λ (p : Link × T). p.0) (λ (n : Node Link T). (n.link, n.load)) t.nodes.items

      pub IsWhole-reheaded : IsWhole new front free least
      IsWhole-reheaded = record {
        sound = laid;
        chained = subst (λ ls. IsChained ls front free (by_head ls front free)) (sym links_same) whole.chained;
        begun = λ k on.
            subst (λ ls. IsSome (chain_in (by_head ls front free).chains k)) (sym links_same)
            (elim (cases_eq k h) [
              | inl same ↦ subst (λ j. IsSome (chain_in chains.chains j)) (sym same) begun
              | inr differs ↦ whole.begun k (subst IsSome (others k differs) on)
            ]);
        fewest = whole.fewest;
      }

      -- what is seen, if the chain at the head is held or not, and the shelf has these chains
      pub reheaded_is : (o : Option (List ℕ)) → (holder h (rows_in new) ≡ None → o ≡ chain_in chains.chains h) → (IsSome (holder h (rows_in new)) → o ≡ None) → {ms : List (List ℕ)} → map (chain_at chains) ys ≡ ms
          → lists_in new front free least ≡ record v.lists { held = set v.lists.held h o; shelves = set v.lists.shelves s ms }
      reheaded_is o off_h on {ms} row =
          let u = lists_in t front free least in
          let inside : h < length u.held = omega (arith, head_low whole.chained h begun, length-held chains rows) in
          let here : chain_in (set u.held h o) h ≡ o = get_or-set_same u.held h o None inside in
          let is_held : held chains (rows_in new) ≡ set u.held h o =
          held_as chains (rows_in new) (set u.held h o) (length-set u.held h o ∙ length-held chains rows)
          (λ k none. elim (cases_eq k h) [
            | inl same ↦ ap (chain_in (set u.held h o)) same ∙ here ∙ off_h (ap (λ j. holder j (rows_in new)) (sym same) ∙ none) ∙ ap (chain_in chains.chains) (sym same)
            | inr differs ↦ get_or-set_other u.held h k o None differs ∙ held_off chains rows k (sym (others k differs) ∙ none)
          ])
          (λ k some. elim (cases_eq k h) [
            | inl same ↦ ap (chain_in (set u.held h o)) same ∙ here ∙ on (subst (λ j. IsSome (holder j (rows_in new))) same some)
            | inr differs ↦ get_or-set_other u.held h k o None differs ∙ held_on chains rows k (subst IsSome (others k differs) some)
          ]) in
          let are_shelves : map (map (chain_at chains)) (rows_in new).lists ≡ set u.shelves s ms =
          ap (λ (r : Rows). map (map (chain_at chains)) r.lists) lists ∙ map-set (map (chain_at chains)) rows.lists s ys ∙ ap (set u.shelves s) row in
          (λ i. lists_of (by_head (links_same i) front free) (rows_in new) least)
          ∙ (λ i. record { free = chains.free; held = is_held i; shelves = are_shelves i; least = least })
          ∙ ap (λ (x : ChainLists). record x { held = set x.held h o; shelves = set x.shelves s ms }) lists_are

    -- ---- a load changes

    module _ (nodes : Vec (Node Link T) Global) (k : ℕ) {x : Node Link T} (load : T) (read : x ≡ get_or t.nodes.items k x) (is : nodes.items ≡ set t.nodes.items k (record x { load = load })) where
      places_kept : places_of nodes.items ≡ places_of t.nodes.items
      places_kept = ap places_of is ∙ map-set_same (λ (n : Node Link T). n.place) t.nodes.items k (record x { load = load }) x (ap (λ (n : Node Link T). n.place) read)

      links_kept : links_of nodes.items ≡ links_of t.nodes.items
      links_kept = ap links_of is ∙ map-set_same (λ (n : Node Link T). n.link) t.nodes.items k (record x { load = load }) x (ap (λ (n : Node Link T). n.link) read)

      pub IsWhole-loaded : IsWhole (record { nodes = nodes; ends = t.ends }) front free least
      IsWhole-loaded = record {
        sound = subst (λ ps. IsSound ps t.ends.items (rows_of ps t.ends.items)) (sym places_kept) whole.sound;
        chained = subst (λ ls. IsChained ls front free (by_head ls front free)) (sym links_kept) whole.chained;
        begun = λ h on.
            subst (λ ls. IsSome (chain_in (by_head ls front free).chains h)) (sym links_kept) (whole.begun h (subst (λ ps. IsSome (holder h (rows_of ps t.ends.items))) places_kept on));
        fewest = whole.fewest;
      }

      pub lists_kept : lists_in (record { nodes = nodes; ends = t.ends }) front free least ≡ v.lists
      lists_kept = (λ i. lists_of (by_head (links_kept i) front free) (rows_of (places_kept i) t.ends.items) least) ∙ lists_are

      pub loaded_is : loads_of nodes.items ≡ set v.loads k load
      loaded_is = ap loads_of is ∙ map-set (λ (n : Node Link T). n.load) t.nodes.items k (record x { load = load }) ∙ ap (λ (u : LoadedChains T). set u.loads k load) view
