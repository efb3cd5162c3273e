-- How `Stacks` stores the rows that a contract sees, and what a push and a pop leave of them.
use Rattle.std.proofs.Common.{◌≡◌, ◌≢◌, ℕ, zero, suc, ◌+◌, ◌-◌, ◌<◌, ◌≤◌, ◌^◌, true, false, List, [], ◌∷◌, map, length, get_or, set, take, drop, replicate, ◌++◌, Option, Some, None, IsSome, refl, sym, ap, ◌∙◌, subst, inl, inr, arith, get_or-set_same, get_or-set_other, length-append, length-set}
use Rattle.std.proofs.lemmas.Bool.{cases_eq, cond-true, cond-false, eq-eqb, ne_eqb, false≢true}
use Rattle.std.proofs.lemmas.Bool.Decides.{nat_tests}
use Rattle.std.proofs.lemmas.List.{length-map, get_or-map, map-set, get_or_default, same_lists, get_or_read, get_or-replicate, length-replicate}
use Rattle.std.specs.List.{concat}
use Rattle.std.specs.Prelude.{slice_get}
use Rattle.std.proofs.lemmas.Option.{slice_get-get_or}
use Rattle.std.proofs.Math.Seq.{map-set_same}
use Rattle.strm_links.specs.declared.stacks.Node.{Node}
use Rattle.strm_links.specs.declared.stacks.Top.{Top}
use Rattle.strm_links.specs.LoadedRows.{LoadedRows}
use Rattle.strm_links.specs.Rows.{Rows, IsParting, has, IsApart, first, without, list_at, holder, linked_nodes}
use Rattle.strm_links.specs.Layout.{LeadsOn}
use Rattle.strm_links.specs.Counting.{times}
use Rattle.strm_links.specs.StackLayout.{no_top, behind_at, top_at, stack, stacked_rows, IsStack, IsSound, behind_of, loads_of, loaded_rows, IsLaid}
use Rattle.strm_links.proofs.linking.Carried.{all_alike}
use Rattle.strm_links.proofs.lists.OneList.{first_split, has_at, first_has, first-without, is_some_of-same, length_below, some_of}
use Rattle.strm_links.proofs.lists.AllLists.{All-listed, has-holder, holder_none, holder-insert_here, holder-insert_other, holder-remove, map-without, IsApart-list_at}
use Rattle.strm_links.proofs.lists.ListLinks.{walk_is, LeadsOn-kept}
use Rattle.strm_links.proofs.lists.Counting.{times-append, times-cons, times_absent, times_has, apart_once}

-- ---- how often a number is in all the lists together

-- the count once list l is `ys`
times-set : (n l : ℕ) (ys : List ℕ) (lists : List (List ℕ)) → l < length lists
    → times n (concat (set lists l ys)) + times n (get_or lists l []) ≡ times n (concat lists) + times n ys
times-set n l ys [] within = absurd (omega arith)
times-set n zero ys (xs ∷ lists) within = omega (arith, times-append n ys (concat lists), times-append n xs (concat lists))
times-set n (suc l) ys (xs ∷ lists) within =
    omega (arith, times-append n xs (concat (set lists l ys)), times-append n xs (concat lists), times-set n l ys lists (omega arith))

-- no list is longer than all lists together
length-listed : (l : ℕ) (lists : List (List ℕ)) → length (get_or lists l []) ≤ length (concat lists)
length-listed l [] = omega arith
length-listed zero (xs ∷ lists) = omega (arith, length-append xs (concat lists))
length-listed (suc l) (xs ∷ lists) = omega (arith, length-append xs (concat lists), length-listed l lists)

-- a number that is in no list is not in the lists together
times-unlisted : (n : ℕ) (lists : List (List ℕ)) → ((l : ℕ) → has n (get_or lists l []) ≡ false) → times n (concat lists) ≡ 0
times-unlisted n [] none = refl
times-unlisted n (xs ∷ lists) none =
    omega (arith, times-append n xs (concat lists), times_absent n xs (none 0), times-unlisted n lists (λ l. none (suc l)))

-- a free node is in no list
times_free : (n : ℕ) (rows : Rows) → holder n rows ≡ None → times n (linked_nodes rows) ≡ 0
times_free n rows free = times-unlisted n rows.lists (λ l. holder_none n l rows free)

-- ---- the view

-- the walk from a top finds its stack
stack_is : (behind : List (Option ℕ)) (t : Top) (xs : List ℕ) → IsStack (behind_at behind) t xs → stack behind t ≡ xs
unfolding stack
stack_is behind t xs linked = rw (linked.len, linked.front) (walk_is (behind_at behind) xs None linked.leads_on)

-- a contract sees sound stacks as the rows that they hold
pub stacked_rows_is : (behind : List (Option ℕ)) (tops : List Top) (rows : Rows) → IsSound behind tops rows → stacked_rows behind tops ≡ rows
stacked_rows_is behind tops rows sound =
    let lists : map (stack behind) tops ≡ rows.lists =
    same_lists _ _ (length-map tops (stack behind) ∙ sound.list_count)
    (λ l d inside.
    let within : l < length rows.lists = omega (arith, length-map tops (stack behind), sound.list_count) in
    get_or-map (stack behind) tops l no_top d (omega (arith, sound.list_count))
    ∙ stack_is behind (top_at tops l) (list_at l rows) (sound.linked l within)
    ∙ get_or_default rows.lists l [] d within) in
    λ i. record { nodes = sound.node_count i; lists = lists i }

-- the stored invariant holds at the rows that a contract sees
pub IsSound-rows : {T : Type 0} (nodes : List (Node T)) (tops : List Top) (v : LoadedRows T) → loaded_rows nodes tops ≡ v → IsLaid nodes tops → IsSound (behind_of nodes) tops v.rows
IsSound-rows nodes tops v view laid = subst (IsSound (behind_of nodes) tops) (ap (λ (u : LoadedRows _). u.rows) view) laid

-- and the other way round
pub IsSound-stored : (behind : List (Option ℕ)) (tops : List Top) (rows : Rows) → IsSound behind tops rows → IsSound behind tops (stacked_rows behind tops)
IsSound-stored behind tops rows sound = subst (IsSound behind tops) (sym (stacked_rows_is behind tops rows sound)) sound

-- ---- nodes that carry loads

module _ {T : Type 0} (nodes : List (Node T)) (tops : List Top) (v : LoadedRows T) (view : loaded_rows nodes tops ≡ v) where
  pub rows_are : stacked_rows (behind_of nodes) tops ≡ v.rows
  rows_are = ap (λ (u : LoadedRows T). u.rows) view

  pub loads_are : loads_of nodes ≡ v.loads
  loads_are = ap (λ (u : LoadedRows T). u.loads) view

  -- each node has a load
  pub load_room : length nodes ≡ length v.loads
  load_room = sym (length-map nodes (λ (n : Node T). n.load)) ∙ ap length loads_are

  -- x is node k
  module _ (k : ℕ) (x : Node T) (read : x ≡ get_or nodes k x) where
    pub load_at : k < length nodes → slice_get v.loads k ≡ Some x.load
    load_at within =
        ap (λ ls. slice_get ls k) (sym loads_are) ∙ slice_get-get_or (loads_of nodes) k x.load (omega (arith, within, length-map nodes (λ (n : Node T). n.load)))
        ∙ ap Some (get_or-map (λ (n : Node T). n.load) nodes k x x.load within ∙ sym (ap (λ (n : Node T). n.load) read))

    pub behind_read : k < length nodes → x.behind ≡ get_or (behind_of nodes) k x.behind
    behind_read within = ap (λ (n : Node T). n.behind) read ∙ sym (get_or-map (λ (n : Node T). n.behind) nodes k x x.behind within)

    -- its link is written, and the loads stay
    pub behind-relinked : (behind : Option ℕ) → behind_of (set nodes k (record x { behind = behind })) ≡ set (behind_of nodes) k behind
    behind-relinked behind = map-set (λ (n : Node T). n.behind) nodes k (record x { behind = behind })

    pub loads-relinked : (behind : Option ℕ) → loads_of (set nodes k (record x { behind = behind })) ≡ v.loads
    loads-relinked behind = map-set_same (λ (n : Node T). n.load) nodes k (record x { behind = behind }) x (ap (λ (n : Node T). n.load) read) ∙ loads_are

    -- its load is written, and the links stay
    pub behind-reloaded : (load : T) → behind_of (set nodes k (record x { load = load })) ≡ behind_of nodes
    behind-reloaded load = map-set_same (λ (n : Node T). n.behind) nodes k (record x { load = load }) x (ap (λ (n : Node T). n.behind) read)

    pub loads-reloaded : (load : T) → loads_of (set nodes k (record x { load = load })) ≡ set v.loads k load
    loads-reloaded load = map-set (λ (n : Node T). n.load) nodes k (record x { load = load }) ∙ ap (λ ls. set ls k load) loads_are

-- nodes that are all alike
module _ {T : Type 0} (n m : ℕ) (items old : List (Node T)) (x : Node T) (is : items ≡ take n old ++ replicate (n - m) x) (none : old ≡ []) (zero_len : m ≡ 0) where
  pub behind_alike : behind_of items ≡ replicate n x.behind
  behind_alike = all_alike (λ (y : Node T). y.behind) n m items old x is none zero_len

  pub loads_alike : loads_of items ≡ replicate n x.load
  loads_alike = all_alike (λ (y : Node T). y.load) n m items old x is none zero_len

-- a list that is not empty has a first node
first_there : (xs : List ℕ) → 0 < length xs → IsSome (first xs)
first_there [] some = absurd (omega (arith, some))
first_there (x ∷ xs) some = refl

-- ---- what sound stacks say

module _ (behind : List (Option ℕ)) (tops : List Top) (rows : Rows) (sound : IsSound behind tops rows) where
  -- no node is in the rows twice
  pub apart : IsApart (linked_nodes rows)
  apart = apart_once (linked_nodes rows) sound.once

  -- each number in the rows is a node
  pub parts : IsParting rows
  parts = record { apart = apart; within = λ i d inside. sound.within _ (times_has _ (linked_nodes rows) (has_at (linked_nodes rows) i d inside)) }

  -- t is the top of stack l
  module _ (l : ℕ) (inside : l < length rows.lists) (t : Top) (read : t ≡ get_or tops l t) where
    top_is : t ≡ top_at tops l
    top_is = get_or_read tops l t (omega (arith, sound.list_count)) read no_top

    -- the top and the links hold the nodes of stack l
    pub here : IsStack (behind_at behind) t (list_at l rows)
    here = subst (λ u. IsStack (behind_at behind) u (list_at l rows)) (sym top_is) (sound.linked l inside)

    -- stack l holds its front
    pub front_holder : (n : ℕ) → t.front ≡ Some n → holder n rows ≡ Some l
    front_holder n is = some_of l (holder n rows) (sym (has-holder n l rows apart) ∙ first_has (list_at l rows) n (is_some_of-same n (first (list_at l rows)) (sym here.front ∙ is)))

    -- the front is a node
    pub front_within : (n : ℕ) → t.front ≡ Some n → n < rows.nodes
    front_within n is = All-listed (λ k. k < rows.nodes) n l rows.lists parts.within (first_has (list_at l rows) n (is_some_of-same n (first (list_at l rows)) (sym here.front ∙ is)))

    -- a stack that is not empty has a front
    pub front_there : 0 < length (list_at l rows) → IsSome t.front
    front_there some = subst IsSome (sym here.front) (first_there (list_at l rows) some)

    -- ---- stack l is replaced by `ys`, whose nodes are in no other stack
    module _ (ys : List ℕ) (once : (k : ℕ) → times k (concat (set rows.lists l ys)) ≤ 1) (low : (k : ℕ) → 0 < times k (concat (set rows.lists l ys)) → k < rows.nodes)
        (new : List (Option ℕ)) (long : length new ≡ length behind) (u : Top) (now : IsStack (behind_at new) u ys)
        (kept : (m k : ℕ) → has k (list_at m rows) ≡ true → behind_at new k ≡ behind_at behind k) where
      IsSound-set : IsSound new (set tops l u) (record rows { lists = set rows.lists l ys })
      IsSound-set = record {
        node_count = long ∙ sound.node_count;
        list_count = length-set tops l u ∙ sound.list_count ∙ sym (length-set rows.lists l ys);
        few_nodes = sound.few_nodes;
        few_lists = omega (arith, sound.few_lists, length-set rows.lists l ys);
        once = once;
        within = low;
        linked = λ m m_inside.
            let within : m < length rows.lists = omega (arith, length-set rows.lists l ys) in
            elim (cases_eq l m) [
              | inl same ↦
                  subst (λ j. IsStack (behind_at new) (top_at (set tops l u) j) (get_or (set rows.lists l ys) j [])) same
                  (rw (get_or-set_same tops l u no_top (omega (arith, sound.list_count, inside)), get_or-set_same rows.lists l ys [] inside) now)
              | inr other ↦
                  let away : m ≢ l = λ is. other (sym is) in
                  let was = sound.linked m within in
                  rw (get_or-set_other tops l m u no_top away, get_or-set_other rows.lists l m ys [] away)
                  (record { len = was.len; front = was.front; leads_on = LeadsOn-kept (behind_at behind) (behind_at new) (list_at m rows) None (kept m) was.leads_on })
            ];
      }

    -- ---- a free node joins
    module _ (n : ℕ) (low : n < rows.nodes) (free : holder n rows ≡ None) where
      abbrev more : List ℕ
      more = n ∷ list_at l rows

      -- the counts after the push: as before, and n once
      times-push : (k : ℕ) → times k (concat (set rows.lists l more)) ≡ times k (n ∷ linked_nodes rows)
      times-push k = omega (arith, times-set k l more rows.lists inside, times-cons k n (list_at l rows), times-cons k n (linked_nodes rows))

      once_more : (k : ℕ) → times k (n ∷ linked_nodes rows) ≤ 1
      once_more k = grind (arith, nat_tests, times-cons k n (linked_nodes rows), times_free n rows free, sound.once k, cases_eq n k)

      within_more : (k : ℕ) → 0 < times k (n ∷ linked_nodes rows) → k < rows.nodes
      within_more k some = grind (arith, nat_tests, times-cons k n (linked_nodes rows), sound.within k)

      -- so the stack has fewer nodes than there are
      pub push_room : t.len < rows.nodes
      push_room =
          omega (arith, here.len, length-listed l rows.lists, length_below rows.nodes (n ∷ linked_nodes rows) (apart_once (n ∷ linked_nodes rows) once_more) (λ k found. within_more k (times_has k (n ∷ linked_nodes rows) found)))

      -- the push writes no link of a stack
      push_kept : (m k : ℕ) → has k (list_at m rows) ≡ true → behind_at (set behind n t.front) k ≡ behind_at behind k
      push_kept m k there =
          get_or-set_other behind n k t.front None (λ same. false≢true (sym (holder_none n m rows free) ∙ ap (λ j. has j (list_at m rows)) (sym same) ∙ there))

      pub IsSound-push : (own : Option ℕ) → own ≡ Some n → IsSound (set behind n t.front) (set tops l (record { len = t.len + 1; front = own })) (record rows { lists = set rows.lists l more })
      IsSound-push own is =
          IsSound-set more (λ k. omega (arith, times-push k, once_more k)) (λ k some. within_more k (omega (arith, times-push k)))
          (set behind n t.front) (length-set behind n t.front) (record { len = t.len + 1; front = own })
          (record {
            len = omega (arith, here.len);
            front = is;
            leads_on = (
              get_or-set_same behind n t.front None (omega (arith, sound.node_count)) ∙ here.front,
              LeadsOn-kept (behind_at behind) (behind_at (set behind n t.front)) (list_at l rows) None (push_kept l) here.leads_on,
            );
          })
          push_kept

      -- after the push stack l holds n
      pub push_holder : holder n (record rows { lists = set rows.lists l more }) ≡ Some l
      push_holder = holder-insert_here rows apart n l more inside free refl

      -- every other node is held as before
      pub push_others : (k : ℕ) → k ≢ n → holder k (record rows { lists = set rows.lists l more }) ≡ holder k rows
      push_others k other = holder-insert_other rows apart n l k more inside free refl other

    -- ---- the front leaves
    module _ (n : ℕ) (is : t.front ≡ Some n) where
      abbrev rest : List ℕ
      rest = drop 1 (list_at l rows)

      first_is : first (list_at l rows) ≡ Some n
      first_is = sym here.front ∙ is

      -- the stack is its front and the rest
      split : n ∷ rest ≡ list_at l rows
      split = first_split n (list_at l rows) first_is

      -- the stack has one node at least
      pub pop_some : 0 < t.len
      pop_some = omega (arith, here.len, ap length split)

      times-pop : (k : ℕ) → times k (concat (set rows.lists l rest)) ≤ times k (linked_nodes rows)
      times-pop k = omega (arith, times-set k l rest rows.lists inside, times-cons k n rest, ap (times k) split)

      pub IsSound-pop : (next : Option ℕ) → next ≡ get_or behind n next → IsSound behind (set tops l (record { len = t.len - 1; front = next })) (record rows { lists = set rows.lists l rest })
      IsSound-pop next link =
          let leads = subst (λ xs. LeadsOn (behind_at behind) xs None) (sym split) here.leads_on in
          IsSound-set rest (λ k. omega (arith, times-pop k, sound.once k)) (λ k some. sound.within k (omega (arith, times-pop k)))
          behind refl (record { len = t.len - 1; front = next })
          (record {
            len = omega (arith, here.len, ap length split);
            front = get_or_read behind n next (omega (arith, sound.node_count, front_within n is)) link None ∙ leads.0;
            leads_on = leads.1;
          })
          (λ m k there. refl)

      -- after the pop n is in no list
      without_front : record rows { lists = set rows.lists l rest } ≡ record rows { lists = map (without n) rows.lists }
      without_front =
          ap (λ ls. record rows { lists = ls })
          (ap (λ xs. set rows.lists l (drop 1 xs)) (first-without n (list_at l rows) (IsApart-list_at l rows.lists apart) first_is)
          ∙ sym (map-without rows apart n l (front_holder n is)))

      -- so no list holds it
      pub pop_freed : holder n (record rows { lists = set rows.lists l rest }) ≡ None
      pop_freed = ap (holder n) without_front ∙ holder-remove rows apart n n ∙ cond-true _ _ _ (eq-eqb n n refl)

      -- every other node is held as before
      pub pop_others : (k : ℕ) → k ≢ n → holder k (record rows { lists = set rows.lists l rest }) ≡ holder k rows
      pop_others k other = ap (holder k) without_front ∙ holder-remove rows apart n k ∙ cond-false _ _ _ (ne_eqb n k (λ same. other (sym same)))

-- ---- empty stacks

-- free nodes and empty stacks are sound
pub IsSound-new : (n m : ℕ) → n < 2 ^ 32 → m < 2 ^ 32 → IsSound (replicate n None) (replicate m no_top) (record { nodes = n; lists = replicate m [] })
IsSound-new n m few_nodes few_lists =
    let empty : List ℕ = [] in
    let lists : length (replicate m empty) ≡ m = length-replicate m empty in
    record {
      node_count = length-replicate {A = Option ℕ} n None;
      list_count = length-replicate m no_top ∙ sym lists;
      few_nodes = few_nodes;
      few_lists = omega (arith, lists);
      once = λ k. omega (arith, nothing k m);
      within = λ k some. absurd (omega (arith, nothing k m));
      linked = λ l within.
          let inside : l < m = omega (arith, lists) in
          rw (get_or-replicate m l no_top no_top inside, get_or-replicate m l empty empty inside) (record { len = refl; front = refl; leads_on = tt });
    }
  where
    nothing : (k m : ℕ) → times k (concat (replicate m [])) ≡ 0
    nothing k zero = refl
    nothing k (suc m) = nothing k m
