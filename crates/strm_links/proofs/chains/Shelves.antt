-- Chains, and heads on shelves, as a contract sees them.
use Rattle.std.proofs.Common.{◌≡◌, ◌≢◌, ℕ, suc, ◌+◌, ◌<◌, true, false, List, [], ◌∷◌, ◌++◌, map, length, get_or, set, Option, Some, None, IsSome, is_some, refl, sym, ap, ◌∙◌, inl, inr, arith, get_or-set_same, get_or-set_other, length-set}
use Rattle.std.specs.List.{concat, flat_map}
use Rattle.std.proofs.lemmas.Bool.{false≢true, false_from_ne_true, or_cases, cond-true, cond-false, eq-eqb, ne_eqb, not_from_true, not_from_false}
use Rattle.std.proofs.lemmas.Grind.{common_steps}
use Rattle.std.proofs.lemmas.List.{ext_get_or, get_or_past, map-append, set_comm, set_past}
use Rattle.std.proofs.lemmas.List.Concat.{flat_map-append}
use Rattle.std.proofs.lemmas.List.Folds.{flat_map-map}
use Rattle.strm_links.specs.Rows.{Rows, has, IsApart, list_at, holder, linked_nodes, without, put_before, put_in}
use Rattle.strm_links.specs.Counting.{times}
use Rattle.strm_links.specs.Chains.{chain_in, items_of, items_in, items_on, put_before_head, shelf_in, with_head, without_head}
use Rattle.strm_links.specs.ChainLists.{head_node}
use Rattle.strm_links.specs.ChainLayout.{ByHead, chain_at, chains_but}
use Rattle.strm_links.proofs.lists.AllLists.{has_linked, holder_has, holder_none}
use Rattle.strm_links.proofs.lists.Counting.{times-append, times-set}
use Rattle.strm_links.proofs.lists.OneList.{absent_both, absent_parts, differ, has-append, has_cases, has_head, has_tail, number_of}

-- ---- chains without those that begin with some nodes

length-but : (hs : List ℕ) (chains : List (Option (List ℕ))) → length (chains_but hs chains) ≡ length chains
length-but [] chains = refl
length-but (h ∷ hs) chains = length-but hs (set chains h None) ∙ length-set chains h None

none_here : (chains : List (Option (List ℕ))) (h : ℕ) → chain_in (set chains h None) h ≡ None
none_here chains h = grind (arith, common_steps, get_or-set_same, set_past, get_or_past)

-- any other chain stays
but_absent : (k : ℕ) (hs : List ℕ) (chains : List (Option (List ℕ))) → has k hs ≡ false → chain_in (chains_but hs chains) k ≡ chain_in chains k
but_absent k [] chains off = refl
but_absent k (h ∷ hs) chains off = grind (arith, common_steps, (but_absent k hs (set chains h None)), absent_parts, get_or-set_other)

but_none : (k : ℕ) (hs : List ℕ) (chains : List (Option (List ℕ))) → chain_in chains k ≡ None → chain_in (chains_but hs chains) k ≡ None
but_none k [] chains none = none
but_none k (h ∷ hs) chains none = grind (arith, common_steps, (but_none k hs (set chains h None)), none_here, get_or-set_other)

-- and these have gone
but_there : (k : ℕ) (hs : List ℕ) (chains : List (Option (List ℕ))) → has k hs ≡ true → chain_in (chains_but hs chains) k ≡ None
but_there k [] chains on = absurd (false≢true on)
but_there k (h ∷ hs) chains on = grind (arith, common_steps, (but_there k hs (set chains h None)), has_cases, but_none, none_here)

-- a chain that is none of these may be replaced before or after
but_set : (h : ℕ) (o : Option (List ℕ)) (hs : List ℕ) (chains : List (Option (List ℕ))) → has h hs ≡ false → chains_but hs (set chains h o) ≡ set (chains_but hs chains) h o
but_set h o [] chains off = refl
but_set h o (g ∷ hs) chains off = grind (arith, common_steps, (but_set h o hs (set chains g None)), absent_parts, set_comm)

-- ---- nodes that are on a shelf

pub listed : (k : ℕ) (lists : List (List ℕ)) → has k (concat lists) ≡ true → (l : ℕ) × (has k (get_or lists l []) ≡ true)
listed k [] on = absurd (false≢true on)
listed k (xs ∷ lists) on =
    elim (or_cases (has k xs) (has k (concat lists)) (sym (has-append k xs (concat lists)) ∙ on)) [
      | inl here ↦ (0, here)
      | inr later ↦ let rest = listed k lists later in (suc rest.0, rest.1)
    ]

pub unlisted : (k : ℕ) (heads : Rows) → holder k heads ≡ None → has k (linked_nodes heads) ≡ false
unlisted k heads none = false_from_ne_true _ (λ on. let at = listed k heads.lists on in false≢true (sym (holder_none k at.0 heads none) ∙ at.1))

pub on_some : (k : ℕ) (heads : Rows) → IsSome (holder k heads) → has k (linked_nodes heads) ≡ true
on_some k heads some = let at = number_of (holder k heads) some in has_linked k at.0 heads.lists (holder_has k at.0 heads at.1).1

-- a function is asked at the members of a list alone
map_members : {X : Type 0} (f g : ℕ → X) (xs : List ℕ) → ((h : ℕ) → has h xs ≡ true → f h ≡ g h) → map f xs ≡ map g xs
map_members f g [] same = refl
map_members f g (x ∷ xs) same = λ i. same x (has_head x x xs refl) i ∷ map_members f g xs (λ h there. same h (has_tail x h xs there)) i

flat_members : (f g : ℕ → List ℕ) (xs : List ℕ) → ((h : ℕ) → has h xs ≡ true → f h ≡ g h) → flat_map f xs ≡ flat_map g xs
flat_members f g [] same = refl
flat_members f g (x ∷ xs) same = λ i. same x (has_head x x xs refl) i ++ flat_members f g xs (λ h there. same h (has_tail x h xs there)) i

-- chains on shelves are as they were
shelves_alike : (h : ℕ) (f g : ℕ → List ℕ) (lists : List (List ℕ)) → has h (concat lists) ≡ false → ((k : ℕ) → k ≢ h → f k ≡ g k) → map (map f) lists ≡ map (map g) lists
shelves_alike h f g [] off same = refl
shelves_alike h f g (xs ∷ lists) off same =
    let both = absent_both h xs (concat lists) off in
    λ i. map_members f g xs (λ k there. same k (λ is. false≢true (sym both.0 ∙ ap (λ j. has j xs) (sym is) ∙ there))) i ∷ shelves_alike h f g lists both.1 same i

-- the nodes of the chains on all shelves
pub shelves_flat : (f : ℕ → List ℕ) (lists : List (List ℕ)) → items_on (map (map f) lists) ≡ flat_map f (concat lists)
shelves_flat f [] = refl
shelves_flat f (xs ∷ lists) = (λ i. flat_map-map (λ m. m) f xs i ++ shelves_flat f lists i) ∙ sym (flat_map-append f xs (concat lists))

pub shelves_concat : (f : ℕ → List ℕ) (lists : List (List ℕ)) → flat_map (λ (ns : List (List ℕ)). ns) (map (map f) lists) ≡ map f (concat lists)
shelves_concat f [] = refl
shelves_concat f (xs ∷ lists) = ap (λ ys. map f xs ++ ys) (shelves_concat f lists) ∙ sym (map-append f xs (concat lists))

-- a node is in all chains as often as in those that go and those that stay
pub parts_sum : (n : ℕ) (hs : List ℕ) (chains : List (Option (List ℕ))) → IsApart hs → ((h : ℕ) → has h hs ≡ true → h < length chains)
    → times n (flat_map (λ h. items_of (chain_in chains h)) hs) + times n (items_in (chains_but hs chains)) ≡ times n (items_in chains)
parts_sum n [] chains apart within = omega arith
parts_sum n (h ∷ hs) chains apart within =
    let left = set chains h None in
    let others : flat_map (λ g. items_of (chain_in chains g)) hs ≡ flat_map (λ g. items_of (chain_in left g)) hs =
    flat_members (λ g. items_of (chain_in chains g)) (λ g. items_of (chain_in left g)) hs
    (λ g there. ap items_of (sym (get_or-set_other chains h g None None (λ same. differ h g hs apart.0 there (sym same))))) in
    omega (
      arith,
      times-append n (items_of (chain_in chains h)) (flat_map (λ g. items_of (chain_in chains g)) hs),
      ap (times n) others,
      parts_sum n hs left apart.1 (λ g there. omega (arith, within g (has_tail h g hs there), length-set chains h None)),
      times-set n h None chains (within h (has_head h h hs refl)),
    )

-- ---- what is seen

module _ (v : ByHead) (heads : Rows) where
  abbrev pub held : List (Option (List ℕ))
  held = chains_but (linked_nodes heads) v.chains

  abbrev pub shelves : List (List (List ℕ))
  shelves = map (map (chain_at v)) heads.lists

  -- a chain whose head is on no shelf is held
  pub held_off : (h : ℕ) → holder h heads ≡ None → chain_in held h ≡ chain_in v.chains h
  held_off h off = but_absent h (linked_nodes heads) v.chains (unlisted h heads off)

  -- any other number begins no held chain
  pub held_on : (h : ℕ) → IsSome (holder h heads) → chain_in held h ≡ None
  held_on h on = but_there h (linked_nodes heads) v.chains (on_some h heads on)

  -- what is held is on no shelf
  pub off_shelf : (h : ℕ) → IsSome (chain_in held h) → holder h heads ≡ None
  off_shelf h some = grind (arith, common_steps, held_on)

  pub length-held : length held ≡ length v.chains
  length-held = length-but (linked_nodes heads) v.chains

  -- the chains on a shelf
  pub shelf-get : (s : ℕ) → shelf_in shelves s ≡ map (chain_at v) (list_at s heads)
  shelf-get s = grind (arith, common_steps)

  -- what is held is this, if it is so node by node
  pub held_as : (w : List (Option (List ℕ))) → length w ≡ length v.chains → ((h : ℕ) → holder h heads ≡ None → chain_in w h ≡ chain_in v.chains h) → ((h : ℕ) → IsSome (holder h heads) → chain_in w h ≡ None)
      → held ≡ w
  held_as w long off on =
      ext_get_or None held w (length-held ∙ sym long) (λ h within.
      elim (holder h heads) as (λ o. holder h heads ≡ o → chain_in held h ≡ chain_in w h) [
        | None ↦ λ none. held_off h none ∙ sym (off h none)
        | Some s ↦ λ some. held_on h (ap is_some some) ∙ sym (on h (ap is_some some))
      ] refl)

  -- ---- a chain that is on no shelf is replaced

  module _ (h : ℕ) (o : Option (List ℕ)) (off : holder h heads ≡ None) where
    pub held-set : chains_but (linked_nodes heads) (set v.chains h o) ≡ set held h o
    held-set = but_set h o (linked_nodes heads) v.chains (unlisted h heads off)

    pub shelves-set : (free : List ℕ) → map (map (chain_at (record { free = free; chains = set v.chains h o }))) heads.lists ≡ shelves
    shelves-set free =
        shelves_alike h (chain_at (record { free = free; chains = set v.chains h o })) (chain_at v) heads.lists (unlisted h heads off) (λ k other. ap items_of (get_or-set_other v.chains h k o None other))

-- ---- a list of chains that begin with the nodes of a list

module _ (v : ByHead) (xs : List ℕ) (each : (g : ℕ) → has g xs ≡ true → head_node (chain_at v g) ≡ g) where
  -- their heads
  pub heads_of : map head_node (map (chain_at v) xs) ≡ xs
  heads_of = go xs each
    where
      go : (ys : List ℕ) → ((g : ℕ) → has g ys ≡ true → head_node (chain_at v g) ≡ g) → map head_node (map (chain_at v) ys) ≡ ys
      go [] same = refl
      go (y ∷ ys) same = λ i. same y (has_head y y ys refl) i ∷ go ys (λ k there. same k (has_tail y k ys there)) i

put_before_head-map : (v : ByHead) (at h : ℕ) (xs : List ℕ) → ((g : ℕ) → has g xs ≡ true → head_node (chain_at v g) ≡ g) → has at xs ≡ true
    → map (chain_at v) (put_before at h xs) ≡ put_before_head head_node (Some at) (chain_at v h) (map (chain_at v) xs)
put_before_head-map v at h [] each there = absurd (false≢true there)
put_before_head-map v at h (x ∷ xs) each there = grind (arith, common_steps, (put_before_head-map v at h xs), has_head, cond-true, eq-eqb, has_cases, cond-false, ne_eqb, has_tail)

-- a chain that is put before another, or last
pub placed_in : (v : ByHead) (before : Option ℕ) (h : ℕ) (xs : List ℕ) → ((g : ℕ) → has g xs ≡ true → head_node (chain_at v g) ≡ g) → ((at : ℕ) → before ≡ Some at → has at xs ≡ true)
    → map (chain_at v) (put_in before h xs) ≡ put_before_head head_node before (chain_at v h) (map (chain_at v) xs)
placed_in v None h xs each there = map-append (chain_at v) xs (h ∷ [])
placed_in v (Some at) h xs each there = put_before_head-map v at h xs each (there at refl)

-- a chain that leaves
pub without-map : (v : ByHead) (h : ℕ) (xs : List ℕ) → ((g : ℕ) → has g xs ≡ true → head_node (chain_at v g) ≡ g)
    → map (chain_at v) (without h xs) ≡ without_head head_node h (map (chain_at v) xs)
without-map v h [] each = refl
without-map v h (x ∷ xs) each = grind (arith, common_steps, (without-map v h xs), has_head, has_tail, cond-false, not_from_true, eq-eqb, cond-true, not_from_false, ne_eqb)

-- and which one that is
pub with-map : (v : ByHead) (h : ℕ) (xs : List ℕ) → ((g : ℕ) → has g xs ≡ true → head_node (chain_at v g) ≡ g) → has h xs ≡ true
    → Some (chain_at v h) ≡ with_head head_node h (map (chain_at v) xs)
with-map v h [] each there = absurd (false≢true there)
with-map v h (x ∷ xs) each there = grind (arith, common_steps, (with-map v h xs), has_head, cond-true, eq-eqb, has_cases, has_tail, cond-false, ne_eqb)

-- no chain begins with a node that is not in the list
pub with-none : (v : ByHead) (h : ℕ) (xs : List ℕ) → ((g : ℕ) → has g xs ≡ true → head_node (chain_at v g) ≡ g) → has h xs ≡ false
    → with_head head_node h (map (chain_at v) xs) ≡ None
with-none v h [] each off = refl
with-none v h (x ∷ xs) each off = grind (arith, common_steps, (with-none v h xs), has_head, has_tail, absent_parts, cond-false, ne_eqb)
