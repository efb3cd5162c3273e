-- Chains freed, whole and behind a node.
use Rattle.std.proofs.Common.{◌≡◌, ◌≢◌, ℕ, suc, ◌+◌, ◌<◌, ◌≤◌, true, false, ◌==◌, List, [], ◌∷◌, ◌++◌, length, reverse, get_or, set, take, drop, Option, Some, None, IsSome, if◌then◌else◌, refl, sym, ap, ◌∙◌, subst, arith, length-append, length-set, drop-cons, get_or-set_same, get_or-set_other}
use Rattle.std.proofs.lemmas.Bool.{false≢true, false_from_ne_true}
use Rattle.std.proofs.lemmas.Bool.Decides.{nat_tests}
use Rattle.std.proofs.lemmas.List.{drop_all, reverse-append, take_all, take_more, length-drop, length-take-le}
use Rattle.strm_links.specs.Rows.{has, IsApart, first_or, last, first}
use Rattle.strm_links.specs.Layout.{LeadsOn}
use Rattle.strm_links.specs.Chains.{chain_in}
use Rattle.strm_links.specs.ChainLayout.{ByHead, chain_at, behind_freed}
use Rattle.strm_links.specs.ChainLayout.{IsChained, IsChain, after_at, no_link, no_span, linked_at, span_at, onward, path}
use Rattle.strm_links.specs.declared.chained.Link.{Link}
use Rattle.strm_links.specs.declared.chained.Span.{Span}
use Rattle.strm_links.specs.Counting.{times}
use Rattle.strm_links.proofs.lists.ListLinks.{LeadsOn-kept, absent_take, link_at, LeadsOn-parts, walk_is, last_without, onward-end}
use Rattle.strm_links.proofs.lists.Counting.{has_times, times-reverse, times_has, split_behind, times-append}
use Rattle.strm_links.proofs.lists.OneList.{first_or-append, absent_both, absent_parts, first_alone, ApartParts, IsApart-parts, differ, has_left, has_right, has_tail}
use Rattle.strm_links.proofs.chains.StoredChains.{span_without, IsChained-out, chain_laid, write_elsewhere, write_here, freed_few, head_in, apart_from, chain_apart, chain_low}

-- ---- all nodes of a chain become free, the last one first

module _ {nodes : List Link} {first_free : Option ℕ} {free_len : ℕ} {v : ByHead} (laid : IsChained nodes first_free free_len v) (h : ℕ) (some_h : IsSome (chain_in v.chains h)) where
  was : IsChain (after_at nodes) (span_at nodes h) h (chain_at v h)
  was = chain_laid laid h some_h

  -- the chain and the free nodes together are at most all nodes
  pub freed_room : free_len + (span_at nodes h).len ≤ length v.chains
  freed_room = omega (arith, laid.free_count, was.len, length-append (chain_at v h) v.free, freed_few v laid.once h)

  module _ (new : List Link) (long : length new ≡ length nodes) (reversed : LeadsOn (after_at new) (reverse (chain_at v h)) first_free)
      (links : (k : ℕ) → has k (chain_at v h) ≡ false → after_at new k ≡ after_at nodes k)
      (spans : (k : ℕ) → span_at new k ≡ (if h == k then no_span else span_at nodes k)) where
    pub IsChained-freed : (first_free' : Option ℕ) (free_len' : ℕ) → first_free' ≡ first_or first_free (reverse (chain_at v h)) → free_len' ≡ free_len + (span_at nodes h).len
        → IsChained new first_free' free_len' (record v { free = reverse (chain_at v h) ++ v.free; chains = set v.chains h None })
    IsChained-freed first_free' free_len' begins counts =
        let none : (span_at new h).len ≡ 0 = ap (λ (s : Span). s.len) (spans h ∙ write_here h _) in
        IsChained-out laid h new long links (chain_at v h) None first_free' free_len' some_h reversed (λ g other. spans g ∙ write_elsewhere h g _ other) none (λ k. omega arith)
        begins (omega (arith, counts, was.len))

-- ---- the walk that reverses the links

pub has-reverse : (k : ℕ) (xs : List ℕ) → has k (reverse xs) ≡ true → has k xs ≡ true
has-reverse k xs there = has_times k xs (omega (arith, times-reverse k xs, times_has k (reverse xs) there))

-- the links of the first `i` of `xs` are reversed, and lead on to `beyond`. The walk is at the next node, or at `end` after the last.
-- `onto` is the node reversed last
pub record Reverses (old now : List Link) (beyond end : Option ℕ) (xs : List ℕ) (i : ℕ) (at onto : Option ℕ) : Type 0 where
  pub at_is : at ≡ first_or end (drop i xs)
  pub onto_is : onto ≡ first_or beyond (reverse (take i xs))
  pub reversed : LeadsOn (after_at now) (reverse (take i xs)) beyond
  pub others : (k : ℕ) → has k (take i xs) ≡ false → after_at now k ≡ after_at old k
  pub spans : (k : ℕ) → span_at now k ≡ span_at old k
  pub len : length now ≡ length old

pub Reverses-start : (nodes : List Link) (beyond end : Option ℕ) {at : Option ℕ} (xs : List ℕ) → at ≡ first_or end xs → Reverses nodes nodes beyond end xs 0 at beyond
Reverses-start nodes beyond end xs begins = record {
  at_is = begins;
  onto_is = refl;
  reversed = tt;
  others = λ k _. refl;
  spans = λ k. refl;
  len = refl;
}

-- the links of all of `xs` are reversed; the walk is where the last of them led
pub record AreReversed (old now : List Link) (beyond end : Option ℕ) (xs : List ℕ) (at onto : Option ℕ) : Type 0 where
  pub at_is : at ≡ end
  pub onto_is : onto ≡ first_or beyond (reverse xs)
  pub reversed : LeadsOn (after_at now) (reverse xs) beyond
  pub others : (k : ℕ) → has k xs ≡ false → after_at now k ≡ after_at old k

module _ {old now : List Link} {beyond end : Option ℕ} {xs : List ℕ} {i : ℕ} {at onto : Option ℕ} (reverses : Reverses old now beyond end xs i at onto) where
  -- after the last node all links are reversed
  pub reversed_all : length xs ≤ i → AreReversed old now beyond end xs at onto
  reversed_all all =
      let whole : take i xs ≡ xs = take_all i xs all in
      record {
        at_is = reverses.at_is ∙ ap (first_or end) (drop_all i xs all);
        onto_is = reverses.onto_is ∙ ap (λ ys. first_or beyond (reverse ys)) whole;
        reversed = subst (λ ys. LeadsOn (after_at now) (reverse ys) beyond) whole reverses.reversed;
        others = λ k absent. reverses.others k (ap (has k) whole ∙ absent);
      }

  module _ (more : i < length xs) where
    -- before the end there is a next node
    pub reverse_at : at ≡ Some (get_or xs i 0)
    reverse_at = reverses.at_is ∙ ap (first_or end) (drop-cons xs i 0 more)

    module _ (apart : IsApart xs) (leads : LeadsOn (after_at old) xs end) {n : ℕ} (is : n ≡ get_or xs i 0) (low : n < length now) where
      off : has n (take i xs) ≡ false
      off = ap (λ j. has j (take i xs)) is ∙ absent_take xs i apart more

      -- one more step reverses its link
      pub Reverses-more : {y : Link} {later : List Link} (at' : Option ℕ) {onto' : Option ℕ} → y ≡ linked_at now n → later ≡ set now n (record y { next = onto }) → at' ≡ y.next → onto' ≡ Some n → Reverses old later beyond end xs (i + 1) at' onto'
      Reverses-more {y} {later} at' read write on last =
          let known = read in
          let same : (k : ℕ) → k ≢ n → linked_at later k ≡ linked_at now k = λ k other. ap (λ ys. linked_at ys k) write ∙ get_or-set_other now n k (record y { next = onto }) no_link other in
          let new : linked_at later n ≡ record y { next = onto } = ap (λ ys. linked_at ys n) write ∙ get_or-set_same now n (record y { next = onto }) no_link low in
          let longer : take (i + 1) xs ≡ take i xs ++ n ∷ [] = take_more xs i 0 more ∙ ap (λ j. take i xs ++ j ∷ []) (sym is) in
          let behind : reverse (take (i + 1) xs) ≡ n ∷ reverse (take i xs) = ap reverse longer ∙ reverse-append (take i xs) (n ∷ []) in
          let one_more : suc i ≡ i + 1 = omega arith in
          record {
            at_is = on ∙ ap (λ (x : Link). x.next) known ∙ reverses.others n off ∙ ap (after_at old) is ∙ link_at (after_at old) xs end i leads more ∙ ap (λ j. first_or end (drop j xs)) one_more;
            onto_is = last ∙ sym (ap (first_or beyond) behind);
            reversed = subst (λ ys. LeadsOn (after_at later) ys beyond) (sym behind)
                ((
                  ap (λ (x : Link). x.next) new ∙ reverses.onto_is,
                  LeadsOn-kept (after_at now) (after_at later) (reverse (take i xs)) beyond
                      (λ k there. ap (λ (x : Link). x.next) (same k (λ equal. false≢true (sym off ∙ ap (λ j. has j (take i xs)) (sym equal) ∙ has-reverse k (take i xs) there))))
                      reverses.reversed,
                ));
            others = λ k absent.
                let far = absent_both k (take i xs) (n ∷ []) (sym (ap (has k) longer) ∙ absent) in
                ap (λ (x : Link). x.next) (same k (λ equal. (absent_parts n k [] far.1).0 (sym equal))) ∙ reverses.others k far.0;
            spans = λ k. grind (arith, nat_tests, new, known, same k, reverses.spans k);
            len = ap length write ∙ length-set now n (record y { next = onto }) ∙ reverses.len;
          }

-- ---- the nodes after the first of a chain become free, the last one first

-- ---- the parts of a list

-- the front of two lists is that of the first, unless it is empty
front_left : (xs ys : List ℕ) → 0 < length xs → first (xs ++ ys) ≡ first xs
front_left [] ys some = absurd (omega (arith, some))
front_left (x ∷ xs) ys some = refl

pub front_some : (xs : List ℕ) → 0 < length xs → IsSome (first xs)
front_some [] some = absurd (omega (arith, some))
front_some (x ∷ xs) some = refl

module _ {nodes : List Link} {first_free : Option ℕ} {free_len : ℕ} {v : ByHead} (laid : IsChained nodes first_free free_len v) (h : ℕ) (some_h : IsSome (chain_in v.chains h)) where
  -- ---- `out` follow the head h

  module _ (out post : List ℕ) (split : chain_at v h ≡ h ∷ (out ++ post)) where
    chained : IsChain (after_at nodes) (span_at nodes h) h (h ∷ (out ++ post))
    chained = subst (IsChain (after_at nodes) (span_at nodes h) h) split (chain_laid laid h some_h)

    apart : IsApart (h ∷ (out ++ post))
    apart = subst IsApart split (chain_apart v laid.once h)

    parts : ApartParts out post
    parts = IsApart-parts out post apart.1

    leads : LeadsOn (after_at nodes) out (first post) × LeadsOn (after_at nodes) post None
    leads = LeadsOn-parts (after_at nodes) out post None chained.leads.1

    -- a node after h is not h
    off_head : (k : ℕ) → has k (out ++ post) ≡ true → k ≢ h
    off_head k there same = differ h k (out ++ post) apart.0 there (sym same)

    in_chain : (k : ℕ) → has k out ≡ true → has k (chain_at v h) ≡ true
    in_chain k there = ap (has k) split ∙ has_tail h k (out ++ post) (has_left k out post there)

    -- what h leads on to
    head_next : after_at nodes h ≡ first_or (first post) out
    head_next = chained.leads.0 ∙ first_or-append None out post

    -- the links from there lead through `out`, and then to `post`
    path_out : path nodes (length out) (after_at nodes h) ≡ out
    unfolding path
    path_out = ap (path nodes (length out)) head_next ∙ walk_is (after_at nodes) out (first post) leads.0

    onward_out : onward (after_at nodes) (length out) (after_at nodes h) ≡ first post
    onward_out = ap (onward (after_at nodes) (length out)) head_next ∙ onward-end (after_at nodes) out (first post) leads.0

    module _ (new : List Link) (long : length new ≡ length nodes) (reversed : LeadsOn (after_at new) (reverse out) first_free) (now : after_at new h ≡ first post)
        (links : (k : ℕ) → k ≢ h → has k out ≡ false → after_at new k ≡ after_at nodes k)
        (spans : (k : ℕ) → span_at new k
        ≡ (if h == k then span_without (span_at nodes h) (length out) h (first post) else span_at nodes k)) where
      links_off : (k : ℕ) → has k (chain_at v h) ≡ false → after_at new k ≡ after_at nodes k
      links_off k absent =
          links k (apart_from k h (chain_at v h) (head_in laid h some_h) absent)
          (false_from_ne_true _ (λ there. false≢true (sym absent ∙ in_chain k there)))

      here : IsChain (after_at new) (span_without (span_at nodes h) (length out) h (first post)) h (h ∷ post)
      here = record {
        head = refl;
        last = last_without (h ∷ []) out post h (span_at nodes h).last refl chained.last;
        len = omega (arith, chained.len, length-append out post);
        leads = (
          now,
          LeadsOn-kept (after_at nodes) (after_at new) post None
              (λ k there. links k (off_head k (has_right k out post there)) (false_from_ne_true _ (λ before. false≢true (sym (parts.cross k before) ∙ there))))
              leads.1,
        );
      }

      IsChained-parted : (free_len' : ℕ) → free_len' ≡ free_len + length out → IsChained new (first_or first_free (reverse out)) free_len' (record { free = reverse out ++ v.free; chains = set v.chains h (Some (h ∷ post)) })
      IsChained-parted free_len' counts =
          let chain_from = subst (λ s. IsChain (after_at new) s h (h ∷ post)) (sym (spans h ∙ write_here h _)) here in
          IsChained-out laid h new long links_off out (Some (h ∷ post)) _ free_len' some_h reversed (λ g other. spans g ∙ write_elsewhere h g _ other) chain_from
          (λ k. omega (arith, ap (times k) split, times-append k (h ∷ []) (out ++ post), times-append k (h ∷ []) post, times-append k out post)) refl counts

  -- ---- the `count` nodes after the head

  begins : first (chain_at v h) ≡ Some h
  begins = (chain_laid laid h some_h).head

  module _ (count : ℕ) (some : 0 < count) (within : count < length (chain_at v h)) where
    -- the nodes that become free, and those after them
    abbrev out_of : List ℕ
    out_of = take count (drop 1 (chain_at v h))

    abbrev rest_of : List ℕ
    rest_of = drop (count + 1) (chain_at v h)

    split : chain_at v h ≡ h ∷ (out_of ++ rest_of)
    split = split_behind (chain_at v h) count ∙ ap (λ xs. xs ++ (out_of ++ rest_of)) (first_alone h (chain_at v h) begins)

    pub behind_count : length out_of ≡ count
    behind_count = length-take-le count (drop 1 (chain_at v h)) (omega (arith, within, length-drop 1 (chain_at v h)))

    any : 0 < length out_of
    any = omega (arith, behind_count, some)

    -- with them there are at most as many free nodes as nodes, and the chain is longer than `count`
    pub behind_room : free_len + count ≤ length v.chains
    behind_room = omega (arith, within, freed_room laid h some_h, (chain_laid laid h some_h).len)

    pub behind_len : count ≤ (span_at nodes h).len
    behind_len = omega (arith, within, (chain_laid laid h some_h).len)

    -- a node follows the head
    pub behind_some : IsSome (after_at nodes h)
    behind_some = subst IsSome (sym ((chained out_of rest_of split).leads.0 ∙ front_left out_of rest_of any)) (front_some out_of any)

    module _ {n : ℕ} (on : after_at nodes h ≡ Some n) where
      -- the links from it on lead through the nodes that become free
      pub behind_path : path nodes count (Some n) ≡ out_of
      behind_path = (λ i. path nodes (sym behind_count i) (sym on i)) ∙ path_out out_of rest_of split

      pub behind_onward : onward (after_at nodes) count (Some n) ≡ first rest_of
      behind_onward = (λ i. onward (after_at nodes) (sym behind_count i) (sym on i)) ∙ onward_out out_of rest_of split

      pub behind_first : first out_of ≡ Some n
      behind_first = sym (front_left out_of rest_of any) ∙ sym (chained out_of rest_of split).leads.0 ∙ on

    -- none of them is there twice, and each is a node
    pub behind_apart : IsApart out_of
    behind_apart = (parts out_of rest_of split).left

    pub behind_low : (k : ℕ) → has k out_of ≡ true → k < length v.chains
    behind_low k there = chain_low v laid.once h k (in_chain out_of rest_of split k there)

    pub behind_off : has h out_of ≡ false
    behind_off = false_from_ne_true _ (λ there. off_head out_of rest_of split h (has_left h out_of rest_of there) refl)

    pub IsChained-behind_freed : (new : List Link) → length new ≡ length nodes → LeadsOn (after_at new) (reverse out_of) first_free → after_at new h ≡ first rest_of
        → ((k : ℕ) → k ≢ h → has k out_of ≡ false → after_at new k ≡ after_at nodes k)
        → ((k : ℕ) → span_at new k ≡ (if h == k then span_without (span_at nodes h) count h (first rest_of) else span_at nodes k))
        → IsChained new (first_or first_free (reverse out_of)) (free_len + count) (behind_freed h count (chain_at v h) v)
    IsChained-behind_freed new long reversed now links spans =
        let only : (h ∷ []) ++ rest_of ≡ take 1 (chain_at v h) ++ rest_of = ap (λ xs. xs ++ rest_of) (sym (first_alone h (chain_at v h) begins)) in
        subst (λ xs. IsChained new (first_or first_free (reverse out_of)) (free_len + count) (record { free = reverse out_of ++ v.free; chains = set v.chains h (Some xs) })) only
        (IsChained-parted out_of rest_of split new long reversed now links
        (λ k. spans k ∙ ap (λ n. if h == k then span_without (span_at nodes h) n h (first rest_of) else span_at nodes k) (sym behind_count))
        (free_len + count) (omega (arith, behind_count)))
