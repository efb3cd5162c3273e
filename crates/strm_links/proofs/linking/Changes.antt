-- How the nodes and the ends stay sound when a node joins or leaves a list, and when one list joins another.
use Rattle.std.proofs.Common.{◌≡◌, ◌≢◌, ℕ, zero, suc, ◌<◌, true, false, List, [], ◌∷◌, length, get_or, set, Option, Some, None, if◌then◌else◌, refl, sym, ap, ◌∙◌, subst, arith, get_or-set_same, get_or-set_other, length-set, ◌+◌, ◌-◌, ◌++◌, is_none, inl, inr}
use Rattle.std.proofs.lemmas.Bool.Decides.{nat_tests}
use Rattle.std.proofs.Math.ListN.{get_or-map}
use Rattle.std.proofs.Math.Seq.{map-set_same}
use Rattle.std.proofs.lemmas.List.{append_assoc, append-nil, length-append}
use Rattle.std.proofs.lemmas.Bool.{cases_eq, cases_Bool, cond-true, cond-false, ne_eqb, or_from, false≢true}
use Rattle.std.proofs.lemmas.Option.{none-some}
use Rattle.strm_links.specs.declared.table.Place.{Place}
use Rattle.strm_links.specs.Rows.{has, Rows, IsApart, is_some_of, first, last, list_at}
use Rattle.strm_links.specs.Layout.{no_place, place_at, owner_at, previous_at, next_at, with_next, with_previous, walk, no_ends, ends_at, LeadsBack, LeadsOn, IsLinked, IsSound}
use Rattle.strm_links.specs.declared.table.Ends.{Ends}
use Rattle.strm_links.proofs.lists.OneList.{has_head, has_tail, has_right, has-append, has-around, differ, absent_parts, absent_both, absent_around, ApartParts, IsApart-parts, IsApart-append, IsApart-insert, IsApart-remove, first_joined, first_off, last_joined, last_off, last_or-append, last_some, some_of}
use Rattle.strm_links.proofs.lists.ListLinks.{LeadsOn-kept, LeadsBack-kept, LeadsOn-parts, LeadsBack-parts, LeadsBack-append, LeadsOn-join, LeadsBack-join}

-- ---- the walk that gives nodes another owner

-- the walk has given all of `xs` but `rest` to `list`; no link has changed
pub record Gives (old now : List Place) (list : Option ℕ) (xs rest : List ℕ) : Type 0 where
  pub owners : (k : ℕ) → (if has k rest then list else owner_at now k) ≡ (if has k xs then list else owner_at old k)
  pub nexts : (k : ℕ) → next_at now k ≡ next_at old k
  pub previous : (k : ℕ) → previous_at now k ≡ previous_at old k
  pub within : (k : ℕ) → has k rest ≡ true → k < length now
  pub len : length now ≡ length old

-- at first it has given none
pub Gives-start : (places : List Place) (list : Option ℕ) (n : ℕ) (at : Option ℕ) → ((k : ℕ) → has k (walk (next_at places) n at) ≡ true → k < length places) → Gives places places list (walk (next_at places) n at) (walk (next_at places) (n - 0) at)
Gives-start places list n at within =
    let all : n - 0 ≡ n = omega arith in
    rw all
    (record {
      owners = λ k. refl;
      nexts = λ k. refl;
      previous = λ k. refl;
      within = within;
      len = refl;
    })

-- the walk gives away one more node
pub Gives-more : {old now : List Place} {list : Option ℕ} {xs : List ℕ} (rest : List ℕ) (n : ℕ) (x : Place) → Gives old now list xs (n ∷ rest)
    → x.list ≡ list → x.next ≡ next_at now n → x.previous ≡ previous_at now n → Gives old (set now n x) list xs rest
Gives-more {now} rest n x gives owner next previous =
    let here : place_at (set now n x) n ≡ x = get_or-set_same now n x no_place (gives.within n (has_head n n rest refl)) in
    let away : (k : ℕ) → k ≢ n → place_at (set now n x) k ≡ place_at now k = λ k. get_or-set_other now n k x no_place in
    record {
      owners = λ k. grind (arith, nat_tests, here, away k, owner, gives.owners k);
      nexts = λ k. grind (arith, nat_tests, here, away k, next, gives.nexts k);
      previous = λ k. grind (arith, nat_tests, here, away k, previous, gives.previous k);
      within = λ k there. omega (arith, gives.within k (has_tail n k rest there), length-set now n x);
      len = length-set now n x ∙ gives.len;
    }

-- a walk from none finds nothing
walk_none : (next : ℕ → Option ℕ) (m : ℕ) → walk next m None ≡ []
walk_none next zero = refl
walk_none next (suc m) = refl

-- the loop's step where the walk is at a node
pub Gives-some : {old now later : List Place} {list : Option ℕ} {xs : List ℕ} {left : ℕ} (m : ℕ) {n : ℕ} {at onward : Option ℕ} (x : Place) → Gives old now list xs (walk (next_at old) left at)
    → left ≡ suc m → at ≡ Some n → (n < length now → x ≡ place_at now n) → later ≡ set now n (record x { list = list }) → onward ≡ x.next
    → Gives old later list xs (walk (next_at old) m onward)
Gives-some {old} {now} {later} {list} {xs} m {n} {at} x gives count is read write on =
    let here : Gives old now list xs (n ∷ walk (next_at old) m (next_at old n)) = rw (count, is) at gives in
    let known : x ≡ place_at now n = read (here.within n (has_head n n _ refl)) in
    let next : x.next ≡ next_at now n = ap (λ (y : Place). y.next) known in
    subst (λ o. Gives old later list xs (walk (next_at old) m o)) (sym (on ∙ next ∙ gives.nexts n))
    (rw write (Gives-more (walk (next_at old) m (next_at old n)) n (record x { list = list }) here refl next (ap (λ (y : Place). y.previous) known)))

-- the loop's step where the walk is over
pub Gives-none : {old now later : List Place} {list : Option ℕ} {xs : List ℕ} (left m : ℕ) {at onward : Option ℕ} → Gives old now list xs (walk (next_at old) left at)
    → at ≡ None → later ≡ now → onward ≡ at → Gives old later list xs (walk (next_at old) m onward)
Gives-none {old} left m {at} {onward} gives is same on =
    let nothing : walk (next_at old) left at ≡ walk (next_at old) m onward = ap (walk (next_at old) left) is ∙ walk_none (next_at old) left ∙ sym (ap (walk (next_at old) m) (on ∙ is) ∙ walk_none (next_at old) m) in
    rw (same, ← nothing) gives

-- ---- what the writes make of the nodes

-- only node n has changed, and is x
pub record Puts (nodes mid : List Place) (n : ℕ) (x : Place) : Type 0 where
  pub here : place_at mid n ≡ x
  pub others : (k : ℕ) → n ≢ k → place_at mid k ≡ place_at nodes k

-- `ahead` leads on to `on`, and `behind` leads back to `back`; where one is none, that end of the list changes; the rest is as before
pub record Rewires (mid new : List Place) (e e' : Ends) (ahead behind on back : Option ℕ) : Type 0 where
  pub nexts : (k : ℕ) → next_at new k ≡ (if is_some_of k ahead then on else next_at mid k)
  pub previous : (k : ℕ) → previous_at new k ≡ (if is_some_of k behind then back else previous_at mid k)
  pub owners : (k : ℕ) → owner_at new k ≡ owner_at mid k
  pub len : e'.len ≡ e.len
  pub front : e'.front ≡ (if is_none ahead then on else e.front)
  pub back_end : e'.back ≡ (if is_none behind then back else e.back)

-- the same writes, named by equal values
pub Rewires-same : {mid new : List Place} {e f e' : Ends} {ahead behind on back ahead' behind' on' back' : Option ℕ} → Rewires mid new e e' ahead behind on back
    → e ≡ f → ahead ≡ ahead' → behind ≡ behind' → on ≡ on' → back ≡ back' → Rewires mid new f e' ahead' behind' on' back'
Rewires-same {mid} {new} {e'} rewires ends first last onto to =
    subst (λ (t : Ends × Option ℕ × Option ℕ × Option ℕ × Option ℕ). Rewires mid new t.0 e' t.1 t.2 t.3 t.4) (λ i. (ends i, first i, last i, onto i, to i)) rewires

-- a write of one node changes only that node
pub Puts-set : (nodes : List Place) (n : ℕ) (x : Place) → n < length nodes → Puts nodes (set nodes n x) n x
Puts-set nodes n x within = record {
  here = get_or-set_same nodes n x no_place within;
  others = λ k other. get_or-set_other nodes n k x no_place (λ same. other (sym same));
}

module _ (places : List Place) (at to : Option ℕ) (k : ℕ) (within : (j : ℕ) → at ≡ Some j → j < length places) where
  -- where the writes of `set_next` and `set_previous` lead
  next-with_next : next_at (with_next at to places) k ≡ (if is_some_of k at then to else next_at places k)
  next-with_next = in_place at within
    where
      in_place : (o : Option ℕ) → ((j : ℕ) → o ≡ Some j → j < length places) → next_at (with_next o to places) k ≡ (if is_some_of k o then to else next_at places k)
      in_place None low = refl
      in_place (Some j) low = grind (arith, nat_tests, low j refl, get_or-set_same places j (record (place_at places j) { next = to }) no_place, get_or-set_other places j k (record (place_at places j) { next = to }) no_place)

  previous-with_previous : previous_at (with_previous at to places) k ≡ (if is_some_of k at then to else previous_at places k)
  previous-with_previous = in_place at within
    where
      in_place : (o : Option ℕ) → ((j : ℕ) → o ≡ Some j → j < length places) → previous_at (with_previous o to places) k ≡ (if is_some_of k o then to else previous_at places k)
      in_place None low = refl
      in_place (Some j) low =
          grind (arith, nat_tests, low j refl, get_or-set_same places j (record (place_at places j) { previous = to }) no_place, get_or-set_other places j k (record (place_at places j) { previous = to }) no_place)

-- a write that a function of the place does not tell leaves it
untold : {X : Type 0} (f : Place → X) (places : List Place) (j : ℕ) (x : Place) (k : ℕ) → f x ≡ f (place_at places j) → f (place_at (set places j x) k) ≡ f (place_at places k)
untold f places j x k same = sym (get_or-map f (set places j x) k no_place) ∙ ap (λ ys. get_or ys k (f no_place)) (map-set_same f places j x no_place same) ∙ get_or-map f places k no_place

length-with_next : (at to : Option ℕ) (places : List Place) → length (with_next at to places) ≡ length places
length-with_next None to places = refl
length-with_next (Some j) to places = length-set places j (record (place_at places j) { next = to })

-- these writes leave as many places
pub length-written : (places : List Place) (ahead behind on back : Option ℕ) → length (with_previous behind back (with_next ahead on places)) ≡ length places
length-written places ahead None on back = length-with_next ahead on places
length-written places ahead (Some j) on back = length-set (with_next ahead on places) j (record (place_at (with_next ahead on places) j) { previous = back }) ∙ length-with_next ahead on places

-- `set_next`, then `set_previous`
pub Rewires-both : (mid : List Place) (e e1 e2 : Ends) (ahead behind on back : Option ℕ) → ((k : ℕ) → ahead ≡ Some k → k < length mid) → ((k : ℕ) → behind ≡ Some k → k < length mid)
    → e1 ≡ record e { front = (if is_none ahead then on else e.front) } → e2 ≡ record e1 { back = (if is_none behind then back else e1.back) }
    → Rewires mid (with_previous behind back (with_next ahead on mid)) e e2 ahead behind on back
Rewires-both mid e e1 e2 ahead behind on back low_ahead low_behind ends ends2 = record {
  nexts = λ k. same_next behind (with_next ahead on mid) k ∙ next-with_next mid ahead on k low_ahead;
  previous = λ k. previous-with_previous (with_next ahead on mid) behind back k (λ j is. omega (arith, low_behind j is, length-with_next ahead on mid)) ∙ ap (λ o. if is_some_of k behind then back else o) (same_previous ahead mid k);
  owners = λ k. same_owner behind (with_next ahead on mid) k ∙ owner-with_next ahead mid k;
  len = ap (λ (x : Ends). x.len) ends2 ∙ ap (λ (x : Ends). x.len) ends;
  front = ap (λ (x : Ends). x.front) ends2 ∙ ap (λ (x : Ends). x.front) ends;
  back_end = ap (λ (x : Ends). x.back) ends2 ∙ ap (λ (x : Ends). if is_none behind then back else x.back) ends;
}
  where
    same_next : (at : Option ℕ) (places : List Place) (k : ℕ) → next_at (with_previous at back places) k ≡ next_at places k
    same_next None places k = refl
    same_next (Some j) places k = untold (λ p. p.next) places j (record (place_at places j) { previous = back }) k refl

    same_owner : (at : Option ℕ) (places : List Place) (k : ℕ) → owner_at (with_previous at back places) k ≡ owner_at places k
    same_owner None places k = refl
    same_owner (Some j) places k = untold (λ p. p.list) places j (record (place_at places j) { previous = back }) k refl

    same_previous : (at : Option ℕ) (places : List Place) (k : ℕ) → previous_at (with_next at on places) k ≡ previous_at places k
    same_previous None places k = refl
    same_previous (Some j) places k = untold (λ p. p.previous) places j (record (place_at places j) { next = on }) k refl

    owner-with_next : (at : Option ℕ) (places : List Place) (k : ℕ) → owner_at (with_next at on places) k ≡ owner_at places k
    owner-with_next None places k = refl
    owner-with_next (Some j) places k = untold (λ p. p.list) places j (record (place_at places j) { next = on }) k refl

-- these nodes and ends link the list l
abbrev Linked : List Place → Ends → ℕ → List ℕ → Type 0
Linked nodes e l xs = IsLinked (owner_at nodes) (previous_at nodes) (next_at nodes) e l xs

-- a list stays linked if its nodes keep their links and it neither gains nor loses a node
Linked-kept : (nodes new : List Place) {e : Ends} {m : ℕ} {xs : List ℕ} → Linked nodes e m xs
    → ((k : ℕ) → has k xs ≡ true → next_at new k ≡ next_at nodes k)
    → ((k : ℕ) → has k xs ≡ true → previous_at new k ≡ previous_at nodes k)
    → ((k : ℕ) → is_some_of m (owner_at new k) ≡ is_some_of m (owner_at nodes k))
    → Linked new e m xs
Linked-kept nodes new {xs} was nexts previous owners = record {
  len = was.len;
  front = was.front;
  back = was.back;
  leads_on = LeadsOn-kept (next_at nodes) (next_at new) xs None nexts was.leads_on;
  leads_back = LeadsBack-kept (previous_at nodes) (previous_at new) None xs previous was.leads_back;
  apart = was.apart;
  owned = λ k. was.owned k ∙ sym (owners k);
}

-- the stored ends and the list at m, once list l is `ys`
Linked-set : (new : List Place) (ends : List Ends) (lists : List (List ℕ)) (l m : ℕ) (e : Ends) (ys : List ℕ) → m < length ends → m < length lists → Linked new e l ys → (m ≢ l → Linked new (ends_at ends m) m (get_or lists m [])) → Linked new (ends_at (set ends l e) m) m (get_or (set lists l ys) m [])
Linked-set new ends lists l m e ys in_ends in_lists here others =
    elim (cases_eq l m) [
      | inl same ↦
          subst (λ j. Linked new (ends_at (set ends l e) j) j (get_or (set lists l ys) j [])) same
          (rw (get_or-set_same ends l e no_ends (omega (arith, same)), get_or-set_same lists l ys [] (omega (arith, same))) here)
      | inr other ↦
          let away : m ≢ l = λ is. other (sym is) in
          rw (get_or-set_other ends l m e no_ends away, get_or-set_other lists l m ys [] away) (others away)
    ]

-- a list without the node that has changed leads on, and back, as before
module _ {nodes mid : List Place} {n : ℕ} {x : Place} (puts : Puts nodes mid n x) (xs : List ℕ) (off : has n xs ≡ false) where
  leads_on_as : (beyond : Option ℕ) → LeadsOn (next_at nodes) xs beyond → LeadsOn (next_at mid) xs beyond
  leads_on_as beyond = LeadsOn-kept (next_at nodes) (next_at mid) xs beyond (λ k there. ap (λ (m : Place). m.next) (puts.others k (differ n k xs off there)))

  leads_back_as : (ahead : Option ℕ) → LeadsBack (previous_at nodes) ahead xs → LeadsBack (previous_at mid) ahead xs
  leads_back_as ahead = LeadsBack-kept (previous_at nodes) (previous_at mid) ahead xs (λ k there. ap (λ (m : Place). m.previous) (puts.others k (differ n k xs off there)))

-- ---- a node joins a list

module _ {nodes mid new : List Place} {n l : ℕ} (pre post : List ℕ) {e e' : Ends} where
  -- a node between two parts that name it is in the list
  Linked-insert : Puts nodes mid n (record { list = Some l; previous = last pre; next = first post })
      → Rewires mid new e e' (last pre) (first post) (Some n) (Some n)
      → Linked nodes e l (pre ++ post) → owner_at nodes n ≡ None
      → Linked new (record e' { len = e'.len + 1 }) l (pre ++ n ∷ post)
  Linked-insert puts rewires was free =
      let absent : has n (pre ++ post) ≡ false = was.owned n ∙ ap (is_some_of l) free in
      let off = absent_both n pre post absent in
      let apart = IsApart-insert pre post n was.apart absent in
      let on = LeadsOn-parts (next_at nodes) pre post None was.leads_on in
      let back = LeadsBack-parts (previous_at nodes) None pre post was.leads_back in
      let joined : (pre ++ n ∷ []) ++ post ≡ pre ++ n ∷ post = append_assoc pre (n ∷ []) post in
      record {
        len = omega (arith, rewires.len, was.len, length-append pre post, length-append pre (n ∷ post));
        front = rewires.front ∙ ap (λ o. if is_none (last pre) then Some n else o) was.front ∙ sym (first_joined pre post (n ∷ post));
        back = rewires.back_end
            ∙ ap (λ o. if is_none (first post) then Some n else o) was.back
            ∙ ap (λ o. if is_none (first post) then o else last (pre ++ post)) (sym (last_or-append None pre (n ∷ [])))
            ∙ sym (last_joined post pre (pre ++ n ∷ []))
            ∙ ap last joined;
        leads_on = LeadsOn-join (next_at mid) (next_at new) pre (n ∷ post) (first post)
            (leads_on_as puts pre off.0 _ on.0)
            (ap (λ (m : Place). m.next) puts.here, leads_on_as puts post off.1 _ on.1)
            (IsApart-parts pre (n ∷ post) apart)
            rewires.nexts;
        leads_back = subst (LeadsBack (previous_at new) None) joined
            (LeadsBack-join (previous_at mid) (previous_at new) None (last pre) (pre ++ n ∷ []) post
            (LeadsBack-append (previous_at mid) None pre (n ∷ [])
            (leads_back_as puts pre off.0 _ back.0)
            (ap (λ (m : Place). m.previous) puts.here, tt))
            (leads_back_as puts post off.1 _ back.1)
            (IsApart-parts (pre ++ n ∷ []) post (subst IsApart (sym joined) apart))
            (λ k. rewires.previous k ∙ ap (λ o. if is_some_of k (first post) then o else previous_at mid k) (sym (last_or-append None pre (n ∷ [])))));
        apart = apart;
        owned = λ k. grind (arith, nat_tests, has-around k n pre post, has_right k pre (n ∷ post), was.owned k, rewires.owners k, puts.here, puts.others k);
      }

  -- ---- a node leaves a list

  -- once the two parts around a node name each other, they are the list
  Linked-remove : Puts nodes mid n no_place → Rewires mid new e e' (last pre) (first post) (first post) (last pre)
      → Linked nodes e l (pre ++ n ∷ post)
      → Linked new (record e' { len = e'.len - 1 }) l (pre ++ post)
  Linked-remove puts rewires was =
      let off = absent_around pre post n was.apart in
      let absent : has n (pre ++ post) ≡ false = has-append n pre post ∙ or_from _ _ off.0 off.1 in
      let apart = IsApart-remove pre post n was.apart in
      let on = LeadsOn-parts (next_at nodes) pre (n ∷ post) None was.leads_on in
      let back = LeadsBack-parts (previous_at nodes) None pre (n ∷ post) was.leads_back in
      record {
        len = omega (arith, rewires.len, was.len, length-append pre post, length-append pre (n ∷ post));
        front = rewires.front ∙ ap (λ o. if is_none (last pre) then first post else o) was.front ∙ sym (first_joined pre (n ∷ post) post);
        back = rewires.back_end
            ∙ ap (λ o. if is_none (first post) then last pre else o) (was.back ∙ ap last (sym (append_assoc pre (n ∷ []) post)))
            ∙ sym (last_joined post (pre ++ n ∷ []) pre);
        leads_on = LeadsOn-join (next_at mid) (next_at new) pre post (Some n)
            (leads_on_as puts pre off.0 _ on.0)
            (leads_on_as puts post off.1 _ on.1.1)
            (IsApart-parts pre post apart)
            rewires.nexts;
        leads_back = LeadsBack-join (previous_at mid) (previous_at new) None (Some n) pre post
            (leads_back_as puts pre off.0 _ back.0)
            (leads_back_as puts post off.1 _ back.1.1)
            (IsApart-parts pre post apart)
            rewires.previous;
        apart = apart;
        owned = λ k. elim (cases_eq n k) [
          | inl same ↦ ap (λ j. has j (pre ++ post)) (sym same) ∙ absent ∙ ap (is_some_of l) (sym (rewires.owners k ∙ ap (λ j. owner_at mid j) (sym same) ∙ ap (λ (m : Place). m.list) puts.here))
          | inr other ↦ sym (has-around k n pre post other) ∙ was.owned k ∙ ap (is_some_of l) (sym (rewires.owners k ∙ ap (λ (m : Place). m.list) (puts.others k other)))
        ];
      }

-- ---- the other lists, and the free nodes

module _ {nodes mid new : List Place} {ends : List Ends} {rows : Rows} (l : ℕ) {n : ℕ} {x : Place} (pre post : List ℕ) {e e' : Ends} {on back : Option ℕ} (sound : IsSound nodes ends rows) (within : l < length rows.lists) (puts : Puts nodes mid n x) (rewires : Rewires mid new e e' (last pre) (first post) on back) (off : (has n pre ≡ false) × (has n post ≡ false)) (parts : (k : ℕ) → has k (list_at l rows) ≡ false → (has k pre ≡ false) × (has k post ≡ false)) (was : (m : ℕ) → m ≢ l → is_some_of m (owner_at nodes n) ≡ false) (is : (m : ℕ) → m ≢ l → is_some_of m x.list ≡ false) (free : x.list ≡ None → (x.next ≡ None) × (x.previous ≡ None)) where
  -- the owners after the change
  new_owner : (k : ℕ) → n ≢ k → owner_at new k ≡ owner_at nodes k
  new_owner k other = rewires.owners k ∙ ap (λ (m : Place). m.list) (puts.others k other)

  new_owner_here : owner_at new n ≡ x.list
  new_owner_here = rewires.owners n ∙ ap (λ (m : Place). m.list) puts.here

  -- a node that is not in the list keeps its next node
  new_next : (k : ℕ) → has k pre ≡ false → next_at new k ≡ next_at mid k
  new_next k absent = rewires.nexts k ∙ cond-false _ _ _ (last_off pre k absent)

  -- and its previous node
  new_previous : (k : ℕ) → has k post ≡ false → previous_at new k ≡ previous_at mid k
  new_previous k absent = rewires.previous k ∙ cond-false _ _ _ (first_off post k absent)

  -- the other lists stay linked
  others_linked : (m : ℕ) → m < length rows.lists → m ≢ l → Linked new (ends_at ends m) m (list_at m rows)
  others_linked m inside other =
      let list = sound.linked m inside in
      let apart : (k : ℕ) → has k (list_at m rows) ≡ true → (n ≢ k) × (has k (list_at l rows) ≡ false) =
      λ k there.
      let owner = sym (list.owned k) ∙ there in (
        λ same. false≢true (sym (was m other) ∙ ap (λ j. is_some_of m (owner_at nodes j)) same ∙ owner),
        (sound.linked l within).owned k ∙ ap (is_some_of l) (some_of m (owner_at nodes k) owner) ∙ ne_eqb m l other,
      ) in
      Linked-kept nodes new list
      (λ k there. let away = apart k there in new_next k (parts k away.1).0 ∙ ap (λ (x : Place). x.next) (puts.others k away.0))
      (λ k there. let away = apart k there in new_previous k (parts k away.1).1 ∙ ap (λ (x : Place). x.previous) (puts.others k away.0))
      (λ k. grind (arith, nat_tests, new_owner_here, is m other, was m other, new_owner k))

  -- a node without an owner had none before, and is not in the list
  free_off : (k : ℕ) → n ≢ k → owner_at new k ≡ None → (owner_at nodes k ≡ None) × (has k (list_at l rows) ≡ false)
  free_off k other none =
      let before = sym (new_owner k other) ∙ none in
      (before, (sound.linked l within).owned k ∙ ap (is_some_of l) before)

  -- all is sound if the list that changes is linked
  IsSound-node : (ys : List ℕ) (e'' : Ends) → length new ≡ length nodes → Linked new e'' l ys → IsSound new (set ends l e'') (record rows { lists = set rows.lists l ys })
  IsSound-node ys e'' long here = record {
    node_count = long ∙ sound.node_count;
    list_count = length-set ends l e'' ∙ sound.list_count ∙ sym (length-set rows.lists l ys);
    few_nodes = sound.few_nodes;
    few_lists = omega (arith, sound.few_lists, length-set rows.lists l ys);
    known = λ k m owner.
        let low : m < length rows.lists = grind (arith, nat_tests, is m, new_owner_here, new_owner k, sound.known k m) in
        omega (arith, low, length-set rows.lists l ys);
    free_next = λ k none. grind (arith, nat_tests, new_next n off.0, puts.here, free, new_owner_here, free_off k, parts k, new_next k, puts.others k, sound.free_next k);
    free_previous = λ k none. grind (arith, nat_tests, new_previous n off.1, puts.here, free, new_owner_here, free_off k, parts k, new_previous k, puts.others k, sound.free_previous k);
    linked = λ m inside.
        let low : m < length rows.lists = omega (arith, inside, length-set rows.lists l ys) in
        Linked-set new ends rows.lists l m e'' ys (omega (arith, low, sound.list_count)) low here (λ other. others_linked m low other);
  }

module _ {nodes mid new : List Place} {ends : List Ends} {rows : Rows} (l : ℕ) {n : ℕ} (pre post : List ℕ) {e' : Ends} (sound : IsSound nodes ends rows) (within : l < length rows.lists) (long : length new ≡ length nodes) where
  -- all is sound after a free node joins
  pub IsSound-insert : owner_at nodes n ≡ None → list_at l rows ≡ pre ++ post
      → Puts nodes mid n (record { list = Some l; previous = last pre; next = first post })
      → Rewires mid new (ends_at ends l) e' (last pre) (first post) (Some n) (Some n)
      → IsSound new (set ends l (record e' { len = e'.len + 1 })) (record rows { lists = set rows.lists l (pre ++ n ∷ post) })
  IsSound-insert free split puts rewires =
      let list : Linked nodes (ends_at ends l) l (pre ++ post) = subst (Linked nodes (ends_at ends l) l) split (sound.linked l within) in
      IsSound-node l pre post sound within puts rewires
      (absent_both n pre post (list.owned n ∙ ap (is_some_of l) free))
      (λ k absent. absent_both k pre post (ap (has k) (sym split) ∙ absent))
      (λ m other. ap (is_some_of m) free)
      (λ m other. ne_eqb l m (λ same. other (sym same)))
      (λ none. absurd (none-some l (sym none)))
      (pre ++ n ∷ post) (record e' { len = e'.len + 1 }) long
      (Linked-insert pre post puts rewires list free)

  -- all is sound after a node leaves
  pub IsSound-remove : list_at l rows ≡ pre ++ n ∷ post → Puts nodes mid n no_place
      → Rewires mid new (ends_at ends l) e' (last pre) (first post) (first post) (last pre)
      → IsSound new (set ends l (record e' { len = e'.len - 1 })) (record rows { lists = set rows.lists l (pre ++ post) })
  IsSound-remove split puts rewires =
      let list : Linked nodes (ends_at ends l) l (pre ++ n ∷ post) = subst (Linked nodes (ends_at ends l) l) split (sound.linked l within) in
      let owner : owner_at nodes n ≡ Some l = some_of l (owner_at nodes n) (sym (list.owned n) ∙ has_right n pre (n ∷ post) (has_head n n post refl)) in
      IsSound-node l pre post sound within puts rewires
      (absent_around pre post n list.apart)
      (λ k absent. let both = absent_both k pre (n ∷ post) (ap (has k) (sym split) ∙ absent) in (both.0, (absent_parts n k post both.1).1))
      (λ m other. ap (is_some_of m) owner ∙ ne_eqb l m (λ same. other (sym same)))
      (λ m other. refl)
      (λ none. (refl, refl))
      (pre ++ post) (record e' { len = e'.len - 1 }) long
      (Linked-remove pre post puts rewires list)

-- ---- a list joins another

-- the back of two lists is that of the second, or of the first if the second is empty
last-append : (xs ys : List ℕ) → (if is_none (last ys) then last xs else last ys) ≡ last (xs ++ ys)
last-append xs [] = ap last (sym (append-nil xs))
last-append xs (y ∷ ys) = cond-false _ _ _ (last_some y ys) ∙ sym (last_or-append None xs (y ∷ ys))

module _ (nodes mid new : List Place) (ends : List Ends) {rows : Rows} {to : ℕ} (from : ℕ) {e' : Ends} (back : Option ℕ) (sound : IsSound nodes ends rows) (to_within : to < length rows.lists) (from_within : from < length rows.lists) (other : to ≢ from) (gives : Gives nodes mid (Some to) (list_at from rows) []) (rewires : Rewires mid new (ends_at ends to) e' (last (list_at to rows)) (first (list_at from rows)) (first (list_at from rows)) (last (list_at to rows))) where
  -- the owners after the change
  moved_owner : (k : ℕ) → has k (list_at from rows) ≡ true → owner_at new k ≡ Some to
  moved_owner k there = rewires.owners k ∙ gives.owners k ∙ cond-true _ _ _ there

  same_owner : (k : ℕ) → has k (list_at from rows) ≡ false → owner_at new k ≡ owner_at nodes k
  same_owner k absent = rewires.owners k ∙ gives.owners k ∙ cond-false _ _ _ absent

  -- a node that is not in the list `to` keeps its next node
  far_next : (k : ℕ) → has k (list_at to rows) ≡ false → next_at new k ≡ next_at nodes k
  far_next k absent = rewires.nexts k ∙ cond-false _ _ _ (last_off (list_at to rows) k absent) ∙ gives.nexts k

  -- a node that is not in the list `from` keeps its previous node
  far_previous : (k : ℕ) → has k (list_at from rows) ≡ false → previous_at new k ≡ previous_at nodes k
  far_previous k absent = rewires.previous k ∙ cond-false _ _ _ (first_off (list_at from rows) k absent) ∙ gives.previous k

  -- the joined list is linked
  Linked-append : back ≡ (if is_none (last (list_at from rows)) then last (list_at to rows) else last (list_at from rows)) → Linked new (record { len = e'.len + (ends_at ends from).len; front = e'.front; back = back }) to (list_at to rows ++ list_at from rows)
  Linked-append back_is =
      let xs = list_at to rows in
      let ys = list_at from rows in
      let head = sound.linked to to_within in
      let tail = sound.linked from from_within in
      let parts : ApartParts xs ys = record {
        left = head.apart;
        right = tail.apart;
        cross = λ k there.
            tail.owned k ∙ ap (is_some_of from) (some_of to (owner_at nodes k) (sym (head.owned k) ∙ there)) ∙ ne_eqb to from other;
      } in
      record {
        len = omega (arith, rewires.len, head.len, tail.len, length-append xs ys);
        front = rewires.front ∙ ap (λ o. if is_none (last xs) then first ys else o) (head.front ∙ ap first (sym (append-nil xs))) ∙ sym (first_joined xs [] ys);
        back = back_is ∙ last-append xs ys;
        leads_on = LeadsOn-join (next_at nodes) (next_at new) xs ys None head.leads_on tail.leads_on parts
            (λ k. rewires.nexts k ∙ ap (λ o. if is_some_of k (last xs) then first ys else o) (gives.nexts k));
        leads_back = LeadsBack-join (previous_at nodes) (previous_at new) None None xs ys head.leads_back tail.leads_back parts
            (λ k. rewires.previous k ∙ ap (λ o. if is_some_of k (first ys) then last xs else o) (gives.previous k));
        apart = IsApart-append xs ys parts;
        owned = λ k. grind (arith, nat_tests, has-append k xs ys, moved_owner k, same_owner k, head.owned k);
      }

  -- the list that has left is empty
  Linked-empty : Linked new no_ends from []
  Linked-empty = record {
    len = refl;
    front = refl;
    back = refl;
    leads_on = tt;
    leads_back = tt;
    apart = tt;
    owned = λ k. grind (arith, nat_tests, other, moved_owner k, same_owner k, (sound.linked from from_within).owned k);
  }

  -- every other list stays linked
  far_linked : (m : ℕ) → m < length rows.lists → m ≢ to → m ≢ from → Linked new (ends_at ends m) m (list_at m rows)
  far_linked m inside not_to not_from =
      let list = sound.linked m inside in
      let off : (l : ℕ) → l < length rows.lists → m ≢ l → (k : ℕ) → has k (list_at m rows) ≡ true → has k (list_at l rows) ≡ false =
      λ l low differs k there.
      (sound.linked l low).owned k ∙ ap (is_some_of l) (some_of m (owner_at nodes k) (sym (list.owned k) ∙ there)) ∙ ne_eqb m l differs in
      Linked-kept nodes new list
      (λ k there. far_next k (off to to_within not_to k there))
      (λ k there. far_previous k (off from from_within not_from k there))
      (λ k. grind (arith, nat_tests, not_to, not_from, moved_owner k, same_owner k, (sound.linked from from_within).owned k))

  -- a node without an owner had none before, and is in neither list
  far_free : (k : ℕ) → owner_at new k ≡ None → (owner_at nodes k ≡ None) × (has k (list_at to rows) ≡ false) × (has k (list_at from rows) ≡ false)
  far_free k none =
      elim (cases_Bool (has k (list_at from rows))) [
        | inl there ↦ absurd (none-some to (sym none ∙ moved_owner k there))
        | inr absent ↦
            let before = sym (same_owner k absent) ∙ none in
            (before, (sound.linked to to_within).owned k ∙ ap (is_some_of to) before, absent)
      ]

  -- all is sound after one list has joined another
  pub IsSound-append : length new ≡ length nodes → back ≡ (if is_none (last (list_at from rows)) then last (list_at to rows) else last (list_at from rows))
      → IsSound new (set (set ends to (record { len = e'.len + (ends_at ends from).len; front = e'.front; back = back })) from no_ends) (record rows { lists = set (set rows.lists to (list_at to rows ++ list_at from rows)) from [] })
  IsSound-append long back_is =
      let joined = list_at to rows ++ list_at from rows in
      let e : Ends = record { len = e'.len + (ends_at ends from).len; front = e'.front; back = back } in
      let ends_long : length (set ends to e) ≡ length ends = length-set ends to e in
      let lists_long : length (set rows.lists to joined) ≡ length rows.lists = length-set rows.lists to joined in
      let all_long : length (set (set rows.lists to joined) from []) ≡ length rows.lists = length-set (set rows.lists to joined) from [] ∙ lists_long in
      record {
        node_count = long ∙ sound.node_count;
        list_count = length-set (set ends to e) from no_ends ∙ ends_long ∙ sound.list_count ∙ sym all_long;
        few_nodes = sound.few_nodes;
        few_lists = omega (arith, sound.few_lists, all_long);
        known = λ k m owner.
            let low : m < length rows.lists = grind (arith, nat_tests, moved_owner k, same_owner k, sound.known k m) in
            omega (arith, low, all_long);
        free_next = λ k none. let far = far_free k none in far_next k far.1 ∙ sound.free_next k far.0;
        free_previous = λ k none. let far = far_free k none in far_previous k far.2 ∙ sound.free_previous k far.0;
        linked = λ m inside.
            let low : m < length rows.lists = omega (arith, inside, all_long) in
            Linked-set new (set ends to e) (set rows.lists to joined) from m no_ends [] (omega (arith, low, ends_long, sound.list_count)) (omega (arith, low, lists_long)) Linked-empty
            (λ not_from.
            Linked-set new ends rows.lists to m e joined (omega (arith, low, sound.list_count)) low (Linked-append back_is)
            (λ not_to. far_linked m low not_to not_from));
      }
