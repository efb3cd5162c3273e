-- The links of one list: how they read it, and how they are kept, split, joined and ended elsewhere. Callers cite these lemmas too.
use Rattle.std.proofs.Common.{◌≡◌, ℕ, true, arith, List, [], ◌∷◌, ◌++◌, length, reverse, Option, Some, None, if◌then◌else◌, refl, sym, ap, ◌∙◌, subst, ◌≢◌, zero, suc, ◌<◌, false, get_or, take, drop, IsSome, is_some, append_assoc}
use Rattle.std.specs.Prelude.{is_none}
use Rattle.std.proofs.lemmas.Bool.{cond-true, cond-false, eq-eqb, ne_eqb, false≢true}
use Rattle.std.proofs.lemmas.Bool.Decides.{nat_tests}
use Rattle.std.proofs.lemmas.List.{append-nil, append_assoc, reverse-append}
use Rattle.std.proofs.lemmas.Option.{none-some, same_Some}
use Rattle.strm_links.specs.Rows.{IsApart, has, is_some_of, first_or, last_or, first, last, after, before, before_from, Reads}
use Rattle.strm_links.specs.Layout.{walk, onward, LeadsOn, LeadsBack}
use Rattle.strm_links.proofs.lists.OneList.{absent_around, after-at, before-at, has_head, has_tail, differ, ApartParts, first_or-append, first_off, last_off, last_or-append, absent_from, first_has, has_at, is_some_of-same, last_has, last_joined}

-- ---- what the links say

-- the walk along the links finds the list
pub walk_is : (next : ℕ → Option ℕ) (xs : List ℕ) (b : Option ℕ) → LeadsOn next xs b → walk next (length xs) (first_or b xs) ≡ xs
walk_is next [] b leads = refl
walk_is next (x ∷ xs) b leads = ap (λ ys. x ∷ ys) (ap (walk next (length xs)) leads.0 ∙ walk_is next xs b leads.1)

-- the link of a node leads to the one after it
pub next_is : (next : ℕ → Option ℕ) (xs : List ℕ) (k : ℕ) → LeadsOn next xs None → has k xs ≡ true → next k ≡ after k xs
next_is next [] k leads found = absurd (false≢true found)
next_is next (x ∷ xs) k leads found = grind (arith, nat_tests, next_is next xs k leads.1)

-- the link back of a node leads to the one before it
pub previous_is : (previous : ℕ → Option ℕ) (ahead : Option ℕ) (xs : List ℕ) (k : ℕ) → LeadsBack previous ahead xs → has k xs ≡ true → previous k ≡ before_from ahead k xs
previous_is previous ahead [] k leads found = absurd (false≢true found)
previous_is previous ahead (x ∷ xs) k leads found = grind (arith, nat_tests, previous_is previous (Some x) xs k leads.1)

-- following the links reads the list, forwards and backwards
pub Reads-on : (step : ℕ → Option ℕ) (xs : List ℕ) → LeadsOn step xs None → Reads step (first xs) xs
Reads-on step [] leads = refl
Reads-on step (x ∷ xs) leads = (refl, subst (λ at. Reads step at xs) (sym leads.0) (Reads-on step xs leads.1))

pub Reads-back : (step : ℕ → Option ℕ) (ahead : Option ℕ) (xs ys : List ℕ) → LeadsBack step ahead xs → Reads step ahead ys → Reads step (last_or ahead xs) (reverse xs ++ ys)
Reads-back step ahead [] ys leads reads = reads
Reads-back step ahead (x ∷ xs) ys leads reads =
    subst (Reads step (last_or (Some x) xs)) (sym (ap (λ zs. zs ++ ys) (reverse-append (x ∷ []) xs) ∙ append_assoc (reverse xs) (x ∷ []) ys))
    (Reads-back step (Some x) xs (x ∷ ys) leads.1 (refl, subst (λ at. Reads step at ys) (sym leads.0) reads))

-- ---- links that are kept

-- links that do not change on the nodes of a list link it as before
pub LeadsOn-kept : (next new : ℕ → Option ℕ) (xs : List ℕ) (b : Option ℕ) → ((k : ℕ) → has k xs ≡ true → new k ≡ next k) → LeadsOn next xs b → LeadsOn new xs b
LeadsOn-kept next new [] b same leads = tt
LeadsOn-kept next new (x ∷ xs) b same leads = (same x (has_head x x xs refl) ∙ leads.0, LeadsOn-kept next new xs b (λ k there. same k (has_tail x k xs there)) leads.1)

-- the same of the links back
pub LeadsBack-kept : (previous new : ℕ → Option ℕ) (ahead : Option ℕ) (xs : List ℕ) → ((k : ℕ) → has k xs ≡ true → new k ≡ previous k) → LeadsBack previous ahead xs → LeadsBack new ahead xs
LeadsBack-kept previous new ahead [] same leads = tt
LeadsBack-kept previous new ahead (x ∷ xs) same leads = (same x (has_head x x xs refl) ∙ leads.0, LeadsBack-kept previous new (Some x) xs (λ k there. same k (has_tail x k xs there)) leads.1)

-- ---- links of two parts

-- the links of a list link both of its parts
pub LeadsOn-parts : (next : ℕ → Option ℕ) (pre post : List ℕ) (b : Option ℕ) → LeadsOn next (pre ++ post) b → LeadsOn next pre (first_or b post) × LeadsOn next post b
LeadsOn-parts next [] post b leads = (tt, leads)
LeadsOn-parts next (x ∷ xs) post b leads = let rest = LeadsOn-parts next xs post b leads.1 in ((leads.0 ∙ first_or-append b xs post, rest.0), rest.1)

-- the same of the links back
pub LeadsBack-parts : (previous : ℕ → Option ℕ) (ahead : Option ℕ) (pre post : List ℕ) → LeadsBack previous ahead (pre ++ post) → LeadsBack previous ahead pre × LeadsBack previous (last_or ahead pre) post
LeadsBack-parts previous ahead [] post leads = (tt, leads)
LeadsBack-parts previous ahead (x ∷ xs) post leads = let rest = LeadsBack-parts previous (Some x) xs post leads.1 in ((leads.0, rest.0), rest.1)

-- two parts that are linked back are one list
pub LeadsBack-append : (previous : ℕ → Option ℕ) (ahead : Option ℕ) (pre post : List ℕ) → LeadsBack previous ahead pre → LeadsBack previous (last_or ahead pre) post → LeadsBack previous ahead (pre ++ post)
LeadsBack-append previous ahead [] post left right = right
LeadsBack-append previous ahead (x ∷ xs) post left right = (left.0, LeadsBack-append previous (Some x) xs post left.1 right)

-- once the last of one part leads on to the first of the other, the two are one list
pub LeadsOn-join : (next new : ℕ → Option ℕ) (pre post : List ℕ) (b : Option ℕ) → LeadsOn next pre b → LeadsOn next post None → ApartParts pre post → ((k : ℕ) → new k ≡ (if is_some_of k (last pre) then first post else next k)) → LeadsOn new (pre ++ post) None
LeadsOn-join next new [] post b left right parts writes = LeadsOn-kept next new post None (λ k there. writes k) right
LeadsOn-join next new (x ∷ []) post b left right parts writes = (
  writes x ∙ cond-true _ _ _ (eq-eqb x x refl),
  LeadsOn-kept next new post None (λ k there. writes k ∙ cond-false _ _ _ (ne_eqb x k (differ x k post (parts.cross x (has_head x x [] refl)) there))) right,
)
LeadsOn-join next new (x ∷ y ∷ ys) post b left right parts writes = (
  writes x ∙ cond-false _ _ _ (last_off (y ∷ ys) x parts.left.0) ∙ left.0,
  LeadsOn-join next new (y ∷ ys) post b left.1 right
      (record { left = parts.left.1; right = parts.right; cross = λ k there. parts.cross k (has_tail x k (y ∷ ys) there) })
      writes,
)

-- once the first of one part leads back to the last of the other, the two are one list
pub LeadsBack-join : (previous new : ℕ → Option ℕ) (ahead b : Option ℕ) (pre post : List ℕ) → LeadsBack previous ahead pre → LeadsBack previous b post → ApartParts pre post → ((k : ℕ) → new k ≡ (if is_some_of k (first post) then last_or ahead pre else previous k)) → LeadsBack new ahead (pre ++ post)
LeadsBack-join previous new ahead b [] [] left right parts writes = tt
LeadsBack-join previous new ahead b [] (y ∷ ys) left right parts writes = (
  writes y ∙ cond-true _ _ _ (eq-eqb y y refl),
  LeadsBack-kept previous new (Some y) ys (λ k there. writes k ∙ cond-false _ _ _ (ne_eqb y k (differ y k ys parts.right.0 there))) right.1,
)
LeadsBack-join previous new ahead b (x ∷ xs) post left right parts writes = (
  writes x ∙ cond-false _ _ _ (first_off post x (parts.cross x (has_head x x xs refl))) ∙ left.0,
  LeadsBack-join previous new (Some x) b xs post left.1 right
      (record { left = parts.left.1; right = parts.right; cross = λ k there. parts.cross k (has_tail x k xs there) })
      writes,
)

-- ---- a list with no node twice, read by `after` and `before`

after_leads : (pre xs : List ℕ) → IsApart (pre ++ xs) → LeadsOn (λ k. after k (pre ++ xs)) xs None
after_leads pre [] apart = tt
after_leads pre (x ∷ xs) apart = (
  after-at pre xs x (absent_around pre xs x apart).0,
  subst (λ l. LeadsOn (λ k. after k l) xs None) (append_assoc pre (x ∷ []) xs) (after_leads (pre ++ x ∷ []) xs (subst IsApart (sym (append_assoc pre (x ∷ []) xs)) apart)),
)

before_leads : (pre xs : List ℕ) → IsApart (pre ++ xs) → LeadsBack (λ k. before k (pre ++ xs)) (last pre) xs
before_leads pre [] apart = tt
before_leads pre (x ∷ xs) apart = (
  before-at pre xs x (absent_around pre xs x apart).0,
  subst (λ l. LeadsBack (λ k. before k l) (Some x) xs) (append_assoc pre (x ∷ []) xs)
      (subst (λ o. LeadsBack (λ k. before k ((pre ++ x ∷ []) ++ xs)) o xs) (last_or-append None pre (x ∷ []))
      (before_leads (pre ++ x ∷ []) xs (subst IsApart (sym (append_assoc pre (x ∷ []) xs)) apart))),
)

-- `after` from the first node reads the list
pub Reads-after : (xs : List ℕ) → IsApart xs → Reads (λ k. after k xs) (first xs) xs
Reads-after xs apart = Reads-on (λ k. after k xs) xs (after_leads [] xs apart)

-- `before` from the last node reads its reverse
pub Reads-before : (xs : List ℕ) → IsApart xs → Reads (λ k. before k xs) (last xs) (reverse xs)
Reads-before xs apart =
    subst (Reads (λ k. before k xs) (last xs)) (append-nil (reverse xs)) (Reads-back (λ k. before k xs) None xs [] (before_leads [] xs apart) refl)

-- ---- the ends of a list

pub has_first : (xs : List ℕ) (k : ℕ) → first xs ≡ Some k → has k xs ≡ true
has_first xs k is = first_has xs k (is_some_of-same k (first xs) is)

pub has_last : (xs : List ℕ) (k : ℕ) → last xs ≡ Some k → has k xs ≡ true
has_last xs k is = last_has xs k (is_some_of-same k (last xs) is)

-- the last of the first i + 1 nodes
pub last-take : (xs : List ℕ) (i : ℕ) → i < length xs → last (take (suc i) xs) ≡ Some (get_or xs i 0)
last-take [] i within = absurd (omega arith)
last-take (x ∷ xs) zero within = refl
last-take (x ∷ []) (suc i) within = absurd (omega arith)
last-take (x ∷ y ∷ ys) (suc i) within = last-take (y ∷ ys) i (omega arith)

-- the first of them
pub first-take : (xs : List ℕ) (i : ℕ) → first (take (suc i) xs) ≡ first xs
first-take [] i = refl
first-take (x ∷ xs) i = refl

-- the node at a place is not before that place
pub absent_take : (xs : List ℕ) (i : ℕ) → IsApart xs → i < length xs → has (get_or xs i 0) (take i xs) ≡ false
absent_take [] i apart within = absurd (omega arith)
absent_take (x ∷ xs) zero apart within = refl
absent_take (x ∷ xs) (suc i) apart within =
    absent_from x (get_or xs i 0) (take i xs) (differ x (get_or xs i 0) xs apart.0 (has_at xs i 0 (omega arith))) (absent_take xs i apart.1 (omega arith))

-- ---- where the links lead

-- the link of the node at a place
pub link_at : (next : ℕ → Option ℕ) (xs : List ℕ) (b : Option ℕ) (i : ℕ) → LeadsOn next xs b → i < length xs → next (get_or xs i 0) ≡ first_or b (drop (suc i) xs)
link_at next [] b i leads within = absurd (omega arith)
link_at next (x ∷ xs) b zero leads within = leads.0
link_at next (x ∷ xs) b (suc i) leads within = link_at next xs b i leads.1 (omega arith)

-- the link of the last node
pub link_last : (next : ℕ → Option ℕ) (xs : List ℕ) (b : Option ℕ) (t : ℕ) → last xs ≡ Some t → LeadsOn next xs b → next t ≡ b
link_last next [] b t is leads = absurd (none-some t is)
link_last next (x ∷ []) b t is leads = ap next (sym (same_Some x t is)) ∙ leads.0
link_last next (x ∷ y ∷ ys) b t is leads = link_last next (y ∷ ys) b t is leads.1

-- i steps lead to the node at place i
pub onward-at : (next : ℕ → Option ℕ) (xs : List ℕ) (b : Option ℕ) (i : ℕ) → LeadsOn next xs b → i < length xs → onward next i (first_or b xs) ≡ Some (get_or xs i 0)
onward-at next [] b i leads within = absurd (omega arith)
onward-at next (x ∷ xs) b zero leads within = refl
onward-at next (x ∷ xs) b (suc i) leads within = ap (onward next i) leads.0 ∙ onward-at next xs b i leads.1 (omega arith)

-- a step for each node leads past the last
pub onward-end : (next : ℕ → Option ℕ) (xs : List ℕ) (b : Option ℕ) → LeadsOn next xs b → onward next (length xs) (first_or b xs) ≡ b
onward-end next [] b leads = refl
onward-end next (x ∷ xs) b leads = ap (onward next (length xs)) leads.0 ∙ onward-end next xs b leads.1

-- n nodes that the links lead through are a linked list
pub walk_from : (next : ℕ → Option ℕ) (n : ℕ) (at : Option ℕ) → at ≡ first_or (onward next n at) (walk next n at)
walk_from next zero at = refl
walk_from next (suc n) None = refl
walk_from next (suc n) (Some k) = refl

pub LeadsOn-walk : (next : ℕ → Option ℕ) (n : ℕ) (at : Option ℕ) → LeadsOn next (walk next n at) (onward next n at)
LeadsOn-walk next zero at = tt
LeadsOn-walk next (suc n) None = tt
LeadsOn-walk next (suc n) (Some k) = (walk_from next n (next k), LeadsOn-walk next n (next k))

onward-none : (next : ℕ → Option ℕ) (i : ℕ) → onward next i None ≡ None
onward-none next zero = refl
onward-none next (suc i) = refl

-- where one more step leads to a node, the link is some node
pub onward_some : (next : ℕ → Option ℕ) (i at : ℕ) (o : Option ℕ) → o ≡ next at → IsSome (onward next (suc i) (Some at)) → IsSome o
onward_some next i at None is some = absurd (false≢true (sym (ap is_some (ap (onward next i) (sym is) ∙ onward-none next i)) ∙ some))
onward_some next i at (Some k) is some = refl

-- ---- links that are changed

-- the list once its last node leads on to c
pub LeadsOn-end : (next new : ℕ → Option ℕ) (xs : List ℕ) (b c : Option ℕ) (t : ℕ) → last xs ≡ Some t → IsApart xs → LeadsOn next xs b → new t ≡ c
    → ((k : ℕ) → has k xs ≡ true → k ≢ t → new k ≡ next k) → LeadsOn new xs c
LeadsOn-end next new [] b c t is apart leads ends same = tt
LeadsOn-end next new (x ∷ []) b c t is apart leads ends same = (ap new (same_Some x t is) ∙ ends, tt)
LeadsOn-end next new (x ∷ y ∷ ys) b c t is apart leads ends same = (
  same x (has_head x x (y ∷ ys) refl) (differ x t (y ∷ ys) apart.0 (has_last (y ∷ ys) t is)) ∙ leads.0,
  LeadsOn-end next new (y ∷ ys) b c t is apart.1 leads.1 ends (λ k there. same k (has_tail x k (y ∷ ys) there)),
)

-- two parts, of which one leads on to the other, are one list
pub LeadsOn-append : (next : ℕ → Option ℕ) (xs ys : List ℕ) (b : Option ℕ) → LeadsOn next xs (first_or b ys) → LeadsOn next ys b → LeadsOn next (xs ++ ys) b
LeadsOn-append next [] ys b left right = right
LeadsOn-append next (x ∷ xs) ys b left right = (left.0 ∙ sym (first_or-append b xs ys), LeadsOn-append next xs ys b left.1 right)

-- ---- two parts

-- the first of one part and the last of the other are the ends of both
pub first_front : (h : ℕ) (xs ys : List ℕ) → first xs ≡ Some h → first (xs ++ ys) ≡ Some h
first_front h [] ys is = absurd (none-some h is)
first_front h (x ∷ xs) ys is = is

pub last_back : (t : ℕ) (xs ys : List ℕ) → last ys ≡ Some t → last (xs ++ ys) ≡ Some t
last_back t xs [] is = absurd (none-some t is)
last_back t xs (y ∷ ys) is = last_or-append None xs (y ∷ ys) ∙ is

-- the last node after those between `pre` and `post` have left
pub last_without : (pre out post : List ℕ) (t s : ℕ) → last pre ≡ Some t → last (pre ++ (out ++ post)) ≡ Some s → last (pre ++ post) ≡ Some (if is_none (first post) then t else s)
last_without pre out post t s ends all = grind (arith, nat_tests, last_joined post (pre ++ out) pre, append_assoc pre out post, ends, all)
