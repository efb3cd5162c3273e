-- Taking: messages of a shelf are held from first to last, and their tokens go to a receiver.
use Rattle.std.proofs.Common.{◌≡◌, ◌⊎◌, ℕ, zero, suc, ◌+◌, ◌<◌, ◌≤◌, Bool, true, false, ◌==◌, ◌&&◌, List, [], ◌∷◌, ◌++◌, length, map, take, Option, Some, None, Ok, Err, refl, sym, ap, ◌∙◌, subst, inl, inr, arith}
use Rattle.std.specs.Prelude.{filter, not}
use Rattle.std.specs.List.{FoldsTo}
use Rattle.std.proofs.lemmas.Bool.{cases_Bool, cond-false, cond-true, eqb-true, false≢true, ne_eqb, not_from_false, not_from_true, or_from, or_parts}
use Rattle.std.proofs.lemmas.Fn.{FoldsTo-push}
use Rattle.std.proofs.lemmas.List.{append-nil, length-append, length-map, map-append, set-set, take-append-le, take_all}
use Rattle.std.proofs.lemmas.List.Elements.{filter-append}
use Rattle.std.proofs.lemmas.Option.{none-some}
use Rattle.strm_data.specs.declared.refusal.Refusal.{Refusal}
use Rattle.strm_links.specs.Rows.{IsApart, first, has}
use Rattle.strm_links.proofs.lists.OneList.{IsApart-append, has-append, has_head, has_tail}
use Rattle.strm_mblk.specs.declared.token.TokenValue.{TokenValue}
use Rattle.strm_mblk.specs.Arena.{Arena, has as has_token, held_at, is_of_length, shelf_at, token_of, with_held, with_shelf}
use Rattle.strm_mblk.specs.Block.{Message, head_of}
use Rattle.strm_mblk.specs.Calls.{Takes, itself}
use Rattle.strm_mblk.specs.Given.{Given, answer_map, answer_of, value_after}
use Rattle.strm_mblk.specs.Messages.{blocks_of}
use Rattle.strm_mblk.specs.Shelves.{heads_at, unshelve}
use Rattle.strm_mblk.proofs.arena.Counts.{had_message}
use Rattle.strm_queue.specs.Taking.{AreHanded, Hands, first_picked, heads_taken, left_after, with_all_held}
use Rattle.strm_queue.proofs.moving.Flushing.{IsFlushing, IsOffShelf, IsPassed, flushing_gone, flushing_kept, flushing_none, flushing_on, next, next_is, passed_more, picked_passed}
use Rattle.strm_queue.proofs.Shelf.{FirstParts, heads, unshelved}

-- ---- messages that are held

held_data : (ms : List Message) (a : Arena) → (with_all_held ms a).store.blocks ≡ a.store.blocks
held_data [] a = refl
held_data (m ∷ ms) a = held_data ms (with_held m a)

held_shelves : (ms : List Message) (a : Arena) → (with_all_held ms a).shelves ≡ a.shelves
held_shelves [] a = refl
held_shelves (m ∷ ms) a = held_shelves ms (with_held m a)

pub held_off_shelf : IsOffShelf with_all_held
held_off_shelf = record { none = λ a. refl; contents = held_data; shelves = held_shelves }

-- one more
held_more : (ms : List Message) (m : Message) (a : Arena) → with_held m (with_all_held ms a) ≡ with_all_held (ms ++ m ∷ []) a
held_more [] m a = refl
held_more (x ∷ ms) m a = held_more ms m (with_held x a)

-- a shelf may change before or afterwards
held_beside : (ms : List Message) (q : ℕ) (xs : List Message) (a : Arena) → with_shelf q xs (with_all_held ms a) ≡ with_all_held ms (with_shelf q xs a)
held_beside [] q xs a = refl
held_beside (m ∷ ms) q xs a = held_beside ms q xs (with_held m a)

-- the message at the walk's head is taken
module _ (picked taken : Message → Bool) (old : Arena) (q : ℕ) (within : q < length old.shelves) (k : ℕ) (at : Option ℕ) (now : Arena) (walk : IsFlushing with_all_held picked taken old q k at now)
    (h : ℕ) (some : at ≡ Some h) (apart : IsApart (heads_at now q)) where
  abbrev one : FirstParts h walk.post
  one = next with_all_held held_off_shelf picked taken old q within k at now walk h some

  abbrev ahead : List Message
  ahead = filter (λ m. not (picked m)) walk.pre

  pub taken_off : (new : Arena) → new ≡ unshelve q h now → new ≡ with_all_held (filter picked walk.pre ++ one.at ∷ []) (with_shelf q (ahead ++ one.post) old)
  taken_off new is =
      is ∙ ap (λ n. unshelve q n now) (sym one.head)
      ∙ unshelved now q ahead one.post one.at (next_is with_all_held held_off_shelf picked taken old q within k at now walk h some) apart
      ∙ ap (λ a. with_held one.at (with_shelf q (ahead ++ one.post) a)) walk.arena
      ∙ ap (with_held one.at) (held_beside (filter picked walk.pre) q (ahead ++ one.post) (with_shelf q (ahead ++ walk.post) old))
      ∙ ap (λ xs. let a : Arena = record old { shelves = xs } in with_held one.at (with_all_held (filter picked walk.pre) a)) (set-set old.shelves q (ahead ++ walk.post) (ahead ++ one.post))
      ∙ held_more (filter picked walk.pre) one.at (with_shelf q (ahead ++ one.post) old)

-- ---- which are taken, and which stay

module _ (picked : Message → Bool) where
  abbrev stays : Message → Bool
  stays m = not (picked m)

  stays_here : (n : ℕ) (m : Message) (ms : List Message) → picked m ≡ false → left_after n picked (m ∷ ms) ≡ m ∷ left_after n picked ms
  stays_here zero m ms off = refl
  stays_here (suc n) m ms off = cond-false _ _ _ off

  -- messages up to the last one that is taken
  left_first : (pre post : List Message) → left_after (length (filter picked pre)) picked (pre ++ post) ≡ filter stays pre ++ post
  left_first [] post = refl
  left_first (m ∷ pre) post =
      elim (cases_Bool (picked m)) [
        | inl is ↦
            ap (λ ms. left_after (length ms) picked (m ∷ (pre ++ post))) (cond-true _ _ _ is)
            ∙ cond-true _ _ _ is ∙ left_first pre post
            ∙ ap (λ ms. ms ++ post) (sym (cond-false _ _ _ (not_from_true _ is)))
        | inr off ↦
            ap (λ ms. left_after (length ms) picked (m ∷ (pre ++ post))) (cond-false _ _ _ off)
            ∙ stays_here (length (filter picked pre)) m (pre ++ post) off ∙ ap (λ ms. m ∷ ms) (left_first pre post)
            ∙ ap (λ ms. ms ++ post) (sym (cond-true _ _ _ (not_from_false _ off)))
      ]

  left_picked : (n : ℕ) (m : Message) (ms : List Message) → picked m ≡ true → suc (length (filter picked ms)) ≤ n
      → ((k : ℕ) → length (filter picked ms) ≤ k → left_after k picked ms ≡ filter stays ms) → left_after n picked (m ∷ ms) ≡ filter stays ms
  left_picked zero m ms is few rest = absurd (omega (arith, few))
  left_picked (suc n) m ms is few rest = cond-true _ _ _ is ∙ rest n (omega (arith, few))

  -- no more of them are picked
  left_all : (n : ℕ) (ms : List Message) → length (filter picked ms) ≤ n → left_after n picked ms ≡ filter stays ms
  left_all zero [] few = refl
  left_all (suc n) [] few = refl
  left_all n (m ∷ ms) few =
      elim (cases_Bool (picked m)) [
        | inl is ↦ left_picked n m ms is (subst (λ xs. length xs ≤ n) (cond-true _ _ _ is) few) (λ k le. left_all k ms le) ∙ sym (cond-false _ _ _ (not_from_true _ is))
        | inr off ↦
            stays_here n m ms off ∙ ap (λ xs. m ∷ xs) (left_all n ms (subst (λ xs. length xs ≤ n) (cond-false _ _ _ off) few))
            ∙ sym (cond-true _ _ _ (not_from_false _ off))
      ]

  module _ (most : ℕ) (pre post : List Message) where
    -- a walk that ended passed enough
    abbrev pub IsEnough : Type 0
    IsEnough = (length (filter picked pre) ≡ most) ⊎ (post ≡ [])

    module _ (few : length (filter picked pre) ≤ most) (enough : IsEnough) where
      pub took : first_picked most picked (pre ++ post) ≡ filter picked pre
      took =
          elim enough [
            | inl full ↦
                ap (take most) (filter-append picked pre post) ∙ take-append-le most (filter picked pre) (filter picked post) (omega (arith, full)) ∙ take_all most (filter picked pre) few
            | inr none ↦ ap (λ ms. first_picked most picked ms) (ap (λ ms. pre ++ ms) none ∙ append-nil pre) ∙ take_all most (filter picked pre) few
          ]

      pub left : left_after most picked (pre ++ post) ≡ filter stays pre ++ post
      left =
          elim enough [
            | inl full ↦ ap (λ n. left_after n picked (pre ++ post)) (sym full) ∙ left_first pre post
            | inr none ↦
                ap (λ ms. left_after most picked ms) (ap (λ ms. pre ++ ms) none ∙ append-nil pre) ∙ left_all most pre few
                ∙ sym (ap (λ ms. filter stays pre ++ ms) none ∙ append-nil (filter stays pre))
          ]

-- ---- tokens that go to a receiver

-- equal functions on these heads
map_same : {X : Type 0} (f g : ℕ → X) (hs : List ℕ) → ((h : ℕ) → has h hs ≡ true → f h ≡ g h) → map f hs ≡ map g hs
map_same f g [] same = refl
map_same f g (h ∷ hs) same = λ i. same h (has_head h h hs refl) i ∷ map_same f g hs (λ k there. same k (has_tail h k hs there)) i

module _ {R : Type 0} (receives : R → TokenValue → R → Type 0) where
  pub handed_none : (a : Arena) (r : R) → AreHanded receives [] a a r r
  handed_none a r = record {
    handed = refl;
    had = λ h nowhere. absurd (false≢true nowhere);
    unheld = λ h nowhere. absurd (false≢true nowhere);
    apart = tt;
    others = record { id = refl; size = refl; held = λ h absent. refl };
  }

  -- one more is taken, and its token received
  module _ (hs : List ℕ) (old now new : Arena) (before between after : R) (hand : AreHanded receives hs old now before between) (h : ℕ) (x : Arena) (t : TokenValue)
      (takes : Takes itself (Ok (h, x)) now new (Ok t)) (received : receives between t after) where
    token_is : t ≡ token_of new h
    token_is = let is = takes.token in cc

    head_is : t.head ≡ h
    head_is = ap (λ (u : TokenValue). u.head) token_is

    free_now : held_at now h ≡ None
    free_now = subst (λ n. held_at now n ≡ None) head_is takes.unheld

    -- it is not one of those before
    absent : has h hs ≡ false
    absent =
        elim (cases_Bool (has h hs)) [
          | inl there ↦ absurd (none-some _ (sym free_now ∙ (had_message now (token_of now h) (hand.had h there)).1.held))
          | inr not ↦ not
        ]

    apart_from : (k : ℕ) → has k hs ≡ true → (h == k) ≡ false
    apart_from k there = ne_eqb h k (λ same. false≢true (sym absent ∙ ap (λ n. has n hs) same ∙ there))

    stays_held : (k : ℕ) → has k (h ∷ []) ≡ false → held_at new k ≡ held_at now k
    stays_held k off = takes.others.held k (ap (λ n. has k (n ∷ [])) head_is ∙ off)

    of_others : (k : ℕ) → has k hs ≡ true → held_at new k ≡ held_at now k
    of_others k there = stays_held k (or_from (h == k) false (apart_from k there) refl)

    pub handed_more : AreHanded receives (hs ++ h ∷ []) old new before after
    handed_more = record {
      handed =
          subst (λ ts. FoldsTo receives before ts after)
          ((λ i. map_same (token_of now) (token_of new) hs
          (λ k there. λ j. let u : TokenValue = record { pool = sym takes.others.id j; head = k; blocks = length (blocks_of (sym (of_others k there) j)) } in u) i ++ token_is i ∷ [])
          ∙ sym (map-append (token_of new) hs (h ∷ [])))
          (FoldsTo-push receives before (map (token_of now) hs) between t after hand.handed received);
      had = λ k there.
          elim (cases_Bool (has k hs)) [
            | inl is ↦
                subst (λ (b : Bool). b ≡ true)
                (λ j. (sym takes.others.id j == sym takes.others.id j) && is_of_length (length (blocks_of (sym (of_others k is) j))) (sym (of_others k is) j)) (hand.had k is)
            | inr off ↦ subst (λ u. has_token new u ≡ true) (token_is ∙ ap (token_of new) (last_is k there off)) takes.had
          ];
      unheld = λ k there.
          elim (cases_Bool (has k hs)) [
            | inl is ↦ hand.unheld k is
            | inr off ↦ sym (hand.others.held k off) ∙ ap (held_at now) (sym (last_is k there off)) ∙ free_now
          ];
      apart = IsApart-append hs (h ∷ []) (record { left = hand.apart; right = (refl, tt); cross = λ k there. or_from (h == k) false (apart_from k there) refl });
      others = record {
        id = takes.others.id ∙ hand.others.id;
        size = takes.others.size ∙ hand.others.size;
        held = λ k off.
            let parts = or_parts (has k hs) (has k (h ∷ [])) (sym (has-append k hs (h ∷ [])) ∙ off) in
            stays_held k parts.1 ∙ hand.others.held k parts.0;
      };
    }
      where
        last_is : (k : ℕ) → has k (hs ++ h ∷ []) ≡ true → has k hs ≡ false → h ≡ k
        last_is k there off =
            elim (cases_Bool (h == k)) [
              | inl same ↦ eqb-true h k same
              | inr not ↦ absurd (false≢true (sym (has-append k hs (h ∷ []) ∙ or_from (has k hs) (has k (h ∷ [])) off (or_from (h == k) false not refl)) ∙ there))
            ]

-- ---- the loop

-- At least k messages were passed, and n taken.
pub record IsTaking {R : Type 0} (receives : R → TokenValue → R → Type 0) (picked taken : Message → Bool) (old : Arena) (q k n : ℕ) (at : Option ℕ) (now : Arena) (before after : R) : Type 0 where
  pub walk : IsFlushing with_all_held picked taken old q k at now
  pub go : List Message
  pub is : filter picked walk.pre ≡ go
  pub count : n ≡ length go
  pub tokens : AreHanded receives (heads go) old now before after

-- none was passed, except ahead of the first that may be picked
pub taking_none : {R : Type 0} (receives : R → TokenValue → R → Type 0) (picked taken : Message → Bool) (old : Arena) (q : ℕ) (within : q < length old.shelves) (at : Option ℕ) (rest : List Message)
    (passed : IsPassed picked taken (shelf_at old q) rest) → at ≡ first (heads rest) → (r : R) → IsTaking receives picked taken old q 0 0 at old r r
unfolding flushing_none flushing_on
taking_none receives picked taken old q within at rest passed behind r = record {
  walk = flushing_none with_all_held held_off_shelf picked taken old q within at rest passed behind;
  go = [];
  is = passed.gone;
  count = refl;
  tokens = handed_none receives old r;
}

-- one more message was passed
module _ {R : Type 0} (receives : R → TokenValue → R → Type 0) (picked taken : Message → Bool) (old : Arena) (q : ℕ) (within : q < length old.shelves) (k n : ℕ) (at : Option ℕ) (now : Arena)
    (before between : R) (so_far : IsTaking receives picked taken old q k n at now before between) (h : ℕ) (some : at ≡ Some h) (apart : IsApart (heads_at now q)) where
  abbrev front : FirstParts h so_far.walk.post
  front = next with_all_held held_off_shelf picked taken old q within k at now so_far.walk h some

  module _ (o : Option ℕ) (rest : List Message) (passed : IsPassed picked taken front.post rest) (o_is : o ≡ first (heads rest)) where
    -- it is taken
    pub taking_gone : picked front.at ≡ true → (new : Arena) (t : TokenValue) → Takes itself (Ok (h, unshelve q h now)) now new (Ok t) → (after : R) → receives between t after
        → IsTaking receives picked taken old q (k + 1) (n + 1) o new before after
    unfolding flushing_gone flushing_on
    taking_gone is new t takes after received = record {
      walk =
          flushing_gone with_all_held held_off_shelf picked taken old q within k at now so_far.walk h some apart o rest passed o_is is new
          (taken_off picked taken old q within k at now so_far.walk h some apart new takes.after);
      go = so_far.go ++ front.at ∷ [];
      is =
          picked_passed picked taken (so_far.walk.pre ++ front.at ∷ []) front.post rest passed
          ∙ filter-append picked so_far.walk.pre (front.at ∷ []) ∙ (λ i. so_far.is i ++ cond-true _ (front.at ∷ []) [] is i);
      count = omega (arith, so_far.count, length-append so_far.go (front.at ∷ []));
      tokens =
          subst (λ hs. AreHanded receives hs old new before after) (ap (λ x. heads so_far.go ++ x ∷ []) (sym front.head) ∙ sym (map-append head_of so_far.go (front.at ∷ [])))
          (handed_more receives (heads so_far.go) old now new before between after so_far.tokens h (unshelve q h now) t takes received);
    }

    -- it stays
    pub taking_kept : picked front.at ≡ false → IsTaking receives picked taken old q (k + 1) n o now before between
    unfolding flushing_kept flushing_on
    taking_kept off = record {
      walk = flushing_kept with_all_held held_off_shelf picked taken old q within k at now so_far.walk h some apart o rest passed o_is off;
      go = so_far.go;
      is = picked_passed picked taken so_far.walk.pre so_far.walk.post rest (passed_more picked taken front.at front.post rest so_far.walk.post front.is off passed) ∙ so_far.is;
      count = so_far.count;
      tokens = so_far.tokens;
    }

-- the walk ended
module _ {R : Type 0} (receives : R → TokenValue → R → Type 0) (picked taken : Message → Bool) (old : Arena) (q k n most : ℕ) (at : Option ℕ) (now : Arena) (before after : R)
    (so_far : IsTaking receives picked taken old q k n at now before after) (few : n ≤ most) (enough : (n ≡ most) ⊎ (so_far.walk.post ≡ [])) where
  abbrev walk : IsFlushing with_all_held picked taken old q k at now
  walk = so_far.walk

  abbrev ms : List Message
  ms = shelf_at old q

  total : length (filter picked walk.pre) ≡ n
  total = ap length so_far.is ∙ sym so_far.count

  reached : IsEnough picked most walk.pre walk.post
  reached = elim enough [ inl full ↦ inl (total ∙ full) | inr none ↦ inr none ]

  few_gone : length (filter picked walk.pre) ≤ most
  few_gone = omega (arith, total, few)

  took_is : first_picked most picked ms ≡ filter picked walk.pre
  took_is = ap (λ xs. first_picked most picked xs) walk.is ∙ took picked most walk.pre walk.post few_gone reached

  left_is : left_after most picked ms ≡ filter (λ m. not (picked m)) walk.pre ++ walk.post
  left_is = ap (λ xs. left_after most picked xs) walk.is ∙ left picked most walk.pre walk.post few_gone reached

  -- enough were passed
  pub taking_done : Hands itself receives (Ok (map head_of (first_picked most picked ms), with_all_held (first_picked most picked ms) (with_shelf q (left_after most picked ms) old))) old now before after (Ok n)
  taking_done = record {
    left = walk.arena ∙ sym (λ i. with_all_held (took_is i) (with_shelf q (left_is i) old));
    count = ap Ok (so_far.count ∙ ap length (sym so_far.is) ∙ sym (length-map (filter picked walk.pre) head_of) ∙ ap (λ xs. length (map head_of xs)) (sym took_is));
    tokens = subst (λ xs. AreHanded receives (map head_of xs) old now before after) (sym (took_is ∙ so_far.is)) so_far.tokens;
  }

-- a call that is refused
pub hands_none : {V R : Type 0} (arena : V → Arena) (receives : R → TokenValue → R → Type 0) (call : Given V (List ℕ)) (v : V) (r : R) (why : Refusal) → call ≡ Err why → Hands arena receives call v v r r (Err why)
hands_none {V} arena receives call v r why is = record {
  left = sym (ap (value_after v) is);
  count = sym (ap (λ c. answer_map (λ hs. length hs) (answer_of c)) is);
  tokens = subst (λ (c : Given V (List ℕ)). AreHanded receives (heads_taken (answer_of c)) (arena v) (arena v) r r) (sym is) (handed_none receives (arena v) r);
}
