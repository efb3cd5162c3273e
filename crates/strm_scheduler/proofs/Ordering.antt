-- Forwarding keeps the messages of each side, and within each rank their order.
use Rattle.std.proofs.Common.{◌≡◌, ◌≢◌, ℕ, zero, suc, ◌<◌, ◌≤◌, inl, inr, Bool, true, false, ◌==◌, List, [], ◌∷◌, ◌++◌, drop, length, map, get_or, set, Option, Some, None, refl, sym, ap, ◌∙◌, arith, append-nil, append_assoc, if◌then◌else◌, get_or-set_other, get_or-set_same, length-drop, length-set}
use Rattle.std.specs.Prelude.{nat_le}
use Rattle.std.specs.List.{list_any}
use Rattle.std.proofs.lemmas.Bool.{cases_eq, cond-false, cond-true, eqb-true, false≢true, le-leb, or_parts}
use Rattle.std.proofs.lemmas.List.{map-append}
use Rattle.std.proofs.lemmas.Option.{none-some, same_Some}
use Rattle.strm_data.specs.DataStore.{DataStore}
use Rattle.strm_data.specs.MsgType.{is_high_priority}
use Rattle.strm_scheduler.specs.Forwarding.{first_on, with_first_forwarded, with_forwarded}
use Rattle.strm_mblk.specs.Arena.{Arena, shelf_at}
use Rattle.strm_mblk.specs.Block.{Block, Message, kind_of}
use Rattle.strm_pool.specs.PoolValue.{PoolValue}
use Rattle.strm_queue.specs.declared.queue_spec.QueueSpec.{QueueSpec}
use Rattle.strm_queue.specs.Ends.{of_rank}
use Rattle.strm_queue.specs.Flow.{behind}
use Rattle.strm_queue.specs.QueueSpecs.{are_lawful}
use Rattle.strm_queue.specs.Rank.{as_queued, put_behind, rank_of}
use Rattle.strm_queue.proofs.order.Ends.{of_rank-append}
use Rattle.strm_queue.proofs.order.Order.{rank_of-queued}
use Rattle.strm_scheduler.specs.Sides.{KeepsOrder, next_of, part_of, side_of, side_within}
use Rattle.strm_scheduler.proofs.Hops.{behind_is, behind_next, hop_ahead}
use Rattle.strm_scheduler.proofs.Weighing.{forwarded_weighs}

-- ---- one message joins a queue

-- a message that is queued is as it will be queued again
queued_twice : (s : DataStore) (m : Message) → as_queued s (as_queued s m) ≡ as_queued s m
queued_twice s [] = refl
queued_twice s (b ∷ bs) = by_kind (is_high_priority (kind_of s b)) refl
  where
    by_kind : (high : Bool) → is_high_priority (kind_of s b) ≡ high → as_queued s ((if high then record b { band = 0 } else b) ∷ bs) ≡ (if high then record b { band = 0 } else b) ∷ bs
    by_kind true is = ap (λ (c : Block). c ∷ bs) (cond-true _ _ _ is)
    by_kind false is = ap (λ (c : Block). c ∷ bs) (cond-false _ _ _ is)

module _ (rank : Message → ℕ) (r : ℕ) where
  -- none of this rank, if none is of at least this rank
  none_of_rank : (x : Message) (ms : List Message) → rank x ≡ r → list_any (λ y. nat_le (rank x) (rank y)) ms ≡ false → of_rank rank r ms ≡ []
  none_of_rank x [] is none = refl
  none_of_rank x (y ∷ ys) is none = by_rank (rank y == r) refl (none_of_rank x ys is (or_parts (nat_le (rank x) (rank y)) (list_any (λ z. nat_le (rank x) (rank z)) ys) none).1)
    where
      parts : (nat_le (rank x) (rank y) ≡ false) × (list_any (λ z. nat_le (rank x) (rank z)) ys ≡ false)
      parts = or_parts (nat_le (rank x) (rank y)) (list_any (λ z. nat_le (rank x) (rank z)) ys) none

      by_rank : (here : Bool) → (rank y == r) ≡ here → of_rank rank r ys ≡ [] → (if here then y ∷ of_rank rank r ys else of_rank rank r ys) ≡ []
      by_rank true same rest = let equal = eqb-true (rank y) r same in absurd (false≢true (sym parts.0 ∙ le-leb (rank x) (rank y) (omega (arith, equal, is))))
      by_rank false other rest = rest

  -- a message is put behind all those of its rank
  pub of_rank-put : (x : Message) (ms : List Message) → of_rank rank r (put_behind rank x ms) ≡ of_rank rank r ms ++ of_rank rank r (x ∷ [])
  of_rank-put x [] = refl
  of_rank-put x (y ∷ ys) = by_any (list_any (λ z. nat_le (rank x) (rank z)) (y ∷ ys)) refl (of_rank-put x ys)
    where
      step : (here : Bool) → of_rank rank r (put_behind rank x ys) ≡ of_rank rank r ys ++ of_rank rank r (x ∷ [])
          → (if here then y ∷ of_rank rank r (put_behind rank x ys) else of_rank rank r (put_behind rank x ys)) ≡ (if here then y ∷ of_rank rank r ys else of_rank rank r ys) ++ of_rank rank r (x ∷ [])
      step true rest = ap (λ (ms : List Message). y ∷ ms) rest
      step false rest = rest

      first : (here : Bool) → (rank x == r) ≡ here → list_any (λ z. nat_le (rank x) (rank z)) (y ∷ ys) ≡ false
          → (if here then x ∷ of_rank rank r (y ∷ ys) else of_rank rank r (y ∷ ys)) ≡ of_rank rank r (y ∷ ys) ++ (if here then x ∷ [] else [])
      first true same none = let empty = none_of_rank x (y ∷ ys) (eqb-true (rank x) r same) none in ap (λ (ms : List Message). x ∷ ms) empty ∙ sym (ap (λ (ms : List Message). ms ++ x ∷ []) empty)
      first false other none = sym (append-nil (of_rank rank r (y ∷ ys)))

      by_any : (b : Bool) → list_any (λ z. nat_le (rank x) (rank z)) (y ∷ ys) ≡ b → of_rank rank r (put_behind rank x ys) ≡ of_rank rank r ys ++ of_rank rank r (x ∷ [])
          → of_rank rank r (if b then y ∷ put_behind rank x ys else x ∷ y ∷ ys) ≡ of_rank rank r (y ∷ ys) ++ of_rank rank r (x ∷ [])
      by_any true some rest = step (rank y == r) rest
      by_any false none rest = first (rank x == r) refl none

-- the part of one message is the same once it is queued
one_queued : (s : DataStore) (r : ℕ) (m : Message) → map (as_queued s) (of_rank (rank_of s) r (as_queued s m ∷ [])) ≡ map (as_queued s) (of_rank (rank_of s) r (m ∷ []))
one_queued s r m = (λ i. map (as_queued s) (if rank_of-queued s m i == r then as_queued s m ∷ [] else [])) ∙ by_rank (rank_of s m == r)
  where
    by_rank : (here : Bool) → map (as_queued s) (if here then as_queued s m ∷ [] else []) ≡ map (as_queued s) (if here then m ∷ [] else [])
    by_rank true = ap (λ x. x ∷ []) (queued_twice s m)
    by_rank false = refl

-- ---- one message is forwarded

module _ (specs : List QueueSpec) (lawful : are_lawful specs ≡ true) (q n : ℕ) (next : next_of specs q ≡ Some n) (r : ℕ) where
  apart : n ≢ q
  apart same = absurd (omega (arith, same, (hop_ahead specs lawful q n next).greater))

  module _ (a : Arena) (within : n < length a.shelves) where
    abbrev moved : Arena
    moved = with_first_forwarded q n a

    abbrev off : List (List Message)
    off = set a.shelves q (drop 1 (shelf_at a q))

    abbrev part : Message → List Message
    part m = map (as_queued a.store) (of_rank (rank_of a.store) r (m ∷ []))

    part_other : (p : ℕ) → p ≢ q → p ≢ n → part_of moved r p ≡ part_of a r p
    part_other p behind_it ahead_of_it =
        ap (λ (ms : List Message). map (as_queued a.store) (of_rank (rank_of a.store) r ms))
        (get_or-set_other off n p _ [] ahead_of_it ∙ get_or-set_other a.shelves q p (drop 1 (shelf_at a q)) [] behind_it)

    part_next : part_of moved r n ≡ part_of a r n ++ part (first_on q a)
    part_next =
        ap (λ (ms : List Message). map (as_queued a.store) (of_rank (rank_of a.store) r ms))
        (get_or-set_same off n _ [] (omega (arith, within, length-set a.shelves q (drop 1 (shelf_at a q))))
        ∙ ap (put_behind (rank_of a.store) (as_queued a.store (first_on q a))) (get_or-set_other a.shelves q n (drop 1 (shelf_at a q)) [] apart))
        ∙ ap (map (as_queued a.store)) (of_rank-put (rank_of a.store) r (as_queued a.store (first_on q a)) (shelf_at a n))
        ∙ map-append (as_queued a.store) (of_rank (rank_of a.store) r (shelf_at a n)) (of_rank (rank_of a.store) r (as_queued a.store (first_on q a) ∷ []))
        ∙ ap (λ xs. part_of a r n ++ xs) (one_queued a.store r (first_on q a))

    part_left : part_of moved r q ≡ map (as_queued a.store) (of_rank (rank_of a.store) r (drop 1 (shelf_at a q)))
    part_left =
        ap (λ (ms : List Message). map (as_queued a.store) (of_rank (rank_of a.store) r ms))
        (get_or-set_other off n q _ [] (λ same. apart (sym same)) ∙ get_or-set_same a.shelves q (drop 1 (shelf_at a q)) [] (omega (arith, within, (hop_ahead specs lawful q n next).greater)))

    part_split : (ms : List Message) → 0 < length ms → map (as_queued a.store) (of_rank (rank_of a.store) r ms) ≡ part (get_or ms 0 []) ++ map (as_queued a.store) (of_rank (rank_of a.store) r (drop 1 ms))
    part_split [] some = absurd (omega (arith, some))
    part_split (m ∷ ms) some =
        ap (map (as_queued a.store)) (of_rank-append (rank_of a.store) r (m ∷ []) ms)
        ∙ map-append (as_queued a.store) (of_rank (rank_of a.store) r (m ∷ [])) (of_rank (rank_of a.store) r ms)

    module _ (some : 0 < length (shelf_at a q)) where
      -- both queues together have the same messages in the same order
      joined : (rest : List Message) → part_of moved r n ++ (part_of moved r q ++ rest) ≡ part_of a r n ++ (part_of a r q ++ rest)
      joined rest =
          (λ i. part_next i ++ (part_left i ++ rest))
          ∙ append_assoc (part_of a r n) (part (first_on q a)) (map (as_queued a.store) (of_rank (rank_of a.store) r (drop 1 (shelf_at a q))) ++ rest)
          ∙ ap (λ xs. part_of a r n ++ xs) (sym (append_assoc (part (first_on q a)) (map (as_queued a.store) (of_rank (rank_of a.store) r (drop 1 (shelf_at a q)))) rest))
          ∙ ap (λ xs. part_of a r n ++ (xs ++ rest)) (sym (part_split (shelf_at a q) some))

      -- ---- a side

      -- the side from a queue on, if it is not the one that the message left
      abbrev Same : ℕ → ℕ → Type 0
      Same steps e = e < steps → e ≢ q → side_within steps specs moved r (Some e) ≡ side_within steps specs a r (Some e)

      -- and from the queue behind it on
      same_behind : (steps e : ℕ) → ((p : ℕ) → Same steps p) → e ≤ steps → e ≢ n → side_within steps specs moved r (behind specs e) ≡ side_within steps specs a r (behind specs e)
      same_behind steps e all few other = by_behind steps (behind specs e) refl all few
        where
          by_behind : (steps : ℕ) (o : Option ℕ) → behind specs e ≡ o → ((p : ℕ) → Same steps p) → e ≤ steps → side_within steps specs moved r o ≡ side_within steps specs a r o
          by_behind zero None is all few = refl
          by_behind (suc steps) None is all few = refl
          by_behind steps (Some p) is all few =
              let before = behind_next specs e p is in
              all p (omega (arith, few, (hop_ahead specs lawful p e before).greater)) (λ same. other (same_Some e n (sym before ∙ ap (next_of specs) same ∙ next)))

      same_within : (bound steps : ℕ) → steps ≤ bound → (e : ℕ) → Same steps e
      same_within bound zero few e below other = absurd (omega (arith, below))
      same_within zero (suc steps) few e below other = absurd (omega (arith, few))
      same_within (suc bound) (suc steps) few e below other =
          elim (cases_eq e n) [
            | inl here ↦ at_next bound steps e here (λ k le. same_within bound k (omega (arith, le, few))) below
            | inr apart_too ↦
                λ i. part_other e other apart_too i ++ same_behind steps e (same_within bound steps (omega (arith, few))) (omega (arith, below)) apart_too i
          ]
        where
          at_next : (bound steps e : ℕ) → e ≡ n → ((k : ℕ) → k ≤ steps → (p : ℕ) → Same k p) → e < suc steps
              → side_within (suc steps) specs moved r (Some e) ≡ side_within (suc steps) specs a r (Some e)
          at_next bound zero e here all below = absurd (omega (arith, below, here, (hop_ahead specs lawful q n next).greater))
          at_next bound (suc steps) e here all below =
              let found : behind specs e ≡ Some q = ap (behind specs) here ∙ behind_is specs lawful q n next in
              let tail = same_behind steps q (all steps (omega arith)) (omega (arith, below, here, (hop_ahead specs lawful q n next).greater)) (λ same. apart (sym same)) in
              (λ i. part_of moved r (here i) ++ side_within (suc steps) specs moved r (found i))
              ∙ ap (λ rest. part_of moved r n ++ (part_of moved r q ++ rest)) tail
              ∙ joined (side_within steps specs a r (behind specs q))
              ∙ sym (λ i. part_of a r (here i) ++ side_within (suc steps) specs a r (found i))

  -- ---- some messages are forwarded

  module _ (e : ℕ) (last : next_of specs e ≡ None) (there : e < length specs) where
    not_q : e ≢ q
    not_q same = none-some n (sym last ∙ ap (next_of specs) same ∙ next)

    pub side_forwarded : (count : ℕ) (a : Arena) → n < length a.shelves → count ≤ length (shelf_at a q) → side_of specs (with_forwarded q n count a) r e ≡ side_of specs a r e
    side_forwarded zero a within few = refl
    side_forwarded (suc count) a within few =
        let greater = (hop_ahead specs lawful q n next).greater in
        let before = forwarded_weighs q n greater count a within (omega (arith, few)) in
        let b : Arena = with_forwarded q n count a in
        same_within b (omega (arith, within, before.shelves)) (omega (arith, few, ap length before.left, length-drop count (shelf_at a q))) (length specs) (length specs) (omega arith) e there not_q
        ∙ side_forwarded count a within (omega (arith, few))

-- ---- the same messages

-- a side is the same where shelves and data are
side_alike : (specs : List QueueSpec) (a b : Arena) → a.store ≡ b.store → a.shelves ≡ b.shelves → (r steps : ℕ) (o : Option ℕ) → side_within steps specs a r o ≡ side_within steps specs b r o
side_alike specs a b store shelves r zero o = refl
side_alike specs a b store shelves r (suc steps) None = refl
side_alike specs a b store shelves r (suc steps) (Some q) =
    λ i. map (as_queued (store i)) (of_rank (rank_of (store i)) r (get_or (shelves i) q [])) ++ side_alike specs a b store shelves r steps (behind specs q) i

pub order_alike : (v w : PoolValue) → w.arena.store ≡ v.arena.store → w.arena.shelves ≡ v.arena.shelves → KeepsOrder v w
order_alike v w store shelves end rank last there = side_alike v.queues.specs w.arena v.arena store shelves rank (length v.queues.specs) (Some end)

-- the messages are those that forwarding leaves
pub order_moved : (q n : ℕ) (v w : PoolValue) → are_lawful v.queues.specs ≡ true → next_of v.queues.specs q ≡ Some n → n < length v.arena.shelves → 0 < length (shelf_at v.arena q)
    → w.arena.store ≡ v.arena.store → w.arena.shelves ≡ (with_forwarded q n 1 v.arena).shelves → KeepsOrder v w
order_moved q n v w lawful next within some store shelves end rank last there =
    side_alike v.queues.specs w.arena (with_forwarded q n 1 v.arena) store shelves rank (length v.queues.specs) (Some end)
    ∙ side_forwarded v.queues.specs lawful q n next rank end last there 1 v.arena within (omega (arith, some))
