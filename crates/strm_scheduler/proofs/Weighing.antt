-- How many queues messages still have ahead of them: less with each message that is forwarded.
use Rattle.std.proofs.Common.{◌≡◌, ℕ, zero, suc, ◌+◌, ◌<◌, ◌≤◌, Bool, true, false, List, [], ◌∷◌, drop, length, get_or, set, refl, ap, ◌∙◌, arith, if◌then◌else◌, get_or-set_other, get_or-set_same, length-drop, length-set}
use Rattle.std.specs.Prelude.{nat_le}
use Rattle.std.specs.List.{list_any}
use Rattle.std.proofs.lemmas.List.{drop-drop}
use Rattle.strm_scheduler.specs.Forwarding.{first_on, with_first_forwarded, with_forwarded}
use Rattle.strm_mblk.specs.Arena.{Arena, shelf_at}
use Rattle.strm_mblk.specs.Block.{Message}
use Rattle.strm_queue.specs.Rank.{as_queued, put_behind, rank_of}
use Rattle.strm_scheduler.specs.Serving.{each, from_here, weigh}

-- ---- one queue gets other messages

over_front : (a b w x l m : ℕ) → a ≡ b → w + l ≡ x + m → (a + w) + l ≡ (b + x) + m
over_front a b w x l m front rest = omega (arith, front, rest)

swapped : (a b w : ℕ) → (a + w) + b ≡ (b + w) + a
swapped a b w = omega arith

pub weigh-set : (shelves : List (List Message)) (q : ℕ) (ms : List Message) → q < length shelves → weigh (set shelves q ms) + each (from_here shelves q) (get_or shelves q []) ≡ weigh shelves + each (from_here shelves q) ms
weigh-set [] q ms within = absurd (omega (arith, within))
weigh-set (x ∷ rest) zero ms within = swapped (each (suc (length rest)) ms) (each (suc (length rest)) x) (weigh rest)
weigh-set (x ∷ rest) (suc q) ms within =
    over_front (each (suc (length (set rest q ms))) x) (each (suc (length rest)) x) (weigh (set rest q ms)) (weigh rest) (each (from_here rest q) (get_or rest q [])) (each (from_here rest q) ms)
    (ap (λ k. each (suc k) x) (length-set rest q ms)) (weigh-set rest q ms (omega (arith, within)))

pub from_here-set : (shelves : List (List Message)) (q : ℕ) (ms : List Message) (p : ℕ) → from_here (set shelves q ms) p ≡ from_here shelves p
from_here-set [] q ms p = refl
from_here-set (x ∷ rest) zero ms zero = refl
from_here-set (x ∷ rest) zero ms (suc p) = refl
from_here-set (x ∷ rest) (suc q) ms zero = ap suc (length-set rest q ms)
from_here-set (x ∷ rest) (suc q) ms (suc p) = from_here-set rest q ms p

from_here_most : (shelves : List (List Message)) (p : ℕ) → from_here shelves p ≤ length shelves
from_here_most [] p = omega arith
from_here_most (x ∷ rest) zero = omega arith
from_here_most (x ∷ rest) (suc p) = let most = from_here_most rest p in omega (arith, most)

-- a greater number has fewer queues from there on
pub from_here_less : (shelves : List (List Message)) (q n : ℕ) → q < n → q < length shelves → from_here shelves n < from_here shelves q
from_here_less [] q n ahead within = absurd (omega (arith, within))
from_here_less (x ∷ rest) q zero ahead within = absurd (omega (arith, ahead))
from_here_less (x ∷ rest) zero (suc n) ahead within = let most = from_here_most rest n in omega (arith, most)
from_here_less (x ∷ rest) (suc q) (suc n) ahead within = from_here_less rest q n (omega (arith, ahead)) (omega (arith, within))

-- ---- one message joins or leaves

pub each-put : (k : ℕ) (rank : Message → ℕ) (m : Message) (ms : List Message) → each k (put_behind rank m ms) ≡ k + each k ms
each-put k rank m [] = refl
each-put k rank m (x ∷ xs) = by_any (list_any (λ y. nat_le (rank m) (rank y)) (x ∷ xs)) (each-put k rank m xs)
  where
    by_any : (b : Bool) → each k (put_behind rank m xs) ≡ k + each k xs → each k (if b then x ∷ put_behind rank m xs else m ∷ x ∷ xs) ≡ k + (k + each k xs)
    by_any true is = ap (λ e. k + e) is
    by_any false is = refl

each-drop : (k : ℕ) (ms : List Message) → 0 < length ms → each k ms ≡ k + each k (drop 1 ms)
each-drop k [] some = absurd (omega (arith, some))
each-drop k (m ∷ ms) some = refl

-- ---- messages are forwarded

module _ (q n : ℕ) (ahead : q < n) (a : Arena) (within : n < length a.shelves) where
  abbrev shelves_off : List (List Message)
  shelves_off = set a.shelves q (drop 1 (shelf_at a q))

  moved_less : 0 < length (shelf_at a q) → weigh (with_first_forwarded q n a).shelves < weigh a.shelves
  moved_less some =
      let there : n < length shelves_off = omega (arith, within, length-set a.shelves q (drop 1 (shelf_at a q))) in
      let less = from_here_less a.shelves q n ahead (omega (arith, ahead, within)) in
      let left = weigh-set a.shelves q (drop 1 (shelf_at a q)) (omega (arith, ahead, within)) in
      let first = each-drop (from_here a.shelves q) (shelf_at a q) some in
      let joined = weigh-set shelves_off n (put_behind (rank_of a.store) (as_queued a.store (first_on q a)) (get_or shelves_off n [])) there in
      let more = each-put (from_here shelves_off n) (rank_of a.store) (as_queued a.store (first_on q a)) (get_or shelves_off n []) in
      let here = from_here-set a.shelves q (drop 1 (shelf_at a q)) n in
      omega (arith, less, left, first, joined, more, here)

  moved_left : shelf_at (with_first_forwarded q n a) q ≡ drop 1 (shelf_at a q)
  moved_left =
      get_or-set_other shelves_off n q _ [] (λ same. absurd (omega (arith, ahead, same)))
      ∙ get_or-set_same a.shelves q (drop 1 (shelf_at a q)) [] (omega (arith, ahead, within))

  moved_shelves : length (with_first_forwarded q n a).shelves ≡ length a.shelves
  moved_shelves = length-set shelves_off n _ ∙ length-set a.shelves q _

-- after some messages
pub record Weighs (q count : ℕ) (a b : Arena) : Type 0 where
  pub less : weigh b.shelves + count ≤ weigh a.shelves
  pub left : shelf_at b q ≡ drop count (shelf_at a q)
  pub shelves : length b.shelves ≡ length a.shelves

pub forwarded_weighs : (q n : ℕ) → q < n → (count : ℕ) (a : Arena) → n < length a.shelves → count ≤ length (shelf_at a q) → Weighs q count a (with_forwarded q n count a)
forwarded_weighs q n ahead zero a within few = record { less = omega arith; left = refl; shelves = refl }
forwarded_weighs q n ahead (suc count) a within few =
    let before = forwarded_weighs q n ahead count a within (omega (arith, few)) in
    let b : Arena = with_forwarded q n count a in
    let there : n < length b.shelves = omega (arith, within, before.shelves) in
    let some : 0 < length (shelf_at b q) = omega (arith, few, ap length before.left, length-drop count (shelf_at a q)) in
    let less = moved_less q n ahead b there some in
    let next : count + 1 ≡ suc count = omega arith in
    record {
      less = omega (arith, less, before.less);
      left = moved_left q n ahead b there ∙ ap (drop 1) before.left ∙ drop-drop 1 count (shelf_at a q) ∙ ap (λ k. drop k (shelf_at a q)) next;
      shelves = moved_shelves q n ahead b there ∙ before.shelves;
    }
