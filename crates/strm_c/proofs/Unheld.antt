-- A message that a call gives is at a head where none was held.
use Rattle.std.proofs.Common.{◌≡◌, ℕ, zero, suc, ◌+◌, ◌<◌, Bool, true, false, List, [], ◌∷◌, length, get_or, Option, None, Some, Result, Ok, Err, refl, sym, ap, subst, arith, if◌then◌else◌}
use Rattle.std.specs.Prelude.{count_by, nat_lt}
use Rattle.std.specs.List.{flat_map}
use Rattle.std.specs.Option.{IfSome}
use Rattle.strm_data.specs.declared.refusal.Refusal.{Refusal}
use Rattle.strm_data.specs.declared.refusal.Refusal.TheVariants.{NoSuchQueue, TooLarge}
use Rattle.strm_data.specs.Classes.{fits_a_class}
use Rattle.strm_data.specs.DataStore.{take_data, times}
use Rattle.strm_links.proofs.lists.Counting.{times_here}
use Rattle.strm_mblk.proofs.Lists.{one_most, count_adds}
use Rattle.strm_mblk.specs.Arena.{Arena, IsParted, held_at, shelf_at, shelved_blocks}
use Rattle.strm_mblk.specs.Block.{Message, head_of}
use Rattle.strm_mblk.specs.BlockCalls.{allocb, allocb_from, held_new}
use Rattle.strm_mblk.specs.Messages.{blocks_of, blocks_on}
use Rattle.strm_mblk.proofs.arena.Counts.{blocks_in_adds, times-all, head_counts, held_among, held_within, number_is}
use Rattle.strm_queue.specs.QueueCalls.{get_first, getq, has_queue}
use Rattle.strm_queue.proofs.Shelf.{some_here}
use Rattle.strm_pool.specs.PoolValue.{PoolValue, on_arena, on_queues, queued_blocks_of}
use Rattle.strm_pool.proofs.Tokens.{err_not_ok, same_ok, same_some, some_not_none}
use Rattle.strm_named.specs.NamedCalls.{outcome_of}

-- no held message begins with a number that is free or on a shelf
not_held : (a : Arena) → IsParted a → (n : ℕ) → 0 < times n a.free + count_by (number_is n) (shelved_blocks a) → held_at a n ≡ None
not_held a parted n elsewhere =
    elim (held_at a n) as (λ o. held_at a n ≡ o → o ≡ None) [
      | None ↦ λ _. refl
      | Some m ↦ λ is.
          let begins : (0 < length m) × (head_of m ≡ n) = subst (λ o. IfSome o (λ x. (0 < length x) × (head_of x ≡ n))) is (parted.chains.heads n) in
          absurd (omega (
            arith,
            elsewhere,
            head_counts m n begins.0 begins.1,
            held_among a (number_is n) n (held_within a n m is),
            ap (λ o. count_by (number_is n) (blocks_of o)) is,
            blocks_in_adds (count_adds (number_is n)) a,
            times-all n a,
            parted.chains.once n,
            one_most (nat_lt n (length a.held)),
          ))
    ] refl

-- ---- a new message

-- its number was free
was_free : (a : Arena) (free : List ℕ) (size : ℕ) (fits : Bool) (p : PoolValue) (given : ℕ × PoolValue) → outcome_of (on_arena p (if fits then allocb_from free size a else Err TooLarge)) ≡ Ok given
    → 0 < times given.0 free
was_free a free size false p given is = absurd (err_not_ok is)
was_free a [] size true p given is = absurd (err_not_ok is)
was_free a (n ∷ ns) size true p given is = of_data (take_data size a.store) is
  where
    of_data : (d : Result ℕ Refusal) → outcome_of (on_arena p (held_new n ns a d)) ≡ Ok given → 0 < times given.0 (n ∷ ns)
    of_data (Err why) is = absurd (err_not_ok is)
    of_data (Ok d) is = omega (arith, times_here given.0 n ns (ap (λ (g : ℕ × PoolValue). g.0) (same_ok is)))

pub allocb_unheld : (size : ℕ) (p : PoolValue) → IsParted p.arena → (given : ℕ × PoolValue) → outcome_of (on_arena p (allocb size p.arena)) ≡ Ok given → held_at p.arena given.0 ≡ None
allocb_unheld size p parted given is =
    not_held p.arena parted given.0 (omega (arith, was_free p.arena p.arena.free size (fits_a_class size p.arena.store.classes) p given is))

-- ---- the first message of a queue

-- the blocks of a message on a shelf are among those on all shelves
among_shelved : (n : ℕ) (shelves : List (List Message)) (q : ℕ) (m : Message) (ms : List Message) → get_or shelves q [] ≡ m ∷ ms → 0 < count_by (number_is n) m → 0 < count_by (number_is n) (blocks_on shelves)
among_shelved n [] q m ms is some = absurd cc
among_shelved n (xs ∷ shelves) zero m ms is some =
    omega (
      arith,
      some,
      (count_adds (number_is n)).both (flat_map (λ x. x) xs) (blocks_on shelves),
      ap (λ ys. count_by (number_is n) (flat_map (λ x. x) ys)) is,
      (count_adds (number_is n)).both m (flat_map (λ x. x) ms),
    )
among_shelved n (xs ∷ shelves) (suc q) m ms is some =
    omega (arith, (count_adds (number_is n)).both (flat_map (λ x. x) xs) (blocks_on shelves), among_shelved n shelves q m ms is some)

pub getq_unheld : (q : ℕ) (p : PoolValue) → IsParted p.arena → (h : ℕ) (r : PoolValue) → outcome_of (on_queues p (getq q (queued_blocks_of p))) ≡ Ok (Some h, r) → held_at p.arena h ≡ None
getq_unheld q p parted h r is = of_queue (has_queue (queued_blocks_of p) q) (shelf_at p.arena q) refl is
  where
    of_queue : (there : Bool) (ms : List Message) → shelf_at p.arena q ≡ ms → outcome_of (on_queues p (if there then get_first q ms (queued_blocks_of p) else Err NoSuchQueue)) ≡ Ok (Some h, r) → held_at p.arena h ≡ None
    of_queue false ms on is = absurd (err_not_ok is)
    of_queue true [] on is = absurd (some_not_none (sym (ap (λ (g : Option ℕ × PoolValue). g.0) (same_ok is))))
    of_queue true (m ∷ ms) on is =
        let head : head_of m ≡ h = same_some (ap (λ (g : Option ℕ × PoolValue). g.0) (same_ok is)) in
        not_held p.arena parted h (omega (arith, among_shelved h p.arena.shelves q m ms on (head_counts m h (some_here p.arena parted q [] ms m on) head)))
