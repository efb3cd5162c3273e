-- Each service leaves less work, so that the run list is empty in the end. A service that moves a message leaves messages with fewer
-- queues ahead of them. One that moves none enables at most the queue behind, whose number is smaller.
use Rattle.std.proofs.Common.{◌≡◌, ℕ, zero, suc, ◌+◌, ◌<◌, ◌≤◌, Bool, true, false, List, [], ◌∷◌, length, refl, ap, ◌∙◌, arith, if◌then◌else◌, get_or-set_same, length-set, not, ◌&&◌, ◌||◌, ◌==◌, ◌++◌, Option, Some, None, sym, subst}
use Rattle.std.specs.List.{All}
use Rattle.strm_scheduler.specs.Forwarding.{all_forwarded, forwarded, go_on, hand_first, handed_on, with_band_wanted, with_first_off, with_one_placed}
use Rattle.strm_mblk.specs.Arena.{with_shelf}
use Rattle.strm_mblk.specs.Block.{Message}
use Rattle.strm_queue.specs.Rank.{rank_of}
use Rattle.strm_scheduler.specs.Serving.{most_powers, power, powers, times_of, weigh, work}
use Rattle.std.specs.Option.{option_map_or}
use Rattle.std.proofs.lemmas.Bool.{or_parts}
use Rattle.strm_links.specs.Rows as rows
use Rattle.strm_queue.specs.Flow.{Flags, QueueState, enabled_where, enables_put_back, flags_at, opening_flags, spec_at, target, waker, with_enabled, with_flags}
use Rattle.strm_queue.specs.Limits.{high_rank}
use Rattle.strm_queue.specs.QueueCalls.{flags_left, flags_of, has_relieved, messages_on, waker_enabled_where, with_queue_settled}
use Rattle.strm_queue.specs.QueuedBlocks.{QueuedBlocks}
use Rattle.strm_queue.specs.QueueSpecs.{are_lawful}
use Rattle.strm_scheduler.proofs.Hops.{waker_below}
use Rattle.strm_scheduler.proofs.Keeping.{SameRead, flags_related}
use Rattle.strm_scheduler.proofs.Settling.{settled_flags}

-- ---- work

-- ---- numbers

pub times_of_le : (a b k : ℕ) → a ≤ b → times_of a k ≤ times_of b k
times_of_le zero b k le = omega arith
times_of_le (suc a) zero k le = absurd (omega (arith, le))
times_of_le (suc a) (suc b) k le = let rest = times_of_le a b k (omega (arith, le)) in omega (arith, rest)

power_some : (q : ℕ) → 0 < power q
power_some zero = omega arith
power_some (suc q) = let rest = power_some q in omega (arith, rest)

power_less : (p q : ℕ) → p < q → power p < power q
power_less p zero less = absurd (omega (arith, less))
power_less zero (suc q) less = let some = power_some q in omega (arith, some)
power_less (suc p) (suc q) less = let rest = power_less p q (omega (arith, less)) in omega (arith, rest)

pub powers-append : (xs ys : List ℕ) → powers (xs ++ ys) ≡ powers xs + powers ys
powers-append [] ys = omega arith
powers-append (x ∷ xs) ys = let rest = powers-append xs ys in omega (arith, rest)

powers_most : (n : ℕ) (qs : List ℕ) → All (λ q. q < n) qs → powers qs ≤ times_of (length qs) (power n)
powers_most n [] all = omega arith
powers_most n (q ∷ qs) all =
    let here = power_less q n (all 0 q (omega arith)) in
    let rest = powers_most n qs (λ k d within. all (suc k) d (omega (arith, within))) in
    omega (arith, here, rest)

-- ---- the work that is left

module _ (v w : QueuedBlocks) (specs : w.queues.specs ≡ v.queues.specs) where
  -- messages have moved on, whatever is enabled
  pub falls_on : weigh w.arena.shelves < weigh v.arena.shelves → length w.queues.run ≤ length w.queues.specs → All (λ q. q < length w.queues.specs) w.queues.run → work w < work v
  unfolding work
  falls_on less short below =
      let count = length v.queues.specs in
      let same : length w.queues.specs ≡ length v.queues.specs = ap length specs in
      let run = powers_most (length w.queues.specs) w.queues.run below in
      let bound = times_of_le (length w.queues.run) (length w.queues.specs) (power (length w.queues.specs)) short in
      let most = ap most_powers same in
      let weight = ap (λ k. times_of (weigh w.arena.shelves) (most_powers k)) same in
      let fewer = times_of_le (suc (weigh w.arena.shelves)) (weigh v.arena.shelves) (most_powers (length v.queues.specs)) less in
      omega (arith, run, bound, most, weight, fewer)

  -- no message has moved, and less is enabled
  pub falls_still : weigh w.arena.shelves ≡ weigh v.arena.shelves → powers w.queues.run < powers v.queues.run → work w < work v
  unfolding work
  falls_still same less =
      let weight : times_of (weigh w.arena.shelves) (most_powers (length w.queues.specs)) ≡ times_of (weigh v.arena.shelves) (most_powers (length v.queues.specs)) =
      λ i. times_of (same i) (most_powers (length (specs i))) in
      omega (arith, weight, less)

-- ---- a service that moves no message

-- enabling the waker adds less than the power of the queue
enabled_powers : (p : ℕ) (s : QueueState) → powers (with_enabled p s).run ≤ power p + powers s.run
enabled_powers p s = by_test ((spec_at s.specs p).service && not (rows.has p s.run))
  where
    by_test : (so : Bool) → (let t : QueueState = if so then record s { run = s.run ++ p ∷ [] } else s in powers t.run ≤ power p + powers s.run)
    by_test true = let joined = powers-append s.run (p ∷ []) in omega (arith, joined)
    by_test false = omega arith

woken_powers : (so : Bool) (q : ℕ) (s : QueueState) → ((p : ℕ) → waker s.specs q ≡ Some p → p < q) → powers (waker_enabled_where so q s).run < power q + powers s.run
woken_powers true q s below = by_waker (waker s.specs q) refl
  where
    by_waker : (o : Option ℕ) → waker s.specs q ≡ o → powers (option_map_or (λ p. with_enabled p s) o s).run < power q + powers s.run
    by_waker None is = let some = power_some q in omega (arith, some)
    by_waker (Some p) is = let less = power_less p q (below p is) in let most = enabled_powers p s in omega (arith, less, most)
woken_powers false q s below = let some = power_some q in omega (arith, some)

module _ (q n : ℕ) (v : QueuedBlocks) (lawful : are_lawful v.queues.specs ≡ true) (within : q < length v.queues.flags) where
  module _ (m : Message) (ms : List Message) where
    abbrev shelf_off : QueuedBlocks
    shelf_off = record v { arena = with_shelf q ms v.arena }

    abbrev settled : QueuedBlocks
    settled = with_queue_settled q shelf_off

    abbrev off : QueuedBlocks
    off = with_first_off q ms v

    abbrev marked : QueuedBlocks
    marked = with_band_wanted n m off

    off_powers : powers off.queues.run < power q + powers v.queues.run
    off_powers = woken_powers (has_relieved shelf_off q) q (with_flags q (flags_left shelf_off q) v.queues) (waker_below v.queues.specs lawful q)

    -- its want-to-read mark is cleared, so that the message that is put back does not enable the queue
    read_off : (flags_of marked q).read ≡ false
    read_off =
        flags_related SameRead (λ f. refl) off.queues.flags (target off.queues.specs n) _ refl q
        ∙ ap (λ (f : Flags). f.read) (get_or-set_same settled.queues.flags q (record (flags_at settled.queues q) { read = false }) opening_flags
        (omega (arith, within, ap length (settled_flags shelf_off q), length-set v.queues.flags q (flags_left shelf_off q))))

    enables_none : (high off read : Bool) → high ≡ false → read ≡ false → (high || (not off && read)) ≡ false
    enables_none high off read low cleared = (λ i. low i || (not off && cleared i)) ∙ and_none off
      where
        and_none : (off : Bool) → (not off && false) ≡ false
        and_none true = refl
        and_none false = refl

    back_powers : (rank_of v.arena.store m == high_rank) ≡ false → powers (with_one_placed q n m false off).queues.run < power q + powers v.queues.run
    back_powers low =
        let so : enables_put_back (flags_of marked q) (rank_of v.arena.store m) ≡ false = enables_none _ (flags_of marked q).noenable (flags_of marked q).read low read_off in
        let same = ap (λ b. powers (enabled_where b q marked.queues).run) so in
        subst (λ k. k < power q + powers v.queues.run) (sym same) off_powers

  first_powers : (ms : List Message) → (hand_first q n ms v).0 ≡ false → powers (hand_first q n ms v).1.queues.run < power q + powers v.queues.run
  first_powers [] stays = let some = power_some q in omega (arith, some)
  first_powers (m ∷ ms) stays =
      subst (λ goes. powers (with_one_placed q n m goes (with_first_off q ms v)).queues.run < power q + powers v.queues.run) (sym stays)
      (back_powers m ms (or_parts (rank_of v.arena.store m == high_rank) _ stays).0)

  pub handed_powers : (handed_on q n v).0 ≡ false → powers (handed_on q n v).1.queues.run < power q + powers v.queues.run
  unfolding handed_on
  handed_powers = first_powers (messages_on v q)

  pub none_powers : (w : QueuedBlocks) → all_forwarded q n v ≡ (0, w) → powers w.queues.run < power q + powers v.queues.run
  unfolding forwarded
  none_powers w none = by_goes (handed_on q n v).0 (handed_on q n v).1 handed_powers none
    where
      by_goes : (goes : Bool) (x : QueuedBlocks) → (goes ≡ false → powers x.queues.run < power q + powers v.queues.run)
          → go_on (forwarded (length (messages_on v q)) q n) (goes, x) ≡ (0, w) → powers w.queues.run < power q + powers v.queues.run
      by_goes true x less is = absurd (omega (arith, ap (λ (p : ℕ × QueuedBlocks). p.0) is))
      by_goes false x less is = subst (λ (y : QueuedBlocks). powers y.queues.run < power q + powers v.queues.run) (ap (λ (p : ℕ × QueuedBlocks). p.1) is) (less refl)
