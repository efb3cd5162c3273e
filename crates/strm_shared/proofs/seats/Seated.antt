-- What a seat knows once it has taken a step, and the lock's seat.
use Rattle.std.proofs.Common.{◌≡◌, ℕ, ◌≤◌, List, [], ◌∷◌, map, sym, ap, ◌∙◌, subst, ◌+◌, ◌<◌, arith}
use Rattle.std.specs.Prelude.{All}
use Rattle.atomic_table.specs.Table.{Me}
use Rattle.strm_links.specs.Counting.{times}
use Rattle.strm_pool.specs.Registers.{Entries}
use Rattle.strm_pool.specs.declared.line.Entry.{Entry}
use Rattle.atomic_table.specs.declared.shared.Seat.{Seat}
use Rattle.atomic_table.specs.Seated.{TableId}
use Rattle.strm_mblk.specs.Arena.{census_of}
use Rattle.strm_pool.specs.PoolValue.{PoolValue}
use Rattle.strm_shared.specs.declared.views.History.{History}
use Rattle.strm_shared.specs.declared.views.Known.{Known}
use Rattle.strm_shared.specs.declared.views.View.{View}
use Rattle.strm_shared.specs.declared.views.View.TheVariants.{Lock, At}
use Rattle.strm_shared.specs.Pairs.{Pair, count_in, last_pair, ArePairs, pair_at}
use Rattle.strm_shared.specs.Seats.{IsHistory, IsOf, Shows, guest_of, history_after, history_with_desk, known_after, new_desk_of, new_known, view_after, view_with_pair, with_desk, with_guest, with_pair, without_guest}
use Rattle.strm_shared.specs.SeatsLayout.{IsKeptBy, IsLock, IsNextOf, history_at, history_of}
use Rattle.strm_shared.proofs.seats.Histories.{last_after, history_more, last_pair-push}

-- ---- what a seat knows once it has taken a step

-- a seat's view, and the slots that it holds: none
abbrev pub Mine : Type 0
Mine = Me (Unit {0}) View

module _ (m : Mine) (h : History) (gs : List Known) (is : m ≡ (Lock h gs, [])) where
  -- after a join
  pub joined : (other n : Mine) (d : Known) → other ≡ (At d, []) → n ≡ (with_guest m.0 other.0, m.1) → n ≡ (Lock h (d ∷ gs), [])
  joined other n d at step = step ∙ (λ i. (with_guest (is i).0 (at i).0, (is i).1))

  -- after a store
  pub stored : (n : Mine) (p q : Pair) (e f : Entry) (t u : Entries) → q ≡ p → f ≡ e → u ≡ t → n ≡ (view_after q f u m.0, m.1) → n ≡ (Lock (history_after p e t h) (map (known_after p e t) gs), [])
  stored n p q e f t u same_pair same_entry same_table step = step ∙ (λ i. (view_after (same_pair i) (same_entry i) (same_table i) (is i).0, (is i).1))

  -- after a load that guests see
  pub looked : (n : Mine) (p : Pair) → n ≡ (view_with_pair p m.0, m.1) → n ≡ (Lock h (map (with_pair p) gs), [])
  looked n p step = step ∙ (λ i. (view_with_pair p (is i).0, (is i).1))

  -- after the split of a new desk
  pub opened : (n : Mine) → n ≡ (with_desk m.0, m.1) → n ≡ (Lock (history_with_desk h) gs, [])
  opened n step = step ∙ (λ i. (with_desk (is i).0, (is i).1))

  pub new_desk : (n : Mine) → n ≡ (new_desk_of m.0, []) → n ≡ (At (new_known h), [])
  new_desk n step = step ∙ (λ i. (new_desk_of (is i).0, []))

  -- what is shown of the lock's view
  pub lock_shown : (o p : Pair) → Shows o p m.0 → IsHistory o h × (last_pair h.pairs ≡ p) × All (IsOf o.0 h) gs × ((n : ℕ) → times n (map (λ (d : Known). d.number) gs) ≤ 1)
  lock_shown o p shows =
      let s : Shows o p (Lock h gs) = subst (λ (x : Mine). Shows o p x.0) is shows in
      (subst (IsHistory o) (sym s.view.history) s.lawful, ap (λ x. last_pair x.pairs) s.view.history ∙ s.last, subst (λ x. All (IsOf o.0 x) gs) (sym s.view.history) s.view.desks, s.apart)

module _ (m : Mine) (h : History) (g : Known) (gs : List Known) (is : m ≡ (Lock h (g ∷ gs), [])) where
  -- after a guest has left
  pub left : (n : Mine) → n ≡ (without_guest m.0, m.1) → n ≡ (Lock h gs, [])
  left n step = step ∙ (λ i. (without_guest (is i).0, (is i).1))

  pub guest : (n : Mine) → n ≡ (guest_of m.0, []) → n ≡ (At g, [])
  guest n step = step ∙ (λ i. (guest_of (is i).0, []))

-- a pair that is shown counts the blocks of the pool
pub shown_whole : (o p : Pair) (v : View) → Shows o p v → count_in p.1 ≡ count_in o.1
shown_whole o p v shows = ap (λ q. count_in q.1) (sym shows.last) ∙ (last_after o shows.history shows.lawful).1

-- ---- the lock's seat: what its view has, and how the book's invariant is kept

-- ---- what the seat's view has

pub history_is : (z : TableId) (h : History) (gs : List Known) (s : Seat (Unit {0}) View) → IsLock z h gs s → history_at s ≡ h
history_is z h gs s is = ap (λ (m : Mine). history_of m.0) is.1

-- ---- the book's invariant

pub kept : (z : TableId) (o : Pair) (n stamp : ℕ) (v : PoolValue) (h : History) (s : Seat (Unit {0}) View)
    → IsLock z h [] s → IsHistory o h → last_pair h.pairs ≡ pair_at stamp v → h.desks ≡ n → IsKeptBy z o n stamp v (history_at s) s
kept z o n stamp v h s here lawful last desks =
    subst (λ i. IsKeptBy z o n stamp v i s) (sym (history_is z h [] s here)) (record { here = here; lawful = lawful; last = last; desks = desks })

module _ {z : TableId} {o : Pair} {n stamp : ℕ} {v : PoolValue} {h : History} {s : Seat (Unit {0}) View} (is : IsKeptBy z o n stamp v h s) where
  -- the pairs of a book
  pub pairs_lawful : ArePairs o stamp v h.pairs
  pairs_lawful = record { some = omega (arith, is.lawful.entered); opened = is.lawful.opened; rising = is.lawful.rising; last = is.last }

  module _ (w : PoolValue) (whole : count_in (census_of w.arena) ≡ count_in o.1) where
    -- the pair that comes next
    pub next_pair : IsNextOf o h (pair_at (stamp + 1) w)
    next_pair = record { stamp = omega (arith, ap (λ (q : Pair). q.0) is.last); whole = whole }

    -- once it is there
    pub kept_more : (e : Entry) (t : Entries) (r : Seat (Unit {0}) View) → e.desk < n
        → IsLock z (history_after (pair_at (stamp + 1) w) e t h) [] r → IsKeptBy z o n (stamp + 1) w (history_at r) r
    kept_more e t r there here =
        let p : Pair = pair_at (stamp + 1) w in
        kept z o n (stamp + 1) w (history_after p e t h) r here
        (history_more o h p e t is.lawful next_pair (omega (arith, there, is.desks)))
        (last_pair-push h.pairs p)
        is.desks
