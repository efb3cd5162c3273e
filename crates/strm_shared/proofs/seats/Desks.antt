-- The seats of desks: what a desk knows once it has taken a step, and what holds of all that it knows.
use Rattle.std.proofs.Common.{◌≡◌, ℕ, ◌-◌, ◌<◌, ◌≤◌, List, [], ◌∷◌, ◌++◌, length, get_or, Option, Some, refl, sym, ap, ◌∙◌, subst, inl, inr, arith, length-append}
use Rattle.std.specs.Prelude.{Contains}
use Rattle.std.proofs.lemmas.Bool.{cases_eq}
use Rattle.std.proofs.lemmas.List.Elements.{All-contains, All-cons, All-head, All-nil, Contains-append_left, Contains-get_or}
use Rattle.atomic_table.specs.declared.shared.Seat.{Seat}
use Rattle.atomic_table.specs.Seated.{TableId}
use Rattle.strm_links.specs.Counting.{times}
use Rattle.strm_links.proofs.lists.Counting.{times_here, times_other}
use Rattle.strm_pool.specs.Registers.{Entries}
use Rattle.strm_pool.specs.declared.line.Entry.{Entry}
use Rattle.strm_shared.specs.declared.views.History.{History}
use Rattle.strm_shared.specs.declared.views.Known.{Known}
use Rattle.strm_shared.specs.declared.views.View.{View}
use Rattle.strm_shared.specs.declared.views.View.TheVariants.{At}
use Rattle.strm_shared.specs.Pairs.{AreSeen, Pair, count_in, last_pair, no_pair}
use Rattle.strm_shared.specs.Seats.{IsHistory, IsOf, Shows, history_after, history_with_desk, known_after, new_known, with_pair}
use Rattle.strm_shared.specs.SeatsLayout.{IsAt, IsNextOf, IsSeated, known_at, known_of}
use Rattle.strm_shared.proofs.seats.Seated.{Mine}
use Rattle.strm_shared.proofs.seats.Histories.{history_more, history_wider, last_pair-push, of_new, of_served, pair_at_stamp, pair_before}

-- ---- what is shown of a desk

once : (n m : ℕ) → times n (m ∷ []) ≤ 1
once n m =
    elim (cases_eq m n) [
      | inl same ↦ omega (arith, times_here n m [] same)
      | inr other ↦ omega (arith, times_other n m [] other)
    ]

module _ (o : Pair) (h : History) (d : Known) where
  -- a desk that is of a history has seen the last pair of it
  pub desk_shown : (p : Pair) → IsHistory o h → last_pair h.pairs ≡ p → IsOf o.0 h d → Shows o p (At d)
  desk_shown p lawful last is = record {
    history = h;
    lawful = lawful;
    last = last;
    view = record { history = tt; desks = All-cons (IsOf o.0 h) d [] is (All-nil (IsOf o.0 h)) };
    apart = λ n. once n d.number;
  }

  -- a call is served on it: each pair that it knew is older, and it has seen the new one
  module _ (lawful : IsHistory o h) (is : IsOf o.0 h d) (p : Pair) (next : IsNextOf o h p) where
    pub served_later : (q : Pair) → Contains d.pairs q → q.0 < p.0
    served_later q has = omega (arith, (pair_before o h lawful q (All-contains (Contains h.pairs) d.pairs q is.pairs has)).0, next.stamp)

    pub served_shown : (e : Entry) (t : Entries) → e.desk ≡ d.number → Shows o p (At (known_after p e t d))
    served_shown e t mine =
        let there : e.desk < h.desks = omega (arith, mine, is.below) in record {
          history = history_after p e t h;
          lawful = history_more o h p e t lawful next there;
          last = last_pair-push h.pairs p;
          view = record {
            history = tt;
            desks = All-cons (IsOf o.0 (history_after p e t h)) (known_after p e t d) [] (of_served o h p e t lawful next there d mine is) (All-nil (IsOf o.0 (history_after p e t h)));
          };
          apart = λ n. once n d.number;
        }

-- a new desk has seen the last pair
pub new_shown : (o : Pair) (h : History) → IsHistory o h → Shows o (last_pair h.pairs) (At (new_known h))
new_shown o h lawful = desk_shown o (history_with_desk h) (new_known h) (last_pair h.pairs) (history_wider o h lawful) refl (of_new o h lawful)

-- ---- what holds of all that a desk knows

module _ (o p : Pair) (d : Known) (shows : Shows o p (At d)) where
  of_history : (q : Pair) → Contains d.pairs q → Contains shows.history.pairs q
  of_history q has = All-contains (Contains shows.history.pairs) d.pairs q (All-head (IsOf o.0 shows.history) d [] shows.view.desks).pairs has

  -- no pair that it knows is later than the one that it was shown, and each counts the blocks of the pool
  pub known_before : (q : Pair) → Contains d.pairs q → (q.0 ≤ p.0) × (count_in q.1 ≡ count_in o.1)
  known_before q has =
      let before = pair_before o shows.history shows.lawful q (of_history q has) in
      (omega (arith, before.0, ap (λ x. x.0) shows.last), before.1)

  -- one stamp has one census
  pub known_at_stamp : (q r : Pair) → Contains d.pairs q → Contains d.pairs r → q.0 ≡ r.0 → q ≡ r
  known_at_stamp q r has_q has_r same = pair_at_stamp o shows.history shows.lawful q r (of_history q has_q) (of_history r has_r) same

-- a load tells nothing older than what the desk had seen last
pub seen_before : (z : TableId) (o : Pair) (blocks n stamp calls : ℕ) (t : Entries) (d : Known) (s : Option (Seat (Unit {0}) View)) (p : Pair)
    → IsSeated z o blocks n stamp calls t d s → Shows o p (At (with_pair p d)) → (last_pair d.pairs).0 ≤ p.0
seen_before z o blocks n stamp calls t d s p is shows =
    let some = is.some in
    let last : Contains d.pairs (last_pair d.pairs) = Contains-get_or d.pairs (length d.pairs - 1) no_pair (omega (arith, some)) in
    (known_before o p (with_pair p d) shows (last_pair d.pairs) (Contains-append_left d.pairs (p ∷ []) (last_pair d.pairs) last)).0

-- all that a desk has seen
pub seen_lawful : (z : TableId) (o : Pair) (blocks n stamp calls : ℕ) (t : Entries) (d : Known) (s : Option (Seat (Unit {0}) View)) → IsSeated z o blocks n stamp calls t d s → AreSeen blocks d.pairs
seen_lawful z o blocks n stamp calls t d s is =
    let before : (q : Pair) → Contains d.pairs q → (q.0 ≤ (last_pair d.pairs).0) × (count_in q.1 ≡ count_in o.1) = known_before o (last_pair d.pairs) d is.shows in
    record {
      some = is.some;
      latest = λ k x within. (before (get_or d.pairs k x) (Contains-get_or d.pairs k x within)).0;
      one = λ p q has_p has_q same. ap (λ (r : Pair). r.1) (known_at_stamp o (last_pair d.pairs) d is.shows p q has_p has_q same);
      whole = λ k x within. (before (get_or d.pairs k x) (Contains-get_or d.pairs k x within)).1 ∙ is.sized;
    }

-- ---- seats

some_same : (s r : Seat (Unit {0}) View) → Some s ≡ Some r → s ≡ r
some_same s r same = cc (same)

-- what a desk knows whose seat is there
pub known_is : (z : TableId) (d : Known) (s : Seat (Unit {0}) View) → IsAt z d s → known_at s ≡ d
known_is z d s here = ap (λ (m : Mine). known_of m.0) here.1

-- where a desk's seat is
pub seat_is : {z : TableId} {o : Pair} {blocks n stamp calls : ℕ} {t : Entries} {d : Known} {s : Option (Seat (Unit {0}) View)} {seat : Seat (Unit {0}) View}
    → s ≡ Some seat → IsSeated z o blocks n stamp calls t d s → IsAt z d seat
seat_is {z} {o} {blocks} {n} {stamp} {calls} {t} {d} {s} {seat} there is = subst (IsAt z d) (some_same is.seat seat (sym is.there ∙ there)) is.here

-- a desk's seat after a step, by which it has seen this pair
pub seated : (z : TableId) (o : Pair) (blocks n calls : ℕ) (t : Entries) (d : Known) (ps : List Pair) (p : Pair) (s : Seat (Unit {0}) View)
    → count_in o.1 ≡ blocks → IsAt z d s → d.number ≡ n → d.table ≡ t → length d.served ≡ calls → d.pairs ≡ ps ++ p ∷ [] → Shows o p (At d) → IsSeated z o blocks n p.0 calls t (known_at s) (Some s)
seated z o blocks n calls t d ps p s sized here number table counted pairs shows =
    let last : last_pair d.pairs ≡ p = ap last_pair pairs ∙ last_pair-push ps p in
    subst (λ k. IsSeated z o blocks n p.0 calls t k (Some s)) (sym (known_is z d s here)) (record {
      seat = s;
      there = refl;
      here = here;
      number = number;
      table = table;
      counted = counted;
      sized = sized;
      some = omega (arith, ap length pairs, length-append ps (p ∷ []));
      seen = ap (λ (q : Pair). q.0) last;
      shows = subst (λ q. Shows o q (At d)) (sym last) shows;
    })

-- and after one that shows it a pair and changes nothing else
pub seated_shown : {z : TableId} {o : Pair} {blocks n stamp calls : ℕ} {t : Entries} {d : Known} {before : Option (Seat (Unit {0}) View)} (p : Pair) (s : Seat (Unit {0}) View)
    → IsSeated z o blocks n stamp calls t d before → IsAt z (with_pair p d) s → Shows o p (At (with_pair p d)) → IsSeated z o blocks n p.0 calls t (known_at s) (Some s)
seated_shown {z} {o} {blocks} {n} {stamp} {calls} {t} {d} p s was here shows = seated z o blocks n calls t (with_pair p d) d.pairs p s was.sized here was.number was.table was.counted refl shows
