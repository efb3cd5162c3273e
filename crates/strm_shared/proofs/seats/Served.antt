-- A served call: what the lock's seat and the desk's know after it.
use Rattle.std.proofs.Common.{◌≡◌, ℕ, ◌+◌, ◌<◌, ◌≤◌, [], ◌∷◌, ◌++◌, length, set, get_or, Option, Some, refl, sym, ap, ◌∙◌, subst, arith}
use Rattle.std.specs.Prelude.{All}
use Rattle.std.proofs.lemmas.List.{length_push}
use Rattle.std.proofs.lemmas.List.Elements.{Contains-get_or}
use Rattle.atomic_table.specs.declared.shared.Seat.{Seat}
use Rattle.atomic_table.specs.Seated.{TableId}
use Rattle.strm_mblk.specs.declared.census.Census.{Census}
use Rattle.strm_mblk.specs.Arena.{census_of}
use Rattle.strm_pool.specs.PoolValue.{PoolValue}
use Rattle.strm_pool.specs.Registers.{Entries}
use Rattle.strm_pool.specs.declared.line.Entry.{Entry}
use Rattle.strm_shared.specs.declared.views.History.{History}
use Rattle.strm_shared.specs.declared.views.Known.{Known}
use Rattle.strm_shared.specs.declared.views.View.{View}
use Rattle.strm_shared.specs.Pairs.{Pair, count_in, pair_at}
use Rattle.strm_shared.specs.Seats.{IsOf, history_after, known_after}
use Rattle.strm_shared.specs.SeatsLayout.{AreEntered, IsKeptBy, IsNextOf, IsSeated, history_at, known_at}
use Rattle.strm_shared.proofs.seats.Seated.{history_is, kept_more, next_pair}
use Rattle.strm_shared.proofs.seats.Desks.{known_is, seated, served_later, served_shown}
use Rattle.strm_shared.proofs.seats.Histories.{last_after, length-served_from}

-- After a served call: w is the pool, u the table of the desk, and x the entry. The lock's seat r has the new pair and the entry at the
-- end of its history, and the facts of the book's invariant. The desk's seat s has seen the pair and has the entry, and the facts of
-- the desk's invariant.
pub record Entered (z : TableId) (o : Pair) (blocks n stamp number calls : ℕ) (w : PoolValue) (u : Entries) (x : Entry) (h : History) (d : Known) (r s : Seat (Unit {0}) View) : Type 0 where
  pub tables : (history_at r).tables ≡ set h.tables number u
  pub listed : (history_at r).pairs ≡ h.pairs ++ pair_at stamp w ∷ []
  pub entered : (history_at r).entries ≡ h.entries ++ x ∷ []
  pub saw : (known_at s).pairs ≡ d.pairs ++ pair_at stamp w ∷ []
  pub served : (known_at s).served ≡ d.served ++ (stamp, x) ∷ []
  pub kept : IsKeptBy z o n stamp w (history_at r) r
  pub seated : IsSeated z o blocks number stamp calls u (known_at s) (Some s)

-- A desk's seat has joined the lock's.
module _ {z : TableId} {o : Pair} {blocks n stamp number seen calls : ℕ} {v : PoolValue} {t : Entries} {h : History} {lock : Seat (Unit {0}) View} {seat : Option (Seat (Unit {0}) View)} {d : Known}
    (kept : IsKeptBy z o n stamp v h lock) (before : IsSeated z o blocks number seen calls t d seat) (is_of : IsOf o.0 h d) where
  -- The desk was served no more calls than the stamp has counted.
  pub few_calls : calls ≤ stamp
  few_calls =
      omega (arith, before.counted, ap length is_of.served, length-served_from (o.0 + 1) d.number h.entries, (last_after o h kept.lawful).0, ap (λ (p : Pair). p.0) kept.last)

  -- The book knows what its registers tell.
  pub table_known : get_or h.tables number [] ≡ t
  table_known = cc (before.number, is_of.table, before.table)

  -- The call has left the pool so.
  module _ (w : PoolValue) (whole : count_in (census_of w.arena) ≡ blocks) where
    follows : IsNextOf o h (pair_at (stamp + 1) w)
    follows = next_pair kept w (whole ∙ sym before.sized)

    -- its pair is later than all that the desk had seen
    pub later : All (λ q. q.0 < stamp + 1) d.pairs
    later = λ k x within. served_later o h d kept.lawful is_of (pair_at (stamp + 1) w) follows _ (Contains-get_or d.pairs k x within)

    module _ (census : Census) (told : census ≡ census_of w.arena) where
      pair_is : (let p : Pair = (stamp + 1, census) in p) ≡ pair_at (stamp + 1) w
      pair_is = ap (λ x. let q : Pair = (stamp + 1, x) in q) told

      -- it may be stored
      pub next : IsNextOf o h (stamp + 1, census)
      next = subst (IsNextOf o h) (sym pair_is) follows

      -- it was stored, and the desk's seat has left
      module _ (e : Entry) (u : Entries) (r s : Seat (Unit {0}) View) (mine : e.desk ≡ number) (stored : AreEntered z (stamp + 1, census) e u h d r s) where
        here : AreEntered z (pair_at (stamp + 1) w) e u h d r s
        here = subst (λ q. AreEntered z q e u h d r s) pair_is stored

        pub entered : Entered z o blocks n (stamp + 1) number (calls + 1) w u e h d r s
        entered = record {
          tables = ap (λ (i : History). i.tables) (history_is z (history_after (pair_at (stamp + 1) w) e u h) [] r here.0) ∙ ap (λ k. set h.tables k u) mine;
          entered = ap (λ (i : History). i.entries) (history_is z (history_after (pair_at (stamp + 1) w) e u h) [] r here.0);
          served = ap (λ (k : Known). k.served) (known_is z (known_after (pair_at (stamp + 1) w) e u d) s here.1);
          listed = ap (λ (i : History). i.pairs) (history_is z (history_after (pair_at (stamp + 1) w) e u h) [] r here.0);
          saw = ap (λ (k : Known). k.pairs) (known_is z (known_after (pair_at (stamp + 1) w) e u d) s here.1);
          kept = kept_more kept w (whole ∙ sym before.sized) e u r (omega (arith, mine, before.number, is_of.below, kept.desks)) here.0;
          seated =
              seated z o blocks number (calls + 1) u (known_after (pair_at (stamp + 1) w) e u d) d.pairs (pair_at (stamp + 1) w) s before.sized here.1 before.number refl
              (length_push d.served (stamp + 1, e) ∙ ap (λ k. k + 1) before.counted) refl
              (served_shown o h d kept.lawful is_of (pair_at (stamp + 1) w) follows e u (mine ∙ sym before.number));
        }
