use Rattle.std.proofs.Common.{rules, ◌≡◌, ℕ, ◌≤◌, List, [], ◌∷◌, ◌∙◌, map, refl, sym, ap, subst, length, append-nil, arith}
use Rattle.std.specs.Prelude.{All, IsPermutation}
use Rattle.std.specs.List.Sorted.{IsNonDecreasingBy}
use Rattle.std.proofs.lemmas.List.{length-map}
use Rattle.std.proofs.lemmas.List.Sorted.{IsPermutation-map, length_permutation, sum_by-IsPermutation}
use Rattle.std.proofs.lemmas.List.Sums.{sum_by-cons}
use Rattle.strm_links.specs.Counting.{times}
use Rattle.strm_shared.specs.Desks.{DeskValue, with_pair_seen}
use Rattle.strm_shared.specs.Ledger.{blocks_at, blocks_held}
use Rattle.strm_shared.specs.Pairs.{Pair, pair_at}
use Rattle.strm_shared.specs.SeatsLayout.{IsDeskOfHistory, history_at}
use Rattle.strm_shared.proofs.Gathering.{all_accounted, all_owned, number_at, sorted_shown}
use Rattle.strm_shared.proofs.Telling.{told_at}
use Rattle.strm_shared.proofs.seats.Seated.{pairs_lawful}
use Rattle.strm_shared.proofs.shared.Shared.gather.Given as given
use Rattle.strm_shared.proofs.shared.Shared.gather.Goals as goal
use Rattle.strm_shared.proofs.shared.Shared.gather.Goals.{After-meet}

-- what desks have seen is no block that they hold
blocks_at-shown : (p : Pair) (ds : List DeskValue) → blocks_at (map (with_pair_seen p) ds) ≡ blocks_at ds
blocks_at-shown p [] = refl
blocks_at-shown p (d ∷ ds) =
    cc (sum_by-cons (λ (x : DeskValue). blocks_held x.regs) (with_pair_seen p d) (map (with_pair_seen p) ds), blocks_at-shown p ds, sum_by-cons (λ (x : DeskValue). blocks_held x.regs) d ds)

-- each desk has met the lock's history, whose pool is that of the name
met : (g : given.Over) (c : After-meet g) → All (IsDeskOfHistory c.pool.inside.pool.arena.id g.N.Name.desks g.N.Name.first (history_at c.pool.inside.seat)) c.meet.new.self
met g c =
    subst (λ id. All (IsDeskOfHistory id g.N.Name.desks g.N.Name.first (history_at c.pool.inside.seat)) c.meet.new.self) (sym c.pool.invariant.book.same)
    (c.meet.ensures.met (history_at c.pool.inside.seat) [] c.pool.invariant.seat.here)

pub meet-requires : goal.meet-requires
meet-requires g c = (
  omega arith,
  ((history_at c.pool.inside.seat, [], c.pool.invariant.seat.here), omega (arith, length_permutation c.audit.new.self c.sort.new.self c.sort.ensures.same, ap length c.audit.ensures.same, c.len.ensures.few)),
)

pub returns-clause-shown : goal.returns-clause-shown
returns-clause-shown g c =
    let b = c.pool.inside in
    let kept = c.pool.invariant.seat in
    let h = history_at b.seat in
    let there = c.meet.ensures.met h [] kept.here in
    let last : c.meet.result ≡ pair_at b.stamp b.pool = sym (c.meet.ensures.guests h [] kept.here).last ∙ kept.last in
    record {
      stamp = b.stamp;
      pairs = h.pairs;
      entries = h.entries;
      tables = h.tables;
      told = c.pool.invariant.told;
      counted = told_at c.pool.invariant.told;
      kept = search rules;
      lawful = pairs_lawful kept;
      same =
          subst (IsPermutation (map (with_pair_seen (pair_at b.stamp b.pool)) c.args.desks)) (sym (c.meet.ensures.shown ∙ ap (λ (p : Pair). map (with_pair_seen p) c.sort.new.self) last))
          (IsPermutation-map (with_pair_seen (pair_at b.stamp b.pool)) c.args.desks c.sort.new.self (subst (λ (ds : List DeskValue). IsPermutation ds c.sort.new.self) c.audit.ensures.same c.sort.ensures.same));
      seen = λ k d within. (there k d within).pairs;
      served = λ k d within. (there k d within).served;
      known = λ k d within. (there k d within).table;
    }

pub returns-clause-sorted : goal.returns-clause-sorted
returns-clause-sorted g c = subst (IsNonDecreasingBy (λ (d : DeskValue). d.number)) (sym c.meet.ensures.shown) (sorted_shown c.meet.result c.sort.new.self c.sort.ensures.sorted)

pub returns-clause-all : goal.returns-clause-all
returns-clause-all g c =
    let enough : g.N.Name.desks ≤ length c.args.desks = search rules in
    record {
      whole = c.lawful.ensures.whole ∙ c.pool.invariant.ledger.sized;
      held =
          sym c.pool.invariant.ledger.counted
          ∙ c.audit.ensures.all enough
          ∙ ap blocks_at (sym c.audit.ensures.same)
          ∙ sym (sum_by-IsPermutation (λ (d : DeskValue). blocks_held d.regs) c.audit.new.self c.sort.new.self c.sort.ensures.same)
          ∙ sym (blocks_at-shown c.meet.result c.sort.new.self)
          ∙ ap blocks_at (sym c.meet.ensures.shown);
    }

pub returns-clause-owned : goal.returns-clause-owned
returns-clause-owned g c =
    let at = (goal.at.returns-clause-owned g c).After-meet in
    all_owned g.N.Name.desks g.N.Name.first (history_at c.pool.inside.seat) c.pool.inside.pool c.meet.new.self (met g at) c.pool.invariant.book.accounted c.pool.invariant.book.tables

-- they are in the order of their numbers, of which none stands twice, and all came
in_order : (g : given.Over) (c : After-meet g) → IsNonDecreasingBy (λ (d : DeskValue). d.number) c.meet.new.self
in_order g c = subst (IsNonDecreasingBy (λ (d : DeskValue). d.number)) (sym c.meet.ensures.shown) (sorted_shown c.meet.result c.sort.new.self c.sort.ensures.sorted)

once : (g : given.Over) (c : After-meet g) → (n : ℕ) → times n (map (λ (d : DeskValue). d.number) c.meet.new.self) ≤ 1
once g c n =
    subst (λ (ns : List ℕ). times n ns ≤ 1) (append-nil (map (λ (d : DeskValue). d.number) c.meet.new.self))
    (c.meet.ensures.apart (history_at c.pool.inside.seat) [] c.pool.invariant.seat.here n)

all_came : (g : given.Over) (c : After-meet g) → length c.args.desks ≡ g.N.Name.desks → length c.meet.new.self ≡ g.N.Name.desks
all_came g c enough =
    cc (c.meet.ensures.shown, length-map c.sort.new.self (with_pair_seen c.meet.result), length_permutation c.audit.new.self c.sort.new.self c.sort.ensures.same, c.audit.ensures.same, enough)

pub returns-clause-numbered : goal.returns-clause-numbered
returns-clause-numbered g c =
    let at = (goal.at.returns-clause-numbered g c).After-meet in
    let enough : length c.args.desks ≡ g.N.Name.desks = search rules in
    let all = all_came g at enough in
    λ k within. number_at c.meet.new.self (in_order g at) (once g at) (λ j d inside. omega (arith, (met g at j d inside).desk.below, all)) k (omega (arith, within, all))

pub returns-clause-accounted : goal.returns-clause-accounted
returns-clause-accounted g c =
    let at = (goal.at.returns-clause-accounted g c).After-meet in
    let enough : length c.args.desks ≡ g.N.Name.desks = search rules in
    all_accounted g.N.Name.desks g.N.Name.first (history_at c.pool.inside.seat) c.pool.inside.pool c.meet.new.self (met g at) c.pool.invariant.book.accounted c.pool.invariant.book.tables (in_order g at) (once g at) (all_came g at enough)
