use Rattle.std.proofs.Common.{rules, ◌≡◌, [], length, sym, ap, ◌∙◌, subst, arith}
use Rattle.std.proofs.lemmas.List.{length-replicate}
use Rattle.strm_mblk.specs.Arena.{census_of}
use Rattle.strm_pool.specs.PoolValue.{PoolValue}
use Rattle.strm_pool.specs.Registers.{AreAccounted}
use Rattle.strm_pool.proofs.Accounts.{accounted_idle}
use Rattle.strm_shared.specs.Books.{BookValue}
use Rattle.strm_shared.specs.Chronicle.{AreTold}
use Rattle.strm_shared.specs.Pairs.{count_in, pair_at}
use Rattle.strm_shared.specs.Seats.{no_entries, opening_history}
use Rattle.strm_shared.specs.SeatsLayout.{book_with, history_at}
use Rattle.strm_shared.specs.Starts.{StartValue}
use Rattle.strm_shared.specs.Traces.{IsTraceOf}
use Rattle.strm_shared.specs.declared.views.History.{History}
use Rattle.strm_shared.proofs.Telling.{told_first, trace_first}
use Rattle.strm_shared.proofs.seats.Seated.{history_is, kept}
use Rattle.strm_shared.proofs.seats.Histories.{history_begins}
use Rattle.strm_shared.proofs.start.Start.open.Goals as goal

pub invariant_of-book : goal.invariant_of-book
invariant_of-book g c =
    let n = g.N.Name in
    let o = pair_at n.first n.opened in
    let s = c.self.inside in
    let pool : n.opened ≡ s.pool = c.requires.opened ∙ sym (ap (λ (x : StartValue). x.pool) c.self.view_is) in
    let first : n.first ≡ s.first_stamp = c.requires.begun ∙ sym (ap (λ (x : StartValue). x.first) c.self.view_is) in
    let desks : n.desks ≡ s.desks = c.requires.counted ∙ sym (ap (λ (x : StartValue). x.desks) c.self.view_is) in
    let trace : n.kept ≡ s.trace.most = c.requires.kept ∙ sym (ap (λ (x : StartValue). x.kept) c.self.view_is) in
    let history : opening_history o n.desks ≡ history_at c.hand_out-desks.new.lock = ap (opening_history o) desks ∙ sym (history_is n.board _ [] c.hand_out-desks.new.lock c.hand_out-desks.ensures.lock) in record {
      book = record {
        same = ap (λ (v : PoolValue). v.arena.id) (sym pool);
        begun = omega (arith, first);
        unspent = c.self.invariant.ready.unspent;
        tables = ap (λ (h : History). length h.tables) (sym history) ∙ length-replicate n.desks no_entries;
        accounted = subst (λ (h : History). AreAccounted s.pool.arena h.tables) history (accounted_idle s.pool.arena n.desks c.lawful.ensures.parted c.self.invariant.ready.idle);
      };
      ledger = search rules;
      seat = kept n.board o n.desks s.first_stamp s.pool (opening_history o s.desks) c.hand_out-desks.new.lock c.hand_out-desks.ensures.lock
          (history_begins o s.desks (omega (arith, c.lawful.ensures.whole, c.lawful.ensures.few, ap (λ (v : PoolValue). count_in (census_of v.arena)) pool)))
          (λ i. pair_at (first i) (pool i))
          (sym desks);
      told = subst (λ (b : BookValue). AreTold n.opened n.desks n.first b.stamp b.entries b.pool b.tables b.pairs)
          (λ i. book_with (history i) (pool i) (first i) s.trace)
          (told_first n.opened n.desks n.first);
      trace = subst (λ (h : History). IsTraceOf n.kept h.entries s.trace) history (trace_first n.kept s.trace (sym trace) c.self.invariant.ready.blank);
    }
