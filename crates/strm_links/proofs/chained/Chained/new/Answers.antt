use Rattle.std.proofs.Common.{◌≡◌, ◌<◌, ◌+◌, ℕ, replicate, Some, None, ap, arith, refl, sym, subst, ◌∙◌, if◌then◌else◌}
use Rattle.std.specs.Prelude.{nat_lt}
use Rattle.std.proofs.lemmas.Bool.{cond-false, le-ltb}
use Rattle.std.proofs.lemmas.Bool.Decides.{nat_tests}
use Rattle.std.proofs.lemmas.List.{length-map}
use Rattle.strm_links.specs.Rows.{Rows}
use Rattle.strm_links.specs.Layout.{carried_by}
use Rattle.strm_links.specs.ChainLayout.{IsWhole, after_at, links_of, lists_in, loads_of, no_link}
use Rattle.strm_links.specs.ChainLists.{opening_chains}
use Rattle.strm_links.specs.declared.chained.Link.{Link}
use Rattle.strm_links.proofs.chains.Opened.{IsWhole-opened, loads_now, none_linked, opened_is}
use Rattle.strm_links.proofs.chains.Whole.{IsLawful-whole}
use Rattle.strm_links.proofs.chained.Chained.new.Given.{Over}
use Rattle.strm_links.proofs.chained.Chained.new.Goals as goal
use Rattle.strm_links.proofs.chained.Chained.new.Goals.{After-first_of, In_ok-table}

carried : (g : Over) (c : In_ok-table g) → carried_by c.in_ok-table.table.nodes.items ≡ replicate c.args.nodes (no_link, c.args.load)
carried g c = c.in_ok-table.ensures.carried ∙ ap (λ (l : Link). replicate c.args.nodes (l, c.args.load)) c.none.ensures

pub loop-number-init : goal.loop-number-init
loop-number-init g c =
    let at = (goal.at.loop-number-init g c).In_ok-table in
    record {
      len = omega (arith, ap (λ (r : Rows). r.nodes) c.in_ok-table.ensures.rows, length-map c.in_ok-table.table.nodes.items (λ n. n.place));
      leads = λ k. ap (λ (l : Link). l.next) (none_linked c.args.nodes c.args.load c.in_ok-table.table.nodes.items (carried g at) k) ∙ sym (cond-false _ _ _ (le-ltb (k + 1) 1 (omega arith)));
      spans = λ k. ap (λ (l : Link). l.span) (none_linked c.args.nodes c.args.load c.in_ok-table.table.nodes.items (carried g at) k);
      rest = refl;
      ends = refl;
    }

pub lead-requires : goal.lead-requires
lead-requires g c = omega (arith, c.loop-number.invariant.len)

pub loop-number-preserved : goal.loop-number-preserved
loop-number-preserved g c = record {
  len = omega (arith, c.lead.ensures.len, c.loop-number.invariant.len);
  leads = λ k. grind (arith, nat_tests, c.lead.ensures.nexts k, c.loop-number.invariant.leads k, c.some.ensures);
  spans = λ k. c.lead.ensures.spans k ∙ c.loop-number.invariant.spans k;
  rest = c.lead.ensures.rest ∙ c.loop-number.invariant.rest;
  ends = c.loop-number.invariant.ends;
}

-- after the loop each node leads on to the next
module _ (g : Over) (c : After-first_of g) (carried : carried_by c.in_ok-table.table.nodes.items ≡ replicate c.args.nodes (no_link, c.args.load)) where
  leads : (k : ℕ) → k < c.args.nodes → after_at (links_of c.loop-number.table.nodes.items) k ≡ (if nat_lt (k + 1) c.args.nodes then Some (k + 1) else None)
  leads k within =
      let last : c.loop-number.number ≡ c.args.nodes = omega (arith, within, c.loop-number-test.false, c.loop-number.auto.number-end) in
      c.loop-number.invariant.leads k ∙ ap (λ n. if nat_lt (k + 1) n then Some (k + 1) else None) last

  made : (IsWhole c.loop-number.table c.first_of.result c.args.nodes c.args.nodes) × (lists_in c.loop-number.table c.first_of.result c.args.nodes c.args.nodes ≡ opening_chains c.args.nodes c.args.shelves)
      × (loads_of c.loop-number.table.nodes.items ≡ replicate c.args.nodes c.args.load)
  made =
      let new = c.loop-number.table in
      let old = c.in_ok-table.table in
      let known = c.in_ok-table.ensures in
      let left = c.loop-number.invariant in (
        subst (λ o. IsWhole new o c.args.nodes c.args.nodes) (sym c.first_of.ensures)
            (IsWhole-opened c.args.shelves c.args.load old new known.sound known.rows carried left.rest left.ends c.ranges.nodes.fits left.len leads left.spans),
        (λ i. lists_in new (c.first_of.ensures i) c.args.nodes c.args.nodes)
            ∙ opened_is c.args.shelves c.args.load old new known.sound known.rows carried left.rest left.ends c.ranges.nodes.fits left.len leads left.spans,
        loads_now c.args.shelves c.args.load old new known.sound known.rows carried left.rest left.ends c.ranges.nodes.fits left.len leads left.spans,
      )

pub invariant_of-result : goal.invariant_of-result
invariant_of-result g c = let at = goal.at.invariant_of-result g c in (made g at.After-first_of (carried g at.In_ok-table)).0

pub returns : goal.returns
returns g c =
    let at = goal.at.returns g c in
    let both = made g at.After-first_of (carried g at.In_ok-table) in
    record { opened = both.1; loads = both.2; parted = IsLawful-whole both.0 }
