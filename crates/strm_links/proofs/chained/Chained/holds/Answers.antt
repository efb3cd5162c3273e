use Rattle.std.proofs.Common.{◌&&◌, ◌==◌, ap, arith, sym, ◌∙◌, is_some}
use Rattle.std.specs.Prelude.{not}
use Rattle.std.proofs.Math.Bool.{not-not}
use Rattle.std.proofs.lemmas.Bool.{eq-eqb, ne_eqb}
use Rattle.strm_links.specs.Rows.{holder}
use Rattle.strm_links.specs.Layout.{rows_in}
use Rattle.strm_links.specs.declared.chained.Link.{Link}
use Rattle.strm_links.specs.declared.table.Place.{Place}
use Rattle.strm_links.proofs.linking.Carried.{place_read}
use Rattle.strm_links.proofs.linking.StoredRows.{holder-owner}
use Rattle.strm_links.proofs.chains.Whole.{held_with, room}
use Rattle.strm_links.proofs.chains.Written.{link_read}
use Rattle.strm_links.proofs.chained.Chained.holds.Goals as goal

pub index-node-requires : goal.index-node-requires
index-node-requires g c = omega (arith, c.requires.head, room c.self.invariant c.self.view_is)

pub returns-then-node-len : goal.returns-then-node-len
returns-then-node-len g c =
    let low = room c.self.invariant c.self.view_is in
    let node = c.index-node.result.now in
    let span = ap (λ (l : Link). l.span.len) (link_read _ c.args.head (omega (arith, c.requires.head, low)) c.index-node.ensures) in
    let list = holder-owner c.self.invariant.sound c.args.head ∙ sym (ap (λ (p : Place). p.list) (place_read _ c.args.head node (omega (arith, c.requires.head, low)) c.index-node.ensures)) in
    sym (not-not c.is_none.result) ∙ ap not (sym c.is_none.ensures ∙ ap is_some (c.get.ensures ∙ sym list))
    ∙ ap (λ b. b && not (is_some (holder c.args.head (rows_in c.self.inside.table)))) (sym (eq-eqb _ _ (sym span ∙ c.if-node-len.true))) ∙ sym (held_with c.self.invariant c.self.view_is c.args.head (λ k. k == c.args.len) (ne_eqb 0 c.args.len (λ none. absurd (omega (arith, none, c.requires.some)))))

pub returns-else-node-len : goal.returns-else-node-len
returns-else-node-len g c =
    let span = ap (λ (l : Link). l.span.len) (link_read _ c.args.head (omega (arith, c.requires.head, room c.self.invariant c.self.view_is)) c.index-node.ensures) in
    ne_eqb _ _ c.if-node-len.false ∙ ap (λ b. b && not (is_some (holder c.args.head (rows_in c.self.inside.table)))) (sym (ne_eqb _ _ (λ same. c.if-node-len.false (span ∙ same)))) ∙ sym (held_with c.self.invariant c.self.view_is c.args.head (λ k. k == c.args.len) (ne_eqb 0 c.args.len (λ none. absurd (omega (arith, none, c.requires.some)))))
