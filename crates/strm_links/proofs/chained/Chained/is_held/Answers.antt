use Rattle.std.proofs.Common.{◌&&◌, ap, arith, sym, ◌∙◌, is_some}
use Rattle.std.specs.Prelude.{not}
use Rattle.std.proofs.Math.Bool.{not-not}
use Rattle.std.proofs.lemmas.Bool.{le-ltb, lt-ltb}
use Rattle.strm_links.specs.Rows.{holder}
use Rattle.strm_links.specs.Layout.{rows_in}
use Rattle.strm_links.specs.declared.chained.Link.{Link}
use Rattle.strm_links.specs.declared.table.Place.{Place}
use Rattle.strm_links.proofs.linking.Carried.{place_read}
use Rattle.strm_links.proofs.linking.StoredRows.{holder-owner}
use Rattle.strm_links.proofs.chains.Whole.{held_here, room}
use Rattle.strm_links.proofs.chains.Written.{link_read}
use Rattle.strm_links.proofs.chained.Chained.is_held.Goals as goal

pub index-node-requires : goal.index-node-requires
index-node-requires g c = omega (arith, c.requires, room c.self.invariant c.self.view_is)

pub returns-then-node-gt0 : goal.returns-then-node-gt0
returns-then-node-gt0 g c =
    let low = room c.self.invariant c.self.view_is in
    let node = c.index-node.result.now in
    let span = ap (λ (l : Link). l.span.len) (link_read _ c.args.head (omega (arith, c.requires, low)) c.index-node.ensures) in
    let list = holder-owner c.self.invariant.sound c.args.head ∙ sym (ap (λ (p : Place). p.list) (place_read _ c.args.head node (omega (arith, c.requires, low)) c.index-node.ensures)) in
    sym (not-not c.is_none.result) ∙ ap not (sym c.is_none.ensures ∙ ap is_some (c.get.ensures ∙ sym list))
    ∙ ap (λ b. b && not (is_some (holder c.args.head (rows_in c.self.inside.table)))) (sym (lt-ltb 0 _ (omega (arith, span, c.if-node-gt0.true)))) ∙ sym (held_here c.self.invariant c.self.view_is c.args.head)

pub returns-else-node-gt0 : goal.returns-else-node-gt0
returns-else-node-gt0 g c =
    let span = ap (λ (l : Link). l.span.len) (link_read _ c.args.head (omega (arith, c.requires, room c.self.invariant c.self.view_is)) c.index-node.ensures) in
    le-ltb 0 _ c.if-node-gt0.false ∙ ap (λ b. b && not (is_some (holder c.args.head (rows_in c.self.inside.table)))) (sym (le-ltb 0 _ (omega (arith, span, c.if-node-gt0.false)))) ∙ sym (held_here c.self.invariant c.self.view_is c.args.head)
