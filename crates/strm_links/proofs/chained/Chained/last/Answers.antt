use Rattle.std.proofs.Common.{◌<◌, ap, arith, length, sym, ◌∙◌}
use Rattle.strm_links.specs.Rows.{last}
use Rattle.strm_links.specs.Layout.{rows_in}
use Rattle.strm_links.proofs.linking.TableCalls.{back_is}
use Rattle.strm_links.proofs.linking.StoredRows.{ends_read}
use Rattle.strm_links.proofs.chains.Whole.{heads_at, shelf_room}
use Rattle.strm_links.proofs.chained.Chained.last.Goals as goal

pub returns : goal.returns
returns g c =
    let laid = c.self.invariant.sound in
    let within : c.args.shelf < length (rows_in c.self.inside.table).lists = omega (arith, c.requires, shelf_room c.self.invariant c.self.view_is) in
    c.get.ensures ∙ back_is _ _ _ laid c.args.shelf within _ (ends_read laid c.args.shelf within c.index.ensures) ∙ ap last (sym (heads_at c.self.invariant c.self.view_is c.args.shelf))
