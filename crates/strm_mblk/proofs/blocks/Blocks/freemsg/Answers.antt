use Rattle.std.proofs.Common.{◌∙◌, refl, sym}
use Rattle.strm_mblk.proofs.arena.Counts.{spent_had}
use Rattle.strm_mblk.proofs.blocks.Blocks.freemsg.Goals as goal

pub returns-then-has : goal.returns-then-has
returns-then-has c = record {
  after = c.free_held.ensures.after ∙ spent_had c.args.self.now c.args.token c.args.token refl (sym c.has.ensures ∙ c.if-has.true);
  gone = c.free_held.ensures.gone;
  others = c.free_held.ensures.others;
  shelves = c.free_held.ensures.shelves;
}
