use Rattle.std.proofs.Common.{◌∙◌, replicate, set}
use Rattle.std.specs.Prelude.{is_some}
use Rattle.strm_queue.specs.Limits.{bands, ranks}
use Rattle.strm_queue.proofs.bands.Used.{used_none}
use Rattle.strm_queue.proofs.tally.Tally.new.Goals as goal

pub returns : goal.returns
returns c = λ i. record {
  len = 0;
  bytes = 0;
  counts = replicate bands 0;
  full = c.new.ensures i;
  firsts = replicate ranks (c.none.ensures i);
  lasts = replicate ranks (c.none-2.ensures i);
  used = ((λ j. set (c.new-2.ensures j) 0 (is_some (c.none.ensures j))) ∙ used_none) i;
}
