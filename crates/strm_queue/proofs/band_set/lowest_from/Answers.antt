use Rattle.std.proofs.Common.{refl, rules}
use Rattle.strm_queue.proofs.bands.Used.{lowest_of}
use Rattle.strm_queue.proofs.band_set.lowest_from.Goals as goal

pub returns-clause-some : goal.returns-clause-some
returns-clause-some c = lowest_of c.args.word c.args.place (search rules) (search rules) _ refl
