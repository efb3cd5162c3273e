use Rattle.std.proofs.Common.{refl, rules}
use Rattle.strm_queue.proofs.bands.Used.{highest_of}
use Rattle.strm_queue.proofs.band_set.highest_to.Goals as goal

pub returns-clause-some : goal.returns-clause-some
returns-clause-some c = highest_of c.args.word c.args.place c.requires (search rules) _ refl
