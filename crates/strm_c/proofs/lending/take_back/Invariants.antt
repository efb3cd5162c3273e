-- The readers have the whole right between them.
use base.Fraction.{full_share}
use Rattle.strm_c.proofs.lending.take_back.Given as goal

abbrev pub ghost-join : goal.ghost-join
ghost-join a = full_share
