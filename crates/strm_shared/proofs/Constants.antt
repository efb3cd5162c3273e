-- The constants of the code are the numbers of the definitions.
use Rattle.std.proofs.Common.{◌≡◌, refl}
use Rattle.strm_shared.specs.declared.limits.TheConstants.{MOST_BATCH, MOST_STAMP, MOST_TRACE}
use Rattle.strm_shared.specs.Limits.{most_batch, most_stamp, most_trace}

pub stamp : MOST_STAMP ≡ most_stamp
stamp = refl

pub trace : MOST_TRACE ≡ most_trace
trace = refl

pub batch : MOST_BATCH ≡ most_batch
batch = refl
