-- The constants of the code are the numbers of the definitions.
use Rattle.std.proofs.Common.{◌≡◌, refl}
use Rattle.strm_pool.specs.declared.limits.TheConstants.{MOST_REGISTERS, MOST_WORKERS, MOST_WISHES, LAST_ID, MOST_OCTETS}
use Rattle.strm_pool.specs.Limits.{most_registers, most_workers, most_wishes, last_id, most_octets}

pub registers : MOST_REGISTERS ≡ most_registers
registers = refl

pub workers : MOST_WORKERS ≡ most_workers
workers = refl

pub wishes : MOST_WISHES ≡ most_wishes
wishes = refl

pub ids : LAST_ID ≡ last_id
ids = refl

pub octets : MOST_OCTETS ≡ most_octets
octets = refl
