-- How wishes are stored. No public clause cites this module.
use Rattle.std.specs.Prelude.{◌≤◌}
use Rattle.strm_pool.specs.declared.wishes.Wishes.TheInside.{Inside}
use Rattle.strm_pool.specs.Limits.{most_wishes}
use Rattle.strm_pool.specs.PoolValue.{WishState}
use Rattle.strm_pool.specs.Wishes.{AreLawful}

abbrev pub wishes_in : Inside → WishState
wishes_in a = record { most = a.most; next = a.next; pending = a.pending.items }

-- the array has room for all wishes that there may be, and the recorded ones are lawful
pub record IsSound (a : Inside) : Type 0 where
  pub roomy : a.most ≤ most_wishes
  pub lawful : AreLawful (wishes_in a)
