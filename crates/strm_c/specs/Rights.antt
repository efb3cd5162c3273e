-- What a reader, its pointer and a view own: the right to read a pool, which others may have at the same time. No clause of an
-- export cites this module.
use Rattle.std.specs.Prelude.{ℕ, [], ◌∷◌, Option, None, Some}
use base.Fml.{Fml, Share, ftrue, fsep, flft, flent}
use base.Fraction.{full_share}
use base.SetCodes as codes
use base.Stored.{Coded}
use mir.Raw.{raw}
use denote.Memory.{lone}
use denote.RawPtr.{Ptr, in_block, lies_at}
use denote.Struct.Lending.{lent_at}
use Rattle.std_heap.specs.contracts.GlobalAllocator.TheImpl.{ghosts}
use Rattle.strm_named.specs.contracts.named_pool.NamedPool.{the_row}
use Rattle.strm_c.specs.Holding.{heap}

-- the right to read the pool v at p: it is lent for a lifetime, and a share of that lifetime's token is there
abbrev pub reads : Ptr → the_row.Denot → ℕ → Share → Fml
reads p v life share = fsep (flft (life ∷ []) share) (lent_at the_row p v (life ∷ []))

-- what a pointer owns: the right to read its pool, if it has one
abbrev pub may_read : Ptr → Option the_row.Denot → ℕ → Share → Fml
may_read p None life share = ftrue
may_read p (Some v) life share = reads p v life share

abbrev pub coded_one : Coded the_row.Denot
coded_one = the_row.coded

abbrev pub coded_share : Coded Share
coded_share = codes.coded_share

-- what the lender of a pool owns: the pool again, once the lifetime is over, and the right to free its box
abbrev pub lender_owns : Ptr → the_row.Denot → ℕ → Fml
lender_owns p v life = fsep (in_block p ftrue) (fsep (flent (life ∷ []) (lies_at the_row full_share p v)) (ghosts.dealloc_token heap (raw (lone the_row.mir)) p))
