-- What workers did with their lines, on their desks.
use Rattle.std.specs.Prelude.{◌≡◌, ℕ, ◌<◌, List, [], ◌∷◌, length, slice_index_or, Ok, Err}
use Rattle.strm_pool.specs.declared.reply.Reply.{Reply}
use Rattle.strm_pool.specs.declared.line.Line.{Line}
use Rattle.strm_shared.specs.declared.name.Name.{Ghosts}
use Rattle.strm_shared.specs.declared.outcome.End.{End}
use Rattle.strm_shared.specs.declared.outcome.End.TheVariants.{Done, Refused, NotStarted}
use Rattle.strm_shared.specs.Books.{IsAfter, IsEnd}
use Rattle.strm_shared.specs.Desks.{DeskValue, no_desk, stamp_seen}

-- the replies are those to the first lines, in order, served on this desk one after another
abbrev pub AreServed : {N : Type 0} → Ghosts N → List Line → DeskValue → List Reply → DeskValue → Type 0
AreServed n lines d [] e = e ≡ d
AreServed n [] d (reply ∷ replies) e = ⊥
AreServed n (line ∷ lines) d (reply ∷ replies) e = (m : DeskValue) × IsAfter n d line.number line.call m (Ok reply) × AreServed n lines m replies e

-- A worker served all its lines; or those before one that was refused, as its desk has seen; or it was not started.
abbrev pub Worked : {N : Type 0} → Ghosts N → List Line → DeskValue → End → List Reply → DeskValue → Type 0
Worked n lines d Done replies e = (length replies ≡ length lines) × AreServed n lines d replies e
Worked n lines d (Refused why) replies e = (length replies < length lines) × (m : DeskValue) × AreServed n lines d replies m × (line : Line) × IsAfter n m line.number line.call e (Err why) × IsEnd n why (stamp_seen e)
Worked n lines d NotStarted replies e = (replies ≡ []) × (e ≡ d)

-- Each worker of the named pool worked so, with its lines, its desk before, its end, its replies and its desk after.
pub record AllWorked {N : Type 0} (n : Ghosts N) (parts : List (List Line)) (before : List DeskValue) (ends : List End) (all : List (List Reply)) (after : List DeskValue) : Type 0 where
  pub ended : length ends ≡ length parts
  pub replied : length all ≡ length parts
  pub kept : length after ≡ length parts
  pub each : (k : ℕ) → k < length parts
      → Worked n (slice_index_or parts k []) (slice_index_or before k no_desk) (slice_index_or ends k NotStarted) (slice_index_or all k []) (slice_index_or after k no_desk)
