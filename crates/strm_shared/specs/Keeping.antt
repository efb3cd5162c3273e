-- What workers did, with their replies kept or not. No public clause cites this module.
use Rattle.std.specs.Prelude.{◌≡◌, Bool, true, List}
use Rattle.strm_pool.specs.declared.reply.Reply.{Reply}
use Rattle.strm_pool.specs.declared.line.Line.{Line}
use Rattle.strm_shared.specs.declared.name.Name.{Ghosts}
use Rattle.strm_shared.specs.declared.outcome.End.{End}
use Rattle.strm_shared.specs.Desks.{DeskValue}
use Rattle.strm_shared.specs.Runs.{AllWorked, Worked}

-- a worker worked as `Worked` says, with some replies; these are they if replies are kept
abbrev pub WorkedKeeping : {N : Type 0} → Bool → Ghosts N → List Line → DeskValue → End → List Reply → DeskValue → Type 0
WorkedKeeping keeps n lines d end replies e = (all : List Reply) × Worked n lines d end all e × (keeps ≡ true → replies ≡ all)

-- each worker worked so
abbrev pub AllWorkedKeeping : {N : Type 0} → Bool → Ghosts N → List (List Line) → List DeskValue → List End → List (List Reply) → List DeskValue → Type 0
AllWorkedKeeping keeps n parts before ends replies after = (all : List (List Reply)) × AllWorked n parts before ends all after × (keeps ≡ true → replies ≡ all)
