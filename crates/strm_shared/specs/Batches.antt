-- Lines that are served while the lock is taken once, a batch, and lines that are served in several batches.
use Rattle.std.specs.Prelude.{◌≡◌, ℕ, zero, suc, ◌*◌, ◌/◌, ◌%◌, ◌<◌, List, [], ◌∷◌, length, take, drop, Result, Ok, Err, Some}
use Rattle.std.specs.Int.{div_ceil}
use Rattle.strm_data.specs.declared.refusal.Refusal.{Refusal}
use Rattle.strm_pool.specs.declared.reply.Reply.{Reply}
use Rattle.strm_pool.specs.declared.line.Line.{Line}
use Rattle.strm_shared.specs.declared.name.Name.{Ghosts}
use Rattle.strm_shared.specs.declared.outcome.End.TheVariants.{Done, Refused}
use Rattle.strm_shared.specs.Books.{BookValue, IsBookUnder, IsServed, end_of, pair_in}
use Rattle.strm_shared.specs.Desks.{DeskValue, with_pair_seen}
use Rattle.strm_shared.specs.Limits.{most_batch}
use Rattle.strm_shared.specs.Runs.{Worked}

-- These are the replies to the first lines, which are served one after another. Nobody comes in between: the book that serves a
-- line is the one that the line before left. Each line leaves a book that the shared pool may have.
abbrev pub AreTurned : {N : Type 0} → Ghosts N → BookValue → DeskValue → List Line → List Reply → BookValue → DeskValue → Type 0
AreTurned n b d lines [] c e = (c ≡ b) × (e ≡ d)
AreTurned n b d [] (reply ∷ replies) c e = ⊥
AreTurned n b d (line ∷ lines) (reply ∷ replies) c e =
    (m : BookValue) × (x : DeskValue) × IsServed b d line.number line.call m x reply × IsBookUnder n m × AreTurned n m x lines replies c e

-- All lines are served. Or the first k are, and the next is refused, as every call is now: the book stays unchanged, and the desk
-- sees the last pair.
abbrev pub AnswersAll : {N : Type 0} → Ghosts N → BookValue → DeskValue → List Line → List Reply → BookValue → DeskValue → Result (Unit {0}) (Refusal × ℕ) → Type 0
AnswersAll n b d lines replies c e (Ok done) = (length replies ≡ length lines) × AreTurned n b d lines replies c e
AnswersAll n b d lines replies c e (Err (why, k)) =
    (k < length lines) × (m : BookValue) × (x : DeskValue) × AreTurned n b d lines (take k replies) m x
    × (end_of m ≡ Some why) × (c ≡ m) × (e ≡ with_pair_seen (pair_in m) x)

-- A desk after a batch, which a book served that the shared pool may have. No more is known of the book, since other threads have
-- had it too.
abbrev pub IsAfterBatch : {N : Type 0} → Ghosts N → DeskValue → List Line → List Reply → DeskValue → Result (Unit {0}) (Refusal × ℕ) → Type 0
IsAfterBatch n d lines replies e r =
    (b : BookValue) × (c : BookValue) × IsBookUnder n b × IsBookUnder n c × AnswersAll n b d lines replies c e r

-- the items of batch j of a list: those from its place on, and no more than a batch may have
abbrev pub batch_at : {X : Type 0} → ℕ → List X → List X
batch_at j xs = take most_batch (drop (j * most_batch) xs)

-- The first j batches are served, one after another. Between two of them other threads may have the book.
abbrev pub AreBatches : {N : Type 0} → Ghosts N → ℕ → DeskValue → List Line → List Reply → DeskValue → Type 0
AreBatches n zero d lines replies e = e ≡ d
AreBatches n (suc j) d lines replies e =
    (x : DeskValue) × AreBatches n j d lines replies x × IsAfterBatch n x (batch_at j lines) (batch_at j replies) e (Ok tt)

-- A desk after these lines. All batches are served. Or the first k lines are, and the next is refused.
abbrev pub AreAfter : {N : Type 0} → Ghosts N → DeskValue → List Line → List Reply → DeskValue → Result (Unit {0}) (Refusal × ℕ) → Type 0
AreAfter n d lines replies e (Ok done) = AreBatches n (div_ceil (length lines) most_batch) d lines replies e
AreAfter n d lines replies e (Err (why, k)) =
    (x : DeskValue) × AreBatches n (k / most_batch) d lines replies x
    × IsAfterBatch n x (batch_at (k / most_batch) lines) (batch_at (k / most_batch) replies) e (Err (why, k % most_batch))

-- Each line was served as by a call of its own. Or the lines before one that was refused were, and their replies are the first.
abbrev pub IsAsAlone : {N : Type 0} → Ghosts N → DeskValue → List Line → List Reply → DeskValue → Result (Unit {0}) (Refusal × ℕ) → Type 0
IsAsAlone n d lines replies e (Ok done) = Worked n lines d Done replies e
IsAsAlone n d lines replies e (Err (why, k)) = Worked n lines d (Refused why) (take k replies) e
