-- Which entries a draft has, once it has taken a line.
use Rattle.std.proofs.Common.{◌≡◌, ◌≢◌, ℕ, ◌+◌, ◌-◌, sum_by, Bool, true, false, List, [], ◌∷◌, ◌++◌, length, Option, Some, refl, sym, ap, ◌∙◌, arith, append-nil, slice_get}
use Rattle.std.proofs.lemmas.List.{length_push}
use Rattle.std.proofs.lemmas.List.Sums.{sum_by_push}
use Rattle.std.proofs.lemmas.List.Elements.{filter_map-append}
use Rattle.std.specs.Global.{Vec}
use Rattle.arrayvec.specs.ArrayVec.{ArrayVec}
use Rattle.strm_pool.specs.declared.call.Call.{Call}
use Rattle.strm_data.specs.declared.class_spec.ClassSpec.{ClassSpec}
use Rattle.strm_queue.specs.declared.queue_spec.QueueSpec.{QueueSpec}
use Rattle.strm_script.specs.declared.draft.Draft.{Draft}
use Rattle.strm_script.specs.Entry.{Entry, Pool, Class, Queue, Bufcalls, Worker, Command}
use Rattle.strm_pool.specs.declared.line.Line.{Line}
use Rattle.strm_script.specs.declared.stage.Stage.{Stage}
use Rattle.strm_script.specs.declared.stage.Stage.TheVariants as stages
use Rattle.strm_script.specs.declared.word.Word.{Word}
use Rattle.strm_script.specs.declared.word.Word.TheVariants as words
use Rattle.strm_script.specs.Draft.{StandsFor, HasRoom, pool_at, wishes_at, parts_at, IsIdleAt}
use Rattle.strm_script.specs.Limits.{most_command_lines}
use Rattle.strm_script.specs.Script.{Numbered, values_said, pool_line, class_line, queue_line, bufcalls_line, parts_of, lines_of_section, with_command, with_section, stage_of, stage_behind, may_stand}

-- ---- one entry more

slice_get-push : {X : Type 0} (xs : List X) (x : X) → slice_get (xs ++ x ∷ []) (length xs) ≡ Some x
slice_get-push [] x = refl
slice_get-push (y ∷ xs) x = slice_get-push xs x

stage_of-push : (es : List Numbered) (e : Numbered) → stage_of (es ++ e ∷ []) ≡ stage_behind e.entry
stage_of-push es e =
    let last : length (es ++ e ∷ []) - 1 ≡ length es = omega (arith, length_push es e) in
    cc (last, slice_get-push es e)

said-more : {X : Type 0} (line : Entry → Option X) (es : List Numbered) (e : Numbered) (xs ys : List X) → values_said line es ≡ xs → values_said line (e ∷ []) ≡ ys → values_said line (es ++ e ∷ []) ≡ xs ++ ys
said-more line es e xs ys before here = filter_map-append (λ (x : Numbered). line x.entry) es (e ∷ []) ∙ ap (λ zs. zs ++ values_said line (e ∷ [])) before ∙ ap (λ zs. xs ++ zs) here

said-same : {X : Type 0} (line : Entry → Option X) (es : List Numbered) (e : Numbered) (xs : List X) → values_said line es ≡ xs → values_said line (e ∷ []) ≡ [] → values_said line (es ++ e ∷ []) ≡ xs
said-same line es e xs before here = said-more line es e xs [] before here ∙ append-nil xs

lines_of_section-same : (es : List Numbered) (e : Numbered) → lines_of_section (e ∷ []) ≡ [] → lines_of_section (es ++ e ∷ []) ≡ lines_of_section es
lines_of_section-same [] e here = here
lines_of_section-same (x ∷ es) e here = ap (with_command x.number x.entry) (lines_of_section-same es e here)

with_section-append : (entry : Entry) (lines : List Line) (parts more : List (List Line)) → with_section entry lines (parts ++ more) ≡ with_section entry lines parts ++ more
with_section-append Worker lines parts more = refl
with_section-append _ lines parts more = refl

-- an entry that is no command
parts_of-more : (es : List Numbered) (e : Numbered) → lines_of_section (e ∷ []) ≡ [] → parts_of (es ++ e ∷ []) ≡ parts_of es ++ parts_of (e ∷ [])
parts_of-more [] e here = refl
parts_of-more (x ∷ es) e here =
    cc (lines_of_section-same es e here, parts_of-more es e here, with_section-append x.entry (lines_of_section es) (parts_of es) (parts_of (e ∷ [])))

parts_of-same : (es : List Numbered) (e : Numbered) (parts : List (List Line)) → parts_of es ≡ parts → lines_of_section (e ∷ []) ≡ [] → parts_of (e ∷ []) ≡ [] → parts_of (es ++ e ∷ []) ≡ parts
parts_of-same es e parts before here none = parts_of-more es e here ∙ ap (λ ps. ps ++ parts_of (e ∷ [])) before ∙ ap (λ ps. parts ++ ps) none ∙ append-nil parts

-- ---- the room for command lines

left-same : (es : List Numbered) (e : Numbered) (left : ℕ) → left + sum_by length (parts_of es) ≡ most_command_lines → lines_of_section (e ∷ []) ≡ [] → parts_of (e ∷ []) ≡ [] → left + sum_by length (parts_of (es ++ e ∷ [])) ≡ most_command_lines
left-same es e left room here none = ap (λ ps. left + sum_by length ps) (parts_of-same es e (parts_of es) refl here none) ∙ room

sum_by-empty : (parts : List (List Line)) → sum_by length (parts ++ [] ∷ []) ≡ sum_by length parts
sum_by-empty parts = omega (arith, sum_by_push length parts [])

left-section : (es : List Numbered) (e : Numbered) (left : ℕ) → left + sum_by length (parts_of es) ≡ most_command_lines → lines_of_section (e ∷ []) ≡ [] → parts_of (e ∷ []) ≡ [] ∷ [] → left + sum_by length (parts_of (es ++ e ∷ [])) ≡ most_command_lines
left-section es e left room here begun =
    ap (λ ps. left + sum_by length ps) (parts_of-more es e here ∙ ap (λ ps. parts_of es ++ ps) begun) ∙ ap (λ n. left + n) (sum_by-empty (parts_of es)) ∙ room

one_more : (parts : List (List Line)) (lines : List Line) (line : Line) → sum_by length (parts ++ (lines ++ line ∷ []) ∷ []) ≡ sum_by length (parts ++ lines ∷ []) + 1
one_more parts lines line = omega (arith, sum_by_push length parts (lines ++ line ∷ []), sum_by_push length parts lines, length_push lines line)

-- ---- a command more

abbrev command : ℕ → Call → Numbered
command n call = record { number = n; entry = Command call }

abbrev line_of : ℕ → Call → Line
line_of n call = record { number = n; call = call }

record Untouched (es : List Numbered) (n : ℕ) (call : Call) : Type 0 where
  lines : lines_of_section (es ++ command n call ∷ []) ≡ lines_of_section es ++ line_of n call ∷ []
  parts : parts_of (es ++ command n call ∷ []) ≡ []

untouched-behind : (x : Numbered) (es : List Numbered) (n : ℕ) (call : Call) (entry : Entry) → x.entry ≡ entry → with_section entry (lines_of_section es) (parts_of es) ≡ [] → (parts_of es ≡ [] → Untouched es n call) → Untouched (x ∷ es) n call
untouched-behind x es n call Worker is none rest = cc
untouched-behind x es n call (Command c) is none rest =
    let u = rest none in
    record { lines = rw is (ap (λ ls. record { number = x.number; call = c } ∷ ls) u.lines); parts = rw is u.parts }
untouched-behind x es n call (Pool id mblks) is none rest = let u = rest none in record { lines = rw is u.lines; parts = rw is u.parts }
untouched-behind x es n call (Class spec) is none rest = let u = rest none in record { lines = rw is u.lines; parts = rw is u.parts }
untouched-behind x es n call (Queue spec) is none rest = let u = rest none in record { lines = rw is u.lines; parts = rw is u.parts }
untouched-behind x es n call (Bufcalls wishes first_id) is none rest = let u = rest none in record { lines = rw is u.lines; parts = rw is u.parts }

-- before the first section, no part could have a command
untouched : (es : List Numbered) (n : ℕ) (call : Call) → parts_of es ≡ [] → Untouched es n call
untouched [] n call none = record { lines = refl; parts = refl }
untouched (x ∷ es) n call none = untouched-behind x es n call x.entry refl none (untouched es n call)

-- where a section has begun, the command stands last in the last one, and in no line before the first
record Grown (es : List Numbered) (n : ℕ) (call : Call) (whole : List (List Line)) (lines : List Line) : Type 0 where
  before : lines_of_section (es ++ command n call ∷ []) ≡ lines_of_section es
  parts : parts_of (es ++ command n call ∷ []) ≡ whole ++ (lines ++ line_of n call ∷ []) ∷ []

grown-behind : (x : Numbered) (es : List Numbered) (n : ℕ) (call : Call) (whole : List (List Line)) (lines : List Line) (entry : Entry) → x.entry ≡ entry
    → with_section entry (lines_of_section es) (parts_of es) ≡ whole ++ lines ∷ []
    → ((others : List (List Line)) → parts_of es ≡ others ++ lines ∷ [] → Grown es n call others lines)
    → Grown (x ∷ es) n call whole lines
grown-behind x es n call [] lines Worker is one rest =
    let none : parts_of es ≡ [] = cc in
    let these : lines_of_section es ≡ lines = cc in
    let u = untouched es n call none in
    record { before = rw is refl; parts = rw (is, u.lines, u.parts, these) refl }
grown-behind x es n call (first ∷ others) lines Worker is more rest =
    let behind : parts_of es ≡ others ++ lines ∷ [] = cc in
    let these : lines_of_section es ≡ first = cc in
    let g = rest others behind in
    record { before = rw is refl; parts = rw (is, g.before, g.parts, these) refl }
grown-behind x es n call whole lines (Command c) is some rest =
    let g = rest whole some in
    record { before = rw is (ap (λ ls. record { number = x.number; call = c } ∷ ls) g.before); parts = rw is g.parts }
grown-behind x es n call whole lines (Pool id mblks) is some rest = let g = rest whole some in record { before = rw is g.before; parts = rw is g.parts }
grown-behind x es n call whole lines (Class spec) is some rest = let g = rest whole some in record { before = rw is g.before; parts = rw is g.parts }
grown-behind x es n call whole lines (Queue spec) is some rest = let g = rest whole some in record { before = rw is g.before; parts = rw is g.parts }
grown-behind x es n call whole lines (Bufcalls wishes first_id) is some rest = let g = rest whole some in record { before = rw is g.before; parts = rw is g.parts }

no_end : {X : Type 0} (xs : List X) (x : X) → [] ≡ xs ++ x ∷ [] → ⊥
no_end [] x e = cc
no_end (y ∷ xs) x e = cc

grown : (es : List Numbered) (n : ℕ) (call : Call) (whole : List (List Line)) (lines : List Line) → parts_of es ≡ whole ++ lines ∷ [] → Grown es n call whole lines
grown [] n call whole lines some = absurd (no_end whole lines some)
grown (x ∷ es) n call whole lines some = grown-behind x es n call whole lines x.entry refl some (λ others behind. grown es n call others lines behind)

-- ---- at which stage a line stands

at_start : (s : Stage) → may_stand s words.Pool ≡ true → s ≡ stages.Start
at_start stages.Start stands = refl
at_start _ stands = cc

-- behind the pool line, before the bufcalls line
record IsMiddle (s : Stage) : Type 0 where
  pool : (p : ℕ × ℕ) → pool_at s p ≡ p ∷ []
  wishes : (p : ℕ × ℕ) → wishes_at s p ≡ []
  parts : (whole : List (List Line)) (lines : List Line) → parts_at s whole lines ≡ []
  idle : (whole : List (List Line)) (lines : List Line) → IsIdleAt s whole lines → (whole ≡ []) × (lines ≡ [])

abbrev is_setup : Word → Bool
is_setup words.Class = true
is_setup words.Queue = true
is_setup words.Bufcalls = true
is_setup _ = false

middle : (s : Stage) (w : Word) → is_setup w ≡ true → may_stand s w ≡ true → IsMiddle s
middle stages.Pool w setup stands = record { pool = λ p. refl; wishes = λ p. refl; parts = λ ps ls. refl; idle = λ ps ls none. none }
middle stages.Class w setup stands = record { pool = λ p. refl; wishes = λ p. refl; parts = λ ps ls. refl; idle = λ ps ls none. none }
middle stages.Queue w setup stands = record { pool = λ p. refl; wishes = λ p. refl; parts = λ ps ls. refl; idle = λ ps ls none. none }
middle s words.Class setup stands = cc
middle s words.Queue setup stands = cc
middle s words.Bufcalls setup stands = cc
middle s w setup stands = cc

at_bufcalls : (s : Stage) → may_stand s words.Worker ≡ true → s ≢ stages.Body → s ≡ stages.Bufcalls
at_bufcalls stages.Bufcalls stands before = refl
at_bufcalls stages.Body stands before = absurd (before refl)
at_bufcalls _ stands before = cc

-- ---- a line of each kind

pub put_pool : (d : Draft) (es : List Numbered) (n id mblks : ℕ) → may_stand d.stage words.Pool ≡ true → StandsFor d es → StandsFor (record d { stage = stages.Pool; id = id; mblks = mblks }) (es ++ record { number = n; entry = Pool id mblks } ∷ [])
put_pool d es n id mblks stands so =
    let e : Numbered = record { number = n; entry = Pool id mblks } in
    let at = at_start d.stage stands in
    record {
      stage = stage_of-push es e;
      pool = said-more pool_line es e [] _ (so.pool ∙ ap (λ s. pool_at s (d.id, d.mblks)) at) refl;
      classes = said-same class_line es e _ so.classes refl;
      queues = said-same queue_line es e _ so.queues refl;
      wishes = said-same bufcalls_line es e _ (so.wishes ∙ ap (λ s. wishes_at s (d.bufcalls, d.first_id)) at) refl;
      parts = parts_of-same es e _ (so.parts ∙ ap (λ s. parts_at s d.parts.items d.lines.items) at) refl refl;
      left = left-same es e d.left so.left refl refl;
      few = so.few;
      idle = rw at at so.idle;
    }

pub put_class : (d : Draft) (es : List Numbered) (n : ℕ) (spec : ClassSpec) (classes : ArrayVec ClassSpec) → classes.items ≡ d.classes.items ++ spec ∷ [] → may_stand d.stage words.Class ≡ true → StandsFor d es → StandsFor (record d { stage = stages.Class; classes = classes }) (es ++ record { number = n; entry = Class spec } ∷ [])
put_class d es n spec classes pushed stands so =
    let e : Numbered = record { number = n; entry = Class spec } in
    let m = middle d.stage words.Class refl stands in
    record {
      stage = stage_of-push es e;
      pool = said-same pool_line es e _ (so.pool ∙ m.pool _) refl;
      classes = said-more class_line es e _ _ so.classes refl ∙ sym pushed;
      queues = said-same queue_line es e _ so.queues refl;
      wishes = said-same bufcalls_line es e _ (so.wishes ∙ m.wishes _) refl;
      parts = parts_of-same es e _ (so.parts ∙ m.parts _ _) refl refl;
      left = left-same es e d.left so.left refl refl;
      few = so.few;
      idle = m.idle _ _ so.idle;
    }

pub put_queue : (d : Draft) (es : List Numbered) (n : ℕ) (spec : QueueSpec) (queues : ArrayVec QueueSpec) → queues.items ≡ d.queues.items ++ spec ∷ [] → may_stand d.stage words.Queue ≡ true → StandsFor d es → StandsFor (record d { stage = stages.Queue; queues = queues }) (es ++ record { number = n; entry = Queue spec } ∷ [])
put_queue d es n spec queues pushed stands so =
    let e : Numbered = record { number = n; entry = Queue spec } in
    let m = middle d.stage words.Queue refl stands in
    record {
      stage = stage_of-push es e;
      pool = said-same pool_line es e _ (so.pool ∙ m.pool _) refl;
      classes = said-same class_line es e _ so.classes refl;
      queues = said-more queue_line es e _ _ so.queues refl ∙ sym pushed;
      wishes = said-same bufcalls_line es e _ (so.wishes ∙ m.wishes _) refl;
      parts = parts_of-same es e _ (so.parts ∙ m.parts _ _) refl refl;
      left = left-same es e d.left so.left refl refl;
      few = so.few;
      idle = m.idle _ _ so.idle;
    }

pub put_bufcalls : (d : Draft) (es : List Numbered) (n bufcalls first_id : ℕ) → may_stand d.stage words.Bufcalls ≡ true → StandsFor d es → StandsFor (record d { stage = stages.Bufcalls; bufcalls = bufcalls; first_id = first_id }) (es ++ record { number = n; entry = Bufcalls bufcalls first_id } ∷ [])
put_bufcalls d es n bufcalls first_id stands so =
    let e : Numbered = record { number = n; entry = Bufcalls bufcalls first_id } in
    let m = middle d.stage words.Bufcalls refl stands in
    record {
      stage = stage_of-push es e;
      pool = said-same pool_line es e _ (so.pool ∙ m.pool _) refl;
      classes = said-same class_line es e _ so.classes refl;
      queues = said-same queue_line es e _ so.queues refl;
      wishes = said-more bufcalls_line es e [] _ (so.wishes ∙ m.wishes _) refl;
      parts = parts_of-same es e _ (so.parts ∙ m.parts _ _) refl refl;
      left = left-same es e d.left so.left refl refl;
      few = so.few;
      idle = m.idle _ _ so.idle;
    }

pub first_section : (d : Draft) (es : List Numbered) (n : ℕ) → may_stand d.stage words.Worker ≡ true → d.stage ≢ stages.Body → StandsFor d es → StandsFor (record d { stage = stages.Body }) (es ++ record { number = n; entry = Worker } ∷ [])
first_section d es n stands before so =
    let e : Numbered = record { number = n; entry = Worker } in
    let at = at_bufcalls d.stage stands before in
    let idle : (d.parts.items ≡ []) × (d.lines.items ≡ []) = rw at at so.idle in
    let none : parts_of es ≡ [] = so.parts ∙ ap (λ s. parts_at s d.parts.items d.lines.items) at in
    record {
      stage = stage_of-push es e;
      pool = said-same pool_line es e _ (so.pool ∙ ap (λ s. pool_at s (d.id, d.mblks)) at) refl;
      classes = said-same class_line es e _ so.classes refl;
      queues = said-same queue_line es e _ so.queues refl;
      wishes = said-same bufcalls_line es e _ (so.wishes ∙ ap (λ s. wishes_at s (d.bufcalls, d.first_id)) at) refl;
      parts = parts_of-more es e refl ∙ ap (λ ps. ps ++ [] ∷ []) none ∙ rw (idle.0, idle.1) refl;
      left = left-section es e d.left so.left refl refl;
      few = so.few;
      idle = tt;
    }

pub next_section : (d : Draft) (es : List Numbered) (n : ℕ) (parts : Vec (List Line)) (lines : Vec Line) → parts.items ≡ d.parts.items ++ d.lines.items ∷ [] → lines.items ≡ []
    → HasRoom d words.Worker → d.stage ≡ stages.Body → StandsFor d es → StandsFor (record d { parts = parts; lines = lines }) (es ++ record { number = n; entry = Worker } ∷ [])
next_section d es n parts lines pushed blank room at so =
    let e : Numbered = record { number = n; entry = Worker } in
    record {
      stage = stage_of-push es e ∙ sym at;
      pool = said-same pool_line es e _ so.pool refl;
      classes = said-same class_line es e _ so.classes refl;
      queues = said-same queue_line es e _ so.queues refl;
      wishes = said-same bufcalls_line es e _ so.wishes refl;
      parts = cc (parts_of-more es e refl, so.parts, at, pushed, blank);
      left = left-section es e d.left so.left refl refl;
      few = omega (arith, room, ap length pushed, length_push d.parts.items d.lines.items);
      idle = rw at tt;
    }

pub put_command : (d : Draft) (es : List Numbered) (n : ℕ) (call : Call) (lines : Vec Line) (left : ℕ) → lines.items ≡ d.lines.items ++ record { number = n; call = call } ∷ [] → left + 1 ≡ d.left
    → d.stage ≡ stages.Body → StandsFor d es → StandsFor (record d { lines = lines; left = left }) (es ++ record { number = n; entry = Command call } ∷ [])
put_command d es n call lines left pushed fewer at so =
    let e = command n call in
    let begun : parts_of es ≡ d.parts.items ++ d.lines.items ∷ [] = so.parts ∙ ap (λ s. parts_at s d.parts.items d.lines.items) at in
    let more : parts_of (es ++ e ∷ []) ≡ d.parts.items ++ (d.lines.items ++ line_of n call ∷ []) ∷ [] = (grown es n call d.parts.items d.lines.items begun).parts in
    record {
      stage = stage_of-push es e ∙ sym at;
      pool = said-same pool_line es e _ so.pool refl;
      classes = said-same class_line es e _ so.classes refl;
      queues = said-same queue_line es e _ so.queues refl;
      wishes = said-same bufcalls_line es e _ so.wishes refl;
      parts = more ∙ ap (λ (ls : List Line). d.parts.items ++ ls ∷ []) (sym pushed) ∙ sym (ap (λ s. parts_at s d.parts.items lines.items) at);
      left = omega (arith, fewer, so.left, ap (sum_by length) begun, ap (sum_by length) more, one_more d.parts.items d.lines.items (line_of n call));
      few = so.few;
      idle = rw at tt;
    }
