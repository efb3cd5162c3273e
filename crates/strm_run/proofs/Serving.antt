-- Serving lines one by one, and sections one after another, gives the text of all of them.
use Rattle.std.proofs.Common.{◌≡◌, ℕ, zero, suc, ◌+◌, ◌-◌, ◌<◌, ◌≤◌, List, [], ◌∷◌, ◌++◌, Option, None, Some, replicate, length, take, drop, get_or, refl, sym, ap, ◌∙◌, append_assoc, arith}
use Rattle.std.specs.Prelude.{slice_set}
use Rattle.std.proofs.Math.Seq.{get_or-append_seam, set-append_seam}
use Rattle.std.proofs.lemmas.List.{at_drop_more, at_drop_all, length_push, take_rest}
use Rattle.std.proofs.lemmas.Option.{none-some}
use Rattle.strm_pool.specs.declared.reply.Reply.{Reply}
use Rattle.strm_mblk.specs.declared.token.TokenValue.{TokenValue}
use Rattle.strm_pool.specs.PoolValue.{PoolValue, opening_pool}
use Rattle.strm_pool.specs.Registers.{RegisterTable, register, table_of, AreDistinct}
use Rattle.strm_pool.specs.Limits.{most_registers}
use Rattle.strm_pool.specs.Step.{step, Stepped, table_at, empty_tables}
use Rattle.strm_pool.specs.declared.line.Line.{Line}
use Rattle.strm_script.specs.declared.script.Script.{Script}
use Rattle.strm_script.specs.Merge.{Served, by_worker, serial_from}
use Rattle.strm_script.specs.Text.{reply_line, report_text, text_from}
use Rattle.strm_run.specs.Outcome.{IsSerialText}
use Rattle.strm_run.proofs.Merges.{IsMerge-serial_merge}

-- ---- empty registers

empty_holds_none : (n x h : ℕ) → register (table_of (replicate n None)) x ≡ Some h → ⊥
empty_holds_none zero x h is = none-some h is
empty_holds_none (suc n) zero h is = none-some h is
empty_holds_none (suc n) (suc x) h is = empty_holds_none n x h is

pub empty_table : (rs : List (Option TokenValue)) → rs ≡ replicate most_registers None → table_of rs ≡ replicate most_registers None
empty_table rs empty = ap table_of empty

-- empty registers hold no message twice
pub empty_distinct : (rs : List (Option TokenValue)) → rs ≡ replicate most_registers None → AreDistinct (table_of rs)
empty_distinct rs empty x y h is _ = absurd (empty_holds_none most_registers x h (ap (λ (ss : List (Option TokenValue)). register (table_of ss) x) (sym empty) ∙ is))

-- ---- the lines of one worker

-- what is written for a worker's lines and for those behind them, where its registers stand between those of the
-- workers before it and behind it
abbrev pub part_text : List RegisterTable → List RegisterTable → List Served → ℕ → PoolValue → RegisterTable → List Line → List ℕ
part_text before behind later worker v t lines = text_from v (before ++ t ∷ behind) (by_worker worker lines ++ later)

-- one line is served
text_from-line : (v w : PoolValue) (tables : List RegisterTable) (u : RegisterTable) (served : Served) (later : List Served) (reply : Reply)
    → (let o : Stepped = record { pool = w; table = u; reply = reply } in step v (table_at tables served.worker) served.line.call ≡ o)
    → text_from v tables (served ∷ later) ≡ reply_line served.worker served.line.number reply ++ text_from w (slice_set tables served.worker u) later
text_from-line v w tables u served later reply is = rw is (append_assoc (reply_line served.worker served.line.number reply) _ _)

-- a worker's registers come after those of the workers before it
table_at-here : (before behind : List RegisterTable) (t : RegisterTable) (worker : ℕ) → length before ≡ worker → table_at (before ++ t ∷ behind) worker ≡ t
table_at-here before behind t worker place = ap (λ n. table_at (before ++ t ∷ behind) n) (sym place) ∙ get_or-append_seam before t behind []

slice_set-here : (before behind : List RegisterTable) (t u : RegisterTable) (worker : ℕ) → length before ≡ worker → slice_set (before ++ t ∷ behind) worker u ≡ before ++ u ∷ behind
slice_set-here before behind t u worker place = ap (λ n. slice_set (before ++ t ∷ behind) n u) (sym place) ∙ set-append_seam before t behind u

part_text-line : (before behind : List RegisterTable) (later : List Served) (worker : ℕ) (v w : PoolValue) (t u : RegisterTable) (line : Line) (lines : List Line) (reply : Reply)
    → length before ≡ worker → (let o : Stepped = record { pool = w; table = u; reply = reply } in step v t line.call ≡ o)
    → part_text before behind later worker v t (line ∷ lines) ≡ reply_line worker line.number reply ++ part_text before behind later worker w u lines
part_text-line before behind later worker v w t u line lines reply place is =
    let rest : List Served = by_worker worker lines ++ later in
    text_from-line v w (before ++ t ∷ behind) u (record { worker = worker; line = line }) rest reply (ap (λ (s : RegisterTable). step v s line.call) (table_at-here before behind t worker place) ∙ is)
    ∙ ap (λ tables. reply_line worker line.number reply ++ text_from w tables rest) (slice_set-here before behind t u worker place)

-- the text so far and the text of the lines that are left stay the same when the next one is served
pub part_text-next : (so_far more all : List ℕ) (before behind : List RegisterTable) (later : List Served) (worker : ℕ) (v w : PoolValue) (t u : RegisterTable) (lines : List Line) (i : ℕ) (line : Line) (reply : Reply)
    → length before ≡ worker → i < length lines → line ≡ get_or lines i line → (let o : Stepped = record { pool = w; table = u; reply = reply } in step v t line.call ≡ o)
    → more ≡ so_far ++ reply_line worker line.number reply → so_far ++ part_text before behind later worker v t (drop i lines) ≡ all → more ++ part_text before behind later worker w u (drop (i + 1) lines) ≡ all
part_text-next so_far more all before behind later worker v w t u lines i line reply place inside at is grown so =
    let rest : List Line = drop (i + 1) lines in
    ap (λ bs. bs ++ part_text before behind later worker w u rest) grown
    ∙ append_assoc so_far (reply_line worker line.number reply) (part_text before behind later worker w u rest)
    ∙ ap (λ bs. so_far ++ bs)
    (sym (at_drop_more (part_text before behind later worker v t) lines i line inside ∙ ap (λ (l : Line). part_text before behind later worker v t (l ∷ rest)) (sym at) ∙ part_text-line before behind later worker v w t u line rest reply place is))
    ∙ so

-- once all lines are served, only those behind them are left
pub part_text-end : (so_far all : List ℕ) (before behind : List RegisterTable) (later : List Served) (worker : ℕ) (v : PoolValue) (t : RegisterTable) (lines : List Line) (i : ℕ)
    → length lines ≤ i → so_far ++ part_text before behind later worker v t (drop i lines) ≡ all → so_far ++ text_from v (before ++ t ∷ behind) later ≡ all
part_text-end so_far all before behind later worker v t lines i past so =
    ap (λ bs. so_far ++ bs) (sym (at_drop_all (part_text before behind later worker v t) lines i past)) ∙ so

-- ---- the sections

-- what is written for the sections of a worker and of those behind it, where all of them begin with empty registers
abbrev pub parts_text : List RegisterTable → ℕ → PoolValue → List (List Line) → List ℕ
parts_text before worker v parts = text_from v (before ++ empty_tables (length parts)) (serial_from worker parts)

-- of no sections there is the report alone
pub no_parts : (before : List RegisterTable) (worker : ℕ) (v : PoolValue) (parts : List (List Line)) → length parts < 1 → parts_text before worker v parts ≡ report_text v
no_parts before worker v [] none = refl
no_parts before worker v (lines ∷ parts) none = absurd (omega (arith, none))

-- the first section, and what is written for those behind it
pub parts_text-next : (start so_far all : List ℕ) (worker : ℕ) (v w : PoolValue) (t u : RegisterTable) (parts : List (List Line)) (lines : List Line)
    → t ≡ replicate most_registers None → 1 ≤ length parts → lines ≡ get_or parts 0 lines
    → ((before behind : List RegisterTable) (later : List Served) → length before ≡ worker → so_far ++ text_from w (before ++ u ∷ behind) later ≡ start ++ part_text before behind later worker v t lines)
    → ((before : List RegisterTable) → length before ≡ worker + 1 → all ≡ so_far ++ parts_text before (worker + 1) w (take (length parts - 1) (drop 1 parts)))
    → (before : List RegisterTable) → length before ≡ worker → all ≡ start ++ parts_text before worker v parts
parts_text-next start so_far all worker v w t u [] lines empty some at first rest before place = absurd (omega (arith, some))
parts_text-next start so_far all worker v w t u (lines_of_first ∷ others) lines empty some at first rest before place =
    let behind : List RegisterTable = empty_tables (length others) in
    let later : List Served = serial_from (worker + 1) others in
    cc (rest (before ++ u ∷ []) (omega (arith, place, length_push before u)), take_rest (lines_of_first ∷ others) 1, append_assoc before (u ∷ []) behind, first before behind later place, empty, at)

-- the serial text of a script
pub serial_text-parts : (script : Script) (v : PoolValue) (text start : List ℕ) → v ≡ opening_pool script.config → start ≡ [] → text ≡ start ++ parts_text [] 0 v script.parts → IsSerialText script text
serial_text-parts script v text start opens blank written = (
  IsMerge-serial_merge script.parts,
  written ∙ ap (λ bs. bs ++ parts_text [] 0 v script.parts) blank ∙ ap (λ (w : PoolValue). parts_text [] 0 w script.parts) opens,
)
