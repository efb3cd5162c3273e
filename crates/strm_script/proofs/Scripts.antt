-- A line that was read, and a script read line by line.
use Rattle.std.proofs.Common.{◌≡◌, ℕ, ◌==◌, false, List, [], ◌∷◌, ◌++◌, None, Result, Ok, Err, sym, ap, ◌∙◌, subst, if◌then◌else◌, ◌+◌, ◌<◌, ◌≤◌, length, refl, arith}
use Rattle.std.specs.List.{slice_split}
use Rattle.std.specs.Option.{option_map_or}
use Rattle.std.specs.Result.{IsErrAnd}
use Rattle.std.proofs.lemmas.Result.{err_from_is_err_and}
use Rattle.std.proofs.lemmas.List.Splits.{length-slice_split}
use Rattle.std.proofs.lemmas.List.Sums.{count_by-le-length}
use Rattle.strm_script.specs.declared.draft.Draft.{Draft}
use Rattle.strm_script.specs.Entry.{Entry, call_of}
use Rattle.strm_script.specs.declared.fault.Kind.{Kind}
use Rattle.strm_script.specs.declared.fault.LineFault.{LineFault}
use Rattle.strm_script.specs.Draft.{StandsFor, Reads}
use Rattle.strm_script.specs.Script.{Numbered, is_skipped, with_call, with_entry, with_line, with_word, with_words, then_lines, entries_from, pieces_of, script_or_fault, script_of}
use Rattle.strm_script.specs.Word.{word_of}
use Rattle.strm_script.specs.Fault.{on_line}
use Rattle.strm_script.specs.Parsed.{Parses}
use Rattle.strm_script.specs.Limits.{most_script_bytes}
use Rattle.strm_script.specs.declared.fault.LineFault.TheVariants as faults

-- ---- a line that was read

-- what a line says was taken
pub reads_entry : (es : List Numbered) (n : ℕ) (entry : Entry) (made : Result Entry Kind) (new : Draft) → Ok entry ≡ made → StandsFor new (es ++ record { number = n; entry = entry } ∷ []) → Reads new (Ok tt) (with_entry es n made)
reads_entry es n entry made new is so = (es ++ record { number = n; entry = entry } ∷ [], ap (with_entry es n) (sym is), so)

-- a line that is no command was not taken, for the fault that its word has
pub reads_fault : (new : Draft) (result : Result (Unit {0}) LineFault) (kind : Kind) (read : Result (List Numbered) Kind) → IsErrAnd result (λ e. e ≡ faults.Kind kind) → read ≡ Err kind → Reads new result read
reads_fault new result kind read out is =
    let found = err_from_is_err_and result out in
    subst (λ r. Reads new r read) (sym (found.1 ∙ ap (λ (e : LineFault). Err e) found.2)) is

pub with_line-word : (es : List Numbered) (n : ℕ) (text first : List ℕ) (arguments : List (List ℕ)) → is_skipped text ≡ false → slice_split (λ b. b == 32) text ≡ first ∷ arguments → None ≡ call_of first arguments
    → with_line es n text ≡ with_word es n (word_of first) arguments
with_line-word es n text first arguments says cut none =
    ap (λ skipped. if skipped then Ok es else with_words es n (slice_split (λ b. b == 32) text)) says
    ∙ ap (with_words es n) cut
    ∙ ap (λ call. option_map_or (with_call es n) call (with_word es n (word_of first) arguments)) (sym none)

-- ---- a script read line by line: what the draft and the rest give is what all gives

-- there is a piece
some_piece : (bytes : List ℕ) → 0 < length (pieces_of bytes)
some_piece bytes = omega (arith, length-slice_split (λ b. b == 10) bytes)

few_pieces : (bytes : List ℕ) → length bytes ≤ most_script_bytes → length (pieces_of bytes) ≤ most_script_bytes + 1
few_pieces bytes short = omega (arith, length-slice_split (λ b. b == 10) bytes, count_by-le-length (λ b. b == 10) bytes)

entries_from-line : (es : List Numbered) (n : ℕ) (line : List ℕ) (pieces : List (List ℕ)) → 0 < length pieces → entries_from es n (line ∷ pieces) ≡ then_lines n (with_line es n line) (λ more. entries_from more (n + 1) pieces)
entries_from-line es n line [] some = absurd (omega arith)
entries_from-line es n line (piece ∷ pieces) some = refl

-- the draft has what the lines before line n say, and the rest is the text
pub record Continues (d : Draft) (n : ℕ) (text bytes : List ℕ) : Type 0 where
  pub es : List Numbered
  pub stands : StandsFor d es
  pub gives : script_or_fault (length (pieces_of bytes)) (entries_from es n (pieces_of text)) ≡ script_of bytes
  pub count : n + length (pieces_of text) ≡ length (pieces_of bytes) + 1
  pub few : length (pieces_of bytes) ≤ most_script_bytes + 1

pub continues-start : (d : Draft) (bytes : List ℕ) → length bytes ≤ most_script_bytes → StandsFor d [] → Continues d 1 bytes bytes
continues-start d bytes short stands = record { es = []; stands = stands; gives = refl; count = omega arith; few = few_pieces bytes short }

-- what line n says decides
given-line : (d : Draft) (n : ℕ) (text bytes line rest : List ℕ) (k : Continues d n text bytes) → pieces_of text ≡ line ∷ pieces_of rest → script_or_fault (length (pieces_of bytes)) (then_lines n (with_line k.es n line) (λ more. entries_from more (n + 1) (pieces_of rest))) ≡ script_of bytes
given-line d n text bytes line rest k cut = cc (cut, entries_from-line k.es n line (pieces_of rest) (some_piece rest), k.gives)

-- a line was read
pub continues-line : (d : Draft) (n : ℕ) (text bytes line rest : List ℕ) (k : Continues d n text bytes) (new : Draft) → pieces_of text ≡ line ∷ pieces_of rest → (es : List Numbered) × (with_line k.es n line ≡ Ok es) × StandsFor new es → Continues new (n + 1) rest bytes
continues-line d n text bytes line rest k new cut read = record {
  es = read.0;
  stands = read.2;
  gives = cc (read.1, given-line d n text bytes line rest k cut);
  count = omega (arith, k.count, ap length cut);
  few = k.few;
}

-- a line has a fault, or memory ran out
pub stops-line : (d : Draft) (n : ℕ) (text bytes line rest : List ℕ) (k : Continues d n text bytes) (new : Draft) (fault : LineFault) → pieces_of text ≡ line ∷ pieces_of rest → Reads new (Err fault) (with_line k.es n line) → Parses (Err (on_line n fault)) (script_of bytes)
stops-line d n text bytes line rest k new (faults.Kind kind) cut read = cc (given-line d n text bytes line rest k cut, read)
stops-line d n text bytes line rest k new faults.Memory cut read = tt
