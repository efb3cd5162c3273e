-- Orders that are merges: the serial one, and that of a trace.
use Rattle.std.proofs.Common.{◌≡◌, ◌≢◌, ℕ, zero, suc, ◌+◌, ◌<◌, Bool, true, false, List, [], ◌∷◌, ◌++◌, length, map, get_or, refl, sym, ap, ◌∙◌, inl, inr, arith, append-nil}
use Rattle.std.specs.Prelude.{◌==◌, filter, slice_index_or, if◌then◌else◌}
use Rattle.std.specs.List.{All}
use Rattle.std.proofs.lemmas.Bool.{cases_lt, eq-eqb, ne_eqb}
use Rattle.std.proofs.lemmas.List.{get_or_past, map-append}
use Rattle.std.proofs.lemmas.List.Elements.{All-tail, filter-append}
use Rattle.strm_pool.specs.declared.reply.Reply.{Reply}
use Rattle.strm_pool.specs.declared.line.Entry.{Entry}
use Rattle.strm_pool.specs.declared.line.Line.{Line}
use Rattle.strm_shared.specs.Chronicle.{entry_of, served_from}
use Rattle.strm_script.specs.Merge.{Served, part_of, IsMerge, by_worker, merge_of, serial_from, serial_merge}

-- ---- the serial one

part_of-append : (w : ℕ) (first rest : List Served) → part_of w (first ++ rest) ≡ part_of w first ++ part_of w rest
part_of-append w first rest =
    cc (filter-append (λ (s : Served). s.worker == w) first rest, map-append (λ (s : Served). s.line) (filter (λ s. s.worker == w) first) (filter (λ s. s.worker == w) rest))

-- all of a worker's lines are its own
part_of-own : (w : ℕ) (lines : List Line) → part_of w (by_worker w lines) ≡ lines
part_of-own w [] = refl
part_of-own w (line ∷ lines) = rw (eq-eqb w w refl) (ap (λ ls. line ∷ ls) (part_of-own w lines))

-- none of a worker's lines is another's
part_of-other : (v w : ℕ) (lines : List Line) → v ≢ w → part_of w (by_worker v lines) ≡ []
part_of-other v w [] other = refl
part_of-other v w (line ∷ lines) other = rw (ne_eqb v w other) (part_of-other v w lines other)

part_of-before : (w k : ℕ) (parts : List (List Line)) → w < k → part_of w (serial_from k parts) ≡ []
part_of-before w k [] below = refl
part_of-before w k (lines ∷ parts) below =
    cc (part_of-append w (by_worker k lines) (serial_from (k + 1) parts), part_of-other k w lines (λ same. omega arith), part_of-before w (k + 1) parts (omega arith))

part_of-serial : (w k i : ℕ) (parts : List (List Line)) → w ≡ k + i → part_of w (serial_from k parts) ≡ slice_index_or parts i []
part_of-serial w k i [] at = refl
part_of-serial w k zero (lines ∷ parts) at =
    cc (part_of-append w (by_worker k lines) (serial_from (k + 1) parts), part_of-before w (k + 1) parts (omega arith), append-nil (part_of w (by_worker k lines)), k_is_w, part_of-own w lines)
  where
    k_is_w : k ≡ w
    k_is_w = omega arith
part_of-serial w k (suc i) (lines ∷ parts) at =
    cc (part_of-append w (by_worker k lines) (serial_from (k + 1) parts), part_of-other k w lines (λ same. omega arith), part_of-serial w (k + 1) i parts (omega arith))

-- each worker's lines are served in order
pub IsMerge-serial_merge : (parts : List (List Line)) → IsMerge parts (serial_merge parts)
IsMerge-serial_merge parts worker = part_of-serial worker 0 worker parts (omega arith)

-- ---- that of a trace

-- the entries of a desk's lines, as far as there are replies
abbrev pub entries_for : ℕ → List Line → List Reply → List Entry
entries_for n [] replies = []
entries_for n (line ∷ lines) [] = []
entries_for n (line ∷ lines) (reply ∷ replies) = entry_of n line.number line.call reply ∷ entries_for n lines replies

-- there is one for each reply
pub length-entries_for : (n : ℕ) (lines : List Line) (replies : List Reply) → length replies < length lines + 1 → length (entries_for n lines replies) ≡ length replies
length-entries_for n [] [] few = refl
length-entries_for n [] (reply ∷ replies) few = absurd (omega (arith, few))
length-entries_for n (line ∷ lines) [] few = refl
length-entries_for n (line ∷ lines) (reply ∷ replies) few = omega (arith, length-entries_for n lines replies (omega (arith, few)))

-- none passes
filter-none : {X : Type 0} (p : X → Bool) (xs : List X) → All (λ x. p x ≡ false) xs → filter p xs ≡ []
filter-none p [] none = refl
filter-none p (x ∷ xs) none = rw (none 0 x (omega arith)) (filter-none p xs (All-tail (λ (y : _). p y ≡ false) x xs none))

-- without their stamps, the entries of a desk
pub served_from-entries : (k n : ℕ) (es : List Entry) → map (λ s. s.1) (served_from k n es) ≡ filter (λ e. e.desk == n) es
served_from-entries k n [] = refl
served_from-entries k n (e ∷ es) = kept (e.desk == n) (served_from-entries (k + 1) n es)
  where
    kept : (b : Bool) → map (λ s. s.1) (served_from (k + 1) n es) ≡ filter (λ x. x.desk == n) es
        → map (λ s. s.1) (if b then (k, e) ∷ served_from (k + 1) n es else served_from (k + 1) n es) ≡ (if b then e ∷ filter (λ x. x.desk == n) es else filter (λ x. x.desk == n) es)
    kept true is = ap (λ (xs : List Entry). e ∷ xs) is
    kept false is = is

-- the line of an entry
abbrev pub line_of : Entry → Line
line_of e = record { number = e.line; call = e.call }

-- where each line has its reply, the entries for lines are of these lines
pub lines_of-entries_for : (n : ℕ) (lines : List Line) (replies : List Reply) → length replies ≡ length lines → map line_of (entries_for n lines replies) ≡ lines
lines_of-entries_for n [] replies as_many = refl
lines_of-entries_for n (line ∷ lines) [] as_many = absurd (omega (arith, as_many))
lines_of-entries_for n (line ∷ lines) (reply ∷ replies) as_many = ap (λ (ls : List Line). line ∷ ls) (lines_of-entries_for n lines replies (omega (arith, as_many)))

-- a worker's lines, of a trace, are those of its desk's entries
part_of-merge_of : (n : ℕ) (es : List Entry) → part_of n (merge_of es) ≡ map line_of (filter (λ e. e.desk == n) es)
part_of-merge_of n [] = refl
part_of-merge_of n (e ∷ es) = kept (e.desk == n) (part_of-merge_of n es)
  where
    kept : (b : Bool) → part_of n (merge_of es) ≡ map line_of (filter (λ x. x.desk == n) es)
        → map (λ s. s.line) (if b then record { worker = e.desk; line = line_of e } ∷ filter (λ s. s.worker == n) (merge_of es) else filter (λ s. s.worker == n) (merge_of es))
        ≡ map line_of (if b then e ∷ filter (λ x. x.desk == n) es else filter (λ x. x.desk == n) es)
    kept true is = ap (λ (ls : List Line). line_of e ∷ ls) is
    kept false is = is

-- where each desk's lines are a part, and no other desk has entries, the trace is a merge of the parts
pub IsMerge-merge_of : (parts : List (List Line)) (es : List Entry) → All (λ e. e.desk < length parts) es
    → ((k : ℕ) → k < length parts → map line_of (filter (λ e. e.desk == k) es) ≡ get_or parts k []) → IsMerge parts (merge_of es)
IsMerge-merge_of parts es below each worker = elim (cases_lt worker (length parts)) [
  | inl within ↦ part_of-merge_of worker es ∙ each worker within
  | inr past ↦
      part_of-merge_of worker es
      ∙ ap (map line_of) (filter-none (λ (e : Entry). e.desk == worker) es (λ k d within. ne_eqb (get_or es k d).desk worker (λ same. omega (arith, same, past, below k d within))))
      ∙ sym (get_or_past parts worker [] past)
]
