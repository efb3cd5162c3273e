-- What `edit` leaves of a message if it lends the bytes of the first block to `age_header`.
use Rattle.std.proofs.Common.{◌≡◌, ℕ, ◌+◌, inl, inr, Bool, true, false, List, ◌++◌, length, take, drop, set, Result, Ok, Err, refl, sym, ap, ◌∙◌, subst, IsTrue, arith, append-nil, length-take, get_or-set_same}
use Rattle.std.specs.Prelude.{IfOk, if◌then◌else◌, nat_lt}
use Rattle.std.proofs.lemmas.Grind.{common_steps}
use Rattle.std.proofs.lemmas.Bool.{cases_lt}
use Rattle.std.proofs.lemmas.List.{take-append-drop, drop-drop, take_all, drop_all, length-take-le, drop-append-le, take-append-le, set-get_or, set_past, get_or_past}
use Rattle.strm_data.specs.declared.refusal.Refusal.{Refusal}
use Rattle.strm_data.specs.declared.refusal.Refusal.TheVariants.{Shared}
use Rattle.strm_data.specs.DataStore.{DataStore, DataBlock, bytes_overwritten, data_block_at, no_data_block, with_bytes_written}
use Rattle.strm_mblk.specs.declared.token.TokenValue.{TokenValue}
use Rattle.strm_mblk.specs.Arena.{Arena, references_to}
use Rattle.strm_mblk.specs.Block.{Block, bytes_of_block}
use Rattle.strm_mblk.specs.BlockCalls.{block_found, if_unshared, own_block, with_bytes}
use Rattle.strm_mblk.specs.Calls.{Alters, Lends}
use Rattle.strm_mblk.specs.Given.{and_then, answer_map, answer_of, value_after}
use Rattle.strm_mblk.specs.InPlace as in_place
use Rattle.strm_pool.specs.PoolValue.{PoolValue, arena, on_arena, with_arena}
use Rattle.strm_header.specs.declared.header.HeaderFault.{HeaderFault}
use Rattle.strm_header.specs.Headers.{Rewrites, aged, aged_if, aged_if_right, has_right_checksum, verdict_on}

-- ---- lists

-- the first n items, or as many as there are, before those behind them
behind_first : (n : ℕ) (xs : List ℕ) → take n xs ++ drop (length (take n xs)) xs ≡ xs
behind_first n xs =
    elim (cases_lt n (length xs)) [
      | inl below ↦ cc (length-take-le n xs (omega (arith, below)), take-append-drop n xs)
      | inr past ↦ cc (take_all n xs past, drop_all (length xs) xs (omega arith), append-nil xs)
    ]

-- as many items as the first n, before those behind them: they are the first n
first_again : (n : ℕ) (new xs : List ℕ) → length new ≡ length (take n xs) → take n (new ++ drop (length new) xs) ≡ new
first_again n new xs long =
    elim (cases_lt n (length xs)) [
      | inl below ↦ cc (take-append-le n new (drop (length new) xs) (omega (arith, long, length-take n xs)), take_all n new (omega (arith, long, length-take n xs)))
      | inr past ↦ cc (drop_all (length new) xs (omega (arith, long, length-take n xs)), append-nil new, take_all n new (omega (arith, long, length-take n xs)))
    ]

-- bytes that are written back change nothing
overwritten_same : (at n : ℕ) (old : List ℕ) → bytes_overwritten at (take n (drop at old)) old ≡ old
overwritten_same at n old = cc (drop-drop (length (take n (drop at old))) at old, behind_first n (drop at old), take-append-drop at old)

-- bytes that are written over as many are read again
read_overwritten : (at n : ℕ) (new old : List ℕ) → length new ≡ length (take n (drop at old)) → take n (drop at (bytes_overwritten at new old)) ≡ new
read_overwritten at n new old long =
    elim (cases_lt at (length old)) [
      | inl below ↦
          cc (
            drop-append-le at (take at old) (new ++ drop (at + length new) old) (omega (arith, length-take-le at old (omega (arith, below)))),
            drop_all at (take at old) (omega (arith, length-take at old)),
            drop-drop (length new) at old,
            first_again n new (drop at old) long,
          )
      | inr past ↦ grind (arith, common_steps)
    ]

-- ---- a block

-- the bytes of a block, written back
written_same : (s : DataStore) (b : Block) → with_bytes_written b.data_number b.offset (bytes_of_block s b) s ≡ s
written_same s b =
    let held = data_block_at s b.data_number in
    ap (λ bytes. record s { blocks = set s.blocks b.data_number (record held { bytes = bytes }) }) (overwritten_same b.offset b.len held.bytes)
    ∙ ap (λ blocks. record s { blocks = blocks }) (set-get_or s.blocks b.data_number no_data_block)

-- the bytes of a block after as many were written over them
written_read : (s : DataStore) (b : Block) (new : List ℕ) → length new ≡ length (bytes_of_block s b) → bytes_of_block (with_bytes_written b.data_number b.offset new s) b ≡ new
written_read s b new long =
    let held = data_block_at s b.data_number in
    let now : DataBlock = record held { bytes = bytes_overwritten b.offset new held.bytes } in
    elim (cases_lt b.data_number (length s.blocks)) [
      | inl there ↦ ap (λ (d : DataBlock). take b.len (drop b.offset d.bytes)) (get_or-set_same s.blocks b.data_number now no_data_block there) ∙ read_overwritten b.offset b.len new held.bytes long
      | inr past ↦ grind (arith, common_steps, get_or_past, set_past)
    ]

-- ---- what `edit` leaves

-- what the closure returned and left, as the contract of `age_header` says
pub record Ages (bytes : List ℕ) (r : Result (Unit {0}) HeaderFault) (left : List ℕ) : Type 0 where
  pub verdict : r ≡ verdict_on bytes
  pub left_is : left ≡ aged_if_right bytes
  pub checksum : IfOk r (λ _. IsTrue (has_right_checksum left))

-- a block that is unshared is there
unshared_is : (shared : Bool) (x b : Block) → (let o : Result Block Refusal = if shared then Err Shared else Ok x in o ≡ Ok b) → x ≡ b
unshared_is true x b is = absurd (cc is)
unshared_is false x b is = cc is

own_found : (h : ℕ) (a : Arena) (b : Block) → own_block h 0 a ≡ Ok b → block_found h 0 a ≡ Ok b
own_found h a b own = by_found (block_found h 0 a) own
  where
    by_found : (f : Result Block Refusal) → and_then (if_unshared a) f ≡ Ok b → f ≡ Ok b
    by_found (Ok x) is = ap (λ (y : Block). Ok y) (unshared_is (nat_lt 1 (references_to a x.data_number)) x b is)
    by_found (Err why) is = absurd (cc is)

-- The block of the message was lent: the closure's bytes, its result, and what it left.
pub record IsLent (t : TokenValue) (old new : PoolValue) (result : Result (Result (Unit {0}) HeaderFault) Refusal) : Type 0 where
  pub block : Block
  pub own : own_block t.head 0 old.arena ≡ Ok block
  pub verdict : Result (Unit {0}) HeaderFault
  pub left : List ℕ
  pub long : length left ≡ length (bytes_of_block old.arena.store block)
  pub ages : Ages (bytes_of_block old.arena.store block) verdict left
  pub alters : Alters arena t t (on_arena old (in_place.edit t.head 0 verdict left old.arena)) old new result

module _ (t : TokenValue) (old new : PoolValue) (closure : List ℕ → Result (Unit {0}) HeaderFault → List ℕ → Type 0) (ages : (bytes : List ℕ) (r : Result (Unit {0}) HeaderFault) (left : List ℕ) → closure bytes r left → Ages bytes r left) where
  module _ (result : Result (Result (Unit {0}) HeaderFault) Refusal) (verdict : Result (Unit {0}) HeaderFault) (is_ok : result ≡ Ok verdict) where
    pub lent : Lends arena t closure (in_place.bytes_to_edit t.head 0 old.arena) (λ r left. on_arena old (in_place.edit t.head 0 r left old.arena)) old new result → IsLent t old new result
    lent lends = by_block (own_block t.head 0 old.arena) refl lends
      where
        by_block : (o : Result Block Refusal) → own_block t.head 0 old.arena ≡ o
            → Lends arena t closure (answer_map (bytes_of_block old.arena.store) o) (λ r left. on_arena old (in_place.edit t.head 0 r left old.arena)) old new result → IsLent t old new result
        by_block (Ok b) is lends =
            let edits = lends.1 in
            record {
              block = b;
              own = is;
              verdict = lends.0;
              left = edits.left;
              long = edits.long;
              ages = ages (bytes_of_block old.arena.store b) lends.0 edits.left edits.called;
              alters = edits.after;
            }
        by_block (Err why) is alters = absurd (cc (alters.answer, is_ok))

module _ (t : TokenValue) (old new : PoolValue) (result : Result (Result (Unit {0}) HeaderFault) Refusal) (got : IsLent t old new result) where
  abbrev a : Arena
  a = old.arena

  abbrev bytes : List ℕ
  bytes = bytes_of_block a.store got.block

  -- the bytes were lent
  pub bytes_lent : in_place.bytes_to_edit t.head 0 a ≡ Ok bytes
  bytes_lent = ap (answer_map (bytes_of_block a.store)) got.own

  abbrev edited : List ℕ → PoolValue
  edited left = with_arena old (with_bytes got.block.data_number got.block.offset left a)

  -- what `edit` gives, if the closure returned r and left these bytes
  given : {R : Type 0} (r : R) (left : List ℕ) → on_arena old (in_place.edit t.head 0 r left a) ≡ Ok (r, edited left)
  given r left = ap (λ o. on_arena old (answer_map (λ (b : Block). (r, with_bytes b.data_number b.offset left a)) o)) got.own

  answered : result ≡ Ok got.verdict
  answered = got.alters.answer ∙ ap answer_of (given got.verdict got.left)

  new_is : new ≡ edited got.left
  new_is = got.alters.after ∙ ap (value_after old) (given got.verdict got.left)

  left_is : (verdict : Result (Unit {0}) HeaderFault) → got.verdict ≡ verdict → got.left ≡ aged_if verdict bytes
  left_is verdict is = got.ages.left_is ∙ ap (λ r. aged_if r bytes) (sym got.ages.verdict ∙ is)

  pub rewrites : result ≡ Ok (Ok tt) → Rewrites t t old new
  rewrites is =
      let verdict : got.verdict ≡ Ok tt = cc (answered, is) in
      let left : got.left ≡ aged bytes = left_is (Ok tt) verdict in
      record {
        bytes = bytes;
        lent = bytes_lent;
        right = sym got.ages.verdict ∙ verdict;
        after = record {
          after = new_is ∙ ap edited left ∙ sym (ap (value_after old) (given tt (aged bytes)));
          answer = sym (ap answer_of (given tt (aged bytes)));
          token = got.alters.token;
          had = got.alters.had;
          others = got.alters.others;
          shelves = got.alters.shelves;
        };
        token = refl;
        left =
            ap (λ v. in_place.bytes t.head 0 (arena v)) new_is
            ∙ ap (answer_map (bytes_of_block (edited got.left).arena.store)) (own_found t.head a got.block got.own)
            ∙ ap (λ (bs : List ℕ). Ok bs) (written_read a.store got.block got.left got.long ∙ left);
        checksum = subst (λ bs. IsTrue (has_right_checksum bs)) left (subst (λ r. IfOk r (λ _. IsTrue (has_right_checksum got.left))) verdict got.ages.checksum);
      }

  pub drops : (why : HeaderFault) → result ≡ Ok (Err why) → (verdict_on bytes ≡ Err why) × (new ≡ old)
  drops why is =
      let verdict : got.verdict ≡ Err why = cc (answered, is) in (
        sym got.ages.verdict ∙ verdict,
        new_is ∙ ap edited (left_is (Err why) verdict) ∙ ap (λ s. with_arena old (record a { store = s })) (written_same a.store got.block),
      )
