-- A call that lends bytes to a closure which leaves them as they are, and moves no place, leaves the pool as it was.
use Rattle.std.proofs.Common.{◌≡◌, ℕ, arith, zero, suc, ◌+◌, Bool, true, false, List, [], ◌∷◌, ◌++◌, length, take, drop, get_or, Option, Some, None, Result, Ok, Err, refl, sym, ap, ◌∙◌, subst}
use Rattle.std.specs.Prelude.{◌-◌, IfOk, MatchResult, nat_lt, slice_set, if◌then◌else◌}
use Rattle.std.proofs.lemmas.List.{drop-drop, length-drop, set-get_or, take-append-drop}
use denote.RawPtr.{Ptr}
use Rattle.strm_data.specs.declared.refusal.Refusal.{Refusal}
use Rattle.strm_data.specs.declared.refusal.Refusal.TheVariants.{Shared}
use Rattle.strm_data.specs.DataStore.{DataStore, bytes_overwritten, capacity_of, data_block_at, no_data_block, with_bytes_written}
use Rattle.strm_data.specs.Lending.{Edits}
use Rattle.strm_mblk.specs.declared.block_place.BlockPlace.{BlockPlace}
use Rattle.strm_mblk.specs.Arena.{Arena, references_to}
use Rattle.strm_mblk.specs.Block.{Block, bytes_of_block}
use Rattle.strm_mblk.specs.BlockCalls.{block_found, if_unshared, own_block, with_bytes}
use Rattle.strm_mblk.specs.Given.{Given, and_then, answer_map}
use Rattle.strm_mblk.specs.InPlace as in_place
use Rattle.strm_pool.specs.PoolValue.{PoolValue, on_arena, with_arena}
use Rattle.strm_named.specs.declared.fault.Fault.{Fault}
use Rattle.strm_named.specs.declared.fault.Fault.TheVariants.{Invalid, Refused}
use Rattle.strm_named.specs.declared.name.Name.{Name}
use Rattle.strm_named.specs.NamedCalls.{Does, LendsNamed, Outcome, as_named_result, asked, on_name, outcome_of}
use Rattle.strm_named.specs.NamedValue.{NamedValue, is_valid, with_pool}
use Rattle.strm_c.specs.Codes.{Answer, answer_of_result, value_written}
use Rattle.strm_c.specs.InPlace.{Finds, IsAddress, StoresAddress, number_lent}

-- ---- bytes written over themselves

all_again : (xs : List ℕ) → xs ++ drop (length xs) xs ≡ xs
all_again [] = refl
all_again (x ∷ xs) = ap (λ ys. x ∷ ys) (all_again xs)

some_again : (n : ℕ) (xs : List ℕ) → take n xs ++ drop (length (take n xs)) xs ≡ xs
some_again zero xs = refl
some_again (suc n) [] = refl
some_again (suc n) (x ∷ xs) = ap (λ ys. x ∷ ys) (some_again n xs)

module _ (at : ℕ) (bytes old : List ℕ) (same : bytes ++ drop (length bytes) (drop at old) ≡ drop at old) where
  overwritten_same : bytes_overwritten at bytes old ≡ old
  overwritten_same =
      ap (λ (rest : List ℕ). take at old ++ (bytes ++ rest)) (sym (drop-drop (length bytes) at old))
      ∙ (ap (λ (rest : List ℕ). take at old ++ rest) same ∙ take-append-drop at old)

written_same : (d at : ℕ) (bytes : List ℕ) (a : Arena) → bytes ++ drop (length bytes) (drop at (data_block_at a.store d).bytes) ≡ drop at (data_block_at a.store d).bytes → with_bytes d at bytes a ≡ a
written_same d at bytes a same =
    ap (λ (left : List ℕ). record a { store = record a.store { blocks = slice_set a.store.blocks d (record (data_block_at a.store d) { bytes = left }) } }) (overwritten_same at bytes (data_block_at a.store d).bytes same)
    ∙ ap (λ blocks. record a { store = record a.store { blocks = blocks } }) (set-get_or a.store.blocks d no_data_block)

-- ---- a call that lends

-- what a call gives that lends bytes and leaves the pool as it was: an answer, by what the closure returned, or a fault
pub record Lent {X R : Type 0} (closure : List ℕ → R → List ℕ → Type 0) (answers : R → List ℕ → X) (lent : Result (List ℕ) Fault) (old new : NamedValue) (answer : Result X Fault) : Type 0 where
  pub same : new ≡ old
  pub told : MatchResult lent (λ bytes. (r : R) × (closure bytes r bytes × (answer ≡ Ok (answers r bytes)))) (λ fault. answer ≡ Err fault)

module _ {X R : Type 0} (closure : List ℕ → R → List ℕ → Type 0) (answers : R → List ℕ → X) (after : R → List ℕ → Block → Arena) (of : Block → List ℕ) (v w : NamedValue) (answer : Result X Fault)
    (keeps : (bytes : List ℕ) (r : R) (left : List ℕ) → closure bytes r left → left ≡ bytes) where
  abbrev call : Result Block Refusal → R → List ℕ → Outcome X
  call own r left = outcome_of (on_arena v.pool (answer_map (λ b. (answers r left, after r left b)) own))

  by_block : (own : Result Block Refusal) → ((b : Block) (r : R) → own ≡ Ok b → closure (of b) r (of b) → after r (of b) b ≡ v.pool.arena)
      → LendsNamed closure (as_named_result (answer_map of own)) (call own) v w answer → Lent closure answers (as_named_result (answer_map of own)) v w answer
  by_block (Err why) unchanged lends = record { same = lends.after; told = lends.told }
  by_block (Ok b) unchanged lends =
      let r = lends.0 in
      let edits = lends.1 in
      let back : edits.left ≡ of b = keeps (of b) r edits.left edits.called in
      let called : closure (of b) r (of b) = subst (λ left. closure (of b) r left) back edits.called in
      record {
        same = edits.after.after ∙ (ap (λ left. with_pool v (with_arena v.pool (after r left b))) back ∙ ap (λ a. with_pool v (with_arena v.pool a)) (unchanged b r refl called));
        told = (r, (called, edits.after.told ∙ ap (λ left. let o : Result X Fault = Ok (answers r left) in o) back));
      }

  pub lent_by : (valid : Bool) (own : Result Block Refusal) → ((b : Block) (r : R) → own ≡ Ok b → closure (of b) r (of b) → after r (of b) b ≡ v.pool.arena)
      → LendsNamed closure (if valid then as_named_result (answer_map of own) else Err Invalid) (λ r left. if valid then call own r left else Err Invalid) v w answer
      → Lent closure answers (if valid then as_named_result (answer_map of own) else Err Invalid) v w answer
  lent_by true own unchanged lends = by_block own unchanged lends
  lent_by false own unchanged lends = record { same = lends.after; told = lends.told }

pub edit_lent : {R : Type 0} (closure : List ℕ → R → List ℕ → Type 0) → ((bytes : List ℕ) (r : R) (left : List ℕ) → closure bytes r left → left ≡ bytes) → (v w : NamedValue) (answer : Result R Fault) (n : Name) (k : ℕ)
    → LendsNamed closure (asked v n (in_place.bytes_to_edit n.head k v.pool.arena)) (λ r left. on_name v n (on_arena v.pool (in_place.edit n.head k r left v.pool.arena))) v w answer
    → Lent closure (λ r left. r) (asked v n (in_place.bytes_to_edit n.head k v.pool.arena)) v w answer
edit_lent closure keeps v w answer n k lends =
    let a = v.pool.arena in
    lent_by closure (λ r left. r) (λ r left b. with_bytes b.data_number b.offset left a) (bytes_of_block a.store) v w answer keeps
    (is_valid v n) (own_block n.head k a) (λ b r is called. written_same b.data_number b.offset (bytes_of_block a.store b) a (some_again b.len (drop b.offset (data_block_at a.store b.data_number).bytes))) lends

-- ---- where the bytes are

-- what a closure that finds bytes returned, and that it left them
pub record IsPlaceOf (bytes : List ℕ) (r : Ptr × ℕ) (left : List ℕ) : Type 0 where
  pub address : IsAddress r.0
  pub count : r.1 ≡ length bytes
  pub same : left ≡ bytes

module _ (closure : List ℕ → Ptr × ℕ → List ℕ → Type 0) (place : (bytes : List ℕ) (r : Ptr × ℕ) (left : List ℕ) → closure bytes r left → IsPlaceOf bytes r left) (v w : NamedValue) (answer : Result (Ptr × ℕ) Fault) where
  found : (lent : Result (List ℕ) Fault) → Lent closure (λ r left. r) lent v w answer → Finds lent v w answer
  found (Ok bytes) l =
      let is = place bytes l.told.0 bytes l.told.1.0 in
      record {
        number = ap (answer_of_result (λ f. let o : Answer ℕ = Ok f.1 in o)) l.told.1.1 ∙ ap (λ (count : ℕ). let o : Answer ℕ = Ok count in o) is.count;
        address = subst (λ (o : Result (Ptr × ℕ) Fault). IfOk o (λ f. IsAddress f.0)) (sym l.told.1.1) is.address;
        same = l.same;
      }
  found (Err fault) l = record {
    number = ap (answer_of_result (λ f. let o : Answer ℕ = Ok f.1 in o)) l.told;
    address = subst (λ (o : Result (Ptr × ℕ) Fault). IfOk o (λ f. IsAddress f.0)) (sym l.told) tt;
    same = l.same;
  }

  pub edit_finds : (n : Name) (k : ℕ) → LendsNamed closure (asked v n (in_place.bytes_to_edit n.head k v.pool.arena)) (λ r left. on_name v n (on_arena v.pool (in_place.edit n.head k r left v.pool.arena))) v w answer
      → Finds (asked v n (in_place.bytes_to_edit n.head k v.pool.arena)) v w answer
  edit_finds n k lends = found (asked v n (in_place.bytes_to_edit n.head k v.pool.arena)) (edit_lent closure (λ bytes r left called. (place bytes r left called).same) v w answer n k lends)

  pub window_finds : (n : Name) (k : ℕ)
      → LendsNamed closure (asked v n (in_place.bytes_of_window n.head k v.pool.arena)) (λ r left. on_name v n (on_arena v.pool (in_place.window n.head k r left v.pool.arena))) v w answer
      → Finds (asked v n (in_place.bytes_of_window n.head k v.pool.arena)) v w answer
  window_finds n k lends =
      let a = v.pool.arena in
      found (asked v n (in_place.bytes_of_window n.head k a))
      (lent_by closure (λ r left. r) (λ r left b. with_bytes b.data_number 0 left a) (λ b. (data_block_at a.store b.data_number).bytes) v w answer (λ bytes r left called. (place bytes r left called).same)
      (is_valid v n) (own_block n.head k a) (λ b r is called. written_same b.data_number 0 (data_block_at a.store b.data_number).bytes a (all_again (data_block_at a.store b.data_number).bytes)) lends)

-- ---- where the room is

-- the room that a block's places say
abbrev pub room_of : Result BlockPlace Fault → ℕ
room_of (Ok p) = p.capacity - p.at - p.len
room_of (Err fault) = 0

module _ (v : NamedValue) (n : Name) (k : ℕ) where
  abbrev a : Arena
  a = v.pool.arena

  by_shared : (b : Block) (shared : Bool) → IfOk (as_named_result (answer_map (in_place.bytes_behind a.store) (let o : Result Block Refusal = if shared then Err Shared else Ok b in o))) (λ lent. capacity_of a.store b.data_number - b.offset - b.len ≡ length lent)
  by_shared b true = tt
  by_shared b false = omega (arith, length-drop (b.offset + b.len) (data_block_at a.store b.data_number).bytes)

  by_found : (valid : Bool) (found : Result Block Refusal) → IfOk (if valid then as_named_result (answer_map (in_place.bytes_behind a.store) (and_then (if_unshared a) found)) else Err Invalid)
      (λ lent. room_of (if valid then as_named_result (answer_map (in_place.place_of a.store) found) else Err Invalid) ≡ length lent)
  by_found false found = tt
  by_found true (Err why) = tt
  by_found true (Ok b) = by_shared b (nat_lt 1 (references_to a b.data_number))

  pub rooms : (answer : Result BlockPlace Fault) → answer ≡ asked v n (in_place.place n.head k a) → IfOk (asked v n (in_place.bytes_to_fill n.head k a)) (λ lent. room_of answer ≡ length lent)
  rooms answer is = subst (λ o. IfOk (asked v n (in_place.bytes_to_fill n.head k a)) (λ lent. room_of o ≡ length lent)) (sym is) (by_found (is_valid v n) (block_found n.head k a))

-- what a closure that finds the end of bytes returned with this count, and that it left them
pub record IsEndOf (count : ℕ) (bytes : List ℕ) (r : Ptr × ℕ) (left : List ℕ) : Type 0 where
  pub address : IsAddress r.0
  pub counted : r.1 ≡ count
  pub same : left ≡ bytes

module _ (closure : List ℕ → Ptr × ℕ → List ℕ → Type 0) (count : ℕ) (end : (bytes : List ℕ) (r : Ptr × ℕ) (left : List ℕ) → closure bytes r left → IsEndOf count bytes r left) (v w : NamedValue) (answer : Result (Ptr × ℕ) Fault) where
  refused : (fault : Fault) → w ≡ v → answer ≡ Err fault → Finds (Err fault) v w answer
  refused fault same told = record {
    number = ap (answer_of_result (λ f. let o : Answer ℕ = Ok f.1 in o)) told;
    address = subst (λ (o : Result (Ptr × ℕ) Fault). IfOk o (λ f. IsAddress f.0)) (sym told) tt;
    same = same;
  }

  beside : (valid : Bool) (own : Result Block Refusal) (f g : Block → List ℕ) → Lent closure (λ r left. r) (if valid then as_named_result (answer_map f own) else Err Invalid) v w answer
      → IfOk (if valid then as_named_result (answer_map g own) else Err Invalid) (λ lent. count ≡ length lent) → Finds (if valid then as_named_result (answer_map g own) else Err Invalid) v w answer
  beside false own f g l counted = refused Invalid l.same l.told
  beside true (Err why) f g l counted = refused (Refused why) l.same l.told
  beside true (Ok b) f g l counted =
      let is = end (f b) l.told.0 (f b) l.told.1.0 in
      record {
        number = ap (answer_of_result (λ f. let o : Answer ℕ = Ok f.1 in o)) l.told.1.1 ∙ ap (λ (size : ℕ). let o : Answer ℕ = Ok size in o) (is.counted ∙ counted);
        address = subst (λ (o : Result (Ptr × ℕ) Fault). IfOk o (λ f. IsAddress f.0)) (sym l.told.1.1) is.address;
        same = l.same;
      }

  pub room_finds : (n : Name) (k : ℕ) → IfOk (asked v n (in_place.bytes_to_fill n.head k v.pool.arena)) (λ lent. count ≡ length lent)
      → LendsNamed closure (asked v n (in_place.bytes_to_edit n.head k v.pool.arena)) (λ r left. on_name v n (on_arena v.pool (in_place.edit n.head k r left v.pool.arena))) v w answer
      → Finds (asked v n (in_place.bytes_to_fill n.head k v.pool.arena)) v w answer
  room_finds n k counted lends =
      let a = v.pool.arena in
      beside (is_valid v n) (own_block n.head k a) (bytes_of_block a.store) (in_place.bytes_behind a.store) (edit_lent closure (λ bytes r left called. (end bytes r left called).same) v w answer n k lends) counted

-- ---- what is stored of it

pub stored : (found : Result (Ptr × ℕ) Fault) (lent : Result (List ℕ) Fault) (was is : Ptr) → answer_of_result (λ f. Ok f.1) found ≡ number_lent lent → IfOk found (λ f. IsAddress f.0)
    → is ≡ value_written was (answer_of_result (λ f. Ok f.0) found) → StoresAddress (number_lent lent) was is
stored found lent was is number address put = subst (λ (o : Answer ℕ). StoresAddress o was is) number (of_found found address put)
  where
    of_found : (o : Result (Ptr × ℕ) Fault) → IfOk o (λ f. IsAddress f.0) → is ≡ value_written was (answer_of_result (λ f. Ok f.0) o) → StoresAddress (answer_of_result (λ f. Ok f.1) o) was is
    of_found (Ok f) address put = subst IsAddress (sym put) address
    of_found (Err fault) address put = put
