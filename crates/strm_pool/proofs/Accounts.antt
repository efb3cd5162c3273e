-- Registers of one desk or of several, and what of the held messages they tell.
use Rattle.std.proofs.Common.{◌≡◌, ◌≢◌, ℕ, zero, suc, ◌+◌, ◌<◌, ◌≤◌, Bool, true, false, ◌==◌, List, [], ◌∷◌, length, get_or, Option, Some, None, refl, sym, ap, ◌∙◌, subst, inl, inr, arith, if◌then◌else◌}
use Rattle.std.specs.Prelude.{count_by, option_map, replicate, slice_index_or, slice_set, IfSome}
use Rattle.std.specs.List.{flat_map}
use Rattle.std.specs.Option.{option_map_or}
use Rattle.std.proofs.Math.ListN.{get_or-map}
use Rattle.std.proofs.lemmas.Bool.{cases_Bool, cases_eq, cases_lt, and_parts, and_from, eqb-true, eq-eqb, false≢true, false_from_ne_true}
use Rattle.std.proofs.lemmas.List.{get_or_past}
use Rattle.std.proofs.lemmas.List.Sums.{sum_by-cons}
use Rattle.strm_links.proofs.lists.Counting.{one_if}
use Rattle.strm_mblk.specs.declared.token.TokenValue.{TokenValue}
use Rattle.strm_mblk.specs.Block.{Message, head_of}
use Rattle.strm_mblk.specs.Messages.{blocks_of}
use Rattle.strm_mblk.specs.Arena.{Arena, IsParted, census_of, has, held_at, is_of_length}
use Rattle.strm_mblk.proofs.Lists.{count_adds, flat_map-set_adds, length_adds}
use Rattle.strm_pool.specs.Limits.{most_registers}
use Rattle.strm_pool.specs.PoolValue.{PoolValue, owns}
use Rattle.strm_pool.specs.Registers.{Entries, entry_of, entries_of, is_entry_of, times_listed, AreAccounted, AreDistinct, CarryId, AreOfHeld, table_of, register}

-- 1 where a message of n blocks is held at h, else 0
abbrev pub stands : Arena → ℕ → ℕ → ℕ
stands a h n = if is_of_length n (held_at a h) then 1 else 0

-- from one arena to another, held messages and the entries of registers change alike
abbrev pub Balanced : Arena → Arena → Entries → Entries → Type 0
Balanced a b es fs = (h n : ℕ) → stands b h n + count_by (is_entry_of h n) es ≡ stands a h n + count_by (is_entry_of h n) fs

-- ---- how many elements of a list pass a test

module _ {X : Type 0} (p : X → Bool) where
  -- one element more
  count_more : (x : X) (xs : List X) → count_by p (x ∷ xs) ≡ one_if (p x) + count_by p xs
  count_more x xs = sum_by-cons (λ y. one_if (p y)) x xs

  -- one that passes
  count_here : (x : X) (xs : List X) → p x ≡ true → count_by p (x ∷ xs) ≡ 1 + count_by p xs
  count_here x xs passed = omega (arith, count_more x xs, ap one_if passed)

  -- one that fails
  count_past : (x : X) (xs : List X) → p x ≡ false → count_by p (x ∷ xs) ≡ count_by p xs
  count_past x xs failed = omega (arith, count_more x xs, ap one_if failed)

  -- where none passes
  none_passes : (xs : List X) (d : X) → ((i : ℕ) → p (get_or xs i d) ≡ true → ⊥) → count_by p xs ≡ 0
  none_passes [] d never = refl
  none_passes (x ∷ xs) d never =
      omega (arith, count_past x xs (false_from_ne_true _ (never 0)), none_passes xs d (λ i. never (suc i)))

  -- where no two pass
  few_pass : (xs : List X) (d : X) → ((i j : ℕ) → p (get_or xs i d) ≡ true → p (get_or xs j d) ≡ true → i ≡ j) → count_by p xs ≤ 1
  few_pass [] d once = omega arith
  few_pass (x ∷ xs) d once =
      elim (cases_Bool (p x)) [
        | inl passed ↦
            let later : (j : ℕ) → p (get_or xs j d) ≡ true → ⊥ = λ j also. omega (arith, once 0 (suc j) passed also) in
            omega (arith, count_here x xs passed, none_passes xs d later)
        | inr failed ↦
            let rest : (i j : ℕ) → p (get_or xs i d) ≡ true → p (get_or xs j d) ≡ true → i ≡ j = λ i j one other. omega (arith, once (suc i) (suc j) one other) in
            omega (arith, count_past x xs failed, few_pass xs d rest)
      ]

  module _ (d : X) (fails : p d ≡ false) where
    -- where one passes
    one_passes : (xs : List X) (i : ℕ) → p (get_or xs i d) ≡ true → 0 < count_by p xs
    one_passes [] i passed = absurd (false≢true (sym fails ∙ passed))
    one_passes (x ∷ xs) zero passed = omega (arith, count_here x xs passed)
    one_passes (x ∷ xs) (suc i) passed = omega (arith, count_more x xs, one_passes xs i passed)

    -- where two pass
    two_pass : (xs : List X) (i j : ℕ) → i ≢ j → p (get_or xs i d) ≡ true → p (get_or xs j d) ≡ true → 1 < count_by p xs
    two_pass [] i j apart one other = absurd (false≢true (sym fails ∙ one))
    two_pass (x ∷ xs) zero zero apart one other = absurd (apart refl)
    two_pass (x ∷ xs) zero (suc j) apart one other = omega (arith, count_here x xs one, one_passes xs j other)
    two_pass (x ∷ xs) (suc i) zero apart one other = omega (arith, count_here x xs other, one_passes xs i one)
    two_pass (x ∷ xs) (suc i) (suc j) apart one other =
        omega (arith, count_more x xs, two_pass xs i j (λ same. apart (ap suc same)) one other)

-- ---- one desk

-- what a table shows of a register
pub table-at : (rs : List (Option TokenValue)) (x : ℕ) → register (table_of rs) x ≡ option_map (λ t. t.head) (register rs x)
table-at rs x = get_or-map (option_map (λ (t : TokenValue). t.head)) rs x None

-- the entry of a register
pub entries-at : (rs : List (Option TokenValue)) (x : ℕ) → register (entries_of rs) x ≡ option_map entry_of (register rs x)
entries-at rs x = get_or-map (option_map entry_of) rs x None

-- register x holds a token of n blocks with head h
record Holds (rs : List (Option TokenValue)) (x h n : ℕ) : Type 0 where
  token : TokenValue
  there : register rs x ≡ Some token
  head : token.head ≡ h
  blocks : token.blocks ≡ n

-- the entry of a message is that of a token
holds_told : (rs : List (Option TokenValue)) (x h n : ℕ) → is_entry_of h n (register (entries_of rs) x) ≡ true → Holds rs x h n
holds_told rs x h n told = at (register rs x) refl (sym (ap (is_entry_of h n) (entries-at rs x)) ∙ told)
  where
    at : (o : Option TokenValue) → register rs x ≡ o → is_entry_of h n (option_map entry_of o) ≡ true → Holds rs x h n
    at None is telling = absurd (false≢true telling)
    at (Some t) is telling =
        let both = and_parts _ _ telling in
        record { token = t; there = is; head = eqb-true t.head h both.0; blocks = eqb-true t.blocks n both.1 }

-- a head in the table has an entry, with a number of blocks
told_head : (rs : List (Option TokenValue)) (x h : ℕ) → register (table_of rs) x ≡ Some h → (n : ℕ) × (is_entry_of h n (register (entries_of rs) x) ≡ true)
told_head rs x h shown = at (register rs x) refl (sym (table-at rs x) ∙ shown)
  where
    at : (o : Option TokenValue) → register rs x ≡ o → option_map (λ t. t.head) o ≡ Some h → (n : ℕ) × (is_entry_of h n (register (entries_of rs) x) ≡ true)
    at None is one = absurd cc
    at (Some t) is one =
        let same : t.head ≡ h = cc in
        (t.blocks, ap (is_entry_of h t.blocks) (entries-at rs x ∙ ap (option_map entry_of) is) ∙ and_from _ _ (eq-eqb t.head h same) (eq-eqb t.blocks t.blocks refl))

-- a message has one number of blocks
one_length : (o : Option Message) (m n : ℕ) → is_of_length m o ≡ true → is_of_length n o ≡ true → m ≡ n
one_length None m n one other = absurd (false≢true one)
one_length (Some l) m n one other = sym (eqb-true (length l) m one) ∙ eqb-true (length l) n other

-- a message stands at most once
stands_once : (a : Arena) (h n : ℕ) → stands a h n ≤ 1
stands_once a h n = at_most (is_of_length n (held_at a h))
  where
    at_most : (b : Bool) → one_if b ≤ 1
    at_most true = omega arith
    at_most false = omega arith

-- what stands is held
held_length : (a : Arena) (h n : ℕ) → 0 < stands a h n → is_of_length n (held_at a h) ≡ true
held_length a h n some =
    elim (cases_Bool (is_of_length n (held_at a h))) [
      | inl is ↦ is
      | inr not ↦ absurd (omega (arith, ap one_if not))
    ]

-- ---- what a pool owns

-- each token of registers that a pool owns, it has
pub owned_token : (v : PoolValue) (rs : List (Option TokenValue)) (x : ℕ) (t : TokenValue) → owns v rs ≡ true → register rs x ≡ Some t → has v.arena t ≡ true
owned_token v rs x t owned is = ap (λ (o : Option TokenValue). option_map_or (has v.arena) o true) (sym is) ∙ at rs x owned
  where
    at : (rs : List (Option TokenValue)) (x : ℕ) → owns v rs ≡ true → option_map_or (has v.arena) (register rs x) true ≡ true
    at [] x owned = refl
    at (r ∷ rs) zero owned = (and_parts _ _ owned).0
    at (r ∷ rs) (suc x) owned = at rs x (and_parts _ _ owned).1

-- a pool owns registers of which it has each token
owns_from : (w : PoolValue) (rs : List (Option TokenValue)) → ((x : ℕ) (t : TokenValue) → register rs x ≡ Some t → has w.arena t ≡ true) → owns w rs ≡ true
owns_from w [] each = refl
owns_from w (r ∷ rs) each = and_from _ _ (here r (λ t is. each 0 t is)) (owns_from w rs (λ x. each (suc x)))
  where
    here : (o : Option TokenValue) → ((t : TokenValue) → o ≡ Some t → has w.arena t ≡ true) → option_map_or (has w.arena) o true ≡ true
    here None each = refl
    here (Some t) each = each t refl

-- if each token carries the pool's id and each entry is of a held message, the pool owns the registers
pub owned_told : (v : PoolValue) (rs : List (Option TokenValue)) → CarryId v.arena.id rs → AreOfHeld v.arena (entries_of rs) → owns v rs ≡ true
owned_told v rs carry told = owns_from v rs (λ x t there. and_from _ _ (eq-eqb t.pool v.arena.id (carried x t there)) (held x t there))
  where
    carried : (x : ℕ) (t : TokenValue) → register rs x ≡ Some t → t.pool ≡ v.arena.id
    carried x t there = subst (λ (o : Option TokenValue). IfSome o (λ u. u.pool ≡ v.arena.id)) there (carry x)

    held : (x : ℕ) (t : TokenValue) → register rs x ≡ Some t → is_of_length t.blocks (held_at v.arena t.head) ≡ true
    held x t there = subst (λ (o : Option (ℕ × ℕ)). IfSome o (λ e. is_of_length e.1 (held_at v.arena e.0) ≡ true)) (entries-at rs x ∙ ap (option_map entry_of) there) (told x)

-- each entry of these registers is of a held message, and no two are of the same
abbrev AreHeld : Arena → List (Option TokenValue) → Type 0
AreHeld a rs = (h n : ℕ) → count_by (is_entry_of h n) (entries_of rs) ≤ stands a h n

-- then their heads are distinct
distinct_held : (a : Arena) (rs : List (Option TokenValue)) → AreHeld a rs → AreDistinct (table_of rs)
distinct_held a rs held x y h first second =
    elim (cases_eq x y) [
      | inl same ↦ same
      | inr other ↦
          let one = told_head rs x h first in
          let two = told_head rs y h second in
          let n = one.0 in
          let same : n ≡ two.0 = one_length (held_at a h) n two.0 (held_told x n one.1) (held_told y two.0 two.1) in
          let also : is_entry_of h n (register (entries_of rs) y) ≡ true = ap (λ k. is_entry_of h k (register (entries_of rs) y)) same ∙ two.1 in
          absurd (omega (arith, stands_once a h n, held h n, two_pass (is_entry_of h n) None refl (entries_of rs) x y other one.1 also))
    ]
  where
    held_told : (z n : ℕ) → is_entry_of h n (register (entries_of rs) z) ≡ true → is_of_length n (held_at a h) ≡ true
    held_told z n told = held_length a h n (omega (arith, held h n, one_passes (is_entry_of h n) None refl (entries_of rs) z told))

-- so it is with registers that a pool owns, where their heads are distinct
held_owned : (v : PoolValue) (rs : List (Option TokenValue)) → owns v rs ≡ true → AreDistinct (table_of rs) → AreHeld v.arena rs
held_owned v rs owned distinct h n =
    elim (cases_Bool (is_of_length n (held_at v.arena h))) [
      | inl is ↦ omega (arith, ap one_if is, few_pass (is_entry_of h n) (entries_of rs) None once)
      | inr not ↦ omega (arith, none_passes (is_entry_of h n) (entries_of rs) None (λ x told. false≢true (sym not ∙ held_there x told)))
    ]
  where
    once : (x y : ℕ) → is_entry_of h n (register (entries_of rs) x) ≡ true → is_entry_of h n (register (entries_of rs) y) ≡ true → x ≡ y
    once x y one other = distinct x y h (shown x (holds_told rs x h n one)) (shown y (holds_told rs y h n other))
      where
        shown : (z : ℕ) → Holds rs z h n → register (table_of rs) z ≡ Some h
        shown z holds = table-at rs z ∙ ap (option_map (λ t. t.head)) holds.there ∙ ap (λ k. Some k) holds.head

    held_there : (x : ℕ) → is_entry_of h n (register (entries_of rs) x) ≡ true → is_of_length n (held_at v.arena h) ≡ true
    held_there x told =
        let holds = holds_told rs x h n told in
        let both = and_parts (holds.token.pool == v.arena.id) _ (owned_token v rs x holds.token owned holds.there) in
        ap (λ k. is_of_length n (held_at v.arena k)) (sym holds.head) ∙ ap (λ k. is_of_length k (held_at v.arena holds.token.head)) (sym holds.blocks) ∙ both.1

-- ---- several desks

-- where a desk's entries change as the arena does, all desks are accounted for as before
pub accounted_balanced : (a b : Arena) (es fs : Entries) → Balanced a b es fs
    → (desks : List Entries) (desk : ℕ) → desk < length desks → slice_index_or desks desk [] ≡ es → AreAccounted a desks → AreAccounted b (slice_set desks desk fs)
accounted_balanced a b es fs balanced desks desk within is accounted h n =
    omega (
      arith,
      balanced h n,
      accounted h n,
      flat_map-set_adds (count_adds (is_entry_of h n)) (λ es. es) desks desk fs [] within,
      ap (count_by (is_entry_of h n)) is,
    )

-- if each held message is in one register of one desk, each entry of a desk is of a held message, and no two are of the same
pub held_accounted : (a : Arena) (rs : List (Option TokenValue)) (desks : List Entries) (desk : ℕ) → desk < length desks → slice_index_or desks desk [] ≡ entries_of rs
    → AreAccounted a desks → AreHeld a rs
held_accounted a rs desks desk within is accounted h n =
    omega (
      arith,
      accounted h n,
      flat_map-set_adds (count_adds (is_entry_of h n)) (λ es. es) desks desk [] [] within,
      ap (count_by (is_entry_of h n)) is,
    )

module _ (v : PoolValue) (rs : List (Option TokenValue)) (desks : List Entries) (desk : ℕ)
    (within : desk < length desks) (is : slice_index_or desks desk [] ≡ entries_of rs) (accounted : AreAccounted v.arena desks) where
  -- then no desk has one twice
  pub accounted_distinct : AreDistinct (table_of rs)
  accounted_distinct = distinct_held v.arena rs (held_accounted v.arena rs desks desk within is accounted)

  -- and each that holds a token has an entry of a held message
  told_held : AreOfHeld v.arena (entries_of rs)
  told_held x = each (register (entries_of rs) x) refl
    where
      each : (o : Option (ℕ × ℕ)) → register (entries_of rs) x ≡ o → IfSome o (λ e. is_of_length e.1 (held_at v.arena e.0) ≡ true)
      each None there = tt
      each (Some e) there =
          held_length v.arena e.0 e.1 (omega (
            arith,
            held_accounted v.arena rs desks desk within is accounted e.0 e.1,
            one_passes (is_entry_of e.0 e.1) None refl (entries_of rs) x (ap (is_entry_of e.0 e.1) there ∙ and_from _ _ (eq-eqb e.0 e.0 refl) (eq-eqb e.1 e.1 refl)),
          ))

  -- so the pool owns the desk's registers, where each token in them carries its id
  pub accounted_owned : CarryId v.arena.id rs → owns v rs ≡ true
  accounted_owned carry = owned_told v rs carry told_held

-- the tokens of registers that a pool owns carry its id
pub owned_carry : (v : PoolValue) (rs : List (Option TokenValue)) → owns v rs ≡ true → CarryId v.arena.id rs
owned_carry v rs owned x = at (register rs x) refl
  where
    at : (o : Option TokenValue) → register rs x ≡ o → IfSome o (λ t. t.pool ≡ v.arena.id)
    at None is = tt
    at (Some t) is = eqb-true t.pool v.arena.id (and_parts _ _ (owned_token v rs x t owned is)).0

-- ---- desks with empty registers

-- empty registers have no entries
none_told : (h n desks : ℕ) → times_listed h n (replicate desks (replicate most_registers None)) ≡ 0
none_told h n zero = refl
none_told h n (suc desks) =
    omega (arith, (count_adds (is_entry_of h n)).both (replicate most_registers None) (flat_map (λ es. es) (replicate desks (replicate most_registers None))), none_told h n desks)

-- where no block is in a held message, no message is held
none_held : (a : Arena) → IsParted a → (census_of a).held ≡ 0 → (h : ℕ) → held_at a h ≡ None
none_held a parted empty h = at (held_at a h) refl (parted.chains.heads h)
  where
    at : (o : Option Message) → held_at a h ≡ o → IfSome o (λ m. (0 < length m) × (head_of m ≡ h)) → held_at a h ≡ None
    at None is some = is
    at (Some m) is some =
        elim (cases_lt h (length a.held)) [
          | inl within ↦ absurd (omega (arith, empty, some.0, flat_map-set_adds length_adds blocks_of a.held h None None within, ap (λ o. length (blocks_of o)) is))
          | inr beyond ↦ get_or_past a.held h None beyond
        ]

-- so desks with empty registers account for a pool of which nothing is held
pub accounted_idle : (a : Arena) (desks : ℕ) → IsParted a → (census_of a).held ≡ 0 → AreAccounted a (replicate desks (replicate most_registers None))
accounted_idle a desks parted empty h n =
    none_told h n desks ∙ sym (ap (λ (o : Option Message). if is_of_length n o then 1 else 0) (none_held a parted empty h))

-- where registers change as a pool does, which has each token in them then, it owns them, with distinct heads
pub owned_balanced : (v w : PoolValue) (rs ss : List (Option TokenValue)) → Balanced v.arena w.arena (entries_of rs) (entries_of ss)
    → ((x : ℕ) (t : TokenValue) → register ss x ≡ Some t → has w.arena t ≡ true)
    → owns v rs ≡ true → AreDistinct (table_of rs) → (owns w ss ≡ true) × AreDistinct (table_of ss)
owned_balanced v w rs ss balanced each owned distinct =
    (owns_from w ss each, distinct_held w.arena ss (λ h n. omega (arith, balanced h n, held_owned v rs owned distinct h n)))
