-- Blocks and heads counted over all messages, and tokens.
use Rattle.std.proofs.Common.{◌≡◌, ℕ, ◌+◌, ◌<◌, eqb, List, [], ◌++◌, length, set, Option, None, ap, ◌∙◌, arith, ◌≤◌, Bool, ltb, ◌∷◌, Some, refl, sym, subst, if◌then◌else◌, length-append, true, ◌≢◌, zero, suc, ◌⊎◌, inl, inr, Ok, get_or-set_same, get_or-set_other, length-set}
use Rattle.std.specs.Prelude.{count_by, take, drop, nat_lt, option_map, slice_get}
use Rattle.std.specs.List.{flat_map}
use Rattle.std.specs.Option.{IfSome, IsSome}
use Rattle.std.proofs.lemmas.Bool.{eq-eqb, and_from, eqb-true, and_parts, false≢true}
use Rattle.std.proofs.lemmas.List.{get_or_past, length-map, take_all, set-get_or, set-set, length-take-le}
use Rattle.strm_data.specs.DataStore.{times}
use Rattle.strm_data.specs.CountedStore.{CountedStore, count_of}
use Rattle.strm_links.proofs.lists.Counting.{as_many, one_if}
use Rattle.strm_mblk.specs.Arena.{Arena, held_at, shelf_at, shelved_blocks, held_blocks, blocks_in, with_shelf, references_to, without_held, has, message_at, token_of, IsParted}
use Rattle.strm_mblk.specs.Block.{Block, Message, numbers_of, head_of}
use Rattle.strm_mblk.specs.Messages.{blocks_of, chain_divided}
use Rattle.strm_mblk.specs.declared.token.TokenValue.{TokenValue}
use Rattle.strm_mblk.specs.Freeing.{freemsg, with_token_spent, with_block_freed, with_blocks_freed}
use Rattle.strm_mblk.specs.BlockCalls.{freeb_from, head_in, rmvb, rmvb_of, unlinkb, with_rest}
use Rattle.strm_mblk.specs.Given.{Given}
use Rattle.strm_mblk.proofs.Lists.{IsAdditive, count_adds, count_by-map, flat_map-set_adds, one_most, in_range, count_one}
use Rattle.std.proofs.lemmas.Grind.{common_steps}

-- ==== counts over all blocks of an arena, and what they become when a message goes somewhere else

module _ {m : List Block → ℕ} (adds : IsAdditive m) (a : Arena) where
  pub blocks_in_adds : m (blocks_in a) ≡ m (shelved_blocks a) + m (held_blocks a)
  blocks_in_adds = adds.both (shelved_blocks a) (held_blocks a)

  -- the held message at h is replaced
  pub held_moves : (h : ℕ) (o : Option Message) → h < length a.held
      → m (blocks_in (record a { held = set a.held h o })) + m (blocks_of (held_at a h)) ≡ m (blocks_in a) + m (blocks_of o)
  held_moves h o within =
      omega (arith, adds.both (shelved_blocks a) (flat_map blocks_of (set a.held h o)), blocks_in_adds, flat_map-set_adds adds blocks_of a.held h o None within)

  -- the messages of shelf q are replaced
  pub shelf_moves : (q : ℕ) (ms : List Message) → q < length a.shelves
      → m (blocks_in (with_shelf q ms a)) + m (flat_map (λ x. x) (shelf_at a q)) ≡ m (blocks_in a) + m (flat_map (λ x. x) ms)
  shelf_moves q ms within =
      omega (arith, adds.both (flat_map (flat_map (λ x. x)) (set a.shelves q ms)) (held_blocks a), blocks_in_adds, flat_map-set_adds adds (flat_map (λ x. x)) a.shelves q ms [] within)

-- a number is in the free list, or in messages
pub times-all : (n : ℕ) (a : Arena) → times n (a.free ++ numbers_of (blocks_in a)) ≡ times n a.free + count_by (λ b. eqb b.number n) (blocks_in a)
times-all n a = (count_adds (λ x. eqb x n)).both a.free (numbers_of (blocks_in a)) ∙ ap (λ k. times n a.free + k) (count_by-map (λ x. eqb x n) (λ b. b.number) (blocks_in a))

-- ==== each block stays counted once, and each name, when a call moves a message

abbrev pub number_is : ℕ → Block → Bool
number_is n b = eqb b.number n

-- how many blocks of messages have this number
abbrev pub blocks_numbered : Arena → ℕ → ℕ
blocks_numbered a n = count_by (number_is n) (blocks_in a)

-- each number is in one place, each held message is at its head, and counts are references
pub record IsCounted (a : Arena) (s : CountedStore) : Type 0 where
  pub numbers : (n : ℕ) → times n (a.free ++ numbers_of (blocks_in a)) ≡ (if ltb n (length a.held) then 1 else 0)
  pub heads : (h : ℕ) → IfSome (held_at a h) (λ m. (0 < length m) × (head_of m ≡ h))
  pub counts : (d : ℕ) → count_of s d ≡ references_to a d

module _ {a : Arena} {s : CountedStore} (counted : IsCounted a s) where
  pub numbers_sum : (n : ℕ) → times n a.free + blocks_numbered a n ≡ (if ltb n (length a.held) then 1 else 0)
  numbers_sum n = sym (times-all n a) ∙ counted.numbers n

  pub once : (n : ℕ) → times n a.free + blocks_numbered a n ≤ 1
  once n = omega (arith, numbers_sum n, one_most (ltb n (length a.held)))

  pub within : (n : ℕ) → 0 < times n a.free + blocks_numbered a n → n < length a.held
  within n some = in_range n (length a.held) (omega (arith, numbers_sum n))

-- a message has its head
pub head_counts : (m : Message) (n : ℕ) → 0 < length m → head_of m ≡ n → 0 < count_by (number_is n) m
head_counts [] n some is = absurd (omega arith)
head_counts (b ∷ bs) n some is = grind (arith, common_steps, count_adds, one_if, eq-eqb)

-- the blocks of a held message are among those of held messages
pub held_among : (a : Arena) (p : Block → Bool) (h : ℕ) → h < length a.held → count_by p (blocks_of (held_at a h)) ≤ count_by p (held_blocks a)
held_among a p h inside = omega (arith, flat_map-set_adds (count_adds p) blocks_of a.held h None None inside, (count_adds p).none)

-- a held message lies in range
pub held_within : (a : Arena) (h : ℕ) (m : Message) → held_at a h ≡ Some m → h < length a.held
held_within a h m is = grind (arith, common_steps, get_or_past)

module _ {a : Arena} {s : CountedStore} (counted : IsCounted a s) where
  -- a held message is found where its number would be
  pub held_there : (h : ℕ) {m : Message} → held_at a h ≡ Some m → 0 < count_by (number_is h) (held_blocks a)
  held_there h {m} is =
      let facts : (0 < length m) × (head_of m ≡ h) = subst (λ o. IfSome o (λ x. (0 < length x) × (head_of x ≡ h))) is (counted.heads h) in
      omega (arith, head_counts m h facts.0 facts.1, held_among a (number_is h) h (held_within a h m is), ap (λ o. count_by (number_is h) (blocks_of o)) is)

  -- no held message begins with a number that is free or on a shelf
  pub not_held : (n : ℕ) → 0 < times n a.free + count_by (number_is n) (shelved_blocks a) → held_at a n ≡ None
  not_held n elsewhere =
      elim (held_at a n) as (λ o. held_at a n ≡ o → o ≡ None) [
        | None ↦ λ _. refl
        | Some m ↦ λ is. absurd (omega (arith, held_there n is, once counted n, blocks_in_adds (count_adds (number_is n)) a))
      ] refl

-- what leaves the held messages
pub out_of_held : (a : Arena) (h : ℕ) {m : Message} (p : Block → Bool) → held_at a h ≡ Some m → count_by p (blocks_in (without_held h a)) + count_by p m ≡ count_by p (blocks_in a)
out_of_held a h {m} p is =
    omega (arith, held_moves (count_adds p) a h None (held_within a h m is), (count_adds p).none, ap (λ o. count_by p (blocks_of o)) is)

-- free blocks, those of messages on shelves and those of held messages make the arena
pub makes_arena : {a : Arena} {s : CountedStore} → IsCounted a s → length a.free + length (shelved_blocks a) + length (held_blocks a) ≡ length a.held
makes_arena {a} counted =
    omega (arith, as_many (length a.held) (a.free ++ numbers_of (blocks_in a)) counted.numbers, length-append a.free (numbers_of (blocks_in a)), length-map (blocks_in a) (λ b. b.number), length-append (shelved_blocks a) (held_blocks a))

-- ==== tokens of held messages, and what a call leaves and answers

-- the token of a held message is had
pub token_had : (a : Arena) (h : ℕ) (m : Message) → held_at a h ≡ Some m → has a (token_of a h) ≡ true
token_had a h m is = grind (arith, common_steps, and_from, eq-eqb)

-- a message that is held is its blocks
pub held_is : {X : Type 0} (o : Option (List X)) → IsSome o → o ≡ Some (blocks_of o)
held_is None none = absurd (false≢true none)
held_is (Some m) _ = refl

-- what a token that is had says
pub record IsHad (a : Arena) (t : TokenValue) (m : Message) : Type 0 where
  pub held : held_at a t.head ≡ Some m
  pub pool : t.pool ≡ a.id
  pub blocks : length m ≡ t.blocks

pub had_message : (a : Arena) (t : TokenValue) → has a t ≡ true → (m : Message) × IsHad a t m
had_message a t is = grind (arith, common_steps, and_parts, eqb-true)

-- a token is had again once its message is one of as many blocks
pub had_again : (a b : Arena) (t : TokenValue) (m n : Message) → IsHad a t m → held_at b t.head ≡ Some n → length n ≡ length m → b.id ≡ a.id → has b t ≡ true
had_again a b t m n had held same id = grind (arith, common_steps, and_from, eq-eqb)

-- a token that is had is spent on its message
pub spent_had : (a : Arena) (t u : TokenValue) → u ≡ t → has a t ≡ true → freemsg u.head a ≡ with_token_spent a t
spent_had a t u same had = ap (λ (x : TokenValue). freemsg x.head a) same ∙ ap (λ (b : Bool). if b then freemsg t.head a else a) (sym had)

-- as many blocks as it says are all of its message
pub all_taken : (a : Arena) (t : TokenValue) {n : ℕ} → has a t ≡ true → n ≡ t.blocks → take n (message_at a t.head) ≡ message_at a t.head
all_taken a t had all = grind (arith, common_steps, had_message, take_all)

-- a token that is had is that of its message
pub had_is : (a : Arena) (t : TokenValue) → has a t ≡ true → t ≡ token_of a t.head
had_is a t had = grind (arith, common_steps, had_message)

-- ==== the first block of a held message, and those after it, on arenas as contracts see them

-- two places that are written in either order
pub set_apart : {X : Type 0} (xs : List X) (i j : ℕ) (x y : X) → i ≢ j → set (set xs i x) j y ≡ set (set xs j y) i x
set_apart [] i j x y other = refl
set_apart (z ∷ xs) zero zero x y other = absurd (other refl)
set_apart (z ∷ xs) zero (suc j) x y other = refl
set_apart (z ∷ xs) (suc i) zero x y other = refl
set_apart (z ∷ xs) (suc i) (suc j) x y other = ap (λ ys. z ∷ ys) (set_apart xs i j x y (λ same. other (ap suc same)))

module _ (a : Arena) (parted : IsParted a) (h : ℕ) where
  -- what unlinkb makes of the message at h, and gives
  abbrev apart : Message → Option ℕ × Arena
  apart m = (head_in (drop 1 m), record a { held = chain_divided (λ (b : Block). b.number) h m a.held })

  -- a held message has a first block, which has its head
  pub has_head : {m : Message} → held_at a h ≡ Some m → (0 < length m) × (head_of m ≡ h)
  has_head is = subst (λ o. IfSome o (λ x. (0 < length x) × (head_of x ≡ h))) is (parted.chains.heads h)

  -- each block of a held message counts once in all
  among : {m : Message} → held_at a h ≡ Some m → (n : ℕ) → count_by (number_is n) m ≤ blocks_numbered a n
  among {m} is n =
      omega (
        arith,
        held_among a (number_is n) h (held_within a h m is),
        blocks_in_adds (count_adds (number_is n)) a,
        ap (λ o. count_by (number_is n) (blocks_of o)) is,
      )

  module _ (b c : Block) (cs : List Block) (is : held_at a h ≡ Some (b ∷ c ∷ cs)) where
    counts_two : (n : ℕ) → count_by (number_is n) (b ∷ c ∷ cs) ≡ one_if (number_is n b) + (one_if (number_is n c) + count_by (number_is n) cs)
    counts_two n = grind (arith, common_steps, count_adds, number_is, count_one)

    -- the second block is one of those that there are
    pub second_inside : c.number < length a.held
    second_inside =
        in_range c.number (length a.held) (omega (
          arith,
          parted.chains.once c.number,
          times-all c.number a,
          among is c.number,
          counts_two c.number,
          ap one_if (eq-eqb c.number c.number refl),
        ))

    -- and not the first one
    pub second_other : h ≢ c.number
    second_other same =
        absurd (omega (
          arith,
          parted.chains.once c.number,
          one_most (nat_lt c.number (length a.held)),
          times-all c.number a,
          among is c.number,
          counts_two c.number,
          ap one_if (eq-eqb c.number c.number refl),
          ap one_if (eq-eqb b.number c.number ((has_head is).1 ∙ same)),
        ))

    -- the message at h is its first block alone
    pub first_apart : held_at (apart (b ∷ c ∷ cs)).1 h ≡ Some (b ∷ [])
    first_apart = grind (arith, common_steps, get_or-set_other, second_other, get_or-set_same, held_within)

    pub rest_apart : held_at (apart (b ∷ c ∷ cs)).1 c.number ≡ Some (c ∷ cs)
    rest_apart = grind (arith, common_steps, get_or-set_same, second_inside, length-set)

    -- without it, the others are there
    pub rest_alone : without_held h (apart (b ∷ c ∷ cs)).1 ≡ with_rest (c ∷ cs) (without_held h a)
    rest_alone = grind (arith, common_steps, set_apart, second_other, set-set)

    pub rest_there : held_at (with_rest (c ∷ cs) (without_held h a)) c.number ≡ Some (c ∷ cs)
    rest_there = get_or-set_same (set a.held h None) c.number (Some (c ∷ cs)) None (omega (arith, second_inside, length-set a.held h None))

  -- what is left once the first block, which was taken apart and has token t, is free
  pub record IsOneFreed (t : TokenValue) (m : Message) : Type 0 where
    pub after : with_token_spent (apart m).1 t ≡ (freeb_from h a m).1
    pub rest : option_map (token_of (apart m).1) (apart m).0 ≡ option_map (token_of (freeb_from h a m).1) (freeb_from h a m).0
    pub had : IfSome (option_map (token_of (freeb_from h a m).1) (freeb_from h a m).0) (λ r. has (freeb_from h a m).1 r ≡ true)

  spends : (x : Arena) (t : TokenValue) {m : Message} → t.head ≡ h → has x t ≡ true → held_at x h ≡ Some m → with_token_spent x t ≡ with_blocks_freed m (without_held h x)
  spends x t head had is = grind (arith, common_steps, spent_had)

  one_freed : (m : Message) → held_at a h ≡ Some m → (t : TokenValue) → t.head ≡ h → has (apart m).1 t ≡ true → IsOneFreed t m
  one_freed [] is t head had = absurd (omega (arith, (has_head is).0))
  one_freed (b ∷ []) is t head had = record { after = spends a t head had is; rest = refl; had = tt }
  one_freed (b ∷ c ∷ cs) is t head had = record {
    after = spends (apart (b ∷ c ∷ cs)).1 t head had (first_apart b c cs is) ∙ ap (with_block_freed b []) (rest_alone b c cs is);
    rest =
        let same : message_at (apart (b ∷ c ∷ cs)).1 c.number ≡ message_at (freeb_from h a (b ∷ c ∷ cs)).1 c.number =
        ap blocks_of (rest_apart b c cs is) ∙ sym (ap blocks_of (rest_there b c cs is)) in
        ap (λ (m : Message). let t : TokenValue = record { pool = a.id; head = c.number; blocks = length m } in Some t) same;
    had = token_had (freeb_from h a (b ∷ c ∷ cs)).1 c.number (c ∷ cs) (rest_there b c cs is);
  }

  -- the same for the message as the call finds it
  pub frees_one : {m : Message} → held_at a h ≡ Some m → (t : TokenValue) → t.head ≡ h → has (unlinkb h a).1 t ≡ true → IsOneFreed t (message_at a h)
  frees_one {m} is t head had =
      let same : m ≡ message_at a h = sym (ap blocks_of is) in
      subst (IsOneFreed t) same (one_freed m is t head (subst (λ x. has (apart x).1 t ≡ true) (sym same) had))

-- ---- the first block is taken out of its message

module _ {a : Arena} (parted : IsParted a) (h : ℕ) where
  -- what rmvb makes of block 0 of the message at h, and gives
  abbrev out_first : Message → Given Arena (ℕ × Option ℕ)
  out_first m = rmvb_of h a (take 0 m ++ drop (0 + 1) m) (slice_get m 0)

  abbrev OutIsApart : Message → Type 0
  OutIsApart m = out_first m ≡ Ok ((h, head_in (drop 1 m)), record a { held = chain_divided (λ (b : Block). b.number) h m a.held })

  out_apart : (m : Message) → held_at a h ≡ Some m → OutIsApart m
  out_apart [] is = absurd (omega (arith, (has_head a parted h is).0))
  out_apart (b ∷ []) is = grind (arith, common_steps, set-set, set-get_or)
  out_apart (b ∷ c ∷ cs) is =
      let same : b.number ≡ h = (has_head a parted h is).1 in
      let back : set (set (set a.held h None) c.number (Some (c ∷ cs))) h (Some (b ∷ [])) ≡ set (set a.held h (Some (b ∷ []))) c.number (Some (c ∷ cs)) =
      sym (set_apart (set a.held h None) h c.number (Some (b ∷ [])) (Some (c ∷ cs)) (second_other a parted h b c cs is))
      ∙ ap (λ held. set held c.number (Some (c ∷ cs))) (set-set a.held h None (Some (b ∷ []))) in
      ap (λ n. Ok ((n, Some c.number), record a { held = set (set (set a.held h None) c.number (Some (c ∷ cs))) n (Some (b ∷ [])) })) same
      ∙ ap (λ held. Ok ((h, Some c.number), record a { held = held })) back

  -- that is what unlinkb makes
  pub rmvb_first : {m : Message} → held_at a h ≡ Some m → rmvb h 0 a ≡ Ok ((h, (unlinkb h a).0), (unlinkb h a).1)
  rmvb_first {m} is = subst OutIsApart (sym (ap blocks_of is)) (out_apart m is)

-- ---- the number of blocks that a token tells

module _ {a : Arena} (parted : IsParted a) (t : TokenValue) (had : has a t ≡ true) where
  -- one at least
  pub some_blocks : 0 < t.blocks
  some_blocks = grind (arith, common_steps, had_message)

  -- so one of them, or all, are some and no more
  pub of_blocks : (count : ℕ) → (count ≡ 1) ⊎ (count ≡ t.blocks) → (0 < count) × (count ≤ t.blocks)
  of_blocks count (inl one) = (omega (arith, one), omega (arith, one, some_blocks))
  of_blocks count (inr all) = (omega (arith, all, some_blocks), omega (arith, all))

  -- the message has them, so that many are taken
  pub taken_many : (count : ℕ) → (count ≡ 1) ⊎ (count ≡ t.blocks) → length (take count (message_at a t.head)) ≡ count
  taken_many count is = grind (arith, common_steps, had_message, length-take-le, of_blocks)
