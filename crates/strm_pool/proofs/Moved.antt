-- What a call does to held messages and to the registers that it names, token by token.
use Rattle.std.proofs.Common.{◌≡◌, ◌≢◌, ℕ, ◌+◌, ◌<◌, true, false, eqb, ◌&&◌, ◌||◌, List, [], ◌∷◌, ◌++◌, map, length, set, get_or, Option, Some, None, refl, sym, ap, ◌∙◌, subst, inl, inr, arith, get_or-set_same, get_or-set_other, length-set}
use Rattle.std.specs.Prelude.{count_by, option_map}
use Rattle.std.proofs.Math.ListN.{get_or-map}
use Rattle.std.proofs.lemmas.Bool.{and_parts, cases_Bool, cases_eq, eq-eqb, eqb-true, false≢true, ne_eqb, or_parts}
use Rattle.std.proofs.lemmas.List.{map-set}
use Rattle.std.proofs.lemmas.List.Sums.{sum_by-set}
use Rattle.strm_links.proofs.lists.Counting.{one_if}
use Rattle.strm_links.specs.Rows.{IsApart}
use Rattle.strm_links.specs.Rows as rows
use Rattle.strm_mblk.specs.declared.token.TokenValue.{TokenValue}
use Rattle.strm_mblk.specs.Arena.{Arena, has, held_at, is_of_length}
use Rattle.strm_mblk.specs.Block.{Message}
use Rattle.strm_mblk.proofs.arena.Counts.{had_again, had_message}
use Rattle.strm_pool.specs.PoolValue.{PoolValue}
use Rattle.strm_pool.specs.Registers.{AreDistinct, entries_of, entry_of, register, table_of, is_entry_of}
use Rattle.strm_pool.proofs.Accounts.{Balanced, stands, table-at}
use Rattle.strm_pool.proofs.Tokens.{Each, Moves, heads_of, held_has, tokens_in}

-- ---- tokens

-- how many of these tokens are of a message of n blocks with head h
abbrev weigh : ℕ → ℕ → List TokenValue → ℕ
weigh h n [] = 0
weigh h n (t ∷ ts) = one_if (is_entry_of h n (Some (entry_of t))) + weigh h n ts

weigh-append : (h n : ℕ) (ts us : List TokenValue) → weigh h n (ts ++ us) ≡ weigh h n ts + weigh h n us
weigh-append h n [] us = omega arith
weigh-append h n (t ∷ ts) us = omega (arith, weigh-append h n ts us)

-- none with another head
tells_other : (h n : ℕ) (t : TokenValue) → eqb t.head h ≡ false → one_if (is_entry_of h n (Some (entry_of t))) ≡ 0
tells_other h n t other = ap (λ b. one_if (b && eqb t.blocks n)) other

weigh_other : (h n : ℕ) (ts : List TokenValue) → rows.has h (heads_of ts) ≡ false → weigh h n ts ≡ 0
weigh_other h n [] none = refl
weigh_other h n (t ∷ ts) none =
    let parts = or_parts (eqb t.head h) (rows.has h (heads_of ts)) none in
    omega (arith, tells_other h n t parts.0, weigh_other h n ts parts.1)

-- a token that the pool has tells what is held there
stands_had : (a : Arena) (t : TokenValue) (n : ℕ) → has a t ≡ true → stands a t.head n ≡ one_if (is_entry_of t.head n (Some (entry_of t)))
stands_had a t n had =
    held (held_at a t.head) (and_parts (eqb t.pool a.id) (is_of_length t.blocks (held_at a t.head)) had).1
    ∙ ap (λ b. one_if (b && eqb t.blocks n)) (sym (eq-eqb t.head t.head refl))
  where
    held : (o : Option Message) → is_of_length t.blocks o ≡ true → one_if (is_of_length n o) ≡ one_if (eqb t.blocks n)
    held None is = absurd (false≢true is)
    held (Some m) is = ap (λ k. one_if (eqb k n)) (eqb-true (length m) t.blocks is)

stands_none : (a : Arena) (h n : ℕ) → held_at a h ≡ None → stands a h n ≡ 0
stands_none a h n none = ap (λ (o : Option Message). one_if (is_of_length n o)) none

-- tokens of different messages tell what is held at each of their heads
weigh_stands : (a : Arena) (ts : List TokenValue) → Each (λ t. has a t ≡ true) ts → IsApart (heads_of ts) → (h n : ℕ) → rows.has h (heads_of ts) ≡ true → weigh h n ts ≡ stands a h n
weigh_stands a [] had apart h n is = absurd (false≢true is)
weigh_stands a (t ∷ ts) had apart h n is =
    elim (cases_eq t.head h) [
      | inl same ↦
          subst (λ k. one_if (is_entry_of k n (Some (entry_of t))) + weigh k n ts ≡ stands a k n) same
          (omega (arith, stands_had a t n had.0, weigh_other t.head n ts apart.0))
      | inr other ↦
          let rest : rows.has h (heads_of ts) ≡ true = ap (λ b. b || rows.has h (heads_of ts)) (sym (ne_eqb t.head h other)) ∙ is in
          omega (arith, tells_other h n t (ne_eqb t.head h other), weigh_stands a ts had.1 apart.1 h n rest)
    ]

-- ---- from one arena to another

moves_weigh : (a b : Arena) (before after : List TokenValue) → Moves a b before after → IsApart (heads_of before) → (h n : ℕ) → stands b h n + weigh h n before ≡ stands a h n + weigh h n after
moves_weigh a b before after moves apart h n =
    elim (cases_Bool (rows.has h (heads_of before))) [
      | inl was ↦ elim (cases_Bool (rows.has h (heads_of after))) [
        | inl is ↦ omega (arith, weigh_stands a before moves.had apart h n was, weigh_stands b after moves.has_now moves.apart h n is)
        | inr not ↦ omega (arith, weigh_stands a before moves.had apart h n was, weigh_other h n after not, stands_none b h n (moves.gone h was not))
      ]
      | inr was_not ↦ elim (cases_Bool (rows.has h (heads_of after))) [
        | inl is ↦ omega (arith, weigh_other h n before was_not, weigh_stands b after moves.has_now moves.apart h n is, stands_none a h n (moves.new h was_not is))
        | inr not ↦ omega (arith, weigh_other h n before was_not, weigh_other h n after not, ap (λ (o : Option Message). one_if (is_of_length n o)) (moves.others h was_not not))
      ]
    ]

-- ---- registers

-- registers, each with what it holds afterwards
abbrev pub Changes : Type 0
Changes = List (ℕ × Option TokenValue)

abbrev pub registers_of : Changes → List ℕ
registers_of us = map (λ u. u.0) us

abbrev pub with_tokens : Changes → List (Option TokenValue) → List (Option TokenValue)
with_tokens [] rs = rs
with_tokens (u ∷ us) rs = with_tokens us (set rs u.0 u.1)

-- the tokens that these registers held, and those that they hold afterwards
abbrev pub olds : Changes → List (Option TokenValue) → List TokenValue
olds [] rs = []
olds (u ∷ us) rs = tokens_in (register rs u.0) ++ olds us rs

abbrev pub news : Changes → List TokenValue
news [] = []
news (u ∷ us) = tokens_in u.1 ++ news us

pub table-set : (rs : List (Option TokenValue)) (x : ℕ) (o : Option TokenValue) → table_of (set rs x o) ≡ set (table_of rs) x (option_map (λ t. t.head) o)
table-set rs x o = map-set (option_map (λ (t : TokenValue). t.head)) rs x o

-- a register that does not change
pub with_other : (us : Changes) (rs : List (Option TokenValue)) (x : ℕ) → rows.has x (registers_of us) ≡ false → register (with_tokens us rs) x ≡ register rs x
with_other [] rs x other = refl
with_other (u ∷ us) rs x other =
    let parts = or_parts (eqb u.0 x) (rows.has x (registers_of us)) other in
    with_other us (set rs u.0 u.1) x parts.1 ∙ get_or-set_other rs u.0 x u.1 None (λ same. false≢true (sym parts.0 ∙ eq-eqb u.0 x (sym same)))

-- one that does holds one of the new tokens, or nothing
pub with_new : (P : TokenValue → Type 0) (us : Changes) (rs : List (Option TokenValue)) (x : ℕ) (t : TokenValue) → IsApart (registers_of us) → Each (λ y. y < length rs) (registers_of us)
    → Each P (news us) → rows.has x (registers_of us) ≡ true → register (with_tokens us rs) x ≡ Some t → P t
with_new P [] rs x t apart within all named is = absurd (false≢true named)
with_new P (u ∷ us) rs x t apart within all named is =
    elim (cases_eq u.0 x) [
      | inl same ↦
          let at : register (with_tokens us (set rs u.0 u.1)) u.0 ≡ u.1 = with_other us (set rs u.0 u.1) u.0 apart.0 ∙ get_or-set_same rs u.0 u.1 None within.0 in
          first u.1 all (sym at ∙ ap (register (with_tokens us (set rs u.0 u.1))) same ∙ is)
      | inr other ↦
          let rest : rows.has x (registers_of us) ≡ true = ap (λ b. b || rows.has x (registers_of us)) (sym (ne_eqb u.0 x other)) ∙ named in
          with_new P us (set rs u.0 u.1) x t apart.1 (subst (λ n. Each (λ y. y < n) (registers_of us)) (sym (length-set rs u.0 u.1)) within.1) (second u.1 all) rest is
    ]
  where
    first : (o : Option TokenValue) → Each P (tokens_in o ++ news us) → o ≡ Some t → P t
    first None all is = cc
    first (Some y) all is = subst P (ap (λ (p : Option TokenValue). get_or (tokens_in p) 0 y) is) all.0

    second : (o : Option TokenValue) → Each P (tokens_in o ++ news us) → Each P (news us)
    second None all = all
    second (Some y) all = all.1

-- what registers told, that do not change
olds-set : (us : Changes) (rs : List (Option TokenValue)) (x : ℕ) (o : Option TokenValue) → rows.has x (registers_of us) ≡ false → olds us (set rs x o) ≡ olds us rs
olds-set [] rs x o other = refl
olds-set (u ∷ us) rs x o other =
    let parts = or_parts (eqb u.0 x) (rows.has x (registers_of us)) other in
    ap (λ p. tokens_in p ++ olds us (set rs x o)) (get_or-set_other rs x u.0 o None (λ same. false≢true (sym parts.0 ∙ eq-eqb u.0 x same)))
    ∙ ap (λ ts. tokens_in (register rs u.0) ++ ts) (olds-set us rs x o parts.1)

-- where heads are distinct, no other register has the head of this one
olds_lack : (us : Changes) (rs : List (Option TokenValue)) (x h : ℕ) → AreDistinct (table_of rs) → register (table_of rs) x ≡ Some h → rows.has x (registers_of us) ≡ false
    → rows.has h (heads_of (olds us rs)) ≡ false
olds_lack [] rs x h distinct is other = refl
olds_lack (u ∷ us) rs x h distinct is other =
    let parts = or_parts (eqb u.0 x) (rows.has x (registers_of us)) other in
    at (register rs u.0) refl (λ same. false≢true (sym parts.0 ∙ eq-eqb u.0 x same)) (olds_lack us rs x h distinct is parts.1)
  where
    at : (o : Option TokenValue) → register rs u.0 ≡ o → u.0 ≢ x → rows.has h (heads_of (olds us rs)) ≡ false → rows.has h (heads_of (tokens_in o ++ olds us rs)) ≡ false
    at None was apart rest = rest
    at (Some t) was apart rest =
        ap (λ b. b || rows.has h (heads_of (olds us rs)))
        (ne_eqb t.head h (λ same. apart (distinct u.0 x h (table-at rs u.0 ∙ ap (option_map (λ (y : TokenValue). y.head)) was ∙ ap (λ k. Some k) same) is)))
        ∙ rest

olds_apart : (us : Changes) (rs : List (Option TokenValue)) → AreDistinct (table_of rs) → IsApart (registers_of us) → IsApart (heads_of (olds us rs))
olds_apart [] rs distinct apart = tt
olds_apart (u ∷ us) rs distinct apart = at (register rs u.0) refl (olds_apart us rs distinct apart.1)
  where
    at : (o : Option TokenValue) → register rs u.0 ≡ o → IsApart (heads_of (olds us rs)) → IsApart (heads_of (tokens_in o ++ olds us rs))
    at None was rest = rest
    at (Some t) was rest = (olds_lack us rs u.0 t.head distinct (table-at rs u.0 ∙ ap (option_map (λ (y : TokenValue). y.head)) was) apart.0, rest)

-- ---- what registers tell

told_one : (h n : ℕ) (o : Option TokenValue) → one_if (is_entry_of h n (option_map entry_of o)) ≡ weigh h n (tokens_in o)
told_one h n None = refl
told_one h n (Some t) = omega arith

count_one : (rs : List (Option TokenValue)) (x : ℕ) (o : Option TokenValue) (h n : ℕ) → x < length rs
    → count_by (is_entry_of h n) (entries_of (set rs x o)) + weigh h n (tokens_in (register rs x)) ≡ count_by (is_entry_of h n) (entries_of rs) + weigh h n (tokens_in o)
count_one rs x o h n within =
    let made = option_map entry_of in
    omega (
      arith,
      ap (count_by (is_entry_of h n)) (map-set made rs x o),
      sum_by-set (λ e. one_if (is_entry_of h n e)) (entries_of rs) x (made o) None (omega (arith, within, length-entries rs)),
      ap (λ e. one_if (is_entry_of h n e)) (get_or-map made rs x None),
      told_one h n (register rs x),
      told_one h n o,
    )
  where
    length-entries : (qs : List (Option TokenValue)) → length (entries_of qs) ≡ length qs
    length-entries [] = refl
    length-entries (q ∷ qs) = omega (arith, length-entries qs)

count_with : (us : Changes) (rs : List (Option TokenValue)) (h n : ℕ) → IsApart (registers_of us) → Each (λ y. y < length rs) (registers_of us)
    → count_by (is_entry_of h n) (entries_of (with_tokens us rs)) + weigh h n (olds us rs) ≡ count_by (is_entry_of h n) (entries_of rs) + weigh h n (news us)
count_with [] rs h n apart within = refl
count_with (u ∷ us) rs h n apart within =
    omega (
      arith,
      count_one rs u.0 u.1 h n within.0,
      count_with us (set rs u.0 u.1) h n apart.1 (subst (λ k. Each (λ y. y < k) (registers_of us)) (sym (length-set rs u.0 u.1)) within.1),
      ap (weigh h n) (olds-set us rs u.0 u.1 apart.0),
      weigh-append h n (tokens_in (register rs u.0)) (olds us rs),
      weigh-append h n (tokens_in u.1) (news us),
    )

-- what is held and what registers tell change alike
pub moves_balanced : (a b : Arena) (us : Changes) (rs : List (Option TokenValue)) → IsApart (registers_of us) → Each (λ y. y < length rs) (registers_of us) → AreDistinct (table_of rs)
    → Moves a b (olds us rs) (news us) → Balanced a b (entries_of rs) (entries_of (with_tokens us rs))
moves_balanced a b us rs apart within distinct moves h n =
    omega (arith, moves_weigh a b (olds us rs) (news us) moves (olds_apart us rs distinct apart) h n, count_with us rs h n apart within)

-- each register has a token that the pool has
module _ (v : PoolValue) (rs : List (Option TokenValue)) (us : Changes) (b : Arena)
    (owned : (x : ℕ) (t : TokenValue) → register rs x ≡ Some t → has v.arena t ≡ true)
    (apart : IsApart (registers_of us)) (within : Each (λ y. y < length rs) (registers_of us))
    (distinct : AreDistinct (table_of rs)) (moves : Moves v.arena b (olds us rs) (news us)) where
  pub moves_had : (x : ℕ) (t : TokenValue) → register (with_tokens us rs) x ≡ Some t → has b t ≡ true
  moves_had x t is =
      elim (cases_Bool (rows.has x (registers_of us))) [
        | inl named ↦ with_new (λ y. has b y ≡ true) us rs x t apart within moves.has_now named is
        | inr other ↦
            let was : register rs x ≡ Some t = sym (with_other us rs x other) ∙ is in
            let before = owned x t was in
            let lack = olds_lack us rs x t.head distinct (table-at rs x ∙ ap (option_map (λ (y : TokenValue). y.head)) was) other in
            elim (cases_Bool (rows.has t.head (heads_of (news us)))) [
              | inl new ↦ absurd (held_has v.arena t before (moves.new t.head lack new))
              | inr old ↦
                  let message = had_message v.arena t before in
                  had_again v.arena b t message.0 message.0 message.1 (moves.others t.head lack old ∙ message.1.held) refl moves.id
            ]
      ]
