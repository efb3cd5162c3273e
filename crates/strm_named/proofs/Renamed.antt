-- Which names are valid after a call, by what is held before it and after it.
use Rattle.std.proofs.Common.{◌≡◌, ℕ, ◌<◌, Bool, true, false, ◌&&◌, ◌||◌, eqb, List, [], ◌∷◌, length, set, get_or, refl, sym, ap, ◌∙◌, subst, inl, inr, arith, get_or-set_same, get_or-set_other, length-set}
use Rattle.std.specs.Prelude.{is_some}
use Rattle.std.proofs.lemmas.Bool.{and_from, and_right, cases_eq, eq-eqb, false≢true, ne_eqb, or_parts}
use Rattle.strm_links.specs.Rows.{IsApart}
use Rattle.strm_links.specs.Rows as rows
use Rattle.strm_mblk.specs.Arena.{held_at}
use Rattle.strm_named.specs.NamedValue.{NamedValue, Renames, stamp_after, stamp_at, stamps_given}
use Rattle.strm_named.proofs.Held.{Turns, within_some}

-- ---- stamps

-- a stamp that was raised is another
raised-other : (n : ℕ) → stamp_after n ≡ n → ⊥
raised-other n same = omega arith

pub length-stamps_given : (hs stamps : List ℕ) → length (stamps_given hs stamps) ≡ length stamps
length-stamps_given [] stamps = refl
length-stamps_given (h ∷ hs) stamps = length-stamps_given hs (set stamps h (stamp_after (get_or stamps h 0))) ∙ length-set stamps h (stamp_after (get_or stamps h 0))

-- the stamps of other heads stay
pub stamps_other : (hs stamps : List ℕ) (h : ℕ) → rows.has h hs ≡ false → get_or (stamps_given hs stamps) h 0 ≡ get_or stamps h 0
stamps_other [] stamps h none = refl
stamps_other (k ∷ hs) stamps h none =
    let parts = or_parts (eqb k h) (rows.has h hs) none in
    let next = stamp_after (get_or stamps k 0) in
    stamps_other hs (set stamps k next) h parts.1 ∙ get_or-set_other stamps k h next 0 (λ same. false≢true (sym parts.0 ∙ eq-eqb k h (sym same)))

-- those of heads that are given, each once, are raised
pub stamps_raised : (hs stamps : List ℕ) (h : ℕ) → h < length stamps → IsApart hs → rows.has h hs ≡ true → get_or (stamps_given hs stamps) h 0 ≡ stamp_after (get_or stamps h 0)
stamps_raised [] stamps h within apart is = absurd (false≢true is)
stamps_raised (k ∷ hs) stamps h within apart is =
    elim (cases_eq k h) [
      | inl same ↦
          let inside : k < length stamps = omega (arith, same, within) in
          subst (λ j. get_or (stamps_given hs (set stamps k (stamp_after (get_or stamps k 0)))) j 0 ≡ stamp_after (get_or stamps j 0)) same
          (stamps_other hs (set stamps k (stamp_after (get_or stamps k 0))) k apart.0 ∙ get_or-set_same stamps k (stamp_after (get_or stamps k 0)) 0 inside)
      | inr other ↦
          let next = stamp_after (get_or stamps k 0) in
          let rest : rows.has h hs ≡ true = ap (λ b. b || rows.has h hs) (sym (ne_eqb k h other)) ∙ is in
          let inside : h < length (set stamps k next) = omega (arith, within, length-set stamps k next) in
          stamps_raised hs (set stamps k next) h inside apart.1 rest ∙ ap stamp_after (get_or-set_other stamps k h next 0 (λ e. other (sym e)))
    ]

-- ---- names

-- A call spends the names with some heads and gives messages with others, and their stamps are raised.
pub renames : (v w : NamedValue) (spent given : List ℕ) → Turns spent given v.pool.arena w.pool.arena → w.stamps ≡ stamps_given given v.stamps → length v.stamps ≡ length v.pool.arena.held → Renames spent given v w
renames v w spent given turned stamps long = record {
  others = λ n not_spent not_given.
      let stamp : stamp_at w n.head ≡ stamp_at v n.head = ap (λ ss. get_or ss n.head 0) stamps ∙ stamps_other given v.stamps n.head not_given in
      let held : is_some (held_at w.pool.arena n.head) ≡ is_some (held_at v.pool.arena n.head) = turned.still n.head not_given not_spent in
      λ i. eqb n.pool (turned.id i) && (held i && eqb n.stamp (stamp i));
  gone = λ n is not_given.
      ap (λ (b : Bool). eqb n.pool w.pool.arena.id && (b && eqb n.stamp (stamp_at w n.head))) (turned.gone n.head not_given is) ∙ and_right (eqb n.pool w.pool.arena.id) false refl;
  fresh = λ h is.
      and_from _ _ (eq-eqb w.pool.arena.id w.pool.arena.id refl) (and_from _ _ (turned.now h is) (eq-eqb (stamp_at w h) (stamp_at w h) refl));
  unheard = λ h is.
      and_right (eqb w.pool.arena.id v.pool.arena.id) _ (and_right (is_some (held_at v.pool.arena h)) _ (differs h is));
}
  where
    -- the stamp of a message that was given is another one
    differs : (h : ℕ) → rows.has h given ≡ true → eqb (stamp_at w h) (stamp_at v h) ≡ false
    differs h is =
        let within : h < length v.stamps = omega (arith, within_some w.pool.arena h (turned.now h is), turned.size, long) in
        ne_eqb (stamp_at w h) (stamp_at v h)
        (λ same. raised-other (stamp_at v h) (sym (ap (λ ss. get_or ss h 0) stamps ∙ stamps_raised given v.stamps h within turned.apart is) ∙ same))
