-- What a module needs: whether it is free, and that a message that is taken then is ready to be treated.
use Rattle.std.proofs.Common.{◌≡◌, ℕ, zero, suc, ◌+◌, ◌-◌, ◌<◌, ◌≤◌, ◌⊎◌, inl, inr, Bool, true, false, not, ◌&&◌, ◌++◌, List, [], ◌∷◌, drop, length, map, get_or, set, Option, Some, None, Ok, Err, refl, sym, ap, ◌∙◌, subst, arith, if◌then◌else◌, get_or-set_same, length-append}
use Rattle.std.specs.Prelude.{Result, is_ok, nat_eq, nat_le, nat_lt, ok_or, slice_get}
use Rattle.std.specs.List.{All, flat_map, list_any, zip}
use Rattle.std.proofs.lemmas.Bool.{and_from, and_parts, cases_lt, cond-false, cond-true, eqb-true, false≢true, le-leb, le-ltb, leb-true, lt-leb, lt-ltb, ltb-true, ne_eqb, or_left, or_right}
use Rattle.std.proofs.lemmas.List.{get_or_past, set_past}
use Rattle.std.proofs.lemmas.Option.{none-some, same_Some}
use Rattle.strm_data.specs.declared.class_info.ClassInfo.{ClassInfo}
use Rattle.strm_data.specs.declared.class_spec.ClassSpec.{ClassSpec}
use Rattle.strm_data.specs.Classes.{sizes_rise}
use Rattle.strm_data.specs.CountedStore.{CountedStore, IsKept, is_unused}
use Rattle.strm_data.specs.DataStore.{DataBlock, DataStore, class_infos, class_of, data_block_at, fitting_blocks, free_of, no_data_block, take_data, times, with_data_taken}
use Rattle.strm_data.specs.Limits.{most_classes, most_data_block_bytes}
use Rattle.strm_data.specs.declared.msg_type.MsgType.TheVariants.{MData}
use Rattle.strm_data.specs.declared.refusal.Refusal.{Refusal}
use Rattle.strm_data.specs.declared.refusal.Refusal.TheVariants.{NoData, NoSuchPlace, NoSuchQueue, TooLarge}
use Rattle.strm_mblk.specs.declared.token.TokenValue.{TokenValue}
use Rattle.strm_mblk.specs.Calls.{Gives}
use Rattle.strm_mblk.specs.Given.{Given, and_then, answer_map, answer_of}
use Rattle.strm_mblk.specs.Arena.{Arena, counted_in, has, is_of_length, message_at, token_of, with_free_left, with_held}
use Rattle.strm_mblk.specs.Block.{Message, head_of, new_block, size_of}
use Rattle.strm_mblk.specs.BlockCalls.{allocb, allocb_from, held_new, testb}
use Rattle.strm_mblk.specs.Messages.{blocks_of}
use Rattle.strm_mblk.proofs.Lists.{times_at}
use Rattle.strm_pool.specs.Lawful.{IsLawful}
use Rattle.strm_pool.specs.PoolValue.{PoolValue, arena, has_queue, on_arena, queued_blocks_of}
use Rattle.strm_queue.specs.declared.queued_info.QueuedInfo.{QueuedInfo}
use Rattle.strm_queue.specs.QueueLooks.{info_of_message, queued_at}
use Rattle.strm_scheduler.specs.Modules.{IsHeldBack, IsMet, IsReady, Needs, NeedsNothing}
use Rattle.strm_scheduler.specs.declared.need.Need.{Need}
use Rattle.strm_scheduler.specs.Needs.{AreAllocated, are_fitted, are_free, as_large, fitting, fitting_in, has_blocks}
use Rattle.strm_scheduler.specs.Serving.{IsTaken}

-- a message that is held where it was put
held_there : (held : List (Option Message)) (h n : ℕ) (m : Message) → is_of_length n (get_or (set held h (Some m)) h None) ≡ true → get_or (set held h (Some m)) h None ≡ Some m
held_there held h n m has =
    elim (cases_lt h (length held)) [
      | inl below ↦ get_or-set_same held h (Some m) None below
      | inr past ↦
          let none : get_or (set held h (Some m)) h None ≡ None = ap (λ (xs : List (Option Message)). get_or xs h None) (set_past held h (Some m) past) ∙ get_or_past held h None past in
          absurd (false≢true (sym (ap (is_of_length n) none) ∙ has))
    ]

-- each message that has blocks is like something
info_there : (s : DataStore) (m : Message) → 0 < length m → (first : QueuedInfo) × (info_of_message s m ≡ Ok first)
info_there s [] some = absurd (omega (arith, some))
info_there s (b ∷ bs) some = (_, refl)

-- the message that was taken is held
module _ (q n : ℕ) (v x : PoolValue) (t : TokenValue) (taken : IsTaken q n t v x) where
  pub message_now : message_at x.arena t.head ≡ taken.message
  message_now =
      let at_head = λ (h : ℕ). get_or (set v.arena.held h (Some taken.message)) t.head None in
      let had : is_of_length t.blocks (at_head (head_of taken.message)) ≡ true = (and_parts _ _ (subst (λ (a : Arena). has a t ≡ true) taken.arena taken.had)).1 in
      let held : at_head (head_of taken.message) ≡ Some taken.message =
      ap at_head (sym taken.head) ∙ held_there v.arena.held t.head t.blocks taken.message (subst (λ h. is_of_length t.blocks (at_head h) ≡ true) (sym taken.head) had) in
      ap (λ (a : Arena). message_at a t.head) taken.arena ∙ ap blocks_of held

module _ {M : Type 0} (needs : Needs M) (m : M) (q n : ℕ) (v x : PoolValue) (t : TokenValue) (taken : IsTaken q n t v x) (law : IsLawful v) (there : has_queue v q ≡ true) where
  some_blocks : 0 < length taken.message
  some_blocks = subst (λ ms. All (λ (k : Message). 0 < length k) ms) taken.first (law.parted.chains.shelved q) 0 taken.message (omega arith)

  queued : queued_at q 0 (queued_blocks_of v) ≡ info_of_message v.arena.store taken.message
  queued = λ i. queued_from (there i) (taken.first i)
    where
      queued_from : Bool → List Message → Result QueuedInfo Refusal
      queued_from is ms = and_then (info_of_message v.arena.store) (if is then ok_or (slice_get ms 0) NoSuchPlace else Err NoSuchQueue)

  -- what is free when the message is first on its queue is free once it is taken
  pub ready : IsMet needs m q v → IsReady needs m q n t x
  ready is_met =
      let info = info_there v.arena.store taken.message some_blocks in
      let met = is_met info.0 (queued ∙ info.1) in
      record {
        asked = v;
        taken = taken;
        first = info.0;
        like = (λ i. info_of_message (ap (λ (a : Arena). a.store) taken.arena i) (message_now q n v x t taken i)) ∙ info.1;
        need = met.0;
        needed = met.1;
        free = ap (are_free met.0) taken.arena ∙ met.2;
      }

-- nothing is free always
never_lacking : (a : Arena) → are_free (record { sizes = []; mblks = 0; later = false }) a ≡ true
never_lacking a = and_from (nat_le 0 (length a.free)) true (le-leb 0 (length a.free) (omega arith)) refl

-- so no message is held back for which the module needs nothing
pub never_held : {M : Type 0} (needs : Needs M) (m : M) (q : ℕ) (v : PoolValue) (ever : Bool) → NeedsNothing needs → IsHeldBack needs m q v ever → ⊥
never_held needs m q v ever nothing held =
    let need_is = nothing m held.asked q held.first held.need held.needed in
    false≢true (sym held.none ∙ ap (λ (n : Need). are_free n v.arena) need_is ∙ never_lacking v.arena)

-- ---- one class after another

pub infos_past : (is : List ClassInfo) (k : ℕ) → slice_get is k ≡ None → drop k is ≡ []
infos_past [] zero none = refl
infos_past [] (suc k) none = refl
infos_past (i ∷ is) zero none = absurd (none-some i (sym none))
infos_past (i ∷ is) (suc k) none = infos_past is k none

pub infos_here : (is : List ClassInfo) (k : ℕ) (i : ClassInfo) → slice_get is k ≡ Some i → drop k is ≡ i ∷ drop (k + 1) is
infos_here [] k i some = absurd (none-some i some)
infos_here (j ∷ is) zero i some = ap (λ x. x ∷ is) (same_Some j i some)
infos_here (j ∷ is) (suc k) i some = let next : suc (k + 1) ≡ suc k + 1 = omega arith in infos_here is k i some ∙ ap (λ n. i ∷ drop n (j ∷ is)) next

pub none_wanted : (count : ℕ) → nat_eq count 0 ≡ nat_le count 0
none_wanted zero = refl
none_wanted (suc count) = ne_eqb (suc count) 0 (λ same. absurd (omega (arith, same))) ∙ sym (lt-leb (suc count) 0 (omega arith))

-- what one class lacks, the others have to fit
pub fewer_wanted : (count own others : ℕ) → nat_le (count - own) others ≡ nat_le count (own + others)
fewer_wanted count own others =
    elim (cases_lt (own + others) count) [
      | inl less ↦ lt-leb (count - own) others (omega (arith, less)) ∙ sym (lt-leb count (own + others) less)
      | inr most ↦ le-leb (count - own) others (omega (arith, most)) ∙ sym (le-leb count (own + others) most)
    ]

-- ---- for authors of modules: a call that takes what is free succeeds

module _ (size : ℕ) where
  abbrev info_of : ClassSpec × List ℕ → ClassInfo
  info_of p = record { size = p.0.size; free = length p.1; total = p.0.count }

  abbrev blocks_of_class : ClassSpec × List ℕ → List ℕ
  blocks_of_class p = if nat_le size p.0.size then p.1 else []

  fitting_length : (ps : List (ClassSpec × List ℕ)) → fitting false size (map info_of ps) ≡ length (flat_map blocks_of_class ps)
  fitting_length [] = refl
  fitting_length (p ∷ ps) =
      let joined = length-append (blocks_of_class p) (flat_map blocks_of_class ps) in
      omega (arith, fitting_length ps, joined, here)
    where
      here : fitting_in false size (info_of p) ≡ length (blocks_of_class p)
      here =
          elim (cases_lt p.0.size size) [
            | inl less ↦ ap (λ b. if b then 0 else length p.1) (lt-ltb p.0.size size less) ∙ sym (ap (λ b. length (if b then p.1 else [])) (lt-leb size p.0.size less))
            | inr fits ↦ ap (λ b. if b then 0 else length p.1) (le-ltb p.0.size size fits) ∙ sym (ap (λ b. length (if b then p.1 else [])) (le-leb size p.0.size fits))
          ]

  some_fits : (cs : List ClassSpec) (fs : List (List ℕ)) → 0 < fitting false size (map info_of (zip cs fs)) → list_any (λ c. nat_le size c.size) cs ≡ true
  some_fits [] fs some = absurd (omega (arith, some))
  some_fits (c ∷ cs) [] some = absurd (omega (arith, some))
  some_fits (c ∷ cs) (f ∷ fs) some =
      elim (cases_lt c.size size) [
        | inl less ↦
            let none : fitting_in false size (info_of (c, f)) ≡ 0 = ap (λ b. if b then 0 else length f) (lt-ltb c.size size less) in
            or_right (nat_le size c.size) _ (some_fits cs fs (omega (arith, some, none)))
        | inr fits ↦ or_left (nat_le size c.size) _ (le-leb size c.size fits)
      ]

  some_first : (ns : List ℕ) → 0 < length ns → (d : ℕ) × (slice_get ns 0 ≡ Some d)
  some_first [] some = absurd (omega (arith, some))
  some_first (n ∷ ns) some = (n, refl)

  allocated : (ns : List ℕ) (a : Arena) (d : ℕ) → 0 < length ns → take_data size a.store ≡ Ok d → is_ok (allocb_from ns size a) ≡ true
  allocated [] a d some taken = absurd (omega (arith, some))
  allocated (n ∷ ns) a d some taken = ap (λ r. is_ok (held_new n ns a r)) taken

  -- `allocb` of the first size succeeds
  pub first_free : (need : Need) (rest : List ℕ) (a : Arena) → need.sizes ≡ size ∷ rest → are_free need a ≡ true → testb size a ≡ true
  first_free need rest a sizes free =
      let parts : (has_blocks need (length a.free) ≡ true) × (are_fitted false (class_infos a.store) need.sizes need.sizes ≡ true) =
      and_parts (has_blocks need (length a.free)) _ (and_parts (not need.later) _ free).1 in
      let blocks : length need.sizes + need.mblks ≤ length a.free = leb-true (length need.sizes + need.mblks) (length a.free) parts.0 in
      let fitted : are_fitted false (class_infos a.store) (size ∷ rest) (size ∷ rest) ≡ true = subst (λ ss. are_fitted false (class_infos a.store) ss ss ≡ true) sizes parts.1 in
      let enough : as_large size (size ∷ rest) ≤ fitting false size (class_infos a.store) =
      leb-true (as_large size (size ∷ rest)) (fitting false size (class_infos a.store)) (and_parts (nat_le (as_large size (size ∷ rest)) (fitting false size (class_infos a.store))) _ fitted).0 in
      let own : as_large size (size ∷ rest) ≡ 1 + as_large size rest = ap (λ (b : Bool). (if b then 1 else 0) + as_large size rest) (le-leb size size (omega arith)) in
      let some : 0 < fitting false size (class_infos a.store) = omega (arith, enough, own) in
      let fits : list_any (λ c. nat_le size c.size) a.store.classes ≡ true = some_fits a.store.classes a.store.free some in
      let length_is : fitting false size (class_infos a.store) ≡ length (fitting_blocks size a.store) = fitting_length (zip a.store.classes a.store.free) in
      let first = some_first (fitting_blocks size a.store) (omega (arith, some, length_is)) in
      let taken : take_data size a.store ≡ Ok first.0 = cond-true _ _ _ fits ∙ ap (λ o. ok_or o NoData) first.1 in
      let room : 0 < length a.free = omega (arith, blocks, ap length sizes) in
      ap is_ok (cond-true _ (allocb_from a.free size a) (Err TooLarge) fits) ∙ allocated a.free a first.0 room taken

-- ---- once the first size is allocated, the others are free still

-- the first class that fits a size, and has a free data block, has one less
abbrev with_one_taken : ℕ → List ClassInfo → List ClassInfo
with_one_taken size [] = []
with_one_taken size (i ∷ is) = if nat_le size i.size && nat_lt 0 i.free then record i { free = i.free - 1 } ∷ is else i ∷ with_one_taken size is

-- the sizes of classes rise, and are at least this one
abbrev AreRising : ℕ → List ClassInfo → Type 0
AreRising low [] = Unit {0}
AreRising low (i ∷ is) = (low ≤ i.size) × AreRising i.size is

and_none : (b : Bool) → (b && false) ≡ false
and_none true = refl
and_none false = refl

fits_free : (x : ℕ) (i : ClassInfo) → x ≤ i.size → fitting_in false x i ≡ i.free
fits_free x i fits = ap (λ b. if b then 0 else i.free) (le-ltb i.size x fits)

fits_none : (x : ℕ) (i : ClassInfo) → i.size < x → fitting_in false x i ≡ 0
fits_none x i less = ap (λ b. if b then 0 else i.free) (lt-ltb i.size x less)

-- all classes fit both sizes
both_fit : (low x y : ℕ) (is : List ClassInfo) → AreRising low is → x ≤ low → y ≤ low → fitting false x is ≡ fitting false y is
both_fit low x y [] rise small other = refl
both_fit low x y (i ∷ is) rise small other =
    omega (arith, fits_free x i (omega (arith, small, rise.0)), fits_free y i (omega (arith, other, rise.0)), both_fit i.size x y is rise.1 (omega (arith, small, rise.0)) (omega (arith, other, rise.0)))

module _ (size x : ℕ) where
  -- at most one data block less fits another size
  one_less : (is : List ClassInfo) → fitting false x is ≤ 1 + fitting false x (with_one_taken size is)
  one_less [] = omega arith
  one_less (i ∷ is) = by_class (nat_le size i.size && nat_lt 0 i.free) (one_less is)
    where
      by_class : (here : Bool) → fitting false x is ≤ 1 + fitting false x (with_one_taken size is)
          → fitting false x (i ∷ is) ≤ 1 + fitting false x (if here then record i { free = i.free - 1 } ∷ is else i ∷ with_one_taken size is)
      by_class false rest = omega (arith, rest)
      by_class true rest =
          elim (cases_lt i.size x) [
            | inl less ↦ omega (arith, fits_none x i less, fits_none x (record i { free = i.free - 1 }) less)
            | inr fits ↦ omega (arith, fits_free x i fits, fits_free x (record i { free = i.free - 1 }) fits)
          ]

-- one class, and those of larger sizes
module _ (size x low : ℕ) (i : ClassInfo) (is : List ClassInfo) (larger : size < x) (rise : AreRising low (i ∷ is)) where
  abbrev Taken : List ClassInfo → Type 0
  Taken js = (fitting false x js ≡ fitting false x (i ∷ is)) ⊎ (fitting false size (i ∷ is) ≤ 1 + fitting false x js)

  abbrev Rest : Type 0
  Rest = (fitting false x (with_one_taken size is) ≡ fitting false x is) ⊎ (fitting false size is ≤ 1 + fitting false x (with_one_taken size is))

  skipped : (nat_le size i.size && nat_lt 0 i.free) ≡ false → fitting_in false size i ≡ 0 → Rest → Taken (with_one_taken size (i ∷ is))
  skipped none nothing (inl same) = subst Taken (sym (cond-false _ _ _ none)) (inl (omega (arith, same)))
  skipped none nothing (inr most) = subst Taken (sym (cond-false _ _ _ none)) (inr (omega (arith, most, nothing)))

  here : size ≤ i.size → 0 < i.free → (i.size < x) ⊎ (x ≤ i.size) → Taken (record i { free = i.free - 1 } ∷ is)
  here fits some (inl less) = inl (omega (arith, fits_none x i less, fits_none x (record i { free = i.free - 1 }) less))
  here fits some (inr wide) =
      inr (omega (arith, some, fits_free size i fits, fits_free x (record i { free = i.free - 1 }) wide, both_fit i.size size x is rise.1 fits wide))

  none_here : (i.size < size) ⊎ (size ≤ i.size) → (0 < i.free) ⊎ (i.free ≤ 0) → Rest → Taken (with_one_taken size (i ∷ is))
  none_here (inl less) free rest = skipped (ap (λ b. b && nat_lt 0 i.free) (lt-leb size i.size less)) (fits_none size i less) rest
  none_here (inr fits) (inl some) rest =
      subst Taken (sym (cond-true (nat_le size i.size && nat_lt 0 i.free) _ _ (and_from _ _ (le-leb size i.size fits) (lt-ltb 0 i.free some)))) (here fits some (cases_lt i.size x))
  none_here (inr fits) (inr none) rest =
      skipped (ap (λ b. nat_le size i.size && b) (le-ltb 0 i.free none) ∙ and_none (nat_le size i.size)) (let free = fits_free size i fits in omega (arith, free, none)) rest

-- none less fits a larger size, or all that fit the smaller one fit the larger one too
none_less : (size x low : ℕ) (is : List ClassInfo) → size < x → AreRising low is
    → (fitting false x (with_one_taken size is) ≡ fitting false x is) ⊎ (fitting false size is ≤ 1 + fitting false x (with_one_taken size is))
none_less size x low [] larger rise = inl refl
none_less size x low (i ∷ is) larger rise = none_here size x low i is larger rise (cases_lt i.size size) (cases_lt 0 i.free) (none_less size x i.size is larger rise.1)

as_large_less : (x y : ℕ) (ss : List ℕ) → x ≤ y → as_large y ss ≤ as_large x ss
as_large_less x y [] le = omega arith
as_large_less x y (s ∷ ss) le =
    let rest = as_large_less x y ss le in
    elim (cases_lt s y) [
      | inl less ↦ let none : as_large y (s ∷ ss) ≡ 0 + as_large y ss = ap (λ (b : Bool). (if b then 1 else 0) + as_large y ss) (lt-leb y s less) in omega (arith, rest, none)
      | inr fits ↦
          let one : as_large y (s ∷ ss) ≡ 1 + as_large y ss = ap (λ (b : Bool). (if b then 1 else 0) + as_large y ss) (le-leb y s fits) in
          let other : as_large x (s ∷ ss) ≡ 1 + as_large x ss = ap (λ (b : Bool). (if b then 1 else 0) + as_large x ss) (le-leb x s (omega (arith, le, fits))) in
          omega (arith, rest, one, other)
    ]

module _ (size : ℕ) (others : List ℕ) (is : List ClassInfo) (rise : AreRising 0 is) (own : as_large size (size ∷ others) ≤ fitting false size is) where
  still_fits : (x : ℕ) → as_large x (size ∷ others) ≤ fitting false x is → as_large x others ≤ fitting false x (with_one_taken size is)
  still_fits x enough =
      elim (cases_lt size x) [
        | inl less ↦
            let same : as_large x (size ∷ others) ≡ 0 + as_large x others = ap (λ (b : Bool). (if b then 1 else 0) + as_large x others) (lt-leb x size less) in
            let first : as_large size (size ∷ others) ≡ 1 + as_large size others = ap (λ (b : Bool). (if b then 1 else 0) + as_large size others) (le-leb size size (omega arith)) in
            let fewer = as_large_less size x others (omega (arith, less)) in
            elim (none_less size x 0 is less rise) [
              | inl kept ↦ omega (arith, enough, same, kept)
              | inr most ↦ omega (arith, own, first, fewer, most)
            ]
        | inr small ↦
            let one : as_large x (size ∷ others) ≡ 1 + as_large x others = ap (λ (b : Bool). (if b then 1 else 0) + as_large x others) (le-leb x size small) in
            omega (arith, enough, one, one_less size x is)
      ]

  still_fitted : (left : List ℕ) → are_fitted false is (size ∷ others) left ≡ true → are_fitted false (with_one_taken size is) others left ≡ true
  still_fitted [] all = refl
  still_fitted (x ∷ left) all =
      let parts = and_parts (nat_le (as_large x (size ∷ others)) (fitting false x is)) _ all in
      and_from (nat_le (as_large x others) (fitting false x (with_one_taken size is))) _ (le-leb _ _ (still_fits x (leb-true _ _ parts.0))) (still_fitted left parts.1)

-- ---- the class of the data block that is taken

module _ (size : ℕ) where
  abbrev has_one : ClassSpec → List ℕ → Bool
  has_one c f = nat_le size c.size && nat_lt 0 (length f)

  -- class c is the first that fits the size and has a free data block, of which d is the first
  abbrev IsFirstFit : List ClassSpec → List (List ℕ) → ℕ → ℕ → Type 0
  IsFirstFit [] fs c d = ⊥
  IsFirstFit (k ∷ cs) [] c d = ⊥
  IsFirstFit (k ∷ cs) (f ∷ fs) zero d = (has_one k f ≡ true) × (slice_get f 0 ≡ Some d)
  IsFirstFit (k ∷ cs) (f ∷ fs) (suc c) d = (has_one k f ≡ false) × IsFirstFit cs fs c d

  first_fit : (cs : List ClassSpec) (fs : List (List ℕ)) (d : ℕ) → slice_get (flat_map (blocks_of_class size) (zip cs fs)) 0 ≡ Some d → (c : ℕ) × IsFirstFit cs fs c d
  first_fit [] fs d is = absurd (none-some d is)
  first_fit (k ∷ cs) [] d is = absurd (none-some d is)
  first_fit (k ∷ cs) (f ∷ fs) d is = by_class (nat_le size k.size) f refl is (first_fit cs fs d)
    where
      next : (f : List ℕ) → has_one k f ≡ false → (c : ℕ) × IsFirstFit cs fs c d → (c : ℕ) × IsFirstFit (k ∷ cs) (f ∷ fs) c d
      next f none found = (suc found.0, (none, found.1))

      by_class : (fits : Bool) (f : List ℕ) → nat_le size k.size ≡ fits → slice_get ((if fits then f else []) ++ flat_map (blocks_of_class size) (zip cs fs)) 0 ≡ Some d → (slice_get (flat_map (blocks_of_class size) (zip cs fs)) 0 ≡ Some d → (c : ℕ) × IsFirstFit cs fs c d)
          → (c : ℕ) × IsFirstFit (k ∷ cs) (f ∷ fs) c d
      by_class false f small is rest = next f (ap (λ b. b && nat_lt 0 (length f)) small) (rest is)
      by_class true [] fits is rest = next [] (and_none (nat_le size k.size)) (rest is)
      by_class true (n ∷ ns) fits is rest = (zero, (and_from (nat_le size k.size) (nat_lt 0 (suc (length ns))) fits (lt-ltb 0 (suc (length ns)) (omega arith)), is))

  first_of_class : (cs : List ClassSpec) (fs : List (List ℕ)) (c d : ℕ) → IsFirstFit cs fs c d → slice_get (get_or fs c []) 0 ≡ Some d
  first_of_class [] fs c d found = absurd found
  first_of_class (k ∷ cs) [] c d found = absurd found
  first_of_class (k ∷ cs) (f ∷ fs) zero d found = found.1
  first_of_class (k ∷ cs) (f ∷ fs) (suc c) d found = first_of_class cs fs c d found.1

  less_first : (f : List ℕ) → length (drop 1 f) ≡ length f - 1
  less_first [] = refl
  less_first (n ∷ ns) = omega arith

  infos_taken : (cs : List ClassSpec) (fs : List (List ℕ)) (c d : ℕ) → IsFirstFit cs fs c d
      → map (info_of size) (zip cs (set fs c (drop 1 (get_or fs c [])))) ≡ with_one_taken size (map (info_of size) (zip cs fs))
  infos_taken [] fs c d found = absurd found
  infos_taken (k ∷ cs) [] c d found = absurd found
  infos_taken (k ∷ cs) (f ∷ fs) zero d found =
      ap (λ (free : ℕ). record { size = k.size; free = free; total = k.count } ∷ map (info_of size) (zip cs fs)) (less_first f) ∙ sym (cond-true (has_one k f) _ _ found.0)
  infos_taken (k ∷ cs) (f ∷ fs) (suc c) d found =
      ap (λ (is : List ClassInfo). info_of size (k, f) ∷ is) (infos_taken cs fs c d found.1) ∙ sym (cond-false (has_one k f) _ _ found.0)

  rising_infos : (below : ℕ) (cs : List ClassSpec) (fs : List (List ℕ)) → sizes_rise below cs ≡ true → AreRising below (map (info_of size) (zip cs fs))
  rising_infos below [] fs rise = tt
  rising_infos below (c ∷ cs) [] rise = tt
  rising_infos below (c ∷ cs) (f ∷ fs) rise =
      let parts = and_parts (nat_lt below c.size) _ rise in
      let above : below < c.size = ltb-true below c.size parts.0 in
      (omega (arith, above), rising_infos c.size cs fs (and_parts (nat_le c.size most_data_block_bytes) _ parts.1).1)

-- ---- the data blocks

-- a free data block is of the class in whose list it is
class_is : (s : CountedStore) (c k d : ℕ) → IsKept s → slice_get (free_of s.store c) k ≡ Some d → class_of s.store d ≡ c
class_is s c k d kept is = by_unused (is_unused s c d) refl (kept.listed c d)
  where
    by_unused : (so : Bool) → is_unused s c d ≡ so → times d (free_of s.store c) ≡ (if so then 1 else 0) → class_of s.store d ≡ c
    by_unused true unused listed = eqb-true (class_of s.store d) c (and_parts _ _ (and_parts (nat_lt d (length s.store.blocks)) _ unused).1).0
    by_unused false unused listed = let some = times_at d (free_of s.store c) k is in absurd (omega (arith, some, listed))

-- the sizes of classes rise, and each free data block is of its class
record IsSorted (s : DataStore) : Type 0 where
  pub rise : sizes_rise 0 s.classes ≡ true
  pub classed : (c k d : ℕ) → slice_get (free_of s c) k ≡ Some d → class_of s d ≡ c

sorted_now : (v : PoolValue) → IsLawful v → IsSorted v.arena.store
sorted_now v law = record {
  rise = (and_parts (sizes_rise 0 v.arena.store.classes) _ (and_parts (nat_le (length v.arena.store.classes) most_classes) _ (and_parts (nat_le 1 (length v.arena.store.classes)) _ law.kept.lawful).1).1).0;
  classed = λ c k d is. class_is (counted_in v.arena) c k d law.kept is;
}

class_same : (ds : List DataBlock) (k : ℕ) (x : DataBlock) → x.class ≡ (get_or ds k no_data_block).class → (d : ℕ) → (get_or (set ds k x) d no_data_block).class ≡ (get_or ds d no_data_block).class
class_same [] k x is d = refl
class_same (y ∷ ds) zero x is zero = is
class_same (y ∷ ds) zero x is (suc d) = refl
class_same (y ∷ ds) (suc k) x is zero = refl
class_same (y ∷ ds) (suc k) x is (suc d) = class_same ds k x is d

listed_still : (fs : List (List ℕ)) (k c j d : ℕ) → slice_get (get_or (set fs k (drop 1 (get_or fs k []))) c []) j ≡ Some d → (i : ℕ) × (slice_get (get_or fs c []) i ≡ Some d)
listed_still [] k c j d is = (j, is)
listed_still (f ∷ fs) zero zero j d is = one_later f is
  where
    one_later : (f : List ℕ) → slice_get (drop 1 f) j ≡ Some d → (i : ℕ) × (slice_get f i ≡ Some d)
    one_later [] is = absurd (none-some d is)
    one_later (n ∷ ns) is = (suc j, is)
listed_still (f ∷ fs) zero (suc c) j d is = (j, is)
listed_still (f ∷ fs) (suc k) zero j d is = (j, is)
listed_still (f ∷ fs) (suc k) (suc c) j d is = listed_still fs k c j d is

sorted_taken : (d : ℕ) (s : DataStore) → IsSorted s → IsSorted (with_data_taken d s)
sorted_taken d s sorted = record {
  rise = sorted.rise;
  classed = λ c k e is.
      let before = listed_still s.free (class_of s d) c k e is in
      class_same s.blocks d (record (data_block_at s d) { kind = MData }) refl e ∙ sorted.classed c before.0 e before.1;
}

-- ---- `allocb` of the first size succeeds, and leaves free what is needed beside it

module _ (need : Need) (size : ℕ) (others : List ℕ) (a : Arena) (sorted : IsSorted a.store) (sizes : need.sizes ≡ size ∷ others) (free : are_free need a ≡ true) where
  abbrev store : DataStore
  store = a.store

  abbrev infos : List ClassInfo
  infos = class_infos a.store

  wanted : not need.later ≡ true
  wanted = (and_parts (not need.later) _ free).0

  enough : (has_blocks need (length a.free) ≡ true) × (are_fitted false infos need.sizes need.sizes ≡ true)
  enough = and_parts (has_blocks need (length a.free)) _ (and_parts (not need.later) _ free).1

  blocks : length need.sizes + need.mblks ≤ length a.free
  blocks = leb-true (length need.sizes + need.mblks) (length a.free) enough.0

  fitted : are_fitted false infos (size ∷ others) (size ∷ others) ≡ true
  fitted = subst (λ ss. are_fitted false infos ss ss ≡ true) sizes enough.1

  own : as_large size (size ∷ others) ≤ fitting false size infos
  own = leb-true _ _ (and_parts (nat_le (as_large size (size ∷ others)) (fitting false size infos)) _ fitted).0

  some : 0 < fitting false size infos
  some = omega (arith, own, ap (λ (b : Bool). (if b then 1 else 0) + as_large size others) (le-leb size size (omega arith)))

  fits : list_any (λ c. nat_le size c.size) store.classes ≡ true
  fits = some_fits size store.classes store.free some

  first : (d : ℕ) × (slice_get (fitting_blocks size store) 0 ≡ Some d)
  first = some_first size (fitting_blocks size store) (omega (arith, some, fitting_length size (zip store.classes store.free)))

  taken : take_data size store ≡ Ok first.0
  taken = cond-true _ _ _ fits ∙ ap (λ o. ok_or o NoData) first.1

  found : (c : ℕ) × IsFirstFit size store.classes store.free c first.0
  found = first_fit size store.classes store.free first.0 first.1

  infos_then : class_infos (with_data_taken first.0 store) ≡ with_one_taken size infos
  infos_then =
      ap (λ k. map (info_of size) (zip store.classes (set store.free k (drop 1 (get_or store.free k [])))))
      (sorted.classed found.0 0 first.0 (first_of_class size store.classes store.free found.0 first.0 found.1))
      ∙ infos_taken size store.classes store.free found.0 first.0 found.1

  made_of : (ns : List ℕ) → 0 < length ns → (g : ℕ × Arena) × (allocb_from ns size a ≡ Ok g) × (suc (length g.1.free) ≡ length ns) × (g.1.store ≡ with_data_taken first.0 store)
  made_of [] some = absurd (omega (arith, some))
  made_of (n ∷ ns) some = ((n, with_held (new_block n first.0 ∷ []) (record (with_free_left ns a) { store = with_data_taken first.0 a.store })), ap (held_new n ns a) taken, refl, refl)

  made : (g : ℕ × Arena) × (allocb size a ≡ Ok g) × (suc (length g.1.free) ≡ length a.free) × (g.1.store ≡ with_data_taken first.0 store)
  made =
      let by_first = made_of a.free (omega (arith, blocks, ap length sizes)) in
      (by_first.0, cond-true _ (allocb_from a.free size a) (Err TooLarge) fits ∙ by_first.1, by_first.2, by_first.3)

  next_sorted : IsSorted made.0.1.store
  next_sorted = subst IsSorted (sym made.3) (sorted_taken first.0 store sorted)

  next_free : are_free (record need { sizes = others }) made.0.1 ≡ true
  next_free =
      and_from (not need.later) _ wanted
      (and_from (has_blocks (record need { sizes = others }) (length made.0.1.free)) _ (le-leb _ _ (omega (arith, blocks, made.2, ap length sizes)))
      (ap (λ is. are_fitted false is others others) (ap class_infos made.3 ∙ infos_then)
      ∙ still_fitted size others infos (rising_infos size 0 store.classes store.free sorted.rise) own others
      (and_parts (nat_le (as_large size (size ∷ others)) (fitting false size infos)) _ fitted).1))

-- so does each
all_allocated : (need : Need) (sizes : List ℕ) → need.sizes ≡ sizes → (a : Arena) → IsSorted a.store → are_free need a ≡ true → AreAllocated sizes need.mblks a
all_allocated need [] is a sorted free =
    let parts = and_parts (has_blocks need (length a.free)) _ (and_parts (not need.later) _ free).1 in
    omega (arith, leb-true (length need.sizes + need.mblks) (length a.free) parts.0)
all_allocated need (size ∷ others) is a sorted free =
    let g = made need size others a sorted is free in
    (g.0.0, g.0.1, g.1, all_allocated (record need { sizes = others }) others refl g.0.1 (next_sorted need size others a sorted is free) (next_free need size others a sorted is free))

pub granted_now : (need : Need) (v : PoolValue) → IsLawful v → are_free need v.arena ≡ true → AreAllocated need.sizes need.mblks v.arena
granted_now need v law free = all_allocated need need.sizes refl v.arena (sorted_now v law) free

-- ---- for authors of modules: what else is known

-- `allocb` is not refused
pub not_refused : (size : ℕ) (v w : PoolValue) (result : Result TokenValue Refusal) → testb size v.arena ≡ true → Gives arena None (on_arena v (allocb size v.arena)) v w result
    → (why : Refusal) → result ≡ Err why → ⊥
not_refused size v w result free given why is = by_call (allocb size v.arena) free (sym is ∙ given.token)
  where
    by_call : (call : Given Arena ℕ) → is_ok call ≡ true → Err why ≡ answer_map (token_of w.arena) (answer_of (on_arena v call)) → ⊥
    by_call (Ok given) free is = absurd (cc)
    by_call (Err other) free is = false≢true free

-- a message is as large as the module was told
pub like_size : (s : DataStore) (m : Message) (first : QueuedInfo) → info_of_message s m ≡ Ok first → first.size ≡ size_of m
like_size s [] first is = absurd (cc)
like_size s (b ∷ bs) first is = cc
