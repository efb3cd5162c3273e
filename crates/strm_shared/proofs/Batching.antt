-- Batches: one line more, one batch more, and what a write to the replies of a batch leaves.
use Rattle.std.proofs.Common.{◌≡◌, ℕ, zero, suc, ◌+◌, ◌-◌, ◌*◌, ◌/◌, ◌%◌, ◌<◌, ◌≤◌, min, List, [], ◌∷◌, ◌++◌, length, get_or, take, drop, Result, Ok, Err, refl, sym, ap, ◌∙◌, subst, inl, inr, arith, length-drop, length-take, length-take-le, take_all, take-append-drop, take-take, drop_at, drop-drop}
use Rattle.std.specs.Prelude.{IfErr}
use Rattle.std.specs.Int.{div_ceil}
use Rattle.std.proofs.lemmas.Bool.{cases_lt}
use Rattle.std.proofs.lemmas.Grind.{div_ceil_times}
use Rattle.std.proofs.lemmas.List.{drop-take, drop-append-le, take_rest}
use Rattle.std.proofs.lemmas.Nat.{div-add-mod', div-mul-add, mod_below, mod-mul-add}
use Rattle.std.proofs.lemmas.Slice.{between-put_mid, drop-put_mid, take-put_mid_below}
use borrow.Rule.Slice.PartMut.{post_of, put_mid, same_len_mid}
use Rattle.strm_data.specs.declared.refusal.Refusal.{Refusal}
use Rattle.strm_pool.specs.declared.call.Call.TheVariants.{Census}
use Rattle.strm_pool.specs.declared.reply.Reply.{Reply}
use Rattle.strm_pool.specs.declared.line.Line.{Line}
use Rattle.strm_shared.specs.declared.name.Name.{Ghosts}
use Rattle.strm_shared.specs.Batches.{AreAfter, AreBatches, AreTurned, IsAfterBatch, IsAsAlone, batch_at}
use Rattle.strm_shared.specs.Books.{BookValue, IsBookUnder, IsEnd, IsServed}
use Rattle.strm_shared.specs.Desks.{DeskValue, stamp_seen}
use Rattle.strm_shared.specs.Limits.{most_batch}
use Rattle.strm_shared.specs.Runs.{AreServed}
use Rattle.strm_shared.proofs.Refusing.{end_shown}

-- ---- one line more

pub turned_more : {N : Type 0} (n : Ghosts N) (b : BookValue) (d : DeskValue) (lines : List Line) (replies : List Reply) (c : BookValue) (e : DeskValue) (line : Line) (reply : Reply) (m : BookValue) (x : DeskValue)
    → AreTurned n b d lines replies c e → length replies < length lines → IsServed c e (get_or lines (length replies) line).number (get_or lines (length replies) line).call m x reply → IsBookUnder n m
    → AreTurned n b d lines (replies ++ reply ∷ []) m x
turned_more n b d [] replies c e line reply m x turned below served under = absurd (omega (arith, below))
turned_more n b d (l ∷ ls) [] c e line reply m x turned below served under = (
  m,
  x,
  subst (λ (y : BookValue). IsServed y d l.number l.call m x reply) turned.0 (subst (λ (y : DeskValue). IsServed c y l.number l.call m x reply) turned.1 served),
  under,
  (refl, refl),
)
turned_more n b d (l ∷ ls) (r ∷ rs) c e line reply m x turned below served under =
    (turned.0, turned.1, turned.2, turned.3, turned_more n turned.0 turned.1 ls rs c e line reply m x turned.4 (omega (arith, below)) served under)

-- ---- why a batch ended

-- the desk has seen the stamp that shows it
pub batch_refused : {N : Type 0} (n : Ghosts N) (d : DeskValue) (lines : List Line) (replies : List Reply) (e : DeskValue) (r : Result (Unit {0}) (Refusal × ℕ)) → IsAfterBatch n d lines replies e r
    → IfErr r (λ x. IsEnd n x.0 (stamp_seen e))
batch_refused n d lines replies e (Ok done) after = tt
batch_refused n d lines replies e (Err (why, k)) after =
    let lawful = subst (λ (y : BookValue). IsBookUnder n y) after.4.5 after.3 in
    end_shown n after.4.1 after.4.2 e why lawful.lawful after.4.4 after.4.6

-- the refused line is one of the batch
pub refused_within : {N : Type 0} (n : Ghosts N) (d : DeskValue) (lines : List Line) (replies : List Reply) (e : DeskValue) (why : Refusal) (k : ℕ) → IsAfterBatch n d lines replies e (Err (why, k)) → k < length lines
refused_within n d lines replies e why k after = after.4.0

-- ---- the part of a list that is a batch

module _ {X : Type 0} (j until : ℕ) where
  pub batch_is : (xs : List X) → until ≡ min (length xs) (j * most_batch + most_batch) → take (until - j * most_batch) (drop (j * most_batch) xs) ≡ batch_at j xs
  batch_is xs is =
      elim (cases_lt (length xs) (j * most_batch + most_batch)) [
        | inl short ↦
            let here : until - j * most_batch ≡ length xs - j * most_batch = omega (arith, is, short) in
            ap (λ n. take n (drop (j * most_batch) xs)) here ∙ take_rest xs (j * most_batch) ∙ sym (take_all most_batch (drop (j * most_batch) xs) (omega (arith, short, length-drop (j * most_batch) xs)))
        | inr long ↦
            let here : until - j * most_batch ≡ most_batch = omega (arith, is, long) in
            ap (λ n. take n (drop (j * most_batch) xs)) here
      ]

  -- ys was written there
  module _ (xs ys : List X) (is : until ≡ min (length xs) (j * most_batch + most_batch)) (within : j * most_batch ≤ length xs) (long : length ys ≡ until - j * most_batch) where
    abbrev now : List X
    now = put_mid (j * most_batch) (until - j * most_batch) xs ys

    as_long : length now ≡ length xs
    as_long =
        same_len_mid (j * most_batch) (until - j * most_batch) xs ys
        (long ∙ sym (length-take-le (until - j * most_batch) (drop (j * most_batch) xs) (omega (arith, is, within, length-drop (j * most_batch) xs))))

    pub batch_written : batch_at j now ≡ ys
    batch_written =
        sym (batch_is now (is ∙ ap (λ n. min n (j * most_batch + most_batch)) (sym as_long))) ∙ between-put_mid (j * most_batch) (until - j * most_batch) xs ys until within long

    -- an earlier batch is as it was
    pub batch_before : (i : ℕ) → i < j → batch_at i now ≡ batch_at i xs
    batch_before i below =
        let low : i * most_batch + most_batch ≤ j * most_batch = omega (arith, below) in
        sym (drop-take (i * most_batch) most_batch now)
        ∙ ap (drop (i * most_batch)) (take-put_mid_below (j * most_batch) (until - j * most_batch) xs ys (i * most_batch + most_batch) low within)
        ∙ drop-take (i * most_batch) most_batch xs

    -- and so is what lies behind it
    pub rest_after : drop (j * most_batch + most_batch) now ≡ drop (j * most_batch + most_batch) xs
    rest_after = drop-put_mid (j * most_batch) (until - j * most_batch) xs ys (j * most_batch + most_batch) (omega (arith, is, within)) within long

    -- where only the first s items of it are new
    pub rest_within : (s : ℕ) → s ≤ length ys → drop s ys ≡ drop s (take (until - j * most_batch) (drop (j * most_batch) xs)) → drop (j * most_batch + s) now ≡ drop (j * most_batch + s) xs
    rest_within s few same =
        let front : length (take (j * most_batch) xs) ≡ j * most_batch = length-take-le (j * most_batch) xs within in
        let old : length (take (until - j * most_batch) (drop (j * most_batch) xs)) ≡ until - j * most_batch = length-take-le (until - j * most_batch) (drop (j * most_batch) xs) (omega (arith, is, within, length-drop (j * most_batch) xs)) in
        sym (drop-drop s (j * most_batch) now) ∙ ap (drop s) (drop_at (take (j * most_batch) xs) (ys ++ post_of (j * most_batch) (until - j * most_batch) xs) (j * most_batch) front)
        ∙ drop-append-le s ys (post_of (j * most_batch) (until - j * most_batch) xs) few
        ∙ ap (λ zs. zs ++ post_of (j * most_batch) (until - j * most_batch) xs) same
        ∙ sym (drop-append-le s (take (until - j * most_batch) (drop (j * most_batch) xs)) (post_of (j * most_batch) (until - j * most_batch) xs) (omega (arith, few, long, old)))
        ∙ ap (drop s) (take-append-drop (until - j * most_batch) (drop (j * most_batch) xs))
        ∙ drop-drop s (j * most_batch) xs

-- ---- one batch more

-- a batch that is there begins before the last line's end
pub batch_begins : (j lines : ℕ) → j < div_ceil lines most_batch → j * most_batch < lines
batch_begins j lines below = omega (arith, below, (div_ceil_times lines most_batch (omega arith)).1)

dropped_more : {X : Type 0} (a s : ℕ) (xs ys : List X) → drop a xs ≡ drop a ys → drop (a + s) xs ≡ drop (a + s) ys
dropped_more a s xs ys same = sym (drop-drop s a xs) ∙ ap (drop s) same ∙ drop-drop s a ys

-- earlier batches do not depend on later replies
pub batches_same : {N : Type 0} (n : Ghosts N) (j : ℕ) (d : DeskValue) (lines : List Line) (rs ss : List Reply) (e : DeskValue) → ((i : ℕ) → i < j → batch_at i ss ≡ batch_at i rs) → AreBatches n j d lines rs e → AreBatches n j d lines ss e
batches_same n zero d lines rs ss e same done = done
batches_same n (suc j) d lines rs ss e same done = (
  done.0,
  batches_same n j d lines rs ss done.0 (λ i below. same i (omega (arith, below))) done.1,
  subst (λ (xs : List Reply). IsAfterBatch n done.0 (batch_at j lines) xs e (Ok tt)) (sym (same j (omega arith))) done.2,
)

module _ {N : Type 0} (n : Ghosts N) (j until : ℕ) (lines : List Line) (rs ys : List Reply) (is : until ≡ min (length lines) (j * most_batch + most_batch)) (within : j * most_batch ≤ length lines)
    (many : length lines ≡ length rs) (long : length ys ≡ until - j * most_batch) (d x e : DeskValue) (done : AreBatches n j d lines rs x) where
  abbrev ss : List Reply
  ss = put_mid (j * most_batch) (until - j * most_batch) rs ys

  until_is : until ≡ min (length rs) (j * most_batch + most_batch)
  until_is = is ∙ ap (λ l. min l (j * most_batch + most_batch)) many

  there : j * most_batch ≤ length rs
  there = omega (arith, within, many)

  before : AreBatches n j d lines ss x
  before = batches_same n j d lines rs ss x (batch_before j until rs ys until_is there long) done

  after_batch : (r : Result (Unit {0}) (Refusal × ℕ)) → IsAfterBatch n x (take (until - j * most_batch) (drop (j * most_batch) lines)) ys e r → IsAfterBatch n x (batch_at j lines) (batch_at j ss) e r
  after_batch r after =
      subst (λ (zs : List Reply). IsAfterBatch n x (batch_at j lines) zs e r) (sym (batch_written j until rs ys until_is there long))
      (subst (λ (ls : List Line). IsAfterBatch n x ls ys e r) (batch_is j until lines is) after)

  -- there are as many replies as before
  pub still_many : length ss ≡ length lines
  still_many = as_long j until rs ys until_is there long ∙ sym many

  -- replies behind the batch are as they were
  pub kept_more : (olds : List Reply) → drop (j * most_batch) rs ≡ drop (j * most_batch) olds → drop ((j + 1) * most_batch) ss ≡ drop ((j + 1) * most_batch) olds
  kept_more olds same =
      let next : j * most_batch + most_batch ≡ (j + 1) * most_batch = omega arith in
      subst (λ (k : ℕ). drop k ss ≡ drop k olds) next (rest_after j until rs ys until_is there long ∙ dropped_more (j * most_batch) most_batch rs olds same)

  -- and where only the first s lines of it are served, those from there on
  pub kept_end : (olds : List Reply) (s : ℕ) → drop (j * most_batch) rs ≡ drop (j * most_batch) olds → s ≤ length ys → drop s ys ≡ drop s (take (until - j * most_batch) (drop (j * most_batch) rs))
      → drop (j * most_batch + s) ss ≡ drop (j * most_batch + s) olds
  kept_end olds s same few left = rest_within j until rs ys until_is there long s few left ∙ dropped_more (j * most_batch) s rs olds same

  -- it is served
  pub batches_more : IsAfterBatch n x (take (until - j * most_batch) (drop (j * most_batch) lines)) ys e (Ok tt) → AreBatches n (j + 1) d lines ss e
  batches_more after = let next : suc j ≡ j + 1 = omega arith in subst (λ (i : ℕ). AreBatches n i d lines ss e) next (x, before, after_batch (Ok tt) after)

  -- its line s is refused
  pub batches_end : (why : Refusal) (s : ℕ) → IsAfterBatch n x (take (until - j * most_batch) (drop (j * most_batch) lines)) ys e (Err (why, s)) → AreAfter n d lines ss e (Err (why, j * most_batch + s))
  batches_end why s after =
      let few : s < most_batch =
      omega (
        arith,
        refused_within n x (take (until - j * most_batch) (drop (j * most_batch) lines)) ys e why s after,
        is,
        length-take-le (until - j * most_batch) (drop (j * most_batch) lines) (omega (arith, is, within, length-drop (j * most_batch) lines)),
      ) in
      let whole : (j * most_batch + s) / most_batch ≡ j = div-mul-add j most_batch s few in
      let rest : (j * most_batch + s) % most_batch ≡ s = mod-mul-add j most_batch s few in
      subst (λ (i : ℕ). (y : DeskValue) × AreBatches n i d lines ss y × IsAfterBatch n y (batch_at i lines) (batch_at i ss) e (Err (why, (j * most_batch + s) % most_batch))) (sym whole)
      (subst (λ (k : ℕ). (y : DeskValue) × AreBatches n j d lines ss y × IsAfterBatch n y (batch_at j lines) (batch_at j ss) e (Err (why, k))) (sym rest) (x, before, after_batch (Err (why, s)) after))

-- ---- each line as by a call of its own

-- lines behind those that were served
served_of_more : {N : Type 0} (n : Ghosts N) (lines more : List Line) (d : DeskValue) (replies : List Reply) (e : DeskValue) → AreServed n lines d replies e → AreServed n (lines ++ more) d replies e
served_of_more n lines more d [] e served = served
served_of_more n [] more d (r ∷ rs) e served = absurd served
served_of_more n (l ∷ ls) more d (r ∷ rs) e served = (served.0, served.1, served_of_more n ls more served.0 rs e served.2)

served_both : {N : Type 0} (n : Ghosts N) (lines more : List Line) (d : DeskValue) (replies : List Reply) (m : DeskValue) (others : List Reply) (e : DeskValue)
    → length replies ≡ length lines → AreServed n lines d replies m → AreServed n more m others e → AreServed n (lines ++ more) d (replies ++ others) e
served_both n [] more d [] m others e long first second = subst (λ (x : DeskValue). AreServed n more x others e) first second
served_both n [] more d (r ∷ rs) m others e long first second = absurd first
served_both n (l ∷ ls) more d [] m others e long first second = absurd (omega (arith, long))
served_both n (l ∷ ls) more d (r ∷ rs) m others e long first second = (first.0, first.1, served_both n ls more first.0 rs m others e (omega (arith, long)) first.2 second)

turned_served : {N : Type 0} (n : Ghosts N) (b : BookValue) (d : DeskValue) (lines : List Line) (replies : List Reply) (c : BookValue) (e : DeskValue) → IsBookUnder n b → AreTurned n b d lines replies c e → AreServed n lines d replies e
turned_served n b d lines [] c e under turned = turned.1
turned_served n b d [] (r ∷ rs) c e under turned = absurd turned
turned_served n b d (l ∷ ls) (r ∷ rs) c e under turned = (turned.1, (b, turned.0, under, turned.3, turned.2), turned_served n turned.0 turned.1 ls rs c e turned.3 turned.4)

take_both : {X : Type 0} (a s : ℕ) (xs : List X) → take (a + s) xs ≡ take a xs ++ take s (drop a xs)
take_both a s xs =
    sym (take-append-drop a (take (a + s) xs)) ∙ ap (λ ys. ys ++ drop a (take (a + s) xs)) (take-take a (a + s) xs (omega arith)) ∙ ap (λ ys. take a xs ++ ys) (drop-take a s xs)

-- the lines of the first j batches and some more
module _ {N : Type 0} (n : Ghosts N) (j : ℕ) (d : DeskValue) (lines : List Line) (replies : List Reply) (many : length replies ≡ length lines) where
  as_many : length (take (j * most_batch) replies) ≡ length (take (j * most_batch) lines)
  as_many = length-take (j * most_batch) replies ∙ ap (λ k. min (j * most_batch) k) many ∙ sym (length-take (j * most_batch) lines)

  first_served : (x : DeskValue) (s : ℕ) (e : DeskValue) → AreServed n (take (j * most_batch) lines) d (take (j * most_batch) replies) x
      → AreServed n (batch_at j lines) x (take s (drop (j * most_batch) replies)) e → AreServed n (take (j * most_batch + most_batch) lines) d (take (j * most_batch + s) replies) e
  first_served x s e first second =
      subst (λ (ls : List Line). AreServed n ls d (take (j * most_batch + s) replies) e) (sym (take_both (j * most_batch) most_batch lines))
      (subst (λ (rs : List Reply). AreServed n (take (j * most_batch) lines ++ batch_at j lines) d rs e) (sym (take_both (j * most_batch) s replies))
      (served_both n (take (j * most_batch) lines) (batch_at j lines) d (take (j * most_batch) replies) x (take s (drop (j * most_batch) replies)) e as_many first second))

batches_served : {N : Type 0} (n : Ghosts N) (j : ℕ) (d : DeskValue) (lines : List Line) (replies : List Reply) (e : DeskValue) → length replies ≡ length lines → AreBatches n j d lines replies e
    → AreServed n (take (j * most_batch) lines) d (take (j * most_batch) replies) e
batches_served n zero d lines replies e many done = done
batches_served n (suc j) d lines replies e many done =
    let next : j * most_batch + most_batch ≡ suc j * most_batch = omega arith in
    subst (λ (k : ℕ). AreServed n (take k lines) d (take k replies) e) next
    (first_served n j d lines replies many done.0 most_batch e (batches_served n j d lines replies done.0 many done.1)
    (turned_served n done.2.0 done.0 (batch_at j lines) (batch_at j replies) done.2.1 e done.2.2 done.2.4.1))

-- what `serve_all` promises is what as many calls of `serve` promise, and more
pub as_alone : {N : Type 0} (n : Ghosts N) (d : DeskValue) (lines : List Line) (replies : List Reply) (e : DeskValue) (r : Result (Unit {0}) (Refusal × ℕ)) → length replies ≡ length lines
    → IfErr r (λ x. IsEnd n x.0 (stamp_seen e)) → AreAfter n d lines replies e r → IsAsAlone n d lines replies e r
as_alone n d lines replies e (Ok done) many refused after =
    let j = div_ceil (length lines) most_batch in
    let all : length lines ≤ j * most_batch = omega (arith, (div_ceil_times (length lines) most_batch (omega arith)).0) in (
      many,
      subst (λ (ls : List Line). AreServed n ls d replies e) (take_all (j * most_batch) lines all)
          (subst (λ (rs : List Reply). AreServed n (take (j * most_batch) lines) d rs e) (take_all (j * most_batch) replies (omega (arith, all, many)))
          (batches_served n j d lines replies e many after)),
    )
as_alone n d lines replies e (Err (why, k)) many refused after =
    let j = k / most_batch in
    let s = k % most_batch in
    let last = after.2 in
    let here = last.4 in
    let y = here.2 in
    let few : s < length (batch_at j lines) = here.0 in
    let is : j * most_batch + s ≡ k = div-add-mod' k most_batch in
    let small : s < most_batch = mod_below k most_batch (omega arith) in
    let within : k < length lines = omega (arith, is, few, length-take most_batch (drop (j * most_batch) lines), length-drop (j * most_batch) lines) in
    let turned : AreTurned n last.0 after.0 (batch_at j lines) (take s (drop (j * most_batch) replies)) here.1 y =
    subst (λ (rs : List Reply). AreTurned n last.0 after.0 (batch_at j lines) rs here.1 y) (take-take s most_batch (drop (j * most_batch) replies) (omega (arith, small))) here.3 in
    let first = first_served n j d lines replies many after.0 s y (batches_served n j d lines replies after.0 many after.1) (turned_served n last.0 after.0 (batch_at j lines) (take s (drop (j * most_batch) replies)) here.1 y last.2 turned) in (
      omega (arith, within, length-take-le k replies (omega (arith, within, many)), many),
      y,
      subst (λ (ls : List Line). AreServed n ls d (take k replies) y) (take-append-drop (j * most_batch + most_batch) lines)
          (served_of_more n (take (j * most_batch + most_batch) lines) (drop (j * most_batch + most_batch) lines) d (take k replies) y
          (subst (λ (i : ℕ). AreServed n (take (j * most_batch + most_batch) lines) d (take i replies) y) is first)),
      record { number = 0; call = Census },
      (here.1, last.1, subst (λ (b : BookValue). IsBookUnder n b) here.5 last.3, last.3, (here.4, here.5, here.6)),
      refused,
    )
