-- Workers: one line more, and one worker more or less.
use Rattle.std.proofs.Common.{◌≡◌, Bool, ℕ, suc, ◌+◌, ◌<◌, List, [], ◌∷◌, ◌++◌, length, get_or, Ok, refl, sym, ap, ◌∙◌, subst, inl, inr, arith, length-append}
use Rattle.std.specs.Global.{Vec}
use Rattle.std.proofs.Math.ListN.{get_or-append}
use Rattle.std.proofs.Math.Seq.{get_or-append_seam}
use Rattle.std.proofs.lemmas.Bool.{cases_eq}
use Rattle.strm_pool.specs.declared.reply.Reply.{Reply}
use Rattle.strm_pool.specs.declared.line.Line.{Line}
use Rattle.strm_shared.specs.declared.name.Name.{Ghosts}
use Rattle.strm_shared.specs.declared.outcome.End.{End}
use Rattle.strm_shared.specs.declared.outcome.End.TheVariants.{NotStarted}
use Rattle.strm_shared.specs.Books.{IsAfter}
use Rattle.strm_shared.specs.Desks.{DeskValue, no_desk}
use Rattle.strm_shared.specs.Keeping.{AllWorkedKeeping, WorkedKeeping}
use Rattle.strm_shared.specs.Runs.{AllWorked, AreServed, Worked}
use Rattle.strm_shared.specs.RunsLayout.{AreReady, IsReady}

-- one line more was served
pub served_more : {N : Type 0} (n : Ghosts N) (lines : List Line) (d : DeskValue) (replies : List Reply) (e : DeskValue) (line : Line) (reply : Reply) (f : DeskValue)
    → AreServed n lines d replies e → length replies < length lines → IsAfter n e (get_or lines (length replies) line).number (get_or lines (length replies) line).call f (Ok reply) → AreServed n lines d (replies ++ reply ∷ []) f
served_more n [] d replies e line reply f served below after = absurd (omega (arith, below))
served_more n (l ∷ ls) d [] e line reply f served below after = (f, subst (λ (x : DeskValue). IsAfter n x l.number l.call f (Ok reply)) served after, refl)
served_more n (l ∷ ls) d (r ∷ rs) e line reply f served below after =
    (served.0, served.1, served_more n ls served.0 rs e line reply f served.2 (omega (arith, below)) after)

-- one reply more is kept
pub kept_more : (was now pushed : Vec Reply) (all : List Reply) (reply : Reply) → now ≡ pushed → pushed.items ≡ was.items ++ reply ∷ [] → was.items ≡ all → now.items ≡ all ++ reply ∷ []
kept_more was now pushed all reply is items kept = ap (λ (v : Vec Reply). v.items) is ∙ items ∙ ap (λ (xs : List Reply). xs ++ reply ∷ []) kept

-- ---- room for one part more or less

module _ (keeps : Bool) where
  pub ready_more : (parts : List (List Line)) (rooms : List (Vec Reply)) (lines : List Line) (room : Vec Reply) → AreReady keeps parts rooms → IsReady keeps lines room → AreReady keeps (parts ++ lines ∷ []) (rooms ++ room ∷ [])
  ready_more [] [] lines room all last = (last, tt)
  ready_more [] (r ∷ rs) lines room all last = absurd all
  ready_more (p ∷ ps) [] lines room all last = absurd all
  ready_more (p ∷ ps) (r ∷ rs) lines room all last = (all.0, ready_more ps rs lines room all.1 last)

  pub ready_last : (parts : List (List Line)) (rooms : List (Vec Reply)) (lines : List Line) (room : Vec Reply) → AreReady keeps (parts ++ lines ∷ []) (rooms ++ room ∷ []) → AreReady keeps parts rooms × IsReady keeps lines room
  ready_last [] [] lines room all = (tt, all.0)
  ready_last [] (r ∷ []) lines room all = absurd all.1
  ready_last [] (r ∷ x ∷ xs) lines room all = absurd all.1
  ready_last (p ∷ []) [] lines room all = absurd all.1
  ready_last (p ∷ x ∷ xs) [] lines room all = absurd all.1
  ready_last (p ∷ ps) (r ∷ rs) lines room all = let rest = ready_last ps rs lines room all.1 in ((all.0, rest.0), rest.1)

  pub length-ready : (parts : List (List Line)) (rooms : List (Vec Reply)) → AreReady keeps parts rooms → length rooms ≡ length parts
  length-ready [] [] all = refl
  length-ready [] (r ∷ rs) all = absurd all
  length-ready (p ∷ ps) [] all = absurd all
  length-ready (p ∷ ps) (r ∷ rs) all = ap suc (length-ready ps rs all.1)

-- ---- one worker more has ended

module _ {X : Type 0} (xs ys : List X) (x : X) (is : ys ≡ xs ++ x ∷ []) where
  pub longer : length ys ≡ length xs + 1
  longer = ap length is ∙ length-append xs (x ∷ [])

  at_end : (d : X) (n : ℕ) → length xs ≡ n → get_or ys n d ≡ x
  at_end d n long = subst (λ m. get_or ys m d ≡ x) long (ap (λ zs. get_or zs (length xs) d) is ∙ get_or-append_seam xs x [] d)

  before_end : (d : X) (k : ℕ) → k < length xs → get_or ys k d ≡ get_or xs k d
  before_end d k within = ap (λ zs. get_or zs k d) is ∙ get_or-append xs (x ∷ []) d k within

worked_as : {N : Type 0} (n : Ghosts N) (p q : List Line) (b c : DeskValue) (e f : End) (r s : List Reply) (d g : DeskValue) → q ≡ p → c ≡ b → f ≡ e → s ≡ r → g ≡ d → Worked n p b e r d → Worked n q c f s g
worked_as n p q b c e f r s d g pq bc ef rs dg worked =
    subst (λ (x : List Line). Worked n x c f s g) (sym pq)
    (subst (λ (x : DeskValue). Worked n p x f s g) (sym bc)
    (subst (λ (x : End). Worked n p b x s g) (sym ef)
    (subst (λ (x : List Reply). Worked n p b e x g) (sym rs)
    (subst (λ (x : DeskValue). Worked n p b e r x) (sym dg) worked))))

module _ {N : Type 0} (n : Ghosts N) (parts earlier : List (List Line)) (lines : List Line) (before past : List DeskValue) (d : DeskValue)
    (ends ended : List End) (end : End) (all replied : List (List Reply)) (replies : List Reply) (after kept : List DeskValue) (e : DeskValue)
    (p-is : parts ≡ earlier ++ lines ∷ []) (b-is : before ≡ past ++ d ∷ []) (e-is : ends ≡ ended ++ end ∷ []) (r-is : all ≡ replied ++ replies ∷ []) (a-is : after ≡ kept ++ e ∷ [])
    (as-many : length past ≡ length earlier) (worked : AllWorked n earlier past ended replied kept) (last : Worked n lines d end replies e) where
  worked_more : AllWorked n parts before ends all after
  worked_more = record {
    ended = longer ended ends end e-is ∙ omega (arith, worked.ended, longer earlier parts lines p-is);
    replied = longer replied all replies r-is ∙ omega (arith, worked.replied, longer earlier parts lines p-is);
    kept = longer kept after e a-is ∙ omega (arith, worked.kept, longer earlier parts lines p-is);
    each = λ k within. elim (cases_eq k (length earlier)) [
      | inl same ↦
          subst (λ i. Worked n (get_or parts i []) (get_or before i no_desk) (get_or ends i NotStarted) (get_or all i []) (get_or after i no_desk)) (sym same)
          (worked_as n lines _ d _ end _ replies _ e _
          (at_end earlier parts lines p-is [] (length earlier) refl) (at_end past before d b-is no_desk (length earlier) as-many)
          (at_end ended ends end e-is NotStarted (length earlier) worked.ended) (at_end replied all replies r-is [] (length earlier) worked.replied)
          (at_end kept after e a-is no_desk (length earlier) worked.kept) last)
      | inr other ↦
          let below : k < length earlier = omega (arith, within, other, longer earlier parts lines p-is) in
          worked_as n _ _ _ _ _ _ _ _ _ _
          (before_end earlier parts lines p-is [] k below) (before_end past before d b-is no_desk k (omega (arith, below, as-many)))
          (before_end ended ends end e-is NotStarted k (omega (arith, below, worked.ended))) (before_end replied all replies r-is [] k (omega (arith, below, worked.replied)))
          (before_end kept after e a-is no_desk k (omega (arith, below, worked.kept))) (worked.each k below)
    ];
  }

-- and so it is where the replies are kept or not
pub worked_more_keeping : {N : Type 0} (keeps : Bool) (n : Ghosts N) (parts earlier : List (List Line)) (lines : List Line) (before past : List DeskValue) (d : DeskValue)
    (ends ended : List End) (end : End) (kept were : List (List Reply)) (replies : List Reply) (after left : List DeskValue) (e : DeskValue)
    → parts ≡ earlier ++ lines ∷ [] → before ≡ past ++ d ∷ [] → ends ≡ ended ++ end ∷ [] → kept ≡ were ++ replies ∷ [] → after ≡ left ++ e ∷ []
    → length past ≡ length earlier → AllWorkedKeeping keeps n earlier past ended were left → WorkedKeeping keeps n lines d end replies e → AllWorkedKeeping keeps n parts before ends kept after
worked_more_keeping keeps n parts earlier lines before past d ends ended end kept were replies after left e p-is b-is e-is r-is a-is as-many worked last = (
  worked.0 ++ last.0 ∷ [],
  worked_more n parts earlier lines before past d ends ended end (worked.0 ++ last.0 ∷ []) worked.0 last.0 after left e p-is b-is e-is refl a-is as-many worked.1 last.1,
  λ keep. r-is ∙ ap (λ (all : List (List Reply)). all ++ replies ∷ []) (worked.2 keep) ∙ ap (λ (all : List Reply). worked.0 ++ all ∷ []) (last.2 keep),
)
