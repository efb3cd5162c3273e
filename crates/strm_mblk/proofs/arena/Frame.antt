-- What each call of the model leaves as it was.
use Rattle.std.proofs.Common.{◌≡◌, ◌≢◌, ℕ, zero, suc, ◌+◌, ◌<◌, ◌≤◌, Bool, true, false, ◌||◌, ◌&&◌, ◌==◌, ◌-◌, List, [], ◌∷◌, ◌++◌, length, get_or, set, Option, Some, None, Result, Ok, Err, refl, sym, ap, ◌∙◌, subst, inl, inr, arith, get_or-set_same, get_or-set_other, length-set, if◌then◌else◌}
use Rattle.std.specs.Prelude.{IfOk, ℤ, count_by, drop, nat_le, nat_lt, ok_or, option_map, slice_get, take}
use Rattle.std.specs.List.{All, flat_map, zip}
use Rattle.std.proofs.lemmas.Bool.{cases_Bool, cases_eq, cases_lt, cond-true, cond-false, eq-eqb, ltb-false, ne_eqb, false≢true}
use Rattle.std.proofs.lemmas.List.{get_or_past}
use Rattle.std.proofs.lemmas.Option.{none-some, same_Some}
use Rattle.strm_data.specs.declared.class_spec.ClassSpec.{ClassSpec}
use Rattle.strm_data.specs.declared.msg_type.MsgType.{MsgType}
use Rattle.strm_data.specs.declared.refusal.Refusal.{Refusal}
use Rattle.strm_data.specs.declared.refusal.Refusal.TheVariants.{NoData, NoMblk, NoSuchBlock, Shared, Short, TooLarge}
use Rattle.strm_data.specs.Classes.{fits_a_class}
use Rattle.strm_data.specs.DataStore.{DataBlock, DataStore, capacity_of, class_of, data_block_at, fitting_blocks, free_of, no_data_block, take_data, times, with_bytes_written, with_data_taken, with_kind}
use Rattle.strm_data.proofs.store.Lawful.{if_fits}
use Rattle.strm_links.proofs.lists.Counting.{one_if, times-append, times-cons, times_here}
use Rattle.strm_links.specs.Rows.{has}
use Rattle.strm_links.proofs.lists.OneList.{has_head}
use Rattle.strm_mblk.specs.declared.token.TokenValue.{TokenValue}
use Rattle.strm_mblk.specs.Arena.{has as has_token, Arena, IsParted, held_at, message_at, references_to, shelved_blocks, token_of, with_held, without_held, with_free_left}
use Rattle.strm_mblk.specs.Block.{Block, Message, bytes_of, bytes_of_block, uses_data, kind_of, new_block, size_of}
use Rattle.strm_mblk.specs.BlockCalls.{allocb, allocb_from, with_band, blocks_copied, copied_from, fits_classes, message_copied, store_with_copy, transfer, message_duplicated, freeb, freeb_from, head_in, held_new, held_under, linkb, rmvb, rmvb_of, setband, unlinkb, with_rest, if_unshared, own_block, with_block}
use Rattle.strm_mblk.specs.Frame.{IsSameData, LeavesOthers, LeavesShelves, head_given, heads_parted}
use Rattle.strm_mblk.specs.Freeing.{freemsg, with_token_spent, with_block_freed, with_blocks_freed, with_reference_dropped}
use Rattle.strm_mblk.specs.Given.{Given, value_after, and_then, answer_map, answer_of, or_rejected}
use Rattle.strm_mblk.specs.Messages.{blocks_of, chain_divided, held_in, chains_joined}
use Rattle.strm_mblk.specs.Trimming.{adjmsg, bytes_asked, blocks_left_over, pull, pull_asked, with_front_pulled, store_with_front, pullupmsg, run_of, blocks_used_up}
use Rattle.strm_mblk.proofs.Lists.{count_adds}
use Rattle.strm_mblk.proofs.arena.Counts.{blocks_in_adds, held_among, out_of_held}
use Rattle.std.proofs.lemmas.Grind.{common_steps}

-- ---- either way

-- what holds of both ways of a choice
chosen : {X : Type 0} (P : X → Type 0) (b : Bool) (x y : X) → P x → (b ≡ false → P y) → P (if b then x else y)
chosen P true x y here there = here
chosen P false x y here there = there refl

-- what holds of an answer made of another, and of what goes on from one
answered : {A B : Type 0} (P : B → Type 0) (f : A → B) (r : Result A Refusal) → ((x : A) → r ≡ Ok x → P (f x)) → IfOk (answer_map f r) P
answered P f (Ok x) holds = holds x refl
answered P f (Err why) holds = tt

gone_on : {A B : Type 0} (P : B → Type 0) (f : A → Result B Refusal) (r : Result A Refusal) → ((x : A) → r ≡ Ok x → IfOk (f x) P) → IfOk (and_then f r) P
gone_on P f (Ok x) holds = holds x refl
gone_on P f (Err why) holds = tt

-- ---- heads that are not among some

-- the first of them is another
pub other_head : (h g : ℕ) (gs : List ℕ) → has h (g ∷ gs) ≡ false → h ≢ g
other_head h g gs absent same = false≢true (sym absent ∙ has_head g h gs (sym same))

later : (b c : Bool) → (b || c) ≡ false → c ≡ false
later true c is = cc
later false c is = is

-- and so are the others
other_heads : (h g : ℕ) (gs : List ℕ) → has h (g ∷ gs) ≡ false → has h gs ≡ false
other_heads h g gs absent = later (g == h) (has h gs) absent

-- nor among all but the second
without_second : (k h g : ℕ) (gs : List ℕ) → has k (h ∷ g ∷ gs) ≡ false → has k (h ∷ gs) ≡ false
without_second k h g gs = grind (arith, common_steps)

-- ---- data blocks that stay

-- the data blocks that these blocks name are the same, where each that is named so is
same_data : (s t : DataStore) (bs : List Block) → ((d : ℕ) → 0 < count_by (uses_data d) bs → data_block_at t d ≡ data_block_at s d) → All (IsSameData s t) bs
same_data s t [] same k e within = absurd (omega arith)
same_data s t (b ∷ bs) same zero e within = grind (arith, common_steps, count_adds, one_if, eq-eqb)
same_data s t (b ∷ bs) same (suc k) e within = grind (arith, common_steps, (same_data s t bs), count_adds)

-- the blocks on shelves, and those of a held message, are among those that name a data block
pub shelved_named : (a : Arena) (d : ℕ) → count_by (uses_data d) (shelved_blocks a) ≤ references_to a d
shelved_named a d = omega (arith, blocks_in_adds (count_adds (uses_data d)) a)

pub held_named : (a : Arena) (h d : ℕ) → count_by (uses_data d) (message_at a h) ≤ references_to a d
held_named a h d = grind (arith, common_steps, held_among, blocks_in_adds, count_adds, get_or_past)

-- ---- what stays

-- all stays, save for the messages held at these heads
pub record Leaves (heads : List ℕ) (old new : Arena) : Type 0 where
  pub others : LeavesOthers heads old new
  pub shelves : LeavesShelves heads old new

-- nothing changes
pub leaves_same : (a : Arena) (heads : List ℕ) → Leaves heads a a
leaves_same a heads = grind (arith, common_steps)

-- what is held changes at one head more
others_set : {a b : Arena} (c : Arena) {heads : List ℕ} → LeavesOthers heads a b → (g : ℕ) (o : Option Message) → ((h : ℕ) → has h heads ≡ false → h ≢ g) → c.id ≡ b.id → c.held ≡ set b.held g o → LeavesOthers heads a c
others_set c left g o is_head id held = grind (arith, common_steps, length-set, get_or-set_other)

-- and at one alone
pub others_one : (a b : Arena) (h : ℕ) (o : Option Message) → b.id ≡ a.id → b.held ≡ set a.held h o → LeavesOthers (h ∷ []) a b
others_one a b h o = others_set b (leaves_same a (h ∷ [])).others h o (λ g other. other_head g h [] other)

module _ {a b : Arena} {heads : List ℕ} (others : LeavesOthers heads a b) (shelves : b.shelves ≡ a.shelves) where
  -- each data block stays that is named on a shelf, or in a message held at another head
  pub leaves_data : ((d : ℕ) → 0 < count_by (uses_data d) (shelved_blocks a) → data_block_at b.store d ≡ data_block_at a.store d)
      → ((h d : ℕ) → has h heads ≡ false → 0 < count_by (uses_data d) (message_at a h) → data_block_at b.store d ≡ data_block_at a.store d) → Leaves heads a b
  leaves_data shelved held = grind (arith, common_steps, same_data)

  -- each stays that some message uses
  pub leaves_named : ((d : ℕ) → 0 < references_to a d → data_block_at b.store d ≡ data_block_at a.store d) → Leaves heads a b
  leaves_named same = leaves_data (λ d some. same d (omega (arith, some, shelved_named a d))) (λ h d other some. same d (omega (arith, some, held_named a h d)))

  -- each but one stays, which a message alone uses that is held at one of the heads
  module _ (g d : ℕ) (is_head : (h : ℕ) → has h heads ≡ false → h ≢ g) {m : Message} (is : held_at a g ≡ Some m) (once : references_to a d ≤ 1) (some : 0 < count_by (uses_data d) m) where
    -- no other message uses it
    beside : (h : ℕ) → h ≢ g → count_by (uses_data d) (message_at a h) ≡ 0
    beside h other =
        omega (
          arith,
          out_of_held a g (uses_data d) is,
          held_named (without_held g a) h d,
          ap (λ o. count_by (uses_data d) (blocks_of o)) (get_or-set_other a.held g h None None other),
        )

    pub leaves_own : ((e : ℕ) → e ≢ d → data_block_at b.store e ≡ data_block_at a.store e) → Leaves heads a b
    leaves_own same =
        leaves_data
        (λ e named. same e (λ one.
        absurd (omega (arith, named, ap (λ i. count_by (uses_data i) (shelved_blocks a)) one, out_of_held a g (uses_data d) is, shelved_named (without_held g a) d))))
        (λ h e other named. same e (λ one. absurd (omega (arith, named, ap (λ i. count_by (uses_data i) (message_at a h)) one, beside h (is_head h other)))))

-- ---- data blocks that are taken, and altered

-- the data block is in no free list
abbrev IsTaken : ℕ → DataStore → Type 0
IsTaken d s = (c : ℕ) → times d (free_of s c) ≡ 0

none_fitting : (d size : ℕ) (cs : List ClassSpec) (free : List (List ℕ)) → ((c : ℕ) → times d (get_or free c []) ≡ 0) → times d (flat_map (if_fits size) (zip cs free)) ≡ 0
none_fitting d size [] free none = refl
none_fitting d size (c ∷ cs) [] none = refl
none_fitting d size (c ∷ cs) (xs ∷ free) none =
    let here : times d (if_fits size (c, xs)) ≡ 0 =
    elim (cases_Bool (nat_le size c.size)) [
      | inl fits ↦ ap (times d) (cond-true _ xs [] fits) ∙ none 0
      | inr small ↦ ap (times d) (cond-false _ xs [] small)
    ] in
    omega (arith, times-append d (if_fits size (c, xs)) (flat_map (if_fits size) (zip cs free)), here, none_fitting d size cs free (λ k. none (suc k)))

first_other : (d e : ℕ) (xs : List ℕ) → times e xs ≡ 0 → ok_or (slice_get xs 0) NoData ≡ Ok d → e ≢ d
first_other d e [] none is same = cc
first_other d e (x ∷ xs) none is same = grind (arith, common_steps, times_here)

-- another is taken
take_other : (size : ℕ) {d : ℕ} (e : ℕ) (s : DataStore) → IsTaken e s → take_data size s ≡ Ok d → e ≢ d
take_other size {d} e s taken =
    chosen (λ r. r ≡ Ok d → e ≢ d) (fits_a_class size s.classes) (ok_or (slice_get (fitting_blocks size s) 0) NoData) (Err TooLarge) (first_other d e (fitting_blocks size s) (none_fitting e size s.classes s.free taken))
    (λ large is. absurd (cc is))

-- and it stays in none
taken_stays : (d e : ℕ) (s : DataStore) → IsTaken e s → IsTaken e (with_data_taken d s)
taken_stays d e s taken c =
    let rest = drop 1 (free_of s (class_of s d)) in
    elim (cases_eq c (class_of s d)) [
      | inr other ↦ ap (times e) (get_or-set_other s.free (class_of s d) c rest [] other) ∙ taken c
      | inl same ↦
          elim (cases_lt (class_of s d) (length s.free)) [
            | inl inside ↦
                ap (λ k. times e (get_or (set s.free (class_of s d) rest) k [])) same ∙ ap (times e) (get_or-set_same s.free (class_of s d) rest [] inside)
                ∙ fewer (free_of s (class_of s d)) (taken (class_of s d))
            | inr past ↦ ap (times e) (get_or_past (set s.free (class_of s d) rest) c [] (omega (arith, same, past, length-set s.free (class_of s d) rest)))
          ]
    ]
  where
    fewer : (xs : List ℕ) → times e xs ≡ 0 → times e (drop 1 xs) ≡ 0
    fewer [] none = none
    fewer (x ∷ xs) none = omega (arith, none, times-cons e x xs)

-- taking a data block, and giving it a type and bytes, leaves every other as it was
filled_other : (d e at : ℕ) (kind : MsgType) (bytes : List ℕ) (s : DataStore) → e ≢ d → data_block_at (with_bytes_written d at bytes (with_kind d kind (with_data_taken d s))) e ≡ data_block_at s e
filled_other d e at kind bytes s other = grind (arith, common_steps, get_or-set_other)

-- copies leave every data block that was in use
copies_leave : (o : Option DataStore) (bs : List Block) (s : DataStore) (e : ℕ) → IsTaken e s → IfOk (blocks_copied o bs s) (λ g. data_block_at g.1 e ≡ data_block_at s e)
copies_leave o [] s e taken = refl
copies_leave o (b ∷ bs) s e taken =
    let from = copied_from o s in
    gone_on (λ (g : List Block × DataStore). data_block_at g.1 e ≡ data_block_at s e) _ (take_data (capacity_of from b.data_number) s) (λ d is.
    let next = store_with_copy o b s d in
    answered (λ (g : List Block × DataStore). data_block_at g.1 e ≡ data_block_at s e) (λ g. (record b { data_number = d } ∷ g.0, g.1)) (blocks_copied o bs next) (λ g made.
    subst (λ r. IfOk r (λ (g : List Block × DataStore). data_block_at g.1 e ≡ data_block_at next e)) made (copies_leave o bs next e (taken_stays d e s taken))
    ∙ filled_other d e b.offset (kind_of from b) (bytes_of_block from b) s (take_other (capacity_of from b.data_number) e s taken is)))

-- ---- blocks that are freed

-- all but the free lists is as it was
record AreFreed (old new : Arena) : Type 0 where
  id : new.id ≡ old.id
  shelves : new.shelves ≡ old.shelves
  held : new.held ≡ old.held
  blocks : new.store.blocks ≡ old.store.blocks

name_drops : (d : ℕ) (loose : List Block) (a : Arena) → AreFreed a (with_reference_dropped d loose a)
name_drops d loose a = grind (arith, common_steps, chosen)

block_frees : (b : Block) (loose : List Block) (a : Arena) → AreFreed a (with_block_freed b loose a)
block_frees b loose a = grind (arith, common_steps, name_drops)

blocks_free : (bs : List Block) (a : Arena) → AreFreed a (with_blocks_freed bs a)
blocks_free [] a = record { id = refl; shelves = refl; held = refl; blocks = refl }
blocks_free (b ∷ loose) a = grind (arith, common_steps, (blocks_free loose (with_block_freed b loose a)), block_frees)

-- ---- what calls leave that give an answer

-- where it is not refused, it leaves all but the messages at these heads
abbrev pub Leaving : {X : Type 0} → List ℕ → Arena → Given Arena X → Type 0
Leaving heads a r = IfOk r (λ g. Leaves heads a g.1)

-- nothing changes where it is refused
pub leaves_after : {X : Type 0} (a : Arena) (heads : List ℕ) (r : Given Arena X) → Leaving heads a r → Leaves heads a (value_after a r)
leaves_after a heads (Ok g) left = left
leaves_after a heads (Err why) left = leaves_same a heads

-- a call that gives a message leaves all others
abbrev pub Making : Arena → Given Arena ℕ → Type 0
Making a r = IfOk r (λ g. Leaves (g.0 ∷ []) a g.1)

pub leaves_given : (a b : Arena) {t : TokenValue} (n : ℕ) {r : Given Arena ℕ} → Making a r → r ≡ Ok (n, b) → t ≡ token_of b n → Leaves (t.head ∷ []) a b
leaves_given a b n gives is token = subst (λ h. Leaves (h ∷ []) a b) (ap (λ (x : TokenValue). x.head) (sym token)) (subst (Making a) is gives)

module _ (a : Arena) where
  -- only what is held at some heads changes
  leaves_held : {heads : List ℕ} (held : List (Option Message)) → LeavesOthers heads a (record a { held = held }) → Leaves heads a (record a { held = held })
  leaves_held held others = leaves_named others refl (λ d some. refl)

  leaves_one : (h : ℕ) (o : Option Message) → Leaves (h ∷ []) a (record a { held = set a.held h o })
  leaves_one h o = leaves_held (set a.held h o) (others_one a _ h o refl refl)

  -- at two, first to last
  others_two : (b : Arena) (h g : ℕ) (o p : Option Message) (heads : List ℕ) → ((k : ℕ) → has k heads ≡ false → k ≢ h) → ((k : ℕ) → has k heads ≡ false → k ≢ g) → b.id ≡ a.id → b.held ≡ set (set a.held h o) g p
      → LeavesOthers heads a b
  others_two b h g o p heads first second = grind (arith, common_steps, others_set, leaves_same)

  pub leaves_fields : (h k : ℕ) (c : Block) → Leaves (h ∷ []) a (with_block h k c a)
  leaves_fields h k c = leaves_one h _

  pub leaves_setband : (h band : ℕ) → Leaves (h ∷ []) a (setband h band a)
  leaves_setband h band = leaves_one h (Some (with_band band (message_at a h)))

  pub leaves_adjmsg : (h : ℕ) (n : ℤ) → Leaves (h ∷ []) a (value_after a (adjmsg h n a))
  leaves_adjmsg h n = grind (arith, common_steps, leaves_after, answered, leaves_one)

  pub leaves_linkb : (h g : ℕ) → Leaves (h ∷ g ∷ []) a (linkb h g a)
  leaves_linkb h g = grind (arith, common_steps, chosen, leaves_same, leaves_held, others_two, other_head, other_heads)

  -- the blocks after the first become a message
  parts : (x : Arena) (h : ℕ) (m : Message) → Leaves (h ∷ head_given (option_map (token_of x) (head_in (drop 1 m)))) a (record a { held = chain_divided (λ (b : Block). b.number) h m a.held })
  parts x h [] = leaves_same a (h ∷ [])
  parts x h (b ∷ []) = leaves_same a (h ∷ [])
  parts x h (b ∷ c ∷ bs) = grind (arith, common_steps, leaves_held, others_two, other_head, other_heads)

  pub leaves_unlinkb : (x : Arena) (h : ℕ) → Leaves (h ∷ head_given (option_map (token_of x) (unlinkb h a).0)) a (unlinkb h a).1
  leaves_unlinkb x h = parts x h (message_at a h)

  -- the message at h leaves, and these blocks are a message, if there are any
  rest_others : (heads : List ℕ) (h : ℕ) (x : Arena) (rest : Message) → ((k : ℕ) → has k heads ≡ false → has k (h ∷ head_given (option_map (token_of x) (head_in rest))) ≡ false)
      → LeavesOthers heads a (with_rest rest (without_held h a))
  rest_others heads h x [] among = others_set (without_held h a) (leaves_same a heads).others h None (λ k other. other_head k h [] (among k other)) refl refl
  rest_others heads h x (c ∷ cs) among = grind (arith, common_steps, others_two, other_head, other_heads)

  rest_shelves : (h : ℕ) (rest : Message) → (with_rest rest (without_held h a)).shelves ≡ a.shelves
  rest_shelves h [] = refl
  rest_shelves h (c ∷ cs) = refl

  rest_store : (h : ℕ) (rest : Message) → (with_rest rest (without_held h a)).store ≡ a.store
  rest_store h [] = refl
  rest_store h (c ∷ cs) = refl

  pub leaves_rmvb : (x : Arena) (t : TokenValue) (h k : ℕ)
      → Leaves (h ∷ heads_parted (or_rejected t (answer_map (λ heads. (token_of x heads.0, option_map (token_of x) heads.1)) (answer_of (rmvb h k a))))) a (value_after a (rmvb h k a))
  leaves_rmvb x t h k =
      elim (slice_get (message_at a h) k) as (λ o. Leaves (h ∷ heads_parted (or_rejected t (answer_map (λ heads. (token_of x heads.0, option_map (token_of x) heads.1)) (answer_of (rmvb_of h a rest o))))) a (value_after a (rmvb_of h a rest o))) [
        | None ↦ leaves_same a (h ∷ [])
        | Some b ↦
            let others = head_given (option_map (token_of x) (head_in rest)) in
            let heads = h ∷ b.number ∷ others in
            let left = with_rest rest (without_held h a) in
            leaves_named
            (others_set (with_held (b ∷ []) left) (rest_others heads h x rest (λ g other. without_second g h b.number others other)) b.number (Some (b ∷ []))
            (λ g other. other_head g b.number others (other_heads g h (b.number ∷ others) other)) refl refl)
            (rest_shelves h rest) (λ d some. ap (λ s. data_block_at s d) (rest_store h rest))
      ]
    where
      rest : Message
      rest = take k (message_at a h) ++ drop (k + 1) (message_at a h)

  -- blocks are freed, and only what is held at some heads changes beside them
  leaves_freed : (heads : List ℕ) {old new : Arena} → AreFreed old new → Leaves heads a old → Leaves heads a new
  leaves_freed heads freed left = record {
    others = record {
      id = freed.id ∙ left.others.id;
      size = ap length freed.held ∙ left.others.size;
      held = λ h other. ap (λ xs. held_in xs h) freed.held ∙ left.others.held h other;
    };
    shelves = record {
      shelves = freed.shelves ∙ left.shelves.shelves;
      shelved_data = λ k e within. ap (λ xs. get_or xs (get_or (shelved_blocks a) k e).data_number no_data_block) freed.blocks ∙ left.shelves.shelved_data k e within;
      held_data = λ h other k e within. ap (λ xs. get_or xs (get_or (message_at a h) k e).data_number no_data_block) freed.blocks ∙ left.shelves.held_data h other k e within;
    };
  }

  pub leaves_freeb : (x : Arena) (h : ℕ) → Leaves (h ∷ head_given (option_map (token_of x) (freeb h a).0)) a (freeb h a).1
  leaves_freeb x h = of_blocks (message_at a h)
    where
      of_blocks : (m : Message) → Leaves (h ∷ head_given (option_map (token_of x) (freeb_from h a m).0)) a (freeb_from h a m).1
      of_blocks [] = leaves_same a (h ∷ [])
      of_blocks (b ∷ rest) = grind (arith, common_steps, leaves_freed, block_frees, rest_others, rest_shelves, rest_store)

  pub leaves_spent : (t : TokenValue) → Leaves (t.head ∷ []) a (with_token_spent a t)
  leaves_spent t =
      chosen (Leaves (t.head ∷ []) a) (has_token a t) (freemsg t.head a) a
      (leaves_freed (t.head ∷ []) (blocks_free (message_at a t.head) (without_held t.head a)) (leaves_one t.head None))
      (λ none. leaves_same a (t.head ∷ []))

-- nothing is held where a message was taken out
pub none_at : {X : Type 0} (xs : List (Option X)) (i : ℕ) → get_or (set xs i None) i None ≡ None
none_at [] i = refl
none_at (x ∷ xs) zero = refl
none_at (x ∷ xs) (suc i) = none_at xs i

-- the message of a token that is spent
pub spent_gone : (a : Arena) (t : TokenValue) → has_token a t ≡ true → held_at (with_token_spent a t) t.head ≡ None
spent_gone a t had =
    ap (λ x. held_at x t.head) (cond-true (has_token a t) (freemsg t.head a) a had)
    ∙ ap (λ (held : List (Option Message)). get_or held t.head None) (blocks_free (message_at a t.head) (without_held t.head a)).held ∙ none_at a.held t.head

-- of two messages that are joined, the second is gone
pub linkb_gone : (a : Arena) (h g : ℕ) → h ≢ g → held_at (linkb h g a) g ≡ None
linkb_gone a h g other =
    ap (λ (x : Arena). held_at x g) (cond-false (h == g) a (record a { held = chains_joined h g a.held }) (ne_eqb h g other))
    ∙ get_or-set_other (set a.held g None) h g _ None (λ same. other (sym same)) ∙ none_at a.held g

-- ---- calls that take data blocks, or alter one

module _ {a : Arena} (parted : IsParted a) where
  -- what something uses is in use
  named_taken : (d : ℕ) → 0 < references_to a d → IsTaken d a.store
  named_taken d some c =
      parted.free_data c d
      ∙ ap (λ b. one_if (nat_lt d (length a.store.blocks) && (class_of a.store d == c && b))) (ne_eqb (references_to a d) 0 (λ none. absurd (omega (arith, none, some))))
      ∙ neither (nat_lt d (length a.store.blocks)) (class_of a.store d == c)
    where
      neither : (b c : Bool) → one_if (b && (c && false)) ≡ 0
      neither true true = refl
      neither true false = refl
      neither false c = refl

  pub leaves_allocb : (size : ℕ) → Making a (allocb size a)
  leaves_allocb size = chosen (Making a) (fits_a_class size a.store.classes) (allocb_from a.free size a) (Err TooLarge) (from a.free) (λ large. tt)
    where
      from : (ns : List ℕ) → Making a (allocb_from ns size a)
      from [] = tt
      from (n ∷ ns) =
          elim (take_data size a.store) as (λ r. take_data size a.store ≡ r → Making a (held_new n ns a r)) [
            | Err why ↦ λ is. tt
            | Ok d ↦ λ is.
                let b = with_held (new_block n d ∷ []) (record (with_free_left ns a) { store = with_data_taken d a.store }) in
                leaves_named (others_one a b n _ refl refl) refl (λ e some. get_or-set_other a.store.blocks d e _ no_data_block (take_other size e a.store (named_taken e some) is))
          ] refl

  -- a message of new blocks over a store in which all data blocks in use are the same
  under_leaves : (bs : List Block) (s : DataStore) → ((d : ℕ) → 0 < references_to a d → data_block_at s d ≡ data_block_at a.store d) → Leaves ((held_under bs s a).0 ∷ []) a (held_under bs s a).1
  under_leaves bs s same =
      leaves_named (others_one a (held_under bs s a).1 (held_under bs s a).0 _ refl refl) refl same

  pub leaves_duplicated : (bs : List Block) → Making a (message_duplicated bs a)
  leaves_duplicated bs = grind (arith, common_steps, chosen, under_leaves)

  pub leaves_copied : (o : Option DataStore) (bs : List Block) → Making a (message_copied o bs a)
  leaves_copied o bs =
      chosen (Making a) (nat_lt (length a.free) (length bs)) (Err NoMblk) (answer_map (λ g. held_under g.0 g.1 a) (blocks_copied o bs a.store)) tt (λ enough.
      answered (λ (g : ℕ × Arena). Leaves (g.0 ∷ []) a g.1) (λ g. held_under g.0 g.1 a) (blocks_copied o bs a.store) (λ g made. under_leaves g.0 g.1 (λ d some.
      subst (λ r. IfOk r (λ (g : List Block × DataStore). data_block_at g.1 d ≡ data_block_at a.store d)) made (copies_leave o bs a.store d (named_taken d some)))))

  pub leaves_transfer : (other : Arena) (h : ℕ) → Making a (transfer other h a)
  leaves_transfer other h =
      chosen (Making a) (fits_classes other.store (message_at other h) a.store) (message_copied (Some other.store) (message_at other h) a) (Err TooLarge) (leaves_copied (Some other.store) (message_at other h)) (λ large. tt)

  pub leaves_pullupmsg : (h : ℕ) (n : ℤ) → Leaves (h ∷ []) a (value_after a (pullupmsg h n a))
  leaves_pullupmsg h n = leaves_after a (h ∷ []) (pullupmsg h n a) (asked (bytes_asked n (run_of a.store (message_at a h))) (message_at a h))
    where
      taken : (n : ℕ) (b : Block) (bs : Message) (d : ℕ) → take_data n a.store ≡ Ok d → Leaves (h ∷ []) a (with_front_pulled h n (b ∷ bs) a d)
      taken n b bs d is =
          let out = blocks_used_up (n - b.len) bs in
          let new : Arena = record a {
            store = store_with_front n (b ∷ bs) a.store d;
            held = set a.held h (Some (record b { data_number = d; offset = 0; len = n } ∷ blocks_left_over (n - b.len) bs));
          } in
          leaves_freed a (h ∷ []) (blocks_free out (with_reference_dropped b.data_number out new))
          (leaves_freed a (h ∷ []) (name_drops b.data_number out new)
          (leaves_named (others_one a new h _ refl refl) refl
          (λ e some. filled_other d e 0 (kind_of a.store b) (take n (bytes_of a.store (b ∷ bs))) a.store (take_other n e a.store (named_taken e some) is))))

      pulls : (n : ℕ) (m : Message) → Leaving {X = Unit {0}} (h ∷ []) a (pull h n m a)
      pulls n [] = tt
      pulls n (b ∷ bs) =
          let pulled : Given Arena (Unit {0}) = answer_map (λ d. (tt, with_front_pulled h n (b ∷ bs) a d)) (take_data n a.store) in
          chosen (Leaving {X = Unit {0}} (h ∷ []) a) (nat_lt (size_of (run_of a.store (b ∷ bs))) n) (Err Short) (if nat_le n b.len then Ok (tt, a) else pulled) tt (λ enough.
          chosen (Leaving {X = Unit {0}} (h ∷ []) a) (nat_le n b.len) (Ok (tt, a)) pulled (leaves_same a (h ∷ [])) (λ more.
          answered (λ (g : Unit {0} × Arena). Leaves (h ∷ []) a g.1) (λ d. (tt, with_front_pulled h n (b ∷ bs) a d)) (take_data n a.store) (taken n b bs)))

      asked : (o : Option ℕ) (m : Message) → Leaving {X = Unit {0}} (h ∷ []) a (pull_asked h o m a)
      asked None m = tt
      asked (Some n) m = pulls n m

-- a block is one of those that name its data block
pub naming_at : (m : Message) (k : ℕ) (b : Block) → slice_get m k ≡ Some b → 0 < count_by (uses_data b.data_number) m
naming_at [] k b is = absurd (none-some b is)
naming_at (c ∷ m) zero b is = grind (arith, common_steps, count_adds, one_if, eq-eqb, same_Some)
naming_at (c ∷ m) (suc k) b is = omega (arith, naming_at m k b is, (count_adds (uses_data b.data_number)).both (c ∷ []) m)

-- block k of the message held at h is this one, and alone uses its data block
pub record IsOwn (a : Arena) (h k : ℕ) (b : Block) : Type 0 where
  pub found : slice_get (message_at a h) k ≡ Some b
  pub alone : references_to a b.data_number ≤ 1

pub own_is : (a : Arena) (h k : ℕ) {b : Block} → own_block h k a ≡ Ok b → IsOwn a h k b
own_is a h k {b} is = of_place (slice_get (message_at a h) k) refl is
  where
    of_choice : (c : Block) (shared : Bool) → slice_get (message_at a h) k ≡ Some c → nat_lt 1 (references_to a c.data_number) ≡ shared → (if shared then Err Shared else Ok c) ≡ Ok b → IsOwn a h k b
    of_choice c true found many is = absurd cc
    of_choice c false found few is =
        let same : c ≡ b = cc in
        subst (IsOwn a h k) same (record { found = found; alone = ltb-false 1 (references_to a c.data_number) few })

    of_place : (o : Option Block) → slice_get (message_at a h) k ≡ o → and_then (if_unshared a) (ok_or o NoSuchBlock) ≡ Ok b → IsOwn a h k b
    of_place None none is = absurd cc
    of_place (Some c) some is = of_choice c (nat_lt 1 (references_to a c.data_number)) some refl is

module _ (a : Arena) (h k : ℕ) {b : Block} (own : own_block h k a ≡ Ok b) where
  held : held_at a h ≡ Some (message_at a h)
  held = of_message (held_at a h) refl
    where
      of_message : (o : Option Message) → held_at a h ≡ o → o ≡ Some (blocks_of o)
      of_message None none = absurd (none-some b (sym (ap (λ o. slice_get (blocks_of o) k) none) ∙ (own_is a h k own).found))
      of_message (Some m) some = refl

  module _ (s : DataStore) (same : (d : ℕ) → d ≢ b.data_number → data_block_at s d ≡ data_block_at a.store d) where
    -- what it leaves if its data block alone becomes another
    leaves_alone : (new : Arena) → new.store ≡ s → LeavesOthers (h ∷ []) a new → new.shelves ≡ a.shelves → Leaves (h ∷ []) a new
    leaves_alone new store others shelves =
        leaves_own others shelves h b.data_number (λ g other. other_head g h [] other) held (own_is a h k own).alone
        (naming_at (message_at a h) k b (own_is a h k own).found) (λ d other. ap (λ x. data_block_at x d) store ∙ same d other)

    pub leaves_with_store : Leaves (h ∷ []) a (record a { store = s })
    leaves_with_store = leaves_alone (record a { store = s }) refl (record { id = refl; size = refl; held = λ g other. refl }) refl

    -- and if the block, too, becomes another
    pub leaves_with_block : (c : Block) → Leaves (h ∷ []) a (with_block h k c (record a { store = s }))
    leaves_with_block c =
        leaves_alone (with_block h k c (record a { store = s })) refl (others_one a (with_block h k c (record a { store = s })) h _ refl refl) refl

-- a data block of a store becomes another
pub other_data : (s : DataStore) (d : ℕ) (x : DataBlock) (e : ℕ) → e ≢ d → data_block_at (record s { blocks = set s.blocks d x }) e ≡ data_block_at s e
other_data s d x e other = get_or-set_other s.blocks d e x no_data_block other
