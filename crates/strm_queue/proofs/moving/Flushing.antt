-- Flushing: messages of a shelf are freed from first to last.
use Rattle.std.proofs.Common.{Ok, ◌≡◌, ◌≢◌, ℕ, ◌+◌, ◌<◌, ◌≤◌, Bool, true, false, ◌&&◌, ◌==◌, List, [], ◌∷◌, ◌++◌, length, get_or, set, Option, Some, None, refl, sym, ap, ◌∙◌, subst, arith, if◌then◌else◌, length-append, get_or-set_same}
use Rattle.std.specs.Prelude.{count_by, filter, nat_le, not, option_map, slice_get}
use Rattle.std.specs.List.{All, flat_map, list_all}
use Rattle.std.proofs.lemmas.Bool.{and_from, and_parts, cases_eq, cond-false, cond-true, le-leb, leb-true, lt-leb, lt-ltb, not_from_false, not_from_true}
use Rattle.std.proofs.lemmas.Bool.Decides.{nat_tests}
use Rattle.std.proofs.lemmas.Grind.{common_steps, flat_map-append}
use Rattle.std.proofs.lemmas.List.{append-nil, append_assoc, set-get_or, set-set}
use Rattle.std.proofs.lemmas.List.Elements.{filter-append}
use Rattle.std.proofs.lemmas.Option.{none-some, same_Some}
use Rattle.strm_data.specs.declared.msg_type.MsgType.{MsgType}
use Rattle.strm_data.specs.DataStore.{DataBlock, DataStore, no_data_block, with_data_freed}
use Rattle.strm_links.specs.Rows.{IsApart, after, first, has}
use Rattle.strm_mblk.specs.declared.token.TokenValue.{TokenValue}
use Rattle.strm_mblk.specs.Arena.{Arena, IsParted, references_to, shelf_at, shelved_blocks, token_of, with_held, with_shelf}
use Rattle.strm_mblk.specs.Block.{Block, Message, head_of, uses_data, kind_of}
use Rattle.strm_mblk.specs.Frame.{IsSameData, LeavesOthers}
use Rattle.strm_mblk.specs.Calls.{Takes, itself}
use Rattle.strm_mblk.specs.Freeing.{with_token_spent, with_block_freed, with_blocks_freed}
use Rattle.strm_mblk.specs.Shelves.{head_block, heads_at, is_on, unshelve}
use Rattle.strm_mblk.proofs.Lists.{count_adds}
use Rattle.strm_mblk.proofs.arena.Counts.{shelf_moves}
use Rattle.strm_queue.specs.declared.flush.Flush.{Flush}
use Rattle.strm_queue.specs.declared.flush.Flush.TheVariants.{All as Every, Data}
use Rattle.strm_queue.specs.Ends.{first_of_rank, of_rank}
use Rattle.strm_queue.specs.Flow.{band_of_rank, is_of_band}
use Rattle.strm_queue.specs.Limits.{bands}
use Rattle.strm_queue.specs.Flushing.{messages_from_band}
use Rattle.strm_queue.specs.Rank.{is_ordered, rank_of}
use Rattle.strm_queue.specs.Flush.{carries_data, is_flushed, is_picked, with_freed}
use Rattle.strm_queue.specs.QueuedBlocks.{Agrees, AreMarksLawful, QueuesValue}
use Rattle.strm_queue.proofs.order.Ends.{of_rank-append, of_rank-refused}
use Rattle.strm_queue.proofs.order.Order.{around}
use Rattle.strm_queue.proofs.Shelf.{shelved_message_at, FirstParts, after-head, at_there, first_of, heads, unshelved}
use Rattle.strm_queue.proofs.Agreeing.{marks_left_lawful, marks_other, rank_of-same}
use Rattle.strm_mblk.proofs.pulling.Drained.{freed_held, freed_id}

-- ---- by the first block of a message

-- what a call reports of a message by its head is true of the message
pub head_told : {X : Type 0} (a : Arena) → IsParted a → (q : ℕ) (pre post : List Message) (m : Message) → shelf_at a q ≡ pre ++ m ∷ post → (h : ℕ) → head_of m ≡ h → (f : Block → X)
    → option_map f (slice_get m 0) ≡ option_map f (head_block a h)
head_told a parted q pre post m is h head f = ap (λ x. option_map f (slice_get x 0)) (sym (shelved_message_at a parted q pre post m is)) ∙ ap (λ n. option_map f (head_block a n)) head

module _ (s : DataStore) (m : Message) (kind : MsgType) (told : option_map (kind_of s) (slice_get m 0) ≡ Some kind) where
  first_kind : (m : Message) → option_map (kind_of s) (slice_get m 0) ≡ Some kind → (b : Block) × ((bs : List Block) × ((m ≡ b ∷ bs) × (kind_of s b ≡ kind)))
  first_kind [] told = absurd (none-some kind told)
  first_kind (b ∷ bs) told = (b, (bs, (refl, same_Some _ _ told)))

  -- whether a flush of data takes the message
  pub data_told : carries_data kind ≡ is_flushed s Data m
  data_told = let first = first_kind m told in ap carries_data (sym first.1.1.1) ∙ ap (is_flushed s Data) (sym first.1.1.0)

-- ---- what is freed keeps its data

free-blocks : (free : Bool) (d : ℕ) (s : DataStore) → (let t : DataStore = if free then with_data_freed d s else s in t.blocks) ≡ s.blocks
free-blocks true d s = refl
free-blocks false d s = refl

-- freeing blocks changes neither the data blocks' contents nor the shelves
pub freed_data : (bs : List Block) (a : Arena) → (with_blocks_freed bs a).store.blocks ≡ a.store.blocks
freed_data [] a = refl
freed_data (b ∷ bs) a = freed_data bs (with_block_freed b bs a) ∙ free-blocks (references_to a b.data_number + count_by (uses_data b.data_number) bs == 0) b.data_number a.store

pub freed_shelves : (bs : List Block) (a : Arena) → (with_blocks_freed bs a).shelves ≡ a.shelves
freed_shelves [] a = refl
freed_shelves (b ∷ bs) a = freed_shelves bs (with_block_freed b bs a)

-- ---- with the same data, messages rank alike, and are taken alike

module _ (s t : DataStore) (same : t.blocks ≡ s.blocks) where
  pub data_same : (bs : List Block) → All (IsSameData s t) bs
  data_same bs k b within = ap (λ (ds : List DataBlock). get_or ds (get_or bs k b).data_number no_data_block) same

  pub flushed_same : (flush : Flush) (m : Message) → is_flushed t flush m ≡ is_flushed s flush m
  flushed_same Every m = refl
  flushed_same Data [] = refl
  flushed_same Data (b ∷ bs) = ap (λ (ds : List DataBlock). carries_data (get_or ds b.data_number no_data_block).kind) same

  -- and the messages of a band begin at the same message
  pub from_band_same : (band : Option ℕ) (ms : List Message) → messages_from_band t band ms ≡ messages_from_band s band ms
  from_band_same None ms = refl
  from_band_same (Some band) [] = refl
  from_band_same (Some band) (m ∷ ms) = λ i. if band_of_rank (rank_of-same s t m (data_same m) i) == band then m ∷ ms else from_band_same (Some band) ms i

-- ---- where the walk goes on

-- P holds of the first of these, if there is one
abbrev pub starts : (Message → Type 0) → List Message → Type 0
starts P [] = Unit {0}
starts P (m ∷ ms) = P m

-- `rest` follows messages that are not picked, and picks its first message exactly if it takes it
pub record IsPassed (picked taken : Message → Bool) (ms rest : List Message) : Type 0 where
  pub mid : List Message
  pub is : ms ≡ mid ++ rest
  pub gone : filter picked mid ≡ []
  pub stay : filter (λ m. not (picked m)) mid ≡ mid
  pub begins : starts (λ m. picked m ≡ taken m) rest

module _ (picked taken : Message → Bool) (m : Message) (ms rest : List Message) where
  -- one more message that is not picked
  abbrev pub passed_more : (all : List Message) → all ≡ m ∷ ms → picked m ≡ false → IsPassed picked taken ms rest → IsPassed picked taken all rest
  passed_more all is off passed = record {
    mid = m ∷ passed.mid;
    is = is ∙ ap (λ xs. m ∷ xs) passed.is;
    gone = cond-false _ _ _ off ∙ passed.gone;
    stay = cond-true _ _ _ (not_from_false _ off) ∙ ap (λ xs. m ∷ xs) passed.stay;
    begins = passed.begins;
  }

-- messages that are passed add none that are picked
pub picked_passed : (picked taken : Message → Bool) (pre ms rest : List Message) (passed : IsPassed picked taken ms rest) → filter picked (pre ++ passed.mid) ≡ filter picked pre
picked_passed picked taken pre ms rest passed = filter-append picked pre passed.mid ∙ ap (λ xs. filter picked pre ++ xs) passed.gone ∙ append-nil (filter picked pre)

module _ (s : DataStore) (flush : Flush) where
  -- a flush of a band passes over what is ahead of it
  pub from_band_passed : (band : Option ℕ) (ms : List Message) → IsPassed (is_picked s band flush) (is_flushed s flush) ms (messages_from_band s band ms)
  from_band_passed None [] = record { mid = []; is = refl; gone = refl; stay = refl; begins = tt }
  from_band_passed None (m ∷ ms) = record { mid = []; is = refl; gone = refl; stay = refl; begins = refl }
  from_band_passed (Some band) [] = record { mid = []; is = refl; gone = refl; stay = refl; begins = tt }
  from_band_passed (Some band) (m ∷ ms) = by_band (is_of_band s band m) refl (from_band_passed (Some band) ms)
    where
      by_band : (here : Bool) → is_of_band s band m ≡ here → IsPassed (is_picked s (Some band) flush) (is_flushed s flush) ms (messages_from_band s (Some band) ms)
          → IsPassed (is_picked s (Some band) flush) (is_flushed s flush) (m ∷ ms) (if here then m ∷ ms else messages_from_band s (Some band) ms)
      by_band true here rest = record { mid = []; is = refl; gone = refl; stay = refl; begins = ap (λ b. b && is_flushed s flush m) here }
      by_band false other rest = passed_more _ _ m ms _ _ refl (ap (λ b. b && is_flushed s flush m) other) rest

module _ (s : DataStore) (band : ℕ) (low : band < bands) where
  module _ (r : ℕ) (other : band_of_rank r ≢ band) where
    -- if rank r is of another band, a rank up to r is of the band exactly if it is the band's number
    of_band-rank : (n : ℕ) → n ≤ r → (band_of_rank n == band) ≡ (n == band)
    of_band-rank n less = grind (arith, nat_tests)

    -- so the first message of the band is the first one of that rank
    first_from_band : (ms : List Message) → list_all (λ y. nat_le (rank_of s y) r) ms ≡ true → first_of_rank (rank_of s) band ms ≡ first (heads (messages_from_band s (Some band) ms))
    first_from_band [] all = refl
    first_from_band (y ∷ ys) all =
        by_rank (rank_of s y == band) (first_from_band ys parts.1)
        ∙ ap (λ (here : Bool). first (heads (if here then y ∷ ys else messages_from_band s (Some band) ys))) (sym (of_band-rank (rank_of s y) (leb-true (rank_of s y) r parts.0)))
      where
        parts : (nat_le (rank_of s y) r ≡ true) × (list_all (λ x. nat_le (rank_of s x) r) ys ≡ true)
        parts = and_parts (nat_le (rank_of s y) r) _ all

        by_rank : (here : Bool) → first_of_rank (rank_of s) band ys ≡ first (heads (messages_from_band s (Some band) ys))
            → first (heads (if here then y ∷ of_rank (rank_of s) band ys else of_rank (rank_of s) band ys)) ≡ first (heads (if here then y ∷ ys else messages_from_band s (Some band) ys))
        by_rank true rest = refl
        by_rank false rest = rest

  module _ (pre post : List Message) (m : Message) (ordered : is_ordered (rank_of s) (pre ++ m ∷ post) ≡ true) (other : band_of_rank (rank_of s m) ≢ band) where
    behind : list_all (λ y. nat_le (rank_of s y) (rank_of s m)) (m ∷ post) ≡ true
    behind = and_from (nat_le (rank_of s m) (rank_of s m)) _ (le-leb (rank_of s m) (rank_of s m) (omega arith)) (around (rank_of s) pre post m ordered).behind

    -- after a message of lower rank there is none of the band
    pub from_band-past : rank_of s m < band → None ≡ first (heads (messages_from_band s (Some band) (m ∷ post)))
    from_band-past less =
        sym (ap (λ ms. first (heads ms)) (of_rank-refused (rank_of s) (λ n. nat_le n (rank_of s m)) band (m ∷ post) behind (lt-leb band (rank_of s m) less)))
        ∙ first_from_band (rank_of s m) other (m ∷ post) behind

    -- after any other message the band begins with the first message of its rank
    pub from_band-first : band ≤ rank_of s m → first_of_rank (rank_of s) band (pre ++ m ∷ post) ≡ first (heads (messages_from_band s (Some band) (m ∷ post)))
    from_band-first most =
        ap (λ ms. first (heads ms))
        (of_rank-append (rank_of s) band pre (m ∷ post)
        ∙ ap (λ ms. ms ++ of_rank (rank_of s) band (m ∷ post)) (of_rank-refused (rank_of s) (nat_le (rank_of s m)) band pre (around (rank_of s) pre post m ordered).ahead (lt-leb (rank_of s m) band less)))
        ∙ first_from_band (rank_of s m) other (m ∷ post) behind
      where
        less : band < rank_of s m
        less = grind (arith, common_steps, cases_eq, lt-ltb)

-- ---- a message leaves its shelf and is freed

-- freeing blocks after others is freeing all of them, once their message has left its shelf
freed_behind : (bs m : List Block) (a : Arena) (shelves : List (List Message))
    → ((d : ℕ) → references_to a d ≡ references_to (record a { shelves = shelves }) d + count_by (uses_data d) m)
    → with_blocks_freed m (record (with_blocks_freed bs a) { shelves = shelves }) ≡ with_blocks_freed (bs ++ m) (record a { shelves = shelves })
freed_behind [] m a shelves names = refl
freed_behind (b ∷ bs) m a shelves names =
    freed_behind bs m (with_block_freed b bs a) shelves names
    ∙ ap (λ n. with_blocks_freed (bs ++ m) (record a { shelves = shelves; free = b.number ∷ a.free; store = if n == 0 then with_data_freed b.data_number a.store else a.store }))
    (omega (arith, names b.data_number, (count_adds (uses_data b.data_number)).both bs m))

module _ (a : Arena) (q : ℕ) (within : q < length a.shelves) (pre post : List Message) (x : Message) where
  -- the references of a data block, without those of one message
  names_less : (d : ℕ) → references_to (with_shelf q (pre ++ x ∷ post) a) d ≡ references_to (with_shelf q (pre ++ post) a) d + count_by (uses_data d) x
  names_less d =
      let adds = count_adds (uses_data d) in
      omega (
        arith,
        shelf_moves adds a q (pre ++ x ∷ post) within,
        shelf_moves adds a q (pre ++ post) within,
        ap (count_by (uses_data d)) (flat_map-append (λ (m : Message). m) pre (x ∷ post)),
        ap (count_by (uses_data d)) (flat_map-append (λ (m : Message). m) pre post),
        adds.both (flat_map (λ (m : Message). m) pre) (x ++ flat_map (λ (m : Message). m) post),
        adds.both x (flat_map (λ (m : Message). m) post),
        adds.both (flat_map (λ (m : Message). m) pre) (flat_map (λ (m : Message). m) post),
      )

  -- other blocks were freed before it
  freed_next : (bs : List Block) → with_blocks_freed x (with_shelf q (pre ++ post) (with_blocks_freed bs (with_shelf q (pre ++ x ∷ post) a))) ≡ with_blocks_freed (bs ++ x) (with_shelf q (pre ++ post) a)
  freed_next bs =
      let old : Arena = with_shelf q (pre ++ x ∷ post) a in
      let shelves : set (with_blocks_freed bs old).shelves q (pre ++ post) ≡ set a.shelves q (pre ++ post) =
      ap (λ xs. set xs q (pre ++ post)) (freed_shelves bs old) ∙ set-set a.shelves q (pre ++ x ∷ post) (pre ++ post) in
      ap (λ xs. with_blocks_freed x (record (with_blocks_freed bs old) { shelves = xs })) shelves
      ∙ freed_behind bs x old (set a.shelves q (pre ++ post)) names_less

-- the message with this head was taken off a shelf, and its token spent
pub record IsSpent (a : Arena) (q h : ℕ) (b : Arena) : Type 0 where
  pub taken : Arena
  pub token : TokenValue
  pub takes : Takes itself (Ok (h, unshelve q h a)) a taken (Ok token)
  pub spent_is : b ≡ with_token_spent taken token

module _ (a : Arena) (q h : ℕ) (b : Arena) (spends : IsSpent a q h b) (pre post : List Message) (x : Message) (is : shelf_at a q ≡ pre ++ x ∷ post) (head : head_of x ≡ h) (apart : IsApart (heads_at a q)) where
  given : spends.token ≡ token_of spends.taken h
  given = let ok = spends.takes.token in cc

  -- the message is held
  holds : spends.taken ≡ with_held x (with_shelf q (pre ++ post) a)
  holds = spends.takes.after ∙ ap (λ n. unshelve q n a) (sym head) ∙ unshelved a q pre post x is apart

  held_here : h < length a.held
  held_here = grind (arith, common_steps)

  -- it is free, and held messages are as before
  freed_alone : b ≡ with_blocks_freed x (with_shelf q (pre ++ post) a)
  freed_alone = grind (arith, common_steps, given, holds, held_here, set-set, set-get_or)

-- ---- the walk

-- What becomes of messages that left their shelf: they are freed or held. The data blocks keep their contents, and the shelves
-- stay.
pub record IsOffShelf (gone : List Message → Arena → Arena) : Type 0 where
  pub none : (a : Arena) → gone [] a ≡ a
  pub contents : (ms : List Message) (a : Arena) → (gone ms a).store.blocks ≡ a.store.blocks
  pub shelves : (ms : List Message) (a : Arena) → (gone ms a).shelves ≡ a.shelves

pub freed_off_shelf : IsOffShelf with_freed
freed_off_shelf = record { none = λ a. refl; contents = λ ms a. freed_data (flat_map (λ m. m) ms) a; shelves = λ ms a. freed_shelves (flat_map (λ m. m) ms) a }

-- At least k messages were passed, and those that are picked are gone. `at` is the head of the first message that was not passed;
-- it is picked exactly if it is taken.
pub record IsFlushing (gone : List Message → Arena → Arena) (picked taken : Message → Bool) (old : Arena) (q k : ℕ) (at : Option ℕ) (now : Arena) : Type 0 where
  pub pre : List Message
  pub post : List Message
  pub is : shelf_at old q ≡ pre ++ post
  pub many : k ≤ length pre
  pub behind : at ≡ first (heads post)
  pub begins : starts (λ m. picked m ≡ taken m) post
  pub arena : now ≡ gone (filter picked pre) (with_shelf q (filter (λ m. not (picked m)) pre ++ post) old)

module _ (gone : List Message → Arena → Arena) (off : IsOffShelf gone) (picked taken : Message → Bool) (old : Arena) (q : ℕ) (within : q < length old.shelves) where
  abbrev stays : Message → Bool
  stays m = not (picked m)

  -- k messages were passed, and then more that are not picked
  unfoldable pub flushing_on : (k : ℕ) (now : Arena) (pre post : List Message) → shelf_at old q ≡ pre ++ post
      → now ≡ gone (filter picked pre) (with_shelf q (filter stays pre ++ post) old)
      → (at : Option ℕ) (rest : List Message) (passed : IsPassed picked taken post rest) → k ≤ length pre + length passed.mid → at ≡ first (heads rest) → IsFlushing gone picked taken old q k at now
  flushing_on k now pre post is arena at rest passed many behind =
      let go = picked_passed picked taken pre post rest passed in
      let stay : filter stays (pre ++ passed.mid) ++ rest ≡ filter stays pre ++ post =
      ap (λ ms. ms ++ rest) (filter-append stays pre passed.mid ∙ ap (λ ms. filter stays pre ++ ms) passed.stay)
      ∙ append_assoc (filter stays pre) passed.mid rest ∙ ap (λ ms. filter stays pre ++ ms) (sym passed.is) in
      record {
        pre = pre ++ passed.mid;
        post = rest;
        is = is ∙ ap (λ ms. pre ++ ms) passed.is ∙ sym (append_assoc pre passed.mid rest);
        many = omega (arith, many, length-append pre passed.mid);
        behind = behind;
        begins = passed.begins;
        arena = arena ∙ sym (λ i. gone (go i) (with_shelf q (stay i) old));
      }

  unfoldable pub flushing_none : (at : Option ℕ) (rest : List Message) → IsPassed picked taken (shelf_at old q) rest → at ≡ first (heads rest) → IsFlushing gone picked taken old q 0 at old
  flushing_none at rest passed behind =
      flushing_on 0 old [] (shelf_at old q) refl (sym (off.none (with_shelf q (shelf_at old q) old) ∙ ap (λ xs. let a : Arena = record old { shelves = xs } in a) (set-get_or old.shelves q []))) at rest passed (omega arith) behind

  module _ (k : ℕ) (at : Option ℕ) (now : Arena) (walk : IsFlushing gone picked taken old q k at now) where
    -- the store has the data that it had
    pub flushing_data : now.store.blocks ≡ old.store.blocks
    flushing_data = ap (λ (a : Arena). a.store.blocks) walk.arena ∙ off.contents (filter picked walk.pre) (with_shelf q (filter stays walk.pre ++ walk.post) old)

    flushing_shelves : now.shelves ≡ set old.shelves q (filter stays walk.pre ++ walk.post)
    flushing_shelves = ap (λ (a : Arena). a.shelves) walk.arena ∙ off.shelves (filter picked walk.pre) (with_shelf q (filter stays walk.pre ++ walk.post) old)

    flushing_is : shelf_at now q ≡ filter stays walk.pre ++ walk.post
    flushing_is = ap (λ xs. get_or xs q []) flushing_shelves ∙ get_or-set_same old.shelves q (filter stays walk.pre ++ walk.post) [] within

    module _ (h : ℕ) (some : at ≡ Some h) where
      -- the first message that was not passed
      pub next : FirstParts h walk.post
      next = first_of h walk.post (sym walk.behind ∙ some)

      -- it is picked exactly if it is taken
      pub next_taken : picked next.at ≡ taken next.at
      next_taken = subst (starts (λ m. picked m ≡ taken m)) next.is walk.begins

      pub next_is : shelf_at now q ≡ filter stays walk.pre ++ next.at ∷ next.post
      next_is = flushing_is ∙ ap (λ ms. filter stays walk.pre ++ ms) next.is

      pub next_there : is_on now q h ≡ true
      next_there = ap (λ ms. has h (heads ms)) next_is ∙ at_there h (filter stays walk.pre) next.post next.at next.head

      module _ (apart : IsApart (heads_at now q)) where
        -- the message after it
        pub behind_next : (o : Option ℕ) → o ≡ after h (heads_at now q) → o ≡ first (heads next.post)
        behind_next o o_is = grind (arith, common_steps, heads, next_is, next, after-head)

        module _ (o : Option ℕ) (rest : List Message) (passed : IsPassed picked taken next.post rest) (o_is : o ≡ first (heads rest)) where
          -- it stays
          unfoldable pub flushing_kept : picked next.at ≡ false → IsFlushing gone picked taken old q (k + 1) o now
          flushing_kept not_picked =
              flushing_on (k + 1) now walk.pre walk.post walk.is walk.arena o rest
              (passed_more picked taken next.at next.post rest walk.post next.is not_picked passed) (omega (arith, walk.many)) o_is

          -- it is gone, if the others that are gone are so without it
          unfoldable pub flushing_gone : picked next.at ≡ true → (new : Arena)
              → new ≡ gone (filter picked walk.pre ++ next.at ∷ []) (with_shelf q (filter stays walk.pre ++ next.post) old) → IsFlushing gone picked taken old q (k + 1) o new
          flushing_gone is_picked new arena =
              let stay : filter stays (walk.pre ++ next.at ∷ []) ≡ filter stays walk.pre =
              filter-append stays walk.pre (next.at ∷ []) ∙ ap (λ ms. filter stays walk.pre ++ ms) (cond-false _ _ _ (not_from_true _ is_picked)) ∙ append-nil (filter stays walk.pre) in
              let go : filter picked (walk.pre ++ next.at ∷ []) ≡ filter picked walk.pre ++ next.at ∷ [] =
              filter-append picked walk.pre (next.at ∷ []) ∙ ap (λ ms. filter picked walk.pre ++ ms) (cond-true _ _ _ is_picked) in
              flushing_on (k + 1) new (walk.pre ++ next.at ∷ []) next.post (walk.is ∙ ap (λ ms. walk.pre ++ ms) next.is ∙ sym (append_assoc walk.pre (next.at ∷ []) next.post))
              (arena ∙ sym (λ i. gone (go i) (with_shelf q (stay i ++ next.post) old)))
              o rest passed (omega (arith, length-append walk.pre (next.at ∷ []), walk.many)) o_is

-- the message at the walk's head is freed
module _ (picked taken : Message → Bool) (old : Arena) (q : ℕ) (within : q < length old.shelves) (k : ℕ) (at : Option ℕ) (now : Arena) (walk : IsFlushing with_freed picked taken old q k at now)
    (h : ℕ) (some : at ≡ Some h) (apart : IsApart (heads_at now q)) where
  abbrev freed_next_one : FirstParts h walk.post
  freed_next_one = next with_freed freed_off_shelf picked taken old q within k at now walk h some

  pub flushing_freed : (o : Option ℕ) (rest : List Message) (passed : IsPassed picked taken freed_next_one.post rest) → o ≡ first (heads rest) → picked freed_next_one.at ≡ true → (new : Arena) → IsSpent now q h new
      → IsFlushing with_freed picked taken old q (k + 1) o new
  flushing_freed o rest passed o_is is_picked new spends =
      let one = freed_next_one in
      let ahead = filter (λ m. not (picked m)) walk.pre in
      let freed = flat_map (λ m. m) (filter picked walk.pre) in
      let blocks : flat_map (λ m. m) (filter picked walk.pre ++ one.at ∷ []) ≡ freed ++ one.at =
      flat_map-append (λ (m : Message). m) (filter picked walk.pre) (one.at ∷ []) ∙ ap (λ bs. freed ++ bs) (append-nil one.at) in
      flushing_gone with_freed freed_off_shelf picked taken old q within k at now walk h some apart o rest passed o_is is_picked new
      (freed_alone now q h new spends ahead one.post one.at (next_is with_freed freed_off_shelf picked taken old q within k at now walk h some) one.head apart
      ∙ ap (λ a. with_blocks_freed one.at (with_shelf q (ahead ++ one.post) a)) walk.arena
      ∙ ap (λ ms. with_blocks_freed one.at (with_shelf q (ahead ++ one.post) (with_blocks_freed freed (with_shelf q (ahead ++ ms) old)))) one.is
      ∙ freed_next old q within ahead one.post one.at freed
      ∙ ap (λ bs. with_blocks_freed bs (with_shelf q (ahead ++ one.post) old)) (sym blocks))

-- ---- the queues, where one of them was flushed

-- wanted marks of other queues stay lawful
pub flushed_flags : (gone : List Message → Arena → Arena) → IsOffShelf gone → (v : QueuesValue) (a : Arena) → Agrees v a → (q : ℕ) (go stay : List Message) (b : Arena)
    → b ≡ gone go (with_shelf q stay a) → (p : ℕ) → p ≢ q → AreMarksLawful v.state b p
flushed_flags gone off v a agrees q go stay b is p other =
    marks_left_lawful v (with_shelf q stay a) b (ap (λ (x : Arena). x.shelves) is ∙ off.shelves go (with_shelf q stay a))
    (data_same a.store b.store (ap (λ (x : Arena). x.store.blocks) is ∙ off.contents go (with_shelf q stay a)) (shelved_blocks (with_shelf q stay a))) p
    (marks_other v.state a q stay (with_shelf q stay a) refl refl p other (agrees.marks p))

-- ---- held messages

-- freeing blocks of messages that are not held changes no held message
pub others_freed : (a b : Arena) (bs : List Block) → b.id ≡ a.id → b.held ≡ a.held → LeavesOthers [] a (with_blocks_freed bs b)
others_freed a b bs id held = grind (arith, common_steps, freed_id, freed_held)
