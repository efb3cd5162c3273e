-- What the calls that put a message on a queue do, by the model.
use Rattle.std.proofs.Common.{◌≡◌, ℕ, ◌≤◌, Bool, true, false, ◌&&◌, ◌++◌, inl, inr, List, length, take, drop, Option, None, Result, Ok, Err, refl, sym, ap, ◌∙◌, subst, if◌then◌else◌, ◌≢◌, suc, ◌<◌, [], ◌∷◌, Some, arith, length-append}
use Rattle.std.proofs.lemmas.Grind.{common_steps}
use Rattle.std.specs.Prelude.{nat_lt, not, ok_or, slice_get}
use Rattle.std.proofs.lemmas.Bool.{cases_Bool, cond-true, cond-false, or_right}
use Rattle.std.proofs.lemmas.List.{length-map, take-append-drop, set-set}
use Rattle.std.proofs.lemmas.Option.{slice_get_past}
use Rattle.strm_links.specs.Rows as rows
use Rattle.strm_links.specs.Rows.{IsApart}
use Rattle.strm_links.proofs.lists.OneList.{has-append, has_head}
use Rattle.strm_data.specs.declared.refusal.Refusal.{Refusal}
use Rattle.strm_data.specs.declared.refusal.Refusal.TheVariants.{BadOrder, NoSuchPlace}
use Rattle.strm_mblk.specs.declared.token.TokenValue.{TokenValue}
use Rattle.strm_mblk.specs.Arena.{Arena, IsParted, has, message_at, shelf_at, census_of, held_at, with_shelf, without_held}
use Rattle.strm_mblk.specs.Block.{Message, head_of}
use Rattle.strm_mblk.specs.Given.{Given, and_then, value_after}
use Rattle.strm_mblk.specs.Messages.{put_before_head}
use Rattle.strm_mblk.specs.Shelves.{heads_at, is_on, shelve}
use Rattle.strm_mblk.proofs.arena.Stands.{heads_apart}
use Rattle.strm_queue.specs.declared.queues.putting.BurstPlace.{BurstPlace}
use Rattle.strm_queue.specs.Ends.{last_of_rank}
use Rattle.strm_queue.specs.Flow.{QueueState, enabled_where, enables_inserted, enables_put, enables_put_back, flags_at, spec_at, with_enabled}
use Rattle.strm_queue.specs.HeadCalls.{insq_before, place_before}
use Rattle.strm_queue.specs.QueueCalls.{IsPlaceOn, has_queue, insq, flags_of, messages_on, putbq, putq, rank_put, with_put, with_state}
use Rattle.strm_queue.specs.QueuedBlocks.{AreInOrder, QueuedBlocks, QueuesValue, queued_blocks}
use Rattle.strm_queue.specs.Rank.{as_queued, is_ordered, put_ahead, put_at, put_behind, rank_of}
use Rattle.strm_queue.proofs.Shelf.{first_at, heads, place_missing, place_there, placed-between}
use Rattle.std.specs.List.{All, flat_map}
use Rattle.strm_mblk.specs.BlockCalls.{with_band, setband}
use Rattle.strm_mblk.proofs.Lists.{flat_map-set_adds, length_adds}
use Rattle.strm_mblk.proofs.arena.Counts.{had_message, held_within}
use Rattle.strm_queue.specs.Limits.{high_rank}
use Rattle.strm_queue.proofs.order.Ends.{last_of_rank-has, last_put}
use Rattle.strm_queue.proofs.order.Places.{after_there, placed_behind-some}
use Rattle.strm_queue.proofs.order.Order.{head_of-queued, low_queued, rank_of-queued}
use Rattle.strm_queue.proofs.Agreeing.{enabled_alone}

module _ (v : QueuesValue) (a : Arena) (q h : ℕ) (there : nat_lt q (length v.state.specs) ≡ true) where
  -- the message, as a queue has it
  abbrev m : Message
  m = as_queued a.store (message_at a h)

  abbrev both : QueuedBlocks
  both = queued_blocks v a

  -- the queue has these messages, and is enabled if `so` is true
  abbrev put : Bool → List Message → QueuedBlocks
  put so ms = with_state (enabled_where so q) (with_put q h ms both)

  -- what is left once the message joined the queue, which may be enabled
  pub put_together : (w x : QueuesValue) (b : Arena) (so : Bool) (ms : List Message) → w.state ≡ v.state → b ≡ with_shelf q ms (without_held h a) → x ≡ record w { state = enabled_where so q w.state } → queued_blocks x b ≡ put so ms
  put_together w x b so ms state arena is = ap (λ (y : QueuesValue). queued_blocks y b) is ∙ (λ i. record { queues = enabled_where so q (state i); arena = arena i })

  -- `putq` puts the message after its equals
  pub putq_after : (so : Bool) (ms : List Message) → so ≡ enables_put (flags_of both q) (rank_put h both) → ms ≡ put_behind (rank_of a.store) m (shelf_at a q) → put so ms ≡ value_after both (putq q h both)
  putq_after so ms enables is = (λ i. put (enables i) (is i)) ∙ sym (ap (value_after both) (cond-true _ _ _ there))

  -- `putbq` puts it before its equals
  pub putbq_after : (so : Bool) (ms : List Message) → so ≡ enables_put_back (flags_of both q) (rank_put h both) → ms ≡ put_ahead (rank_of a.store) m (shelf_at a q) → put so ms ≡ value_after both (putbq q h both)
  putbq_after so ms enables is = (λ i. put (enables i) (is i)) ∙ sym (ap (value_after both) (cond-true _ _ _ there))

  -- ---- `insq` puts a message at a place

  module _ (k : ℕ) (few : k ≤ length (shelf_at a q)) (parted : IsParted a) (before : Option ℕ) (at : before ≡ slice_get (heads_at a q) k) where
    placed_at : put_before_head head_of before m (shelf_at a q) ≡ put_at k m (shelf_at a q)
    placed_at =
        let ms = shelf_at a q in
        let whole = take-append-drop k ms in
        (λ i. put_before_head head_of ((at ∙ sym (first_at ms k)) i) m (sym whole i))
        ∙ placed-between m (take k ms) (drop k ms) (subst (λ xs. IsApart (heads xs)) (sym whole) (heads_apart a parted q))

    abbrev inserted : QueuedBlocks
    inserted = put (enables_inserted (flags_of both q)) (put_at k m (shelf_at a q))

    -- the place exists, so only the order decides
    insq_there : insq q k h both ≡ (if is_ordered (rank_of a.store) (put_at k m (shelf_at a q)) then Ok (tt, inserted) else Err BadOrder)
    insq_there = grind (arith, common_steps)

    pub insq_refused : is_ordered (rank_of a.store) (put_before_head head_of before m (shelf_at a q)) ≡ false → insq q k h both ≡ Err BadOrder
    insq_refused not = insq_there ∙ cond-false _ _ _ (sym (ap (is_ordered (rank_of a.store)) placed_at) ∙ not)

    module _ (ordered : is_ordered (rank_of a.store) (put_before_head head_of before m (shelf_at a q)) ≡ true) where
      pub insq_given : insq q k h both ≡ Ok (tt, inserted)
      insq_given = insq_there ∙ cond-true _ _ _ (sym (ap (is_ordered (rank_of a.store)) placed_at) ∙ ordered)

      pub insq_after : (so : Bool) → so ≡ enables_inserted (flags_of both q) → put so (put_before_head head_of before m (shelf_at a q)) ≡ value_after both (insq q k h both)
      insq_after so enables = (λ i. put (enables i) (placed_at i)) ∙ sym (ap (value_after both) insq_given)

-- ---- `insq_before` puts a message before one with a head

-- the place before the message with this head, or the last one
pub record IsPlaceBefore (v : QueuedBlocks) (q : ℕ) (before : Option ℕ) : Type 0 where
  pub place : ℕ
  pub found : place_before v q before ≡ Ok place
  pub few : place ≤ length (messages_on v q)
  pub at : before ≡ slice_get (heads_at v.arena q) place

pub placed_before : (v : QueuedBlocks) (q : ℕ) (before : Option ℕ) → ((h : ℕ) → before ≡ Some h → is_on v.arena q h ≡ true) → IsPlaceBefore v q before
placed_before v q None there = record {
  place = length (messages_on v q);
  found = refl;
  few = omega arith;
  at = sym (slice_get_past (heads_at v.arena q) (length (messages_on v q)) (omega (arith, length-map (messages_on v q) head_of)));
}
placed_before v q (Some h) there =
    let placed = place_there h (messages_on v q) (there h refl) in
    record { place = placed.place; found = ap {B = Result ℕ Refusal} (λ o. ok_or o NoSuchPlace) placed.found; few = placed.few; at = sym placed.at }

module _ (v : QueuedBlocks) (q h : ℕ) (before : Option ℕ) (there : has_queue v q ≡ true) where
  pub insq_before_is : (k : ℕ) → place_before v q before ≡ Ok k → insq_before q before h v ≡ insq q k h v
  insq_before_is k is = cond-true _ _ _ there ∙ ap (and_then (λ n. insq q n h v)) is

  -- no message of the queue has the head
  pub insq_before_missing : (x : ℕ) → before ≡ Some x → is_on v.arena q x ≡ false → insq_before q before h v ≡ Err NoSuchPlace
  insq_before_missing x is absent =
      cond-true _ _ _ there
      ∙ ap (λ b. and_then (λ n. insq q n h v) (place_before v q b)) is
      ∙ ap {B = Given QueuedBlocks (Unit {0})} (λ o. and_then (λ n. insq q n h v) (ok_or o NoSuchPlace)) (place_missing x (messages_on v q) absent)

-- ---- a message is put on a shelf

module _ (a : Arena) (q : ℕ) (before : Option ℕ) (h : ℕ) where
  -- the arena once the message held at h is on shelf q
  abbrev shelved : Arena
  shelved = with_shelf q (put_before_head head_of before (as_queued a.store (message_at a h)) (shelf_at a q)) (without_held h a)

  -- a high priority message gets band 0 first
  pub shelve_high : (m : Message) → held_at a h ≡ Some m → as_queued a.store (message_at a h) ≡ with_band 0 (message_at a h) → shelve q before h (setband h 0 a) ≡ shelved
  shelve_high m held high = grind (arith, common_steps, held_within, set-set)

  -- any other message goes there unchanged
  pub shelve_low : rank_of a.store (message_at a h) ≢ high_rank → shelve q before h a ≡ shelved
  shelve_low low = λ i. with_shelf q (put_before_head head_of before (sym (low_queued a.store (message_at a h) low) i) (shelf_at a q)) (without_held h a)

-- if each message has a block, messages are at most as many as their blocks
few_messages : (ms : List Message) → All (λ m. 0 < length m) ms → length ms ≤ length (flat_map (λ m. m) ms)
few_messages [] some = omega arith
few_messages (x ∷ xs) some =
    omega (arith, some 0 x (omega arith), few_messages xs (λ k d within. some (suc k) d (omega (arith, within))), length-append x (flat_map (λ m. m) xs))

-- a shelf has at most as many messages as shelves have blocks
pub few_on_shelf : (a : Arena) → IsParted a → (q n : ℕ) → q < length a.shelves → (census_of a).queued ≤ n → length (shelf_at a q) ≤ n
few_on_shelf a parted q n within few =
    omega (arith, few, few_messages (shelf_at a q) (parted.chains.shelved q), flat_map-set_adds length_adds (flat_map (λ x. x)) a.shelves q [] [] within)

-- ---- a burst

-- a held message begins with its token's head, also as the queue has it
head_held : (a : Arena) → IsParted a → (t : TokenValue) → has a t ≡ true → head_of (message_at a t.head) ≡ t.head
head_held a parted t had = grind (arith, common_steps, had_message)

pub head_put : (a : Arena) → IsParted a → (t : TokenValue) → has a t ≡ true → head_of (as_queued a.store (message_at a t.head)) ≡ t.head
head_put a parted t had = head_of-queued a.store (message_at a t.head) ∙ head_held a parted t had

-- one that is put after its equals is the last of its rank
pub put_last : (a b : Arena) → IsParted a → (q r : ℕ) (t : TokenValue) → has a t ≡ true → b.store ≡ a.store → shelf_at b q ≡ put_behind (rank_of a.store) (as_queued a.store (message_at a t.head)) (shelf_at a q)
    → r ≡ rank_of a.store (message_at a t.head) → last_of_rank (rank_of b.store) r (shelf_at b q) ≡ Some t.head
put_last a b parted q r t had store is rank =
    let m = as_queued a.store (message_at a t.head) in
    let same : r ≡ rank_of a.store m = rank ∙ sym (rank_of-queued a.store (message_at a t.head)) in
    (λ i. last_of_rank (rank_of (store i)) (same i) (is i)) ∙ last_put (rank_of a.store) m (shelf_at a q) ∙ ap Some (head_put a parted t had)

-- the place of a burst's next message
module _ (p : BurstPlace) (q : ℕ) (v : QueuesValue) (a : Arena) (in_order : AreInOrder v a) (parted : IsParted a) (placed : IsPlaceOn p q (queued_blocks v a)) where
  -- the message after it is on the queue
  pub burst_there : (x : ℕ) → p.before ≡ Some x → is_on a q x ≡ true
  burst_there x some =
      after_there placed.end x (shelf_at a q) (heads_apart a parted q) (last_of_rank-has (rank_of a.store) placed.end p.rank (shelf_at a q) placed.last) (sym placed.before ∙ some)

  -- a message of the rank goes there, after its equals
  pub burst_place : (h : ℕ) → p.rank ≡ rank_of a.store (message_at a h)
      → put_before_head head_of p.before (as_queued a.store (message_at a h)) (shelf_at a q) ≡ put_behind (rank_of a.store) (as_queued a.store (message_at a h)) (shelf_at a q)
  burst_place h rank =
      let m = as_queued a.store (message_at a h) in
      ap (λ o. put_before_head head_of o m (shelf_at a q)) placed.before
      ∙ placed_behind-some (rank_of a.store) (shelf_at a q) (in_order.ordered q) (heads_apart a parted q) p.rank p.rank placed.end (omega arith) placed.last (λ x least less. absurd (omega (arith, least, less)))
      m (rank_of-queued a.store (message_at a h) ∙ sym rank)

and_off : (b : Bool) → (b && false) ≡ false
and_off true = refl
and_off false = refl

-- a queue that is enabled is not enabled again
enabled_twice : (so : Bool) (q : ℕ) (s : QueueState) → enabled_where so q (enabled_where so q s) ≡ enabled_where so q s
enabled_twice false q s = refl
enabled_twice true q s =
    elim (cases_Bool ((spec_at s.specs q).service && not (rows.has q s.run))) [
      | inl goes ↦
          let is : with_enabled q s ≡ record s { run = s.run ++ q ∷ [] } = cond-true _ _ _ goes in
          let there : rows.has q (s.run ++ q ∷ []) ≡ true = has-append q s.run (q ∷ []) ∙ or_right (rows.has q s.run) (rows.has q (q ∷ [])) (has_head q q [] refl) in
          ap (with_enabled q) is ∙ cond-false _ _ _ ((λ i. (spec_at s.specs q).service && not (there i)) ∙ and_off (spec_at s.specs q).service) ∙ sym is
      | inr stays ↦ ap (with_enabled q) (cond-false _ _ _ stays)
    ]

-- so another message of the rank enables it no more
pub enabled_still : (q r : ℕ) (s t : QueueState) → t ≡ enabled_where (enables_put (flags_at s q) r) q s → enabled_where (enables_put (flags_at t q) r) q t ≡ t
enabled_still q r s t is =
    let so = enables_put (flags_at s q) r in
    let flags : flags_at t q ≡ flags_at s q = ap (λ (x : QueueState). flags_at x q) (is ∙ enabled_alone so q s) in
    (λ i. enabled_where (enables_put (flags i) r) q (is i)) ∙ enabled_twice so q s ∙ sym is
