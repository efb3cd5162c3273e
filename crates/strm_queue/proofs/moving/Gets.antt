-- What the calls that take a message off a queue do, by the model.
use Rattle.std.proofs.Common.{arith, ◌≡◌, ◌≢◌, ℕ, false, ◌+◌, true, List, [], ◌∷◌, ◌++◌, length, take, drop, Option, Some, None, Result, Ok, Err, refl, sym, ap, ◌∙◌}
use Rattle.std.proofs.lemmas.Grind.{common_steps}
use Rattle.std.specs.Prelude.{nat_lt, ok_or, option_map, slice_get}
use Rattle.std.proofs.lemmas.Bool.{cond-true}
use Rattle.std.proofs.lemmas.List.{take-append-drop}
use Rattle.std.proofs.lemmas.Option.{none-some, same_Some, slice_get-map}
use Rattle.strm_data.specs.declared.refusal.Refusal.{Refusal}
use Rattle.strm_data.specs.declared.refusal.Refusal.TheVariants.{NoSuchPlace}
use Rattle.strm_links.specs.Chains.{without_place}
use Rattle.strm_links.specs.Rows.{first}
use Rattle.strm_mblk.specs.Arena.{Arena, IsParted, shelf_at, with_held, with_shelf}
use Rattle.strm_mblk.specs.Block.{Message, head_of}
use Rattle.strm_mblk.specs.Given.{Given, and_then, value_after}
use Rattle.strm_mblk.specs.Shelves.{heads_at, shelf_of, unshelve}
use Rattle.strm_mblk.proofs.Lists.{drop_from}
use Rattle.strm_mblk.proofs.arena.Stands.{heads_apart}
use Rattle.strm_queue.specs.Flow.{with_read}
use Rattle.strm_queue.specs.HeadCalls.{place_of, rmvq_head}
use Rattle.strm_queue.specs.QueueCalls.{getq, get_at, get_first, messages_on, rmvq, with_queue_settled, with_got, with_state}
use Rattle.strm_queue.specs.QueueLooks.{queue_of}
use Rattle.strm_queue.specs.QueuedBlocks.{Agrees, AreMarksLawful, QueuedBlocks, QueuesValue, queued_blocks}
use Rattle.strm_queue.proofs.Shelf.{shelf_has, FirstParts, IsPlacedAt, first_of, place_there, unshelved}

module _ (v : QueuesValue) (a : Arena) (agrees : Agrees v a) (parted : IsParted a) (q : ℕ) (there : nat_lt q (length v.state.specs) ≡ true) (h : ℕ) where
  abbrev both : QueuedBlocks
  both = queued_blocks v a

  -- the message with this head was taken off its queue
  pub record IsGot (w : QueuesValue) (b : Arena) : Type 0 where
    pub state : w.state ≡ v.state
    pub arena : b ≡ unshelve q h a

  module _ (pre post : List Message) (m : Message) (is : shelf_at a q ≡ pre ++ m ∷ post) (head : head_of m ≡ h) (w : QueuesValue) (b : Arena) (got : IsGot w b) where
    arena_is : b ≡ with_held m (with_shelf q (pre ++ post) a)
    arena_is = got.arena ∙ ap (λ n. unshelve q n a) (sym head) ∙ unshelved a q pre post m is (heads_apart a parted q)

    got_together : queued_blocks w b ≡ with_got q m (pre ++ post) both
    got_together = λ i. record { queues = got.state i; arena = arena_is i }

  -- wanted marks of other queues stay lawful
  pub got_others : (w : QueuesValue) (b : Arena) → IsGot w b → (p : ℕ) → p ≢ q → AreMarksLawful w.state b p
  got_others w b got p other = grind (arith, common_steps)

  -- ---- the first one

  module _ (some : first (heads_at a q) ≡ Some h) where
    pub first_here : FirstParts h (shelf_at a q)
    first_here = first_of h (shelf_at a q) some

    abbrev first_got : QueuedBlocks
    first_got = with_state (with_read q false) (with_queue_settled q (with_got q first_here.at first_here.post both))

    pub getq_given : getq q both ≡ Ok (Some h, first_got)
    getq_given = cond-true _ _ _ there ∙ ap (λ ms. get_first q ms both) first_here.is ∙ ap (λ n. Ok (Some n, first_got)) first_here.head

    module _ (w : QueuesValue) (b : Arena) (got : IsGot w b) where
      pub getq_after : with_state (with_read q false) (with_queue_settled q (queued_blocks w b)) ≡ value_after both (getq q both)
      getq_after = ap (λ x. with_state (with_read q false) (with_queue_settled q x)) (got_together [] first_here.post first_here.at first_here.is first_here.head w b got) ∙ sym (ap (value_after both) getq_given)

  -- ---- one at a place

  module _ (k : ℕ) (some : slice_get (heads_at a q) k ≡ Some h) where
    -- the message at a place, by its head
    at_place : (o : Option Message) → option_map head_of o ≡ Some h → (m : Message) × ((o ≡ Some m) × (head_of m ≡ h))
    at_place None none = absurd (none-some h none)
    at_place (Some m) some = (m, (refl, same_Some _ _ some))

    pub here : (m : Message) × ((slice_get (shelf_at a q) k ≡ Some m) × (head_of m ≡ h))
    here = at_place (slice_get (shelf_at a q) k) (sym (slice_get-map head_of (shelf_at a q) k) ∙ some)

    parts_here : shelf_at a q ≡ take k (shelf_at a q) ++ here.0 ∷ drop (k + 1) (shelf_at a q)
    parts_here = sym (take-append-drop k (shelf_at a q)) ∙ ap (λ ms. take k (shelf_at a q) ++ ms) (drop_from (shelf_at a q) k here.0 here.1.0)

    abbrev one_got : QueuedBlocks
    one_got = with_queue_settled q (with_got q here.0 (without_place k (shelf_at a q)) both)

    pub rmvq_given : rmvq q k both ≡ Ok (h, one_got)
    rmvq_given = cond-true _ _ _ there ∙ ap (λ o. get_at q k o both) here.1.0 ∙ ap (λ n. Ok (n, one_got)) here.1.1

    module _ (w : QueuesValue) (b : Arena) (got : IsGot w b) where
      pub rmvq_after : with_queue_settled q (queued_blocks w b) ≡ value_after both (rmvq q k both)
      rmvq_after = ap (with_queue_settled q) (got_together (take k (shelf_at a q)) (drop (k + 1) (shelf_at a q)) here.0 parts_here here.1.1 w b got) ∙ sym (ap (value_after both) rmvq_given)

-- ---- one by its head

module _ (v : QueuedBlocks) (h q : ℕ) (is : queue_of h v ≡ Ok q) where
  pub queue_found : shelf_of v.arena h ≡ Some q
  queue_found = of_shelf (shelf_of v.arena h) is
    where
      of_shelf : (o : Option ℕ) → (let r : Result ℕ Refusal = ok_or o NoSuchPlace in r ≡ Ok q) → o ≡ Some q
      of_shelf None none = absurd (cc)
      of_shelf (Some p) some = cc

  pub place_found : IsPlacedAt h (messages_on v q)
  place_found = place_there h (messages_on v q) (shelf_has v.arena h q queue_found)

  pub rmvq_head_is : rmvq_head h v ≡ rmvq q place_found.place v
  rmvq_head_is =
      ap (and_then (λ p. and_then (λ k. rmvq p k v) (place_of v p h))) is ∙ ap {B = Given QueuedBlocks ℕ} (λ o. and_then (λ k. rmvq q k v) (ok_or o NoSuchPlace)) place_found.found

pub rmvq_head_refused : (v : QueuedBlocks) (h : ℕ) (why : Refusal) → queue_of h v ≡ Err why → rmvq_head h v ≡ Err why
rmvq_head_refused v h why is = ap (and_then (λ q. and_then (λ k. rmvq q k v) (place_of v q h))) is
