-- The first fault, if any, is that of the sides. Without one, the new queues form sides.
use Rattle.std.proofs.Common.{◌≡◌, ℕ, zero, suc, ◌+◌, Bool, true, false, List, [], ◌∷◌, length, get_or, replicate, Option, Some, None, Err, refl, sym, ap, ◌∙◌, subst}
use Rattle.std.specs.Prelude.{is_some}
use Rattle.strm_pool.specs.declared.config.Config.{Config}
use Rattle.strm_pool.specs.declared.config.NewFault.{NewFault}
use Rattle.strm_pool.specs.PoolValue.{PoolValue, opening_pool, queued_blocks_of}
use Rattle.strm_mblk.specs.Block.{Message}
use Rattle.strm_queue.specs.declared.queue_spec.QueueSpec.{QueueSpec}
use Rattle.strm_queue.specs.Flow.{Flags, opening_flags}
use Rattle.strm_queue.specs.QueueCalls.{flags_of}
use Rattle.strm_queue.proofs.Shelf.{get_or-map_same, get_or-replicate_same}
use Rattle.strm_scheduler.specs.declared.sides_fault.SidesFault.{SidesFault}
use Rattle.strm_scheduler.specs.declared.sides_fault.SidesFault.TheVariants.{NoNext, NoService, NotMade}
use Rattle.strm_scheduler.specs.Laws.{AreKeptAwake, may_rest}
use Rattle.strm_scheduler.specs.Sides.{AreSides, SidesOpen, fault_from, fault_of_queue, or_fault}
use Rattle.strm_scheduler.proofs.Keeping.{awake_at_rest}
use Rattle.strm_scheduler.proofs.Waking.{awake_kept}
use Rattle.strm_scheduler.proofs.sides.Sides.new.Goals as goal

-- New sides are kept awake: all queues are empty, and have their want-to-read marks.

-- ---- no fault

none_parts : (a b : Option SidesFault) → or_fault a b ≡ None → (a ≡ None) × (b ≡ None)
none_parts None b none = (refl, none)
none_parts (Some fault) b none = absurd (cc)

queue_fits : (q : ℕ) (service : Bool) (next : Option ℕ) → fault_of_queue q service next ≡ None → service ≡ is_some next
queue_fits q true None none = absurd (cc)
queue_fits q true (Some n) none = refl
queue_fits q false None none = refl
queue_fits q false (Some n) none = absurd (cc)

no_fault : (from : ℕ) (specs : List QueueSpec) → fault_from from specs ≡ None → AreSides specs
no_fault from [] none q = refl
no_fault from (s ∷ specs) none zero = queue_fits from s.service s.next (none_parts (fault_of_queue from s.service s.next) (fault_from (from + 1) specs) none).0
no_fault from (s ∷ specs) none (suc q) = no_fault (from + 1) specs (none_parts (fault_of_queue from s.service s.next) (fault_from (from + 1) specs) none).1 q

-- ---- new queues

opened_awake : (c : Config) → fault_from 0 c.queues ≡ None → AreKeptAwake (opening_pool c)
opened_awake c none = record {
  sides = no_fault 0 c.queues none;
  awake = λ q n next.
      awake_at_rest (queued_blocks_of (opening_pool c)) q n (ap (λ (f : Flags). f.noenable) (flags_are q))
      (ap (λ (ms : List Message). may_rest (queued_blocks_of (opening_pool c)).arena.store (flags_of (queued_blocks_of (opening_pool c)) q).read (flags_of (queued_blocks_of (opening_pool c)) n).wanted ms) (empty (length c.queues) q)
      ∙ ap (λ (f : Flags). f.read) (flags_are q));
}
  where
    flags_are : (q : ℕ) → flags_of (queued_blocks_of (opening_pool c)) q ≡ opening_flags
    flags_are q = get_or-map_same c.queues opening_flags q

    none_of : List Message
    none_of = []

    empty : (k q : ℕ) → get_or (replicate k none_of) q none_of ≡ none_of
    empty k q = get_or-replicate_same k none_of q

opened_kept : (c : Config) (v : PoolValue) → v ≡ opening_pool c → fault_from 0 c.queues ≡ None → AreKeptAwake v
opened_kept c v is none = let P : PoolValue → Type 0 = λ x. AreKeptAwake x in subst P (sym is) (opened_awake c none)

-- ---- a fault of the sides

-- the sides have no fault of the pool
no_pool_fault : (from : ℕ) (specs : List QueueSpec) (why : NewFault) → Some (NotMade why) ≡ fault_from from specs → ⊥
no_pool_fault from [] why is = absurd (cc)
no_pool_fault from (s ∷ specs) why is = by_queue s.service s.next is (no_pool_fault (from + 1) specs why)
  where
    by_queue : (service : Bool) (next : Option ℕ) → Some (NotMade why) ≡ or_fault (fault_of_queue from service next) (fault_from (from + 1) specs) → (Some (NotMade why) ≡ fault_from (from + 1) specs → ⊥) → ⊥
    by_queue true None is rest = absurd (cc)
    by_queue true (Some n) is rest = rest is
    by_queue false None is rest = rest is
    by_queue false (Some n) is rest = absurd (cc)

fault_opens : (c : Config) (fault : SidesFault) → Some fault ≡ fault_from 0 c.queues → SidesOpen c (Err fault)
fault_opens c (NoNext q) is = sym is
fault_opens c (NoService q) is = sym is
fault_opens c (NotMade why) is = absurd (no_pool_fault 0 c.queues why is)

-- ---- the answers

pub returns-in-Some : goal.returns-in-Some
returns-in-Some c = fault_opens c.args.config c.in-Some.fault (c.in-Some.ensures ∙ ap (fault_from 0) c.items.ensures.value)

pub invariant_of-result : goal.invariant_of-result
invariant_of-result c =
    awake_kept c.in-Ok.pool c.none.result c.none.ensures
    (opened_kept c.args.config c.in-Ok.pool c.in-Ok.ensures.opens.1 (sym (c.first_fault.ensures ∙ ap (fault_from 0) c.items.ensures.value) ∙ c.in_default.is))
