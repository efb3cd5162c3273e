-- A service procedure of a module: what each of its steps leaves.
use Rattle.std.proofs.Common.{◌≡◌, ◌≢◌, ℕ, ◌+◌, ◌<◌, ◌≤◌, ◌⊎◌, inl, inr, Bool, true, false, not, ◌&&◌, ◌||◌, List, [], ◌∷◌, drop, length, get_or, set, IfSome, Option, Some, None, sym, ap, ◌∙◌, subst, arith, get_or-set_same}
use Rattle.std.proofs.lemmas.Bool.{lt-ltb}
use Rattle.strm_links.specs.Rows as rows
use Rattle.strm_mblk.specs.declared.token.TokenValue.{TokenValue}
use Rattle.strm_scheduler.specs.Forwarding.{Goes, KeepsRest, handed_on, has_leave, with_first_off, with_put}
use Rattle.strm_scheduler.proofs.Moving.{IsGot, handed_whole, leave_same, put_keeps, put_leaves, put_state, went}
use Rattle.strm_mblk.specs.Block.{Message}
use Rattle.strm_mblk.specs.Arena.{Arena, has, held_at, message_at, shelf_at, with_shelf, without_held}
use Rattle.strm_pool.specs.Lawful.{IsLawful}
use Rattle.strm_pool.specs.PoolValue.{PoolValue, has_queue, queued_blocks_of}
use Rattle.strm_queue.specs.declared.queue_spec.QueueSpec.{QueueSpec}
use Rattle.strm_queue.specs.Flow.{QueueState, flags_at}
use Rattle.strm_queue.specs.QueueCalls.{messages_on}
use Rattle.strm_queue.specs.QueuedBlocks.{QueuedBlocks}
use Rattle.strm_queue.specs.Rank.{is_ordered, rank_of}
use Rattle.strm_scheduler.specs.Laws.{AreKeptAwake, is_awake, may_rest}
use Rattle.strm_scheduler.specs.Sides.{AreSides, KeepsOrder, next_of}
use Rattle.strm_scheduler.specs.Steps.{AreSteps, Put, Step, with_message_put}
use Rattle.strm_scheduler.specs.Serving.{FallsBy, IsServing, IsTaken, KeepsAllowed, TakesTo, each, from_here, power, powers, weigh}
use Rattle.strm_scheduler.proofs.Hops.{hop_ahead, hop_within}
use Rattle.strm_scheduler.proofs.Needing.{message_now}
use Rattle.strm_scheduler.proofs.Ordering.{order_alike, order_moved}
use Rattle.strm_scheduler.proofs.Underway.{Hands, IsUnderway, hand_shelves, hand_store, hands_on, underway_off}
use Rattle.strm_scheduler.proofs.Beginning.{underway}
use Rattle.strm_scheduler.proofs.Weighing.{from_here-set, from_here_less, weigh-set}
use Rattle.strm_scheduler.proofs.Falling.{handed_powers}

-- queues with the same state, store and shelves are awake alike
awake_alike : (v w : QueuedBlocks) → w.queues ≡ v.queues → w.arena.store ≡ v.arena.store → w.arena.shelves ≡ v.arena.shelves → (q n : ℕ) → is_awake v q n ≡ true → is_awake w q n ≡ true
awake_alike v w queues store shelves q n awake =
    (λ i. not (flags_at (queues i) q).noenable
    && (rows.has q (queues i).run || may_rest (store i) (flags_at (queues i) q).read (flags_at (queues i) n).wanted (get_or (shelves i) q [])))
    ∙ awake

module _ (q n : ℕ) (v : PoolValue) (law : IsLawful v) (s : IsServing q n v) where
  underway_now : IsUnderway v.queues.specs law.lawful_queues s.sides q n s.next (queued_blocks_of v)
  underway_now = underway q n v law s

  q_within : q < length v.arena.shelves
  q_within = omega (arith, hop_within v.queues.specs law.lawful_queues q n s.next, law.shelves)

  pub q_before : q < n
  q_before = (hop_ahead v.queues.specs law.lawful_queues q n s.next).greater

  pub q_apart : q ≢ n
  q_apart same = absurd (omega (arith, same, q_before))

  pub next_there : has_queue v n ≡ true
  next_there = lt-ltb n (length v.queues.specs) (hop_ahead v.queues.specs law.lawful_queues q n s.next).there

  pub queue_there : has_queue v q ≡ true
  queue_there = lt-ltb q (length v.queues.specs) (hop_within v.queues.specs law.lawful_queues q n s.next)

  n_within : n < length v.arena.shelves
  n_within = omega (arith, (hop_ahead v.queues.specs law.lawful_queues q n s.next).there, law.shelves)

  -- a pool with the state, store and shelves of queues on which the service is underway
  serving_alike : (u : QueuedBlocks) → IsUnderway v.queues.specs law.lawful_queues s.sides q n s.next u → (w : PoolValue) → w.queues ≡ u.queues → w.arena.store ≡ u.arena.store
      → w.arena.shelves ≡ u.arena.shelves → IsServing q n w
  serving_alike u on w queues store shelves =
      let specs : w.queues.specs ≡ v.queues.specs = ap (λ (t : QueueState). t.specs) queues ∙ on.same in
      record {
        sides = subst AreSides (sym specs) s.sides;
        next = ap (λ (sp : List QueueSpec). next_of sp q) specs ∙ s.next;
        off = ap (λ (t : QueueState). (flags_at t q).noenable) queues ∙ on.off;
        others = λ p t other is. awake_alike u (queued_blocks_of w) queues store shelves p t (on.others p t other (ap (λ (sp : List QueueSpec). next_of sp p) (sym specs) ∙ is));
      }

  -- ---- the first message is taken

  module _ (t : TokenValue) (x : PoolValue) (taken : IsTaken q n t v x) where
    pub serving_taken : IsServing q n x
    serving_taken =
        serving_alike (with_first_off q taken.behind (queued_blocks_of v))
        (underway_off v.queues.specs law.lawful_queues s.sides q n s.next (queued_blocks_of v) underway_now taken.message taken.behind taken.first) x taken.queues
        (ap (λ (a : Arena). a.store) taken.arena) (ap (λ (a : Arena). a.shelves) taken.arena)

    shelves_taken : x.arena.shelves ≡ set v.arena.shelves q taken.behind
    shelves_taken = ap (λ (a : Arena). a.shelves) taken.arena

    -- the queue has one message less
    pub fewer_taken : length (shelf_at x.arena q) < length (shelf_at v.arena q)
    fewer_taken =
        let left = ap (λ (ss : List (List Message)). length (get_or ss q [])) shelves_taken ∙ ap length (get_or-set_same v.arena.shelves q taken.behind [] q_within) in
        omega (arith, left, ap length taken.first)

    -- what goes on to the next queue then has fewer queues ahead of it
    pub less_taken : (k : ℕ) → k ≤ weigh x.arena.shelves + from_here x.arena.shelves n → k < weigh v.arena.shelves
    less_taken k most =
        let here = from_here v.arena.shelves q in
        let less = from_here_less v.arena.shelves q n q_before q_within in
        let off = weigh-set v.arena.shelves q taken.behind q_within in
        let first = ap (each (from_here v.arena.shelves q)) taken.first in
        let weight = ap weigh shelves_taken in
        let place = ap (λ ss. from_here ss n) shelves_taken ∙ from_here-set v.arena.shelves q taken.behind n in
        omega (arith, most, less, off, first, weight, place)

    -- if it is passed on as it is, the sides keep their messages in order
    pub order_passed : (w : PoolValue) (steps : List Step) → steps ≡ Put n t ∷ [] → AreSteps q steps x w → KeepsOrder v w
    order_passed w steps is stepped =
        let put : AreSteps q (Put n t ∷ []) x w = subst (λ (ss : List Step). AreSteps q ss x w) is stepped in
        let left : w.arena ≡ with_put n (message_at x.arena t.head) (without_held t.head x.arena) = ap (λ (p : PoolValue). p.arena) put.2 ∙ put_leaves x put.0 n t.head put.1.1 put.1.3 in
        order_moved q n v w law.lawful_queues s.next n_within (omega (arith, ap length taken.first))
        (ap (λ (a : Arena). a.store) left ∙ ap (λ (a : Arena). a.store) taken.arena)
        (ap (λ (a : Arena). a.shelves) left
        ∙ (λ i. (with_put n (message_now q n v x t taken i) (without_held t.head (taken.arena i))).shelves)
        ∙ sym (ap (λ ms. (with_put n (get_or ms 0 []) (with_shelf q (drop 1 ms) v.arena)).shelves) taken.first))

    -- and forwarded, as `run` does
    pub hands_passed : KeepsRest v x → held_at v.arena t.head ≡ None → (w : PoolValue) (steps : List Step) → steps ≡ Put n t ∷ [] → AreSteps q steps x w
        → Goes q n v w × (handed_on q n (queued_blocks_of v) ≡ (true, queued_blocks_of w))
    unfolding handed_on
    hands_passed rest unheld w steps is stepped =
        let put : AreSteps q (Put n t ∷ []) x w = subst (λ (ss : List Step). AreSteps q ss x w) is stepped in
        let after : w ≡ with_message_put n t x = put.2 ∙ put.1.3 in
        let g : IsGot q t v x = record { message = taken.message; behind = taken.behind; first = taken.first; head = taken.head; arena = taken.arena; state = taken.queues; rest = rest } in
        let goes : true ≡ has_leave n x.queues x.arena (message_at x.arena t.head) = sym (leave_same q n q_apart v x t g unheld taken.had ∙ taken.leave) in
        let left = put_leaves x w n t.head put.1.1 after in
        let kept = put_keeps x w n t.head put.1.1 after in (
          went q n q_apart v x t g unheld taken.had w kept q_within goes left,
          handed_whole q n q_apart v x t g unheld taken.had w kept q_within (law.ordered q) true goes left (put_state x w n t.head put.1.1 after),
        )

  -- ---- no message is taken

  module _ (w : PoolValue) (ended : handed_on q n (queued_blocks_of v) ≡ (false, queued_blocks_of w)) where
    pub awake_ended : w.queues.specs ≡ v.queues.specs → AreKeptAwake w
    awake_ended specs =
        let all = subst (λ (r : Bool × QueuedBlocks). Hands v.queues.specs law.lawful_queues s.sides q n s.next (length (messages_on (queued_blocks_of v) q)) r.0 r.1) ended
        (hands_on v.queues.specs law.lawful_queues s.sides q n s.next (queued_blocks_of v) underway_now) in
        record {
          sides = subst AreSides (sym specs) s.sides;
          awake = λ p t is. all p t (ap (λ (sp : List QueueSpec). next_of sp p) (sym specs) ∙ is);
        }

    shelves_ended : w.arena.shelves ≡ v.arena.shelves
    shelves_ended =
        sym (ap (λ (r : Bool × QueuedBlocks). r.1.arena.shelves) ended)
        ∙ hand_shelves v.queues.specs law.lawful_queues s.sides q n s.next (queued_blocks_of v) underway_now (ap (λ (r : Bool × QueuedBlocks). r.0) ended)

    pub weigh_ended : weigh w.arena.shelves ≡ weigh v.arena.shelves
    weigh_ended = ap weigh shelves_ended

    pub order_ended : KeepsOrder v w
    order_ended =
        order_alike v w
        (sym (ap (λ (r : Bool × QueuedBlocks). r.1.arena.store) ended) ∙ hand_store v.queues.specs law.lawful_queues s.sides q n s.next (queued_blocks_of v) underway_now)
        shelves_ended

    pub run_ended : powers w.queues.run < power q + powers v.queues.run
    run_ended =
        subst (λ (r : Bool × QueuedBlocks). powers r.1.queues.run < power q + powers v.queues.run) ended
        (handed_powers q n (queued_blocks_of v) law.lawful_queues (omega (arith, law.flagged, hop_within v.queues.specs law.lawful_queues q n s.next)) (ap (λ (r : Bool × QueuedBlocks). r.0) ended))

-- ---- taking, by what is kept

module _ (q n : ℕ) (apart : q ≢ n) (v x : PoolValue) (t : TokenValue) (g : IsGot q t v x) (unheld : held_at v.arena t.head ≡ None) (had : has x.arena t ≡ true)
    (below : q < length v.arena.shelves) (ordered : is_ordered (rank_of v.arena.store) (shelf_at v.arena q) ≡ true) (w : PoolValue) (rest : KeepsRest x w) where
  pub takes_to : (r : Option TokenValue) → KeepsAllowed q n t x r w → TakesTo q n v r w
  unfolding handed_on
  takes_to None back = handed_whole q n apart v x t g unheld had w rest below ordered false back.leave back.messages back.state
  takes_to (Some u) kept = record {
    message = g.message;
    behind = g.behind;
    first = g.first;
    leave = sym (leave_same q n apart v x t g unheld had) ∙ sym kept.0;
    head = ap (λ (k : TokenValue). k.head) kept.1 ∙ g.head;
    queues = kept.2 ∙ g.state;
    arena = kept.3 ∙ g.arena;
    had = subst (λ (a : Arena). has a u ≡ true) (sym kept.3) (subst (λ (k : TokenValue). has x.arena k ≡ true) (sym kept.1) had);
    wishes = rest.wishes ∙ g.rest.wishes;
  }

-- the message that is still held was not held before
pub unheld_kept : (q n : ℕ) (t : TokenValue) (v x w : PoolValue) → held_at v.arena t.head ≡ None → (r : Option TokenValue) → KeepsAllowed q n t x r w → IfSome r (λ u. held_at v.arena u.head ≡ None)
unheld_kept q n t v x w unheld None back = tt
unheld_kept q n t v x w unheld (Some u) kept = ap (λ (k : TokenValue). held_at v.arena k.head) kept.1 ∙ unheld

pub rest_joined : (v x w : PoolValue) → KeepsRest v x → KeepsRest x w → KeepsRest v w
rest_joined v x w first second = record { specs = second.specs ∙ first.specs; marks = second.marks ∙ first.marks; wishes = second.wishes ∙ first.wishes }

-- ---- a whole service, whose messages each weigh less afterwards, if the module passes one on at most

pub falls_ended : (Less : Type 0) (q : ℕ) (v x w : PoolValue) → (x ≡ v) ⊎ (Less → weigh x.arena.shelves < weigh v.arena.shelves) → weigh w.arena.shelves ≡ weigh x.arena.shelves
    → powers w.queues.run < power q + powers x.queues.run → Less → FallsBy q v w
falls_ended Less q v x w (inl still) same run less =
    inr (same ∙ ap (λ (p : PoolValue). weigh p.arena.shelves) still, subst (λ (p : PoolValue). powers w.queues.run < power q + powers p.queues.run) still run)
falls_ended Less q v x w (inr moved) same run less = let fewer = moved less in inl (omega (arith, fewer, same))

-- one more message has moved
pub moved_more : (Less : Type 0) (v x w : PoolValue) → (x ≡ v) ⊎ (Less → weigh x.arena.shelves < weigh v.arena.shelves) → (Less → weigh w.arena.shelves < weigh x.arena.shelves)
    → Less → weigh w.arena.shelves < weigh v.arena.shelves
moved_more Less v x w (inl still) step less = subst (λ (p : PoolValue). weigh w.arena.shelves < weigh p.arena.shelves) still (step less)
moved_more Less v x w (inr moved) step less = let before = moved less in let now = step less in omega (arith, before, now)
