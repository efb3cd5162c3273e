-- A call on a part of a pool is one on the whole.
use Rattle.std.proofs.Common.{◌≡◌, ℕ, List, [], ◌∷◌, length, Option, None, Some, Result, Ok, Err, refl, sym, ap, ◌∙◌, subst}
use Rattle.std.specs.Prelude.{MatchResult, option_map}
use Rattle.std.specs.List.{FoldsTo}
use Rattle.strm_data.specs.declared.refusal.Refusal.{Refusal}
use Rattle.strm_mblk.specs.declared.rejected.Rejected.{Rejected}
use Rattle.strm_mblk.specs.declared.token.TokenValue.{TokenValue}
use Rattle.strm_mblk.specs.Arena.{Arena, token_of}
use Rattle.strm_mblk.specs.Calls.{Alters, Flushes, Frees, Gives, Joins, LeavesBlocks, Lends, Parts, Puts, Spends, Takes, TakesAny, Transfers, Unlinks, itself}
use Rattle.strm_mblk.specs.Frame.{LeavesShelves}
use Rattle.strm_mblk.specs.Freeing as freeing
use Rattle.strm_mblk.specs.Given.{Given, answer_map, answer_of, or_rejected, value_after, without_token}
use Rattle.strm_mblk.proofs.arena.Frame.{leaves_same}
use Rattle.strm_queue.specs.Taking.{AreHanded, Hands, TakesEach, heads_taken}
use Rattle.strm_queue.specs.QueuedBlocks as on
use Rattle.strm_queue.specs.QueuedBlocks.{Agrees, QueuedBlocks, QueuesValue}
use Rattle.strm_queue.proofs.Agreeing.{agrees_left}
use Rattle.strm_pool.specs.PoolValue.{PoolValue, arena, on_arena, on_queues, queued_blocks_of, with_token_spent, with_arena, with_queued}

-- ---- on message blocks

-- the queues still agree with them
pub agrees_still : {v : QueuesValue} {a b : Arena} {heads : List ℕ} → LeavesShelves heads a b → Agrees v a → Agrees v b
agrees_still {v} {a} {b} {heads} left agrees = agrees_left v heads a b agrees left

arena_after : {X : Type 0} (u : PoolValue) (g : Given Arena X) (b : Arena) → b ≡ value_after u.arena g → with_arena u b ≡ value_after u (on_arena u g)
arena_after u (Ok given) b is = ap (with_arena u) is
arena_after u (Err why) b is = ap (with_arena u) is

pub arena_answer : {X : Type 0} (v : PoolValue) (g : Given Arena X) → answer_of (on_arena v g) ≡ answer_of g
arena_answer v (Ok given) = refl
arena_answer v (Err why) = refl

module _ {u v : PoolValue} {b : Arena} (view : u ≡ v) where
  pub gives_on : {source : Option TokenValue} {result : Result TokenValue Refusal} (call : Arena → Given Arena ℕ) → Gives itself source (call u.arena) u.arena b result → Gives arena source (on_arena v (call v.arena)) v (with_arena u b) result
  gives_on {source} {result} call g =
      subst (λ w. Gives arena source (on_arena w (call w.arena)) w (with_arena u b) result) view
      (record {
        after = arena_after u (call u.arena) b g.after;
        token = g.token ∙ ap (answer_map (token_of b)) (sym (arena_answer u (call u.arena)));
        had = g.had;
        unheld = g.unheld;
        kept = g.kept;
        others = g.others;
        shelves = g.shelves;
      })

  pub alters_on : {X : Type 0} {s t : TokenValue} {result : Result X Refusal} (call : Arena → Given Arena X) → Alters itself s t (call u.arena) u.arena b result → Alters arena s t (on_arena v (call v.arena)) v (with_arena u b) result
  alters_on {X} {s} {t} {result} call g =
      subst (λ w. Alters arena s t (on_arena w (call w.arena)) w (with_arena u b) result) view
      (record {
        after = arena_after u (call u.arena) b g.after;
        answer = g.answer ∙ sym (arena_answer u (call u.arena));
        token = g.token;
        had = g.had;
        others = g.others;
        shelves = g.shelves;
      })

  pub joins_on : {s t r : TokenValue} (next : Arena → Arena) → Joins itself s t r (next u.arena) u.arena b → Joins arena s t r (with_arena v (next v.arena)) v (with_arena u b)
  joins_on {s} {t} {r} next g =
      subst (λ w. Joins arena s t r (with_arena w (next w.arena)) w (with_arena u b)) view
      (record { after = ap (with_arena u) g.after; token = g.token; had = g.had; gone = g.gone; others = g.others; shelves = g.shelves })

  pub unlinks_on : {s t : TokenValue} {result : Result (Option TokenValue) Refusal} (call : Arena → Given Arena (Option ℕ)) → Unlinks itself s t (call u.arena) u.arena b result
      → Unlinks arena s t (on_arena v (call v.arena)) v (with_arena u b) result
  unlinks_on {s} {t} {result} call g =
      subst (λ w. Unlinks arena s t (on_arena w (call w.arena)) w (with_arena u b) result) view
      (record {
        after = arena_after u (call u.arena) b g.after;
        rest = g.rest ∙ ap (answer_map (option_map (token_of b))) (sym (arena_answer u (call u.arena)));
        token = g.token;
        had = g.had;
        rest_had = g.rest_had;
        unheld = g.unheld;
        others = g.others;
        shelves = g.shelves;
      })

  pub frees_on : {t : TokenValue} {result : Result (Option TokenValue) Refusal} (call : Arena → Given Arena (Option ℕ)) → Frees itself t (call u.arena) u.arena b result → Frees arena t (on_arena v (call v.arena)) v (with_arena u b) result
  frees_on {t} {result} call g =
      subst (λ w. Frees arena t (on_arena w (call w.arena)) w (with_arena u b) result) view
      (record {
        after = arena_after u (call u.arena) b g.after;
        rest = g.rest ∙ ap (answer_map (option_map (token_of b))) (sym (arena_answer u (call u.arena)));
        had = g.had;
        unheld = g.unheld;
        gone = g.gone;
        others = g.others;
        shelves = g.shelves;
      })

  pub parts_on : {t : TokenValue} {result : Result (TokenValue × Option TokenValue) Rejected} (call : Arena → Given Arena (ℕ × Option ℕ)) → Parts itself t (call u.arena) u.arena b result
      → Parts arena t (on_arena v (call v.arena)) v (with_arena u b) result
  parts_on {t} {result} call g =
      subst (λ w. Parts arena t (on_arena w (call w.arena)) w (with_arena u b) result) view
      (record {
        after = arena_after u (call u.arena) b g.after;
        answer = g.answer ∙ ap (λ r. or_rejected t (answer_map (λ heads. (token_of b heads.0, option_map (token_of b) heads.1)) r)) (sym (arena_answer u (call u.arena)));
        kept = g.kept;
        had = g.had;
        rest_had = g.rest_had;
        unheld = g.unheld;
        rest_unheld = g.rest_unheld;
        apart = g.apart;
        others = g.others;
        shelves = g.shelves;
      })

  pub spends_on : (t : TokenValue) (next : Arena → Arena) → Spends itself t (next u.arena) u.arena b → Spends arena t (with_arena v (next v.arena)) v (with_arena u b)
  spends_on t next g = subst (λ w. Spends arena t (with_arena w (next w.arena)) w (with_arena u b)) view (record { after = ap (with_arena u) g.after; gone = g.gone; others = g.others; shelves = g.shelves })

-- what becomes of a message that is transferred, if it is not refused
spent_on : (u v : PoolValue) (b : Arena) (t : TokenValue) → u ≡ v → (result : Result TokenValue Rejected)
    → MatchResult result (λ made. Spends itself t (freeing.with_token_spent u.arena t) u.arena b) (λ rejected. (rejected.token ≡ t) × (b ≡ u.arena))
    → MatchResult result (λ made. Spends arena t (with_token_spent v t) v (with_arena u b)) (λ rejected. (rejected.token ≡ t) × (with_arena u b ≡ v))
spent_on u v b t view (Ok made) is = spends_on view t (λ a. freeing.with_token_spent a t) is
spent_on u v b t view (Err rejected) is = (is.0, ap (with_arena u) is.1 ∙ view)

-- on two pools
pub transfers_on : {u v x y : PoolValue} {b d : Arena} {t : TokenValue} {result : Result TokenValue Rejected} → u ≡ v → x ≡ y → (call : Arena → Arena → Given Arena ℕ)
    → Transfers itself t (call u.arena x.arena) (freeing.with_token_spent u.arena t) u.arena b x.arena d result → Transfers arena t (on_arena y (call v.arena y.arena)) (with_token_spent v t) v (with_arena u b) y (with_arena x d) result
transfers_on {u} {v} {x} {y} {b} {d} {t} {result} view other call g = record {
  there = gives_on other (call v.arena) (subst (λ w. Gives itself None (call w.arena x.arena) x.arena d (without_token result)) view g.there);
  here = spent_on u v b t view result g.here;
}

-- a transfer leaves the shelves of the pool that spends the token
pub transferred_shelves : (t : TokenValue) (a b next : Arena) (result : Result TokenValue Rejected) → MatchResult result (λ made. Spends itself t next a b) (λ rejected. (rejected.token ≡ t) × (b ≡ a)) → LeavesShelves (t.head ∷ []) a b
transferred_shelves t a b next (Ok made) is = is.shelves
transferred_shelves t a b next (Err rejected) is = subst (LeavesShelves (t.head ∷ []) a) (sym is.1) (leaves_same a (t.head ∷ [])).shelves

-- a call that lends bytes leaves the shelves
pub lent_shelves : {X R : Type 0} (t : TokenValue) (closure : List ℕ → R → List ℕ → Type 0) (call : R → List ℕ → Given Arena X) (a b : Arena) (result : Result X Refusal) (lent : Result (List ℕ) Refusal)
    → Lends itself t closure lent call a b result → LeavesShelves (t.head ∷ []) a b
lent_shelves t closure call a b result (Ok bytes) g = g.1.after.shelves
lent_shelves t closure call a b result (Err why) g = g.shelves

module _ {X R : Type 0} (u v : PoolValue) (b : Arena) (view : u ≡ v) (t : TokenValue) (closure : List ℕ → R → List ℕ → Type 0) (result : Result X Refusal) where
  -- the bytes that are lent, and what the call does then
  lent_on : (lent : Result (List ℕ) Refusal) (call : R → List ℕ → Given Arena X) → Lends itself t closure lent call u.arena b result → Lends arena t closure lent (λ r left. on_arena u (call r left)) u (with_arena u b) result
  lent_on (Ok bytes) call g = (g.0, record { left = g.1.left; long = g.1.long; called = g.1.called; after = alters_on {u = u} {v = u} refl (λ _. call g.0 g.1.left) g.1.after })
  lent_on (Err why) call g = alters_on {u = u} {v = u} refl (λ _. Err why) g

  pub lends_on : (lent : Arena → Result (List ℕ) Refusal) (call : R → List ℕ → Arena → Given Arena X) → Lends itself t closure (lent u.arena) (λ r left. call r left u.arena) u.arena b result
      → Lends arena t closure (lent v.arena) (λ r left. on_arena v (call r left v.arena)) v (with_arena u b) result
  lends_on lent call g =
      subst (λ w. Lends arena t closure (lent w.arena) (λ r left. on_arena w (call r left w.arena)) w (with_arena u b) result) view (lent_on (lent u.arena) (λ r left. call r left u.arena) g)

-- ---- on queues

queues_after : {X : Type 0} (v : PoolValue) (g : Given QueuedBlocks X) (w : QueuedBlocks) → w ≡ value_after (queued_blocks_of v) g → with_queued v w ≡ value_after v (on_queues v g)
queues_after v (Ok given) w is = ap (with_queued v) is
queues_after v (Err why) w is = ap (with_queued v) is

queues_answer : {X : Type 0} (v : PoolValue) (g : Given QueuedBlocks X) → answer_of (on_queues v g) ≡ answer_of g
queues_answer v (Ok given) = refl
queues_answer v (Err why) = refl

module _ {u v : PoolValue} {q : QueuedBlocks} (view : u ≡ v) where
  pub puts_on : {t : TokenValue} {result : Result (Unit {0}) Rejected} (call : QueuedBlocks → Given QueuedBlocks (Unit {0})) → Puts on.arena t (call (queued_blocks_of u)) (queued_blocks_of u) q result
      → Puts arena t (on_queues v (call (queued_blocks_of v))) v (with_queued u q) result
  puts_on {t} {result} call g =
      subst (λ w. Puts arena t (on_queues w (call (queued_blocks_of w))) w (with_queued u q) result) view
      (record {
        after = queues_after u (call (queued_blocks_of u)) q g.after;
        answer = g.answer ∙ ap (or_rejected t) (sym (queues_answer u (call (queued_blocks_of u))));
        gone = g.gone;
        others = g.others;
      })

  pub takes_on : {result : Result TokenValue Refusal} (call : QueuedBlocks → Given QueuedBlocks ℕ) → Takes on.arena (call (queued_blocks_of u)) (queued_blocks_of u) q result → Takes arena (on_queues v (call (queued_blocks_of v))) v (with_queued u q) result
  takes_on {result} call g =
      subst (λ w. Takes arena (on_queues w (call (queued_blocks_of w))) w (with_queued u q) result) view
      (record {
        after = queues_after u (call (queued_blocks_of u)) q g.after;
        token = g.token ∙ ap (answer_map (token_of q.arena)) (sym (queues_answer u (call (queued_blocks_of u))));
        had = g.had;
        unheld = g.unheld;
        others = g.others;
      })

  pub takes_any_on : {result : Result (Option TokenValue) Refusal} (call : QueuedBlocks → Given QueuedBlocks (Option ℕ)) → TakesAny on.arena (call (queued_blocks_of u)) (queued_blocks_of u) q result
      → TakesAny arena (on_queues v (call (queued_blocks_of v))) v (with_queued u q) result
  takes_any_on {result} call g =
      subst (λ w. TakesAny arena (on_queues w (call (queued_blocks_of w))) w (with_queued u q) result) view
      (record {
        after = queues_after u (call (queued_blocks_of u)) q g.after;
        token = g.token ∙ ap (answer_map (option_map (token_of q.arena))) (sym (queues_answer u (call (queued_blocks_of u))));
        had = g.had;
        unheld = g.unheld;
        others = g.others;
      })

  pub flushes_on : {result : Result (Unit {0}) Refusal} (call : QueuedBlocks → Given QueuedBlocks (Unit {0})) → Flushes on.arena (call (queued_blocks_of u)) (queued_blocks_of u) q result → Flushes arena (on_queues v (call (queued_blocks_of v))) v (with_queued u q) result
  flushes_on {result} call g =
      subst (λ w. Flushes arena (on_queues w (call (queued_blocks_of w))) w (with_queued u q) result) view
      (record { after = queues_after u (call (queued_blocks_of u)) q g.after; answer = g.answer ∙ sym (queues_answer u (call (queued_blocks_of u))); others = g.others })

  pub leaves_on : {X : Type 0} {result : Result X Refusal} (call : QueuedBlocks → Given QueuedBlocks X) → LeavesBlocks on.arena (call (queued_blocks_of u)) (queued_blocks_of u) q result → LeavesBlocks arena (on_queues v (call (queued_blocks_of v))) v (with_queued u q) result
  leaves_on {X} {result} call g =
      subst (λ w. LeavesBlocks arena (on_queues w (call (queued_blocks_of w))) w (with_queued u q) result) view
      (record { after = queues_after u (call (queued_blocks_of u)) q g.after; answer = g.answer ∙ sym (queues_answer u (call (queued_blocks_of u))); arena_stays = g.arena_stays })

  pub hands_on : {R : Type 0} {receives : R → TokenValue → R → Type 0} {before after : R} {result : Result ℕ Refusal} (call : QueuedBlocks → Given QueuedBlocks (List ℕ))
      → Hands on.arena receives (call (queued_blocks_of u)) (queued_blocks_of u) q before after result → Hands arena receives (on_queues v (call (queued_blocks_of v))) v (with_queued u q) before after result
  hands_on {R} {receives} {before} {after} {result} call g =
      subst (λ w. Hands arena receives (on_queues w (call (queued_blocks_of w))) w (with_queued u q) before after result) view
      (record {
        left = queues_after u (call (queued_blocks_of u)) q g.left;
        count = g.count ∙ ap (answer_map (λ heads. length heads)) (sym (queues_answer u (call (queued_blocks_of u))));
        tokens = subst (λ a. AreHanded receives (heads_taken a) u.arena q.arena before after) (sym (queues_answer u (call (queued_blocks_of u)))) g.tokens;
      })

-- ---- messages that are taken one after another

module _ {R : Type 0} (receives : R → TokenValue → R → Type 0) (call : QueuedBlocks → Given QueuedBlocks (Option ℕ)) where
  abbrev on_pool : PoolValue → Given PoolValue (Option ℕ)
  on_pool v = on_queues v (call (queued_blocks_of v))

  each_on : (v : PoolValue) (q : QueuedBlocks) (r s : R) (ts : List TokenValue)
      → FoldsTo (λ (x : QueuedBlocks × R) t (y : QueuedBlocks × R). TakesAny on.arena (call x.0) x.0 y.0 (Ok (Some t)) × receives x.1 t y.1) (queued_blocks_of v, r) ts (q, s)
      → FoldsTo (λ (x : PoolValue × R) t (y : PoolValue × R). TakesAny arena (on_pool x.0) x.0 y.0 (Ok (Some t)) × receives x.1 t y.1) (v, r) ts (with_queued v q, s)
  each_on v q r s [] is = λ i. (with_queued v (is i).0, (is i).1)
  each_on v q r s (t ∷ ts) is =
      let mid = with_queued v is.0.0 in
      ((mid, is.0.1), (takes_any_on {u = v} {v = v} {q = is.0.0} refl call is.1.0, is.1.1), each_on mid q is.0.1 s ts is.2)

  pub takes_each_on : {u v : PoolValue} {q : QueuedBlocks} {most taken : ℕ} {before after : R} → u ≡ v → TakesEach on.arena receives call most (queued_blocks_of u) q before after taken
      → TakesEach arena receives on_pool most v (with_queued u q) before after taken
  takes_each_on {u} {v} {q} {most} {taken} {before} {after} view g =
      subst (λ w. TakesEach arena receives on_pool most w (with_queued u q) before after taken) view
      (record { tokens = g.tokens; each = each_on u q before after g.tokens g.each; count = g.count; few = g.few })
