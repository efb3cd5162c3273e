-- Messages that a call takes and a receiver names.
use Rattle.std.proofs.Common.{◌≡◌, ℕ, ◌+◌, ◌≤◌, ◌==◌, suc, Bool, true, false, Option, None, Some, List, [], ◌∷◌, arith, length, map, set, length-set, take, Result, Ok, Err, refl, sym, ap, ◌∙◌, subst, if◌then◌else◌}
use Rattle.std.specs.Prelude.{filter}
use Rattle.std.specs.List.{FoldsTo}
use Rattle.std.proofs.lemmas.Bool.{false≢true, or_right}
use Rattle.std.proofs.lemmas.List.{length-map, length-take}
use Rattle.strm_data.specs.declared.refusal.Refusal.{Refusal}
use Rattle.strm_data.specs.declared.refusal.Refusal.TheVariants.{NoSuchQueue}
use Rattle.strm_links.specs.Rows.{IsApart}
use Rattle.strm_links.specs.Rows as rows
use Rattle.strm_mblk.specs.declared.token.TokenValue.{TokenValue}
use Rattle.strm_mblk.specs.Arena.{Arena, has, held_at, token_of}
use Rattle.strm_mblk.specs.Calls.{TakesAny}
use Rattle.strm_mblk.specs.Block.{head_of}
use Rattle.strm_mblk.specs.Given.{Given}
use Rattle.strm_queue.specs.declared.flush.Flush.{Flush}
use Rattle.strm_queue.specs.Flush.{is_picked}
use Rattle.strm_queue.specs.QueueCalls.{has_queue, messages_on}
use Rattle.strm_queue.specs.QueuedBlocks.{QueuedBlocks}
use Rattle.strm_queue.specs.Taking.{AreHanded, Hands, TakesEach, take_messages}
use Rattle.strm_pool.specs.PoolValue.{PoolValue, arena, on_queues, queued_blocks_of}
use Rattle.strm_pool.proofs.Tokens.{Each, Moves, err_not_ok, has_here, heads_of, same_ok}
use Rattle.strm_named.specs.declared.fault.Fault.{Fault}
use Rattle.strm_named.specs.declared.name.Name.{Name}
use Rattle.strm_named.specs.declared.naming.Naming.{Naming}
use Rattle.strm_named.specs.NamedCalls.{TakesEachNamed, as_named_result, any_message, Does, names_of, outcome_of, some_messages, with_names, with_names_from}
use Rattle.strm_named.specs.NamedLayout.{Fits, pool_with}
use Rattle.strm_named.specs.NamedValue.{NamedValue, name_of}
use Rattle.strm_named.specs.Stamps.{name_in, with_tokens}
use Rattle.strm_named.specs.Receiving.{NamesToken}
use Rattle.strm_named.proofs.Renamed.{stamps_other}
use Rattle.strm_named.proofs.Shaped.{Called, gives_any, made, refused}

-- ---- what the receiver does with tokens

-- the names of these tokens, given one after another
abbrev names_given : List TokenValue → List ℕ → List Name
names_given [] ss = []
names_given (t ∷ ts) ss = name_in (with_tokens (t ∷ []) ss) t ∷ names_given ts (with_tokens (t ∷ []) ss)

with_names_from-behind : (k : ℕ) (ns : List Name) (x : Name) (xs : List Name) → with_names_from (suc k) ns (x ∷ xs) ≡ x ∷ with_names_from k ns xs
with_names_from-behind k [] x xs = refl
with_names_from-behind k (n ∷ ns) x xs = with_names_from-behind (suc k) ns x (set xs k n)

with_names_from-first : (ns xs : List Name) → length ns ≤ length xs → with_names_from 0 ns xs ≡ with_names ns xs
with_names_from-first [] xs few = refl
with_names_from-first (n ∷ ns) [] few = absurd (omega (arith, few))
with_names_from-first (n ∷ ns) (x ∷ xs) few = with_names_from-behind 0 ns n xs ∙ ap (λ ys. n ∷ ys) (with_names_from-first ns xs (omega (arith, few)))

-- it keeps what it was lent
pub keeps_stamps : (ts : List TokenValue) (old new : Naming) → FoldsTo NamesToken old ts new → new.stamps.ghost_name ≡ old.stamps.ghost_name
keeps_stamps [] old new is = ap (λ (x : Naming). x.stamps.ghost_name) (sym is)
keeps_stamps (t ∷ ts) old new is = keeps_stamps ts is.0 new is.2 ∙ is.1.same_stamps

pub keeps_names : (ts : List TokenValue) (old new : Naming) → FoldsTo NamesToken old ts new → new.names.ghost_name ≡ old.names.ghost_name
keeps_names [] old new is = ap (λ (x : Naming). x.names.ghost_name) (sym is)
keeps_names (t ∷ ts) old new is = keeps_names ts is.0 new is.2 ∙ is.1.same_names

-- it raises their stamps
stamps_tokens : (ts : List TokenValue) (old new : Naming) → FoldsTo NamesToken old ts new → new.stamps.now.items ≡ with_tokens ts old.stamps.now.items
stamps_tokens [] old new is = ap (λ (x : Naming). x.stamps.now.items) (sym is)
stamps_tokens (t ∷ ts) old new is = stamps_tokens ts is.0 new is.2 ∙ ap (with_tokens ts) is.1.stamps

-- and stores their names
stores_names : (ts : List TokenValue) (old new : Naming) → FoldsTo NamesToken old ts new → old.count + length ts ≤ length old.names.now
    → new.names.now ≡ with_names_from old.count (names_given ts old.stamps.now.items) old.names.now
stores_names [] old new is few = ap (λ (x : Naming). x.names.now) (sym is)
stores_names (t ∷ ts) old new is few =
    let mid = is.0 in
    let count : mid.count ≡ suc old.count = is.1.count (omega (arith, few)) in
    let long : length mid.names.now ≡ length old.names.now = ap length is.1.names ∙ length-set old.names.now old.count (name_in mid.stamps.now.items t) in
    let names : mid.names.now ≡ set old.names.now old.count (name_in (with_tokens (t ∷ []) old.stamps.now.items) t) = is.1.names ∙ ap (λ ss. set old.names.now old.count (name_in ss t)) is.1.stamps in
    stores_names ts mid new is.2 (omega (arith, few, count, long)) ∙ (λ i. with_names_from (count i) (names_given ts (is.1.stamps i)) (names i))

-- ---- messages with these heads

heads-tokens : (a : Arena) (hs : List ℕ) → heads_of (map (token_of a) hs) ≡ hs
heads-tokens a [] = refl
heads-tokens a (h ∷ hs) = ap (λ ks. h ∷ ks) (heads-tokens a hs)

each_had : (a : Arena) (hs : List ℕ) → ((h : ℕ) → rows.has h hs ≡ true → has a (token_of a h) ≡ true) → Each (λ t. has a t ≡ true) (map (token_of a) hs)
each_had a [] had = tt
each_had a (h ∷ hs) had = (had h (has_here h hs), each_had a hs (λ k there. had k (or_right (h == k) (rows.has k hs) there)))

-- the names that are given are those that the messages have afterwards
names_told : (a : Arena) (hs : List ℕ) (ss : List ℕ) → IsApart hs
    → names_given (map (token_of a) hs) ss ≡ map (λ h. name_in (with_tokens (map (token_of a) hs) ss) (token_of a h)) hs
names_told a [] ss apart = refl
names_told a (h ∷ hs) ss apart =
    let now = with_tokens (token_of a h ∷ []) ss in
    let ts = map (token_of a) hs in
    λ i. (let n : Name = record { pool = a.id; head = h; stamp = sym (stamps_other (heads_of ts) now h (ap (rows.has h) (heads-tokens a hs) ∙ apart.0)) i } in n) ∷ names_told a hs now apart.1 i

-- no more are taken than the call was asked for
module _ (p : PoolValue) (n : ℕ) (hs : List ℕ) (u : PoolValue) where
  few_if : (is_there : Bool) (given : List ℕ) (w : QueuedBlocks) → length given ≤ n
      → (let g : Given QueuedBlocks (List ℕ) = if is_there then Ok (given, w) else Err NoSuchQueue in on_queues p g ≡ Ok (hs, u)) → length hs ≤ n
  few_if true given w few is = subst (λ xs. length xs ≤ n) (ap (λ (x : List ℕ × PoolValue). x.0) (same_ok is)) few
  few_if false given w few is = absurd (err_not_ok is)

  pub few_taken : (q : ℕ) (band : Option ℕ) (flush : Flush) → on_queues p (take_messages q band flush n (queued_blocks_of p)) ≡ Ok (hs, u) → length hs ≤ n
  few_taken q band flush =
      let v = queued_blocks_of p in
      let ms = filter (is_picked v.arena.store band flush) (messages_on v q) in
      few_if (has_queue v q) (map head_of (take n ms)) _ (omega (arith, length-map (take n ms) head_of, length-take n ms))

moved : (a b : Arena) (old new : Naming) (hs : List ℕ) → AreHanded NamesToken hs a b old new → Moves a b [] (map (token_of b) hs)
moved a b old new hs is =
    let heads = heads-tokens b hs in
    record {
      id = is.others.id;
      size = is.others.size;
      others = λ h was now. is.others.held h (ap (rows.has h) (sym heads) ∙ now);
      had = tt;
      has_now = each_had b hs is.had;
      apart = subst IsApart (sym heads) is.apart;
      gone = λ h was now. absurd (false≢true was);
      new = λ h was now. is.unheld h (ap (rows.has h) (sym heads) ∙ now);
    }

module _ {p r : PoolValue} {ps qs : List ℕ} (fits : Fits p.arena ps) {old new : Naming} (before : old.stamps.now.items ≡ ps) (after : qs ≡ new.stamps.now.items) where
  -- messages are taken and named
  pub takes_some : {g : Given PoolValue (List ℕ)} {taken : Result ℕ Refusal} {answer : Result ℕ Fault} → Hands arena NamesToken g p r old new taken → answer ≡ as_named_result taken
      → Called some_messages (outcome_of g) [] (pool_with p ps) r qs answer
  takes_some {g} {taken} {answer} = each g
    where
      each : (g : Given PoolValue (List ℕ)) → Hands arena NamesToken g p r old new taken → answer ≡ as_named_result taken → Called some_messages (outcome_of g) [] (pool_with p ps) r qs answer
      each (Ok (hs, u)) is told =
          let pool : u ≡ r = sym is.left in
          let ts = map (token_of r.arena) hs in
          made p r ps qs fits some_messages hs [] [] ts (moved p.arena r.arena old new hs is.tokens) refl refl (λ h none. refl) (heads-tokens r.arena hs) (λ i. Ok (hs, pool i))
          (after ∙ stamps_tokens ts old new is.tokens.handed ∙ ap (with_tokens ts) before) (told ∙ ap as_named_result is.count)
      each (Err why) is told =
          refused p r ps qs fits some_messages is.left (after ∙ ap (λ (x : Naming). x.stamps.now.items) (sym is.tokens.handed) ∙ before) (told ∙ ap as_named_result is.count)

  -- and their names are stored in the slice that was lent, which ends as `slice`, if it has room for all
  pub stores_some : {g : Given PoolValue (List ℕ)} {taken : Result ℕ Refusal} {slice : List Name} → Hands arena NamesToken g p r old new taken → old.count ≡ 0
      → ((hs : List ℕ) (u : PoolValue) → g ≡ Ok (hs, u) → length hs ≤ length old.names.now) → (old.names.ghost_name ≡ new.names.ghost_name → slice ≡ new.names.now)
      → slice ≡ with_names (names_of some_messages (pool_with r qs) (outcome_of g)) old.names.now
  stores_some {g} {taken} is first few ends = ends (sym (keeps_names _ old new is.tokens.handed)) ∙ each g is first few
    where
      each : (g : Given PoolValue (List ℕ)) → Hands arena NamesToken g p r old new taken → old.count ≡ 0 → ((hs : List ℕ) (u : PoolValue) → g ≡ Ok (hs, u) → length hs ≤ length old.names.now)
          → new.names.now ≡ with_names (names_of some_messages (pool_with r qs) (outcome_of g)) old.names.now
      each (Err why) is first few = ap (λ (x : Naming). x.names.now) (sym is.tokens.handed)
      each (Ok (hs, u)) is first few =
          let a = r.arena in
          let ts = map (token_of a) hs in
          let names : names_given ts old.stamps.now.items ≡ map (λ h. name_of (pool_with r qs) h) hs =
          names_told a hs old.stamps.now.items is.tokens.apart
          ∙ (λ i. map (λ h. name_in (sym (after ∙ stamps_tokens ts old new is.tokens.handed) i) (token_of a h)) hs) in
          let enough = few hs u refl in
          stores_names ts old new is.tokens.handed (omega (arith, first, enough, length-map hs (token_of a)))
          ∙ (λ i. with_names_from (first i) (names i) old.names.now)
          ∙ with_names_from-first (map (λ h. name_of (pool_with r qs) h) hs) old.names.now (omega (arith, enough, length-map hs (λ h. name_of (pool_with r qs) h)))

-- ---- messages that are taken one after another

length-names_given : (ts : List TokenValue) (ss : List ℕ) → length (names_given ts ss) ≡ length ts
length-names_given [] ss = refl
length-names_given (t ∷ ts) ss = ap suc (length-names_given ts (with_tokens (t ∷ []) ss))

module _ (call : PoolValue → Given PoolValue (Option ℕ)) where
  -- one message is taken, and its token received
  abbrev one_received : PoolValue × Naming → TokenValue → PoolValue × Naming → Type 0
  one_received x t y = TakesAny arena (call x.0) x.0 y.0 (Ok (Some t)) × NamesToken x.1 t y.1

  -- one message is taken and named
  abbrev one_named : NamedValue → Name → NamedValue → Type 0
  one_named v n w = Does any_message (outcome_of (call v.pool)) [] v w (Ok (Some n)) × (held_at v.pool.arena n.head ≡ None)

  received : (ts : List TokenValue) (p r : PoolValue) (old new : Naming) → FoldsTo one_received (p, old) ts (r, new) → FoldsTo NamesToken old ts new
  received [] p r old new is = ap (λ (x : PoolValue × Naming). x.1) is
  received (t ∷ ts) p r old new is = (is.0.1, is.1.1, received ts is.0.0 r is.0.1 new is.2)

  named : (ts : List TokenValue) (p r : PoolValue) (old new : Naming) → Fits p.arena old.stamps.now.items → FoldsTo one_received (p, old) ts (r, new)
      → Fits r.arena new.stamps.now.items × FoldsTo one_named (pool_with p old.stamps.now.items) (names_given ts old.stamps.now.items) (pool_with r new.stamps.now.items)
  named [] p r old new fits is = (subst (λ (x : PoolValue × Naming). Fits x.0.arena x.1.stamps.now.items) is fits, ap (λ (x : PoolValue × Naming). pool_with x.0 x.1.stamps.now.items) is)
  named (t ∷ ts) p r old new fits is =
      let m = is.0.0 in
      let between = is.0.1 in
      let answer : Result (Option Name) Fault = Ok (Some (name_in (with_tokens (t ∷ []) old.stamps.now.items) t)) in
      let one : Called any_message (outcome_of (call p)) [] (pool_with p old.stamps.now.items) m between.stamps.now.items answer =
      gives_any fits is.1.0 is.1.1.stamps (ap (λ ss. Ok (Some (name_in ss t))) (sym is.1.1.stamps)) in
      let rest = named ts m r between new one.fits is.2 in
      (rest.0, (pool_with m between.stamps.now.items, (one.does, is.1.0.unheld), subst (λ q. FoldsTo one_named (pool_with m between.stamps.now.items) (names_given ts q) (pool_with r new.stamps.now.items)) is.1.1.stamps rest.1))

module _ (call : PoolValue → Given PoolValue (Option ℕ)) {p r : PoolValue} {qs : List ℕ} {old new : Naming} (fits : Fits p.arena old.stamps.now.items) (after : qs ≡ new.stamps.now.items)
    {most taken : ℕ} (takes : TakesEach arena NamesToken call most p r old new taken) where
  abbrev ts : List TokenValue
  ts = takes.tokens

  handed : FoldsTo NamesToken old ts new
  handed = received call ts p r old new takes.each

  pub each_keeps_stamps : new.stamps.ghost_name ≡ old.stamps.ghost_name
  each_keeps_stamps = keeps_stamps ts old new handed

  pub each_fits : Fits r.arena qs
  each_fits = subst (Fits r.arena) (sym after) (named call ts p r old new fits takes.each).0

  -- their names are stored in the slice that was lent, which ends as `slice`
  pub each_named : {slice : List Name} {v : NamedValue} {result : ℕ} → pool_with p old.stamps.now.items ≡ v → result ≡ old.count + taken → old.count + most ≤ length old.names.now
      → (old.names.ghost_name ≡ new.names.ghost_name → slice ≡ new.names.now) → TakesEachNamed (λ w. outcome_of (call w.pool)) old.count v (pool_with r qs) old.names.now slice result
  each_named {slice} {v} {result} view is room ends = subst (λ w. TakesEachNamed (λ x. outcome_of (call x.pool)) old.count w (pool_with r qs) old.names.now slice result) view (record {
    names = names_given ts old.stamps.now.items;
    each =
        subst (λ q. FoldsTo (one_named call) (pool_with p old.stamps.now.items) (names_given ts old.stamps.now.items) (pool_with r q)) (sym after)
        (named call ts p r old new fits takes.each).1;
    stored = ends (sym (keeps_names ts old new handed)) ∙ stores_names ts old new handed (omega (arith, room, takes.count, takes.few));
    count = omega (arith, is, takes.count, length-names_given ts old.stamps.now.items);
    within = omega (arith, is, room, takes.few);
  })
