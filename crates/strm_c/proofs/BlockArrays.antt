-- Arrays with an item for each block of a message.
use Rattle.std.proofs.Common.{◌≡◌, ℕ, zero, suc, ◌+◌, ◌-◌, ◌<◌, ◌≤◌, Bool, true, false, List, [], ◌∷◌, ◌++◌, length, map, set, take, drop, Option, Some, None, Result, Ok, Err, refl, sym, ap, ◌∙◌, subst, arith, append_assoc}
use Rattle.std.specs.Prelude.{◌==◌, filter, if◌then◌else◌, is_some, min, ok_or, option_map, slice_get}
use Rattle.std.specs.Result.{result_ok}
use Rattle.std.specs.List.{All, flat_map}
use Rattle.std.proofs.lemmas.Bool.{cond-false, cond-true}
use Rattle.std.proofs.lemmas.Grind.{drop_more_same, flat_map-append}
use Rattle.std.proofs.lemmas.List.{drop-drop, drop-map, drop-set-lt, drop_at, length-append, length-drop, length-map, length-take-le, map-set, take-map, take_all, take_at, take_more_set}
use Rattle.std.proofs.lemmas.List.Elements.{All-nil, All-push}
use Rattle.std.proofs.lemmas.Option.{none-some, slice_get-map}
use borrow.Rule.Slice.PartMut.{post_of, put_mid}
use Rattle.strm_data.specs.declared.refusal.Refusal.{Refusal}
use Rattle.strm_data.specs.declared.refusal.Refusal.TheVariants.{NoSuchBlock, NoSuchPlace}
use Rattle.strm_data.specs.DataStore.{DataStore}
use Rattle.strm_links.specs.Chains.{chain_in, items_in, items_of}
use Rattle.strm_mblk.specs.Arena.{Arena, message_at}
use Rattle.strm_mblk.specs.Block.{Block, Message, bytes_of_block, head_of}
use Rattle.strm_mblk.specs.BlockCalls.{info_of}
use Rattle.strm_mblk.specs.Given.{and_then, answer_map}
use Rattle.strm_mblk.specs.InPlace.{bytes, infos_from}
use Rattle.strm_mblk.specs.Messages.{blocks_of, blocks_on}
use Rattle.strm_mblk.specs.Shelves.{shelf_of, shelved_message}
use Rattle.strm_mblk.proofs.Lists.{filled_more, got_behind, put_rest}
use Rattle.strm_pool.specs.Lawful.{IsLawful}
use Rattle.strm_pool.specs.PoolValue.{PoolValue, queued_blocks_of}
use Rattle.strm_queue.specs.QueueLooks.{queued_bytes}
use Rattle.strm_named.specs.declared.fault.Fault.{Fault}
use Rattle.strm_named.specs.declared.fault.Fault.TheVariants.{Invalid}
use Rattle.strm_named.specs.declared.name.Name.{Name}
use Rattle.strm_named.specs.NamedCalls.{as_named_result, asked, if_valid, result_map}
use Rattle.strm_named.specs.NamedValue.{NamedValue, is_valid}
use Rattle.strm_c.specs.declared.arrays.Lent.{Lent}
use Rattle.strm_c.specs.declared.arrays.Lent.TheVariants as lents
use Rattle.strm_c.specs.declared.layout.StrmIov.{StrmIov}
use Rattle.strm_c.specs.Exports.{array_with}
use Rattle.strm_c.specs.InC.{block_in_c}
use Rattle.strm_c.specs.declared.layout.StrmBlockInfo.{StrmBlockInfo}
use Rattle.strm_c.specs.InPlace.{AreLent, IsAddress, blocks_lent, infos_asked, infos_stored, lengths_asked, lengths_in, lengths_lent, lengths_of, lengths_queued}

-- ---- the blocks of a message

items_few : {X : Type 0} (h : ℕ) (chains : List (Option (List X))) → length (items_of (chain_in chains h)) ≤ length (items_in chains)
items_few h [] = omega arith
items_few zero (m ∷ chains) = omega (arith, length-append (items_of m) (items_in chains))
items_few (suc h) (m ∷ chains) = omega (arith, length-append (items_of m) (items_in chains), items_few h chains)

-- a message has no more blocks than the pool
pub few_blocks : (p : PoolValue) → IsLawful p → (h : ℕ) → length (message_at p.arena h) ≤ 16383
few_blocks p law h = omega (arith, items_few h p.arena.held, law.whole, law.few)

first_few : (p : Message → Bool) (ms : List Message) → length (blocks_of (slice_get (filter p ms) 0)) ≤ length (flat_map (λ m. m) ms)
first_few p [] = omega arith
first_few p (m ∷ ms) = by_choice (p m) (first_few p ms)
  where
    by_choice : (is : Bool) → length (blocks_of (slice_get (filter p ms) 0)) ≤ length (flat_map (λ m. m) ms) → length (blocks_of (slice_get (if is then m ∷ filter p ms else filter p ms) 0)) ≤ length (m ++ flat_map (λ m. m) ms)
    by_choice true few = omega (arith, length-append m (flat_map (λ m. m) ms))
    by_choice false few = omega (arith, length-append m (flat_map (λ m. m) ms), few)

on_all : (shelves : List (List Message)) → length (flat_map (λ m. m) (flat_map (λ ms. ms) shelves)) ≡ length (blocks_on shelves)
on_all [] = refl
on_all (ms ∷ shelves) =
    omega (
      arith,
      ap length (flat_map-append (λ m. m) ms (flat_map (λ ms. ms) shelves)),
      length-append (flat_map (λ m. m) ms) (flat_map (λ m. m) (flat_map (λ ms. ms) shelves)),
      length-append (flat_map (λ m. m) ms) (blocks_on shelves),
      on_all shelves,
    )

-- nor has one that is lent
pub few_lent : (v : NamedValue) → IsLawful v.pool → (lent : Lent) → length (blocks_lent v lent) ≤ 16383
few_lent v law (lents.Held n) = by_valid (is_valid v n)
  where
    by_valid : (valid : Bool) → length (if valid then message_at v.pool.arena n.head else []) ≤ 16383
    by_valid true = few_blocks v.pool law n.head
    by_valid false = omega arith
few_lent v law (lents.Queued h) = by_shelf (is_some (shelf_of v.pool.arena h))
  where
    by_shelf : (some : Bool) → length (if some then shelved_message v.pool.arena h else []) ≤ 16383
    by_shelf true = omega (arith, first_few (λ m. head_of m == h) (flat_map (λ ms. ms) v.pool.arena.shelves), on_all v.pool.arena.shelves, law.whole, law.few)
    by_shelf false = omega arith

past : {X : Type 0} (xs : List X) (k : ℕ) → slice_get xs k ≡ None → length xs ≤ k
past [] k is = omega arith
past (x ∷ xs) zero is = absurd (none-some x (sym is))
past (x ∷ xs) (suc k) is = omega (arith, past xs k is)

pub length-lengths_in : (s : DataStore) (m : Message) (from : ℕ) → length (lengths_in s m from) ≡ length m - from
length-lengths_in s m from = length-map (drop from m) (λ (b : Block). length (bytes_of_block s b)) ∙ length-drop from m

pub length-infos_from : (h from : ℕ) (a : Arena) → length (map block_in_c (infos_from h from a)) ≡ length (message_at a h) - from
length-infos_from h from a =
    length-map (infos_from h from a) block_in_c ∙ length-map (drop from (message_at a h)) (info_of a) ∙ length-drop from (message_at a h)

-- ---- infos, in several parts

take_plus : {X : Type 0} (d n : ℕ) (xs : List X) → take d xs ++ take n (drop d xs) ≡ take (d + n) xs
take_plus zero n xs = ap (λ (k : ℕ). take k xs) (let e : n ≡ 0 + n = omega arith in e)
take_plus (suc d) n [] = take_all n [] (omega arith) ∙ sym (take_all (suc d + n) [] (omega arith))
take_plus (suc d) n (x ∷ xs) = ap (λ ys. x ∷ ys) (take_plus d n xs) ∙ ap (λ (k : ℕ). take k (x ∷ xs)) (let e : suc (d + n) ≡ suc d + n = omega arith in e)

-- n items more, in the part of an array that begins at d
pub more_stored : {X : Type 0} (d n : ℕ) (items old now part : List X) → d ≤ length items → now ≡ array_with d items old → part ≡ array_with n (drop d items) (drop d now)
    → put_mid d (length now - d) now part ≡ array_with (d + n) items old
more_stored d n items old now part few is got =
    let front : length (take d items) ≡ d = length-take-le d items few in
    put_rest d now part
    ∙ ap (λ xs. take d xs ++ part) is ∙ ap (λ xs. xs ++ part) (take_at (take d items) (drop d old) d front)
    ∙ ap (λ ys. take d items ++ ys)
    (got ∙ ap (λ xs. take n (drop d items) ++ drop n xs) (ap (drop d) is ∙ drop_at (take d items) (drop d old) d front) ∙ ap (λ xs. take n (drop d items) ++ xs) (drop-drop n d old))
    ∙ sym (append_assoc (take d items) (take n (drop d items)) (drop (d + n) old))
    ∙ ap (λ xs. xs ++ drop (d + n) old) (take_plus d n items)

-- items that were written at the beginning of a buffer
pub in_buffer : {X : Type 0} (room count : ℕ) (items buffer old part : List X) → count ≤ length items → part ≡ array_with count items old → take count (put_mid 0 room buffer part) ≡ take count items
in_buffer room count items buffer old part few is =
    ap (λ ys. take count (ys ++ post_of 0 room buffer)) is ∙ ap (take count) (append_assoc (take count items) (drop count old) (post_of 0 room buffer))
    ∙ take_at (take count items) (drop count old ++ post_of 0 room buffer) count (length-take-le count items few)

-- the first items, each converted and stored
pub stored_of : {X Y : Type 0} (f : X → Y) (count : ℕ) (items part : List X) (old : List Y) → count ≤ length items → part ≡ take count items
    → array_with (length part) (map f part) old ≡ array_with count (map f items) old
stored_of f count items part old few is =
    let long : length part ≡ count = ap length is ∙ length-take-le count items few in
    ap (λ k. array_with k (map f part) old) long
    ∙ ap (λ xs. xs ++ drop count old) (take_all count (map f part) (omega (arith, length-map part f, long)) ∙ ap (map f) is ∙ sym (take-map f count items))

-- the infos without the first d
pub infos_behind : (h from d : ℕ) (a : Arena) → drop d (map block_in_c (infos_from h from a)) ≡ map block_in_c (infos_from h (from + d) a)
infos_behind h from d a =
    drop-map block_in_c d (infos_from h from a) ∙ ap (map block_in_c) (drop-map (info_of a) d (drop from (message_at a h)) ∙ ap (map (info_of a)) (drop-drop d from (message_at a h)))

-- ---- bytes that are lent

-- the answer to a question about a message
pub told_valid : {X : Type 0} (v : NamedValue) (n : Name) (x y : X) → is_valid v n ≡ true → Ok x ≡ if_valid v n y → x ≡ y
told_valid {X} v n x y valid is =
    let told : Result X Fault = Ok y in
    let same : Ok x ≡ told = is ∙ cond-true (is_valid v n) told (Err Invalid) valid in cc

-- the bytes of a block, by the answer of a call that lends them
module _ {R : Type 0} (shown : R → List ℕ) (s : DataStore) (k : ℕ) where
  by_block : (o : Option Block) (answer : Result R Refusal) → answer_map shown answer ≡ answer_map (bytes_of_block s) (ok_or o NoSuchBlock) → option_map shown (result_ok answer) ≡ option_map (bytes_of_block s) o
  by_block None (Ok r) is = absurd cc
  by_block None (Err e) is = refl
  by_block (Some b) (Ok r) is = cc
  by_block (Some b) (Err e) is = absurd cc

  by_shelf : (shelf : Option ℕ) (m : Message) (answer : Result R Refusal) → answer_map shown answer ≡ and_then (λ q. answer_map (bytes_of_block s) (ok_or (slice_get m k) NoSuchBlock)) (ok_or shelf NoSuchPlace)
      → option_map shown (result_ok answer) ≡ option_map (bytes_of_block s) (slice_get (if is_some shelf then m else []) k)
  by_shelf None m (Ok r) is = absurd cc
  by_shelf None m (Err e) is = refl
  by_shelf (Some q) m answer is = by_block (slice_get m k) answer is

  by_named : (o : Option Block) (answer : Result R Fault) → result_map shown answer ≡ as_named_result (answer_map (bytes_of_block s) (ok_or o NoSuchBlock)) → option_map shown (result_ok answer) ≡ option_map (bytes_of_block s) o
  by_named None (Ok r) is = absurd cc
  by_named None (Err e) is = refl
  by_named (Some b) (Ok r) is = cc
  by_named (Some b) (Err e) is = absurd cc

  by_valid : (valid : Bool) (m : Message) (answer : Result R Fault) → result_map shown answer ≡ (if valid then as_named_result (answer_map (bytes_of_block s) (ok_or (slice_get m k) NoSuchBlock)) else Err Invalid)
      → option_map shown (result_ok answer) ≡ option_map (bytes_of_block s) (slice_get (if valid then m else []) k)
  by_valid false m (Ok r) is = absurd cc
  by_valid false m (Err e) is = refl
  by_valid true m answer is = by_named (slice_get m k) answer is

pub held_ok : {R : Type 0} (shown : R → List ℕ) (v : NamedValue) (n : Name) (k : ℕ) (answer : Result R Fault) → result_map shown answer ≡ asked v n (bytes n.head k v.pool.arena)
    → option_map shown (result_ok answer) ≡ option_map (bytes_of_block v.pool.arena.store) (slice_get (blocks_lent v (lents.Held n)) k)
held_ok shown v n k answer is = by_valid shown v.pool.arena.store k (is_valid v n) (message_at v.pool.arena n.head) answer is

pub queued_ok : {R : Type 0} (shown : R → List ℕ) (v : NamedValue) (h k : ℕ) (answer : Result R Refusal) → answer_map shown answer ≡ queued_bytes h k (queued_blocks_of v.pool)
    → option_map shown (result_ok answer) ≡ option_map (bytes_of_block v.pool.arena.store) (slice_get (blocks_lent v (lents.Queued h)) k)
queued_ok shown v h k answer is = by_shelf shown v.pool.arena.store k (shelf_of v.pool.arena h) (shelved_message v.pool.arena h) answer is

module _ (s : DataStore) (m : Message) (from d place : ℕ) (at : place ≡ from + d) where
  abbrev size : Block → ℕ
  size b = length (bytes_of_block s b)

  sized : (o : Option Block) (bs : List ℕ) → Some bs ≡ option_map (bytes_of_block s) o → option_map size o ≡ Some (length bs)
  sized None bs is = absurd cc
  sized (Some b) bs is = cc

  -- the block at this place is lent: its length
  pub lent_at : (bs : List ℕ) → Some bs ≡ option_map (bytes_of_block s) (slice_get m place) → slice_get (lengths_in s m from) d ≡ Some (length bs)
  lent_at bs is = slice_get-map size (drop from m) d ∙ ap (option_map size) (got_behind m from d ∙ ap (slice_get m) (sym at)) ∙ sized (slice_get m place) bs is

  missing : (o : Option Block) → None ≡ option_map (bytes_of_block s) o → o ≡ None
  missing None is = refl
  missing (Some b) is = absurd cc

  -- no block is at this place
  pub none_at : None ≡ option_map (bytes_of_block s) (slice_get m place) → length m ≤ place
  none_at is = past m place (missing (slice_get m place) is)

abbrev IsAddressed : StrmIov → Type 0
IsAddressed i = IsAddress i.base

-- the first d items are lent
pub record AreLentSoFar (sizes : List ℕ) (old now : List StrmIov) (d : ℕ) : Type 0 where
  pub few : d ≤ length sizes
  pub lengths : lengths_of now ≡ array_with d sizes (lengths_of old)
  pub addresses : All IsAddressed (take d now)
  pub rest : drop d now ≡ drop d old

pub lent_none : (sizes : List ℕ) (old : List StrmIov) → AreLentSoFar sizes old old 0
lent_none sizes old = record { few = omega arith; lengths = refl; addresses = All-nil IsAddressed; rest = refl }

pub within_sizes : (sizes : List ℕ) (d n : ℕ) → slice_get sizes d ≡ Some n → d + 1 ≤ length sizes
within_sizes [] d n is = absurd (none-some n is)
within_sizes (x ∷ sizes) zero n is = omega arith
within_sizes (x ∷ sizes) (suc d) n is = omega (arith, within_sizes sizes d n is)

pub lent_more : (sizes : List ℕ) (old now : List StrmIov) (d : ℕ) (item : StrmIov) → AreLentSoFar sizes old now d → d < length now → length now ≡ length old
    → slice_get sizes d ≡ Some item.length → IsAddress item.base → AreLentSoFar sizes old (set now d item) (d + 1)
lent_more sizes old now d item so within same size address = record {
  few = within_sizes sizes d item.length size;
  lengths =
      map-set (λ (i : StrmIov). i.length) now d item ∙ ap (λ xs. set xs d item.length) so.lengths
      ∙ filled_more sizes (lengths_of old) d item.length size (omega (arith, within, same, length-map old (λ (i : StrmIov). i.length)));
  addresses = subst (All IsAddressed) (sym (take_more_set now d item within)) (All-push IsAddressed (take d now) item so.addresses address);
  rest = drop-set-lt (d + 1) now d item (omega arith) ∙ drop_more_same now old d so.rest;
}

pub lent_all : (sizes : List ℕ) (old now : List StrmIov) (d : ℕ) → AreLentSoFar sizes old now d → d ≡ min (length old) (length sizes) → AreLent sizes old now
lent_all sizes old now d so all =
    let s : AreLentSoFar sizes old now (min (length old) (length sizes)) = subst (AreLentSoFar sizes old now) all so in
    record { lengths = s.lengths; addresses = s.addresses; rest = s.rest }

-- ---- if the handle is open

module _ (v : NamedValue) (n : Name) (from : ℕ) where
  pub infos_valid : (old : List StrmBlockInfo) → is_valid v n ≡ true → infos_asked (Some v) n from old ≡ infos_stored v n from old
  infos_valid old valid = cond-true (is_valid v n) (infos_stored v n from old) old valid

  pub infos_invalid : (old : List StrmBlockInfo) → is_valid v n ≡ false → infos_asked (Some v) n from old ≡ old
  infos_invalid old not = cond-false (is_valid v n) (infos_stored v n from old) old not

drop_nil : {X : Type 0} (n : ℕ) → drop n (let none : List X = [] in none) ≡ []
drop_nil zero = refl
drop_nil (suc n) = refl

-- what is lent of a message that is not there: nothing
sized_if : (s : DataStore) (there : Bool) (m : Message) (from : ℕ) → lengths_in s (if there then m else []) from ≡ (if there then lengths_in s m from else [])
sized_if s true m from = refl
sized_if s false m from = ap (map (λ (b : Block). length (bytes_of_block s b))) (drop_nil from)

pub lent_held : (v : NamedValue) (n : Name) (from : ℕ) (old new : List StrmIov) → AreLent (lengths_lent v (lents.Held n) from) old new → AreLent (lengths_asked (Some v) n from) old new
lent_held v n from old new are = subst (λ (sizes : List ℕ). AreLent sizes old new) (sized_if v.pool.arena.store (is_valid v n) (message_at v.pool.arena n.head) from) are

pub lent_queued : (v : NamedValue) (h from : ℕ) (old new : List StrmIov) → AreLent (lengths_lent v (lents.Queued h) from) old new → AreLent (lengths_queued (Some v) h from) old new
lent_queued v h from old new are = subst (λ (sizes : List ℕ). AreLent sizes old new) (sized_if v.pool.arena.store (is_some (shelf_of v.pool.arena h)) (shelved_message v.pool.arena h) from) are

-- nothing is lent
pub lent_nothing : (old : List StrmIov) → AreLent [] old old
lent_nothing old = lent_all [] old old 0 (lent_none [] old) (let none : 0 ≡ min (length old) 0 = omega arith in none)
