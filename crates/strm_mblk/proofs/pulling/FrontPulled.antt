-- The first block's bytes, in a data block of their own.
use Rattle.std.proofs.Common.{◌≡◌, ◌≢◌, ℕ, ◌+◌, ◌-◌, ◌<◌, ◌≤◌, List, ◌++◌, length, take, drop, Some, sym, ap, ◌∙◌, inl, inr, arith, length-append, get_or-set_same, get_or-set_other, suc, eqb, [], ◌∷◌, set, refl, subst, length-set}
use Rattle.std.specs.Prelude.{min, slice_get, count_by, option_map}
use Rattle.std.proofs.Math.Seq.{drop-append-add, drop-append_seam, take-add, take-append_seam}
use Rattle.std.proofs.lemmas.Bool.{cases_lt, eq-eqb}
use Rattle.std.proofs.lemmas.List.{drop-drop, drop-take, length-take-le, set-set, take-append-le, take-take, length-take}
use Rattle.std.proofs.lemmas.Bool.Decides.{eqb_tells}
use Rattle.strm_data.specs.CountedStore.{CountedStore, IsKept, IsUnused, count_of, without_reference}
use Rattle.strm_data.specs.DataStore.{DataStore, data_block_at, bytes_overwritten, with_bytes_copied, with_bytes_written, capacity_of, times, with_data_taken, with_kind}
use Rattle.strm_data.specs.declared.msg_type.MsgType.{MsgType}
use Rattle.strm_links.proofs.lists.Counting.{one_if, times_here}
use Rattle.strm_mblk.specs.declared.blocks.Fields.{Fields}
use Rattle.strm_mblk.specs.Block.{Block, bytes_of, bytes_of_block, uses_data, kind_of}
use Rattle.strm_mblk.specs.BlocksLayout.{IsPlaced, block_of, IsFilled, arena_of, block_at, fields_at, message_of, data_used_by, no_fields}
use Rattle.strm_mblk.specs.Pulling.{with_front_copied, front_pulled, over_data}
use Rattle.strm_mblk.specs.Arena.{Arena, held_at, message_at, references_to, shelved_blocks, with_message}
use Rattle.strm_mblk.specs.Freeing.{with_reference_dropped}
use Rattle.strm_mblk.specs.Messages.{blocks_of}
use Rattle.strm_links.specs.ChainLists.{ChainLists, nodes_at}
use Rattle.strm_mblk.specs.Trimming.{store_with_front}
use Rattle.strm_mblk.proofs.Reading.{length-bytes_of_block}
use Rattle.strm_mblk.proofs.Lists.{drop_from, first_rest, count_adds}
use Rattle.strm_mblk.proofs.arena.Counts.{held_moves, held_within}
use Rattle.strm_mblk.proofs.Freeing.{last_one, named_less, rooms-less, enough}
use Rattle.strm_mblk.proofs.Nodes.{begins_with}
use Rattle.strm_mblk.proofs.layout.HeldBlocks.{written_shows, IsHeldHead}
use Rattle.strm_mblk.proofs.layout.Rooms.{HasRooms, count_of-set, placed-set, rooms-both, rooms-kind, rooms-taken, rooms-written, bytes-message, bytes-typed}
use Rattle.strm_mblk.proofs.layout.StoredArena.{held_at-seen, message_at-seen}
use Rattle.std.proofs.lemmas.Grind.{common_steps}

-- ==== the bytes of a message are copied into a data block, one message block after the other

-- bytes at the front, and more after them
overwritten_more : (front more old : List ℕ) → bytes_overwritten (length front) more (bytes_overwritten 0 front old) ≡ bytes_overwritten 0 (front ++ more) old
overwritten_more front more old = grind (arith, common_steps, take-append_seam, drop-append-add, drop-drop, length-append)

module _ (s : DataStore) (d : ℕ) (there : d < length s.blocks) where
  written_more : (front more : List ℕ) → with_bytes_written d (length front) more (with_bytes_written d 0 front s) ≡ with_bytes_written d 0 (front ++ more) s
  written_more front more = grind (arith, common_steps, get_or-set_same, set-set, overwritten_more)

-- `done` of the `count` bytes, those of the blocks before k as far as they go, are in the data block
pub record IsFrontCopied (s : CountedStore) (m : List Block) (into count k done : ℕ) (t : CountedStore) : Type 0 where
  pub few : done ≤ count
  pub after : t ≡ with_front_copied into done m s
  pub left : take (count - done) (drop done (bytes_of s.store m)) ≡ take (count - done) (bytes_of s.store (drop k m))

module _ {s : CountedStore} {m : List Block} {into count : ℕ} {k done : ℕ} {t : CountedStore} (copied : IsFrontCopied s m into count k done t) (enough : count ≤ length (bytes_of s.store m)) where
  abbrev all : List ℕ
  all = bytes_of s.store m

  -- the next block, which does not name the data block
  module _ (there : into < length s.store.blocks) (n : ℕ) {f : Fields} (at : slice_get m k ≡ Some (block_of n f)) (placed : IsPlaced s.store f) (other : f.data_number ≢ into) {len : ℕ} (len_is : len ≡ min f.len (count - done)) where
    abbrev own : List ℕ
    own = bytes_of_block s.store (block_of n f)

    abbrev behind : List ℕ
    behind = bytes_of s.store (drop (k + 1) m)

    rest_is : bytes_of s.store (drop k m) ≡ own ++ behind
    rest_is = ap (bytes_of s.store) (drop_from m k (block_of n f) at)

    own_long : length own ≡ f.len
    own_long = length-bytes_of_block n placed

    left_is : take (count - done) (drop done all) ≡ take (count - done) (own ++ behind)
    left_is = copied.left ∙ ap (take (count - done)) rest_is

    -- the bytes that are copied are the next ones
    abbrev more : List ℕ
    more = take len (drop done all)

    untouched : (data_block_at t.store f.data_number).bytes ≡ (data_block_at s.store f.data_number).bytes
    untouched = grind (arith, common_steps, get_or-set_other)

    more_is : take len (drop f.offset (data_block_at t.store f.data_number).bytes) ≡ more
    more_is =
        ap (λ bytes. take len (drop f.offset bytes)) untouched
        ∙ sym (take-take len f.len (drop f.offset (data_block_at s.store f.data_number).bytes) (omega (arith, len_is)))
        ∙ sym (take-append-le len own behind (omega (arith, own_long, len_is)))
        ∙ sym (take-take len (count - done) (own ++ behind) (omega (arith, len_is)))
        ∙ ap (take len) (sym left_is)
        ∙ take-take len (count - done) (drop done all) (omega (arith, len_is))

    next_after : {u : CountedStore} → u ≡ record t { store = with_bytes_copied f.data_number f.offset into done len t.store } → u ≡ with_front_copied into (done + len) m s
    next_after is =
        let many : length (take done all) ≡ done = length-take-le done all (omega (arith, copied.few, enough)) in
        is ∙ ap (λ bytes. record t { store = with_bytes_written into done bytes t.store }) more_is
        ∙ ap (λ (c : CountedStore). record c { store = with_bytes_written into done more c.store }) copied.after
        ∙ ap (λ j. record s { store = with_bytes_written into j more (with_bytes_written into 0 (take done all) s.store) }) (sym many)
        ∙ ap (λ w. record s { store = w }) (written_more s.store into there (take done all) more)
        ∙ ap (λ bytes. record s { store = with_bytes_written into 0 bytes s.store }) (sym (take-add done len all))

    next_left : take (count - (done + len)) (drop (done + len) all) ≡ take (count - (done + len)) behind
    next_left =
        let r = count - (done + len) in
        elim (cases_lt (count - done) f.len) [
          | inl part ↦
              let none : r ≡ 0 = omega (arith, len_is) in
              (λ i. take (none i) (drop (done + len) all)) ∙ (λ i. take (sym none i) behind)
          | inr whole ↦
              let split : count - done ≡ len + r = omega (arith, len_is) in
              ap (take r) (sym (drop-drop len done all)) ∙ sym (drop-take len r (drop done all))
              ∙ ap (drop len) (ap (λ j. take j (drop done all)) (sym split) ∙ left_is ∙ ap (λ j. take j (own ++ behind)) split)
              ∙ drop-take len r (own ++ behind)
              ∙ ap (λ j. take r (drop j (own ++ behind))) (let e : len ≡ length own = omega (arith, len_is, own_long) in e)
              ∙ ap (take r) (drop-append_seam own behind)
        ]

    pub next_copied : {u : CountedStore} → u ≡ record t { store = with_bytes_copied f.data_number f.offset into done len t.store } → IsFrontCopied s m into count (k + 1) (done + len) u
    next_copied is = record { few = omega (arith, len_is, copied.few); after = next_after is; left = next_left }

-- ==== the first block of a held message takes a data block that has the first bytes of the message

-- a data block that is taken, gets a type, and then the first bytes of some blocks, keeps its capacity
rooms-pulled : (s : DataStore) (n : ℕ) (b : Block) (bs : List Block) (d : ℕ) → n ≤ capacity_of s d → HasRooms s (store_with_front n (b ∷ bs) s d)
rooms-pulled s n b bs d room =
    let typed = rooms-both (rooms-taken s d) (rooms-kind (with_data_taken d s) d (kind_of s b)) in
    rooms-both typed (rooms-written (with_kind d (kind_of s b) (with_data_taken d s)) d 0 (take n (bytes_of s (b ∷ bs))) (omega (arith, room, typed.room d, length-take n (bytes_of s (b ∷ bs)))))

-- what the first block uses is another data block: `a` is what was there
pub record IsFrontPulled (a : Arena) (t : CountedStore) (fields : List Fields) (v : ChainLists) (id h d n : ℕ) : Type 0 where
  pub filled : IsFilled t fields v (arena_of id t.store fields v)
  pub after : arena_of id t.store fields v ≡ front_pulled h n (message_at a h) a d
  pub shelved : shelved_blocks (arena_of id t.store fields v) ≡ shelved_blocks a

-- one more block uses a data block that none used
one_more : (s : CountedStore) (store : DataStore) (d k : ℕ) → d < length s.counts → count_of s d ≡ 0 → count_of (record { store = store; counts = set s.counts d 1 }) k ≡ count_of s k + one_if (eqb d k)
one_more s store d k inside none = grind (arith, common_steps, count_of-set, eqb_tells)

module _ {id : ℕ} {s : CountedStore} {fields : List Fields} {v : ChainLists} (filled : IsFilled s fields v (arena_of id s.store fields v)) {h : ℕ} (is : IsHeldHead fields v h) where
  abbrev old : Arena
  old = arena_of id s.store fields v

  abbrev was : Fields
  was = fields_at fields h

  -- the blocks after the first
  abbrev rest : List Block
  rest = message_of fields (drop 1 (nodes_at v h))

  nodes_are : nodes_at v h ≡ h ∷ drop 1 (nodes_at v h)
  nodes_are = first_rest (nodes_at v h) (begins_with filled.parted h is.held)

  message_is : message_at old h ≡ block_at fields h ∷ rest
  message_is = message_at-seen id s.store fields v h ∙ ap (message_of fields) nodes_are

  pub head_held : held_at old h ≡ Some (block_at fields h ∷ rest)
  head_held = held_at-seen id s.store fields v h ∙ ap (option_map (message_of fields)) is.held ∙ ap (λ ns. Some (message_of fields ns)) nodes_are

  -- its data block has a name
  pub former_used : 0 < count_of s was.data_number
  former_used =
      omega (
        arith,
        enough id s fields v filled h is.held was.data_number,
        ap (λ ns. times was.data_number (data_used_by fields ns)) nodes_are,
        times_here was.data_number was.data_number (data_used_by fields (drop 1 (nodes_at v h))) refl,
      )

  -- d is taken, gets the type of the first block's, and then the first n bytes
  pub pulled_is : (n d : ℕ) {kind : MsgType} → kind ≡ kind_of s.store (block_at fields h) → {w u : CountedStore}
      → w ≡ record { store = with_kind d kind (with_data_taken d s.store); counts = set s.counts d 1 } → u ≡ with_front_copied d n (message_of fields (nodes_at v h)) w
      → u ≡ record { store = store_with_front n (block_at fields h ∷ rest) s.store d; counts = set s.counts d 1 }
  pulled_is n d kind_is w_is u_is = grind (arith, common_steps, nodes_are, bytes-message, bytes-typed)

  -- the bytes that are in it then
  module _ (n d : ℕ) (fresh : IsUnused s d) (room : n ≤ capacity_of s.store d) (u : CountedStore) (u_is : u ≡ record { store = store_with_front n (block_at fields h ∷ rest) s.store d; counts = set s.counts d 1 }) where
    abbrev stored : DataStore
    stored = store_with_front n (block_at fields h ∷ rest) s.store d

    -- one more block uses the data block that was taken
    named_more : (k : ℕ) → count_of u k ≡ count_of s k + one_if (eqb d k)
    named_more k = ap (λ (c : CountedStore). count_of c k) u_is ∙ one_more s stored d k (omega (arith, fresh.there, filled.kept.counted)) fresh.unnamed

    pub still_used : 0 < count_of u was.data_number
    still_used = omega (arith, former_used, named_more was.data_number)

    rooms_u : HasRooms s.store u.store
    rooms_u = subst (HasRooms s.store) (sym (ap (λ (c : CountedStore). c.store) u_is)) (rooms-pulled s.store n (block_at fields h) rest d room)

    pub still_there : was.data_number < length u.store.blocks
    still_there = omega (arith, rooms_u.many, (filled.placed h is.there).there)

    module _ (t : CountedStore) (x : Fields) (kept : IsKept t) (t_is : t ≡ without_reference was.data_number u) (x_is : x ≡ record { data_number = d; offset = 0; len = n; band = was.band }) where
      abbrev now : List Fields
      now = set fields h x

      -- the first block as it is now
      abbrev first : Block
      first = over_data d n (block_at fields h)

      -- and the arena, but that the former data block has not lost its name
      abbrev named : Arena
      named = with_message h (first ∷ rest) (record old { store = stored })

      names_moved : (k : ℕ) → references_to named k + one_if (eqb was.data_number k) ≡ references_to old k + one_if (eqb d k)
      names_moved k =
          omega (
            arith,
            held_moves (count_adds (uses_data k)) old h (Some (first ∷ rest)) (held_within old h (block_at fields h ∷ rest) head_held),
            ap (λ o. count_by (uses_data k) (blocks_of o)) head_held,
            (count_adds (uses_data k)).both (first ∷ []) rest,
            (count_adds (uses_data k)).both (block_at fields h ∷ []) rest,
          )

      less : (k : ℕ) → count_of t k + one_if (eqb was.data_number k) ≡ count_of u k
      less k = ap (λ (c : CountedStore). count_of c k + one_if (eqb was.data_number k)) t_is ∙ named_less u was.data_number still_used k

      counted_now : (k : ℕ) → count_of t k ≡ references_to named k
      counted_now k = omega (arith, less k, named_more k, names_moved k, filled.counts k)

      -- the former data block is free where that was its last name
      one_less : count_of u was.data_number ≡ suc (references_to named was.data_number + 0)
      one_less = omega (arith, named_more was.data_number, names_moved was.data_number, filled.counts was.data_number, ap one_if (eq-eqb was.data_number was.data_number refl))

      block_is : block_at now h ≡ first
      block_is = ap (block_of h) (get_or-set_same fields h x no_fields is.there ∙ x_is)

      shows : arena_of id t.store now v ≡ record named { store = t.store }
      shows =
          written_shows filled h 0 is.held is.first t.store x
          ∙ ap (λ (ns : List ℕ). record old { store = t.store; held = set old.held h (Some (set (message_of fields ns) 0 (block_at now h))) }) nodes_are
          ∙ ap (λ b. record old { store = t.store; held = set old.held h (Some (b ∷ rest)) }) block_is

      store_is : t.store ≡ (with_reference_dropped was.data_number [] named).store
      store_is = grind (arith, common_steps, last_one, one_less)

      rooms : HasRooms s.store t.store
      rooms = subst (HasRooms s.store) (sym (ap (λ (c : CountedStore). c.store) t_is)) (rooms-both rooms_u (rooms-less u was.data_number))

      placed : IsPlaced t.store x
      placed = subst (IsPlaced t.store) (sym x_is) (record { there = omega (arith, fresh.there, rooms.many); within = omega (arith, room, rooms.room d); banded = (filled.placed h is.there).banded })

      pub pulls_front : IsFrontPulled old t now v id h d n
      pulls_front = record {
        filled = record {
          kept = kept;
          parted = filled.parted;
          few = filled.few;
          listed = omega (arith, filled.listed, length-set fields h x);
          placed = placed-set s.store fields h rooms placed filled.placed;
          counts = λ k. counted_now k ∙ ap (λ a. references_to a k) (sym shows);
        };
        after = shows ∙ ap (λ w. record named { store = w }) store_is ∙ ap (λ m. front_pulled h n m old d) (sym message_is);
        shelved = ap shelved_blocks shows;
      }
