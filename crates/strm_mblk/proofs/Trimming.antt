-- `adjmsg`.
use Rattle.std.proofs.Common.{◌≡◌, ℕ, ◌+◌, ◌-◌, ◌≤◌, Bool, true, false, List, [], ◌∷◌, ◌++◌, length, reverse, drop, take, Some, refl, sym, ap, ◌∙◌, subst, inl, inr, ◌⊎◌, arith, if◌then◌else◌, zero, suc, ◌^◌, ◌<◌, min, set, get_or-set_same, get_or-set_other, length-set, ℤ, pos, negsuc, None, Ok, Err, le-ltb}
use Rattle.std.specs.Prelude.{slice_get, nat_lt, unsigned_abs}
use Rattle.std.specs.List.{take_while}
use Rattle.std.proofs.lemmas.Bool.{cond-true, cond-false, cases_Bool, false≢true, cases_eq}
use Rattle.std.proofs.lemmas.List.{map-append, reverse-append, take-append-drop, set-get_or, set_past, length-map}
use Rattle.std.proofs.lemmas.List.Sums.{sum_by-append, take_while-cons}
use Rattle.std.proofs.lemmas.Option.{none-some, same_Some, slice_get_within}
use Rattle.std.specs.Int.{is_negative}
use denote.Enum.Bare.{same_true, true_same}
use Rattle.strm_data.specs.DataStore.{DataStore, times}
use Rattle.strm_data.specs.contracts.msg_type.MsgType.{the_type}
use Rattle.strm_data.specs.declared.msg_type.MsgType.{MsgType}
use Rattle.strm_data.specs.MsgType.{same_kind}
use Rattle.strm_links.proofs.lists.Counting.{times-cons, times_here}
use Rattle.strm_data.specs.declared.refusal.Refusal.TheVariants.{Short}
use Rattle.strm_data.specs.CountedStore.{CountedStore}
use Rattle.strm_data.proofs.store.Kept.{capacity_range}
use Rattle.strm_mblk.specs.declared.blocks.Fields.{Fields}
use Rattle.strm_mblk.specs.declared.blocks.trimming.Run.{Run}
use Rattle.strm_mblk.specs.Block.{Block, kind_of, size_of, Message}
use Rattle.strm_mblk.specs.BlocksLayout.{block_at, message_of, IsPlaced, block_of, fields_at, no_fields, IsFilled, arena_of}
use Rattle.strm_mblk.specs.Cutting.{IsRun, run_with, fields_cut, with_bytes_cut}
use Rattle.strm_mblk.specs.Trimming.{from_end, run_of, blocks_cut_back, blocks_cut_front, adjmsg, message_cut}
use Rattle.strm_mblk.specs.declared.token.TokenValue.{TokenValue}
use Rattle.strm_mblk.specs.Arena.{Arena, has, held_at, shelved_blocks}
use Rattle.strm_mblk.specs.Given.{answer_map}
use Rattle.strm_mblk.specs.Messages.{blocks_of, held_in}
use Rattle.strm_links.specs.ChainLists.{ChainLists, nodes_at}
use Rattle.strm_mblk.proofs.Lists.{drop_from}
use Rattle.strm_mblk.proofs.Freeing.{reverse_onto}
use Rattle.strm_mblk.proofs.layout.StoredArena.{alike_off, message-alike, message_at-seen}
use Rattle.strm_mblk.proofs.arena.Counts.{held_within, IsHad, had_again, had_message}
use Rattle.strm_mblk.proofs.layout.HeldBlocks.{AreHeld, AreRewritten, held_nodes, message_filled, message_shows, once_within, within_room}
use Rattle.std.proofs.lemmas.Grind.{common_steps}

-- ==== the blocks of one type at an end of a message, measured from the first block on

-- the bytes of a first block and of the others
pub size_front : (b : Block) (m : List Block) → size_of (b ∷ m) ≡ b.len + size_of m
size_front b m = omega (arith, sum_by-append (λ (c : Block). c.len) (b ∷ []) m)

-- ---- types

same_kind-refl : (k : MsgType) → same_kind k k ≡ true
unfolding same_kind
same_kind-refl k = true_same the_type k k refl

pub same_kind-one : (k j : MsgType) → same_kind k j ≡ true → k ≡ j
unfolding same_kind
same_kind-one k j same = same_true the_type tt k j same

same_kind-other : (k j : MsgType) → same_kind k j ≡ false → same_kind j k ≡ false
same_kind-other k j other = elim (cases_Bool (same_kind j k)) [
  | inl same ↦ subst (λ i. same_kind j i ≡ false) (same_kind-one j k same) (subst (λ i. same_kind i j ≡ false) (sym (same_kind-one j k same)) other)
  | inr so ↦ so
]

-- ---- the bytes of a run

-- a block that passes belongs to it, with those after it
run_more : (p : Block → Bool) (b : Block) (m : List Block) → p b ≡ true → size_of (take_while p (b ∷ m)) ≡ b.len + size_of (take_while p m)
run_more p b m passes = ap size_of (take_while-cons p b m ∙ cond-true (p b) _ _ passes) ∙ size_front b (take_while p m)

-- one that fails ends it
run_ends : (p : Block → Bool) (b : Block) (m : List Block) → p b ≡ false → size_of (take_while p (b ∷ m)) ≡ 0
run_ends p b m fails = ap size_of (take_while-cons p b m ∙ cond-false (p b) _ _ fails)

-- how many bytes the run at that end has, where there are these blocks still, and n bytes in the run at hand, of type k
abbrev pub measured : Bool → DataStore → MsgType → ℕ → List Block → ℕ
measured from_tail s k n [] = n
measured from_tail s k n (b ∷ bs) =
    if same_kind (kind_of s b) k then measured from_tail s k (n + b.len) bs else (if from_tail then measured from_tail s (kind_of s b) b.len bs else n)

-- at the head it ends with the type
measured_leading : (s : DataStore) (k : MsgType) (n : ℕ) (bs : List Block) → measured false s k n bs ≡ n + size_of (take_while (λ c. same_kind (kind_of s c) k) bs)
measured_leading s k n [] = omega arith
measured_leading s k n (b ∷ bs) =
    elim (cases_Bool (same_kind (kind_of s b) k)) [
      | inl same ↦ cond-true _ _ _ same ∙ omega (arith, measured_leading s k (n + b.len) bs, run_more (λ c. same_kind (kind_of s c) k) b bs same)
      | inr other ↦ cond-false _ _ _ other ∙ omega (arith, run_ends (λ c. same_kind (kind_of s c) k) b bs other)
    ]

-- at the tail it is that of the last block; the blocks that came are after it, and c is the last of them
measured_trailing : (s : DataStore) (c : Block) (cs bs : List Block) → measured true s (kind_of s c) (size_of (run_of s (c ∷ cs))) bs ≡ size_of (run_of s (reverse bs ++ (c ∷ cs)))
measured_trailing s c cs [] = refl
measured_trailing s c cs (b ∷ bs) =
    let k = kind_of s b in
    let rest : measured true s k (size_of (run_of s (b ∷ c ∷ cs))) bs ≡ size_of (run_of s (reverse (b ∷ bs) ++ (c ∷ cs))) =
    measured_trailing s b (c ∷ cs) bs ∙ ap (λ m. size_of (run_of s m)) (reverse_onto b bs (c ∷ cs)) in
    let front : size_of (run_of s (b ∷ c ∷ cs)) ≡ b.len + size_of (take_while (λ x. same_kind (kind_of s x) k) (c ∷ cs)) = size_front b (take_while (λ x. same_kind (kind_of s x) k) (c ∷ cs)) in
    elim (cases_Bool (same_kind k (kind_of s c))) [
      | inl same ↦
          let one : k ≡ kind_of s c = same_kind-one k (kind_of s c) same in
          let more : size_of (run_of s (c ∷ cs)) + b.len ≡ size_of (run_of s (b ∷ c ∷ cs)) =
          omega (
            arith,
            front,
            ap (λ j. size_of (take_while (λ x. same_kind (kind_of s x) j) (c ∷ cs))) one,
            run_more (λ x. same_kind (kind_of s x) (kind_of s c)) c cs (same_kind-refl (kind_of s c)),
            size_front c (take_while (λ x. same_kind (kind_of s x) (kind_of s c)) cs),
          ) in
          cond-true _ _ _ same ∙ (λ i. measured true s (sym one i) (more i) bs) ∙ rest
      | inr other ↦
          let alone : b.len ≡ size_of (run_of s (b ∷ c ∷ cs)) = omega (arith, front, run_ends (λ x. same_kind (kind_of s x) k) c cs (same_kind-other k (kind_of s c) other)) in
          cond-false _ _ _ other ∙ ap (λ n. measured true s k n bs) alone ∙ rest
    ]

-- all of a message
measured_all : (from_tail : Bool) (s : DataStore) (b : Block) (m : List Block) → measured from_tail s (kind_of s b) 0 (b ∷ m) ≡ size_of (run_of s (from_end from_tail (b ∷ m)))
measured_all false s b m =
    let p : Block → Bool = λ c. same_kind (kind_of s c) (kind_of s b) in
    omega (arith, measured_leading s (kind_of s b) 0 (b ∷ m), run_more p b m (same_kind-refl (kind_of s b)), size_front b (take_while p m))
measured_all true s b m =
    let alone : 0 + b.len ≡ size_of (run_of s (b ∷ [])) = omega (arith, size_front b []) in
    cond-true _ _ _ (same_kind-refl (kind_of s b)) ∙ ap (λ n. measured true s (kind_of s b) n m) alone ∙ measured_trailing s b [] m
    ∙ ap (λ xs. size_of (run_of s xs)) (sym (reverse-append (b ∷ []) m))

-- ---- one step of the loop

-- what the loop keeps: the run at hand, where the block at place i comes next
pub record IsMeasured (from_tail : Bool) (s : DataStore) (fields : List Fields) (ns : List ℕ) (i : ℕ) (r : Run) : Type 0 where
  pub size : measured from_tail s r.kind r.size (message_of fields (drop i ns)) ≡ size_of (run_of s (from_end from_tail (message_of fields ns)))
  pub few : r.blocks ≤ length ns
  pub begins : slice_get ns (length ns - r.blocks) ≡ Some r.first
  pub leading : from_tail ≡ false → r.blocks ≡ length ns
  pub sums : size_of (message_of fields (take (length ns - r.blocks) ns)) + r.size + size_of (message_of fields (drop i ns)) ≡ size_of (message_of fields ns)

module _ (from_tail : Bool) (s : DataStore) (fields : List Fields) where
  first_size : (ns : List ℕ) {h : ℕ} → slice_get ns 0 ≡ Some h → measured from_tail s (kind_of s (block_at fields h)) 0 (message_of fields ns) ≡ size_of (run_of s (from_end from_tail (message_of fields ns)))
  first_size [] {h} begun = absurd (none-some h begun)
  first_size (n ∷ ns) {h} begun =
      ap (λ k. measured from_tail s (kind_of s (block_at fields k)) 0 (message_of fields (n ∷ ns))) (sym (same_Some n h begun)) ∙ measured_all from_tail s (block_at fields n) (message_of fields ns)

  -- the bytes of both parts of a message
  parts_size : (ns : List ℕ) (i : ℕ) → size_of (message_of fields (take i ns)) + size_of (message_of fields (drop i ns)) ≡ size_of (message_of fields ns)
  parts_size ns i =
      omega (
        arith,
        sum_by-append (λ (b : Block). b.len) (message_of fields (take i ns)) (message_of fields (drop i ns)),
        ap size_of (sym (map-append (block_at fields) (take i ns) (drop i ns))),
        ap (λ ks. size_of (message_of fields ks)) (take-append-drop i ns),
      )

  module _ (ns : List ℕ) where
    -- the first block begins a run, of which nothing has been measured
    pub first_measured : {h : ℕ} → slice_get ns 0 ≡ Some h → IsMeasured from_tail s fields ns 0 (record { first = h; blocks = length ns; size = 0; kind = kind_of s (block_at fields h) })
    first_measured begun = grind (arith, common_steps, first_size)

    -- no block comes next
    pub all_measured : {i : ℕ} {r : Run} → IsMeasured from_tail s fields ns i r → drop i ns ≡ [] → IsRun from_tail s fields ns r
    all_measured at none = grind (arith, common_steps)

    module _ {i : ℕ} {n : ℕ} {r : Run} (at : IsMeasured from_tail s fields ns i r) (here : slice_get ns i ≡ Some n) where
      abbrev b : Block
      b = block_at fields n

      behind : message_of fields (drop i ns) ≡ b ∷ message_of fields (drop (i + 1) ns)
      behind = ap (message_of fields) (drop_from ns i n here)

      sums_more : size_of (message_of fields (drop i ns)) ≡ b.len + size_of (message_of fields (drop (i + 1) ns))
      sums_more = ap size_of behind ∙ size_front b (message_of fields (drop (i + 1) ns))

      -- it fits
      pub next_small : r.size + b.len ≤ size_of (message_of fields ns)
      next_small = omega (arith, at.sums, sums_more)

      -- at the head a block of another type ends the run
      pub other_measured : from_tail ≡ false → same_kind (kind_of s b) r.kind ≡ false → IsRun from_tail s fields ns r
      other_measured head other = grind (arith, common_steps, behind, cond-false)

      -- any other joins it, or begins another
      pub next_measured : (from_tail ≡ true) ⊎ (same_kind (kind_of s b) r.kind ≡ true) → IsMeasured from_tail s fields ns (i + 1) (run_with n (length ns - i) (kind_of s b) b.len r)
      next_measured goes =
          elim (cases_Bool (same_kind (kind_of s b) r.kind)) [
            | inl same ↦ subst (IsMeasured from_tail s fields ns (i + 1)) (sym (cond-true _ _ _ same)) (joined same)
            | inr other ↦ subst (IsMeasured from_tail s fields ns (i + 1)) (sym (cond-false _ _ _ other)) (begun other (elim goes [ inl tail ↦ tail | inr same ↦ absurd (false≢true (sym other ∙ same)) ]))
          ]
        where
          joined : same_kind (kind_of s b) r.kind ≡ true → IsMeasured from_tail s fields ns (i + 1) (record r { size = r.size + b.len })
          joined same = grind (arith, common_steps, behind, cond-true, sums_more)

          begun : same_kind (kind_of s b) r.kind ≡ false → from_tail ≡ true → IsMeasured from_tail s fields ns (i + 1) (record { first = n; blocks = length ns - i; size = b.len; kind = kind_of s b })
          begun other tail = grind (arith, common_steps, slice_get_within, behind, cond-false, parts_size, sums_more)

-- ==== message blocks that lose bytes, one after the other

-- ---- one block

-- no bytes are lost
cut_nothing : (f : Fields) → fields_cut false 0 f ≡ f
cut_nothing f = λ i. record f { offset = (let e : f.offset + min 0 f.len ≡ f.offset = omega arith in e) i; len = (let e : f.len - 0 ≡ f.len = omega arith in e) i }

-- the write place is no further than it was
cut_least : (from_tail : Bool) (n : ℕ) (f : Fields) → (fields_cut from_tail n f).offset + (fields_cut from_tail n f).len ≤ f.offset + f.len
cut_least true n f = omega arith
cut_least false n f = omega arith

-- what holds of what each block says, and stays when it is cut, holds of all still
module _ (P : ℕ → Fields → Type 0) (from_tail : Bool) (stays : (n k : ℕ) (f : Fields) → P k f → P k (fields_cut from_tail n f)) where
  cut_one : (n k : ℕ) (fields : List Fields) → ((j : ℕ) → P j (fields_at fields j)) → (j : ℕ) → P j (fields_at (set fields k (fields_cut from_tail n (fields_at fields k))) j)
  cut_one n k fields all j = grind (arith, common_steps, get_or-set_same, set_past, get_or-set_other)

  cut_all : (ks : List ℕ) (n : ℕ) (fields : List Fields) → ((j : ℕ) → P j (fields_at fields j)) → (j : ℕ) → P j (fields_at (with_bytes_cut from_tail n ks fields) j)
  cut_all [] n fields all = all
  cut_all (k ∷ ks) n fields all = cut_all ks (n - (fields_at fields k).len) (set fields k (fields_cut from_tail n (fields_at fields k))) (cut_one n k fields all)

-- ---- one step of the loop

-- once no bytes are left at the head, the others stay
pub cut_none : (ks : List ℕ) (fields : List Fields) → with_bytes_cut false 0 ks fields ≡ fields
cut_none [] fields = refl
cut_none (k ∷ ks) fields = grind (arith, common_steps, (cut_none ks fields), cut_nothing, set-get_or)

-- at the tail, blocks before the cut stay
pub cut_ahead : (i n : ℕ) (ks : List ℕ) (fields : List Fields) → with_bytes_cut true (size_of (message_of fields (take i ks)) + n) ks fields ≡ with_bytes_cut true n (drop i ks) fields
cut_ahead zero n ks fields = ap (λ m. with_bytes_cut true m ks fields) (let e : 0 + n ≡ n = omega arith in e)
cut_ahead (suc i) n [] fields = refl
cut_ahead (suc i) n (k ∷ ks) fields = grind (arith, common_steps, (cut_ahead i n ks fields), size_front, set-get_or)

-- the next block is cut, and those after it are left
pub cut_next : (from_tail : Bool) (n : ℕ) (ks : List ℕ) (i : ℕ) {k : ℕ} (fields : List Fields) → slice_get ks i ≡ Some k
    → with_bytes_cut from_tail (n - (fields_at fields k).len) (drop (i + 1) ks) (set fields k (fields_cut from_tail n (fields_at fields k))) ≡ with_bytes_cut from_tail n (drop i ks) fields
cut_next from_tail n ks i {k} fields is = ap (λ js. with_bytes_cut from_tail n js fields) (sym (drop_from ks i k is))

-- places that are small stay so
pub cut_small : (from_tail : Bool) (n k : ℕ) (fields : List Fields) → ((j : ℕ) → j < length fields → (fields_at fields j).offset + (fields_at fields j).len < 2 ^ 32) → {x : Fields} → x ≡ fields_cut from_tail n (fields_at fields k)
    → (j : ℕ) → j < length (set fields k x) → (fields_at (set fields k x) j).offset + (fields_at (set fields k x) j).len < 2 ^ 32
cut_small from_tail n k fields small is j within = grind (arith, common_steps, cut_least, length-set)

-- ---- all of a message

-- the blocks with only their first n bytes
abbrev keep_front : ℕ → List Block → List Block
keep_front n [] = []
keep_front n (b ∷ bs) = record b { len = min n b.len } ∷ keep_front (n - b.len) bs

-- what is cut from the last to the first, if one more block comes after
cut_back-push : (n : ℕ) (bs : List Block) (b : Block) → blocks_cut_back n (bs ++ b ∷ []) ≡ blocks_cut_back n bs ++ record b { len = b.len - (n - size_of bs) } ∷ []
cut_back-push n [] b = ap (λ m. record b { len = b.len - m } ∷ []) (let e : n ≡ n - 0 = omega arith in e)
cut_back-push n (x ∷ bs) b = grind (arith, common_steps, (cut_back-push (n - x.len) bs b), size_front)

-- without the last n bytes there are all but n from the front on
pub cut_back-keeps : (n : ℕ) (m : List Block) → reverse (blocks_cut_back n (reverse m)) ≡ keep_front (size_of m - n) m
cut_back-keeps n [] = refl
cut_back-keeps n (b ∷ m) =
    let S = size_of (reverse m) in
    let same : S ≡ size_of m = reverse_size m in
    let here : b.len - (n - S) ≡ min (size_of (b ∷ m) - n) b.len = omega (arith, same, size_front b m) in
    let rest : size_of m - n ≡ size_of (b ∷ m) - n - b.len = omega (arith, size_front b m) in
    ap (λ xs. reverse (blocks_cut_back n xs)) (reverse-append (b ∷ []) m) ∙ ap reverse (cut_back-push n (reverse m) b)
    ∙ reverse-append (blocks_cut_back n (reverse m)) (record b { len = b.len - (n - S) } ∷ [])
    ∙ (λ i. record b { len = here i } ∷ (cut_back-keeps n m ∙ ap (λ k. keep_front k m) rest) i)
  where
    reverse_size : (xs : List Block) → size_of (reverse xs) ≡ size_of xs
    reverse_size [] = refl
    reverse_size (x ∷ xs) = omega (arith, ap size_of (reverse-append (x ∷ []) xs), sum_by-append (λ (c : Block). c.len) (reverse xs) (x ∷ []), size_front x [], size_front x xs, reverse_size xs)

module _ (from_tail : Bool) where
  pub length-cut : (ks : List ℕ) (n : ℕ) (fields : List Fields) → length (with_bytes_cut from_tail n ks fields) ≡ length fields
  length-cut [] n fields = refl
  length-cut (k ∷ ks) n fields =
      let x = fields_cut from_tail n (fields_at fields k) in
      length-cut ks (n - (fields_at fields k).len) (set fields k x) ∙ length-set fields k x

  -- each block uses the data block that it used
  pub cut_named : (ks : List ℕ) (n : ℕ) (fields : List Fields) (j : ℕ) → (fields_at (with_bytes_cut from_tail n ks fields) j).data_number ≡ (fields_at fields j).data_number
  cut_named ks n fields = cut_all (λ j f. f.data_number ≡ (fields_at fields j).data_number) from_tail (λ m j f named. named) ks n fields (λ j. refl)

  -- and its places stay in it
  pub cut_placed : (s : DataStore) (ks : List ℕ) (n : ℕ) (fields : List Fields) → ((j : ℕ) → j < length fields → IsPlaced s (fields_at fields j)) → (j : ℕ) → j < length (with_bytes_cut from_tail n ks fields)
      → IsPlaced s (fields_at (with_bytes_cut from_tail n ks fields) j)
  cut_placed s ks n fields placed j within =
      cut_all (λ k f. k < length fields → IsPlaced s f) from_tail
      (λ m k f is inside. record { there = (is inside).there; within = omega (arith, (is inside).within, cut_least from_tail m f); banded = (is inside).banded }) ks n fields placed j
      (omega (arith, within, length-cut ks n fields))

  -- blocks of other messages say what they said
  pub cut_apart : (ks : List ℕ) (n : ℕ) (fields : List Fields) (j : ℕ) → times j ks ≡ 0 → fields_at (with_bytes_cut from_tail n ks fields) j ≡ fields_at fields j
  cut_apart [] n fields j none = refl
  cut_apart (k ∷ ks) n fields j none =
      let x = fields_cut from_tail n (fields_at fields k) in
      elim (cases_eq j k) [
        | inl same ↦ absurd (omega (arith, none, times_here j k ks (sym same)))
        | inr other ↦ cut_apart ks (n - (fields_at fields k).len) (set fields k x) j (omega (arith, none, times-cons j k ks)) ∙ get_or-set_other fields k j x no_fields other
      ]

  -- the blocks of a message without its first n bytes, or with only those
  abbrev pub cut_along : ℕ → List Block → List Block
  cut_along n bs = if from_tail then keep_front n bs else blocks_cut_front n bs

  pub nodes_cut : (ks : List ℕ) (n : ℕ) (fields : List Fields) → ((j : ℕ) → times j ks ≤ 1) → ((j : ℕ) → 0 < times j ks → j < length fields)
      → message_of (with_bytes_cut from_tail n ks fields) ks ≡ cut_along n (message_of fields ks)
  nodes_cut [] n fields once there = grind (arith, common_steps)
  nodes_cut (k ∷ ks) n fields once there =
      let x = fields_cut from_tail n (fields_at fields k) in
      let more = n - (fields_at fields k).len in
      let alone : times k ks ≡ 0 = omega (arith, once k, times_here k k ks refl) in
      let inside : k < length fields = there k (omega (arith, times_here k k ks refl)) in
      let here : fields_at (with_bytes_cut from_tail more ks (set fields k x)) k ≡ x = cut_apart ks more (set fields k x) k alone ∙ get_or-set_same fields k x no_fields inside in
      let rest : message_of (with_bytes_cut from_tail more ks (set fields k x)) ks ≡ cut_along more (message_of fields ks) =
      nodes_cut ks more (set fields k x) (λ j. omega (arith, once j, times-cons j k ks)) (λ j some. omega (arith, length-set fields k x, there j (omega (arith, some, times-cons j k ks))))
      ∙ ap (cut_along more) (message-alike fields (set fields k x) ks (alike_off fields k x ks alone)) in
      (λ i. block_of k (here i) ∷ rest i) ∙ along_one from_tail (message_of fields ks)
    where
      along_one : (t : Bool) (bs : List Block)
          → block_of k (fields_cut t n (fields_at fields k)) ∷ (if t then keep_front (n - (fields_at fields k).len) bs else blocks_cut_front (n - (fields_at fields k).len) bs)
          ≡ (if t then keep_front n (block_at fields k ∷ bs) else blocks_cut_front n (block_at fields k ∷ bs))
      along_one true bs = refl
      along_one false bs = refl

-- ==== `adjmsg`: a held message loses bytes at an end

-- the number of bytes before the place at which n of `size` bytes are cut
abbrev pub ahead : Bool → ℕ → ℕ → ℕ
ahead from_tail n size = if from_tail then size - n else n

-- a count's sign gives the end, and its size the number of bytes to cut
cut_is : (z : ℤ) (s : DataStore) (m : Message)
    → message_cut z s m ≡ (if nat_lt (size_of (run_of s (from_end (is_negative z) m))) (unsigned_abs z) then Err Short else Ok (cut_along (is_negative z) (ahead (is_negative z) (unsigned_abs z) (size_of m)) m))
cut_is (pos n) s m = grind (arith, common_steps, cut_along, le-ltb)
cut_is (negsuc n) s m = ap (λ bs. if nat_lt (size_of (run_of s (from_end true m))) (unsigned_abs (negsuc n)) then Err Short else Ok bs) (cut_back-keeps (unsigned_abs (negsuc n)) m)

-- cut from the run on, a message is cut where it is from its first block on
cut_run : (from_tail : Bool) {s : DataStore} {fields : List Fields} {ns : List ℕ} {r : Run} → IsRun from_tail s fields ns r → (n : ℕ) → n ≤ r.size
    → with_bytes_cut from_tail (ahead from_tail n r.size) (drop (length ns - r.blocks) ns) fields ≡ with_bytes_cut from_tail (ahead from_tail n (size_of (message_of fields ns))) ns fields
cut_run false {fields} {ns} {r} run n enough = ap (λ i. with_bytes_cut false n (drop i ns) fields) (let e : length ns - r.blocks ≡ 0 = omega (arith, run.leading refl) in e)
cut_run true {fields} {ns} {r} run n enough =
    let all : size_of (message_of fields (take (length ns - r.blocks) ns)) + (r.size - n) ≡ size_of (message_of fields ns) - n = omega (arith, run.trailing refl) in
    sym (cut_ahead (length ns - r.blocks) (r.size - n) ns fields) ∙ ap (λ k. with_bytes_cut true k ns fields) all

-- places lie in a data block, and so they are small
pub ends_small : {id : ℕ} {s : CountedStore} {fields : List Fields} {v : ChainLists} → IsFilled s fields v (arena_of id s.store fields v) → (n : ℕ) → n < length fields → (fields_at fields n).offset + (fields_at fields n).len < 2 ^ 32
ends_small filled n within = grind (arith, common_steps, capacity_range)

-- what is there once the bytes are cut: `a` is what was there
pub record IsAdjusted (a : Arena) (s : CountedStore) (fields : List Fields) (v : ChainLists) (id : ℕ) (z : ℤ) (t : TokenValue) : Type 0 where
  pub filled : IsFilled s fields v (arena_of id s.store fields v)
  pub done : adjmsg t.head z a ≡ Ok (tt, arena_of id s.store fields v)
  pub shelved : shelved_blocks (arena_of id s.store fields v) ≡ shelved_blocks a
  pub had : has (arena_of id s.store fields v) t ≡ true

module _ {id : ℕ} {s : CountedStore} {fields : List Fields} {v : ChainLists} (filled : IsFilled s fields v (arena_of id s.store fields v)) (t : TokenValue) (has : has (arena_of id s.store fields v) t ≡ true) where
  abbrev old : Arena
  old = arena_of id s.store fields v

  abbrev nodes : List ℕ
  nodes = nodes_at v t.head

  had : (m : Message) × IsHad old t m
  had = had_message old t has

  of_message : (ns : List ℕ) × AreHeld fields v t.head had.0 ns
  of_message = held_nodes id s.store fields v t.head had.1.held

  held : held_in v.held t.head ≡ Some nodes
  held = of_message.1.held ∙ ap Some (sym (ap blocks_of of_message.1.held))

  module _ (z : ℤ) where
    abbrev now : List Fields
    now = with_bytes_cut (is_negative z) (ahead (is_negative z) (unsigned_abs z) (size_of (message_of fields nodes))) nodes fields

    change : AreRewritten fields now nodes
    change = grind (arith, common_steps, length-cut, cut_named, cut_apart)

    shows : arena_of id s.store now v ≡ record old { held = set old.held t.head (Some (message_of now nodes)) }
    shows = message_shows filled t.head held s.store now change.apart

    done : unsigned_abs z ≤ size_of (run_of s.store (from_end (is_negative z) (message_of fields nodes))) → adjmsg t.head z old ≡ Ok (tt, arena_of id s.store now v)
    done enough =
        let with_message : Message → Arena = λ m. record old { held = set old.held t.head (Some m) } in
        ap (λ m. answer_map (λ x. (tt, with_message x)) (message_cut z s.store m)) (message_at-seen id s.store fields v t.head)
        ∙ ap (answer_map (λ x. (tt, with_message x))) (cut_is z s.store (message_of fields nodes) ∙ cond-false _ _ _ (le-ltb _ (unsigned_abs z) enough))
        ∙ ap (λ m. Ok (tt, with_message m)) (sym (nodes_cut (is_negative z) nodes _ fields (once_within filled t.head held) (within_room filled t.head held)))
        ∙ ap (λ (a : Arena). Ok (tt, a)) (sym shows)

    adjusts : unsigned_abs z ≤ size_of (run_of s.store (from_end (is_negative z) (message_of fields nodes))) → IsAdjusted old s now v id z t
    adjusts enough = record {
      filled = message_filled filled t.head held s change filled.kept refl (cut_placed (is_negative z) s.store nodes (ahead (is_negative z) (unsigned_abs z) (size_of (message_of fields nodes))) fields filled.placed);
      done = done enough;
      shelved = ap shelved_blocks shows;
      had =
          had_again old (arena_of id s.store now v) t had.0 (message_of now nodes) had.1
          (ap (λ a. held_at a t.head) shows ∙ get_or-set_same old.held t.head _ None (held_within old t.head had.0 had.1.held))
          (length-map nodes (block_at now) ∙ ap (λ o. length (blocks_of o)) of_message.1.held ∙ sym (length-map of_message.0 (block_at fields)) ∙ ap length (sym of_message.1.message)) refl;
    }

    -- it was cut from the run on
    pub run_adjusts : {r : Run} → IsRun (is_negative z) s.store fields nodes r → unsigned_abs z ≤ r.size
        → IsAdjusted old s (with_bytes_cut (is_negative z) (ahead (is_negative z) (unsigned_abs z) r.size) (drop (length nodes - r.blocks) nodes) fields) v id z t
    run_adjusts run enough = subst (λ fs. IsAdjusted old s fs v id z t) (sym (cut_run (is_negative z) run (unsigned_abs z) enough)) (adjusts (omega (arith, run.size)))
