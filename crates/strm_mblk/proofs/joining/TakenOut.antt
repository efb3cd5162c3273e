-- `rmvb`: a block that isn't the first of a held message becomes another message.
use Rattle.std.proofs.Common.{◌≡◌, ◌≢◌, ℕ, zero, suc, ◌+◌, ◌<◌, true, List, [], ◌∷◌, ◌++◌, map, length, set, Some, None, Ok, refl, sym, ap, ◌∙◌, subst, get_or-set_same, get_or-set_other, length-set, arith, ◌-◌, Err}
use Rattle.std.specs.Prelude.{drop, option_map, slice_get, take}
use Rattle.std.proofs.lemmas.List.{drop-map, length-map, map-append, map-set, set-set, take-map}
use Rattle.std.proofs.lemmas.Option.{none-some, slice_get-map}
use Rattle.strm_links.specs.Rows.{first}
use Rattle.strm_data.specs.declared.refusal.Refusal.{Refusal}
use Rattle.strm_data.specs.CountedStore.{CountedStore}
use Rattle.strm_mblk.specs.declared.blocks.Fields.{Fields}
use Rattle.strm_mblk.specs.declared.token.TokenValue.{TokenValue}
use Rattle.strm_mblk.specs.Arena.{Arena, has, held_at, message_at, shelved_blocks}
use Rattle.strm_mblk.specs.Block.{Message}
use Rattle.strm_mblk.specs.BlockCalls.{rmvb, rmvb_of}
use Rattle.strm_mblk.specs.BlocksLayout.{IsFilled, arena_of, block_at, message_of}
use Rattle.strm_mblk.specs.Given.{Given, answer_map, answer_of, or_rejected}
use Rattle.strm_mblk.specs.Messages.{blocks_of, held_in}
use Rattle.strm_links.specs.ChainLists.{IsLawful, ChainLists, nodes_at}
use Rattle.strm_mblk.proofs.Lists.{first_rest}
use Rattle.strm_mblk.proofs.layout.HeldBlocks.{token_held}
use Rattle.strm_mblk.proofs.Nodes.{begins_with, block_room, held_room, not_begun, not_head}
use Rattle.strm_mblk.proofs.joining.Linkb.{moved_filled}
use Rattle.strm_mblk.proofs.layout.StoredArena.{held_at-seen, message_at-seen}
use Rattle.std.proofs.lemmas.Grind.{common_steps}

-- the part before a place that isn't the first begins as the list does
first_kept : (k : ℕ) {n : ℕ} (xs ys : List ℕ) → 0 < k → first xs ≡ Some n → first (take k xs ++ ys) ≡ Some n
first_kept k {n} [] ys some is = absurd (none-some n is)
first_kept zero (x ∷ xs) ys some is = absurd (omega (arith, some))
first_kept (suc k) (x ∷ xs) ys some is = is

-- a is what was there; the other lists are what is there once block n, at place k of the message at h, is a message
pub record IsTakenOut (a : Arena) (s : CountedStore) (fields : List Fields) (w : ChainLists) (id h k n : ℕ) : Type 0 where
  pub filled : IsFilled s fields w (arena_of id s.store fields w)
  pub shelved : shelved_blocks (arena_of id s.store fields w) ≡ shelved_blocks a
  pub value : rmvb h k a ≡ Ok ((n, Some h), arena_of id s.store fields w)
  pub block : held_at (arena_of id s.store fields w) n ≡ Some (message_at (arena_of id s.store fields w) n)
  pub rest : held_at (arena_of id s.store fields w) h ≡ Some (message_at (arena_of id s.store fields w) h)
  pub absent : held_at a n ≡ None
  pub apart : n ≢ h

module _ {id : ℕ} {s : CountedStore} {fields : List Fields} {v w : ChainLists} (filled : IsFilled s fields v (arena_of id s.store fields v)) (h k : ℕ) {n : ℕ}
    (held : held_in v.held h ≡ Some (nodes_at v h)) (at : slice_get (nodes_at v h) k ≡ Some n) (behind_first : 0 < k)
    (w_is : w ≡ record v { held = set (set v.held h (Some (take k (nodes_at v h) ++ drop (k + 1) (nodes_at v h)))) n (Some (n ∷ [])) }) (parted : IsLawful w) where
  abbrev old : Arena
  old = arena_of id s.store fields v

  other : n ≢ h
  other = not_head filled.parted h k held at (k - 1) (omega (arith, behind_first))

  abbrev others : List ℕ
  others = take k (nodes_at v h) ++ drop (k + 1) (nodes_at v h)

  -- the others begin with the same head
  abbrev behind : List ℕ
  behind = drop 1 others

  others_are : others ≡ h ∷ behind
  others_are = first_rest others (first_kept k (nodes_at v h) (drop (k + 1) (nodes_at v h)) behind_first (begins_with filled.parted h held))

  lists_are : w ≡ record v { held = set (set v.held h (Some (h ∷ behind))) n (Some (n ∷ [])) }
  lists_are = w_is ∙ ap (λ ns. record v { held = set (set v.held h (Some ns)) n (Some (n ∷ [])) }) others_are

  held_seen : map (option_map (message_of fields)) (set (set v.held h (Some (h ∷ behind))) n (Some (n ∷ [])))
      ≡ set (set old.held h (Some (message_of fields (h ∷ behind)))) n (Some (block_at fields n ∷ []))
  held_seen = grind (arith, common_steps, map-set)

  shows : arena_of id s.store fields w ≡ record old { held = set (set old.held h (Some (message_of fields (h ∷ behind)))) n (Some (block_at fields n ∷ [])) }
  shows = grind (arith, common_steps, lists_are, held_seen)

  many : length w.held ≡ length v.held
  many = ap (λ (l : ChainLists). length l.held) lists_are ∙ length-set (set v.held h _) n _ ∙ length-set v.held h _

  head_inside : h < length old.held
  head_inside = omega (arith, held_room v h held, length-map v.held (option_map (message_of fields)))

  block_inside : n < length (set old.held h (Some (message_of fields (h ∷ behind))))
  block_inside = omega (arith, block_room filled.parted h k held at, length-map v.held (option_map (message_of fields)), length-set old.held h (Some (message_of fields (h ∷ behind))))

  block_held : held_at (arena_of id s.store fields w) n ≡ Some (block_at fields n ∷ [])
  block_held = ap (λ a. held_at a n) shows ∙ get_or-set_same (set old.held h (Some (message_of fields (h ∷ behind)))) n _ None block_inside

  rest_held : held_at (arena_of id s.store fields w) h ≡ Some (message_of fields (h ∷ behind))
  rest_held = grind (arith, common_steps, shows, get_or-set_other, other, get_or-set_same, head_inside)

  -- the message without block k
  others_seen : {m : Message} → m ≡ message_of fields (nodes_at v h) → take k m ++ drop (k + 1) m ≡ message_of fields (h ∷ behind)
  others_seen is = grind (arith, common_steps, take-map, drop-map, map-append, others_are)

  block_seen : slice_get (message_at old h) k ≡ Some (block_at fields n)
  block_seen = grind (arith, common_steps, message_at-seen, slice_get-map)

  pub takes_out : IsTakenOut old s fields w id h k n
  takes_out = record {
    filled = moved_filled filled (ap (λ (l : ChainLists). l.free) lists_are) many parted;
    shelved = ap shelved_blocks shows;
    value =
        ap (λ m. rmvb_of h old m (slice_get (message_at old h) k)) (others_seen (message_at-seen id s.store fields v h))
        ∙ ap (rmvb_of h old (message_of fields (h ∷ behind))) block_seen
        ∙ ap (λ xs. Ok ((n, Some h), record old { held = set xs n (Some (block_at fields n ∷ [])) })) (set-set old.held h None (Some (message_of fields (h ∷ behind))))
        ∙ ap (λ x. Ok ((n, Some h), x)) (sym shows);
    block = block_held ∙ ap Some (sym (ap blocks_of block_held));
    rest = rest_held ∙ ap Some (sym (ap blocks_of rest_held));
    absent = held_at-seen id s.store fields v n ∙ ap (option_map (message_of fields)) (not_begun filled.parted h k held at other);
    apart = other;
  }

-- ---- as the code finds the block

-- block n was at place k of the message that the token names, and isn't its first
module _ {id : ℕ} {s : CountedStore} {fields : List Fields} {v : ChainLists} (filled : IsFilled s fields v (arena_of id s.store fields v)) {a : Arena} (is : arena_of id s.store fields v ≡ a)
    (t : TokenValue) (had : has a t ≡ true) {e : ℕ} (k : ℕ) {n : ℕ} (e_is : e ≡ t.head) (at : slice_get (nodes_at v e) k ≡ Some n) (behind : 0 < k) where
  pub is_taken_out : {w : ChainLists} → w ≡ record v { held = set (set v.held e (Some (take k (nodes_at v e) ++ drop (k + 1) (nodes_at v e)))) n (Some (n ∷ [])) } → IsLawful w
      → IsTakenOut a s fields w id t.head k n
  is_taken_out {w} w_is parted =
      subst (λ x. IsTakenOut x s fields w id t.head k n) is
      (takes_out filled t.head k (token_held s fields v is t t refl had) (ap (λ h. slice_get (nodes_at v h) k) (sym e_is) ∙ at) behind
      (w_is ∙ ap (λ h. record v { held = set (set v.held h (Some (take k (nodes_at v h) ++ drop (k + 1) (nodes_at v h)))) n (Some (n ∷ [])) }) e_is) parted)

-- what is answered where a call is refused
pub refused_answer : {V X A : Type 0} (t : TokenValue) (f : X → A) {r : Given V X} {why : Refusal} → r ≡ Err why → Err (record { why = why; token = t }) ≡ or_rejected t (answer_map f (answer_of r))
refused_answer t f {r} is = ap (λ r. or_rejected t (answer_map f (answer_of r))) (sym is)
