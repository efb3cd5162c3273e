-- Numbers of message blocks that are free, or of a block of a held message.
use Rattle.std.proofs.Common.{◌≡◌, ◌≢◌, ℕ, suc, ◌+◌, ◌<◌, ◌≤◌, List, [], ◌∷◌, set, Option, Some, None, sym, ◌∙◌, ap, subst, arith, get_or-set_other, length, if◌then◌else◌, ◌++◌, ◌==◌, refl}
use Rattle.std.specs.Prelude.{slice_get, nat_lt, unwrap_or}
use Rattle.std.specs.List.{flat_map}
use Rattle.std.specs.Option.{IfSome}
use Rattle.std.proofs.lemmas.Grind.{common_steps}
use Rattle.std.proofs.lemmas.List.{get_or_past}
use Rattle.std.proofs.lemmas.Option.{none-some, same_Some}
use Rattle.strm_links.specs.Rows.{first}
use Rattle.strm_links.specs.Chains.{items_of, with_head}
use Rattle.strm_links.specs.ChainLists.{ChainLists, IsLawful, chain_of, head_node, nodes_at}
use Rattle.strm_links.proofs.lists.Counting.{times-append, times_here}
use Rattle.strm_data.specs.DataStore.{times}
use Rattle.strm_mblk.specs.Messages.{blocks_of, blocks_held, blocks_on, held_in}
use Rattle.strm_mblk.proofs.Lists.{count_adds, flat_map-set_adds, at_first, in_range, one_most, times_at}

first_node : (ns : List ℕ) {h : ℕ} → 0 < length ns → head_node ns ≡ h → first ns ≡ Some h
first_node [] some is = absurd (omega (arith, some))
first_node (n ∷ ns) some is = ap Some is

-- a held message begins with its head
pub begins_with : {v : ChainLists} → IsLawful v → (h : ℕ) {ns : List ℕ} → held_in v.held h ≡ Some ns → first ns ≡ Some h
begins_with parted h {ns} held = let at = subst (λ o. IfSome o (λ m. (0 < length m) × (head_node m ≡ h))) held (parted.parts.heads h) in first_node ns at.0 at.1

-- a message that has a block is the chain with this head
pub chain_is : (v : ChainLists) (h i : ℕ) {n : ℕ} → slice_get (nodes_at v h) i ≡ Some n → chain_of v h ≡ nodes_at v h
chain_is v h i {n} at = go (held_in v.held h) (items_of (with_head head_node h (flat_map (λ ns. ns) v.shelves))) at
  where
    go : (o : Option (List ℕ)) (other : List ℕ) → slice_get (items_of o) i ≡ Some n → unwrap_or o other ≡ items_of o
    go None other at = absurd (none-some n at)
    go (Some ns) other at = refl

-- a held message lies in range
pub held_room : (v : ChainLists) (h : ℕ) {ns : List ℕ} → held_in v.held h ≡ Some ns → h < length v.held
held_room v h held = grind (arith, common_steps, none-some, get_or_past)

-- how often a number is in a held message, and in the others
pub held_parts : (v : ChainLists) (h n : ℕ) {ns : List ℕ} → held_in v.held h ≡ Some ns → times n (blocks_held (set v.held h None)) + times n ns ≡ times n (blocks_held v.held)
held_parts v h n held =
    omega (arith, flat_map-set_adds (count_adds (λ x. x == n)) blocks_of v.held h None None (held_room v h held), ap (λ o. times n (blocks_of o)) held, (count_adds (λ x. x == n)).none)

-- and in all
pub all_parts : {v : ChainLists} → IsLawful v → (n : ℕ) → times n v.free + (times n (blocks_on v.shelves) + times n (blocks_held v.held)) ≡ (if nat_lt n (length v.held) then 1 else 0)
all_parts {v} parted n = omega (arith, times-append n v.free (blocks_on v.shelves ++ blocks_held v.held), times-append n (blocks_on v.shelves) (blocks_held v.held), parted.parts.once n)

pub one_of_all : {v : ChainLists} → IsLawful v → (n : ℕ) → times n v.free + (times n (blocks_on v.shelves) + times n (blocks_held v.held)) ≤ 1
one_of_all {v} parted n = omega (arith, all_parts parted n, one_most (nat_lt n (length v.held)))

module _ {v : ChainLists} (parted : IsLawful v) (h k : ℕ) {n : ℕ} {ns : List ℕ} (held : held_in v.held h ≡ Some ns) (at : slice_get ns k ≡ Some n) where
  -- how often it is in held messages, without the one at h
  pub beside : times n (blocks_held (set v.held h None)) + times n ns ≤ 1
  beside = omega (arith, held_parts v h n held, one_of_all parted n)

  -- it is one of those that there are
  pub block_room : n < length v.held
  block_room = in_range n (length v.held) (omega (arith, held_parts v h n held, all_parts parted n, times_at n ns k at))

  -- a block after the first is not the first
  pub not_head : (j : ℕ) → k ≡ suc j → n ≢ h
  not_head j behind same =
      two_places ns (begins_with parted h held) (subst (λ i. slice_get ns i ≡ Some n) behind at) (omega (arith, beside))
    where
      two_places : (xs : List ℕ) → first xs ≡ Some h → slice_get xs (suc j) ≡ Some n → times n xs ≤ 1 → ⊥
      two_places [] begins there once = none-some h begins
      two_places (x ∷ xs) begins there once = omega (arith, once, times_here n x xs (same_Some x h begins ∙ sym same), times_at n xs j there)

  -- and no held message begins with it
  pub not_begun : n ≢ h → held_in v.held n ≡ None
  not_begun other =
      elim (held_in v.held n) as (λ o. held_in v.held n ≡ o → o ≡ None) [
        | None ↦ λ _. refl
        | Some m ↦ λ is. absurd (omega (
          arith,
          beside,
          held_parts (record v { held = set v.held h None }) n n (get_or-set_other v.held h n None None other ∙ is),
          times_at n ns k at,
          times_at n m 0 (at_first m (begins_with parted n is)),
        ))
      ] refl

module _ {v : ChainLists} (parted : IsLawful v) (n : ℕ) (free : 0 < times n v.free) where
  -- a free number is in range
  pub free_room : n < length v.held
  free_room = in_range n (length v.held) (omega (arith, free, all_parts parted n))

  -- and no held message begins with it
  pub free_unheld : held_in v.held n ≡ None
  free_unheld =
      elim (held_in v.held n) as (λ o. held_in v.held n ≡ o → o ≡ None) [
        | None ↦ λ _. refl
        | Some ns ↦ λ is. absurd (omega (arith, free, one_of_all parted n, held_parts v n n is, times_at n ns 0 (at_first ns (begins_with parted n is))))
      ] refl
