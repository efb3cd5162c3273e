-- `unlinkb`: the blocks after the first one of a held message become another message.
use Rattle.std.proofs.Common.{◌≡◌, ◌≢◌, ℕ, ◌<◌, List, [], ◌∷◌, map, length, set, Some, None, refl, sym, ap, ◌∙◌, get_or-set_same, get_or-set_other, length-set, arith}
use Rattle.std.specs.Prelude.{drop, option_map, slice_get}
use Rattle.std.proofs.lemmas.List.{map-set, length-map}
use Rattle.std.proofs.lemmas.Option.{none-some, same_Some}
use Rattle.strm_links.specs.Rows.{first}
use Rattle.strm_data.specs.CountedStore.{CountedStore}
use Rattle.strm_mblk.specs.declared.blocks.Fields.{Fields}
use Rattle.strm_mblk.specs.declared.token.TokenValue.{TokenValue}
use Rattle.strm_mblk.specs.Arena.{Arena, held_at, message_at, shelved_blocks, token_of}
use Rattle.strm_mblk.specs.Block.{Block}
use Rattle.strm_mblk.specs.BlockCalls.{head_in, unlinkb}
use Rattle.strm_mblk.specs.BlocksLayout.{IsFilled, arena_of, block_at, message_of}
use Rattle.strm_mblk.specs.Messages.{blocks_of, chain_divided, held_in}
use Rattle.strm_links.specs.ChainLists.{IsLawful, ChainLists, nodes_at}
use Rattle.strm_mblk.proofs.Nodes.{begins_with, block_room, held_room, not_begun, not_head}
use Rattle.strm_mblk.proofs.joining.Linkb.{moved_filled}
use Rattle.strm_mblk.proofs.layout.StoredArena.{held_at-seen, message_at-seen}
use Rattle.std.proofs.lemmas.Grind.{common_steps}

-- a list with two numbers or more
two_rest : (ns : List ℕ) {h g : ℕ} → first ns ≡ Some h → slice_get ns 1 ≡ Some g → ns ≡ h ∷ g ∷ drop 2 ns
two_rest [] {h} begins at = absurd (none-some h begins)
two_rest (x ∷ []) {g} begins at = absurd (none-some g at)
two_rest (x ∷ y ∷ ns) {h} {g} begins at = λ i. same_Some x h begins i ∷ same_Some y g at i ∷ ns

-- a is what was there; the other lists are what is there once the blocks after the first of the message at h are one at g
pub record IsDivided (a : Arena) (s : CountedStore) (fields : List Fields) (w : ChainLists) (id h g : ℕ) : Type 0 where
  pub filled : IsFilled s fields w (arena_of id s.store fields w)
  pub shelved : shelved_blocks (arena_of id s.store fields w) ≡ shelved_blocks a
  pub after : arena_of id s.store fields w ≡ record a { held = chain_divided (λ (b : Block). b.number) h (message_at a h) a.held }
  pub head : held_at (arena_of id s.store fields w) h ≡ Some (block_at fields h ∷ [])
  pub rest : held_at (arena_of id s.store fields w) g ≡ Some (message_at (arena_of id s.store fields w) g)
  pub absent : held_at a g ≡ None
  pub given : (unlinkb h a).0 ≡ Some g

module _ {id : ℕ} {s : CountedStore} {fields : List Fields} {v w : ChainLists} (filled : IsFilled s fields v (arena_of id s.store fields v)) (h : ℕ) {g : ℕ}
    (held : held_in v.held h ≡ Some (nodes_at v h)) (at : slice_get (nodes_at v h) 1 ≡ Some g)
    (w_is : w ≡ record v { held = chain_divided (λ n. n) h (nodes_at v h) v.held }) (parted : IsLawful w) where
  abbrev old : Arena
  old = arena_of id s.store fields v

  abbrev others : List ℕ
  others = drop 2 (nodes_at v h)

  nodes_are : nodes_at v h ≡ h ∷ g ∷ others
  nodes_are = two_rest (nodes_at v h) (begins_with filled.parted h held) at

  other : g ≢ h
  other = not_head filled.parted h 1 held at 0 refl

  lists_are : w ≡ record v { held = set (set v.held h (Some (h ∷ []))) g (Some (g ∷ others)) }
  lists_are = w_is ∙ ap (λ ns. record v { held = chain_divided (λ n. n) h ns v.held }) nodes_are

  held_seen : map (option_map (message_of fields)) (set (set v.held h (Some (h ∷ []))) g (Some (g ∷ others)))
      ≡ set (set old.held h (Some (block_at fields h ∷ []))) g (Some (block_at fields g ∷ message_of fields others))
  held_seen = grind (arith, common_steps, map-set)

  shows : arena_of id s.store fields w ≡ record old { held = set (set old.held h (Some (block_at fields h ∷ []))) g (Some (block_at fields g ∷ message_of fields others)) }
  shows = grind (arith, common_steps, lists_are, held_seen)

  many : length w.held ≡ length v.held
  many = ap (λ (l : ChainLists). length l.held) lists_are ∙ length-set (set v.held h _) g _ ∙ length-set v.held h _

  head_inside : h < length old.held
  head_inside = omega (arith, held_room v h held, length-map v.held (option_map (message_of fields)))

  rest_inside : g < length (set old.held h (Some (block_at fields h ∷ [])))
  rest_inside = grind (arith, common_steps, block_room, length-map, length-set)

  rest_held : held_at (arena_of id s.store fields w) g ≡ Some (block_at fields g ∷ message_of fields others)
  rest_held = ap (λ a. held_at a g) shows ∙ get_or-set_same (set old.held h (Some (block_at fields h ∷ []))) g _ None rest_inside

  pub divides : IsDivided old s fields w id h g
  divides = record {
    filled = moved_filled filled (ap (λ (l : ChainLists). l.free) lists_are) many parted;
    shelved = ap shelved_blocks shows;
    after =
        shows
        ∙ ap (λ m. record old { held = chain_divided (λ (b : Block). b.number) h m old.held })
        (sym (message_at-seen id s.store fields v h ∙ ap (message_of fields) nodes_are));
    head =
        ap (λ a. held_at a h) shows
        ∙ get_or-set_other (set old.held h (Some (block_at fields h ∷ []))) g h _ None (λ same. other (sym same))
        ∙ get_or-set_same old.held h (Some (block_at fields h ∷ [])) None head_inside;
    rest = rest_held ∙ ap Some (sym (ap blocks_of rest_held));
    absent = held_at-seen id s.store fields v g ∙ ap (option_map (message_of fields)) (not_begun filled.parted h 1 held at other);
    given = ap (λ m. head_in (drop 1 m)) (message_at-seen id s.store fields v h ∙ ap (message_of fields) nodes_are);
  }

-- the token of a held message of n blocks
pub token_is : (a b : Arena) (t : TokenValue) {u : TokenValue} {n : ℕ} → t.pool ≡ a.id → b.id ≡ a.id → u ≡ record t { blocks = n } → length (message_at b t.head) ≡ n → u ≡ token_of b t.head
token_is a b t pool id is many = grind (arith, common_steps, many)
