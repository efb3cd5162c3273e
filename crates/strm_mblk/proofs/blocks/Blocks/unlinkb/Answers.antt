use Rattle.std.proofs.Common.{arith, [], ◌∷◌, ◌≡◌, ℕ, ap, subst, sym, refl, ◌∙◌, Some, List, Option, None, drop, Ok}
use Rattle.std.proofs.lemmas.Grind.{common_steps}
use Rattle.std.specs.Prelude.{is_some, option_map, slice_get}
use Rattle.strm_mblk.specs.declared.token.TokenValue.{TokenValue}
use Rattle.strm_mblk.specs.Arena.{Arena, token_of, message_at}
use Rattle.strm_mblk.specs.BlockCalls.{unlinkb, head_in}
use Rattle.strm_mblk.specs.BlocksLayout.{arena_of}
use Rattle.strm_mblk.specs.Messages.{chain_divided}
use Rattle.strm_links.specs.ChainLists.{ChainLists, nodes_at}
use Rattle.strm_mblk.proofs.layout.HeldBlocks.{token_held, block_none}
use Rattle.strm_mblk.proofs.arena.Counts.{had_message, token_had}
use Rattle.strm_mblk.proofs.joining.Unlinkb.{IsDivided, divides, token_is}
use Rattle.strm_mblk.proofs.arena.Frame.{Leaves, leaves_unlinkb}
use Rattle.strm_mblk.proofs.layout.StoredArena.{still_whole, reloaded, reviewed}
use Rattle.strm_mblk.proofs.blocks.Blocks.unlinkb.Goals.{After-set_blocks, After-token}
use Rattle.strm_mblk.specs.Frame.{head_given}
use Rattle.std.proofs.lemmas.Option.{none-some}
use Rattle.strm_mblk.specs.Block.{Block, Message}
use Rattle.strm_mblk.specs.Calls.{Unlinks, itself}
use Rattle.strm_mblk.proofs.blocks.Blocks.unlinkb.Goals as goal

is_divided : (c : After-set_blocks) → IsDivided c.args.self.now c.self.inside.data c.divide.new.self.loads c.divide.new.self.lists c.self.inside.id c.args.token.now.head c.in_ok-rest.rest
is_divided c =
    let held = token_held c.self.inside.data c.divide.new.self.loads c.self.inside.chains.lists (reviewed c.self.inside.data.store c.self.inside.chains.lists c.divide.ensures.loads c.self.view_is) c.args.token.now c.args.token.now refl c.requires in
    let at : slice_get (nodes_at c.self.inside.chains.lists c.args.token.now.head) 1 ≡ Some c.in_ok-rest.rest =
    ap (λ h. slice_get (nodes_at c.self.inside.chains.lists h) 1) (sym c.head.ensures) ∙ sym c.divide.ensures.answer ∙ c.in_ok-rest.was in
    let lists : ℕ → ChainLists = λ h. record c.self.inside.chains.lists { held = chain_divided (λ n. n) h (nodes_at c.self.inside.chains.lists h) c.self.inside.chains.lists.held } in
    subst (λ a. IsDivided a c.self.inside.data c.divide.new.self.loads c.divide.new.self.lists c.self.inside.id c.args.token.now.head c.in_ok-rest.rest) (reviewed c.self.inside.data.store c.self.inside.chains.lists c.divide.ensures.loads c.self.view_is)
    (divides (reloaded c.divide.ensures.loads c.self.invariant.filled) c.args.token.now.head held at
    (c.divide.ensures.after ∙ ap lists c.head.ensures) c.divide.ensures.parted)

abbrev new_arena : After-set_blocks → Arena
new_arena c = arena_of c.self.inside.id c.self.inside.data.store c.divide.new.self.loads c.divide.new.self.lists

first_token : (c : After-set_blocks) → c.set_blocks.new.self ≡ token_of (new_arena c) c.args.token.now.head
first_token c = grind (arith, common_steps, token_is, had_message, is_divided)

pub invariant_of-self-2 : goal.invariant_of-self-2
invariant_of-self-2 c = still_whole _ c.self.invariant c.self.view_is refl (is_divided c).filled (is_divided c).shelved

pub token-requires : goal.token-requires
token-requires c = ap is_some (is_divided c).rest

left : (c : After-token) → Leaves (c.args.token.now.head ∷ c.token.result.head ∷ []) c.args.self.now (new_arena (goal.at.returns c).After-set_blocks)
left c =
    let d = (goal.at.returns c).After-set_blocks in
    let h = c.args.token.now.head in
    subst (λ g. Leaves (h ∷ g ∷ []) c.args.self.now (new_arena d)) (ap (λ (t : TokenValue). t.head) (sym c.token.ensures))
    (subst (Leaves (h ∷ c.in_ok-rest.rest ∷ []) c.args.self.now) (sym (is_divided d).after)
    (subst (λ o. Leaves (h ∷ head_given (option_map (token_of (new_arena d)) o)) c.args.self.now (unlinkb h c.args.self.now).1) (is_divided d).given (leaves_unlinkb c.args.self.now (new_arena d) h)))

pub returns : goal.returns
returns c = grind (arith, common_steps, is_divided, first_token, token_had, left)

-- ---- the message has one block

-- what has one element is not divided
alone : {X : Type 0} (number : X → ℕ) (h : ℕ) (xs : List X) (chains : List (Option (List X))) → slice_get xs 1 ≡ None → chain_divided number h xs chains ≡ chains
alone number h [] chains none = refl
alone number h (x ∷ []) chains none = refl
alone number h (x ∷ y ∷ xs) chains none = absurd (none-some y (sym none))

none_given : (m : Message) → slice_get m 1 ≡ None → head_in (drop 1 m) ≡ None
none_given [] none = refl
none_given (b ∷ []) none = refl
none_given (b ∷ c ∷ m) none = absurd (none-some c (sym none))

pub returns-in_err-rest : goal.returns-in_err-rest
returns-in_err-rest c =
    let i = c.self.inside in
    let a = c.args.self.now in
    let t = c.args.token.now in
    let none : slice_get (nodes_at i.chains.lists c.head.result) 1 ≡ None = sym c.divide.ensures.answer ∙ c.in_err-rest.was in
    let lists = c.divide.ensures.after ∙ ap (λ held. record i.chains.lists { held = held }) (alone (λ n. n) c.head.result (nodes_at i.chains.lists c.head.result) i.chains.lists.held none) in
    let same : arena_of i.id i.data.store c.divide.new.self.loads c.divide.new.self.lists ≡ a = (λ j. arena_of i.id i.data.store (c.divide.ensures.loads j) (lists j)) ∙ c.self.view_is in
    let single : slice_get (message_at a t.head) 1 ≡ None =
    block_none c.self.invariant.filled c.self.view_is t.head 1 (ap (λ h. slice_get (nodes_at i.chains.lists h) 1) (sym c.head.ensures) ∙ none) in
    let call : unlinkb t.head a ≡ (None, a) = λ j. (none_given (message_at a t.head) single j, record a { held = alone (λ (b : Block). b.number) t.head (message_at a t.head) a.held single j }) in
    subst (λ b. Unlinks itself t t (Ok (unlinkb t.head a)) a b (Ok c.from_residual.result)) (sym same) (record {
      after = sym (ap (λ (p : Option ℕ × Arena). p.1) call);
      rest = grind (arith, common_steps, call);
      token = grind (arith, common_steps, had_message);
      had = c.requires;
      rest_had = grind (arith, common_steps);
      unheld = grind (arith, common_steps);
      others = record { id = refl; size = refl; held = λ h other. refl };
      shelves = record { shelves = refl; shelved_data = λ k e within. refl; held_data = λ h other k e within. refl };
    })
