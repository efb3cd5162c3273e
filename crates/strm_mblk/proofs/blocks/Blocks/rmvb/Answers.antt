use Rattle.std.proofs.Common.{inr, Result, [], ◌∷◌, ◌≡◌, ◌≢◌, arith, Some, Ok, Err, Option, ap, subst, sym, ◌∙◌, refl}
use Rattle.std.proofs.lemmas.Grind.{common_steps}
use Rattle.std.specs.Prelude.{IfSome, is_some, option_map}
use Rattle.std.proofs.lemmas.Option.{slice_get_past}
use Rattle.strm_data.specs.declared.refusal.Refusal.TheVariants.{NoSuchBlock}
use Rattle.strm_mblk.specs.declared.rejected.Rejected.{Rejected}
use Rattle.strm_mblk.specs.declared.token.TokenValue.{TokenValue}
use Rattle.strm_mblk.specs.Arena.{Arena, has, held_at, message_at, token_of}
use Rattle.strm_mblk.specs.BlockCalls.{rmvb, unlinkb}
use Rattle.strm_mblk.specs.BlocksLayout.{arena_of}
use Rattle.strm_mblk.specs.Given.{value_after, answer_map, answer_of, or_rejected}
use Rattle.strm_mblk.proofs.arena.Counts.{rmvb_first, had_message, token_had}
use Rattle.strm_mblk.proofs.layout.HeldBlocks.{token_nodes}
use Rattle.strm_mblk.proofs.joining.TakenOut.{IsTakenOut, is_taken_out, refused_answer}
use Rattle.strm_mblk.proofs.arena.Frame.{Leaves, leaves_rmvb, leaves_same}
use Rattle.strm_mblk.proofs.layout.StoredArena.{still_whole, reloaded, reviewed}
use Rattle.strm_mblk.proofs.blocks.Blocks.rmvb.Goals.{After-take_out-node, After-token-2, After-unlinkb-rest, Then-place-blocks}
use Rattle.strm_mblk.specs.Frame.{heads_parted}
use Rattle.strm_mblk.proofs.blocks.Blocks.rmvb.Goals as goal

-- ---- block 0

value_first : (c : After-unlinkb-rest) → rmvb c.args.token.head c.args.place c.args.self.now ≡ Ok ((c.args.token.head, (unlinkb c.args.token.head c.args.self.now).0), c.unlinkb-rest.new.self)
value_first c =
    let message = had_message c.args.self.now c.args.token c.requires in
    ap (λ k. rmvb c.args.token.head k c.args.self.now) c.if-place-eq0.true
    ∙ rmvb_first c.lawful.ensures.parted c.args.token.head message.1.held
    ∙ ap (λ a. Ok ((c.args.token.head, (unlinkb c.args.token.head c.args.self.now).0), a)) (sym c.unlinkb-rest.ensures.after)

apart_first : (c : After-unlinkb-rest) → IfSome c.unlinkb-rest.result (λ rest. rest.head ≢ c.unlinkb-rest.new.token.head)
apart_first c = grind (arith, common_steps, had_message)

pub returns-then-place-eq0 : goal.returns-then-place-eq0
returns-then-place-eq0 c = grind (arith, common_steps, value_first, apart_first)

-- ---- no such block

value_none : (c : Then-place-blocks) → rmvb c.args.token.head c.args.place c.args.self.now ≡ Err NoSuchBlock
value_none c = grind (arith, common_steps, had_message, slice_get_past)

pub returns-then-place-blocks : goal.returns-then-place-blocks
returns-then-place-blocks c = grind (arith, common_steps, leaves_same, value_none, refused_answer)

-- ---- another block

pub take_out-node-requires-clause-there : goal.take_out-node-requires-clause-there
take_out-node-requires-clause-there c = grind (arith, common_steps, token_nodes)

is_taken : (c : After-take_out-node) → IsTakenOut c.args.self.now c.self.inside.data c.take_out-node.new.self.loads c.take_out-node.new.self.lists c.self.inside.id c.args.token.head c.args.place c.take_out-node.result
is_taken c =
    is_taken_out (reloaded c.take_out-node.ensures.loads c.self.invariant.filled) (reviewed c.self.inside.data.store c.self.inside.chains.lists c.take_out-node.ensures.loads c.self.view_is) c.args.token c.requires c.args.place (ap (λ (t : TokenValue). t.head) c.spend-head.ensures) c.take_out-node.ensures.answer (omega (arith, c.if-place-eq0.false)) c.take_out-node.ensures.after c.take_out-node.ensures.parted

abbrev new_arena : After-take_out-node → Arena
new_arena c = arena_of c.self.inside.id c.self.inside.data.store c.take_out-node.new.self.loads c.take_out-node.new.self.lists

rest_held : (c : After-take_out-node) → held_at (new_arena c) c.spend-head.result.head ≡ Some (message_at (new_arena c) c.spend-head.result.head)
rest_held c = subst (λ h. held_at (new_arena c) h ≡ Some (message_at (new_arena c) h)) (sym (ap (λ (t : TokenValue). t.head) c.spend-head.ensures)) (is_taken c).rest

pub invariant_of-self : goal.invariant_of-self
invariant_of-self c = still_whole _ c.self.invariant c.self.view_is refl (is_taken c).filled (is_taken c).shelved

pub token-requires : goal.token-requires
token-requires c = ap is_some (is_taken c).block

pub token-requires-2 : goal.token-requires-2
token-requires-2 c = ap is_some (rest_held (goal.at.token-requires-2 c).After-take_out-node)

module _ (c : After-token-2) where
  abbrev d : After-take_out-node
  d = (goal.at.returns c).After-take_out-node

  answer : ◌≡◌ {A = Result (TokenValue × Option TokenValue) Rejected} (Ok (c.token.result, Some c.token-2.result)) (or_rejected c.args.token (answer_map (λ heads. (token_of (new_arena d) heads.0, option_map (token_of (new_arena d)) heads.1)) (answer_of (rmvb c.args.token.head c.args.place c.args.self.now))))
  answer = grind (arith, common_steps, is_taken)

  left : Leaves (c.args.token.head ∷ c.token.result.head ∷ c.token-2.result.head ∷ []) c.args.self.now (new_arena d)
  left =
      subst (Leaves (c.args.token.head ∷ c.token.result.head ∷ c.token-2.result.head ∷ []) c.args.self.now) (ap (value_after c.args.self.now) (is_taken d).value)
      (subst (λ r. Leaves (c.args.token.head ∷ heads_parted r) c.args.self.now (value_after c.args.self.now (rmvb c.args.token.head c.args.place c.args.self.now))) (sym answer)
      (leaves_rmvb c.args.self.now (new_arena d) c.args.token c.args.token.head c.args.place))

pub returns : goal.returns
returns c =
    let at = (goal.at.returns c).After-take_out-node in
    let now = new_arena at in
    let is = is_taken at in
    record {
      after = ap (value_after c.args.self.now) (sym is.value);
      answer = answer c;
      kept = inr (ap (λ (t : TokenValue). Some t.head) (c.token-2.ensures ∙ ap (token_of now) (ap (λ (t : TokenValue). t.head) c.spend-head.ensures)));
      had = ap (has now) c.token.ensures ∙ token_had now c.take_out-node.result _ is.block;
      rest_had = ap (has now) c.token-2.ensures ∙ token_had now c.spend-head.result.head _ (rest_held at);
      unheld = λ other. ap (λ (t : TokenValue). held_at c.args.self.now t.head) c.token.ensures ∙ is.absent;
      rest_unheld = grind (arith, common_steps);
      apart = λ same.
          is.apart
          (sym (ap (λ (t : TokenValue). t.head) c.token.ensures) ∙ sym same ∙ ap (λ (t : TokenValue). t.head) c.token-2.ensures ∙ ap (λ (t : TokenValue). t.head) c.spend-head.ensures);
      others = (left c).others;
      shelves = (left c).shelves;
    }
