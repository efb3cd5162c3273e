use Rattle.std.proofs.Common.{arith, ◌≡◌, ◌≢◌, ℕ, ap, subst, sym, ◌∙◌, [], ◌∷◌, refl}
use Rattle.std.proofs.lemmas.Grind.{common_steps}
use Rattle.strm_mblk.specs.declared.token.TokenValue.{TokenValue}
use Rattle.strm_mblk.specs.Arena.{held_at}
use Rattle.strm_mblk.specs.Messages.{chains_joined}
use Rattle.strm_links.specs.ChainLists.{ChainLists}
use Rattle.strm_mblk.proofs.joining.Linkb.{IsJoined, joins}
use Rattle.strm_mblk.proofs.arena.Frame.{Leaves, leaves_linkb, linkb_gone}
use Rattle.strm_mblk.proofs.layout.StoredArena.{still_whole, reloaded, reviewed}
use Rattle.strm_mblk.proofs.blocks.Blocks.linkb.Goals.{After-set_blocks}
use Rattle.strm_mblk.proofs.blocks.Blocks.linkb.Goals as goal

is_joined : (c : After-set_blocks) → IsJoined c.args.self.now c.self.inside.data c.join.new.self.loads c.join.new.self.lists c.self.inside.id c.args.token.now.head c.args.tail.head
is_joined c =
    let tail : c.spend-tail.result.head ≡ c.args.tail.head = ap (λ (t : TokenValue). t.head) c.spend-tail.ensures in
    let other : c.args.token.now.head ≢ c.args.tail.head = λ same. c.if-head-tail.true (c.head.ensures ∙ same ∙ sym tail) in
    let lists : ℕ → ℕ → ChainLists = λ h g. record c.self.inside.chains.lists { held = chains_joined h g c.self.inside.chains.lists.held } in
    let after : c.join.new.self.lists ≡ lists c.args.token.now.head c.args.tail.head =
    c.join.ensures.after ∙ ap (λ h. lists h c.spend-tail.result.head) c.head-then-head-tail.ensures ∙ ap (lists c.args.token.now.head) tail in
    subst (λ a. IsJoined a c.self.inside.data c.join.new.self.loads c.join.new.self.lists c.self.inside.id c.args.token.now.head c.args.tail.head) (reviewed c.self.inside.data.store c.self.inside.chains.lists c.join.ensures.loads c.self.view_is)
    (joins (reloaded c.join.ensures.loads c.self.invariant.filled) c.args.token.now.head c.args.tail.head other after c.join.ensures.parted)

pub invariant_of-self : goal.invariant_of-self
invariant_of-self c = still_whole _ c.self.invariant c.self.view_is refl (is_joined c).filled (is_joined c).shelved

pub returns-then-head-tail : goal.returns-then-head-tail
returns-then-head-tail c =
    let h = c.args.token.now.head in
    let g = c.args.tail.head in
    let after = (is_joined c).after in
    let left = subst (Leaves (h ∷ g ∷ []) c.args.self.now) (sym after) (leaves_linkb c.args.self.now h g) in
    record {
      after = after;
      token = grind (arith, common_steps);
      had = grind (arith, common_steps);
      gone = λ apart. ap (λ a. held_at a g) after ∙ linkb_gone c.args.self.now h g apart;
      others = left.others;
      shelves = left.shelves;
    }
