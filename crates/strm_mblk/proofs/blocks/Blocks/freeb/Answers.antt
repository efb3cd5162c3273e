use Rattle.std.proofs.Common.{◌∷◌, ◌≡◌, ap, subst, ◌∙◌, true, arith}
use Rattle.strm_mblk.specs.declared.token.TokenValue.{TokenValue}
use Rattle.strm_mblk.specs.Arena.{has, message_at, token_of}
use Rattle.std.specs.Prelude.{option_map}
use Rattle.strm_mblk.specs.BlockCalls.{freeb, unlinkb}
use Rattle.strm_mblk.specs.Freeing.{with_token_spent}
use Rattle.strm_mblk.proofs.arena.Counts.{IsOneFreed, frees_one, had_message}
use Rattle.strm_mblk.proofs.arena.Frame.{Leaves, leaves_freeb}
use Rattle.strm_mblk.proofs.blocks.Blocks.freeb.Goals.{After-freemsg}
use Rattle.strm_mblk.specs.Frame.{head_given}
use Rattle.strm_mblk.proofs.blocks.Blocks.freeb.Goals as goal
use Rattle.std.proofs.lemmas.Grind.{common_steps}

is_freed : (c : After-freemsg) → IsOneFreed c.args.self.now c.lawful.ensures.parted c.args.token.head c.unlinkb-rest.new.token (message_at c.args.self.now c.args.token.head)
is_freed c =
    let message = had_message c.args.self.now c.args.token c.requires in
    frees_one c.args.self.now c.lawful.ensures.parted c.args.token.head message.1.held c.unlinkb-rest.new.token
    (ap (λ (t : TokenValue). t.head) c.unlinkb-rest.ensures.token)
    (subst (λ a. has a c.unlinkb-rest.new.token ≡ true) c.unlinkb-rest.ensures.after c.unlinkb-rest.ensures.had)

after_is : (c : After-freemsg) → c.freemsg.new.self ≡ (freeb c.args.token.head c.args.self.now).1
after_is c = c.freemsg.ensures.after ∙ ap (λ a. with_token_spent a c.unlinkb-rest.new.token) c.unlinkb-rest.ensures.after ∙ (is_freed c).after

unlinked : (c : After-freemsg) → c.unlinkb-rest.result ≡ option_map (token_of c.unlinkb-rest.new.self) (unlinkb c.args.token.head c.args.self.now).0
unlinked c = let answered = c.unlinkb-rest.ensures.rest in cc

rest_is : (c : After-freemsg) → c.unlinkb-rest.result ≡ option_map (token_of (freeb c.args.token.head c.args.self.now).1) (freeb c.args.token.head c.args.self.now).0
rest_is c = grind (arith, common_steps, unlinked, is_freed)

left : (c : After-freemsg) → Leaves (c.args.token.head ∷ head_given c.unlinkb-rest.result) c.args.self.now c.freemsg.new.self
left c = grind (arith, common_steps, rest_is, after_is, leaves_freeb)

pub returns : goal.returns
returns c = grind (arith, common_steps, after_is, rest_is, is_freed, left)
