use Rattle.std.proofs.Common.{◌≡◌, true, List, set, Option, Some, None, refl, sym, ap, ◌∙◌, subst, get_or-set_other}
use Rattle.std.specs.Prelude.{is_some}
use Rattle.strm_mblk.specs.declared.token.TokenValue.{TokenValue}
use Rattle.strm_mblk.specs.BlockCalls as blocks
use Rattle.strm_pool.specs.declared.call.Call.TheVariants as calls
use Rattle.strm_pool.specs.declared.reply.Reply.TheVariants.{Done}
use Rattle.strm_pool.specs.PoolValue.{owns, with_arena}
use Rattle.strm_pool.specs.Registers.{register, table_of}
use Rattle.strm_pool.specs.Step.{Applies, replying}
use Rattle.strm_pool.proofs.Applied.{emptied, owns_less}
use Rattle.strm_pool.proofs.Shaped.{head_is, links, sources_apart}
use Rattle.strm_pool.proofs.pool.Pool.act_linkb.Goals as goal

pub picked-tail-requires-clause-owned : goal.picked-tail-requires-clause-owned
picked-tail-requires-clause-owned c = subst (λ rs. owns c.args.self.now rs ≡ true) (sym c.picked-token.ensures.empty) (owns_less c.args.self.now c.args.regs.now c.args.reg c.requires.owned)

pub hold-requires : goal.hold-requires
hold-requires c =
    let rs = c.args.regs.now in
    ap is_some (ap (λ (l : List (Option TokenValue)). register l c.args.reg) (c.picked-tail.ensures.empty ∙ ap (λ (l : List (Option TokenValue)). set l c.args.behind None) c.picked-token.ensures.empty) ∙ emptied rs c.args.reg c.args.behind)

pub returns : goal.returns
returns c =
    let v = c.args.self.now in
    let rs = c.args.regs.now in
    let token = c.picked-token.result in
    let tail = c.picked-tail.result in
    let apart = sources_apart refl c.requires c.args.reg c.args.behind refl c.picked-token.ensures.token in
    let behind = sym (get_or-set_other rs c.args.reg c.args.behind None None (λ same. apart (sym same))) ∙ ap (λ l. register l c.args.behind) (sym c.picked-token.ensures.empty) ∙ c.picked-tail.ensures.token in
    subst (λ ss. Applies v rs (calls.Linkb c.args.reg c.args.behind) c.linkb.new.self ss Done)
    (sym (c.hold.ensures ∙ ap (λ (l : List (Option TokenValue)). set l c.args.reg (Some c.linkb.new.token)) (c.picked-tail.ensures.empty ∙ ap (λ (l : List (Option TokenValue)). set l c.args.behind None) c.picked-token.ensures.empty)))
    (links refl c.requires c.args.reg c.args.behind refl c.picked-token.ensures.token behind apart c.linkb.ensures
    ((λ i. replying (with_arena v (blocks.linkb (head_is rs c.args.reg token c.picked-token.ensures.token i) (head_is rs c.args.behind tail behind i) v.arena)) (set (table_of rs) c.args.behind None) Done)
    ∙ ap (λ p. replying p (set (table_of rs) c.args.behind None) Done) (sym c.linkb.ensures.after)))
