use Rattle.std.proofs.Common.{◌≡◌, Err, Ok, sym, ap, subst, ◌∙◌}
use Rattle.std.proofs.lemmas.Bool.{cond-true}
use Rattle.strm_mblk.specs.Arena.{message_at}
use Rattle.strm_queue.specs.declared.queued_info.QueuedInfo.{QueuedInfo}
use Rattle.strm_queue.specs.QueueLooks.{info_of_message}
use Rattle.strm_pool.proofs.Tokens.{same_ok}
use Rattle.strm_named.specs.declared.fault.Fault.TheVariants.{Invalid}
use Rattle.strm_named.specs.NamedCalls.{as_named_result}
use Rattle.strm_named.specs.NamedValue.{NamedValue, is_valid}
use Rattle.strm_named.specs.Stamps.{IsTokenOf}
use Rattle.strm_named.proofs.Held.{is_told}
use Rattle.strm_named.proofs.named_pool.NamedPool.message.Goals as goal

pub returns : goal.returns
returns c =
    let a = c.self.inside.pool.arena in
    let v = c.args.self.now in
    let name = c.args.name in
    let of : IsTokenOf name a c.token-token.result = subst (λ (w : NamedValue). IsTokenOf name w.pool.arena c.token-token.result) (sym c.self.view_is) c.token-token.ensures in
    let is = is_told a c.token-token.result of.had c.lawful.ensures.parted in
    let first : c.in-Ok.first ≡ is.first = same_ok (sym c.in-Ok.is ∙ c.block.ensures ∙ is.found) in
    (λ i. Ok (let q : QueuedInfo = record { head = sym of.head i; kind = (first i).kind; band = (first i).band; size = c.size-size.ensures i; blocks = c.blocks-blocks.ensures i } in q))
    ∙ ap as_named_result (sym is.told)
    ∙ ap (λ h. as_named_result (info_of_message a.store (message_at a h))) of.head
    ∙ ap (λ (w : NamedValue). as_named_result (info_of_message w.pool.arena.store (message_at w.pool.arena name.head))) c.self.view_is
    ∙ sym (cond-true (is_valid v name) (as_named_result (info_of_message v.pool.arena.store (message_at v.pool.arena name.head))) (Err Invalid) (sym c.has.ensures ∙ c.if-not-has.false))
