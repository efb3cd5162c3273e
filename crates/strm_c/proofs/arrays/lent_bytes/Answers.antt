use Rattle.std.proofs.Common.{◌≡◌, ap, subst, sym, ◌∙◌}
use Rattle.std.specs.Prelude.{option_map, slice_get}
use Rattle.strm_mblk.specs.Block.{bytes_of_block}
use Rattle.strm_mblk.specs.Given.{answer_map}
use Rattle.strm_pool.specs.PoolValue.{queued_blocks_of}
use Rattle.strm_queue.specs.QueueLooks.{queued_bytes}
use Rattle.strm_c.specs.InPlace.{blocks_lent}
use Rattle.strm_c.proofs.BlockArrays.{held_ok, queued_ok}
use Rattle.strm_c.proofs.arrays.lent_bytes.Goals as goal

pub returns-in-Held : goal.returns-in-Held
returns-in-Held c = ap (option_map (λ b. b.now)) c.ok.ensures.value ∙ held_ok (λ b. b.now) c.args.named.now c.in-Held.name c.args.place c.bytes.result c.bytes.ensures
    ∙ ap (λ l. option_map (bytes_of_block c.args.named.now.pool.arena.store) (slice_get (blocks_lent c.args.named.now l) c.args.place)) (sym c.in-Held.is)

pub returns-in-Queued : goal.returns-in-Queued
returns-in-Queued c =
    ap (option_map (λ b. b.now)) c.ok-in-Queued.ensures.value
    ∙ queued_ok (λ b. b.now) c.args.named.now c.in-Queued.head c.args.place c.queued_bytes.result
    (subst (λ p. answer_map (λ b. b.now) c.queued_bytes.result ≡ queued_bytes c.in-Queued.head c.args.place (queued_blocks_of p)) c.pool.ensures c.queued_bytes.ensures)
    ∙ ap (λ l. option_map (bytes_of_block c.args.named.now.pool.arena.store) (slice_get (blocks_lent c.args.named.now l) c.args.place)) (sym c.in-Queued.is)
