use Rattle.std.proofs.Common.{◌≡◌, ◌<◌, rules, Fits, w8, ◌++◌, ◌∷◌, List, Some, ap, arith, sym, true, ◌∙◌}
use Rattle.std.proofs.lemmas.Grind.{common_steps}
use Rattle.strm_links.specs.Rows.{first}
use Rattle.strm_mblk.specs.Arena.{shelf_at}
use Rattle.strm_mblk.specs.Block.{Message}
use Rattle.strm_mblk.proofs.arena.Stands.{shelf_of-there}
use Rattle.strm_queue.specs.Ends.{first_of_rank}
use Rattle.strm_queue.specs.Flow.{band_of_rank}
use Rattle.strm_queue.specs.Flushing.{messages_from_band}
use Rattle.strm_queue.specs.Limits.{bands}
use Rattle.strm_queue.specs.Rank.{is_ordered, rank_of}
use Rattle.strm_queue.specs.Tallies.{first_in}
use Rattle.strm_queue.proofs.moving.Flushing.{from_band-first, from_band-past}
use Rattle.strm_queue.proofs.Shelf.{FirstParts, first_of, heads}
use Rattle.strm_queue.proofs.queues.Queues.onward.Goals as goal
use Rattle.strm_queue.proofs.queues.Queues.onward.Goals.{After-queued_rank-rank}

pub queued_rank-rank-requires : goal.queued_rank-rank-requires
queued_rank-rank-requires c = shelf_of-there c.args.blocks.now c.args.queue c.in-Some-Some.head (c.requires.at c.in-Some-Some.head c.in-Some-Some.is-1)

-- the message with this head, and those after it
parts : (c : After-queued_rank-rank) (post : List Message) → c.args.at ≡ first (heads post) → FirstParts c.in-Some-Some.head post
parts c post at = first_of c.in-Some-Some.head post (sym at ∙ c.in-Some-Some.is-1)

-- the argument is the number of a band
low : (c : After-queued_rank-rank) → c.in-Some-Some.band < bands
low c = let fits : Fits w8 c.in-Some-Some.band = search rules in omega (arith, fits)

module _ (c : After-queued_rank-rank) (pre post : List Message) (is : shelf_at c.args.blocks.now c.args.queue ≡ pre ++ post) (at : c.args.at ≡ first (heads post)) where
  abbrev one : FirstParts c.in-Some-Some.head post
  one = parts c post at

  here : shelf_at c.args.blocks.now c.args.queue ≡ pre ++ one.at ∷ one.post
  here = is ∙ ap (λ ms. pre ++ ms) one.is

  ordered : is_ordered (rank_of c.args.blocks.now.store) (pre ++ one.at ∷ one.post) ≡ true
  ordered = sym (ap (is_ordered (rank_of c.args.blocks.now.store)) here) ∙ c.requires.in_order.ordered c.args.queue

  -- `queued_rank` returns its rank
  rank_is : c.queued_rank-rank.result ≡ rank_of c.args.blocks.now.store one.at
  rank_is = c.queued_rank-rank.ensures.value c.args.queue pre one.post one.at here one.head

  -- the band is given
  of_band : messages_from_band c.args.blocks.now.store (Some c.in-Some-Some.band) (one.at ∷ one.post) ≡ messages_from_band c.args.blocks.now.store c.args.band post
  of_band = λ i. messages_from_band c.args.blocks.now.store (sym c.in-Some-Some.is-0 i) (sym one.is i)

pub returns-then-rank-from : goal.returns-then-rank-from
returns-then-rank-from c pre post is at = grind (arith, common_steps, from_band-past, heads)

pub returns : goal.returns
returns c pre post is at =
    let asked = (goal.at.returns c).After-queued_rank-rank in
    let m = one asked pre post is at in
    let rank = rank_is asked pre post is at in
    let s = c.args.blocks.now.store in
    c.first.ensures
    ∙ (λ i. first_in (c.tally.ensures i) (c.from-2.ensures i))
    ∙ (c.requires.in_order.true_of c.args.queue c.requires.queue).ends.firsts c.in-Some-Some.band
    ∙ ap (first_of_rank (rank_of s) c.in-Some-Some.band) (here asked pre post is at)
    ∙ from_band-first s c.in-Some-Some.band (low asked) pre m.post m.at (ordered asked pre post is at)
    (λ same. c.if-band_of-band.false (c.band_of.ensures ∙ ap band_of_rank rank ∙ same))
    (omega (arith, rank, c.from.ensures, c.if-rank-from.false))
    ∙ ap (λ ms. first (heads ms)) (of_band asked pre post is at)
