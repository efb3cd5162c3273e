use Rattle.std.proofs.Common.{◌≡◌, ◌+◌, ◌≤◌, ℕ, true, [], ◌∷◌, Ok, Some, refl, sym, ap, ◌∙◌, subst, arith}
use Rattle.std.specs.Prelude.{is_some, slice_get, slice_set}
use Rattle.std.proofs.lemmas.Option.{none-some, same_Some}
use Rattle.strm_data.specs.DataStore.{capacity_of}
use Rattle.strm_mblk.specs.declared.blocks.Fields.{Fields}
use Rattle.strm_mblk.specs.Arena.{Arena, has, message_at, with_message}
use Rattle.strm_mblk.specs.Block.{Block, Message}
use Rattle.strm_mblk.specs.BlockCalls.{with_band, with_block}
use Rattle.strm_mblk.specs.BlocksLayout.{IsPlaced, block_at, block_of, fields_at}
use Rattle.strm_links.specs.ChainLists.{nodes_at}
use Rattle.strm_mblk.proofs.arena.Calls.{alters_kept, had_with_block}
use Rattle.strm_mblk.proofs.arena.Frame.{leaves_setband}
use Rattle.strm_mblk.proofs.arena.Counts.{had_message}
use Rattle.strm_mblk.proofs.layout.HeldBlocks.{IsAt, IsHeldHead, block_some, seen_head}
use Rattle.strm_mblk.proofs.blocks.Blocks.setband.Goals.{After-fields_at-fields}
use Rattle.strm_mblk.proofs.blocks.Blocks.setband.Goals as goal

-- the band of the first block alone changes
with_band_is : (band : ℕ) (m : Message) {b : Block} → slice_get m 0 ≡ Some b → slice_set m 0 (record b { band = band }) ≡ with_band band m
with_band_is band [] {b} is = absurd (none-some b is)
with_band_is band (c ∷ bs) {b} is = ap (λ (d : Block). record d { band = band } ∷ bs) (sym (same_Some c b is))

module _ (c : After-fields_at-fields) where
  head : IsHeldHead c.self.inside.chains.loads c.self.inside.chains.lists c.args.token.now.head
  head =
      seen_head c.self.invariant.filled c.args.token.now.head c.self.view_is
      (ap is_some (had_message c.args.self.now c.args.token.now c.requires).1.held)

  at : IsAt c.self.inside.data c.self.inside.chains.loads c.self.inside.chains.lists c.args.self.now c.args.token.now.head 0 c.args.token.now.head (nodes_at c.self.inside.chains.lists c.args.token.now.head)
  at =
      block_some c.self.invariant.filled c.self.view_is c.args.token.now.head 0
      c.args.token.now refl c.requires head.first

  read : c.fields_at-fields.result ≡ fields_at c.self.inside.chains.loads c.args.token.now.head
  read = c.fields_at-fields.ensures ∙ ap (fields_at c.self.inside.chains.loads) c.head-node.ensures

pub set_fields-requires : goal.set_fields-requires
set_fields-requires c =
    let before = (goal.at.set_fields-requires c).After-fields_at-fields in
    record {
      head = c.args.token.now.head;
      place = 0;
      block = block_at c.self.inside.chains.loads c.args.token.now.head;
      found = (at before).block;
      number = sym c.head-node.ensures;
      same = ap (λ (f : Fields). f.data_number) (read before);
      room =
          subst (λ (f : Fields). f.offset + f.len ≤ capacity_of c.args.self.now.store f.data_number) (sym (read before))
          (subst (λ (a : Arena). IsPlaced a.store (fields_at c.self.inside.chains.loads c.args.token.now.head)) c.self.view_is (at before).placed).within;
      banded = omega (arith, c.ranges.band);
    }

pub returns : goal.returns
returns c =
    let before = (goal.at.returns c).After-fields_at-fields in
    let h = c.args.token.now.head in
    let a = c.args.self.now in
    let b = block_at c.self.inside.chains.loads h in
    let is : c.set_fields.new.self ≡ with_block h 0 (record b { band = c.args.band }) a =
    c.set_fields.ensures h 0 b (at before).block (sym c.head-node.ensures)
    ∙ (λ i. with_block h 0 (record (block_of (c.head-node.ensures i) (read before i)) { band = c.args.band }) a) in
    alters_kept a _ c.args.token.now _ tt
    (ap (λ m. Ok (tt, with_message h m a)) (sym (with_band_is c.args.band (message_at a h) (at before).block)) ∙ ap (λ (x : Arena). Ok (tt, x)) (sym is))
    (subst (λ x. has x c.args.token.now ≡ true) (sym is) (had_with_block a a.store c.args.token.now 0 (record b { band = c.args.band }) c.requires))
    (leaves_setband a h c.args.band)
