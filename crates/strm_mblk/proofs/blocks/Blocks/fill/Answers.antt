use Rattle.std.proofs.Common.{◌≡◌, ◌+◌, ◌-◌, ◌≤◌, ℕ, drop, length, take, Ok, refl, sym, ap, ◌∙◌, subst, arith}
use Rattle.std.specs.Fn.{FnOnceReturnsAtMut}
use Rattle.std.specs.Prelude.{min}
use Rattle.std.proofs.lemmas.List.{length-drop, take_rest}
use Rattle.strm_data.specs.DataStore.{bytes_at, capacity_of, data_block_at, with_bytes_written}
use Rattle.strm_mblk.specs.Block.{Block}
use Rattle.strm_mblk.specs.BlockCalls.{own_block, with_block}
use Rattle.strm_mblk.specs.BlocksLayout.{block_of_found}
use Rattle.strm_mblk.specs.Given.{answer_map}
use Rattle.strm_mblk.specs.InPlace.{block_filled, bytes_behind, fill}
use Rattle.strm_mblk.proofs.Altering.{found_written, suits_written}
use Rattle.strm_mblk.proofs.arena.Calls.{alters_block, lends}
use Rattle.strm_mblk.proofs.arena.Frame.{other_data}
use Rattle.strm_mblk.proofs.blocks.Blocks.fill.Given.{Over}
use Rattle.strm_mblk.proofs.blocks.Blocks.fill.Goals.{After-edit_data}
use Rattle.strm_mblk.proofs.blocks.Blocks.fill.Goals as goal

module _ (g : Over) (c : After-edit_data g) where
  abbrev block : Block
  block = block_of_found c.in_ok-node.field-0

  abbrev end : ℕ
  end = block.offset + block.len

  own : own_block c.args.token.now.head c.args.place c.args.self.now ≡ Ok block
  own = sym c.in_ok-node.ensures.answer

  -- the bytes that are lent are all that are behind the write place
  behind : bytes_at block.data_number end (c.in_ok-node.field-0.capacity - end) c.args.self.now.store ≡ bytes_behind c.args.self.now.store block
  behind =
      ap (λ n. take (n - end) (drop end (data_block_at c.args.self.now.store block.data_number).bytes)) c.in_ok-node.ensures.within.capacity
      ∙ take_rest (data_block_at c.args.self.now.store block.data_number).bytes end

  -- the number of bytes that are left
  many : length c.edit_data.ensures.left ≡ c.in_ok-node.field-0.capacity - end
  many =
      omega (arith, c.edit_data.ensures.long, ap length behind, length-drop end (data_block_at c.args.self.now.store block.data_number).bytes, c.in_ok-node.ensures.within.capacity)

  room : end + length c.edit_data.ensures.left ≤ capacity_of c.args.self.now.store block.data_number
  room = omega (arith, many, c.in_ok-node.ensures.within.within, c.in_ok-node.ensures.within.capacity)

pub set_fields-requires : goal.set_fields-requires
set_fields-requires g c =
    let at = (goal.at.set_fields-requires g c).After-edit_data in
    suits_written c.args.self.now c.args.token.now.head c.args.place (own g at) _ c.edit_data.ensures.left c.edit_data.ensures.after (room g at) _ refl
    (omega (arith, room g at, many g at, c.min-count.ensures)) c.in_ok-node.ensures.within.banded

pub returns : goal.returns
returns g c =
    let at = (goal.at.returns g c).After-edit_data in
    let h = c.args.token.now.head in
    let k = c.args.place in
    let a = c.args.self.now in
    let x = block g at in
    let edits = c.edit_data.ensures in
    let now = record x { len = x.len + c.min-count.result } in
    let written = with_bytes_written x.data_number (x.offset + x.len) edits.left a.store in
    let count : min c.edit_data.result (length edits.left) ≡ c.min-count.result = ap (min c.edit_data.result) (many g at) ∙ sym c.min-count.ensures in
    lends a _ c.args.token.now (FnOnceReturnsAtMut g.F.FnOnce c.args.write) (λ r left. fill h k r left a) c.edit_data.result _
    (ap (answer_map (bytes_behind a.store)) (own g at))
    (record {
      left = edits.left;
      long = edits.long ∙ ap length (behind g at);
      called = subst (λ bytes. FnOnceReturnsAtMut g.F.FnOnce c.args.write bytes c.edit_data.result edits.left) (behind g at) edits.called;
      after =
          alters_block a _ c.args.token.now k (own g at) c.requires.had written (other_data a.store x.data_number _) (fill h k c.edit_data.result edits.left a) c.min-count.result now
          (c.set_fields.ensures h k x (found_written a h k (own g at) _ edits.left edits.after) refl ∙ ap (with_block h k now) edits.after)
          (ap (answer_map (block_filled h k edits.left (min c.edit_data.result (length edits.left)) a)) (own g at) ∙ ap (λ n. Ok (block_filled h k edits.left n a x)) count);
    })
