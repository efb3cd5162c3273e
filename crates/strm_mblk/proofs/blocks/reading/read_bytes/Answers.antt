use Rattle.std.proofs.Common.{sym, ap, ◌∙◌, subst, arith, [], ◌∷◌}
use Rattle.strm_links.specs.ChainLists.{chain_of}
use Rattle.strm_mblk.specs.BlocksLayout.{message_of, block_of, IsPlaced}
use Rattle.strm_mblk.proofs.Lists.{one_item}
use Rattle.strm_mblk.proofs.Reading.{IsRead, read_one}
use Rattle.strm_mblk.proofs.blocks.reading.read_bytes.Goals.{After-read_block}
use Rattle.strm_mblk.proofs.blocks.reading.read_bytes.Goals as goal

pub fields_at-requires : goal.fields_at-requires
fields_at-requires c = omega (arith, c.requires.there, c.requires.listed)

pub read_block-requires-clause-placed : goal.read_block-requires-clause-placed
read_block-requires-clause-placed c = subst (IsPlaced c.args.stored.now.store) (sym c.fields_at.ensures) (c.requires.placed c.args.head (omega (arith, c.requires.there, c.requires.listed)))

-- the only block is read
read : (c : After-read_block) → IsRead c.args.stored.now.store (message_of c.args.chains.now.loads (chain_of c.args.chains.now.lists c.args.head)) c.args.at c.args.into.now c.read_block.new.into c.read_block.result
read c =
    let ns = chain_of c.args.chains.now.lists c.args.head in
    let one = one_item ns c.requires.begins (sym c.len.ensures ∙ c.if-len-eq1.true) in
    subst (λ m. IsRead c.args.stored.now.store m c.args.at c.args.into.now c.read_block.new.into c.read_block.result) (sym (ap (message_of c.args.chains.now.loads) one))
    (subst (λ f. IsRead c.args.stored.now.store (block_of c.args.head f ∷ []) c.args.at c.args.into.now c.read_block.new.into c.read_block.result) c.fields_at.ensures
    (read_one c.args.stored.now.store (block_of c.args.head c.fields_at.result) c.args.at c.args.into.now c.read_block.ensures.count (c.read_block.ensures.bytes c.args.head)))

pub returns-then-len-eq1-clause-count : goal.returns-then-len-eq1-clause-count
returns-then-len-eq1-clause-count c = (read (goal.at.returns-then-len-eq1-clause-count c).After-read_block).count

pub returns-then-len-eq1-clause-bytes : goal.returns-then-len-eq1-clause-bytes
returns-then-len-eq1-clause-bytes c = (read (goal.at.returns-then-len-eq1-clause-bytes c).After-read_block).bytes
