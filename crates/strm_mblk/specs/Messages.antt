-- Messages as lists of blocks of any kind, held or on shelves.
-- They are chains of blocks. A held one is at the number of its first block. So these words for chains are theirs: the blocks of a message,
-- the message at a number, all blocks, joining and dividing, a list without a place, and messages on shelves.
pub use Rattle.strm_links.specs.Chains.{items_of as blocks_of, chain_in as held_in, items_in as blocks_held, items_on as blocks_on, chains_joined, chain_divided, without_place, shelf_in, put_before_head, with_head, without_head}
