-- The limits of this crate. Each number is here once, and src/limits.rt has a constant of the same name.
use Rattle.std.specs.Prelude.{ℕ}

-- the most size classes of one pool
abbrev pub most_classes : ℕ
most_classes = 8

-- the most bytes of one data block, whose number is the size of its class
abbrev pub most_data_block_bytes : ℕ
most_data_block_bytes = 4096

-- the most data blocks, of all classes together
abbrev pub most_data_blocks : ℕ
most_data_blocks = 16383

-- the most references to one data block
abbrev pub most_references : ℕ
most_references = 255
