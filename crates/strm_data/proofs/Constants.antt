-- The constants of the code are the numbers of the definitions.
use Rattle.std.proofs.Common.{◌≡◌, refl}
use Rattle.strm_data.specs.declared.limits.TheConstants.{MOST_CLASSES, MOST_DATA_BLOCK_BYTES, MOST_DATA_BLOCKS, MOST_REFERENCES}
use Rattle.strm_data.specs.Limits.{most_classes, most_data_block_bytes, most_data_blocks, most_references}

pub classes : MOST_CLASSES ≡ most_classes
classes = refl

pub data_block_bytes : MOST_DATA_BLOCK_BYTES ≡ most_data_block_bytes
data_block_bytes = refl

pub data_blocks : MOST_DATA_BLOCKS ≡ most_data_blocks
data_blocks = refl

pub data_block_names : MOST_REFERENCES ≡ most_references
data_block_names = refl
