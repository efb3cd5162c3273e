-- The memory that opening a pool allocates. No proof ties these numbers to what the code asks for; a test in C compares them.
use Rattle.std.specs.Prelude.{ℕ, ◌+◌, ◌*◌, ◌/◌, length, Option, None, Some, Ok, Err, sum_by}
use Rattle.strm_data.specs.declared.class_spec.ClassSpec.{ClassSpec}
use Rattle.strm_pool.specs.declared.config.Config.{Config}
use Rattle.strm_pool.specs.declared.config.Which.{Which}
use Rattle.strm_pool.specs.Config.{fault_of}
use Rattle.strm_c.specs.declared.code.Code.TheVariants.{BadArgument, BadConfig}
use Rattle.strm_c.specs.Codes.{Answer}

-- a number of bytes, made up to a multiple of 64
abbrev pub in_lines : ℕ → ℕ
in_lines bytes = (bytes + 63) / 64 * 64

-- the bytes for a size class: for itself, those of its data blocks, made up to a multiple of 64, and 16 for each
abbrev pub bytes_of_class : ClassSpec → ℕ
bytes_of_class c = 24 + in_lines (c.count * c.size) + c.count * 16

-- the bytes for a pool: for itself, each message block, each queue, and its size classes
abbrev pub bytes_of : Config → ℕ
bytes_of c = 820 + 48 * c.mblks + 5288 * length c.queues + sum_by bytes_of_class c.classes

-- the same, or the configuration's first fault
abbrev pub bytes_or_fault : Config → Option Which → Answer ℕ
bytes_or_fault c None = Ok (bytes_of c)
bytes_or_fault c (Some which) = Err (BadConfig which)

-- the same for a configuration, if there are no more classes and queues than a pool can have
abbrev pub answer_of_memory : Option Config → Answer ℕ
answer_of_memory None = Err BadArgument
answer_of_memory (Some c) = bytes_or_fault c (fault_of c)
