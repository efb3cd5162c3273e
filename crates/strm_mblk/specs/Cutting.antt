-- Runs of one type at an end of a message, and blocks that lose bytes. No public clause cites this module.
use Rattle.std.specs.Prelude.{◌≡◌, ℕ, ◌+◌, ◌-◌, ◌≤◌, min, Bool, true, false, List, [], ◌∷◌, length, take, Some, slice_get, slice_set, if◌then◌else◌}
use Rattle.strm_data.specs.declared.msg_type.MsgType.{MsgType}
use Rattle.strm_data.specs.DataStore.{DataStore}
use Rattle.strm_data.specs.MsgType.{same_kind}
use Rattle.strm_mblk.specs.declared.blocks.Fields.{Fields}
use Rattle.strm_mblk.specs.declared.blocks.trimming.Run.{Run}
use Rattle.strm_mblk.specs.Block.{size_of}
use Rattle.strm_mblk.specs.BlocksLayout.{fields_at, message_of}
use Rattle.strm_links.specs.ChainLists.{ChainLists, nodes_at}
use Rattle.strm_mblk.specs.Trimming.{from_end, run_of}

-- the run with one more block, the first of the message's last `blocks` ones; a block of another type begins a new run
abbrev pub run_with : ℕ → ℕ → MsgType → ℕ → Run → Run
run_with node blocks kind len r = if same_kind kind r.kind then record r { size = r.size + len } else record { first = node; blocks = blocks; size = len; kind = kind }

-- r is a run of the message with these block numbers: the leading blocks with the first block's type, or the trailing ones with the last
-- block's type. It has their number of bytes and their first block
pub record IsRun (from_tail : Bool) (s : DataStore) (fields : List Fields) (ns : List ℕ) (r : Run) : Type 0 where
  pub size : r.size ≡ size_of (run_of s (from_end from_tail (message_of fields ns)))
  pub few : r.blocks ≤ length ns
  pub begins : slice_get ns (length ns - r.blocks) ≡ Some r.first
  pub leading : from_tail ≡ false → r.blocks ≡ length ns
  pub trailing : from_tail ≡ true → size_of (message_of fields (take (length ns - r.blocks) ns)) + r.size
      ≡ size_of (message_of fields ns)

-- some message has block `first`, and `count` blocks from it on
pub record IsTail (v : ChainLists) (first count : ℕ) : Type 0 where
  pub head : ℕ
  pub place : ℕ
  pub at : slice_get (nodes_at v head) place ≡ Some first
  pub len : place + count ≡ length (nodes_at v head)

-- the fields of a block after it lost its first n bytes, or all others; fewer if it has fewer
abbrev pub fields_cut : Bool → ℕ → Fields → Fields
fields_cut from_tail n f = record f { offset = if from_tail then f.offset else f.offset + min n f.len; len = if from_tail then min n f.len else f.len - n }

-- the fields after these blocks lost their first n bytes together, or all others; each block loses those that it has
abbrev pub with_bytes_cut : Bool → ℕ → List ℕ → List Fields → List Fields
with_bytes_cut from_tail n [] fields = fields
with_bytes_cut from_tail n (k ∷ ks) fields =
    with_bytes_cut from_tail (n - (fields_at fields k).len) ks (slice_set fields k (fields_cut from_tail n (fields_at fields k)))
