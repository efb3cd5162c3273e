-- The bytes so far and those of the rest are the bytes of the word, and the rest leaves room for its own.
use Rattle.std.proofs.Common.{◌≡◌, ◌+◌, ◌*◌, ◌≤◌, length}
use Rattle.strm_pool.specs.Limits.{most_octets}
use Rattle.strm_script.specs.Form.{hex_bytes}
use Rattle.strm_script.proofs.Forms.{with_front}
use Rattle.strm_script.proofs.form.hex_bytes.Given as goal

abbrev pub invariant-loop-rest : goal.invariant-loop-rest
invariant-loop-rest l = record {
  value : with_front l.bytes.items (hex_bytes l.rest) ≡ hex_bytes l.word;
  room : 2 * length l.bytes.items + length l.rest ≤ 2 * most_octets;
}

abbrev pub decreases-loop-rest : goal.decreases-loop-rest
decreases-loop-rest l = length l.rest
