use Rattle.std.proofs.Common.{◌≡◌, ◌++◌, take}
use Rattle.std.specs.List.{flat_map}
use Rattle.strm_script.specs.Text.{hex_text}
use Rattle.strm_script.proofs.transcript.HexPiece.append.Given as goal

-- the digits of the bytes so far are appended
abbrev pub invariant-loop-byte : goal.invariant-loop-byte
invariant-loop-byte l = l.text.items ≡ l.fn.text.items ++ flat_map hex_text (take l.byte-index l.self.0.now)
