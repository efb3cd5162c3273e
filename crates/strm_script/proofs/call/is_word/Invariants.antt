use Rattle.std.proofs.Common.{◌≡◌, length, bytes_eq}
use Rattle.strm_script.proofs.call.is_word.Given as goal

abbrev pub invariant-loop-letter : goal.invariant-loop-letter
invariant-loop-letter l = (bytes_eq l.word l.first ≡ bytes_eq l.letter-iterator.b.rest.now l.letter-iterator.a.rest.now) × (length l.letter-iterator.a.rest.now ≡ length l.letter-iterator.b.rest.now)
