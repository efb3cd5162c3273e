use Rattle.std.proofs.Common.{◌≡◌, ◌≤◌, length, ◌+◌, ◌*◌}
use Rattle.strm_header.specs.Headers.{sum_of_words}
use Rattle.strm_header.proofs.header.sum_of_words.Given as goal

-- the words read and the words to come have the sum of all; each takes at most 65535
abbrev pub invariant-loop-rest : goal.invariant-loop-rest
invariant-loop-rest l =
    (l.sum + sum_of_words l.rest ≡ sum_of_words l.fn.header)
    × (l.sum + 65535 * length l.rest ≤ 65535 * 20)

abbrev pub decreases-loop-rest : goal.decreases-loop-rest
decreases-loop-rest l = length l.rest
