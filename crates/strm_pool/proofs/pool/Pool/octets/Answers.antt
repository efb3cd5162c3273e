use Rattle.std.proofs.Common.{◌≡◌, ℕ, List, drop, length, min, take, ap, ◌∙◌, ◌-◌, ◌++◌}
use Rattle.strm_mblk.specs.Arena.{message_at}
use Rattle.strm_mblk.specs.Block.{bytes_of, size_of}
use Rattle.strm_pool.specs.Limits.{most_octets}
use Rattle.strm_pool.proofs.Replays.{read_octets}
use Rattle.strm_pool.proofs.pool.Pool.octets.Goals as goal

pub returns : goal.returns
returns c =
    let m = message_at c.args.self.now.arena c.args.token.now.head in
    let bytes = bytes_of c.args.self.now.arena.store m in
    let old = c.from-bytes.result.items in
    let all : length old ≡ most_octets = c.from-bytes.ensures.1 in
    c.of.ensures ∙ c.truncate.ensures.items
    ∙ read_octets bytes old c.read-count.new.into c.args.at (size_of m) c.read-count.result c.read-count.ensures.sized
    (c.read-count.ensures.count ∙ ap (λ (l : List ℕ). min (length l) (size_of m - c.args.at)) c.as_mut_slice.ensures.value)
    (c.read-count.ensures.bytes ∙ ap (λ (l : List ℕ). take c.read-count.result (drop c.args.at bytes) ++ drop c.read-count.result l) c.as_mut_slice.ensures.value)
    ∙ ap (λ n. take n (drop c.args.at bytes)) all
