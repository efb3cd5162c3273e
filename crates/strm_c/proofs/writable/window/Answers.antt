use Rattle.std.proofs.Common.{sym, ap, ◌∙◌, length}
use Rattle.strm_c.proofs.Finding.{window_finds}
use Rattle.strm_c.proofs.writable.window.Goals as goal

pub returns : goal.returns
returns c =
    window_finds _ (λ bytes r left m. record {
      address = m.met.0;
      count = m.met.1.0 ∙ ap length m.shows;
      same = sym m.leaves ∙ (m.met.1.1 ∙ m.shows);
    })
    c.args.named.now c.window.new.self c.window.result c.args.msg c.args.place c.window.ensures
