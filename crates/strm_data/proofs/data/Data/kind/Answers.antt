use Rattle.std.proofs.Common.{sym, ap}
use Rattle.strm_data.specs.DataStore.{DataBlock}
use Rattle.strm_data.proofs.layout.Seen.{seen_is}
use Rattle.strm_data.proofs.data.Data.kind.Goals as goal

pub returns : goal.returns
returns c = sym (ap (λ (b : DataBlock). b.kind) (seen_is c.self.inside _ c.self.view_is c.args.number c.load.result.now c.load.ensures))
