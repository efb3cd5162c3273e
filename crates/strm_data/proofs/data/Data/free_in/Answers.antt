use Rattle.std.proofs.Common.{length, ap, ◌∙◌, arith}
use Rattle.strm_data.specs.CountedStore.{CountedStore}
use Rattle.strm_data.specs.DataStore.{free_of}
use Rattle.strm_data.proofs.data.Data.free_in.Goals as goal

pub len-requires : goal.len-requires
len-requires c = omega (arith, c.requires, ap (λ (s : CountedStore). length s.store.classes) c.self.view_is, c.self.invariant.kept.lists)

pub returns : goal.returns
returns c = c.len.ensures ∙ ap (λ (s : CountedStore). length (free_of s.store c.args.class)) c.self.view_is
