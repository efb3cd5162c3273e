use Rattle.strm_mblk.proofs.layout.StoredArena.{law_bands, law_few, law_kept, law_parted, law_whole, law_within}
use Rattle.strm_mblk.proofs.blocks.Blocks.lawful.Goals as goal

pub returns : goal.returns
returns c =
    let i = c.self.inside in
    rw (← c.self.view_is) (record {
      parted = law_parted c.self.invariant.filled;
      kept = law_kept c.self.invariant.filled;
      within = law_within c.self.invariant.filled;
      bands = law_bands c.self.invariant.filled;
      few = law_few c.self.invariant.filled;
      whole = law_whole c.self.invariant.filled;
    })
