use Rattle.std.specs.Prelude.{nat_le}
use Rattle.strm_data.specs.declared.class_spec.ClassSpec.{ClassSpec}
use Rattle.strm_data.specs.declared.data.Class.{Class}
use Rattle.strm_data.proofs.store.Lawful.{list_any-map}
use Rattle.strm_data.proofs.data.Data.has_class_for.Goals as goal

pub returns : goal.returns
returns c =
    cc (c.fits_a_class.ensures, c.deref.ensures.value, list_any-map (λ (k : Class). k.spec) (λ (s : ClassSpec). nat_le c.args.size s.size) c.self.inside.classes.items, c.self.view_is)
