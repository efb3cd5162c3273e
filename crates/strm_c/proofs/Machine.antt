-- Words of the machine and its logic, for the proofs by hand of this crate.
pub use mir.Syntax.{Fn, Body, place, copy, assign, rv_opd, seq, return, Args, Dict, a_type, dcons, dnil}
pub use mir.Val.{Val, vptr, has_ty, WT, vstruct, of_list}
pub use mir.MapTy.{inst_fn}
pub use mir.Raw.{raw as bare}
pub use base.Logic.{SProp, emp, id⊢, never, fst∗, ent}
pub use base.Fml.{ftrue, fsep, flft}
pub use prog.Wp.{WpFn, Tables}
pub use prog.Memory.{Memory}
pub use prog.Routine.{Routine}
pub use contract.Monad.{fact, fact_i, Fun}
pub use contract.Running.{tables}
pub use contract.BorrowLft.{◌⊑◌}
pub use seplogic.Ra.Ura.{Ura}
pub use sound.WpLaws.{fm_of, WpFn-mono}
