-- What types, pointers and contracts mean in the logic, for the proofs by hand of this crate.
pub use denote.RattleType.{owns, RattleType}
pub use denote.RawPtr.{null_ptr, Ptr, block_ptr, in_a_block, RawPtr, ptr_val}
pub use denote.Signature.{types_at, plain}
pub use denote.Struct.Tuple.{Tuple}
pub use denote.Exit.{no}
pub use denote.Triple.Walked.{Stays, walk_of, stay_dropped, says, ends_at, walk_Meets}
pub use denote.Triple.Entry.{alive}
pub use denote.Triple.Table.{entered}
pub use denote.Triple.Statement.{Triple, Contract}
pub use denote.Triple.Spec.{triple_of}
pub use denote.Triple.Clauses.{Ended, Clauses}
pub use denote.Triple.Call.{calls_at_last, calls_at}
pub use Rattle.core.proofs.alloc.Calls.{Goes-blank, token, handle_tells}
pub use Rattle.std_alloc.specs.Box.Ownership.{box_owns}
pub use Rattle.std_alloc.proofs.BoxSteps.Form.{D, R, τ, word, box_typed, B, Bx, P, args, box_ty}
