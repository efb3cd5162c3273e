-- Steps of a walk through code, for the proofs by hand of this crate.
pub use types.Kit.{‵, raw, ◌⊛◌, ◌$◌, ◌∵◌, !, qed, by, move, drop, use0, use1, split, fjoin, feq_i, prop, regoal, rewrite, fsplit, feq_l, Item, at_ret, some, later, join, split3, pick, suffices, await, done, fpick}
pub use types.Logic.{sem, Logic}
pub use types.Part.{agg, whole, sub}
pub use types.Run.{lit, no_more, and_then, returns, enter, stop, fld, of_opd, first, blocks, exec}
pub use types.ByLocal.{alloc_all, pass_all, free_all, look_at, sets, get, get_in, lands_last, env, lands_as}
pub use denote.Steps.{nothing, heard, only}
pub use Rattle.std.proofs.raw_atomic.Walks.{proved_at, leaves}
pub use Rattle.std_alloc.proofs.BoxSteps.Steps.{box_in, box_out}
