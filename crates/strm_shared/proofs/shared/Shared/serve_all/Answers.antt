use Rattle.std.proofs.Common.{◌≡◌, ℕ, ◌+◌, ◌-◌, ◌*◌, ◌≤◌, length, take, drop, Ok, Err, subst, arith, length-drop, length-take-le}
use Rattle.std.specs.Int.{div_ceil}
use Rattle.strm_shared.specs.Batches.{AreBatches}
use Rattle.strm_shared.specs.Limits.{most_batch}
use Rattle.strm_shared.proofs.Batching.{as_alone, batch_begins, batches_end, batches_more, kept_end, kept_more, refused_within, still_many}
use Rattle.strm_shared.proofs.shared.Shared.serve_all.Given as given
use Rattle.strm_shared.proofs.shared.Shared.serve_all.Goals as goal
use Rattle.strm_shared.proofs.shared.Shared.serve_all.Goals.{After-serve_batch}

-- the batch begins within the lines
there : (g : given.Over) (c : After-serve_batch g) → c.loop-batch.batch * most_batch ≤ length c.args.lines.now
there g c = omega (arith, batch_begins c.loop-batch.batch (length c.args.lines.now) (omega (arith, c.loop-batch-test.true, c.div_ceil-batch-end.ensures)))

many : (g : given.Over) (c : After-serve_batch g) → length c.args.lines.now ≡ length c.loop-batch.replies
many g c = omega (arith, c.requires, c.loop-batch.auto.replies)

-- as many replies come back as were lent
long : (g : given.Over) (c : After-serve_batch g) → length c.serve_batch.new.replies ≡ c.min-until.result - c.loop-batch.batch * most_batch
long g c =
    omega (
      arith,
      c.serve_batch.auto.replies,
      c.min-until.ensures,
      there g c,
      many g c,
      length-take-le (c.min-until.result - c.loop-batch.batch * most_batch) (drop (c.loop-batch.batch * most_batch) c.loop-batch.replies)
          (omega (arith, c.min-until.ensures, there g c, many g c, length-drop (c.loop-batch.batch * most_batch) c.loop-batch.replies)),
    )

pub loop-batch-preserved : goal.loop-batch-preserved
loop-batch-preserved g c =
    let now = (goal.at.loop-batch-preserved g c).After-serve_batch in
    let j = c.loop-batch.batch in
    let until = c.min-until.result in
    let lines = c.args.lines.now in
    let rs = c.loop-batch.replies in
    let ys = c.serve_batch.new.replies in
    record {
      served = batches_more g.N.Name j until lines rs ys c.min-until.ensures (there g now) (many g now) (long g now) c.args.desk.now c.loop-batch.desk c.serve_batch.new.desk c.loop-batch.invariant.served c.in-Ok.ensures.after;
      kept = kept_more g.N.Name j until lines rs ys c.min-until.ensures (there g now) (many g now) (long g now) c.args.desk.now c.loop-batch.desk c.serve_batch.new.desk c.loop-batch.invariant.served c.args.replies.now c.loop-batch.invariant.kept;
    }

pub returns-in-Err-clause-after : goal.returns-in-Err-clause-after
returns-in-Err-clause-after g c =
    let now = (goal.at.returns-in-Err-clause-after g c).After-serve_batch in
    batches_end g.N.Name c.loop-batch.batch c.min-until.result c.args.lines.now c.loop-batch.replies c.serve_batch.new.replies c.min-until.ensures (there g now) (many g now) (long g now)
    c.args.desk.now c.loop-batch.desk c.serve_batch.new.desk c.loop-batch.invariant.served c.in-Err.why c.in-Err.served c.in-Err.ensures.after

pub returns-in-Err-clause-kept : goal.returns-in-Err-clause-kept
returns-in-Err-clause-kept g c =
    let now = (goal.at.returns-in-Err-clause-kept g c).After-serve_batch in
    let j = c.loop-batch.batch in
    let lines = take (c.min-until.result - j * most_batch) (drop (j * most_batch) c.args.lines.now) in
    let few = refused_within g.N.Name c.loop-batch.desk lines c.serve_batch.new.replies c.serve_batch.new.desk c.in-Err.why c.in-Err.served c.in-Err.ensures.after in
    kept_end g.N.Name j c.min-until.result c.args.lines.now c.loop-batch.replies c.serve_batch.new.replies c.min-until.ensures (there g now) (many g now) (long g now)
    c.args.desk.now c.loop-batch.desk c.serve_batch.new.desk c.loop-batch.invariant.served c.args.replies.now c.in-Err.served c.loop-batch.invariant.kept
    (omega (
      arith,
      few,
      long g now,
      c.min-until.ensures,
      there g now,
      length-take-le (c.min-until.result - j * most_batch) (drop (j * most_batch) c.args.lines.now) (omega (arith, c.min-until.ensures, there g now, length-drop (j * most_batch) c.args.lines.now)),
    ))
    c.in-Err.ensures.kept

pub returns-in-Err-clause-alone : goal.returns-in-Err-clause-alone
returns-in-Err-clause-alone g c =
    let now = (goal.at.returns-in-Err-clause-alone g c).After-serve_batch in
    let j = c.loop-batch.batch in
    let lines = c.args.lines.now in
    let rs = c.loop-batch.replies in
    let ys = c.serve_batch.new.replies in
    as_alone g.N.Name c.args.desk.now lines _ c.serve_batch.new.desk (Err (c.in-Err.why, j * most_batch + c.in-Err.served))
    (still_many g.N.Name j c.min-until.result lines rs ys c.min-until.ensures (there g now) (many g now) (long g now) c.args.desk.now c.loop-batch.desk c.serve_batch.new.desk c.loop-batch.invariant.served)
    c.in-Err.ensures.refused
    (batches_end g.N.Name j c.min-until.result lines rs ys c.min-until.ensures (there g now) (many g now) (long g now) c.args.desk.now c.loop-batch.desk c.serve_batch.new.desk c.loop-batch.invariant.served c.in-Err.why c.in-Err.served c.in-Err.ensures.after)

pub returns-clause-alone : goal.returns-clause-alone
returns-clause-alone g c =
    let all : c.loop-batch.batch ≡ div_ceil (length c.args.lines.now) most_batch = omega (arith, c.loop-batch-test.false, c.div_ceil-batch-end.ensures) in
    as_alone g.N.Name c.args.desk.now c.args.lines.now c.loop-batch.replies c.loop-batch.desk (Ok tt) (omega (arith, c.requires, c.loop-batch.auto.replies)) tt
    (subst (λ (j : ℕ). AreBatches g.N.Name j c.args.desk.now c.args.lines.now c.loop-batch.replies c.loop-batch.desk) all c.loop-batch.invariant.served)
