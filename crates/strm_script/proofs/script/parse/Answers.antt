-- A line goes on with the script, or stops it.
use Rattle.strm_script.proofs.Scripts.{continues-start, continues-line, stops-line}
use Rattle.strm_script.proofs.script.parse.Goals as goal

pub loop-rest-init : goal.loop-rest-init
loop-rest-init c = continues-start c.new-draft.result c.args.bytes.now c.requires c.new-draft.ensures

pub loop-rest-preserved : goal.loop-rest-preserved
loop-rest-preserved c =
    let so_far = c.loop-rest.invariant in
    continues-line c.loop-rest.draft c.loop-rest.number c.loop-rest.text.now c.args.bytes.now _ c.in-Some.rest.now so_far c.read.new.self
    (rw c.in-Some.is at c.cut_line.ensures)
    (c.in_default.ensures so_far.es so_far.stands)

pub returns-in-Err-clause-parses : goal.returns-in-Err-clause-parses
returns-in-Err-clause-parses c =
    let so_far = c.loop-rest.invariant in
    rw c.on_line.ensures
    (stops-line c.loop-rest.draft c.loop-rest.number c.loop-rest.text.now c.args.bytes.now _ c.in-Some.rest.now so_far c.read.new.self c.in-Err.fault
    (rw c.in-Some.is at c.cut_line.ensures)
    (c.in-Err.ensures so_far.es so_far.stands))
