-- The writer at the loop's head is ready, or those that are left come after it.
use Rattle.std.proofs.Common.{◌≡◌, ℕ, ◌+◌, ◌∙◌, Bool, List, Option, ap, drop, map, not, subst, sym}
use Rattle.std.proofs.lemmas.List.{drop-drop}
use Rattle.strm_links.specs.Rows.{Reads, list_at, next_in}
use Rattle.strm_scheduler.specs.Writers.{Writer, first_ready, is_wanted}
use Rattle.strm_scheduler.specs.WritersLayout.{writer_of}
use Rattle.strm_scheduler.proofs.Recording.{first_here, first_later, none_left, one_left}
use Rattle.strm_scheduler.proofs.writers.Writers.first_ready.Goals as goal

pub returns-in_err-node : goal.returns-in_err-node
returns-in_err-node c =
    let s = c.args.pool.now.queues in
    let r = c.self.inside.links in
    let on = c.loop-writer.invariant in
    c.from_residual.ensures
    ∙ sym (none_left (λ w. not (is_wanted s w)) (next_in r) c.loop-writer.at (drop c.loop-writer._writer (list_at 0 r)) on.reads c.in_err-node.was)
    ∙ on.first ∙ ap (first_ready s) c.self.view_is

pub returns-then-not-is_wanted : goal.returns-then-not-is_wanted
returns-then-not-is_wanted c =
    let s = c.args.pool.now.queues in
    let r = c.self.inside.links in
    let on = c.loop-writer.invariant in
    let test : Writer → Bool = λ w. not (is_wanted s w) in
    let one = one_left test (next_in r) c.loop-writer.at c.in_ok-node.node (drop c.loop-writer._writer (list_at 0 r)) on.reads c.in_ok-node.was in
    first_here test (next_in r) c.in_ok-node.node one.0 c.writer_of-queue.result c.writer_of-queue.ensures (ap not (sym c.is_wanted.ensures ∙ c.if-not-is_wanted.true))
    ∙ ap (λ (ks : List ℕ). first_ready s (map writer_of ks)) (sym one.1)
    ∙ on.first ∙ ap (first_ready s) c.self.view_is

pub loop-writer-preserved : goal.loop-writer-preserved
loop-writer-preserved c =
    let s = c.args.pool.now.queues in
    let r = c.self.inside.links in
    let on = c.loop-writer.invariant in
    let i = c.loop-writer._writer in
    let node = c.in_ok-node.node in
    let test : Writer → Bool = λ w. not (is_wanted s w) in
    let one = one_left test (next_in r) c.loop-writer.at node (drop i (list_at 0 r)) on.reads c.in_ok-node.was in
    let rest_is : one.0 ≡ drop (i + 1) (list_at 0 r) = ap (drop 1) (sym one.1) ∙ drop-drop 1 i (list_at 0 r) in
    record {
      reads = subst (λ (o : Option ℕ). Reads (next_in r) o (drop (i + 1) (list_at 0 r))) (sym c.next-at.ensures.value) (subst (λ (ks : List ℕ). Reads (next_in r) (next_in r node) ks) rest_is one.2);
      within = c.next-at.ensures.in_range;
      first =
          ap (λ (ks : List ℕ). first_ready s (map writer_of ks)) (sym rest_is)
          ∙ sym (first_later test (next_in r) node one.0 c.writer_of-queue.result c.writer_of-queue.ensures (ap not (sym c.is_wanted.ensures ∙ c.if-not-is_wanted.false)))
          ∙ ap (λ (ks : List ℕ). first_ready s (map writer_of ks)) (sym one.1)
          ∙ on.first;
    }
