-- The first section is served, and then those behind it.
use Rattle.std.proofs.Common.{[], ◌++◌, ap, sym, ◌∙◌, subst}
use Rattle.std.proofs.lemmas.Result.{on_ok_weaker}
use Rattle.strm_pool.specs.PoolValue.{PoolValue, with_tokens_spent}
use Rattle.strm_pool.specs.Registers.{table_of}
use Rattle.strm_pool.proofs.Accounts.{owned_carry}
use Rattle.strm_run.specs.Holding.{AreHeldAlike}
use Rattle.strm_run.proofs.Holding.{alike_same, section_alike}
use Rattle.strm_run.proofs.Serving.{empty_distinct, empty_table, no_parts, parts_text-next}
use Rattle.strm_run.proofs.serial.+serve_parts.Goals.{in-Ok, in-Err}
use Rattle.strm_run.proofs.serial.+serve_parts.Goals as goal

pub returns-in_default-clause-text : goal.returns-in_default-clause-text
returns-in_default-clause-text t c =
    on_ok_weaker c.report_text.result
    (λ wrote before place. wrote ∙ ap (λ bs. c.args.text.now.items ++ bs) (sym (no_parts before c.args.worker c.args.pool.now c.args.parts.now c.in_default.len_below)))
    c.report_text.ensures.ok

pub serve-requires-clause-distinct : goal.serve-requires-clause-distinct
serve-requires-clause-distinct t c = empty_distinct c.new-regs.result c.new-regs.ensures

pub returns-clause-text : goal.returns-clause-text
returns-clause-text t c = elim c.match-serve.branch [
  | in-Ok w ↦
      rw (w.served-is, w.text-is)
      (on_ok_weaker w.serve_parts-served.result
      (parts_text-next c.args.text.now.items c.serve.new.text.items w.serve_parts-served.new.text.items c.args.worker c.args.pool.now c.serve.new.pool
      (table_of c.new-regs.result) (table_of c.serve.new.regs) c.args.parts.now c.items.result.now
      (empty_table c.new-regs.result c.new-regs.ensures) c.in-len1-up.len_at_least (rw c.items.ensures c.lines-item.is) w.in-Ok.ensures.text)
      w.serve_parts-served.ensures.text)
  | in-Err w ↦ rw w.served-is tt
]

pub returns-clause-freed : goal.returns-clause-freed
returns-clause-freed t c =
    let carry = owned_carry c.serve.new.pool c.serve.new.regs c.serve.ensures.owned in
    elim c.match-serve.branch [
      | in-Ok w ↦
          subst (λ (v : PoolValue). AreHeldAlike c.args.pool.now [] v []) (sym (c.drain.ensures ∙ ap (λ (v : PoolValue). with_tokens_spent v c.serve.new.regs) w.pool-is))
          (section_alike c.args.pool.now c.serve.new.pool w.serve_parts-served.new.pool c.new-regs.result c.serve.new.regs c.new-regs.ensures c.serve.ensures.held carry w.serve_parts-served.ensures.freed)
      | in-Err w ↦
          subst (λ (v : PoolValue). AreHeldAlike c.args.pool.now [] v []) (sym (c.drain.ensures ∙ ap (λ (v : PoolValue). with_tokens_spent v c.serve.new.regs) w.pool-is))
          (section_alike c.args.pool.now c.serve.new.pool c.serve.new.pool c.new-regs.result c.serve.new.regs c.new-regs.ensures c.serve.ensures.held carry (alike_same c.serve.new.pool []))
    ]
