use Rattle.std.proofs.Common.{◌≡◌, ℕ, List, [], ◌∷◌, ◌++◌, length, ap, sym, ◌∙◌, subst, append_assoc, arith}
use Rattle.std.proofs.lemmas.List.{length_push, map-append}
use Rattle.strm_pool.specs.PoolValue.{PoolValue, with_tokens_spent}
use Rattle.strm_pool.specs.Registers.{CarryId}
use Rattle.strm_pool.specs.declared.line.Entry.{Entry}
use Rattle.strm_shared.specs.Desks.{DeskValue}
use Rattle.strm_run.specs.Holding.{AreHeldAlike}
use Rattle.strm_run.proofs.Holding.{drained_alike, entries_at, last_drained}
use Rattle.strm_run.proofs.Working.{served_at_each}
use Rattle.strm_run.proofs.by_workers.drain.Goals as goal

-- the last desk is spent, before those that are
last_spent : (all ls ds : List DeskValue) (d : DeskValue) (ss ts : List (List (ℕ × Entry))) → served_at_each all ≡ served_at_each ds ++ ss → ds ≡ ls ++ d ∷ [] → ts ≡ d.served ∷ ss
    → served_at_each all ≡ served_at_each ls ++ ts
last_spent all ls ds d ss ts before is spends =
    before
    ∙ ap (λ (xs : List DeskValue). served_at_each xs ++ ss) is
    ∙ ap (λ (xs : List (List (ℕ × Entry))). xs ++ ss) (map-append (λ (x : DeskValue). x.served) ls (d ∷ []))
    ∙ append_assoc (served_at_each ls) (d.served ∷ []) ss
    ∙ ap (λ (xs : List (List (ℕ × Entry))). served_at_each ls ++ xs) (sym spends)

pub loop-preserved : goal.loop-preserved
loop-preserved g c =
    let v : PoolValue = c.loop.pool in
    let d : DeskValue = c.take_last-desk.result in
    let is : c.drain.new.self ≡ with_tokens_spent v d.regs = c.drain.ensures ∙ ap (with_tokens_spent v) c.spend.ensures.regs in
    let carry : CarryId v.arena.id d.regs = subst (λ id. CarryId id d.regs) (sym c.loop.invariant.id) c.lawful.ensures.desk.carry in
    let left = last_drained c.args.pool.now v c.args.desks c.take_last-desk.new.self d c.loop.desks c.take_last-desk.ensures carry c.loop.invariant.alike in
    record {
      id = ap (λ (w : PoolValue). w.arena.id) is ∙ (drained_alike v d.regs carry).id ∙ c.loop.invariant.id;
      alike = subst (λ (w : PoolValue). AreHeldAlike c.args.pool.now (entries_at c.args.desks) w (entries_at c.take_last-desk.new.self)) (sym is) left;
      spent = last_spent c.args.desks c.take_last-desk.new.self c.loop.desks d c.loop.spent c.spend.new.self c.loop.invariant.spent c.take_last-desk.ensures c.spend.ensures.served;
      counted = omega (arith, ap length c.spend.ensures.served, c.loop.invariant.counted);
      left = omega (arith, ap length c.spend.ensures.served, ap length c.take_last-desk.ensures, length_push c.take_last-desk.new.self d, c.loop.invariant.left);
    }
