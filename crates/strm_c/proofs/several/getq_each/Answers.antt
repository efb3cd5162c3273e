use Rattle.std.proofs.Common.{◌≡◌, ℕ, suc, ◌+◌, ◌≤◌, [], ◌∷◌, ◌++◌, List, Err, Ok, Option, None, Some, ap, arith, length, length-set, refl, replicate, set, sym, subst, ◌∙◌}
use Rattle.std.specs.Prelude.{option_map, slice_get, take}
use Rattle.std.specs.List.{FoldsTo}
use Rattle.std.proofs.lemmas.List.{length-replicate}
use Rattle.strm_mblk.specs.Arena.{IsParted, held_at}
use Rattle.strm_queue.specs.QueueCalls as queues
use Rattle.strm_pool.specs.PoolValue.{PoolValue, on_queues, queued_blocks_of}
use Rattle.strm_pool.proofs.Tokens.{err_not_ok, same_ok}
use Rattle.strm_named.specs.declared.name.Name.{Name}
use Rattle.strm_named.specs.NamedCalls.{Does, Outcome, TakesEachNamed, any_message, heads_in, outcome_of, with_names_from}
use Rattle.strm_named.specs.NamedValue.{NamedValue, Renames, name_of}
use Rattle.strm_c.specs.declared.code.Code.{Code}
use Rattle.strm_c.specs.Codes.{any_or_nothing}
use Rattle.strm_c.specs.Series.{GivesAll, getq}
use Rattle.strm_c.proofs.Renaming.{gave_up, gives_one, gives_still, went_on}
use Rattle.strm_c.proofs.Serial.{HasStored, HasStoredAll, made, replicated, stored_ended, stored_halted, stored_more, stored_none}
use Rattle.strm_c.proofs.Unheld.{getq_unheld}
use Rattle.strm_c.proofs.several.getq_each.Goals.{In-loop-taken}
use Rattle.strm_c.proofs.several.getq_each.Goals as goal

pub loop-taken-init : goal.loop-taken-init
loop-taken-init c = record {
  within = omega arith;
  so = stored_none (replicate (length c.args.msgs.now) (getq c.capped_number-queue.result)) c.args.named.now c.args.msgs.now;
}

-- the next call
at : (c : In-loop-taken) → slice_get (replicate (length c.args.msgs.now) (getq c.capped_number-queue.result)) c.loop-taken.taken ≡ Some (getq c.capped_number-queue.result)
at c = replicated (length c.args.msgs.now) c.loop-taken.taken (getq c.capped_number-queue.result) (omega arith)

abbrev outcome : ℕ → NamedValue → Outcome (Option ℕ)
outcome q v = outcome_of (on_queues v.pool (queues.getq q (queued_blocks_of v.pool)))

-- a call that returned 0 gave a message
got : (q : ℕ) (xs : List Name) (u v w : NamedValue) → GivesAll xs u v → IsParted v.pool.arena → (o : Option ℕ) (p : PoolValue) → outcome q v ≡ Ok (o, p) → Renames [] (heads_in o) v w
    → (n : Name) → Ok n ≡ any_or_nothing (option_map (name_of w) o) → GivesAll (xs ++ n ∷ []) u w
got q xs u v w first parted None p is second n told = absurd (err_not_ok (sym told))
got q xs u v w first parted (Some h) p is second n told = gives_one xs u v w first h second (getq_unheld q v.pool parted h p is) n (same_ok told)

-- one that did not gave none
got_none : (v w : NamedValue) (code : Code) (o : Option ℕ) → Err code ≡ any_or_nothing (option_map (name_of w) o) → Renames [] (heads_in o) v w → Renames [] [] v w
got_none v w code None told second = second
got_none v w code (Some h) told second = absurd (err_not_ok told)

-- and so did one that is known to have taken a message at a head where none was held
got_unheld : (xs : List Name) (u v w : NamedValue) → GivesAll xs u v → (o : Option ℕ) → Renames [] (heads_in o) v w → (n : Name) → held_at v.pool.arena n.head ≡ None → Ok n ≡ any_or_nothing (option_map (name_of w) o)
    → GivesAll (xs ++ n ∷ []) u w
got_unheld xs u v w first None second n unheld told = absurd (err_not_ok (sym told))
got_unheld xs u v w first (Some h) second n unheld told = gives_one xs u v w first h second (ap (λ (m : Name). held_at v.pool.arena m.head) (sym (same_ok told)) ∙ unheld) n (same_ok told)

-- names that are stored in an array leave it as long
names_kept : (ns : List Name) (k : ℕ) (xs : List Name) → length (with_names_from k ns xs) ≡ length xs
names_kept [] k xs = refl
names_kept (n ∷ ns) k xs = names_kept ns (suc k) (set xs k n) ∙ length-set xs k n

-- a run of calls, each of which gave a message
stored_run : (q most : ℕ) (v0 : NamedValue) (old ns : List Name) (k : ℕ) (v w : NamedValue) (msgs : List Name) → HasStored (replicate most (getq q)) v0 v old msgs k
    → FoldsTo (λ x n y. Does any_message (outcome q x) [] x y (Ok (Some n)) × (held_at x.pool.arena n.head ≡ None)) v ns w → k + length ns ≤ length msgs → length msgs ≤ most
    → HasStored (replicate most (getq q)) v0 w old (with_names_from k ns msgs) (k + length ns)
stored_run q most v0 old [] k v w msgs so is few long =
    subst (λ x. HasStored (replicate most (getq q)) v0 x old msgs (k + 0)) is (subst (HasStored (replicate most (getq q)) v0 v old msgs) (omega arith) so)
stored_run q most v0 old (n ∷ ns) k v w msgs so is few long =
    let u = is.0 in
    let does = is.1.0 in
    let one = went_on any_message any_or_nothing (outcome q v) [] v u (Ok (Some n)) does n refl in
    let more =
    stored_more (replicate most (getq q)) v0 v old msgs k so (getq q) (replicated most k (getq q) (omega (arith, few, long))) u n
    (made any_message any_or_nothing (outcome q) [] v u (Ok (Some n)) (Ok n) does refl) (omega (arith, few))
    (got_unheld (take k msgs) v0 v u so.given one.0.0 one.2 n is.1.1 one.3) in
    let next : k + 1 ≡ suc k = omega arith in
    let end : k + 1 + length ns ≡ k + length (n ∷ ns) = omega arith in
    subst (HasStored (replicate most (getq q)) v0 w old (with_names_from k (n ∷ ns) msgs)) end
    (subst (λ j. HasStored (replicate most (getq q)) v0 w old (with_names_from j ns (set msgs k n)) (k + 1 + length ns)) next
    (stored_run q most v0 old ns (k + 1) u w (set msgs k n) more is.2 (omega (arith, few, length-set msgs k n)) (omega (arith, long, length-set msgs k n))))

stored_run_at : (q most : ℕ) (v0 : NamedValue) (old : List Name) (v w : NamedValue) (msgs : List Name) (k : ℕ) → HasStored (replicate most (getq q)) v0 v old msgs k → {now : List Name} {end : ℕ}
    → TakesEachNamed (outcome q) k v w msgs now end → length msgs ≤ most → HasStored (replicate most (getq q)) v0 w old now end
stored_run_at q most v0 old v w msgs k so {now} {end} run long =
    subst (HasStored (replicate most (getq q)) v0 w old now) (sym run.count)
    (subst (λ xs. HasStored (replicate most (getq q)) v0 w old xs (k + length run.names)) (sym run.stored)
    (stored_run q most v0 old run.names k v w msgs so run.each (omega (arith, run.count, run.within)) long))

pub loop-taken-preserved : goal.loop-taken-preserved
loop-taken-preserved c =
    let q = c.capped_number-queue.result in
    let v = c.loop-taken.named in
    let w = c.getq.new.self in
    let most = length c.args.msgs.now in
    let one = went_on any_message any_or_nothing (outcome q v) [] v w c.getq.result c.getq.ensures c.in-Ok.msg c.in-Ok.ensures in
    let more =
    stored_more (replicate most (getq q)) c.args.named.now v c.args.msgs.now c.loop-taken.msgs c.loop-taken.taken c.loop-taken.invariant.so (getq q) (at (goal.at.loop-taken-preserved c).In-loop-taken) w c.in-Ok.msg
    (made any_message any_or_nothing (outcome q) [] v w c.getq.result (Ok c.in-Ok.msg) c.getq.ensures c.in-Ok.ensures)
    (omega arith)
    (got q (take c.loop-taken.taken c.loop-taken.msgs) c.args.named.now v w c.loop-taken.invariant.so.given c.lawful.ensures.pool.parted one.0.0 one.0.1 one.1 one.2 c.in-Ok.msg one.3) in
    let run = c.getq_run-taken.ensures.takes in
    let stored = set c.loop-taken.msgs c.loop-taken.taken c.in-Ok.msg in
    record {
      within = omega (arith, run.within, ap length run.stored, names_kept run.names (c.loop-taken.taken + 1) stored);
      so = stored_run_at q most c.args.named.now c.args.msgs.now w c.getq_run-taken.new.self stored (c.loop-taken.taken + 1) more run (omega (arith, length-set c.loop-taken.msgs c.loop-taken.taken c.in-Ok.msg));
    }

pub returns-in-Err : goal.returns-in-Err
returns-in-Err c =
    let q = c.capped_number-queue.result in
    let v = c.loop-taken.named in
    let w = c.getq.new.self in
    let is = subst (λ (n : ℕ). HasStoredAll (replicate (length c.args.msgs.now) (getq n)) c.args.named.now w c.args.msgs.now c.loop-taken.msgs c.stopped.result) c.capped_number-queue.ensures
    (stored_halted (replicate (length c.args.msgs.now) (getq q)) c.args.named.now v c.args.msgs.now c.loop-taken.msgs c.loop-taken.taken c.loop-taken.invariant.so (getq q) (at (goal.at.returns-in-Err c).In-loop-taken) w c.in-Err.code c.stopped.result
    (made any_message any_or_nothing (outcome q) [] v w c.getq.result (Err c.in-Err.code) c.getq.ensures c.in-Err.ensures)
    c.stopped.ensures (omega arith)
    (gives_still (take c.loop-taken.taken c.loop-taken.msgs) c.args.named.now v w c.loop-taken.invariant.so.given
    (gave_up any_message any_or_nothing (outcome q v) [] v w c.getq.result c.getq.ensures c.in-Err.code c.in-Err.ensures (got_none v w c.in-Err.code)))) in
    record { makes = is.makes; names = is.names; valid = is.valid }

pub returns : goal.returns
returns c =
    let q = c.capped_number-queue.result in
    let is = subst (λ (n : ℕ). HasStoredAll (replicate (length c.args.msgs.now) (getq n)) c.args.named.now c.loop-taken.named c.args.msgs.now c.loop-taken.msgs (Ok (length c.loop-taken.msgs))) c.capped_number-queue.ensures
    (stored_ended (replicate (length c.args.msgs.now) (getq q)) c.args.named.now c.loop-taken.named c.args.msgs.now c.loop-taken.msgs c.loop-taken.taken c.loop-taken.invariant.so (omega arith)
    (omega (arith, length-replicate (length c.args.msgs.now) (getq q)))) in
    record { makes = is.makes; names = is.names; valid = is.valid }
