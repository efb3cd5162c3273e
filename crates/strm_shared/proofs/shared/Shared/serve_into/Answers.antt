use Rattle.std.proofs.Common.{ℕ, Result, Ok, Err}
use Rattle.std.specs.Prelude.{IfErr}
use Rattle.strm_data.specs.declared.refusal.Refusal.{Refusal}
use Rattle.strm_mblk.specs.Given.{answer_map}
use Rattle.strm_pool.specs.declared.call.Call.{Call}
use Rattle.strm_pool.specs.declared.reply.Reply.{Reply}
use Rattle.strm_shared.specs.declared.name.Name.{Ghosts}
use Rattle.strm_shared.specs.Books.{Answers, BookValue, IsAfter, IsEnd, TellsNewest}
use Rattle.strm_shared.specs.Desks.{DeskValue, stamp_seen}
use Rattle.strm_shared.proofs.Refusing.{end_seen}
use Rattle.strm_shared.proofs.Turning.{tells_newest}
use Rattle.strm_shared.proofs.shared.Shared.serve_into.Goals as goal

census : (b : BookValue) (d : DeskValue) (line : ℕ) (call : Call) (c : BookValue) (e : DeskValue) (r : Result Reply Refusal) → Answers b d line call c e r → TellsNewest e r call
census b d line call c e (Ok reply) served = tells_newest b d line call c e reply served
census b d line call c e (Err why) refused = tt

refusals : {N : Type 0} (n : Ghosts N) (d : DeskValue) (line : ℕ) (call : Call) (e : DeskValue) (reply : Reply) (r : Result (Unit {0}) Refusal) → IsAfter n d line call e (answer_map (λ done. reply) r)
    → IfErr r (λ why. IsEnd n why (stamp_seen e))
refusals n d line call e reply (Ok done) after = tt
refusals n d line call e reply (Err why) after = end_seen n d line call e why after

pub returns : goal.returns
returns g c =
    let served = c.turn_into-answer in
    let after : IsAfter g.N.Name c.args.desk.now c.args.line c.args.call.now served.new.desk (answer_map (λ done. served.new.reply) served.result) =
    (_, _, record { lawful = c.lawful.ensures.law; sized = c.lawful.ensures.sized }, record { lawful = c.lawful-2.ensures.law; sized = c.lawful-2.ensures.sized }, served.ensures.answer) in
    record {
      after = after;
      census = census _ _ _ _ _ _ _ served.ensures.answer;
      refused = refusals g.N.Name c.args.desk.now c.args.line c.args.call.now served.new.desk served.new.reply served.result after;
      kept = served.ensures.kept;
    }
