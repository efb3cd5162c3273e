use Rattle.std.proofs.Common.{arith}
use Rattle.strm_script.proofs.Drafts.{put_command}
use Rattle.strm_script.proofs.draft.Draft.put_call.Goals as goal

pub returns : goal.returns
returns c = λ es so. put_command c.args.self.now es c.args.number c.args.call _ _ c.in_ok-push.ensures.items (omega (arith, c.requires.room)) c.requires.begun so
