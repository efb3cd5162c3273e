use Rattle.std.proofs.Common.{rules}
use Rattle.strm_script.proofs.Drafts.{first_section, next_section}
use Rattle.strm_script.proofs.draft.Draft.begin_section.Goals as goal

pub returns-then-ne : goal.returns-then-ne
returns-then-ne c = λ es n so. first_section c.args.self.now es n c.requires.stands (λ same. search rules) so

pub returns : goal.returns
returns c = λ es n so.
    next_section c.args.self.now es n _ _ (rw (c.of.ensures, c.replace-lines.ensures.value) at c.in_ok-push.ensures.items) (rw c.replace-lines.ensures.after c.new.ensures.items) c.requires.room (search rules) so
