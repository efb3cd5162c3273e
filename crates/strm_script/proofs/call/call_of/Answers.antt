-- Those of the text's length decide.
use Rattle.std.proofs.Common.{◌∙◌, rules}
use Rattle.strm_script.proofs.Words.{call_of-length, call_of-other}
use Rattle.strm_script.proofs.call.call_of.Goals as goal

pub returns-in-4 : goal.returns-in-4
returns-in-4 c = c.four_letters.ensures ∙ call_of-length 4 c.args.first.now _ c.in-4.is

pub returns-in-5 : goal.returns-in-5
returns-in-5 c = c.five_letters.ensures ∙ call_of-length 5 c.args.first.now _ c.in-5.is

pub returns-in-6 : goal.returns-in-6
returns-in-6 c = c.six_letters.ensures ∙ call_of-length 6 c.args.first.now _ c.in-6.is

pub returns-in-7 : goal.returns-in-7
returns-in-7 c = c.seven_letters.ensures ∙ call_of-length 7 c.args.first.now _ c.in-7.is

pub returns-in-8 : goal.returns-in-8
returns-in-8 c = c.eight_letters.ensures ∙ call_of-length 8 c.args.first.now _ c.in-8.is

pub returns-in-9 : goal.returns-in-9
returns-in-9 c = c.nine_letters.ensures ∙ call_of-length 9 c.args.first.now _ c.in-9.is

pub returns-in_default : goal.returns-in_default
returns-in_default c = call_of-other c.args.first.now _ (search rules) (search rules) (search rules) (search rules) (search rules) (search rules)
