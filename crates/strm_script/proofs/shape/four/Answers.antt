-- The exits at a word that isn't of its form.
use Rattle.std.proofs.Common.{refl}
use Rattle.strm_script.proofs.Words.{exits, goes_on, four_words}
use Rattle.strm_script.proofs.shape.four.Goals as goal

pub returns-in_err-read-3 : goal.returns-in_err-read-3
returns-in_err-read-3 g c = rw (four_words _ _ _ _ _ c.in_ok-first.ensures.word c.in_ok-second.ensures.word c.in_ok-third.ensures.word c.in_ok-fourth.ensures.word c.in_ok-none.ensures) (goes_on _ _ _ _ c.in_ok-read.ensures (goes_on _ _ _ _ c.in_ok-read-2.ensures (exits _ _ _ _ c.from_residual-in_err-read-3.ensures.1 c.in_err-read-3.ensures)))

pub returns-in_err-read-4 : goal.returns-in_err-read-4
returns-in_err-read-4 g c = rw (four_words _ _ _ _ _ c.in_ok-first.ensures.word c.in_ok-second.ensures.word c.in_ok-third.ensures.word c.in_ok-fourth.ensures.word c.in_ok-none.ensures) (goes_on _ _ _ _ c.in_ok-read.ensures (goes_on _ _ _ _ c.in_ok-read-2.ensures (goes_on _ _ _ _ c.in_ok-read-3.ensures (exits _ _ _ _ c.from_residual-in_err-read-4.ensures.1 c.in_err-read-4.ensures))))

pub returns : goal.returns
returns g c = rw (four_words _ _ _ _ _ c.in_ok-first.ensures.word c.in_ok-second.ensures.word c.in_ok-third.ensures.word c.in_ok-fourth.ensures.word c.in_ok-none.ensures) (goes_on _ _ _ _ c.in_ok-read.ensures (goes_on _ _ _ _ c.in_ok-read-2.ensures (goes_on _ _ _ _ c.in_ok-read-3.ensures (goes_on _ _ _ _ c.in_ok-read-4.ensures refl))))
