-- `printing::print` meets its contract: the line of a refusal, or the text, which is never refused here.
use mathlib.Core.Path.{refl}
use native.Mathlib.Omega.{arith}
use Rattle.printing.proofs.Printouts.{form_answered, print_form, done_of}
use Rattle.printing.proofs.print.Goals as goal

pub returns-in-Some : goal.returns-in-Some
returns-in-Some c = c.in-Some.ensures.loads.refused (λ e. omega (arith, c.in-Some.ensures.written)) _

pub unwrap-requires : goal.unwrap-requires
unwrap-requires c = done_of _ (form_answered _ _ c.requires.1 c.in_default.ensures.loads refl c.write_text.ensures)

pub returns : goal.returns
returns c =
    print_form _ _ c.requires.1 c.in_default.ensures.loads refl (rw c.unwrap.ensures at c.write_text.ensures)
