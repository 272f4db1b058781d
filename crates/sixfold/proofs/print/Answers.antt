-- `sixfold::print` meets its contract: the line of a refusal, or the six reports of what the words hold.
use mathlib.Core.Path.{refl}
use native.Mathlib.Omega.{arith}
use borrow.Author.Rules.{rules}
use Rattle.printing.proofs.Printouts.{print_text}
use Rattle.sixfold.specs.Six.{six_text}
use Rattle.sixfold.proofs.Reports.{enough_for}
use Rattle.sixfold.proofs.print.Goals as goal

pub returns-in-Some : goal.returns-in-Some
returns-in-Some c = c.in-Some.ensures.loads.refused (λ e. omega (arith, c.in-Some.ensures.written)) six_text

pub put_six-requires : goal.put_six-requires
put_six-requires c =
    let passes = (c.in_default.ensures.loads.accepted refl).0.passes in
    (passes, enough_for _ passes c.long_enough-second.ensures, search rules)

pub returns : goal.returns
returns c = print_text six_text _ c.in_default.ensures.loads refl c.put_six.ensures.0 c.put_six.ensures.1
