-- `mark` meets its contract.
use mathlib.Core.Path.{refl}
use Rattle.words.specs.Table.{marked}
use Rattle.words.proofs.check.MarkLaws.{marking}
use Rattle.words.proofs.check.mark.Goals as goal

pub returns : goal.returns
unfolding marked
returns c =
    record { value = refl; marking = marking _ _ c.requires }
