-- `writing::print` meets its contract: the card is a text.
use lib.Dec.{lit<}
use borrow.Author.Rules.{rules}
use Rattle.printing.proofs.Texts.{card_form}
use Rattle.writing.proofs.Writing.{prints_card}
use Rattle.writing.proofs.print.Goals as goal

pub print-requires : goal.print-requires
print-requires c = (card_form _ (lit< tt), search rules)

pub returns : goal.returns
returns c = prints_card _ _ _ c.print.ensures
