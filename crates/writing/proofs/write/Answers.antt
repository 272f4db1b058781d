-- `writing::write` meets its contract: the card is a text.
use lib.Dec.{lit<}
use Rattle.printing.proofs.Texts.{card_form}
use Rattle.writing.proofs.Writing.{as_card}
use Rattle.writing.proofs.write.Goals as goal

pub write_text-requires : goal.write_text-requires
write_text-requires c = card_form _ (lit< tt)

pub returns : goal.returns
returns c = as_card _ _ c.write_text.ensures
