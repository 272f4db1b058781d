-- What is written is the output's front, and that is what the program prints of the card.
use Rattle.printing.proofs.Printouts.{printed_front}
use Rattle.write_card.proofs.PrinterProgram.print.Goals as goal

pub returns-clause-front : goal.returns-clause-front
returns-clause-front c = λ card read. printed_front (c.print.ensures.whole card read)
