-- `card::lines::Reader::next` meets its contract: a line that is due is no further than the card is long, so there is a number behind it.
use Rattle.std.proofs.Common.{arith}
use Rattle.card.proofs.CardLines.{inside, few_lines}
use Rattle.card.proofs.lines.Reader.next.Goals as goal

pub overflow_add-self : goal.overflow_add-self
overflow_add-self c = omega (arith, inside _ c.in_ok-l.ensures, few_lines c.args.self.now.card.now)
