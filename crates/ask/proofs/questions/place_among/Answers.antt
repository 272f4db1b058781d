-- `place_among` meets its contract.
use Rattle.ask.proofs.questions.Joints.{among_before, among_behind}
use Rattle.ask.proofs.questions.place_among.Goals as goal

pub returns-then-i-k : goal.returns-then-i-k
returns-then-i-k c = among_behind _ _ c.if-i-k.true

pub returns-else-i-k : goal.returns-else-i-k
returns-else-i-k c = among_before _ _ c.if-i-k.false c.requires
