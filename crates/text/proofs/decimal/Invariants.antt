-- `text::decimal` meets its contract: each turn takes one digit (proofs/FieldAt, Valued).
use Rattle.text.proofs.FieldAt.{Valued}
use Rattle.text.proofs.decimal.Given as goal

abbrev pub invariant-loop-i : goal.invariant-loop-i
invariant-loop-i l = Valued l.s l.at l.end l.v l.i
