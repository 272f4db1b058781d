-- C's answer is made of what the call came to.
use lib.Ieee.{of_bits}
use borrow.Author.Rules.{rules}
use Rattle.volume.specs.Volume.{answer_of}
use Rattle.volume.proofs.VolumeAnswerFromResultF64Refusal.from.Goals as goal

pub returns-in-Ok : goal.returns-in-Ok
unfolding answer_of
returns-in-Ok c = search rules

pub returns-in-Err : goal.returns-in-Err
unfolding answer_of of_bits
returns-in-Err c = search rules
