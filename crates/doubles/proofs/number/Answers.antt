-- `doubles::number` meets its contract.
use Rattle.std.proofs.Common.{◌≡◌, ℕ, ◌<◌, ◌≤◌, true, false, T, sym, ◌∙◌, subst}
use lib.Ieee.{of_bits, neg, eq}
use Rattle.doubles.specs.Doubles.{double}
use Rattle.doubles.proofs.Reading.{read_yes, read_other, read_large, read_above, read_below}
use Rattle.doubles.proofs.number.Goals.{else-n-le1048576-via-then-n-le1048576+else-n-x, else-n-le1048576-via-else-n-le1048576, else-x-via-then-x+else-x-2, else-x-via-else-x}
use Rattle.doubles.proofs.number.Goals as goal

pub truncating_f64_to_u64-n-requires : goal.truncating_f64_to_u64-n-requires
unfolding of_bits neg
truncating_f64_to_u64-n-requires c =
    record { lower_bound = subst T (sym c.if-x.true) tt; upper_bound = subst T (sym c.if-x-2.true) tt }

pub returns-then-n-x-clause-read : goal.returns-then-n-x-clause-read
unfolding double
returns-then-n-x-clause-read c =
    let n = c.truncating_f64_to_u64-n in
    let x = c.args.x in
    n.ensures ∙ read_yes x (subst (λ (k : ℕ). k ≤ 1048576) n.ensures c.if-n-le1048576.true) (subst (λ (k : ℕ). eq (double k) x ≡ true) n.ensures c.if-n-x.true)

pub returns-else-n-le1048576-clause-read : goal.returns-else-n-le1048576-clause-read
unfolding double
returns-else-n-le1048576-clause-read c =
    let n = c.truncating_f64_to_u64-n in
    let x = c.args.x in
    elim c.else-n-le1048576.branch [
      | else-n-le1048576-via-then-n-le1048576+else-n-x w ↦ read_other x (subst (λ (k : ℕ). eq (double k) x ≡ false) n.ensures w.if-n-x.false)
      | else-n-le1048576-via-else-n-le1048576 w ↦ read_large x (subst (λ (k : ℕ). 1048576 < k) n.ensures w.if-n-le1048576.false)
    ]

pub returns-else-x-clause-read : goal.returns-else-x-clause-read
unfolding of_bits neg
returns-else-x-clause-read c =
    elim c.else-x.branch [
      | else-x-via-then-x+else-x-2 w ↦ read_above c.args.x w.if-x-2.false w.if-x.true
      | else-x-via-else-x w ↦ read_below c.args.x w.if-x.false
    ]
