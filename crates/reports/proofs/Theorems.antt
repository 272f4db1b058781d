-- The proofs of what specs/Theorems states.
use Rattle.reports.specs.Theorems.{Reports}
use Rattle.reports.proofs.ReadBack.{read_back}
use Rattle.reports.proofs.Examples.{example_printed}

pub reports : Reports
reports = record { read_back = read_back; example = example_printed }
