-- Laws that the proofs of the check use, each file named after the code that it serves.
mod AscendsLaws
mod EachLaws
mod MarkLaws
mod RowsAllowed
mod StandsLaws
mod ZerosLaws
