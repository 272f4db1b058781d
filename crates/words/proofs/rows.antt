-- Laws that the proofs of the search use.
mod SearchLaws
