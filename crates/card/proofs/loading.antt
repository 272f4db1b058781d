-- What the proofs of `read_card` (with `first_line` and `further_line`), `load` and `check` use.
mod ReadCard
mod Judged
