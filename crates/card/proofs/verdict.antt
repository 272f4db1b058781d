-- What the proofs of `judge` and of what it calls use.
mod FurtherLines
mod FirstLine
