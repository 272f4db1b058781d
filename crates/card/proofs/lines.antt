-- What the proof of `line_due` uses.
mod LineDue
