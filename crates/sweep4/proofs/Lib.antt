-- Reading: the points of the coordinates. Layers: one more point, along the last axis. Sweeping: the points in turn. Finishing:
-- the counts in the order of the input.
mod Reading
mod Layers
mod Sweeping
mod Finishing
mod Examples
