-- A fourth score (document 02, W-211): what the call answers, and what it leaves. The points, and what is counted of them, are in
-- `sweep4/specs/Quadruples`.
use Rattle.std.specs.Prelude.{ℕ, zero, suc, ◌+◌, ◌/◌, ◌%◌, not, List, ltb, eqb, length}
use Rattle.slices.specs.Put.{put}
use Rattle.words.specs.Format.{guard, within, each}
use Rattle.sweep4.specs.Quadruples.{points_of, counts_of}

-- "(4 for the reference, then 17 for a length not a multiple of four, 20, 6 for a coordinate above 32,768, and 16 for an output
-- below points + 1 words.)" The reference: "four numbers, each 1 to 32,768"; 20: more than 512 points. `room` is the output's
-- length.
unfoldable pub count4_rows : (reference coords : List ℕ) (room : ℕ) → ℕ
count4_rows reference coords room =
    guard (not (each (within 1 32768) reference)) 4
    (guard (not (eqb (length coords % 4) 0)) 17
    (guard (ltb 512 (length coords / 4)) 20
    (guard (not (each (within 0 32768) coords)) 6
    (guard (ltb room (length coords / 4 + 1)) 16 0))))

-- "Into a lent slice of words .. words behind them untouched"; as it was where a row turns the call down.
unfoldable pub written_or : (row : ℕ) (out counts : List ℕ) → List ℕ
written_or zero out counts = put out 0 counts
written_or (suc row) out counts = out

-- What the call answers, 0 when done, and what the output then holds.
unfoldable pub count4 : (reference coords out : List ℕ) → ℕ
count4 reference coords out = count4_rows reference coords (length out)

unfoldable pub counted4 : (reference coords out : List ℕ) → List ℕ
counted4 reference coords out = written_or (count4 reference coords out) out (counts_of reference (points_of coords))
