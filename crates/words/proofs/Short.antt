-- Row 1 for a call that is lent only a first part of an archive's words.
use Prim.Native.Nat.{ℕ, suc, ◌≤◌, ◌<◌, min}
use mathlib.Core.Path.{◌≡◌, refl}
use mathlib.Core.Bool.{Bool, true, false, not}
use mathlib.Core.List.{List}
use native.Mathlib.Omega.{arith}
use lib.Dec.{ltb}
use lib.ListN.{length, take, length-take}
use lib.Seq.{get_or-take}
use borrow.Author.Tests.{lt-ltb}
use Rattle.hypervolume.proofs.Tests.{Compared, above, compared}
use Rattle.words.specs.Format.{guard, header_allowed, archive_rows}
use Rattle.words.specs.Layout.{extent, word, read_shape}
use Rattle.words.proofs.Passed.{unrefused}

part_header : (n : ℕ) (w : List ℕ) → 8 ≤ n → header_allowed (take n w) ≡ header_allowed w
unfolding header_allowed read_shape
part_header n w l =
    rw (
      get_or-take n w 0 0 (omega arith),
      get_or-take n w 1 0 (omega arith),
      get_or-take n w 2 0 (omega arith),
      get_or-take n w 3 0 (omega arith),
      get_or-take n w 4 0 (omega arith),
      get_or-take n w 5 0 (omega arith),
      get_or-take n w 6 0 (omega arith),
      get_or-take n w 7 0 (omega arith),
    )

-- Row 1: "fewer than 8 words; or, after row 2 has passed, fewer than 8 + 5 × capacity".
pub part_short : (w : List ℕ) (n rest : ℕ) → archive_rows w 0 ≡ 0 → n < extent (word w 1) → archive_rows (take n w) rest ≡ 1
unfolding archive_rows guard
part_short w n rest e l =
    go (ltb (length (take n w)) 8) (compared (suc (length (take n w))) 8) _
  where
    size : length (take n w) ≡ min n (length w)
    size = length-take n w

    go : (t : Bool) → Compared (suc (length (take n w))) 8 t → (more : ℕ)
        → guard t 1 (guard (not (header_allowed (take n w))) 2 (guard (ltb (length (take n w)) (extent (word (take n w) 1))) 1 more)) ≡ 1
    go true c more = refl
    go false (above m) more =
        let enough : 8 ≤ n = omega (arith, size) in
        let short : length (take n w) < extent (word w 1) = omega (arith, size) in
        rw (part_header n w enough, (unrefused w 0 e).headed.allowed, get_or-take n w 1 0 (omega arith), lt-ltb (length (take n w)) (extent (word w 1)) short)
