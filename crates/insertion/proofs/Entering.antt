-- A trial entered leaves words that pass rows 1 to 3, and with the front counted the archive with the trial inserted.
use Prim.Native.Nat.{ℕ, ◌≤◌}
use mathlib.Core.Path.{◌≡◌, refl}
use mathlib.Core.List.{List, ◌++◌}
use native.Mathlib.Omega.{arith}
use lib.ListN.{length}
use Rattle.words.specs.Archive.{Trial}
use Rattle.words.specs.Layout.{layout, read, behind}
use Rattle.words.specs.Format.{archive_rows}
use Rattle.words.proofs.Passed.{Sound}
use Rattle.calls.specs.Calls.{renewed, inserted, insert_rows}
use Rattle.calls.proofs.Known.{known}
use Rattle.calls.proofs.Sound.{insert_passed, inserted_count, inserted_sound}
use Rattle.records.specs.Fronts.{fronted}
use Rattle.records.proofs.Stored
use Rattle.insertion.specs.Inserting.{entered}

module _ (w left : List ℕ) (t : Trial) (p : archive_rows w 0 ≡ 0) (passed : insert_rows (read w) t ≡ 0) (e : left ≡ entered w t) where
  sound : Sound (inserted (read w) t)
  sound = inserted_sound (read w) t (known w p).sound (insert_passed (read w) t passed)

  few : (read w).front ≤ length (inserted (read w) t).rows
  few = omega (arith, (known w p).sound.front_within, inserted_count (read w) t)

  pub entered_passes : archive_rows left 0 ≡ 0
  entered_passes = Stored.update_passes w left (inserted (read w) t) (read w).front sound few e

  pub entered_read : read left ≡ fronted (read w).front (inserted (read w) t)
  entered_read = Stored.update_read w left (inserted (read w) t) (read w).front sound few e

  pub entered_behind : behind left ≡ behind w
  entered_behind = Stored.update_behind w left (inserted (read w) t) (read w).front sound few e

  pub entered_renewed : (after : List ℕ) → after ≡ layout (renewed (read left).shape (read left).sum (read left).rows) ++ behind left → after ≡ layout (inserted (read w) t) ++ behind w
  entered_renewed after f = Stored.update_renewed w left (inserted (read w) t) (read w).front sound few e after f (unfold inserted in refl)
