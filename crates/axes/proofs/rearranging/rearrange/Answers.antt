-- `rearrange` meets its contract: a row turns it down, or the archive is written.
use Prim.Native.Nat.{ℕ}
use mathlib.Core.Path.{◌≡◌, sym, ap, ◌∙◌}
use mathlib.Core.List.{List}
use Rattle.std.proofs.lemmas.Result.{err_from_is_err_and}
use Rattle.refusals.proofs.Table.{number_positive}
use Rattle.calls.specs.Lent.{Outcome}
use Rattle.axes.proofs.Rows.{rearrangeable, refused, done}
use Rattle.axes.proofs.rearranging.rearrange.Goals as goal

-- what the contract says, of an outcome that is known
parts : {o : Outcome} {r v : ℕ} {w second : List ℕ} → o ≡ record { refusal = r; value = v; words = w; log = second }
    → (r ≡ o.refusal) × (w ≡ o.words) × (second ≡ o.log)
parts e = (sym (ap (λ (o : Outcome). o.refusal) e), sym (ap (λ (o : Outcome). o.words) e), sym (ap (λ (o : Outcome). o.log) e))

pub returns-in_err-rearrange_rows : goal.returns-in_err-rearrange_rows
returns-in_err-rearrange_rows c =
    let p = err_from_is_err_and c.from_residual.result c.from_residual.ensures.1 in
    rw (p.1, p.2) (parts (refused _ _ _ c.in_err-rearrange_rows.ensures (number_positive _)))

pub write-requires : goal.write-requires
write-requires c =
    let h = rearrangeable _ _ _ (sym c.in_ok-rearrange_rows.ensures) in
    (h.passes, h.known, h.long)

pub returns : goal.returns
returns c =
    let made = parts (done _ _ _ (rearrangeable _ _ _ (sym c.in_ok-rearrange_rows.ensures))) in
    (made.0, made.1, c.write.ensures ∙ made.2)
