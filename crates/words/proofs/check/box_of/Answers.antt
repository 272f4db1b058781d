-- `box_of` meets its contract: the edge product of the origin is the box.
use Prim.Native.Nat.{ℕ, zero, suc, ◌*◌}
use mathlib.Core.Path.{◌≡◌, refl, ap, ap₂, ◌∙◌}
use mathlib.Core.List.{List, ◌∷◌, []}
use native.Mathlib.Nat.{sub-zero}
use lib.ListN.{replicate}
use Rattle.hypervolume.specs.Cells.{box, edges}
use Rattle.words.proofs.check.box_of.Goals as goal

edges_origin : (r : List ℕ) (n : ℕ) → edges r (replicate n 0) ≡ box r
unfolding edges box
edges_origin [] n = refl
edges_origin (r ∷ rs) zero = ap (λ k. r * k) (edges_origin rs 0)
edges_origin (r ∷ rs) (suc n) = ap₂ ◌*◌ (sub-zero r) (edges_origin rs n)

pub returns : goal.returns
returns c = c.edges.ensures ∙ ap (edges _) c.new.ensures ∙ edges_origin _ 3
