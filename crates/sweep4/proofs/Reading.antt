-- The points of the coordinates, four to a point, and their keys.
use Prim.Native.Nat.{ℕ, zero, suc, ◌+◌, ◌*◌, ◌/◌, ◌≤◌, ◌<◌}
use mathlib.Core.Path.{◌≡◌, refl, sym, ap, ◌∙◌}
use mathlib.Core.List.{List, ◌∷◌, []}
use native.Mathlib.Decide.{dec_lt}
use native.Mathlib.Omega.{arith}
use lib.ListN.{length, take, get_or, get_or-eq_default}
use Rattle.words.proofs.Passed.{each_bounds}
use Rattle.order.specs.Keys.{Keyed, Few}
use Rattle.sweep4.specs.Quadruples.{points_of}
use Rattle.sweep4.specs.Passing.{Readable}

pub points_many : (coords : List ℕ) → length (points_of coords) ≡ length coords / 4
unfolding points_of
points_many [] = refl
points_many (x ∷ []) = refl
points_many (x ∷ y ∷ []) = refl
points_many (x ∷ y ∷ z ∷ []) = refl
points_many (x ∷ y ∷ z ∷ w ∷ coords) = omega (arith, points_many coords)

pub points_at : (coords : List ℕ) (i : ℕ) → i < length coords / 4 → get_or (points_of coords) i [] ≡ get_or coords (4 * i) 0 ∷ get_or coords (4 * i + 1) 0 ∷ get_or coords (4 * i + 2) 0 ∷ get_or coords (4 * i + 3) 0 ∷ []
unfolding points_of
points_at [] i l = absurd (let no' : ⊥ = omega arith in no')
points_at (x ∷ []) i l = absurd (let no' : ⊥ = omega arith in no')
points_at (x ∷ y ∷ []) i l = absurd (let no' : ⊥ = omega arith in no')
points_at (x ∷ y ∷ z ∷ []) i l = absurd (let no' : ⊥ = omega arith in no')
points_at (x ∷ y ∷ z ∷ w ∷ coords) zero l = refl
points_at (x ∷ y ∷ z ∷ w ∷ coords) (suc i) l =
    let first : 4 * suc i ≡ suc (suc (suc (suc (4 * i)))) = omega arith in
    let second : 4 * suc i + 1 ≡ suc (suc (suc (suc (4 * i + 1)))) = omega arith in
    let third : 4 * suc i + 2 ≡ suc (suc (suc (suc (4 * i + 2)))) = omega arith in
    let fourth : 4 * suc i + 3 ≡ suc (suc (suc (suc (4 * i + 3)))) = omega arith in
    rw (second, third, fourth, first) (points_at coords i (omega arith))

module _ {coords : List ℕ} (r : Readable coords) where
  pub coordinate_small : (i : ℕ) → get_or coords i 0 ≤ 32768
  coordinate_small i = (each_bounds 0 32768 coords r.allowed i).1

  pub seen_at : (i : ℕ) → i < length coords / 4 → get_or coords (4 * i) 0 ∷ get_or coords (4 * i + 1) 0 ∷ get_or coords (4 * i + 2) 0 ∷ [] ≡ take 3 (get_or (points_of coords) i [])
  seen_at i l = rw (points_at coords i l)

  four : (a b c d : ℕ) → a ≤ 32768 → b ≤ 32768 → c ≤ 32768 → d ≤ 32768 → (axis : ℕ) → get_or (a ∷ b ∷ c ∷ d ∷ []) axis 0 ≤ 32768
  four a b c d i j k l zero = i
  four a b c d i j k l (suc zero) = j
  four a b c d i j k l (suc (suc zero)) = k
  four a b c d i j k l (suc (suc (suc zero))) = l
  four a b c d i j k l (suc (suc (suc (suc axis)))) = omega arith

  pub point_small : (i axis : ℕ) → get_or (get_or (points_of coords) i []) axis 0 ≤ 32768
  point_small i axis = go (dec_lt i (length coords / 4))
    where
      go : Dec (i < length coords / 4) → get_or (get_or (points_of coords) i []) axis 0 ≤ 32768
      go (yes l) = rw (points_at coords i l) (four (get_or coords (4 * i) 0) (get_or coords (4 * i + 1) 0) (get_or coords (4 * i + 2) 0) (get_or coords (4 * i + 3) 0) (coordinate_small (4 * i)) (coordinate_small (4 * i + 1)) (coordinate_small (4 * i + 2)) (coordinate_small (4 * i + 3)) axis)
      go (no l) = rw (get_or-eq_default (points_of coords) [] {n = i} (omega (arith, points_many coords))) (omega arith)

  pub points_few : Few (points_of coords)
  points_few =
      record {
        few = omega (arith, points_many coords, r.few);
        small = λ k axis. omega (arith, point_small k axis);
      }

-- The keys of the first i points.
pub record Keying (coords : List ℕ) (old keys : List ℕ) (i : ℕ) : Type 0 where
  pub part : i ≤ length old
  pub long : length keys ≡ length old
  pub each : (j : ℕ) → j < i → get_or keys j 0 ≡ get_or coords (4 * j + 3) 0 * 512 + j

module _ {coords old keys : List ℕ} {i : ℕ} (h : Keying coords old keys i) where
  pub keying_end : length old ≡ length coords / 4 → length keys ≤ i → Keyed 3 (points_of coords) keys
  keying_end e l =
      record {
        long = omega (arith, h.long, points_many coords);
        each = λ j m.
            let inside : j < length coords / 4 = omega (arith, points_many coords) in
            h.each j (omega (arith, h.long)) ∙ ap (λ p. get_or p 3 0 * 512 + j) (sym (points_at coords j inside));
      }
