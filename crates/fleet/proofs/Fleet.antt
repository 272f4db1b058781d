-- Archives one behind the other: where each begins, which pass, how they are laid and read again.
use Prim.Native.Nat.{ℕ, zero, suc, ◌+◌, ◌<◌}
use mathlib.Core.Path.{◌≡◌, refl, sym, ap, ◌∙◌, subst}
use mathlib.Core.Bool.{Bool, true}
use mathlib.Core.List.{List, ◌∷◌, ◌++◌, append_assoc, append-nil, []}
use native.Mathlib.Nat.{suc-add, zero-add}
use native.Mathlib.Omega.{arith}
use lib.ListN.{length, drop}
use lib.Seq.{drop-drop}
use borrow.Author.Tests.{eqb-true, eq-eqb}
use Rattle.slices.proofs.Choices.{both_true, both_intro}
use Rattle.words.specs.Archive.{Archive}
use Rattle.words.specs.Layout.{layout, read, extent, word, behind}
use Rattle.words.specs.Format.{archive_rows}
use Rattle.words.proofs.Reading.{read_layout, behind_layout}
use Rattle.words.proofs.Passed.{Sound, passed, passed_both, passes_again, sound_passes, still_refused}
use Rattle.fleet.specs.Fleet.{archives, past, fleet_rows, extents, layouts, every, sound, ReadAgain, Joined, FleetLaws}

-- One archive more.
pub past_next : (n : ℕ) (w : List ℕ) → past (suc n) w ≡ behind (past n w)
unfolding past
past_next zero w = refl
past_next (suc n) w = past_next n (behind w)

pub extents_next : (n : ℕ) (w : List ℕ) → extents (suc n) w ≡ extents n w + extent (word (past n w) 1)
unfolding past extents
extents_next zero w = omega arith
extents_next (suc n) w = omega (arith, extents_next n (behind w))

-- Where the next one begins.
pub past_from : (n : ℕ) (w : List ℕ) → past n w ≡ drop (extents n w) w
unfolding past extents behind
past_from zero w = refl
past_from (suc n) w = past_from n (behind w) ∙ drop-drop (extents n (behind w)) (extent (word w 1)) w

pub length_archives : (n : ℕ) (w : List ℕ) → length (archives n w) ≡ n
unfolding archives
length_archives zero w = refl
length_archives (suc n) w = ap suc (length_archives n (behind w))

-- What holds of every archive holds of each.
pub every_at : (test : Archive → Bool) (n k : ℕ) (w : List ℕ) → every test (archives n w) ≡ true → k < n → test (read (past k w)) ≡ true
unfolding every archives past
every_at test zero k w e l = absurd (let no : ⊥ = omega arith in no)
every_at test (suc n) zero w e l = (both_true _ _ e).0
every_at test (suc n) (suc k) w e l = every_at test n k (behind w) (both_true _ _ e).1 (omega arith)

-- Where the archives pass, each does, and the rows of the call are the next.
pub fleet_passed : (n : ℕ) (w : List ℕ) (rest : ℕ) → fleet_rows n w rest ≡ 0 → (fleet_rows n w 0 ≡ 0) × (rest ≡ 0)
unfolding fleet_rows
fleet_passed zero w rest e = (refl, e)
fleet_passed (suc n) w rest e =
    let here = passed_both w (fleet_rows n (behind w) rest) e in
    let later = fleet_passed n (behind w) rest here.1 in
    (passes_again w (fleet_rows n (behind w) 0) (passed w here.0) ∙ later.0, later.1)

pub fleet_passes : (n : ℕ) (w : List ℕ) (rest : ℕ) → fleet_rows n w 0 ≡ 0 → fleet_rows n w rest ≡ rest
unfolding fleet_rows
fleet_passes zero w rest e = refl
fleet_passes (suc n) w rest e =
    let here = passed_both w (fleet_rows n (behind w) 0) e in
    passes_again w (fleet_rows n (behind w) rest) (passed w here.0) ∙ fleet_passes n (behind w) rest here.1

pub fleet_refused : (n : ℕ) (w : List ℕ) (rest : ℕ) → (fleet_rows n w 0 ≡ 0 → ⊥) → fleet_rows n w rest ≡ fleet_rows n w 0
unfolding fleet_rows
fleet_refused zero w rest off = absurd (off refl)
fleet_refused (suc n) w rest off = go (fleet_refused n (behind w) rest) (archive_rows w 0) refl
  where
    go : ((fleet_rows n (behind w) 0 ≡ 0 → ⊥) → fleet_rows n (behind w) rest ≡ fleet_rows n (behind w) 0)
        → (row : ℕ) → archive_rows w 0 ≡ row → archive_rows w (fleet_rows n (behind w) rest) ≡ archive_rows w (fleet_rows n (behind w) 0)
    go later zero e = ap (archive_rows w) (later (λ z. off (passes_again w (fleet_rows n (behind w) 0) (passed w e) ∙ z)))
    go later (suc row) e =
        let first : archive_rows w 0 ≡ 0 → ⊥ = λ z. (let no : ⊥ = omega (arith, e, z) in no) in
        still_refused w (fleet_rows n (behind w) rest) first ∙ sym (still_refused w (fleet_rows n (behind w) 0) first)

pub passed_at : (n k : ℕ) (w : List ℕ) → fleet_rows n w 0 ≡ 0 → k < n → archive_rows (past k w) 0 ≡ 0
unfolding fleet_rows past
passed_at zero k w e l = absurd (let no : ⊥ = omega arith in no)
passed_at (suc n) zero w e l = (passed_both w (fleet_rows n (behind w) 0) e).0
passed_at (suc n) (suc k) w e l =
    passed_at n k (behind w) (passed_both w (fleet_rows n (behind w) 0) e).1 (omega arith)

-- Archives laid one behind the other, and read again.
laid : (n : ℕ) (w : List ℕ) → fleet_rows n w 0 ≡ 0 → w ≡ layouts (archives n w) ++ past n w
unfolding fleet_rows archives past layouts
laid zero w e = refl
laid (suc n) w e =
    let here = passed_both w (fleet_rows n (behind w) 0) e in
    (passed w here.0).laid ∙ ap (λ b. layout (read w) ++ b) (laid n (behind w) here.1)
    ∙ sym (append_assoc (layout (read w)) (layouts (archives n (behind w))) (past n (behind w)))

-- An archive is sound where its own words pass, and only there.
own_passes : (a : Archive) → Sound a → archive_rows (layout a) 0 ≡ 0
own_passes a s = ap (λ w. archive_rows w 0) (sym (append-nil (layout a))) ∙ sound_passes a [] 0 s

own_sound : (a : Archive) → archive_rows (layout a) 0 ≡ 0 → Sound a
own_sound a e =
    let same : read (layout a) ≡ a = ap read (sym (append-nil (layout a))) ∙ read_layout a [] in
    subst Sound same (passed (layout a) e).sound

sound_each : (n : ℕ) (w : List ℕ) → fleet_rows n w 0 ≡ 0 → sound (archives n w) ≡ true
unfolding fleet_rows archives sound every
sound_each zero w e = refl
sound_each (suc n) w e =
    let here = passed_both w (fleet_rows n (behind w) 0) e in
    both_intro _ _ (eq-eqb _ _ (own_passes (read w) (passed w here.0).sound)) (sound_each n (behind w) here.1)

read_again : (fleet : List Archive) (b : List ℕ) → sound fleet ≡ true → ReadAgain fleet b
unfolding archives past fleet_rows layouts sound every
read_again [] b e = record { same = refl; rest = refl; passes = λ row. refl }
read_again (a ∷ fleet) b e =
    let parts = both_true _ _ e in
    let own : Sound a = own_sound a (eqb-true _ _ parts.0) in
    let later = read_again fleet b parts.1 in
    let apart : layout a ++ layouts fleet ++ b ≡ layout a ++ (layouts fleet ++ b) = append_assoc (layout a) (layouts fleet) b in
    let next : behind (layout a ++ (layouts fleet ++ b)) ≡ layouts fleet ++ b = behind_layout a (layouts fleet ++ b) own.held_within in
    record {
      same = rw (apart, next, read_layout a (layouts fleet ++ b)) (ap (λ l. a ∷ l) later.same);
      rest = ap (past (length fleet)) (ap behind apart ∙ next) ∙ later.rest;
      passes = λ row. rw (apart, next, sound_passes a (layouts fleet ++ b) _ own) (later.passes row);
    }

joined : (m n : ℕ) (w : List ℕ) → Joined m n w
unfolding archives past fleet_rows
joined zero n w =
    record {
      all = ap (λ k. archives k w) (zero-add n);
      rest = ap (λ k. past k w) (zero-add n);
      rows = λ row. ap (λ k. fleet_rows k w row) (zero-add n);
    }
joined (suc m) n w =
    let later = joined m n (behind w) in
    record {
      all = ap (λ k. archives k w) (suc-add m n) ∙ ap (λ l. read w ∷ l) later.all;
      rest = ap (λ k. past k w) (suc-add m n) ∙ later.rest;
      rows = λ row. ap (λ k. fleet_rows k w row) (suc-add m n) ∙ ap (archive_rows w) (later.rows row);
    }

pub fleet_laws : FleetLaws
fleet_laws =
    record { laid = laid; sound_each = sound_each; read_again = read_again; joined = joined; begins = past_from }
