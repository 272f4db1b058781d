-- A grid of trials, and the insertions that it stands for.
use Prim.Native.Nat.{ℕ, zero, suc, ◌%◌, ◌≤◌}
use mathlib.Core.Path.{◌≡◌, refl, sym, ap, ap₂, ◌∙◌}
use mathlib.Core.Bool.{Bool, true, false}
use mathlib.Core.List.{List, ◌∷◌, ◌++◌, []}
use native.Mathlib.Omega.{arith}
use lib.ListN.{length}
use borrow.Author.Tests.{eq-eqb, ne_eqb}
use Rattle.hypervolume.specs.Front.{front}
use Rattle.words.specs.Archive.{Trial, Shape, Archive}
use Rattle.words.specs.Layout.{layout, read, behind}
use Rattle.words.specs.Format.{guard, archive_rows}
use Rattle.words.proofs.Passed.{Sound, guard_none, passed}
use Rattle.words.proofs.Reading.{behind_layout}
use Rattle.calls.specs.Calls.{held_points, inserted, admission_rows, insert_rows}
use Rattle.calls.specs.Lent.{insert}
use Rattle.calls.specs.Grid.{grid_trials, Filling, unless_stopped, filled, grid_rows, GridOutcome, grid_outcome, insert_grid, unless_refused, one_by_one, Stops, row_5, row_6, row_7, row_8, row_13, GridLaws}
use Rattle.calls.proofs.Known.{known}
use Rattle.calls.proofs.Answers.{rows_passed}
use Rattle.calls.proofs.Sound.{insert_passed, inserted_count, inserted_sound}
use Rattle.calls.proofs.Lent.{leaves_refusal, insert_done, done_reads, done_passes}

-- The refusal of a whole grid.
row_17 : (w grid : List ℕ) → (length grid % 4 ≡ 0 → ⊥) → (insert_grid w grid).answer.refusal ≡ 17
unfolding insert_grid grid_outcome grid_rows guard
row_17 w grid n = rw (ne_eqb (length grid % 4) 0 n)

refusal_row : (row : ℕ) (w : List ℕ) (f : Filling) → (grid_outcome row w f).answer.refusal ≡ row
unfolding grid_outcome
refusal_row zero w f = refl
refusal_row (suc row) w f = refl

rows_1_to_3 : (w grid : List ℕ) → length grid % 4 ≡ 0 → (insert_grid w grid).answer.refusal ≡ archive_rows w 0
unfolding insert_grid grid_rows guard
rows_1_to_3 w grid e = refusal_row _ w _ ∙ rw (eq-eqb (length grid % 4) 0 e)

-- Where the whole grid is not refused, rows 1 to 3 let the words pass.
pub grid_passes : (w grid : List ℕ) → grid_rows w grid ≡ 0 → archive_rows w 0 ≡ 0
unfolding grid_rows
grid_passes w grid e = (guard_none _ _ _ e).1

-- What a filling leaves in words.
abbrev outcome : List ℕ → Filling → GridOutcome
outcome w f = record { answer = record { refusal = 0; inserted = f.inserted; stop = f.stop }; words = layout f.archive ++ behind w }

insert_row : (w : List ℕ) (t : Trial) → archive_rows w 0 ≡ 0 → (insert w t).refusal ≡ insert_rows (read w) t
unfolding insert
insert_row w t p = leaves_refusal w [] _ _ _ _ ∙ rows_passed w _ p

-- One by one on words that pass: the filling of the archive that they hold.
one_by_one_fills : (w : List ℕ) (ts : List Trial) → archive_rows w 0 ≡ 0 → one_by_one w ts ≡ outcome w (filled (read w) ts)
unfolding one_by_one filled unless_refused unless_stopped
one_by_one_fills w [] p = ap (λ l. record { answer = record { refusal = 0; inserted = 0; stop = 0 }; words = l }) (passed w p).laid
one_by_one_fills w (t ∷ ts) p = go (insert_rows (read w) t) refl (λ q. one_by_one_fills (insert w t).words ts q)
  where
    go : (row : ℕ) → insert_rows (read w) t ≡ row
        → (archive_rows (insert w t).words 0 ≡ 0 → one_by_one (insert w t).words ts ≡ outcome (insert w t).words (filled (read (insert w t).words) ts))
        → unless_refused (insert w t).refusal w (one_by_one (insert w t).words ts)
        ≡ outcome w (unless_stopped (insert_rows (read w) t) (read w) (filled (inserted (read w) t) ts))
    go zero e more =
        let sound = inserted_sound (read w) t (known w p).sound (insert_passed (read w) t e) in
        let done = insert_done w t (insert_row w t p ∙ e) in
        let reads = done_reads _ _ _ _ _ _ _ done in
        let behinds : behind (insert w t).words ≡ behind w = ap behind done.words ∙ behind_layout (inserted (read w) t) (behind w) sound.held_within in
        let rest : one_by_one (insert w t).words ts ≡ outcome w (filled (inserted (read w) t) ts) =
        more (done_passes _ _ _ _ _ _ _ done sound 0)
        ∙ ap₂ (λ b a. record { answer = record { refusal = 0; inserted = (filled a ts).inserted; stop = (filled a ts).stop }; words = layout (filled a ts).archive ++ b }) behinds reads in
        rw (insert_row w t p ∙ e, e, rest)
    go (suc row) e more =
        rw (insert_row w t p ∙ e, e)
        (ap (λ l. record { answer = record { refusal = 0; inserted = 0; stop = suc row }; words = l }) (passed w p).laid)

outcome_done : (row : ℕ) (w : List ℕ) (f : Filling) → row ≡ 0 → grid_outcome row w f ≡ outcome w f
unfolding grid_outcome
outcome_done row w f e = rw e

insertions : (w grid : List ℕ) → grid_rows w grid ≡ 0 → insert_grid w grid ≡ one_by_one w (grid_trials grid)
unfolding insert_grid
insertions w grid e =
    outcome_done _ w _ e ∙ sym (one_by_one_fills w (grid_trials grid) (grid_passes w grid e))

-- The rows of insert are rows 5 to 8 and 13.
rows_stop : (five six seven eight over : Bool) → (guard five 5 (guard six 6 (guard seven 7 (guard eight 8 (guard over 13 0)))) ≡ 0 → ⊥)
    → Stops (guard five 5 (guard six 6 (guard seven 7 (guard eight 8 (guard over 13 0)))))
unfolding guard
rows_stop true six seven eight over n = row_5
rows_stop false true seven eight over n = row_6
rows_stop false false true eight over n = row_7
rows_stop false false false true over n = row_8
rows_stop false false false false true n = row_13
rows_stop false false false false false n = absurd (n refl)

insert_stops : (a : Archive) (t : Trial) → (insert_rows a t ≡ 0 → ⊥) → Stops (insert_rows a t)
unfolding insert_rows admission_rows
insert_stops a t = rows_stop _ _ _ _ _

-- What a filling comes to.
filled_stops : (a : Archive) (ts : List Trial) → ((filled a ts).stop ≡ 0 → ⊥) → Stops (filled a ts).stop
unfolding filled unless_stopped
filled_stops a [] n = absurd (n refl)
filled_stops a (t ∷ ts) n = go (insert_rows a t) (insert_stops a t) (filled_stops (inserted a t) ts) n
  where
    go : (row : ℕ) → ((row ≡ 0 → ⊥) → Stops row) → (((filled (inserted a t) ts).stop ≡ 0 → ⊥) → Stops (filled (inserted a t) ts).stop)
        → ((unless_stopped row a (filled (inserted a t) ts)).stop ≡ 0 → ⊥) → Stops (unless_stopped row a (filled (inserted a t) ts)).stop
    go zero here later n = later n
    go (suc row) here later n = here n

filled_all : (a : Archive) (ts : List Trial) → (filled a ts).stop ≡ 0 → (filled a ts).inserted ≡ length ts
unfolding filled unless_stopped
filled_all a [] e = refl
filled_all a (t ∷ ts) e = go (insert_rows a t) (filled_all (inserted a t) ts) e
  where
    go : (row : ℕ) → ((filled (inserted a t) ts).stop ≡ 0 → (filled (inserted a t) ts).inserted ≡ length ts)
        → (unless_stopped row a (filled (inserted a t) ts)).stop ≡ 0 → (unless_stopped row a (filled (inserted a t) ts)).inserted ≡ length (t ∷ ts)
    go zero later e = ap suc (later e)
    go (suc row) later e = absurd (let no' : ⊥ = omega (arith, e) in no')

pub filled_none : (a : Archive) (ts : List Trial) → (filled a ts).inserted ≡ 0 → (filled a ts).archive ≡ a
unfolding filled unless_stopped
filled_none a [] e = refl
filled_none a (t ∷ ts) e = go (insert_rows a t) e
  where
    go : (row : ℕ) → (unless_stopped row a (filled (inserted a t) ts)).inserted ≡ 0 → (unless_stopped row a (filled (inserted a t) ts)).archive ≡ a
    go zero e = absurd (let no' : ⊥ = omega (arith, e) in no')
    go (suc row) e = refl

-- What a filling comes to from words that pass: they pass with it too, with any front that did, and its own front is counted
-- where a trial went in.
pub record FilledFair (k : ℕ) (s : Shape) (f : Filling) : Type 0 where
  pub sound : Sound f.archive
  pub few : k ≤ length f.archive.rows
  pub shaped : f.archive.shape ≡ s
  pub counted : (f.inserted ≡ 0 → ⊥) → f.archive.front ≡ front (held_points f.archive)

pub filled_fair : (k : ℕ) (a : Archive) (ts : List Trial) → Sound a → k ≤ length a.rows → FilledFair k a.shape (filled a ts)
unfolding filled unless_stopped inserted
filled_fair k a [] s l = record { sound = s; few = l; shaped = refl; counted = λ n. absurd (n refl) }
filled_fair k a (t ∷ ts) s l =
    go (insert_rows a t) refl (filled_fair k (inserted a t) ts)
  where
    ahead : (n : ℕ) → (filled (inserted a t) ts).inserted ≡ n → FilledFair k a.shape (filled (inserted a t) ts) → (filled (inserted a t) ts).archive.front ≡ front (held_points (filled (inserted a t) ts).archive)
    ahead zero e later = rw (filled_none (inserted a t) ts e)
    ahead (suc n) e later = later.counted (λ z. let no' : ⊥ = omega (arith, e, z) in no')

    go : (row : ℕ) → insert_rows a t ≡ row → (Sound (inserted a t) → k ≤ length (inserted a t).rows → FilledFair k a.shape (filled (inserted a t) ts))
        → FilledFair k a.shape (unless_stopped row a (filled (inserted a t) ts))
    go zero e more =
        let later = more (inserted_sound a t s (insert_passed a t e)) (omega (arith, l, inserted_count a t)) in
        record { sound = later.sound; few = later.few; shaped = later.shaped; counted = λ n. ahead (filled (inserted a t) ts).inserted refl later }
    go (suc row) e more = record { sound = s; few = l; shaped = refl; counted = λ n. absurd (n refl) }

-- The same, of the call.
stops : (w grid : List ℕ) → ((insert_grid w grid).answer.stop ≡ 0 → ⊥) → Stops (insert_grid w grid).answer.stop
unfolding insert_grid grid_outcome
stops w grid = go (grid_rows w grid)
  where
    go : (row : ℕ) → ((grid_outcome row w (filled (read w) (grid_trials grid))).answer.stop ≡ 0 → ⊥) → Stops (grid_outcome row w (filled (read w) (grid_trials grid))).answer.stop
    go zero n = filled_stops (read w) (grid_trials grid) n
    go (suc row) n = absurd (n refl)

all_in : (w grid : List ℕ) → grid_rows w grid ≡ 0 → (insert_grid w grid).answer.stop ≡ 0 → (insert_grid w grid).answer.inserted ≡ length (grid_trials grid)
unfolding insert_grid
all_in w grid e f =
    let done = outcome_done (grid_rows w grid) w (filled (read w) (grid_trials grid)) e in
    ap (λ o. o.answer.inserted) done ∙ filled_all (read w) (grid_trials grid) (sym (ap (λ o. o.answer.stop) done) ∙ f)

none_in : (w grid : List ℕ) → (insert_grid w grid).answer.inserted ≡ 0 → (insert_grid w grid).words ≡ w
unfolding insert_grid grid_outcome
none_in w grid = go (grid_rows w grid) refl
  where
    go : (row : ℕ) → grid_rows w grid ≡ row → (grid_outcome row w (filled (read w) (grid_trials grid))).answer.inserted ≡ 0
        → (grid_outcome row w (filled (read w) (grid_trials grid))).words ≡ w
    go zero e none = ap (λ a. layout a ++ behind w) (filled_none (read w) (grid_trials grid) none) ∙ sym (passed w (grid_passes w grid e)).laid
    go (suc row) e none = refl

pub grids : GridLaws
grids = record { row_17 = row_17; rows_1_to_3 = rows_1_to_3; insertions = insertions; stops = stops; all_in = all_in; none_in = none_in }
