-- Filling an archive from a grid, trial by trial, with the front as it was.
use Prim.Native.Nat.{ℕ, zero, suc, ◌+◌, ◌-◌, ◌*◌, ◌/◌, ◌≤◌, ◌<◌}
use mathlib.Core.Path.{◌≡◌, refl, sym, ap, ap₂, subst, ◌∙◌}
use mathlib.Core.List.{List, ◌∷◌, ◌++◌, []}
use native.Mathlib.Omega.{arith}
use lib.ListN.{length, drop}
use native.Mathlib.Nat.{add-zero}
use lib.Seq.{drop-drop, get_or-drop}
use Rattle.words.specs.Archive.{Trial, Archive}
use Rattle.words.specs.Layout.{layout, read, word, behind}
use Rattle.words.specs.Format.{archive_rows}
use Rattle.words.proofs.Passed.{passed}
use Rattle.calls.specs.Calls.{inserted, insert_rows}
use Rattle.calls.specs.Lent.{trial_of}
use Rattle.calls.specs.Grid.{grid_trial, trials_from, grid_trials, Filling, unless_stopped, filled}
use Rattle.calls.proofs.Earlier.{inserted_front, insert_rows_front}
use Rattle.records.specs.Fronts.{fronted, unfronted}
use Rattle.insertion.specs.Inserting.{Enters}
use Rattle.insertion.proofs.Entering.{entered_passes, entered_read, entered_behind}
use Rattle.grid.specs.Filling.{Fills}

-- Four words from a place on are the trial there.
pub trial_words : (grid : List ℕ) (at : ℕ) → trial_of (word grid at) (word grid (at + 1)) (word grid (at + 2)) (word grid (at + 3)) ≡ grid_trial (drop at grid)
unfolding grid_trial
trial_words grid at =
    rw (get_or-drop at grid 0 0, get_or-drop at grid 1 0, get_or-drop at grid 2 0, get_or-drop at grid 3 0, add-zero)

-- The filling f is the filling g with n trials ahead of it, the front aside.
pub record Ahead (n : ℕ) (g f : Filling) : Type 0 where
  pub archives : unfronted f.archive ≡ unfronted g.archive
  pub count : f.inserted ≡ n + g.inserted
  pub stop : f.stop ≡ g.stop

-- Filling does not look at the front.
stopped_front : (row : ℕ) (a : Archive) (k : ℕ) (rest : Filling) → Ahead 0 (unless_stopped row (fronted k a) rest) (unless_stopped row a rest)
unfolding unless_stopped
stopped_front zero a k rest = record { archives = refl; count = omega arith; stop = refl }
stopped_front (suc row) a k rest = record { archives = refl; count = omega arith; stop = refl }

filled_front : (a : Archive) (k : ℕ) (ts : List Trial) → Ahead 0 (filled (fronted k a) ts) (filled a ts)
unfolding filled
filled_front a k [] = record { archives = refl; count = omega arith; stop = refl }
filled_front a k (t ∷ ts) =
    rw (insert_rows_front a k t, inserted_front a k t) (stopped_front (insert_rows a t) a k (filled (inserted a t) ts))

-- One trial of those due.
due_next : (a : Archive) {b : Archive} (t : Trial) (ts : List Trial) (n : ℕ) (f : Filling) → insert_rows a t ≡ 0 → b ≡ fronted a.front (inserted a t)
    → Ahead n (filled a (t ∷ ts)) f → Ahead (n + 1) (filled b ts) f
unfolding filled unless_stopped
due_next a {b} t ts n f passes e h =
    let same : filled b ts ≡ filled (fronted a.front (inserted a t)) ts = ap (λ c. filled c ts) e in
    let here : filled a (t ∷ ts) ≡ unless_stopped 0 a (filled (inserted a t) ts) = ap (λ row. unless_stopped row a (filled (inserted a t) ts)) passes in
    let aside : Ahead 0 (filled b ts) (filled (inserted a t) ts) = rw same (filled_front (inserted a t) a.front ts) in
    let was : Ahead n (unless_stopped 0 a (filled (inserted a t) ts)) f = rw here at h in
    record {
      archives = was.archives ∙ aside.archives;
      count = omega (arith, was.count, aside.count);
      stop = was.stop ∙ aside.stop;
    }

-- So far i trials of the grid went in.
pub record Entered (w₀ grid : List ℕ) (i : ℕ) (w : List ℕ) : Type 0 where
  pub upto : i ≤ length grid / 4
  pub same : length w ≡ length w₀
  pub passes : archive_rows w 0 ≡ 0
  pub front : (read w).front ≡ (read w₀).front
  pub behinds : behind w ≡ behind w₀
  pub left : Ahead i (filled (read w) (trials_from (length grid / 4 - i) (drop (4 * i) grid))) (filled (read w₀) (grid_trials grid))

pub none_entered : (w grid : List ℕ) → archive_rows w 0 ≡ 0 → Entered w grid 0 w
unfolding grid_trials
none_entered w grid p =
    let all : trials_from (length grid / 4 - 0) (drop (4 * 0) grid) ≡ trials_from (length grid / 4) grid =
    ap₂ (λ n k. trials_from n (drop k grid)) (let z : length grid / 4 - 0 ≡ length grid / 4 = omega arith in z) (let z : 4 * 0 ≡ 0 = omega arith in z) in
    record {
      upto = omega arith;
      same = refl;
      passes = p;
      front = refl;
      behinds = refl;
      left = rw all (record { archives = refl; count = omega arith; stop = refl });
    }

-- The words with this archive but for its front are those of the filling.
fills : (w₀ w : List ℕ) (ts : List Trial) → archive_rows w 0 ≡ 0 → (read w).front ≡ (read w₀).front → behind w ≡ behind w₀
    → unfronted (filled (read w₀) ts).archive ≡ unfronted (read w) → w ≡ layout (fronted (read w₀).front (filled (read w₀) ts).archive) ++ behind w₀
fills w₀ w ts p front behinds e =
    (passed w p).laid
    ∙ ap₂ (λ x y. layout x ++ y)
    (ap (λ k. fronted k (read w)) front ∙ ap (fronted (read w₀).front) (sym e)) behinds

-- A trial that is turned down stops the filling.
stopped : (a : Archive) (t : Trial) (ts : List Trial) (r : ℕ) → r ≡ insert_rows a t → (r ≡ 0 → ⊥) → filled a (t ∷ ts) ≡ record { archive = a; inserted = 0; stop = r }
unfolding filled unless_stopped
stopped a t ts zero e n = absurd (n refl)
stopped a t ts (suc r) e n = rw (← e)

module _ {w₀ grid w : List ℕ} {i : ℕ} (h : Entered w₀ grid i w) where
  closed : {r : ℕ} {left : List ℕ} → left ≡ w
      → Ahead i (record { archive = read w; inserted = 0; stop = r }) (filled (read w₀) (grid_trials grid))
      → Fills w₀ (grid_trials grid) (record { refusal = 0; inserted = i; stop = r }) left
  closed e end =
      record {
        answer = ap₂ (λ n k. record { refusal = 0; inserted = n; stop = k }) (let c : i ≡ (filled (read w₀) (grid_trials grid)).inserted = omega (arith, end.count) in c) (sym end.stop);
        words = e ∙ fills w₀ w (grid_trials grid) h.passes h.front h.behinds end.archives;
      }

  next : i < length grid / 4 → trials_from (length grid / 4 - i) (drop (4 * i) grid) ≡ grid_trial (drop (4 * i) grid) ∷ trials_from (length grid / 4 - (i + 1)) (drop (4 * (i + 1)) grid)
  unfolding trials_from
  next l =
      let one : length grid / 4 - i ≡ suc (length grid / 4 - (i + 1)) = omega arith in
      let four : 4 * i + 4 ≡ 4 * (i + 1) = omega arith in
      rw (one, drop-drop 4 (4 * i) grid, four)

  -- The trial next due.
  module _ {t : Trial} {r : ℕ} {left : List ℕ} (l : i < length grid / 4) (is : t ≡ grid_trial (drop (4 * i) grid)) (e : Enters w t r left) where
    due : trials_from (length grid / 4 - i) (drop (4 * i) grid) ≡ t ∷ trials_from (length grid / 4 - (i + 1)) (drop (4 * (i + 1)) grid)
    due = rw is (next l)

    pub entered_more : r ≡ 0 → length left ≡ length w → Entered w₀ grid (i + 1) left
    entered_more none long =
        let passes = sym e.judged ∙ none in
        let now = entered_read w left t h.passes passes (e.done none) in
        record {
          upto = omega (arith, l);
          same = long ∙ h.same;
          passes = entered_passes w left t h.passes passes (e.done none);
          front = ap (λ a. a.front) now ∙ h.front;
          behinds = entered_behind w left t h.passes passes (e.done none) ∙ h.behinds;
          left = due_next (read w) t _ i _ passes now (subst (λ ts. Ahead i (filled (read w) ts) (filled (read w₀) (grid_trials grid))) due h.left);
        }

    pub entered_stop : (r ≡ 0 → ⊥) → Fills w₀ (grid_trials grid) (record { refusal = 0; inserted = i; stop = r }) left
    entered_stop n =
        closed (e.refused n) (subst (λ g. Ahead i g (filled (read w₀) (grid_trials grid))) (ap (filled (read w)) due ∙ stopped (read w) t _ r e.judged n) h.left)

  pub entered_all : length grid / 4 ≤ i → Fills w₀ (grid_trials grid) (record { refusal = 0; inserted = length grid / 4; stop = 0 }) w
  unfolding trials_from filled
  entered_all l =
      let all : i ≡ length grid / 4 = omega (arith, l, h.upto) in
      let none : length grid / 4 - i ≡ 0 = omega (arith, l) in
      rw (← all)
      (closed refl (subst (λ n. Ahead i (filled (read w) (trials_from n (drop (4 * i) grid))) (filled (read w₀) (grid_trials grid))) none h.left))
