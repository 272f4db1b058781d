-- The counts to meet (document 01, "Counts to meet"): one table, of the definitions that the contracts cite. Those
-- with * are to be proved; 10 stands here too.
use Rattle.std.specs.Prelude.{ℕ, ◌≡◌, List, ◌∷◌, [], replicate}
use Rattle.words.specs.Archive.{Shape}
use Rattle.words.specs.Layout.{word, read, extent}
use Rattle.calls.specs.Calls.{row_of}
use Rattle.calls.specs.Lent
use Rattle.calls.specs.Lent.{trial_of}

-- A call or a question put to an archive's words.
pub data Step : Type 0 where
  insert : (number x y z : ℕ) → Step
  remove : (number : ℕ) → Step
  reduce : (k rule : ℕ) (log : List ℕ) → Step
  least : (rule : ℕ) → Step
  joint : (m n : ℕ) → Step
  gain : (x y z : ℕ) → Step
  share : Step
  total : Step
  contribution : (number : ℕ) → Step

-- The words after it.
unfoldable pub step_words : Step → List ℕ → List ℕ
step_words (insert n x y z) w = (Lent.insert w (trial_of n x y z)).words
step_words (remove n) w = (Lent.remove w n).words
step_words (reduce k rule log) w = (Lent.reduce w k rule log).words
step_words (least rule) w = w
step_words (joint m n) w = w
step_words (gain x y z) w = w
step_words share w = w
step_words total w = w
step_words (contribution n) w = w

-- What comes out: of a call the refusal and then its answer, of a reduction the log too; the kept total; a kept
-- contribution.
unfoldable pub step_answer : Step → List ℕ → List ℕ
step_answer (insert n x y z) w = (Lent.insert w (trial_of n x y z)).refusal ∷ []
step_answer (remove n) w = (Lent.remove w n).refusal ∷ []
step_answer (reduce k rule log) w =
    (Lent.reduce w k rule log).refusal ∷ (Lent.reduce w k rule log).value ∷ (Lent.reduce w k rule log).log
step_answer (least rule) w =
    (Lent.least w rule).refusal ∷ (Lent.least w rule).number ∷ (Lent.least w rule).contribution ∷ []
step_answer (joint m n) w = (Lent.joint w m n).refusal ∷ (Lent.joint w m n).value ∷ []
step_answer (gain x y z) w =
    (Lent.gain_answer w (trial_of 0 x y z)).refusal
    ∷ (Lent.gain_answer w (trial_of 0 x y z)).value ∷ []
step_answer share w = (Lent.share w).refusal ∷ (Lent.share w).value ∷ []
step_answer total w = word w 5 ∷ []
step_answer (contribution n) w = (row_of n (read w).rows).kept ∷ []

-- A step and what must come out.
pub data Line : Type 0 where
  gives : Step → List ℕ → Line

unfoldable pub answers : List ℕ → List Line → List (List ℕ)
answers w [] = []
answers w (gives s a ∷ lines) = step_answer s w ∷ answers (step_words s w) lines

unfoldable pub asked : List Line → List (List ℕ)
asked [] = []
asked (gives s a ∷ lines) = a ∷ asked lines

-- A row of the table: a capacity and a reference, then the steps in turn from an archive just started.
pub data Star : Type 0 where
  star : Shape → List Line → Star

unfoldable pub Met : Star → Type 0
Met (star s lines) =
    answers (Lent.start (replicate (extent s.capacity) 0) s).words lines ≡ asked lines

unfoldable pub AllMet : List Star → Type 0
AllMet [] = Unit {0}
AllMet (row ∷ rows) = Met row × AllMet rows

-- "Reference (4, 4, 4), capacity 8, unless said."
unfoldable pub usual : Shape
usual = record { capacity = 8; rx = 4; ry = 4; rz = 4 }

-- A call that is done and answers nothing more.
unfoldable pub done : Step → Line
done s = gives s (0 ∷ [])

-- The rows whose cells can be counted one by one.
unfoldable pub small : List Star
small =
    -- 1. "Empty: total 0; least gives 14."
    star usual (gives total (0 ∷ []) ∷ gives (least 0) (14 ∷ 0 ∷ 0 ∷ []) ∷ [])
    -- 2. "(0,0,0): total and contribution 64."
    ∷ star usual (done (insert 1 0 0 0) ∷ gives total (64 ∷ []) ∷ gives (contribution 1) (64 ∷ []) ∷ [])
    -- 3. "(4,0,0): accepted, contributes 0." And since document 02, W-201: "(5,0,0) is accepted and contributes 0."
    -- Least tells a trial that contributes 0 from none held.
    ∷ star usual
    (done (insert 1 4 0 0) ∷ gives (contribution 1) (0 ∷ []) ∷ gives (least 0) (0 ∷ 1 ∷ 0 ∷ []) ∷ [])
    ∷ star usual
    (gives (gain 5 0 0) (0 ∷ 0 ∷ [])
    ∷ done (insert 1 5 0 0)
    ∷ gives (contribution 1) (0 ∷ [])
    ∷ gives (least 0) (0 ∷ 1 ∷ 0 ∷ [])
    ∷ gives total (0 ∷ [])
    ∷ [])
    -- 4. "(1,1,1) twice, as 1 and 2: total 27, both 0. After 2 is removed, 1 has 27."
    ∷ star usual
    (done (insert 1 1 1 1)
    ∷ done (insert 2 1 1 1)
    ∷ gives total (27 ∷ [])
    ∷ gives (contribution 1) (0 ∷ [])
    ∷ gives (contribution 2) (0 ∷ [])
    ∷ done (remove 2)
    ∷ gives (contribution 1) (27 ∷ [])
    ∷ [])
    -- 5. "1 at (1,1,1), 2 at (2,2,2): total 27, contributions 19 and 0, joint 8."
    ∷ star usual
    (done (insert 1 1 1 1)
    ∷ done (insert 2 2 2 2)
    ∷ gives total (27 ∷ [])
    ∷ gives (contribution 1) (19 ∷ [])
    ∷ gives (contribution 2) (0 ∷ [])
    ∷ gives (joint 1 2) (0 ∷ 8 ∷ [])
    ∷ [])
    -- 6. "Trials 1, 2, 3 of the card: total 20, each 4; gain of (1,1,1) is 7." 7. "The same: joint of 1 and 2 is 0;
    -- with 3 removed it is 8."
    ∷ star usual
    (done (insert 1 1 2 2)
    ∷ done (insert 2 2 1 2)
    ∷ done (insert 3 2 2 1)
    ∷ gives total (20 ∷ [])
    ∷ gives (contribution 1) (4 ∷ [])
    ∷ gives (contribution 2) (4 ∷ [])
    ∷ gives (contribution 3) (4 ∷ [])
    ∷ gives (gain 1 1 1) (0 ∷ 7 ∷ [])
    ∷ gives (joint 1 2) (0 ∷ 0 ∷ [])
    ∷ done (remove 3)
    ∷ gives (joint 1 2) (0 ∷ 8 ∷ [])
    ∷ [])
    -- 8. "All four of the card, reduced to 2": by document 02, W-206, "log becomes 4, 1, 1, 4 by default, leaving trials 2 and 3
    -- with 4 each". 11. "The card's share is 328,125."
    ∷ star usual
    (done (insert 1 1 2 2)
    ∷ done (insert 2 2 1 2)
    ∷ done (insert 3 2 2 1)
    ∷ done (insert 4 1 1 3)
    ∷ gives share (0 ∷ 328125 ∷ [])
    ∷ gives (reduce 2 0 (0 ∷ 0 ∷ 0 ∷ 0 ∷ [])) (0 ∷ 2 ∷ 4 ∷ 1 ∷ 1 ∷ 4 ∷ [])
    ∷ gives total (16 ∷ [])
    ∷ gives (contribution 2) (4 ∷ [])
    ∷ gives (contribution 3) (4 ∷ [])
    ∷ [])
    -- "Under 1 the case is unchanged": "log 4, 1, 3, 4; total 16; trials 1 and 2 have 4 each."
    ∷ star usual
    (done (insert 1 1 2 2)
    ∷ done (insert 2 2 1 2)
    ∷ done (insert 3 2 2 1)
    ∷ done (insert 4 1 1 3)
    ∷ gives (reduce 2 1 (0 ∷ 0 ∷ 0 ∷ 0 ∷ [])) (0 ∷ 2 ∷ 4 ∷ 1 ∷ 3 ∷ 4 ∷ [])
    ∷ gives total (16 ∷ [])
    ∷ gives (contribution 1) (4 ∷ [])
    ∷ gives (contribution 2) (4 ∷ [])
    ∷ [])
    -- 10. "Capacity 1: a second insertion gives 8; after a removal it is accepted."
    ∷ star (record { capacity = 1; rx = 4; ry = 4; rz = 4 })
    (done (insert 1 1 1 1) ∷ gives (insert 2 2 2 2) (8 ∷ []) ∷ done (remove 1) ∷ done (insert 2 2 2 2) ∷ [])
    -- 11. "Reference (3,1,1), (1,0,0): share", and by document 02, W-204, "666,667".
    ∷ star (record { capacity = 8; rx = 3; ry = 1; rz = 1 }) (done (insert 1 1 0 0) ∷ gives share (0 ∷ 666667 ∷ []) ∷ [])
    ∷ []

-- 9. "Reference 1,048,576 on each axis, (0,0,0): total 1,152,921,504,606,846,976. Coordinate 1,048,577: 6."
unfoldable pub largest : Star
largest =
    star (record { capacity = 8; rx = 1048576; ry = 1048576; rz = 1048576 })
    (done (insert 1 0 0 0)
    ∷ gives total (1152921504606846976 ∷ [])
    ∷ gives (insert 2 1048577 0 0) (6 ∷ [])
    ∷ gives (insert 2 0 1048577 0) (6 ∷ [])
    ∷ gives (insert 2 0 0 1048577) (6 ∷ [])
    ∷ [])

unfoldable pub stars : List Star
stars = largest ∷ small
