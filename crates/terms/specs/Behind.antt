-- "Words from 8 + 5 × capacity on are neither read nor written" (document 01, "The archive's words"), of every call that
-- is lent an archive slice. (Of several archives one behind the other: Fleets.)
use Rattle.std.specs.Prelude.{ℕ, suc, ◌+◌, ◌*◌, ◌≡◌, List, ◌∷◌, [], take, drop, ℤ, pos, negsuc}
use Rattle.words.specs.Archive.{Trial, Shape}
use Rattle.words.specs.Layout.{word}
use Rattle.calls.specs.declared.Answer.{Answer}
use Rattle.calls.specs.Lent
use Rattle.calls.specs.Lent.{Outcome}
use Rattle.calls.specs.Grid
use Rattle.calls.specs.Replacement
use Rattle.axes.specs.Rearranging
use Rattle.card.specs.Card
use Rattle.reports.specs.Report
use Rattle.reports.specs.Report.{reported}
use Rattle.writing.specs.Written
use Rattle.terms.specs.Loading.{card_shape}

-- A call that is lent an archive slice, with its arguments; of another lent slice the words or bytes that it holds.
pub data ArchiveCall : Type 0 where
  start : (shape : Shape) → ArchiveCall
  insert : (trial : Trial) → ArchiveCall
  insert_grid : (grid : List ℕ) → ArchiveCall
  remove : (number : ℕ) → ArchiveCall
  least : (rule : ℕ) → ArchiveCall
  reduce : (k rule : ℕ) (log : List ℕ) → ArchiveCall
  joint : (m n : ℕ) → ArchiveCall
  gain : (p : Trial) → ArchiveCall
  replace_effect : (n : ℕ) (p : Trial) → ArchiveCall
  share : ArchiveCall
  audit : ArchiveCall
  load : (card : List ℕ) → ArchiveCall
  report : (out : List ℕ) → ArchiveCall
  write_card : (out : List ℕ) → ArchiveCall
  rearrange : (order : ℕ) (second : List ℕ) → ArchiveCall

-- All that comes of a call: what it answers, the refusal number first; the archive slice after it; and the log, the output or
-- the second slice after it.
pub record Result : Type 0 where
  pub answer : List ℕ
  pub words : List ℕ
  pub other : List ℕ

-- A call that writes the archive.
unfoldable pub written : Outcome → Result
written o = record { answer = o.refusal ∷ o.value ∷ []; words = o.words; other = o.log }

-- A call that only reads.
unfoldable pub only_read : List ℕ → Answer → Result
only_read w a = record { answer = a.refusal ∷ a.value ∷ []; words = w; other = [] }

-- A number with a sign: how far it is above 0, and how far below.
unfoldable pub sides : ℤ → List ℕ
sides (pos n) = n ∷ 0 ∷ []
sides (negsuc n) = 0 ∷ suc n ∷ []

-- By the definitions that the contracts of the exported functions cite.
unfoldable pub result : ArchiveCall → List ℕ → Result
result (start s) w = written (Lent.start w s)
result (insert t) w = written (Lent.insert w t)
result (insert_grid g) w =
    record {
      answer =
          (Grid.insert_grid w g).answer.refusal ∷ (Grid.insert_grid w g).answer.inserted ∷ (Grid.insert_grid w g).answer.stop ∷ [];
      words = (Grid.insert_grid w g).words;
      other = [];
    }
result (remove n) w = written (Lent.remove w n)
result (least rule) w =
    record {
      answer = (Lent.least w rule).refusal ∷ (Lent.least w rule).number ∷ (Lent.least w rule).contribution ∷ [];
      words = w;
      other = [];
    }
result (reduce k rule log) w = written (Lent.reduce w k rule log)
result (joint m n) w = only_read w (Lent.joint w m n)
result (gain p) w = only_read w (Lent.gain_answer w p)
result (replace_effect n p) w =
    record {
      answer = (Replacement.replace_effect w n p).refusal ∷ sides (Replacement.replace_effect w n p).difference;
      words = w;
      other = [];
    }
result share w = only_read w (Lent.share w)
result audit w = only_read w (Lent.audit w)
result (load card) w =
    record {
      answer = (Card.load w card).answer.refusal ∷ (Card.load w card).answer.line ∷ (Card.load w card).answer.count ∷ [];
      words = (Card.load w card).words;
      other = [];
    }
result (report out) w =
    record {
      answer = (Report.report w out).refusal ∷ (Report.report w out).value ∷ [];
      words = w;
      other = reported w out;
    }
result (write_card out) w =
    record {
      answer = (Written.write w out).refusal ∷ (Written.write w out).value ∷ [];
      words = w;
      other = Written.written w out;
    }
result (rearrange order second) w = written (Rearranging.rearrange w order second)

-- The capacity that a call goes by: word 1; for start and the card reader "the capacity given".
unfoldable pub capacity_for : ArchiveCall → List ℕ → ℕ
capacity_for (start s) w = s.capacity
capacity_for (insert t) w = word w 1
capacity_for (insert_grid g) w = word w 1
capacity_for (remove n) w = word w 1
capacity_for (least rule) w = word w 1
capacity_for (reduce k rule log) w = word w 1
capacity_for (joint m n) w = word w 1
capacity_for (gain p) w = word w 1
capacity_for (replace_effect n p) w = word w 1
capacity_for share w = word w 1
capacity_for audit w = word w 1
capacity_for (load card) w = (card_shape card).capacity
capacity_for (report out) w = word w 1
capacity_for (write_card out) w = word w 1
capacity_for (rearrange order second) w = word w 1

-- Where the words behind begin.
unfoldable pub reach : ArchiveCall → List ℕ → ℕ
reach c w = 8 + 5 * capacity_for c w

-- The call does the same to both: its answer, its log, output or second slice, and the words before 8 + 5 × capacity.
pub record DoneAlike (c : ArchiveCall) (v w : List ℕ) : Type 0 where
  pub answer : (result c v).answer ≡ (result c w).answer
  pub words : take (reach c v) (result c v).words ≡ take (reach c v) (result c w).words
  pub other : (result c v).other ≡ (result c w).other

-- Neither read: of two slices with the same words before 8 + 5 × capacity, whatever lies behind makes no difference.
-- (Their lengths need no condition: a slice that is shorter has no words behind, so the two are then equal.) Nor written:
-- the words behind stay.
pub record WordsBehind : Type 0 where
  pub not_read : (c : ArchiveCall) (v w : List ℕ) → take (reach c v) v ≡ take (reach c v) w → DoneAlike c v w
  pub not_written : (c : ArchiveCall) (w : List ℕ) → drop (reach c w) (result c w).words ≡ drop (reach c w) w
