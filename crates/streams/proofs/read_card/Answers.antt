-- Each read puts the card's next bytes behind those that stand at the input's front.
use Rattle.std.proofs.Common.{rules, ◌≡◌, ℕ, ◌+◌, ◌≤◌, List, ◌++◌, length, take, sym, ap, ◌∙◌, subst, length-take-le}
use Rattle.std.proofs.lemmas.List.{take-append-le}
use Rattle.std.proofs.Math.Seq.{take-append-add}
use Rattle.std.specs.Io.KnownBytes.{Consumes}
use Rattle.std.proofs.KnownBytes.{Consumes-trans}
use Rattle.streams.proofs.read_card.Goals as goal

front : (a n : ℕ) (old new behind : List ℕ) → a ≤ length old → n ≤ length new
    → take a old ++ take n new ≡ take (a + n) (take a old ++ (new ++ behind))
front a n old new behind within fits =
    let all = take a old ++ (new ++ behind) in
    sym (ap (λ long. take (long + n) all) (sym (length-take-le a old within)) ∙ take-append-add (take a old) (new ++ behind) n
    ∙ ap (λ l. take a old ++ l) (take-append-le n new behind fits))

pub loop-read-preserved-in-Ok : goal.loop-read-preserved-in-Ok
loop-read-preserved-in-Ok g c =
    let joined = front _ _ c.loop-read.input c.read.new.buf _ c.loop-read.invariant.0 c.in-Ok.ensures.bound.0 in
    (search rules, subst (Consumes _ _) joined (Consumes-trans _ _ _ _ _ c.loop-read.invariant.1 c.in-Ok.ensures.bytes.0))
