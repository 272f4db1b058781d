-- Each write appends the text's next bytes.
use Rattle.std.proofs.Common.{rules, ◌++◌, take, sym, ap, ◌∙◌, subst}
use Rattle.std.proofs.lemmas.List.{take_rest}
use Rattle.std.proofs.Math.Seq.{take-add}
use Rattle.std.specs.Io.KnownBytes.{Appends}
use Rattle.std.proofs.KnownBytes.{Appends-trans}
use Rattle.streams.proofs.write_text.Goals as goal

pub loop-written-preserved-in-Ok : goal.loop-written-preserved-in-Ok
loop-written-preserved-in-Ok g c =
    let text = c.args.text.now in
    let front = take c.loop-written.written text in
    let joined =
    ap (λ rest. front ++ take c.in-Ok.more rest) (take_rest text c.loop-written.written) ∙ sym (take-add c.loop-written.written c.in-Ok.more text) in
    (search rules, subst (Appends _ _) joined (Appends-trans _ _ _ _ _ c.loop-written.invariant.1 c.in-Ok.ensures.bytes))
