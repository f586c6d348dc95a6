use Rattle.script_text.proofs.FillingLemmas.{filled_whole, fits}
use Rattle.script_text.specs.Filling.{filled}
use Rattle.script_text.proofs.filling.filled.Goals as goal

pub returns : goal.returns
returns c =
    let line = c.args.line.now in
    let arguments = c.args.arguments.now in
    fits 512 c.loop-place.text (filled arguments line)
    (filled_whole arguments line c.loop-place.text c.loop-place.place c.loop-place.invariant.whole
    c.loop-place-test.false)
    c.loop-place.invariant.short
