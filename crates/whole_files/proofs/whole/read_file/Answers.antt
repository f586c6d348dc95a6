use Rattle.std.proofs.Common.{◌≡◌, ◌≢◌, ℕ, ◌+◌, ap, sym, ◌∙◌}
use Rattle.whole_files.specs.Claims.{raised_by, claims_of}
use Rattle.whole_files.specs.Reading.{failures}
use Rattle.whole_files.proofs.Counts.{claims-counted}
use Rattle.whole_files.proofs.whole.read_file.Goals as goal

pub returns-in-Ok-clause-counts : goal.returns-in-Ok-clause-counts
returns-in-Ok-clause-counts g c = λ file.
    let old = g.F.Files.state c.args.files.now in
    let mid = g.F.Files.state c.read_open-read.new.files in
    let new = g.F.Files.state c.close-closing.new.files in
    let read = c.read_open-read.ensures.fails in
    let closing = c.close-closing.ensures.fails in
    let same : (g.F.Files.state c.open_file.new.self).faults ≡ old.faults = c.open_file.ensures.counts in
    let here = read.counts ∙ ap (λ (f : ℕ → ℕ). raised_by (failures c.read_open-read.result) (f c.in-Ok.file.0)) same in
    let others = λ (other : ℕ) (not : other ≢ c.in-Ok.file.0).
    read.others other not ∙ ap (λ (f : ℕ → ℕ). f other) same in
    claims-counted c.in-Ok.file c.read_open-read.result c.close-closing.result old.faults mid.faults new.faults
    c.close-closing.ensures.claim here others closing.counts closing.others file
    ∙ (λ i. raised_by (claims_of (sym c.opened.ensures.failed i) file
    + claims_of (sym c.opened.ensures.closing i) file) (old.faults file))
