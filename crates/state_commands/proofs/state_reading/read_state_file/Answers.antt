use Rattle.std.proofs.Common.{◌≡◌, ◌≢◌, ℕ, ◌+◌, Result, IfOk, ap, sym, subst, ◌∙◌}
use Rattle.whole_files.specs.declared.whole.WholeFault.{WholeFault}
use Rattle.whole_files.specs.Claims.{raised_by, claims_of}
use Rattle.whole_files.proofs.Counts.{calls-counted}
use Rattle.state_text.specs.declared.state_reader.StateReader.{StateReader}
use Rattle.state_commands.specs.StateReading.{WasFed, failure_of, read_failures}
use Rattle.state_commands.proofs.StateReadingLemmas.{was_fed, opened_says, failed_here, none_failed}
use Rattle.state_commands.proofs.state_reading.read_state_file.Goals as goal

pub returns-in-Ok-clause-was : goal.returns-in-Ok-clause-was
returns-in-Ok-clause-was g c =
    subst (λ (r : Result StateReader WholeFault). IfOk r (λ reader. WasFed reader)) (sym c.opened.ensures.reader) (was_fed c.read_open-read.result c.read_open-read.ensures.was)

pub returns-in-Ok-clause-said : goal.returns-in-Ok-clause-said
returns-in-Ok-clause-said g c = λ told.
    opened_says g.F.Files.tells (g.F.Files.state c.args.files.now) (g.F.Files.state c.open_file.new.self) c.args.name.now c.in-Ok.file c.read_open-read.result c.close-closing.result c.opened.result told
    c.in-Ok.ensures.opens (c.read_open-read.ensures.read told) c.close-closing.ensures.claim c.opened.ensures.reader c.opened.ensures.failed c.opened.ensures.closing

pub returns-in-Ok-clause-counts : goal.returns-in-Ok-clause-counts
returns-in-Ok-clause-counts g c = λ file.
    let old = g.F.Files.state c.args.files.now in
    let mid = g.F.Files.state c.read_open-read.new.files in
    let new = g.F.Files.state c.close-closing.new.files in
    let read = c.read_open-read.result in
    let fails = c.read_open-read.ensures.fails in
    let closing = c.close-closing.ensures.fails in
    let same : (g.F.Files.state c.open_file.new.self).faults ≡ old.faults = c.open_file.ensures.counts in
    let here = fails.counts ∙ ap (λ (f : ℕ → ℕ). raised_by (read_failures read) (f c.in-Ok.file.0)) same in
    let others = λ (other : ℕ) (not : other ≢ c.in-Ok.file.0).
    fails.others other not ∙ ap (λ (f : ℕ → ℕ). f other) same in
    calls-counted c.in-Ok.file (failure_of c.in-Ok.file read) c.close-closing.result (read_failures read) old.faults mid.faults new.faults
    (failed_here c.in-Ok.file read) (none_failed c.in-Ok.file read) c.close-closing.ensures.claim here others closing.counts closing.others file
    ∙ (λ i. raised_by (claims_of (sym c.opened.ensures.failed i) file
    + claims_of (sym c.opened.ensures.closing i) file) (old.faults file))
