use Rattle.std.proofs.Common.{◌≡◌, ℕ, IfSome, length, take, ap, sym, ◌∙◌, subst}
use Rattle.fault_counts.specs.Faults.{CountsFault}
use Rattle.file_traits.specs.declared.files.OpenMode.TheVariants.{Create}
use Rattle.file_traits.specs.FileCalls.{written_count}
use Rattle.file_traits.specs.State.{Opened}
use Rattle.whole_files.specs.declared.writing.Written.{Written}
use Rattle.whole_files.specs.Claims.{raised_by}
use Rattle.whole_files.specs.Writing.{WriteSaid, write_act, said_of_writing, claimed_in_writing, HasWriteShape, write_claims_on}
use Rattle.whole_files.proofs.WriteLemmas.{files-written, write-said, write-shape, write-counted}
use Rattle.whole_files.proofs.writing.write_file.Goals as goal

pub returns-in-Ok-clause-said : goal.returns-in-Ok-clause-said
returns-in-Ok-clause-said g c = λ told.
    let old = g.F.Files.state c.args.files.now in
    let made = g.F.Files.state c.open_file.new.self in
    let mid = g.F.Files.state c.write_at-write.new.self in
    let new = g.F.Files.state c.close-closing.new.files in
    let name = c.args.name.now in
    let bytes = c.args.bytes.now in
    let opens = c.in-Ok.ensures.opens in
    let write = c.write_at-write.result in
    let first : Opened = record { file = c.in-Ok.file.0; name = name; mode = Create } in
    let wrote =
    files-written first made.«opened» old.«opened» old.files made.files mid.files (take (written_count write bytes) bytes)
    opens.«opened» (opens.files told) c.write_at-write.ensures.files in
    subst (λ (w : Written). IfSome (said_of_writing w.answer) (λ (said : WriteSaid).
    write_act (claimed_in_writing w) name bytes old.files
    ≡ record { said = said; met = length (claimed_in_writing w); files = new.files }))
    (sym c.was_made.ensures)
    (write-said c.in-Ok.file write c.close-closing.result name bytes old.files new.files c.close-closing.ensures.claim
    (c.close-closing.ensures.files ∙ wrote))

pub returns-in-Ok-clause-shape : goal.returns-in-Ok-clause-shape
returns-in-Ok-clause-shape g c =
    subst (HasWriteShape c.args.bytes.now) (sym c.was_made.ensures)
    (write-shape c.in-Ok.file c.write_at-write.result c.close-closing.result c.args.bytes.now c.write_at-write.ensures.bound
    c.close-closing.ensures.claim)

pub returns-in-Ok-clause-counts : goal.returns-in-Ok-clause-counts
returns-in-Ok-clause-counts g c = λ file.
    let old = g.F.Files.state c.args.files.now in
    let mid = g.F.Files.state c.write_at-write.new.self in
    let new = g.F.Files.state c.close-closing.new.files in
    let counted = c.write_at-write.ensures.counted in
    let closing = c.close-closing.ensures.fails in
    let made : (g.F.Files.state c.open_file.new.self).faults ≡ old.faults = c.open_file.ensures.counts in
    write-counted c.in-Ok.file c.write_at-write.result c.close-closing.result old.faults mid.faults new.faults
    c.close-closing.ensures.claim
    (subst (λ (f : ℕ → ℕ). CountsFault (f c.in-Ok.file.0) (mid.faults c.in-Ok.file.0) c.write_at-write.result) made counted.counts)
    (λ other not. counted.others other not ∙ ap (λ (f : ℕ → ℕ). f other) made)
    closing.counts closing.others file
    ∙ ap (λ (w : Written). raised_by (write_claims_on w file) (old.faults file)) (sym c.was_made.ensures)
