-- Nothing is written back for a unit of which nothing is to be.
use Rattle.std.proofs.Common.{◌≡◌, Bool, true, false, List, Option, refl, ap, ◌∙◌}
use Rattle.std.specs.Prelude.{◌&&◌}
use Rattle.file_traits.specs.Lists.{NamedBytes}
use Rattle.unit_trait.specs.declared.kind.UnitName.{UnitName}
use Rattle.unit_files.specs.Attachments.{Attachment, is_disk}
use Rattle.unit_files.specs.Buffer.{Buffer}
use Rattle.unit_files.specs.Acts.{Failure, is_due_back}
use Rattle.unit_files.specs.InStep.{pages_flushed}
use Rattle.unit_files.proofs.FlushLaws.{flushes-leave}

-- nothing is to be written back where no sector was written, or for a unit that is not the disk
pub none-due : (unit : UnitName) (disk : Buffer) → (is_disk unit.kind ≡ true → disk.written ≡ false)
    → is_due_back unit disk ≡ false
none-due unit disk clean = by-disk (is_disk unit.kind) refl
  where
    by-disk : (b : Bool) → is_disk unit.kind ≡ b → is_due_back unit disk ≡ false
    by-disk true is = ap (λ (x : Bool). x && disk.written) is ∙ clean is
    by-disk false is = ap (λ (x : Bool). x && disk.written) is

pub none-flushed : (fails : Option Failure) (unit : UnitName) (a : Option Attachment) (disk : Buffer) (aside : List Bool)
    (files : List NamedBytes) → (is_disk unit.kind ≡ true → disk.written ≡ false)
    → pages_flushed fails unit a disk aside files ≡ files
none-flushed fails unit a disk aside files clean =
    flushes-leave.nothing fails unit a disk aside files (none-due unit disk clean)
