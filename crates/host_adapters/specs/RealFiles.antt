-- Files of the system: what contracts see of them, and how each is opened.
use Rattle.std.specs.Prelude.{ℕ, true, false, IsTrue, [], length, slice_index, Bool}
use Rattle.std.proofs.Common.{subst}
use Rattle.std.specs.declared.fs.options.OpenOptions.{OpenOptions}
use Rattle.std.specs.Fs.{new_options, with_read, with_write, with_create, with_truncate}
use Rattle.file_traits.specs.declared.files.OpenMode.{OpenMode}
use Rattle.file_traits.specs.declared.files.OpenMode.TheVariants.{Read, Update, Create}
use Rattle.host_files.specs.OpenTable.{TableState}
use Rattle.file_traits.specs.State.{FileState}

-- which are open, how often a call on each has failed, and how often an opening
pub record RealState : Type 0 where
  pub table : TableState
  pub open_faults : ℕ

-- the same, as any files are seen. Their names and bytes are not told.
abbrev pub untold_state : RealState → FileState
untold_state s = record {
  files = [];
  opened = s.table.opened;
  given = length s.table.counts;
  faults = λ k. slice_index s.table.counts k;
  open_faults = s.open_faults;
}

-- how a file is opened. A missing one is made, and an old one emptied, for Create alone.
abbrev pub options_for : OpenMode → OpenOptions
options_for Read = with_read new_options true
options_for Update = with_write (with_read new_options true) true
options_for Create = with_truncate (with_create (with_write (with_read new_options true) true) true) true

abbrev If : Bool → Type 0 → Type 0
If true t = t
If false t = Unit {0}

-- whatever is said of told files holds of these
pub untold : {t : Type 0} → IsTrue false → t
untold {t = t} tells = subst (λ b. If b t) tells tt
