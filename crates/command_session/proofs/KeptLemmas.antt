-- A command that keeps no note, and one that does nothing to the lines.
use Rattle.std.proofs.Common.{◌≡◌, ℕ, ◌+◌, ◌&&◌, not, Bool, false, List, [], Ok, Err, refl, sym, ◌∙◌, subst, append-nil, arith}
use Rattle.file_traits.specs.State.{FileState}
use Rattle.file_commands.specs.declared.note.FaultNote.{FaultNote}
use Rattle.whole_files.specs.Claims.{raised_by}
use Rattle.file_commands.specs.Counts.{one_if}
use Rattle.file_commands.proofs.Adding.{counted-none}
use Rattle.file_commands.proofs.Exact.{exact-none}
use Rattle.nova_machine.specs.declared.machine.Stop.TheVariants.{ConsoleFault, FileFault}
use Rattle.command_session.specs.declared.next.Next.TheVariants.{Ran}
use Rattle.command_session.specs.declared.fault.CommandFault.TheVariants.{Console, OutOfMemory, NoFile, FileTooLong, FileFailed}
use Rattle.command_session.specs.declared.fault.CommandFault.TheVariants.{LoadTruncated, LoadSum, PastMemory, NotState, Version, BadDigest, BadField, Truncated, MissingUnit, Changed}
use Rattle.command_session.specs.Reply.{Answer}
use Rattle.command_session.specs.Doing.{FileCause, Keeps, KeepsOwn, IsOfPort, is_missing}
use Rattle.host_lines.specs.State.{LineState}
use Rattle.telnet_lines.specs.Line.{LineOf}
use Rattle.command_session.specs.LinesLeft.{LinesLeft}
use Rattle.command_session.proofs.PortLemmas.{left-same}
use Rattle.command_session.proofs.CountedLemmas.{all-named}

-- a command does nothing to the lines
pub lines-kept : (tells : Bool) (s : LineState) (before after : List (LineOf ℕ)) → after ≡ before → LinesLeft tells s before s after
lines-kept tells s before after same = subst (λ (ls : List (LineOf ℕ)). LinesLeft tells s before s ls) (sym same) (left-same tells s before)

abbrev pub IsOfNoFile : Answer → Type 0
IsOfNoFile (Err NoFile) = ⊥
IsOfNoFile (Err (FileFailed who)) = ⊥
IsOfNoFile (Ok (Ran (FileFault f))) = ⊥
IsOfNoFile answer = Unit {0}

pub of-no-file : (answer other : Answer) → answer ≡ other → IsOfNoFile other → IsOfNoFile answer
of-no-file answer other is own = subst (λ (a : Answer). IsOfNoFile a) (sym is) own

pub keeps-none : (number time : ℕ) (tells : Bool) (answer : Answer) (notes notes' : List FaultNote) (state : FileState) → notes' ≡ notes → IsOfNoFile answer
    → Keeps number time tells answer notes notes' state state
keeps-none number time tells answer notes notes' state none own = record {
  kept = [];
  added = none ∙ sym (append-nil notes);
  few = omega arith;
  stamped = tt;
  counted = counted-none state;
  exact = exact-none false state;
  openings = all-named 0 tells answer [] state state (no-opening answer own);
  given = omega arith;
  cause = cause answer own;
}
  where
    no-opening : (answer : Answer) → IsOfNoFile answer → state.open_faults ≡ raised_by (0 + one_if (is_missing answer && not tells)) state.open_faults
    no-opening (Err NoFile) own = absurd own
    no-opening (Err fault) own = refl
    no-opening (Ok next) own = refl

    cause : (answer : Answer) → IsOfNoFile answer → FileCause (record { command = number; time = time }) tells answer [] state state
    cause (Err NoFile) own = absurd own
    cause (Err (FileFailed who)) own = absurd own
    cause (Err FileTooLong) own = tt
    cause (Err (LoadTruncated place)) own = tt
    cause (Err (LoadSum place)) own = tt
    cause (Err (PastMemory origin)) own = tt
    cause (Err NotState) own = tt
    cause (Err (Version version)) own = tt
    cause (Err (BadDigest given found)) own = tt
    cause (Err (BadField place)) own = tt
    cause (Err Truncated) own = tt
    cause (Err MissingUnit) own = tt
    cause (Err (Changed unit)) own = tt
    cause (Err Console) own = (ConsoleFault, refl)
    cause (Err OutOfMemory) own = tt
    cause (Err fault) own = refl
    cause (Ok (Ran (FileFault f))) own = absurd own
    cause (Ok (Ran stop)) own = refl
    cause (Ok next) own = tt

pub port-no-file : (answer : Answer) → IsOfPort answer → IsOfNoFile answer
port-no-file (Err NoFile) own = own
port-no-file (Err (FileFailed who)) own = own
port-no-file (Ok (Ran (FileFault f))) own = own
port-no-file answer own = tt

-- a command that would have opened a file of its own has opened none
pub keeps-own : (number time : ℕ) (tells : Bool) (answer : Answer) (notes notes' : List FaultNote) (old new : FileState) → Keeps number time tells answer notes notes' old new
    → KeepsOwn number time tells answer notes notes' old new
keeps-own number time tells answer notes notes' old new k = record {
  kept = k.kept;
  added = k.added;
  few = k.few;
  stamped = k.stamped;
  counted = k.counted;
  exact = k.exact;
  openings = k.openings;
  given = let none = k.given in omega (arith, none);
  cause = k.cause;
}
