-- What is saved of a session of a standard machine is valid, and puts it back once it is read.
use Rattle.std.proofs.Common.{◌≡◌, sym, subst}
use Rattle.std.specs.Prelude.{IfOk, Result}
use Rattle.nova_machine.specs.Seen.{Seen, attached_in}
use Rattle.state_text.specs.declared.fault.StateFault.{StateFault}
use Rattle.saved_session.specs.Parts.{State}
use Rattle.saved_session.specs.Valid.{Valid}
use Rattle.state_transfer.specs.Session.{saved_machine, saved}
use Rattle.state_transfer.specs.PutBack.{put_back}
use Rattle.state_transfer.specs.SavedValid.{IsStandard}
use Rattle.state_laws.specs.Laws.{SavedIsValid}
use Rattle.state_text.proofs.FitLaws.{texts-are-read}
use Rattle.state_laws.proofs.PutBackLemmas.{saving-puts-back}
use Rattle.state_laws.proofs.SavedLemmas.{machine-valid}
use Rattle.state_laws.proofs.SavedPortLemmas.{ports-valid}
use Rattle.state_laws.proofs.SavedFileLemmas.{files-valid}
use Rattle.state_laws.proofs.SavedWatchLemmas.{watch-valid}

saved-valid : (s : Seen) → IsStandard s → Valid (saved s)
unfolding saved_machine
saved-valid s is = record {
  machine = machine-valid s.machine is.valid.machine is.time is.valid.taken is.units;
  files = files-valid s.files (attached_in s.machine) is.files;
  ports = ports-valid s.machine.units s.lines is.units is.many is.ports is.apart is.numbered;
  watch = watch-valid s.watch is.valid.watch is.watch;
}

pub saved-is-valid : SavedIsValid
saved-is-valid = record {
  valid = saved-valid;
  fits = λ s is. texts-are-read.fits (saved s) (saved-valid s is);
  read = λ bytes s is text. texts-are-read.read bytes (saved s) (saved-valid s is) text;
  restored = λ bytes s present is text can files kinds lines.
      subst (λ (r : Result State StateFault). IfOk r
      (λ v. put_back v present ≡ record s { keys = present.keys; ahead = present.ahead }))
      (sym (texts-are-read.read bytes (saved s) (saved-valid s is) text)) (saving-puts-back.back s present can files kinds lines);
}
