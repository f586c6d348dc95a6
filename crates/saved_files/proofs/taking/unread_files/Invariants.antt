use Rattle.std.proofs.Common.{◌≡◌, take}
use Rattle.unit_files.specs.Attachments.{attachments_of}
use Rattle.saved_files.specs.Putting.{files_in}
use Rattle.saved_files.specs.TakingOne.{unread_files, AreNamed}
use Rattle.saved_files.proofs.taking.unread_files.Given as goal

abbrev pub invariant-loop-place : goal.invariant-loop-place
invariant-loop-place l = record {
  files : files_in l.found.items ≡ unread_files (attachments_of l.attached.slots) (take l.place-index l.places);
  named : AreNamed (files_in l.found.items);
}
