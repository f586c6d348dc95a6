use Rattle.std.proofs.Common.{sym, subst}
use Rattle.unit_files.specs.Attachments.{IsFileName, file_place}
use Rattle.unit_files.specs.View.{held_of}
use Rattle.unit_files.proofs.attached.Attached.name_of.Goals as goal

pub returns-in-Some-clause-file_name : goal.returns-in-Some-clause-file_name
returns-in-Some-clause-file_name c =
    subst IsFileName (sym c.as_str.ensures.value)
    (c.unit_file.ensures.names.names (file_place c.args.unit) (held_of c.in-Some.held.now) (sym c.in-Some.ensures.held))
