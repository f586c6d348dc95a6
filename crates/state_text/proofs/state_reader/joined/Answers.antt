use Rattle.std.specs.Prelude.{map}
use Rattle.saved_session.specs.Parts.{unit_in, file_in, break_in, expect_in}
use Rattle.state_text.proofs.TellLaws.{same_lists}
use Rattle.state_text.proofs.state_reader.joined.Goals as goal

pub returns : goal.returns
returns c =
    let memory = c.args.parts.1.0 in
    let units = c.args.parts.1.1.0 in
    let behind = c.args.parts.1.1.1 in
    let tables = behind.1.1 in
    same_lists memory.1.items behind.0.items tables.1.1.items (λ words agenda sends. record {
      machine = record { cpu = memory.0; words = words; units = map unit_in units.items; agenda = agenda };
      files = map file_in behind.1.0.0.items;
      ports = behind.1.0.1;
      watch = record { breaks = map break_in tables.0.0.items; expects = map expect_in tables.0.1.items; tail = tables.1.0.items; sends = sends };
    })
