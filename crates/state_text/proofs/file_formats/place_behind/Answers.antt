use Rattle.std.proofs.Common.{sym, ap, ◌∙◌}
use Rattle.std.specs.Prelude.{option_map}
use Rattle.saved_session.specs.Parts.{file_in}
use Rattle.state_text.specs.Rows.{place_after}
use Rattle.state_text.proofs.Lists.{last_seen}
use Rattle.state_text.proofs.file_formats.place_behind.Goals as goal

pub returns-in-Some : goal.returns-in-Some
returns-in-Some c =
    rw c.next_unit.ensures (sym (ap place_after (last_seen file_in c.args.before.now ∙ ap (option_map file_in) (sym c.in-Some.ensures.value))))
