use Rattle.std.proofs.Common.{sym, ap, ◌∙◌}
use Rattle.std.specs.Prelude.{option_map}
use Rattle.saved_session.specs.Parts.{break_in}
use Rattle.state_text.specs.Rows.{address_after}
use Rattle.state_text.proofs.Lists.{last_seen}
use Rattle.state_text.proofs.watch_formats.address_behind.Goals as goal

pub returns-in-Some : goal.returns-in-Some
returns-in-Some c =
    rw c.next_address.ensures (sym (ap address_after (last_seen break_in c.args.before.now ∙ ap (option_map break_in) (sym c.in-Some.ensures.value))))
