-- The lines of SHOW BREAK and SHOW EXPECT, as they are put together.
use Rattle.std.proofs.Common.{refl}
use Rattle.plain_commands.specs.WatchTexts.{break_line, breaks_text, expect_line, expects_text}
use Rattle.plain_commands.proofs.PrintedLemmas.{AreLines}

pub breaks-are-lines : AreLines break_line breaks_text
unfolding breaks_text
breaks-are-lines = record { none = refl; more = λ b breaks. refl }

pub expects-are-lines : AreLines expect_line expects_text
unfolding expects_text
expects-are-lines = record { none = refl; more = λ e expects. refl }
