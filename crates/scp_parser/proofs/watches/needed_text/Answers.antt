use Rattle.std.proofs.Common.{ap, length, arith}
use Rattle.scp_parser.proofs.QuotedLemmas.{text_there_is}
use Rattle.scp_parser.proofs.watches.needed_text.Goals as goal
use Rattle.line_text.proofs.BlankLemmas.{past_shorter}

pub text_at-requires : goal.text_at-requires
text_at-requires c = omega (arith, past_shorter c.args.text.now, ap length c.past_blanks-past.ensures, c.requires)

pub returns-in-Some : goal.returns-in-Some
returns-in-Some c =
    text_there_is c.args.text.now c.past_blanks-past.result.now (c.in-Some.quoted.now, c.in-Some.rest.now) c.past_blanks-past.ensures c.in-Some.ensures
