use Rattle.command_tests.proofs.state_calls.play_with.Goals as goal

pub plays-requires-clause-open : goal.plays-requires-clause-open
plays-requires-clause-open g c = c.in_ok-session.ensures.open _
