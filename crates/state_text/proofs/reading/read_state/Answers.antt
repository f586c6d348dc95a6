use Rattle.std.proofs.Common.{[]}
use Rattle.state_text.proofs.reading.read_state.Goals as goal

pub returns-clause-found : goal.returns-clause-found
returns-clause-found c = c.finish.ensures.found c.args.bytes.now (c.in_ok-take.ensures.fed [] c.in_ok-reader.ensures)

pub returns-clause-only : goal.returns-clause-only
returns-clause-only c = c.finish.ensures.only c.args.bytes.now (c.in_ok-take.ensures.fed [] c.in_ok-reader.ensures)

pub returns-clause-fits : goal.returns-clause-fits
returns-clause-fits c = c.finish.ensures.fits c.args.bytes.now (c.in_ok-take.ensures.fed [] c.in_ok-reader.ensures)

pub returns-clause-exact : goal.returns-clause-exact
returns-clause-exact c = c.finish.ensures.exact c.args.bytes.now (c.in_ok-take.ensures.fed [] c.in_ok-reader.ensures)
