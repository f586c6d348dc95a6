use Rattle.std.proofs.Common.{length, sym, ap, arith}
use Rattle.script_text.proofs.StorageLemmas.{places_rise, places_within, text_there, text_missing}
use Rattle.script_text.proofs.arguments.Arguments.get.Goals as goal

pub between-requires-clause-rise : goal.between-requires-clause-rise
between-requires-clause-rise c =
    let stored = c.self.invariant in
    places_rise (length c.self.inside.bytes.items) c.self.inside.count c.args.index c.self.inside.places stored.rise
    (omega (arith, stored.room, stored.most)) c.if-index-self.true

pub between-requires-clause-within : goal.between-requires-clause-within
between-requires-clause-within c =
    let stored = c.self.invariant in
    omega (
      arith,
      places_within (length c.self.inside.bytes.items) c.self.inside.count c.args.index c.self.inside.places
          stored.rise (omega (arith, stored.room, stored.most)) c.if-index-self.true,
      ap length c.deref.ensures.value,
    )

pub returns-then-index-self : goal.returns-then-index-self
returns-then-index-self c =
    let stored = c.self.invariant in
    let there = text_there c.self.inside.bytes.items c.self.inside.places c.self.inside.count c.args.index
    c.args.self.now
    (omega (arith, stored.room, stored.most)) c.if-index-self.true c.self.view_is in
    cc (c.between.ensures, c.deref.ensures.value, there)

pub returns-else-index-self : goal.returns-else-index-self
returns-else-index-self c =
    sym (text_missing c.self.inside.bytes.items c.self.inside.places c.self.inside.count c.args.index c.args.self.now
    (omega (arith, c.self.invariant.room, c.self.invariant.most)) c.if-index-self.false c.self.view_is)
