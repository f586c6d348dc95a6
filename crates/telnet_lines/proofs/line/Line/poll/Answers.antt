use Rattle.std.proofs.Common.{◌≡◌, ◌∙◌, ap, sym, subst, ℕ, None, Option}
use Rattle.telnet_lines.specs.Line.{LineOf, unconnected, first_key, key_taken}
use Rattle.telnet_lines.specs.Joined.{Polls, Sends, KeepsOthers, KeepsParties}
use Rattle.telnet_lines.proofs.Polling.{Steps, polls, keeps_both, keeps_with_key}
use Rattle.telnet_lines.proofs.Apart.{keeps_through, keeps_with_key as keeps_callers}
use Rattle.telnet_lines.proofs.line.Line.poll.Goals as goal

pub returns-clause-told : goal.returns-clause-told
returns-clause-told g c = λ tells.
    let state = g.L.Lines.state in
    let s0 = state c.args.lines.now in
    let s1 = state c.accept.new.lines in
    let s2 = state c.receive.new.lines in
    let s3 = state c.send.new.lines in
    let taken : Sends s2 (key_taken c.receive.new.self) s3 c.send.new.self =
    subst (λ (l : LineOf ℕ). Sends s2 l s3 c.send.new.self) c.take_key-key.ensures.line (c.send.ensures.told tells) in
    let steps : Steps c.args.now s0 s1 s2 s3 c.args.self.now c.accept.new.self c.receive.new.self c.send.new.self = record {
      accepts = c.accept.ensures.told tells;
      receives = c.receive.ensures.told tells;
      sends = taken;
      unheard = c.receive.ensures.sent ∙ c.accept.ensures.sent;
    } in
    subst (λ (k : Option ℕ). Polls c.args.now k s0 c.args.self.now s3 c.send.new.self) (sym c.take_key-key.ensures.key)
    (polls c.args.now s0 s1 s2 s3 c.args.self.now c.accept.new.self c.receive.new.self c.send.new.self steps)

pub returns-clause-others : goal.returns-clause-others
returns-clause-others g c =
    let state = g.L.Lines.state in
    let sends : KeepsOthers (state c.receive.new.lines) (key_taken c.receive.new.self) (state c.send.new.lines) c.send.new.self =
    subst (λ (l : LineOf ℕ). KeepsOthers (state c.receive.new.lines) l (state c.send.new.lines) c.send.new.self) c.take_key-key.ensures.line c.send.ensures.others in
    keeps_both _ _ _ _ _ _ c.accept.ensures.others (keeps_both _ _ _ _ _ _ c.receive.ensures.others (keeps_with_key _ _ _ _ sends))

pub returns-clause-parties : goal.returns-clause-parties
returns-clause-parties g c = λ tells.
    let state = g.L.Lines.state in
    let sends : KeepsParties (state c.receive.new.lines) (key_taken c.receive.new.self) (state c.send.new.lines) c.send.new.self =
    subst (λ (l : LineOf ℕ). KeepsParties (state c.receive.new.lines) l (state c.send.new.lines) c.send.new.self) c.take_key-key.ensures.line (c.send.ensures.parties tells) in
    keeps_through _ _ _ _ _ _ (c.accept.ensures.parties tells) (keeps_through _ _ _ _ _ _ (c.receive.ensures.parties tells) (keeps_callers _ _ _ _ sends))

pub returns-clause-idle : goal.returns-clause-idle
returns-clause-idle g c = λ portless.
    let one = c.accept.ensures.idle portless in
    let two = c.receive.ensures.idle (ap (λ (l : LineOf ℕ). l.connection) one.0) in
    let received : c.receive.new.self ≡ unconnected None = two.0 ∙ one.0 in
    let taken : c.take_key-key.new.self ≡ unconnected None = c.take_key-key.ensures.line ∙ ap key_taken received in
    let three = c.send.ensures.idle (ap (λ (l : LineOf ℕ). l.connection) taken) in (
      c.take_key-key.ensures.key ∙ ap (λ (l : LineOf ℕ). first_key l.keys) received,
      three.0 ∙ taken,
      three.0 ∙ taken ∙ sym one.0 ∙ one.1,
      three.1 ∙ two.1 ∙ one.2,
    )

pub returns-clause-waiting : goal.returns-clause-waiting
returns-clause-waiting g c = λ some.
    let one = c.accept.ensures.waiting some in
    let two = c.receive.ensures.waiting (λ none. some (ap (λ (l : LineOf ℕ). l.keys) (sym one) ∙ none)) in
    c.take_key-key.ensures.key ∙ ap (λ (l : LineOf ℕ). first_key l.keys) (two ∙ one)
