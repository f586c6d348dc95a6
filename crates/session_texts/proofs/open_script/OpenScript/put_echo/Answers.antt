use Rattle.std.proofs.Common.{◌≡◌, true, List, ℕ, [], ◌∷◌, ◌++◌, codes, ap, sym, ◌∙◌, subst}
use Rattle.std.proofs.lemmas.Result.{err_from_is_err_and}
use Rattle.file_traits.specs.Streams.{AddsPart, Puts}
use Rattle.script_text.specs.Filling.{filled}
use Rattle.session_texts.specs.Scripts.{Script, text_of_line}
use Rattle.session_texts.proofs.EchoLemmas.{between-first, between-second, between-last, echo-on}
use Rattle.session_texts.proofs.open_script.OpenScript.put_echo.Goals as goal

pub returns-in_err-put_all-clause-told : goal.returns-in_err-put_all-clause-told
returns-in_err-put_all-clause-told g c = λ tells.
    let script = c.args.self.now in
    let on : script.echo ≡ true = sym (ap (λ (x : Script). x.echo) c.self.view_is) ∙ c.if-not-self.false in
    let before = g.S.Sink.written c.args.out.now in
    let after = g.S.Sink.written c.put_all.new.sink in
    let failed = err_from_is_err_and c.from_residual.result c.from_residual.ensures.1 in
    let part = between-first (codes "do> ") (text_of_line script) (10 ∷ []) before after (c.in_err-put_all.ensures.part tells) in
    rw failed.1 (subst (λ (t : List ℕ). AddsPart before t after) (sym (echo-on script on)) part)

pub returns-in_err-put_filled-clause-told : goal.returns-in_err-put_filled-clause-told
returns-in_err-put_filled-clause-told g c = λ tells.
    let script = c.args.self.now in
    let on : script.echo ≡ true = sym (ap (λ (x : Script). x.echo) c.self.view_is) ∙ c.if-not-self.false in
    let text : filled c.self.inside.arguments c.line.result.text.now ≡ text_of_line script =
    ap (λ (x : Script). filled x.arguments c.line.result.text.now) c.self.view_is ∙ ap (filled script.arguments) c.line.ensures.text in
    let before = g.S.Sink.written c.args.out.now in
    let mid = g.S.Sink.written c.put_all.new.sink in
    let after = g.S.Sink.written c.put_filled.new.out in
    let failed = err_from_is_err_and c.from_residual-in_err-put_filled.result c.from_residual-in_err-put_filled.ensures.1 in
    let part = between-second (codes "do> ") (text_of_line script) (10 ∷ []) before mid after (c.in_ok-put_all.ensures.all tells)
    (subst (λ (t : List ℕ). AddsPart mid t after) text (c.in_err-put_filled.ensures.told tells)) in
    rw failed.1 (subst (λ (t : List ℕ). AddsPart before t after) (sym (echo-on script on)) part)

pub returns-clause-told : goal.returns-clause-told
returns-clause-told g c = λ tells.
    let script = c.args.self.now in
    let on : script.echo ≡ true = sym (ap (λ (x : Script). x.echo) c.self.view_is) ∙ c.if-not-self.false in
    let text : filled c.self.inside.arguments c.line.result.text.now ≡ text_of_line script =
    ap (λ (x : Script). filled x.arguments c.line.result.text.now) c.self.view_is ∙ ap (filled script.arguments) c.line.ensures.text in
    let before = g.S.Sink.written c.args.out.now in
    let mid = g.S.Sink.written c.put_all.new.sink in
    let mid' = g.S.Sink.written c.put_filled.new.out in
    let after = g.S.Sink.written c.put_all-2.new.sink in
    let puts = between-last (codes "do> ") (text_of_line script) (10 ∷ []) before mid mid' after c.put_all-2.result (c.in_ok-put_all.ensures.all tells)
    (c.in_ok-put_filled.ensures.told tells ∙ ap (λ t. mid ++ t) text) (c.put_all-2.ensures.all tells) (c.put_all-2.ensures.part tells) in
    let P : List ℕ → Type 0 = λ t. Puts before t c.put_all-2.result after in
    subst P (sym (echo-on script on)) puts
