use Rattle.std.proofs.Common.{◌≡◌, [], List, ap, ◌∙◌}
use Rattle.session_texts.specs.declared.texts.Texts.{Texts}
use Rattle.session_texts.specs.Scripts.{Script, first_script}
use Rattle.session_texts.specs.Reading.{ReaderState}
use Rattle.scp_script.proofs.WordLemmas.{none-first, some-first}
use Rattle.scp_script.proofs.perform_session.begin.Goals as goal
use Rattle.scp_script.proofs.perform_session.begin.Goals.{in-None, in-Some+in_ok-arguments-in-Some+in_ok-copy-in-Some}

pub returns-clause-first : goal.returns-clause-first
returns-clause-first c =
    let opening = c.args.opening.now in
    let texts : c.match-opening.texts ≡ record { actions = []; scripts = first_script opening.script opening.arguments.items } = elim c.match-opening.branch [
      | in-None w ↦ none-first c.match-opening.texts opening.script opening.arguments.items (w.texts-is ∙ c.in_ok-texts.ensures) w.in-None.is
      | in-Some+in_ok-arguments-in-Some+in_ok-copy-in-Some w ↦ some-first c.match-opening.texts c.in_ok-texts.texts w.begin.result opening.script w.in-Some.file w.in_ok-copy-in-Some.copy w.in_ok-arguments-in-Some.arguments
          opening.arguments.items w.deref.result.now (w.texts-is ∙ ap (λ (l : List Script). record c.in_ok-texts.texts { scripts = l }) w.push.ensures) c.in_ok-texts.ensures w.begin.ensures.first w.in_ok-arguments-in-Some.ensures
          w.deref.ensures.value w.in_ok-copy-in-Some.ensures w.in-Some.is
    ] in
    ap (λ (t : Texts). record { texts = t; reads = opening.reads; reader = c.new-2.result; budget = opening.budget; prompt = opening.prompt }) texts
    ∙ ap (λ (r : ReaderState). record { texts = record { actions = []; scripts = first_script opening.script opening.arguments.items }; reads = opening.reads; reader = r; budget = opening.budget; prompt = opening.prompt }) c.new-2.ensures
