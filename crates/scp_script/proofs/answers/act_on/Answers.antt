use Rattle.std.proofs.Common.{List, ℕ, refl, ap, sym, ◌∙◌}
use Rattle.session_texts.specs.Actions.{texts_of, text_of_stop, put_first, overflows}
use Rattle.scp_script.proofs.ActionLemmas.{taken-fits, refused-overflows, put-taken, put-refused, quiet-taken, said-refused}
use Rattle.scp_script.proofs.answers.act_on.Goals as goal

pub returns-in-Ok-clause-told : goal.returns-in-Ok-clause-told
returns-in-Ok-clause-told g c =
    let waiting = c.args.texts.now.actions in
    let fits = taken-fits c.actions_of.result.now waiting c.in-Ok.ensures.full.1 in
    quiet-taken (text_of_stop c.args.stop c.args.watch.now) waiting g.S.Sink.tells (g.S.Sink.written c.args.out.now)
    (ap (λ (t : List ℕ). overflows t waiting) (sym c.actions_of.ensures.text) ∙ fits)

pub returns-in-Ok-clause-texts : goal.returns-in-Ok-clause-texts
returns-in-Ok-clause-texts g c =
    let waiting = c.args.texts.now.actions in
    let scripts = c.args.texts.now.scripts in
    let fits = taken-fits c.actions_of.result.now waiting c.in-Ok.ensures.full.1 in
    ap (λ (l : List (List ℕ)). texts_of l scripts)
    (c.in-Ok.ensures.ok ∙ put-taken c.actions_of.result.now waiting fits ∙ ap (λ (t : List ℕ). put_first t waiting) c.actions_of.ensures.text)

pub returns-in-Err-clause-told : goal.returns-in-Err-clause-told
returns-in-Err-clause-told g c =
    let waiting = c.args.texts.now.actions in
    let full = refused-overflows c.actions_of.result.now waiting (c.in-Err.ensures.full.0 refl) in
    said-refused (text_of_stop c.args.stop c.args.watch.now) waiting g.S.Sink.tells (g.S.Sink.written c.args.out.now) (g.S.Sink.written c.complain.new.out) c.complain.result
    (ap (λ (t : List ℕ). overflows t waiting) (sym c.actions_of.ensures.text) ∙ full) c.complain.ensures.told

pub returns-in-Err-clause-texts : goal.returns-in-Err-clause-texts
returns-in-Err-clause-texts g c =
    let waiting = c.args.texts.now.actions in
    let scripts = c.args.texts.now.scripts in
    let full = refused-overflows c.actions_of.result.now waiting (c.in-Err.ensures.full.0 refl) in
    ap (λ (l : List (List ℕ)). texts_of l scripts)
    (c.in-Err.ensures.err ∙ put-refused c.actions_of.result.now waiting full ∙ ap (λ (t : List ℕ). put_first t waiting) c.actions_of.ensures.text)
