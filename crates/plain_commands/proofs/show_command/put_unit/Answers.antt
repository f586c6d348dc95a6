use Rattle.std.proofs.Common.{◌≡◌, ◌∙◌, ◌++◌, ◌∷◌, [], ℕ, List, Some, ap, sym, subst, rules}
use Rattle.file_traits.specs.Streams.{Puts}
use Rattle.unit_trait.specs.Kinds.{unit_name}
use Rattle.command_session.specs.FileEffects.{attachment_text, unit_line}
use Rattle.plain_commands.proofs.ShowLemmas.{attachment-is}
use Rattle.plain_commands.proofs.show_command.put_unit.Goals as goal

pub returns-in-Some-clause-told : goal.returns-in-Some-clause-told
returns-in-Some-clause-told g c = λ told.
    let before = g.S.Sink.written c.args.out.now in
    let after = g.S.Sink.written c.put_attachment.new.out in
    let unit = c.args.unit in
    let read_only = c.is_read_only-read_only.result in
    let file = c.in-Some.file.now in
    let held = attachment-is c.args.attached.now.slots unit file read_only c.in-Some.ensures.name c.is_read_only-read_only.ensures.read_only in
    let name_is : c.as_slice-in-Some.result.now ≡ unit_name unit = search rules in
    let file_is : c.as_bytes.result.now ≡ file = search rules in
    subst (λ (text : List ℕ). Puts before text c.put_attachment.result after)
    (ap (λ (name : List ℕ). name ++ attachment_text (Some (record { name = c.as_bytes.result.now; read_only = read_only })) ++ 10 ∷ []) name_is
    ∙ ap (λ (bytes : List ℕ). unit_line unit (Some (record { name = bytes; read_only = read_only }))) file_is ∙ ap (unit_line unit) (sym held))
    (c.put_attachment.ensures.told told)
