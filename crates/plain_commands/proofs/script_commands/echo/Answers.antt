use Rattle.std.proofs.Common.{refl}
use Rattle.nova_machine.specs.Comes.{output}
use Rattle.plain_commands.proofs.ScriptLemmas.{echo-does}
use Rattle.plain_commands.proofs.script_commands.echo.Goals as goal

pub returns-clause-told : goal.returns-clause-told
returns-clause-told g c = λ live heard.
    echo-does live c.args.text.now c.put_line-printed.result c.told_or_console.result g.S.Sink.tells (output (g.S.Sink.written c.args.out.now) heard) (output (g.S.Sink.written c.put_line-printed.new.out) heard)
    c.told_or_console.ensures c.put_line-printed.ensures.told refl
