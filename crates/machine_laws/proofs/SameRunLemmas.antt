-- Runs and turns from the same state do the same.
use Rattle.std.proofs.Common.{true, Option, Some, None, refl, sym, subst, ◌∙◌}
use Rattle.observations.specs.Observations.{text_of, sent_of}
use Rattle.nova_machine.specs.declared.machine.Stop.{Stop}
use Rattle.nova_machine.specs.declared.machine.Stop.TheVariants as stop
use Rattle.nova_machine.specs.Seen.{Seen}
use Rattle.nova_machine.specs.Parts.{Part}
use Rattle.nova_machine.specs.Turn.{turn}
use Rattle.nova_machine.specs.Run.{run}
use Rattle.nova_machine.specs.Comes.{Output, IsOwn, IsWhole, Comes}
use Rattle.machine_laws.specs.SameRun.{SameOf, SameStateSameRun}

is-whole : (p : Part) (st : Option Stop) (s : Seen) (before after : Output) → IsOwn st → Comes p st s true before after → IsWhole p st s true before after
is-whole p None s before after own c = c
is-whole p (Some stop.Halt) s before after own c = c
is-whole p (Some stop.ChainLimit) s before after own c = c
is-whole p (Some stop.UnknownDevice) s before after own c = c
is-whole p (Some (stop.Break x)) s before after own c = c
is-whole p (Some (stop.Expect x)) s before after own c = c
is-whole p (Some stop.Stepped) s before after own c = c
is-whole p (Some stop.Limit) s before after own c = c
is-whole p (Some (stop.UnitEnd x)) s before after own c = c
is-whole p (Some (stop.UnitNone x)) s before after own c = c
is-whole p (Some (stop.BadImage x y)) s before after own c = c
is-whole p (Some stop.Wru) s before after own c = c
is-whole p (Some (stop.FileFault x)) s before after own c = absurd own
is-whole p (Some stop.ConsoleFault) s before after own c = absurd own

same-of : (does : Seen → Part) → SameOf does
same-of does s t st other x y before after front behind same one two c d =
    let a = is-whole (does s) st x before after one c in
    let d' : Comes (does s) other y true front behind = subst (λ (z : Seen). Comes (does z) other y true front behind) (sym same) d in
    let b = is-whole (does s) other y front behind two d' in
    record {
      stops = a.stop_is ∙ sym b.stop_is;
      states = a.after_is ∙ sym b.after_is;
      added = text_of (does s).made;
      one = a.written refl;
      two = b.written refl;
      sent = sent_of (does s).made;
      one_heard = a.heard;
      two_heard = b.heard;
    }

pub same-state-same-run : SameStateSameRun
same-state-same-run = record { turns = λ first. same-of (turn None first); runs = λ step count. same-of (run None step count) }
