use Rattle.std.proofs.Common.{refl}
use Rattle.event_queue.proofs.Schedules.{schedule, activated-scheduled, cancelled-scheduled, due-scheduled, served-scheduled, ticked-scheduled}
use Rattle.event_queue.proofs.laws.remaining_times_are_due_times.Goals as goal

pub returns : goal.returns
returns c =
    record {
      sound = schedule;
      activate = activated-scheduled;
      cancel = cancelled-scheduled;
      clear = λ now. refl;
      next = due-scheduled;
      serve = served-scheduled;
      tick = ticked-scheduled;
    }
