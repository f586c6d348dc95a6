use Rattle.event_queue.proofs.SoundLists.{sound-none, sound-activated, sound-cancelled, sound-served, sound-lowered}
use Rattle.event_queue.proofs.laws.lists_stay_sound.Goals as goal

pub returns : goal.returns
returns c =
    record { none = sound-none; activate = sound-activated; cancel = sound-cancelled; serve = sound-served; tick = λ es sound. sound-lowered 1 es sound }
