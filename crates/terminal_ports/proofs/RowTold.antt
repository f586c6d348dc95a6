-- What is told of ports that are listened on, one behind another.
use Rattle.std.proofs.Common.{◌≡◌, ℕ, List, [], ◌∷◌, ◌++◌, append_assoc, append-nil, Err, ap, sym, subst, ◌∙◌}
use Rattle.host_lines.specs.declared.lines.ListenFault.{ListenFault}
use Rattle.host_lines.specs.declared.lines.ListenFault.TheVariants as listen
use Rattle.host_lines.specs.Traffic.{Answer, Quiet, Failed, Ahead, Replied, replied, listening}
use Rattle.host_lines.specs.Told.{Told, Gives, IsFirst, record_in, ahead_of}
use Rattle.host_lines.specs.LineCalls.{Listens}
use Rattle.terminal_ports.specs.Listening.{unless_failed, listening_each, TellsEach}

-- ---- records grow

first-same : (answers : List Answer) → IsFirst answers answers
first-same answers = ([], sym (append-nil answers))

first-through : (a b c : List Answer) → IsFirst a b → IsFirst b c → IsFirst a c
first-through a b c one two = (one.0 ++ two.0, two.1 ∙ ap (λ (l : List Answer). l ++ two.0) one.1 ∙ append_assoc a one.0 two.0)

pub tells-grows : (ports : List ℕ) (old new : Told) → TellsEach ports old new → IsFirst (record_in old) (record_in new)
tells-grows [] old new same = subst (λ (t : Told). IsFirst (record_in old) (record_in t)) (sym same) (first-same (record_in old))
tells-grows (port ∷ ports) old new (mid, (gives, later)) = first-through (record_in old) (record_in mid) (record_in new) gives.grows (tells-grows ports mid new later)

pub listens-grows : (fault : ListenFault) (old new : Told) → Listens old new (Err fault) → IsFirst (record_in old) (record_in new)
listens-grows listen.Failed old new gives = gives.grows
listens-grows listen.OutOfMemory old new same = subst (λ (t : Told). IsFirst (record_in old) (record_in t)) (sym same) (first-same (record_in old))

-- ---- what they say

pub unless-said : (said : Replied) (answer : Answer) (ahead : Ahead) (more : Ahead → Replied) → said ≡ replied answer ahead
    → unless_failed said.answer said.ahead more ≡ unless_failed answer ahead more
unless-said said answer ahead more is = ap (λ (r : Replied). unless_failed r.answer r.ahead more) is

-- all are listened on
pub each-said : (ports : List ℕ) (old new : Told) (whole : List Answer) → TellsEach ports old new → IsFirst (record_in new) whole
    → listening_each ports (ahead_of old whole) ≡ replied Quiet (ahead_of new whole)
unfolding listening_each
each-said [] old new whole same first = ap (λ (t : Told). replied Quiet (ahead_of t whole)) (sym same)
each-said (port ∷ ports) old new whole (mid, (gives, later)) first =
    unless-said (listening (ahead_of old whole)) Quiet (ahead_of mid whole) (listening_each ports)
    (gives.gives whole (first-through (record_in mid) (record_in new) whole (tells-grows ports mid new later) first))
    ∙ each-said ports mid new whole later first

-- one failed behind those before it
pub failed-said : (before behind : List ℕ) (refused : ℕ) (old mid new : Told) (whole : List Answer) → TellsEach before old mid → Gives mid new listening Failed → IsFirst (record_in new) whole
    → listening_each (before ++ (refused ∷ behind)) (ahead_of old whole) ≡ replied Failed (ahead_of new whole)
unfolding listening_each
failed-said [] behind refused old mid new whole same gives first =
    ap (λ (t : Told). listening_each (refused ∷ behind) (ahead_of t whole)) (sym same)
    ∙ unless-said (listening (ahead_of mid whole)) Failed (ahead_of new whole) (listening_each behind) (gives.gives whole first)
failed-said (port ∷ before) behind refused old mid new whole (next, (one, later)) gives first =
    unless-said (listening (ahead_of old whole)) Quiet (ahead_of next whole) (listening_each (before ++ (refused ∷ behind)))
    (one.gives whole (first-through (record_in next) (record_in new) whole
    (first-through (record_in next) (record_in mid) (record_in new) (tells-grows before next mid later) gives.grows) first))
    ∙ failed-said before behind refused next mid new whole later gives first
