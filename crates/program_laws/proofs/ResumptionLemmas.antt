-- A program that restores a session goes on as the program does that has saved it.
use Rattle.std.proofs.Common.{ℕ, suc, List, ◌++◌, drop, ap, sym, ◌∙◌}
use Rattle.observations.specs.Observations.{Observation, Trace, text_of, reads_of, sent_of}
use Rattle.host_lines.specs.Told.{ahead_of}
use Rattle.nova_machine.specs.LineChanges.{heard_with}
use Rattle.scp_script.specs.Session.{State, Session, asking, trace}
use Rattle.script_laws.specs.Resumption.{resumed, behind_save, SavedAndRestored}
use Rattle.script_laws.proofs.ValidSessions.{sessions-stay-valid}
use Rattle.script_laws.proofs.ResumptionLemmas.{saves-come, traces-saved, saved-and-restored-go-on-alike}
use Rattle.nova_top.specs.Outside.{left_by, opening}
use Rattle.nova_top.specs.Resumption.{Reaches}
use Rattle.program_laws.specs.Resumption.{Ran, IsRun, EndAlike, RestoredProgramsGoOn}
use Rattle.nova_top.proofs.ResumptionLemmas.{ends-behind, begins-valid, begins-held, resumes-saved}

alike : (one other : Ran) (front begin : List (Observation State)) (saving behind restoring present : Session) (name : List ℕ) (used : ℕ) → IsRun one → IsRun other
    → Reaches one.units one.words one.input one.old one.notes front saving → Reaches other.units other.words other.input other.old other.notes begin restoring
    → SavedAndRestored saving behind restoring present name used → EndAlike (front ++ asking saving) (begin ++ asking restoring) one other
alike one other front begin saving behind restoring present name used first second reaches comes both =
    let s = (behind_save name behind).live in
    let start = opening one.units one.words reaches.options reaches.keys reaches.script one.old.files (ahead_of one.old.lines.told one.old.whole) one.input (drop reaches.used one.notes) in
    let other_start = opening other.units other.words comes.options comes.keys comes.script other.old.files (ahead_of other.old.lines.told other.old.whole) other.input (drop comes.used other.notes) in
    let valid = sessions-stay-valid.all reaches.count start saving front (begins-valid one.units one.words one.input one.old one.notes front saving first.standard first.handed reaches) reaches.comes in
    let fresh = sessions-stay-valid.all comes.count other_start restoring begin (begins-valid other.units other.words other.input other.old other.notes begin restoring second.standard second.handed comes) comes.comes in
    let held = sessions-stay-valid.disk_all reaches.count start saving front (begins-valid one.units one.words one.input one.old one.notes front saving first.standard first.handed reaches) (begins-held one.units one.words one.input one.old one.notes front saving first.standard first.handed reaches) reaches.comes in
    let a = ends-behind one.units one.words one.input one.left one.before one.after one.old one.new one.status one.machine one.notes reaches.options reaches.keys reaches.script reaches.used (suc reaches.count) (front ++ asking saving) (behind_save name behind)
    first.outcome first.no_byte first.no_read reaches.starts (saves-come reaches.count start saving behind name front reaches.comes both.saves both.goes) in
    let b = resumes-saved other.units other.words other.input other.left other.before other.after other.old other.new other.status other.machine other.notes second.outcome second.standard second.no_byte second.no_read begin restoring present s used second.handed comes
    (saved-and-restored-go-on-alike.restores saving behind restoring present name used valid held fresh both) in
    let same = traces-saved saving behind restoring present name used both in
    record {
      statuses = a.status_is ∙ ap (λ (z : Trace State). z.ended.status) same ∙ sym b.status_is;
      states = a.is ∙ ap (λ (z : Trace State). left_by z.ended.state) same ∙ sym b.is;
      rests = a.rest ∙ ap (λ (z : Trace State). drop (reads_of z.made) behind.input) same ∙ ap (drop (reads_of (trace (resumed s used present)).made)) (sym both.outside.input) ∙ sym b.rest;
      added = text_of (trace (behind_save name behind)).made;
      first = a.printed;
      second = b.printed ∙ ap (λ (z : Trace State). other.before ++ (text_of (begin ++ asking restoring) ++ text_of z.made)) (sym same);
      sent = sent_of (trace (behind_save name behind)).made;
      first_heard = a.heard;
      second_heard = b.heard ∙ ap (λ (z : Trace State). heard_with other.old.lines.sent (sent_of (begin ++ asking restoring) ++ sent_of z.made)) (sym same);
    }

pub restored-programs-go-on : RestoredProgramsGoOn
restored-programs-go-on = record {
  restored = λ r run. resumes-saved r.units r.words r.input r.left r.before r.after r.old r.new r.status r.machine r.notes run.outcome run.standard run.no_byte run.no_read;
  alike = alike;
}
