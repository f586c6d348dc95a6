-- What the program leaves is in range.
use Rattle.std.proofs.Common.{inl, inr, ℕ, List, drop, sym, subst}
use Rattle.observations.specs.Observations.{StandsAt, Trace}
use Rattle.observations.proofs.CutLemmas.{cut-state}
use Rattle.observations.proofs.MadeLemmas.{stands-mapped}
use Rattle.file_traits.specs.Lists.{NamedBytes}
use Rattle.file_commands.specs.Notes.{Note}
use Rattle.host_lines.specs.Traffic.{Ahead}
use Rattle.command_laws.specs.Valid.{ValidLive}
use Rattle.scp_script.specs.Session.{State, trace}
use Rattle.script_laws.proofs.ValidSessions.{sessions-stay-valid}
use Rattle.command_words.specs.Standard.{IsStandard}
use Rattle.command_words.specs.Words.{options_of}
use Rattle.nova_top.specs.Outside.{Outside, Left, left_by, opening, trace_from, whole_trace, trace_of, outcome}
use Rattle.program_start.specs.Start.{Start, Refused, Begins, start_of}
use Rattle.nova_top.specs.Valid.{AreHandedBytes}
use Rattle.program_laws.specs.Valid.{ValidLeft, ProgramStaysValid}
use Rattle.nova_top.proofs.ValidProgram.{IsGoodStart, good-start, opening-good, program-begins-valid}
use Rattle.unit_trait.specs.Calls.{UnitState}

left-valid : (s : State) → ValidLive s.live → ValidLeft (left_by s)
left-valid s is = record { machine = is.valid.machine; lines = is.valid.lines; ahead = is.valid.ahead; files = is.valid.files }

record IsGoodTrace (t : Trace Left) : Type 0 where
  made : (at : Left) → StandsAt at t.made → ValidLeft at
  ended : ValidLeft t.ended.state

from-good : (units : List UnitState) (words : List (List ℕ)) (start : Start) (files : List NamedBytes) (ahead : Ahead) (input : List ℕ) (notes : List Note) → IsStandard units → AreHandedBytes words input files ahead → IsGoodStart start → IsGoodTrace (trace_from units words start files ahead input notes)
from-good units words (Refused status text) files ahead input notes standard handed good = record {
  made = λ at h. elim h [ inl same ↦ subst ValidLeft (sym same) (record { machine = tt; lines = tt; ahead = handed.comes; files = handed.each_file }) | inr none ↦ absurd none ];
  ended = record { machine = tt; lines = tt; ahead = handed.comes; files = handed.each_file };
}
from-good units words (Begins options keys script) files ahead input notes standard handed good =
    let s = opening units words options keys script files ahead input notes in
    let valid = (opening-good units words options keys script files ahead input notes standard handed good).valid in
    record {
      made = λ at h.
          let from = stands-mapped left_by at (trace s).made h in
          subst ValidLeft (sym from.2) (left-valid from.0 (sessions-stay-valid.made s from.0 valid from.1));
      ended = left-valid (trace s).ended.state (sessions-stay-valid.ended s valid);
    }

whole-good : (units : List UnitState) (words : List (List ℕ)) (input : List ℕ) (files : List NamedBytes) (ahead : Ahead) (notes : List Note) → IsStandard units → AreHandedBytes words input files ahead → IsGoodTrace (whole_trace units words input files ahead notes)
unfolding whole_trace
whole-good units words input files ahead notes standard handed =
    let start = start_of (options_of words) words files notes in
    from-good units words start.0 files ahead input (drop start.1 notes) standard handed (good-start words files notes handed.each_file)

outcome-good : (o : Outside) → IsStandard o.units → AreHandedBytes o.words o.input o.files o.ahead → ValidLeft (outcome o).state
unfolding outcome
outcome-good o standard handed =
    let t = trace_of o in
    let good = whole-good o.units o.words o.input o.files o.ahead o.notes standard handed in
    cut-state ValidLeft t.made t.ended o.takes o.gives good.made good.ended

pub program-stays-valid : ProgramStaysValid
program-stays-valid = record { begin = program-begins-valid; left = outcome-good }
