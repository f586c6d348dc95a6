-- Where a run watches for no address and no text, it leaves that so.
use Rattle.std.proofs.Common.{◌≡◌, ℕ, Bool, List, [], ◌∷◌, Option, Some, None, Result, Ok, Err, refl, ap}
use Rattle.observations.specs.Observations.{Observation}
use Rattle.unit_trait.specs.declared.kind.UnitName.{UnitName}
use Rattle.unit_trait.specs.declared.calls.Want.{Want}
use Rattle.unit_trait.specs.declared.calls.Want.TheVariants as want
use Rattle.unit_trait.specs.declared.calls.Got.{Got}
use Rattle.unit_files.specs.Acts.{Failure}
use Rattle.memory_transfer.specs.Tapes.{NoAnswer}
use Rattle.expect_actions.specs.declared.expects.Expect.{Expect}
use Rattle.expect_actions.specs.Breaks.{BreakTable, table as break_table, after_test}
use Rattle.expect_actions.specs.Expects.{ExpectTable, table, after_printed}
use Rattle.expect_actions.specs.Watch.{WatchState, empty_watch, forgotten}
use Rattle.nova_machine.specs.declared.machine.Stop.{Stop}
use Rattle.nova_machine.specs.Notes.{RunNote}
use Rattle.nova_machine.specs.Seen.{Seen}
use Rattle.nova_machine.specs.Parts.{Part, followed}
use Rattle.nova_machine.specs.Wants.{watch_after}
use Rattle.nova_machine.specs.OnLines.{Lined}
use Rattle.nova_machine.specs.Service.{replied, hosted, own_service, line_service, behind_line, lined_at, around, service, taken, want_at}
use Rattle.nova_machine.specs.Turn.{breaks_tested}
use Rattle.nova_machine.specs.Run.{run}
use Rattle.nova_machine.proofs.Walks.{OfRuns, walk-run}
use Rattle.nova_machine.proofs.EachService.{each-service}
use Rattle.nova_machine.proofs.EachLine.{lined-waits}

-- no break and no expect, and no actions of a stop; which bytes were printed, and which wait for the keyboard, is not said
pub record IsUnwatched (w : WatchState) : Type 0 where
  pub breaks : w.breaks ≡ break_table [] []
  pub expects : w.expects.list ≡ []
  pub actions : w.expects.actions ≡ []

pub empty-unwatched : IsUnwatched empty_watch
empty-unwatched = record { breaks = refl; expects = refl; actions = refl }

-- the actions of a stop are let go of
pub forgotten-unwatched : (w : WatchState) → IsUnwatched w → IsUnwatched (forgotten w)
forgotten-unwatched w is = record { breaks = ap (λ (t : BreakTable). record t { actions = [] }) is.breaks; expects = is.expects; actions = refl }

abbrev KeepsUnwatched : Seen → Part → Type 0
KeepsUnwatched s p = IsUnwatched s.watch → IsUnwatched p.after.watch

-- ---- what changes the tables

-- a byte was printed
printed-list : (byte : ℕ) (list : List Expect) (tail actions : List ℕ) → list ≡ [] → (after_printed byte (table list tail actions)).list ≡ []
printed-list byte [] tail actions none = refl
printed-list byte (e ∷ list) tail actions none = absurd (cc)

printed-actions : (byte : ℕ) (list : List Expect) (tail actions : List ℕ) → list ≡ [] → actions ≡ [] → (after_printed byte (table list tail actions)).actions ≡ []
printed-actions byte [] tail actions none quiet = quiet
printed-actions byte (e ∷ list) tail actions none quiet = absurd (cc)

wanted-unwatched : (time : ℕ) (w : Want) (watch : WatchState) → IsUnwatched watch → IsUnwatched (watch_after time w watch)
wanted-unwatched time want.Key watch is = record { breaks = is.breaks; expects = is.expects; actions = is.actions }
wanted-unwatched time (want.Console byte) watch is = record {
  breaks = is.breaks;
  expects = printed-list byte watch.expects.list watch.expects.tail watch.expects.actions is.expects;
  actions = printed-actions byte watch.expects.list watch.expects.tail watch.expects.actions is.expects is.actions;
}
wanted-unwatched time w watch is = is

-- the breaks are tested
keeps-tested : (s : Seen) → KeepsUnwatched s (breaks_tested s)
unfolding breaks_tested
keeps-tested s is = record {
  breaks = ap (λ (t : BreakTable). after_test s.machine.processor.cpu.pc t) is.breaks;
  expects = is.expects;
  actions = is.actions;
}

-- ---- a service

keeps-replied : (u : UnitName) (stop : Option Stop) (answer : Result Got NoAnswer) (s : Seen) → KeepsUnwatched s (replied u stop answer s)
keeps-replied u stop (Ok g) s is = is
keeps-replied u stop (Err why) s is = is

keeps-own : (fault : Option Failure) (u : UnitName) (s : Seen) → KeepsUnwatched s (own_service fault u s)
unfolding own_service hosted
keeps-own fault u s is = keeps-replied u _ _ (hosted fault u s) (wanted-unwatched s.machine.time (want_at u s.machine) s.watch is)

-- a byte that was put on the console line is compared with no text
keeps-line : (u : UnitName) (l : Lined) (s : Seen) → lined_at u s ≡ Some l → KeepsUnwatched s (line_service u l s)
unfolding line_service
keeps-line u l s there is =
    let t = s.watch.expects in
    let waits = lined-waits (λ (x : ExpectTable). (x.list ≡ []) × (x.actions ≡ [])) (want_at u s.machine) (around s) l (is.expects, is.actions)
    (λ byte. (printed-list byte t.list t.tail t.actions is.expects, printed-actions byte t.list t.tail t.actions is.expects is.actions)) there in
    keeps-replied u l.stop (Ok l.got) (behind_line u l s) (record { breaks = is.breaks; expects = waits.0; actions = waits.1 })

keeps-service : (fault : Option Failure) (u : UnitName) (s : Seen) → KeepsUnwatched s (service fault u (taken s))
keeps-service fault u s = each-service (KeepsUnwatched s) fault u (taken s) (keeps-own fault u (taken s)) (λ l there. keeps-line u l (taken s) there)

-- ---- a run

keeps-followed : (s : Seen) (made : List (Observation Seen)) (stop : Option Stop) (next : Seen) (goes_on : Seen → Part) → (IsUnwatched s.watch → IsUnwatched next.watch)
    → ((t : Seen) → KeepsUnwatched t (goes_on t)) → KeepsUnwatched s (followed made stop next goes_on)
keeps-followed s made (Some stop) next goes_on first more is = first is
keeps-followed s made None next goes_on first more is = more next (first is)

of-runs : OfRuns KeepsUnwatched
of-runs = record {
  turn = record {
    pieces = record {
      services = record { none = λ s is. is; both = λ s p goes_on first more. keeps-followed s p.made p.stop p.after goes_on first more; one = keeps-service };
      interrupted = λ s is. is;
      tested = keeps-tested;
    };
    fetched = λ s is. is;
  };
  over = λ s stop limit is. is;
}

pub run-unwatched : (note : Option RunNote) (step : Bool) (n : ℕ) (s : Seen) → IsUnwatched s.watch → IsUnwatched (run note step n s).after.watch
run-unwatched note step n s = walk-run KeepsUnwatched of-runs note step n s
