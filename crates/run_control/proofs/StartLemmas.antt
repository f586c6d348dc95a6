-- What stands before a run, and RESET.
use Rattle.std.proofs.Common.{map, ◌≡◌, ◌∙◌, ℕ, ◌&&◌, ◌^◌, nat_le, Bool, true, false, List, Option, Some, None, refl, ap, sym, subst, if◌then◌else◌}
use Rattle.file_commands.specs.Notes.{CommandNote, Note, notes_said}
use Rattle.expect_actions.specs.Watch.{WatchState}
use Rattle.telnet_lines.specs.Line.{LineOf}
use Rattle.telnet_lines.specs.Joined.{seen_line}
use Rattle.nova_machine.specs.Machine.{MachineState, attached_files, reset_machine, reset_devices}
use Rattle.nova_machine.specs.Seen.{erased, seen, beside}
use Rattle.nova_machine.specs.Comes.{Output}
use Rattle.command_session.specs.declared.fault.CommandFault.TheVariants.{OutOfRange}
use Rattle.command_session.specs.Live.{Live, CommandState, live_in, Beyond}
use Rattle.command_session.specs.Reply.{Answer, refused}
use Rattle.command_session.specs.RunEffects.{running, address_fits, starting_at, reset_where, started, run_from, stepped, step_of}
use Rattle.command_session.specs.Doing.{Did}
use Rattle.command_session.proofs.ReplyLemmas.{did-same}
use Rattle.command_session.proofs.ResetKeeps.{erased-reset_machine, reset-lines}

erased-reset_where : (resets : Bool) (m : MachineState) → reset_where resets (erased m) ≡ erased (reset_where resets m)
erased-reset_where true m = erased-reset_machine m
erased-reset_where false m = refl

erased-starting : (address : Option ℕ) (m : MachineState) → starting_at address (erased m) ≡ erased (starting_at address m)
erased-starting None m = refl
erased-starting (Some a) m = refl

reset-slots : (resets : Bool) (m : MachineState) → (reset_where resets m).slots ≡ m.slots
unfolding reset_machine reset_devices
reset-slots true m = refl
reset-slots false m = refl

starting-slots : (address : Option ℕ) (m : MachineState) → (starting_at address m).slots ≡ m.slots
starting-slots None m = refl
starting-slots (Some a) m = refl

-- what is attached stands where a machine is readied for a run
pub started-slots : (resets : Bool) (address : Option ℕ) (m : MachineState) → (starting_at address (reset_where resets m)).slots ≡ m.slots
started-slots resets address m = starting-slots address (reset_where resets m) ∙ reset-slots resets m

starting-lines : (address : Option ℕ) (m : MachineState) → (starting_at address m).lines ≡ m.lines
starting-lines None m = refl
starting-lines (Some a) m = refl

-- and so do the lines
pub started-lines : (resets : Bool) (address : Option ℕ) (m : MachineState) → (starting_at address (reset_where resets m)).lines ≡ m.lines
started-lines resets address m = starting-lines address (reset_where resets m) ∙ reset-lines resets m

-- and what the disk holds of its file
reset-files : (resets : Bool) (m : MachineState) → attached_files (reset_where resets m) ≡ attached_files m
unfolding reset_machine reset_devices
reset-files true m = refl
reset-files false m = refl

starting-files : (address : Option ℕ) (m : MachineState) → attached_files (starting_at address m) ≡ attached_files m
starting-files None m = refl
starting-files (Some a) m = refl

pub started-files : (resets : Bool) (address : Option ℕ) (m : MachineState) → attached_files (starting_at address (reset_where resets m)) ≡ attached_files m
started-files resets address m = starting-files address (reset_where resets m) ∙ reset-files resets m

-- ---- an address, and a count, that is out of range

pub run_from-refused : (limit : ℕ) (resets : Bool) (address : Option ℕ) (live : Live) → address_fits address ≡ false → (given : List CommandNote)
    → run_from limit given resets address live ≡ refused OutOfRange live
unfolding run_from
run_from-refused limit resets address live fits given = ap (λ (b : Bool). if b then running limit given (started resets address live) else refused OutOfRange live) fits

pub step-refused : (limit count : ℕ) (live : Live) → (nat_le 1 count && nat_le count (2 ^ 48)) ≡ false → (given : List CommandNote) → step_of limit given count live ≡ refused OutOfRange live
unfolding step_of
step-refused limit count live fits given = ap (λ (b : Bool). if b then stepped limit given count live else refused OutOfRange live) fits

pub step-begun : (limit count : ℕ) (live : Live) → (nat_le 1 count && nat_le count (2 ^ 48)) ≡ true → (given : List CommandNote) → step_of limit given count live ≡ stepped limit given count live
unfolding step_of
step-begun limit count live fits given = ap (λ (b : Bool). if b then stepped limit given count live else refused OutOfRange live) fits

-- ---- a run from an address

run_from-runs : (limit : ℕ) (resets : Bool) (address : Option ℕ) (watch : WatchState) (keys : List (ℕ × ℕ)) (files : Beyond) (m : MachineState) → address_fits address ≡ true → (given : List CommandNote)
    → run_from limit given resets address (seen (beside watch keys files.files files.lines) files.whole m) ≡ running limit given (seen (beside watch keys files.files files.lines) files.whole (starting_at address (reset_where resets m)))
unfolding run_from
run_from-runs limit resets address watch keys files m fits given =
    ap (λ (b : Bool). if b then running limit given (started resets address (seen (beside watch keys files.files files.lines) files.whole m)) else refused OutOfRange (seen (beside watch keys files.files files.lines) files.whole m)) fits
    ∙ ap (λ (x : MachineState). running limit given (record (seen (beside watch keys files.files files.lines) files.whole m) { machine = starting_at address x })) (erased-reset_where resets m)
    ∙ ap (λ (x : MachineState). running limit given (record (seen (beside watch keys files.files files.lines) files.whole m) { machine = x })) (erased-starting address (reset_where resets m))
    ∙ ap (λ (ls : List (LineOf ℕ)). running limit given (record (seen (beside watch keys files.files files.lines) files.whole (starting_at address (reset_where resets m))) { lines = map (seen_line files.lines) ls }))
    (sym (started-lines resets address m))

-- a run of the machine that was readied
pub started-did : (old at : CommandState) (resets : Bool) (address : Option ℕ) (files : Beyond) (answer : Answer) (new : Live) (tells : Bool) (before after : Output) (notes' : List Note)
    → at ≡ record old { machine = starting_at address (reset_where resets old.machine) } → address_fits address ≡ true
    → Did (λ given. running at.limit given (live_in at files)) at.command answer new tells before after (notes_said at.notes) notes'
    → Did (λ given. run_from old.limit given resets address (live_in old files)) old.command answer new tells before after (notes_said old.notes) notes'
started-did old at resets address files answer new tells before after notes' is fits did =
    let readied = starting_at address (reset_where resets old.machine) in
    did-same (λ given. running old.limit given (seen (beside old.watch old.keys files.files files.lines) files.whole readied)) (λ given. run_from old.limit given resets address (live_in old files)) old.command answer new tells before after
    (notes_said old.notes) notes' (run_from-runs old.limit resets address old.watch old.keys files old.machine fits)
    (subst (λ (s : CommandState). Did (λ given. running s.limit given (live_in s files)) s.command answer new tells before after (notes_said s.notes) notes') is did)
