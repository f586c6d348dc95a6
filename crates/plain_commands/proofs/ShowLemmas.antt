-- SHOW speaks of no file's number.
use Rattle.std.proofs.Common.{◌≡◌, ◌∙◌, ℕ, Bool, true, false, IsTrue, List, [], ◌∷◌, ◌++◌, codes, option_map, append_assoc, Option, Some, None, Result, Err, refl, ap, sym, subst, if◌then◌else◌}
use Rattle.std.proofs.Math.ListN.{get_or-map}
use Rattle.file_traits.specs.Streams.{Puts}
use Rattle.unit_trait.specs.declared.kind.UnitName.{UnitName}
use Rattle.unit_files.specs.Attachments.{Attachment, Held, file_place, held_at, read_only_of, read_only_at, attachments_of, attachment_at}
use Rattle.expect_actions.specs.Watch.{WatchState}
use Rattle.nova_machine.specs.Machine.{MachineState}
use Rattle.nova_machine.specs.Seen.{seen, beside}
use Rattle.scp_parser.specs.declared.command.Shown.TheVariants.{Time, Cpu, Queue, Break, Expect, Send, Version, Unit as AUnit}
use Rattle.nova_machine.specs.Comes.{Output}
use Rattle.command_session.specs.declared.next.Next.TheVariants.{Go}
use Rattle.command_session.specs.declared.fault.CommandFault.TheVariants.{NoSuchName}
use Rattle.command_session.specs.Live.{standing, Beyond}
use Rattle.command_session.specs.Reply.{Answer, says, refused}
use Rattle.command_session.specs.LineEffects.{is_terminal, show_ports}
use Rattle.command_session.specs.FileEffects.{lacks_unit, attachment_text, unit_line, unit_text}
use Rattle.plain_commands.specs.WatchTexts.{breaks_text, expects_text, sends_text}
use Rattle.plain_commands.specs.ShowEffects.{time_text, cpu_text, version_text, queue_text, show_reply}
use Rattle.command_session.specs.Doing.{Does, told_or_console}
use Rattle.command_session.proofs.ReplyLemmas.{says-does, refused-said}
use Rattle.nova_machine.proofs.Serving.{erased-attached as unnumbered-attachments}

-- a unit's attachment, by the name of its file and whether it is only read
pub attachment-is : (slots : List (Option Held)) (unit : UnitName) (name : List ℕ) (read_only : Bool) → Some name ≡ option_map (λ (h : Held). h.attachment.name) (held_at slots unit)
    → read_only ≡ read_only_at slots unit → attachment_at (attachments_of slots) unit ≡ Some (record { name = name; read_only = read_only })
attachment-is slots unit name read_only named reads =
    get_or-map (λ (slot : Option Held). option_map (λ (h : Held). h.attachment) slot) slots (file_place unit) None ∙ by-slot (held_at slots unit) named reads
  where
    by-slot : (slot : Option Held) → Some name ≡ option_map (λ (h : Held). h.attachment.name) slot → read_only ≡ read_only_of slot
        → option_map (λ (h : Held). h.attachment) slot ≡ Some (record { name = name; read_only = read_only })
    by-slot None named reads = absurd (cc)
    by-slot (Some h) named reads =
        let same : name ≡ h.attachment.name = cc in
        ap (λ (n : List ℕ). Some (record { name = n; read_only = h.attachment.read_only })) (sym same) ∙ ap (λ (b : Bool). Some (record { name = name; read_only = b })) (sym reads)

-- the line of a file that is only read, as it is put together
pub read_only-line : (name file : List ℕ) → name ++ (codes ", attached to " ++ (file ++ (codes ", read only" ++ 10 ∷ [])))
    ≡ name ++ attachment_text (Some (record { name = file; read_only = true })) ++ 10 ∷ []
read_only-line name file =
    let words = codes ", attached to " in
    let end = codes ", read only" in
    ap (λ (t : List ℕ). name ++ (words ++ t)) (sym (append_assoc file end (10 ∷ []))) ∙ ap (λ (t : List ℕ). name ++ t) (sym (append_assoc words (file ++ end) (10 ∷ [])))
    ∙ sym (append_assoc name (words ++ (file ++ end)) (10 ∷ []))

pub time-does : {T E : Type 0} (m : MachineState) (watch : WatchState) (keys : List (ℕ × ℕ)) (files : Beyond) (printed : Result T E) (answer : Answer) (tells : Bool) (before after : Output)
    → answer ≡ told_or_console printed Go → (IsTrue tells → Puts before.console (time_text m) printed after.console) → after.heard ≡ before.heard
    → Does (show_reply (seen (beside watch keys files.files files.lines) files.whole m) Time) answer (standing 0 (seen (beside watch keys files.files files.lines) files.whole m)) tells before after
unfolding show_reply
time-does m watch keys files printed answer tells before after is puts quiet = says-does (time_text m) (seen (beside watch keys files.files files.lines) files.whole m) printed answer tells before after is puts quiet

pub cpu-does : {T E : Type 0} (m : MachineState) (watch : WatchState) (keys : List (ℕ × ℕ)) (files : Beyond) (printed : Result T E) (answer : Answer) (tells : Bool) (before after : Output)
    → answer ≡ told_or_console printed Go → (IsTrue tells → Puts before.console (cpu_text m) printed after.console) → after.heard ≡ before.heard
    → Does (show_reply (seen (beside watch keys files.files files.lines) files.whole m) Cpu) answer (standing 0 (seen (beside watch keys files.files files.lines) files.whole m)) tells before after
unfolding show_reply
cpu-does m watch keys files printed answer tells before after is puts quiet = says-does (cpu_text m) (seen (beside watch keys files.files files.lines) files.whole m) printed answer tells before after is puts quiet

pub version-does : {T E : Type 0} (m : MachineState) (watch : WatchState) (keys : List (ℕ × ℕ)) (files : Beyond) (printed : Result T E) (answer : Answer) (tells : Bool) (before after : Output)
    → answer ≡ told_or_console printed Go → (IsTrue tells → Puts before.console version_text printed after.console) → after.heard ≡ before.heard
    → Does (show_reply (seen (beside watch keys files.files files.lines) files.whole m) Version) answer (standing 0 (seen (beside watch keys files.files files.lines) files.whole m)) tells before after
unfolding show_reply
version-does m watch keys files printed answer tells before after is puts quiet = says-does version_text (seen (beside watch keys files.files files.lines) files.whole m) printed answer tells before after is puts quiet

pub queue-does : {T E : Type 0} (m : MachineState) (watch : WatchState) (keys : List (ℕ × ℕ)) (files : Beyond) (printed : Result T E) (answer : Answer) (tells : Bool) (before after : Output)
    → answer ≡ told_or_console printed Go → (IsTrue tells → Puts before.console (queue_text m.events) printed after.console) → after.heard ≡ before.heard
    → Does (show_reply (seen (beside watch keys files.files files.lines) files.whole m) Queue) answer (standing 0 (seen (beside watch keys files.files files.lines) files.whole m)) tells before after
unfolding show_reply
queue-does m watch keys files printed answer tells before after is puts quiet = says-does (queue_text m.events) (seen (beside watch keys files.files files.lines) files.whole m) printed answer tells before after is puts quiet

pub breaks-does : {T E : Type 0} (m : MachineState) (watch : WatchState) (keys : List (ℕ × ℕ)) (files : Beyond) (printed : Result T E) (answer : Answer) (tells : Bool) (before after : Output)
    → answer ≡ told_or_console printed Go → (IsTrue tells → Puts before.console (breaks_text watch.breaks.list) printed after.console) → after.heard ≡ before.heard
    → Does (show_reply (seen (beside watch keys files.files files.lines) files.whole m) Break) answer (standing 0 (seen (beside watch keys files.files files.lines) files.whole m)) tells before after
unfolding show_reply
breaks-does m watch keys files printed answer tells before after is puts quiet =
    says-does (breaks_text watch.breaks.list) (seen (beside watch keys files.files files.lines) files.whole m) printed answer tells before after is puts quiet

pub expects-does : {T E : Type 0} (m : MachineState) (watch : WatchState) (keys : List (ℕ × ℕ)) (files : Beyond) (printed : Result T E) (answer : Answer) (tells : Bool) (before after : Output)
    → answer ≡ told_or_console printed Go → (IsTrue tells → Puts before.console (expects_text watch.expects.list) printed after.console) → after.heard ≡ before.heard
    → Does (show_reply (seen (beside watch keys files.files files.lines) files.whole m) Expect) answer (standing 0 (seen (beside watch keys files.files files.lines) files.whole m)) tells before after
unfolding show_reply
expects-does m watch keys files printed answer tells before after is puts quiet =
    says-does (expects_text watch.expects.list) (seen (beside watch keys files.files files.lines) files.whole m) printed answer tells before after is puts quiet

pub sends-does : {T E : Type 0} (m : MachineState) (watch : WatchState) (keys : List (ℕ × ℕ)) (files : Beyond) (printed : Result T E) (answer : Answer) (tells : Bool) (before after : Output)
    → answer ≡ told_or_console printed Go → (IsTrue tells → Puts before.console (sends_text watch.sends) printed after.console) → after.heard ≡ before.heard
    → Does (show_reply (seen (beside watch keys files.files files.lines) files.whole m) Send) answer (standing 0 (seen (beside watch keys files.files files.lines) files.whole m)) tells before after
unfolding show_reply
sends-does m watch keys files printed answer tells before after is puts quiet =
    says-does (sends_text watch.sends) (seen (beside watch keys files.files files.lines) files.whole m) printed answer tells before after is puts quiet

-- a unit that can have no file here
pub unit-refused : (m : MachineState) (watch : WatchState) (keys : List (ℕ × ℕ)) (files : Beyond) (unit : UnitName) (tells : Bool) (text : Output) → is_terminal unit ≡ false → lacks_unit m unit ≡ true
    → Does (show_reply (seen (beside watch keys files.files files.lines) files.whole m) (AUnit unit)) (Err NoSuchName) (standing 0 (seen (beside watch keys files.files files.lines) files.whole m)) tells text text
unfolding show_reply
unit-refused m watch keys files unit tells text other lacks =
    let live = seen (beside watch keys files.files files.lines) files.whole m in
    subst (λ (b : Bool). Does (if b then show_ports unit.kind live else if lacks_unit m unit then refused NoSuchName live else says (unit_text live.machine unit) live) (Err NoSuchName) (standing 0 live) tells text text)
    (sym other)
    (subst (λ (b : Bool). Does (if b then refused NoSuchName live else says (unit_text live.machine unit) live) (Err NoSuchName) (standing 0 live) tells text text)
    (sym lacks) (refl, refused-said NoSuchName live tells text))

-- a unit that has ports in place of a file
pub terminal-does : (m : MachineState) (watch : WatchState) (keys : List (ℕ × ℕ)) (files : Beyond) (unit : UnitName) (answer : Answer) (tells : Bool) (before after : Output)
    → is_terminal unit ≡ true
    → Does (show_ports unit.kind (seen (beside watch keys files.files files.lines) files.whole m)) answer (standing 0 (seen (beside watch keys files.files files.lines) files.whole m)) tells before after
    → Does (show_reply (seen (beside watch keys files.files files.lines) files.whole m) (AUnit unit)) answer (standing 0 (seen (beside watch keys files.files files.lines) files.whole m)) tells before after
unfolding show_reply
terminal-does m watch keys files unit answer tells before after is does =
    let live = seen (beside watch keys files.files files.lines) files.whole m in
    subst (λ (b : Bool). Does (if b then show_ports unit.kind live else if lacks_unit m unit then refused NoSuchName live else says (unit_text live.machine unit) live) answer (standing 0 live) tells before after)
    (sym is) does

pub unit-does : {T E : Type 0} (m : MachineState) (watch : WatchState) (keys : List (ℕ × ℕ)) (files : Beyond) (unit : UnitName) (printed : Result T E) (answer : Answer) (tells : Bool) (before after : Output)
    → is_terminal unit ≡ false → lacks_unit m unit ≡ false → answer ≡ told_or_console printed Go → (IsTrue tells → Puts before.console (unit_line unit (attachment_at (attachments_of m.slots) unit)) printed after.console) → after.heard ≡ before.heard
    → Does (show_reply (seen (beside watch keys files.files files.lines) files.whole m) (AUnit unit)) answer (standing 0 (seen (beside watch keys files.files files.lines) files.whole m)) tells before after
unfolding show_reply
unit-does m watch keys files unit printed answer tells before after other has is puts quiet =
    let live = seen (beside watch keys files.files files.lines) files.whole m in
    subst (λ (b : Bool). Does (if b then show_ports unit.kind live else if lacks_unit m unit then refused NoSuchName live else says (unit_text live.machine unit) live) answer (standing 0 live) tells before after)
    (sym other)
    (subst (λ (b : Bool). Does (if b then refused NoSuchName live else says (unit_text live.machine unit) live) answer (standing 0 live) tells before after) (sym has)
    (subst (λ (l : List (Option Attachment)). Does (says (unit_line unit (attachment_at l unit)) live) answer (standing 0 live) tells before after) (sym (unnumbered-attachments m.slots))
    (says-does (unit_line unit (attachment_at (attachments_of m.slots) unit)) live printed answer tells before after is puts quiet)))
