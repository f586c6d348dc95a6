-- EXAMINE and DEPOSIT speak of no file's number.
use Rattle.std.proofs.Common.{◌≡◌, ℕ, Bool, false, List, [], ◌∷◌, ◌++◌, Option, Some, None, Result, Ok, Err, OnOk, IfErr, IsTrue, refl, ap, sym, ◌∙◌, subst, append-nil, if◌then◌else◌}
use Rattle.file_traits.specs.Streams.{AddsPart}
use Rattle.unit_trait.specs.declared.processor.CpuReg.{CpuReg}
use Rattle.unit_trait.specs.declared.processor.CpuReg.TheVariants.{Ac0, Ac1, Ac2, Ac3, C, Pc, Ion, Hold, Mask, Sr, StopDev, Size}
use Rattle.expect_actions.specs.Watch.{WatchState}
use Rattle.nova_machine.specs.Machine.{MachineState, attached_files}
use Rattle.nova_machine.specs.Registers.{register_of, with_register}
use Rattle.nova_machine.specs.Seen.{erased, seen, beside}
use Rattle.operand_forms.specs.declared.listing.Name.{Name}
use Rattle.operand_forms.specs.declared.listing.Name.TheVariants as whose
use Rattle.operand_forms.specs.declared.listing.Condition.{Condition}
use Rattle.operand_forms.specs.declared.listing.Listing.{Listing}
use Rattle.scp_examine.specs.declared.fault.ExamineFault.{ExamineFault}
use Rattle.scp_examine.specs.declared.fault.ExamineFault.TheVariants as list
use Rattle.scp_examine.specs.Shape.{shape_of}
use Rattle.scp_examine.specs.Places.{Place, Cell, Register, UnitRegister, value_at, value_text, place_name, place_text, line_of, is_chosen}
use Rattle.scp_examine.specs.Effect.{all_places, listed, examined, examine_fault, with_value, filled, deposited, fault_of_deposit, Examines, FaultIs}
use Rattle.nova_machine.specs.Comes.{Output}
use Rattle.nova_machine.proofs.Hearing.{heard-nothing}
use Rattle.command_session.specs.declared.next.Next.TheVariants.{Go}
use Rattle.command_session.specs.declared.fault.CommandFault.TheVariants.{NoSuchName}
use Rattle.command_session.specs.Live.{Live, standing, with_machine, Beyond}
use Rattle.command_session.specs.Reply.{Answer, Reply, refused}
use Rattle.plain_commands.specs.ListFaults.{list_fault}
use Rattle.plain_commands.specs.ListEffects.{lacks_device, examine_after, examine_reply, handed, deposit_after, deposit_reply}
use Rattle.command_session.specs.Doing.{Does, IsBrokenOff}
use Rattle.command_session.proofs.SeenLemmas.{seen-machine}
use Rattle.command_session.proofs.ReplyLemmas.{text-said, text-refused}

pub erased-lacks : (m : MachineState) (name : Name) → lacks_device (erased m) name ≡ lacks_device m name
erased-lacks m whose.Cpu = refl
erased-lacks m (whose.Device kind) = refl

-- ---- EXAMINE

erased-register : (m : MachineState) (r : CpuReg) → register_of (erased m) r ≡ register_of m r
erased-register m Ac0 = refl
erased-register m Ac1 = refl
erased-register m Ac2 = refl
erased-register m Ac3 = refl
erased-register m C = refl
erased-register m Pc = refl
erased-register m Ion = refl
erased-register m Hold = refl
erased-register m Mask = refl
erased-register m Sr = refl
erased-register m StopDev = refl
erased-register m Size = refl

pub erased-value : (m : MachineState) (p : Place) → value_at (erased m) p ≡ value_at m p
erased-value m (Cell a) = refl
erased-value m (Register r) = erased-register m r
erased-value m (UnitRegister kind i) = refl

erased-chosen : (m : MachineState) (c : Option Condition) (p : Place) → is_chosen (erased m) c p ≡ is_chosen m c p
erased-chosen m c (Cell a) = refl
erased-chosen m c (Register r) = refl
erased-chosen m c (UnitRegister kind i) = refl

erased-place : (m : MachineState) (symbolic : Bool) (p : Place) → place_text (erased m) symbolic p ≡ place_text m symbolic p
unfolding place_text
erased-place m symbolic p = ap (λ (v : ℕ). line_of (place_name p) (value_text symbolic p v)) (erased-value m p)

erased-listed : (m : MachineState) (symbolic : Bool) (c : Option Condition) (places : List Place) → listed (erased m) symbolic c places ≡ listed m symbolic c places
unfolding listed
erased-listed m symbolic c [] = refl
erased-listed m symbolic c (p ∷ more) =
    ap (λ (b : Bool). (if b then place_text (erased m) symbolic p else []) ++ listed (erased m) symbolic c more) (erased-chosen m c p)
    ∙ ap (λ (t : List ℕ). (if is_chosen m c p then t else []) ++ listed (erased m) symbolic c more) (erased-place m symbolic p)
    ∙ ap (λ (t : List ℕ). (if is_chosen m c p then place_text m symbolic p else []) ++ t) (erased-listed m symbolic c more)

erased-examined : (m : MachineState) (l : Listing) → examined (erased m) l ≡ examined m l
unfolding examined
erased-examined m l = erased-listed m l.symbolic l.condition (all_places (shape_of m) l.device l.items)

erased-fault : (m : MachineState) (l : Listing) → examine_fault (erased m) l ≡ examine_fault m l
unfolding examine_fault
erased-fault m l = refl

-- the answer of a list
abbrev pub list_answer : {T : Type 0} → Result T ExamineFault → Answer
list_answer (Ok x) = Ok Go
list_answer (Err fault) = Err (list_fault fault)

after-does : {T : Type 0} (m : MachineState) (l : Listing) (live : Live) (r : Result T ExamineFault) (tells : Bool) (before after : Output)
    → examined live.machine l ≡ examined m l → FaultIs (examine_fault m l) r → (IsTrue tells → Examines m l r before.console after.console) → after.heard ≡ before.heard
    → Does (examine_after (examine_fault m l) live l) (list_answer r) (standing 0 live) tells before after
after-does {T} m l live (Ok x) tells before after same fault told quiet =
    subst (λ (o : Option ExamineFault). Does (examine_after o live l) (Ok Go) (standing 0 live) tells before after) (sym fault)
    (refl, text-said (examined live.machine l) (Ok Go) (standing 0 live) tells before after (λ t. (told t).1 ∙ ap (λ (text : List ℕ). before.console ++ text) (sym same)) quiet)
after-does {T} m l live (Err list.Console) tells before after same fault told quiet =
    subst (λ (o : Option ExamineFault). IsBrokenOff (examine_after o live l) (standing 0 live) tells before after) (sym fault)
    (text-refused (examined live.machine l) (Ok Go) (standing 0 live) tells before after (λ t. subst (λ (text : List ℕ). AddsPart before.console text after.console) (sym same) (told t).1) quiet)
after-does {T} m l live (Err list.NoSuchName) tells before after same fault told quiet =
    subst (λ (o : Option ExamineFault). Does (examine_after o live l) (Err (list_fault list.NoSuchName)) (standing 0 live) tells before after) (sym fault)
    (refl, record { after_is = refl; written = λ t. (told t).1 ∙ sym (append-nil before.console); heard = quiet ∙ sym (heard-nothing before.heard) })
after-does {T} m l live (Err list.OutOfRange) tells before after same fault told quiet =
    subst (λ (o : Option ExamineFault). Does (examine_after o live l) (Err (list_fault list.OutOfRange)) (standing 0 live) tells before after) (sym fault)
    (refl, record { after_is = refl; written = λ t. (told t).1 ∙ sym (append-nil before.console); heard = quiet ∙ sym (heard-nothing before.heard) })
after-does {T} m l live (Err list.ReadOnlyName) tells before after same fault told quiet = absurd fault

-- what EXAMINE comes to, where the machine has the device
pub examine-does : {T : Type 0} (m : MachineState) (watch : WatchState) (keys : List (ℕ × ℕ)) (files : Beyond) (l : Listing) (r : Result T ExamineFault) (tells : Bool) (before after : Output)
    → lacks_device m l.device ≡ false → FaultIs (examine_fault m l) r → (IsTrue tells → Examines m l r before.console after.console) → after.heard ≡ before.heard
    → Does (examine_reply (seen (beside watch keys files.files files.lines) files.whole m) l) (list_answer r) (standing 0 (seen (beside watch keys files.files files.lines) files.whole m)) tells before after
unfolding examine_reply
examine-does m watch keys files l r tells before after there fault told quiet =
    let live = seen (beside watch keys files.files files.lines) files.whole m in
    subst (λ (b : Bool). Does (if b then refused NoSuchName live else examine_after (examine_fault (erased m) l) live l) (list_answer r) (standing 0 live) tells before after)
    (sym (erased-lacks m l.device ∙ there))
    (subst (λ (o : Option ExamineFault). Does (examine_after o live l) (list_answer r) (standing 0 live) tells before after) (sym (erased-fault m l))
    (after-does m l live r tells before after (erased-examined m l) fault told quiet))

-- ---- DEPOSIT

erased-with_register : (m : MachineState) (r : CpuReg) (v : ℕ) → with_register (erased m) r v ≡ erased (with_register m r v)
erased-with_register m Ac0 v = refl
erased-with_register m Ac1 v = refl
erased-with_register m Ac2 v = refl
erased-with_register m Ac3 v = refl
erased-with_register m C v = refl
erased-with_register m Pc v = refl
erased-with_register m Ion v = refl
erased-with_register m Hold v = refl
erased-with_register m Mask v = refl
erased-with_register m Sr v = refl
erased-with_register m StopDev v = refl
erased-with_register m Size v = refl

erased-with_value : (v : ℕ) (m : MachineState) (p : Place) → with_value v (erased m) p ≡ erased (with_value v m p)
erased-with_value v m (Cell a) = refl
erased-with_value v m (Register r) = erased-with_register m r v
erased-with_value v m (UnitRegister kind i) = refl

erased-filled : (v : ℕ) (m : MachineState) (places : List Place) → filled v (erased m) places ≡ erased (filled v m places)
unfolding filled
erased-filled v m [] = refl
erased-filled v m (p ∷ more) = ap (λ (x : MachineState). filled v x more) (erased-with_value v m p) ∙ erased-filled v (with_value v m p) more

erased-deposited : (m : MachineState) (l : Listing) (v : ℕ) → deposited (erased m) l v ≡ erased (deposited m l v)
unfolding deposited
erased-deposited m l v = erased-filled v m (all_places (shape_of m) l.device l.items)

-- what DEPOSIT leaves of a machine that it does not change
pub record Frame (old new : MachineState) : Type 0 where
  pub attached : attached_files new ≡ attached_files old
  pub time : new.time ≡ old.time
  pub lines : new.lines ≡ old.lines

register-frame : (m : MachineState) (r : CpuReg) (v : ℕ) → Frame m (with_register m r v)
register-frame m Ac0 v = record { attached = refl; time = refl; lines = refl }
register-frame m Ac1 v = record { attached = refl; time = refl; lines = refl }
register-frame m Ac2 v = record { attached = refl; time = refl; lines = refl }
register-frame m Ac3 v = record { attached = refl; time = refl; lines = refl }
register-frame m C v = record { attached = refl; time = refl; lines = refl }
register-frame m Pc v = record { attached = refl; time = refl; lines = refl }
register-frame m Ion v = record { attached = refl; time = refl; lines = refl }
register-frame m Hold v = record { attached = refl; time = refl; lines = refl }
register-frame m Mask v = record { attached = refl; time = refl; lines = refl }
register-frame m Sr v = record { attached = refl; time = refl; lines = refl }
register-frame m StopDev v = record { attached = refl; time = refl; lines = refl }
register-frame m Size v = record { attached = refl; time = refl; lines = refl }

value-frame : (v : ℕ) (m : MachineState) (p : Place) → Frame m (with_value v m p)
value-frame v m (Cell a) = record { attached = refl; time = refl; lines = refl }
value-frame v m (Register r) = register-frame m r v
value-frame v m (UnitRegister kind i) = record { attached = refl; time = refl; lines = refl }

filled-frame : (v : ℕ) (m : MachineState) (places : List Place) → Frame m (filled v m places)
unfolding filled
filled-frame v m [] = record { attached = refl; time = refl; lines = refl }
filled-frame v m (p ∷ more) =
    let first = value-frame v m p in
    let rest = filled-frame v (with_value v m p) more in
    record { attached = rest.attached ∙ first.attached; time = rest.time ∙ first.time; lines = rest.lines ∙ first.lines }

pub deposited-frame : (m : MachineState) (l : Listing) (v : ℕ) → Frame m (deposited m l v)
unfolding deposited
deposited-frame m l v = filled-frame v m (all_places (shape_of m) l.device l.items)

-- what a call of `deposit` has done
abbrev pub Deposits : {T : Type 0} → MachineState → Listing → ℕ → Result T ExamineFault → MachineState → Type 0
Deposits m l v (Ok x) new = (fault_of_deposit m l v ≡ None) × (new ≡ deposited m l v)
Deposits m l v (Err fault) new = (fault_of_deposit m l v ≡ Some fault) × (new ≡ m)

-- the parts of a reply that prints nothing
pub record IsSilent (reply : Reply) (answer : Answer) (live : Live) : Type 0 where
  pub answer_is : answer ≡ reply.answer
  pub after_is : standing 0 live ≡ reply.after
  pub silent : reply.made ≡ []

after-silent : {T : Type 0} (m new : MachineState) (watch : WatchState) (keys : List (ℕ × ℕ)) (files : Beyond) (l : Listing) (v : ℕ) (r : Result T ExamineFault) → Deposits m l v r new
    → IsSilent (deposit_after (fault_of_deposit m l v) (seen (beside watch keys files.files files.lines) files.whole m) l v) (list_answer r) (seen (beside watch keys files.files files.lines) files.whole new)
after-silent m new watch keys files l v (Ok x) done =
    subst (λ (o : Option ExamineFault). IsSilent (deposit_after o (seen (beside watch keys files.files files.lines) files.whole m) l v) (Ok Go) (seen (beside watch keys files.files files.lines) files.whole new)) (sym done.0)
    (record {
      answer_is = refl;
      after_is =
          ap (λ (x : MachineState). standing 0 (seen (beside watch keys files.files files.lines) files.whole x)) done.1
          ∙ ap (standing 0) (seen-machine (beside watch keys files.files files.lines) files.whole m (deposited m l v) (deposited-frame m l v).lines)
          ∙ ap (λ (x : MachineState). standing 0 (with_machine (seen (beside watch keys files.files files.lines) files.whole m) x)) (sym (erased-deposited m l v));
      silent = refl;
    })
after-silent m new watch keys files l v (Err fault) done =
    subst (λ (o : Option ExamineFault). IsSilent (deposit_after o (seen (beside watch keys files.files files.lines) files.whole m) l v) (Err (list_fault fault)) (seen (beside watch keys files.files files.lines) files.whole new)) (sym done.0)
    (record { answer_is = refl; after_is = ap (λ (x : MachineState). standing 0 (seen (beside watch keys files.files files.lines) files.whole x)) done.1; silent = refl })

erased-deposit_fault : (m : MachineState) (l : Listing) (v : ℕ) → fault_of_deposit (erased m) l v ≡ fault_of_deposit m l v
unfolding fault_of_deposit
erased-deposit_fault m l v = refl

-- what DEPOSIT comes to, where the machine has the device
pub deposit-silent : {T : Type 0} (m new : MachineState) (watch : WatchState) (keys : List (ℕ × ℕ)) (files : Beyond) (l : Listing) (value : ℕ) (r : Result T ExamineFault)
    → lacks_device m l.device ≡ false → Deposits m l (handed value) r new → IsSilent (deposit_reply (seen (beside watch keys files.files files.lines) files.whole m) l value) (list_answer r) (seen (beside watch keys files.files files.lines) files.whole new)
unfolding deposit_reply
deposit-silent m new watch keys files l value r there deposits =
    let live = seen (beside watch keys files.files files.lines) files.whole m in
    subst (λ (b : Bool). IsSilent (if b then refused NoSuchName live else deposit_after (fault_of_deposit (erased m) l (handed value)) live l (handed value)) (list_answer r) (seen (beside watch keys files.files files.lines) files.whole new))
    (sym (erased-lacks m l.device ∙ there))
    (subst (λ (o : Option ExamineFault). IsSilent (deposit_after o live l (handed value)) (list_answer r) (seen (beside watch keys files.files files.lines) files.whole new)) (sym (erased-deposit_fault m l (handed value)))
    (after-silent m new watch keys files l (handed value) r deposits))

-- what is attached, the time and the lines stand
pub deposit-frame : {T : Type 0} (m new : MachineState) (l : Listing) (v : ℕ) (r : Result T ExamineFault) → Deposits m l v r new → Frame m new
deposit-frame m new l v (Ok x) done = subst (λ (x : MachineState). Frame m x) (sym done.1) (deposited-frame m l v)
deposit-frame m new l v (Err fault) done = subst (λ (x : MachineState). Frame m x) (sym done.1) (record { attached = refl; time = refl; lines = refl })

pub deposits-of : {T : Type 0} (m new : MachineState) (l : Listing) (v : ℕ) (r : Result T ExamineFault) → OnOk r ((fault_of_deposit m l v ≡ None) × (new ≡ deposited m l v))
    → IfErr r (λ fault. (fault_of_deposit m l v ≡ Some fault) × (new ≡ m)) → Deposits m l v r new
deposits-of m new l v (Ok x) done refused = done
deposits-of m new l v (Err fault) done refused = refused
