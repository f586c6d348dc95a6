-- ECHO and ASSERT: ASSERT speaks of no file's number, and never answers for the console.
use Rattle.std.proofs.Common.{◌≡◌, ◌∙◌, ℕ, Bool, true, false, IsTrue, List, [], ◌∷◌, ◌++◌, Option, Some, None, Result, Ok, Err, refl, ap, sym, if◌then◌else◌}
use Rattle.file_traits.specs.Streams.{Puts}
use Rattle.expect_actions.specs.Watch.{WatchState}
use Rattle.nova_machine.specs.Machine.{MachineState}
use Rattle.nova_machine.specs.Seen.{erased, seen, beside}
use Rattle.operand_forms.specs.declared.listing.Condition.{Condition}
use Rattle.operand_forms.specs.declared.listing.Test.{Test}
use Rattle.scp_examine.specs.declared.fault.ExamineFault.{ExamineFault}
use Rattle.scp_examine.specs.declared.fault.ExamineFault.TheVariants as list
use Rattle.scp_examine.specs.Shape.{shape_of}
use Rattle.scp_examine.specs.Places.{Place, value_at, largest_at, meets, places_of}
use Rattle.scp_examine.specs.Checks.{condition_fits, item_fault}
use Rattle.scp_examine.specs.Effect.{compared, test_of, test_after, tested}
use Rattle.nova_machine.specs.Comes.{Output}
use Rattle.command_session.specs.declared.next.Next.TheVariants.{Go}
use Rattle.command_session.specs.declared.fault.CommandFault.TheVariants.{NoSuchName}
use Rattle.command_session.specs.Live.{Live, standing, Beyond}
use Rattle.command_session.specs.Reply.{Answer}
use Rattle.plain_commands.specs.ListEffects.{lacks_device}
use Rattle.plain_commands.specs.ScriptEffects.{echo_reply, test_answer, assert_answer, assert_reply}
use Rattle.command_session.specs.Doing.{Does, IsPlain, told_or_console}
use Rattle.command_session.proofs.ReplyLemmas.{says-does, silent-does}
use Rattle.plain_commands.proofs.ListLemmas.{erased-lacks, erased-value}
use Rattle.plain_commands.proofs.OwnLemmas.{IsListsOwn, own-item}

pub echo-does : {T E : Type 0} (live : Live) (text : List ℕ) (printed : Result T E) (answer : Answer) (tells : Bool) (before after : Output) → answer ≡ told_or_console printed Go
    → (IsTrue tells → Puts before.console (text ++ 10 ∷ []) printed after.console) → after.heard ≡ before.heard → Does (echo_reply live text) answer (standing 0 live) tells before after
unfolding echo_reply
echo-does live text printed answer tells before after is puts quiet = says-does (text ++ 10 ∷ []) live printed answer tells before after is puts quiet

-- ---- ASSERT

erased-test_of : (m : MachineState) (c : Condition) (places : List Place) → test_of (erased m) c places ≡ test_of m c places
erased-test_of m c [] = refl
erased-test_of m c (place ∷ more) = ap (λ (v : ℕ). compared v (largest_at place) c) (erased-value m place)

erased-test_after : (fault : Option ExamineFault) (m : MachineState) (test : Test) → test_after fault (erased m) test ≡ test_after fault m test
erased-test_after (Some fault) m test = refl
erased-test_after None m test = erased-test_of m test.condition (places_of (shape_of m) test.device test.item)

erased-tested : (m : MachineState) (test : Test) → tested (erased m) test ≡ tested m test
unfolding tested
erased-tested m test = erased-test_after (item_fault (shape_of m) test.device test.item) m test

erased-assert : (m : MachineState) (test : Test) → assert_answer (erased m) test ≡ assert_answer m test
erased-assert m test =
    ap (λ (b : Bool). if b then Err NoSuchName else test_answer (tested (erased m) test)) (erased-lacks m test.device)
    ∙ ap (λ (r : Result Bool ExamineFault). if lacks_device m test.device then Err NoSuchName else test_answer r) (erased-tested m test)

-- what is answered is not for the console
abbrev IsTestsOwn : Result Bool ExamineFault → Type 0
IsTestsOwn (Err list.Console) = ⊥
IsTestsOwn answer = Unit {0}

own-if : (b : Bool) (holds : Bool) → IsTestsOwn (if b then Ok holds else Err list.OutOfRange)
own-if true holds = tt
own-if false holds = tt

own-test_of : (m : MachineState) (c : Condition) (places : List Place) → IsTestsOwn (test_of m c places)
own-test_of m c [] = tt
own-test_of m c (place ∷ more) = own-if (condition_fits (largest_at place) c) (meets c (value_at m place))

own-test_after : (fault : Option ExamineFault) (m : MachineState) (test : Test) → IsListsOwn fault → IsTestsOwn (test_after fault m test)
own-test_after None m test own = own-test_of m test.condition (places_of (shape_of m) test.device test.item)
own-test_after (Some list.NoSuchName) m test own = tt
own-test_after (Some list.OutOfRange) m test own = tt
own-test_after (Some list.ReadOnlyName) m test own = tt
own-test_after (Some list.Console) m test own = absurd own

own-tested : (m : MachineState) (test : Test) → IsTestsOwn (tested m test)
unfolding tested
own-tested m test = own-test_after (item_fault (shape_of m) test.device test.item) m test (own-item (shape_of m) test.device test.item)

own-answer : (lacks : Bool) (r : Result Bool ExamineFault) → IsTestsOwn r → IsPlain (if lacks then Err NoSuchName else test_answer r)
own-answer true r own = tt
own-answer false (Ok true) own = tt
own-answer false (Ok false) own = tt
own-answer false (Err list.NoSuchName) own = tt
own-answer false (Err list.OutOfRange) own = tt
own-answer false (Err list.ReadOnlyName) own = tt
own-answer false (Err list.Console) own = absurd own

pub assert-own : (m : MachineState) (test : Test) → IsPlain (assert_answer m test)
assert-own m test = own-answer (lacks_device m test.device) (tested m test) (own-tested m test)

pub assert-does : (m : MachineState) (watch : WatchState) (keys : List (ℕ × ℕ)) (files : Beyond) (test : Test) (answer : Answer) (tells : Bool) (text : Output) → answer ≡ assert_answer m test
    → Does (assert_reply (seen (beside watch keys files.files files.lines) files.whole m) test) answer (standing 0 (seen (beside watch keys files.files files.lines) files.whole m)) tells text text
unfolding assert_reply
assert-does m watch keys files test answer tells text is =
    let live = seen (beside watch keys files.files files.lines) files.whole m in
    silent-does (assert_reply live test) answer (standing 0 live) tells text (assert-own (erased m) test) (is ∙ sym (erased-assert m test)) refl refl
