-- The texts that are still to come stay within their limits, and of bytes.
use Rattle.std.proofs.Common.{◌≡◌, ℕ, ◌+◌, ◌<◌, ◌≤◌, ◌^◌, ◌==◌, ◌||◌, nat_lt, Bool, true, false, List, [], ◌∷◌, ◌++◌, length, Option, Some, None, IfSome, Result, Ok, Err, if◌then◌else◌, refl, arith, length-append, length-take}
use Rattle.std.specs.List.{AllByRecursion}
use Rattle.std.proofs.lemmas.Bool.{ltb-false}
use Rattle.expect_actions.specs.KeysFile.{with_front}
use Rattle.expect_actions.specs.declared.splits.Place.{Place}
use Rattle.expect_actions.specs.declared.splits.Place.TheVariants.{Outside}
use Rattle.expect_actions.specs.Actions.{next_place, ends_action, actions_from, split, most_actions}
use Rattle.expect_actions.specs.Watch.{WatchState}
use Rattle.nova_machine.specs.declared.machine.Stop.{Stop}
use Rattle.nova_machine.specs.declared.machine.Stop.TheVariants.{Break, Expect}
use Rattle.nova_machine.specs.Valid.{AreBytes, ValidWatch}
use Rattle.machine_laws.proofs.ValidBytes.{bytes-drop}
use Rattle.nova_machine.proofs.Each.{every-append, every-take}
use Rattle.script_text.specs.Lines.{command_line, lines_of}
use Rattle.script_text.specs.Labels.{label_place}
use Rattle.script_text.specs.Arguments.{words_of}
use Rattle.script_text.proofs.ByteLemmas.{line_bytes, words_bytes, filled_bytes, label_within}
use Rattle.scp_parser.specs.Command.{Request, IsKept}
use Rattle.scp_parser.specs.Command as request
use Rattle.scp_parser.specs.Laws.{IsOfBytes}
use Rattle.scp_parser.specs.declared.fault.ParseFault.{ParseFault}
use Rattle.scp_parser.specs.Reading.{reading}
use Rattle.scp_parser.proofs.RequestLemmas.{requests_are_kept}
use Rattle.command_session.specs.declared.do_file.DoFile.{DoFile}
use Rattle.command_session.specs.declared.next.Next.TheVariants.{Go, Ran, Do, Goto, Exit}
use Rattle.command_session.specs.declared.fault.CommandFault.{CommandFault}
use Rattle.command_session.specs.declared.fault.CommandFault.TheVariants.{TooDeep}
use Rattle.command_session.specs.Reply.{Answer}
use Rattle.command_session.specs.Asked.{Asked, read_as, asked}
use Rattle.command_laws.specs.Valid.{GivesBytes}
use Rattle.session_texts.specs.Scripts.{Script, most_scripts, rest_of, still_open, text_of_line, past_line, begun, arguments_of, checked, or_no_label, label_of, label_in, jumped_to, found_answer, settled_answer, behind_failure, is_assertion, scripts_behind}
use Rattle.session_texts.specs.Actions.{Texts, text_of_stop, overflows, put_first, behind_refusal, actions_behind, texts_behind}
use Rattle.script_laws.specs.Valid.{ValidScript, ValidTexts}
use Rattle.script_laws.proofs.RoomLemmas.{RoomFor}

-- ---- what a line asks for

-- a request keeps the facts of its command, and its texts are of bytes
abbrev pub IsValidAsked : Asked → Type 0
IsValidAsked (Ok r) = IsKept r × IsOfBytes r
IsValidAsked (Err fault) = Unit {0}

pub asked-valid : (line : List ℕ) → AreBytes line → IsValidAsked (asked line)
unfolding asked
asked-valid line bytes = by-read (reading line) refl
  where
    by-read : (r : Result Request ParseFault) → reading line ≡ r → IsValidAsked (read_as r)
    by-read (Ok r) is = (requests_are_kept.kept line r is, requests_are_kept.bytes line r bytes is)
    by-read (Err fault) is = tt

pub checked-valid : (scripts : List Script) (what : Asked) → IsValidAsked what → IsValidAsked (checked scripts what)
checked-valid scripts (Ok (request.Do echo strict name arguments)) is = by-room (nat_lt (length scripts) most_scripts)
  where
    by-room : (b : Bool) → IsValidAsked (if b then Ok (request.Do echo strict name arguments) else Err TooDeep)
    by-room true = is
    by-room false = tt
checked-valid scripts what is = is

-- ---- actions

fronted-bytes : (b : ℕ) (ps : List (List ℕ)) → b < 2 ^ 8 → AllByRecursion AreBytes ps → AllByRecursion AreBytes (with_front b ps)
fronted-bytes b [] byte all = ((byte, tt), tt)
fronted-bytes b (p ∷ ps) byte all = ((byte, all.0), all.1)

either-bytes : (b : Bool) (xs ys : List (List ℕ)) → AllByRecursion AreBytes xs → AllByRecursion AreBytes ys → AllByRecursion AreBytes (if b then xs else ys)
either-bytes true xs ys first second = first
either-bytes false xs ys first second = second

actions-bytes : (place : Place) (text : List ℕ) → AreBytes text → AllByRecursion AreBytes (actions_from place text)
actions-bytes place [] all = (tt, tt)
actions-bytes place (b ∷ text) all =
    either-bytes (ends_action place b) ([] ∷ actions_from Outside text) (with_front b (actions_from (next_place place b) text))
    (tt, actions-bytes Outside text all.1) (fronted-bytes b (actions_from (next_place place b) text) all.0 (actions-bytes (next_place place b) text all.1))

split-bytes : (text : List ℕ) → AreBytes text → AllByRecursion AreBytes (split text)
split-bytes [] all = tt
split-bytes (b ∷ text) all = actions-bytes Outside (b ∷ text) all

-- actions within their limit, of bytes
pub record ValidActions (actions : List (List ℕ)) : Type 0 where
  pub few : length actions ≤ most_actions
  pub each : AllByRecursion AreBytes actions

stop-bytes : (stop : Stop) (w : WatchState) → ValidWatch w → AreBytes (text_of_stop stop w)
stop-bytes (Break k) w is = is.broke
stop-bytes (Expect k) w is = is.matched
stop-bytes stop w is = tt

put-valid : (text : List ℕ) (waiting : List (List ℕ)) → AreBytes text → ValidActions waiting → ValidActions (put_first text waiting)
put-valid text waiting bytes is = by-test (overflows text waiting) refl
  where
    by-test : (b : Bool) → overflows text waiting ≡ b → ValidActions (if b then waiting else split text ++ waiting)
    by-test true over = is
    by-test false fits =
        let most = ltb-false most_actions (length waiting + length (split text)) fits in
        let both = length-append (split text) waiting in
        record { few = omega (arith, most, both); each = every-append AreBytes (split text) waiting (split-bytes text bytes) is.each }

refusal-valid : (before after : List Script) (waiting : List (List ℕ)) → ValidActions waiting → ValidActions (behind_refusal before after waiting)
refusal-valid before after waiting is = by-test (length after == length before)
  where
    by-test : (b : Bool) → ValidActions (if b then waiting else [])
    by-test true = is
    by-test false = record { few = omega arith; each = tt }

waiting-valid : (t : Texts) → ValidTexts t → ValidActions t.actions
waiting-valid t is = record { few = is.few; each = is.actions }

pub actions-valid : (t : Texts) (answer : Answer) (w : WatchState) → ValidTexts t → ValidWatch w → ValidActions (actions_behind t answer w)
actions-valid t (Ok (Ran stop)) w is watch = put-valid (text_of_stop stop w) t.actions (stop-bytes stop w watch) (waiting-valid t is)
actions-valid t (Ok Go) w is watch = waiting-valid t is
actions-valid t (Ok (Do file)) w is watch = waiting-valid t is
actions-valid t (Ok Goto) w is watch = waiting-valid t is
actions-valid t (Ok (Exit status)) w is watch = waiting-valid t is
actions-valid t (Err fault) w is watch = refusal-valid t.scripts (behind_failure (is_assertion fault) t.scripts) t.actions (waiting-valid t is)

-- ---- scripts

-- scripts within their limit, each as it is to be
pub record ValidScripts (scripts : List Script) : Type 0 where
  pub few : length scripts ≤ most_scripts
  pub each : AllByRecursion ValidScript scripts

scripts-if : (b : Bool) (xs ys : List Script) → ValidScripts xs → ValidScripts ys → ValidScripts (if b then xs else ys)
scripts-if true xs ys first second = first
scripts-if false xs ys first second = second

outer-valid : (s : Script) (outer : List Script) → ValidScripts (s ∷ outer) → ValidScripts outer
outer-valid s outer is = let few = is.few in record { few = omega (arith, few); each = is.each.1 }

pub open-valid : (scripts : List Script) → ValidScripts scripts → ValidScripts (still_open scripts)
unfolding still_open
open-valid [] is = is
open-valid (s ∷ outer) is = scripts-if (nat_lt s.place (length s.text)) (s ∷ outer) (still_open outer) is (open-valid outer (outer-valid s outer is))

failure-valid : (ends : Bool) (scripts : List Script) → ValidScripts scripts → ValidScripts (behind_failure ends scripts)
unfolding behind_failure
failure-valid ends [] is = is
failure-valid ends (s ∷ outer) is = scripts-if (ends || s.strict) (behind_failure false outer) (s ∷ outer) (failure-valid false outer (outer-valid s outer is)) is

arguments-few : (what : Asked) → length (arguments_of what) ≤ 10
arguments-few (Ok (request.Do echo strict name arguments)) = let many = length-take 10 (name ∷ words_of arguments) in omega (arith, many)
arguments-few what = omega arith

arguments-bytes : (what : Asked) → IsValidAsked what → AllByRecursion AreBytes (arguments_of what)
arguments-bytes (Ok (request.Do echo strict name arguments)) is = every-take AreBytes 10 (name ∷ words_of arguments) (is.1.name, words_bytes arguments is.1.text)
arguments-bytes what is = tt

begun-valid : (what : Asked) (file : DoFile) → IsValidAsked what → AreBytes file.text → ValidScript (begun (arguments_of what) file)
begun-valid what file is bytes = record { text = bytes; place = omega arith; few = arguments-few what; arguments = arguments-bytes what is }

jumped-valid : (label : List ℕ) (scripts : List Script) → ValidScripts scripts → ValidScripts (jumped_to (label_in label scripts) scripts)
jumped-valid label [] is = is
jumped-valid label (s ∷ outer) is = by-place (label_place label (lines_of s.text)) (label_within label s.text)
  where
    by-place : (o : Option ℕ) → IfSome o (λ (place : ℕ). place ≤ length s.text) → ValidScripts (jumped_to (or_no_label o) (s ∷ outer))
    by-place None within = is
    by-place (Some place) within = record {
      few = is.few;
      each = (record { text = is.each.0.text; place = within; few = is.each.0.few; arguments = is.each.0.arguments }, is.each.1);
    }

pub scripts-valid : (scripts : List Script) (what : Asked) (answer : Answer) → ValidScripts scripts → IsValidAsked what → GivesBytes answer → RoomFor scripts answer
    → ValidScripts (scripts_behind scripts what answer)
scripts-valid scripts what (Ok (Do file)) is valid gives room = record { few = omega (arith, room); each = (begun-valid what file valid gives, is.each) }
scripts-valid scripts what (Ok Goto) is valid gives room = jumped-valid (label_of what) scripts is
scripts-valid scripts what (Ok Go) is valid gives room = is
scripts-valid scripts what (Ok (Ran stop)) is valid gives room = is
scripts-valid scripts what (Ok (Exit status)) is valid gives room = is
scripts-valid scripts what (Err fault) is valid gives room = failure-valid (is_assertion fault) scripts is

-- a line of a script, and the script behind it
pub line-bytes : (s : Script) → ValidScript s → AreBytes (text_of_line s)
line-bytes s is = filled_bytes s.arguments (command_line (rest_of s)) is.arguments (line_bytes (rest_of s) (bytes-drop s.place s.text is.text))

pub past-valid : (s : Script) → ValidScript s → ValidScript (past_line s)
past-valid s is = record { text = is.text; place = omega arith; few = is.few; arguments = is.arguments }

-- ---- the texts behind one

pub texts-valid : (t : Texts) (what : Asked) (answer : Answer) (w : WatchState) → ValidTexts t → IsValidAsked what → GivesBytes answer → RoomFor t.scripts answer → ValidWatch w
    → ValidTexts (texts_behind t what answer w)
texts-valid t what answer w is valid gives room watch =
    let actions = actions-valid t answer w is watch in
    let scripts = scripts-valid t.scripts what answer (record { few = is.open_; each = is.scripts }) valid gives room in
    record { few = actions.few; actions = actions.each; open_ = scripts.few; scripts = scripts.each }

-- ---- a GOTO is settled

found-gives : (r : Result ℕ CommandFault) → GivesBytes (found_answer r)
found-gives (Ok place) = tt
found-gives (Err fault) = tt

pub settled-gives : (scripts : List Script) (what : Asked) (answer : Answer) → GivesBytes answer → GivesBytes (settled_answer scripts what answer)
settled-gives scripts what (Ok Goto) gives = found-gives (label_in (label_of what) scripts)
settled-gives scripts what (Ok Go) gives = tt
settled-gives scripts what (Ok (Do file)) gives = gives
settled-gives scripts what (Ok (Ran stop)) gives = tt
settled-gives scripts what (Ok (Exit status)) gives = tt
settled-gives scripts what (Err fault) gives = tt

found-room : (scripts : List Script) (r : Result ℕ CommandFault) → RoomFor scripts (found_answer r)
found-room scripts (Ok place) = tt
found-room scripts (Err fault) = tt

pub settled-room : (scripts : List Script) (what : Asked) (answer : Answer) → RoomFor scripts answer → RoomFor scripts (settled_answer scripts what answer)
settled-room scripts what (Ok Goto) room = found-room scripts (label_in (label_of what) scripts)
settled-room scripts what (Ok Go) room = tt
settled-room scripts what (Ok (Do file)) room = room
settled-room scripts what (Ok (Ran stop)) room = tt
settled-room scripts what (Ok (Exit status)) room = tt
settled-room scripts what (Err fault) room = tt
