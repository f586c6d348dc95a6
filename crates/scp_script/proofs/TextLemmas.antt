-- What the text of a line makes: the command's own, and the text of its fault.
use Rattle.std.proofs.Common.{◌≡◌, ◌⊎◌, ⊎_elim, inl, inr, ℕ, ◌+◌, Bool, IsTrue, is_ok, List, [], ◌∷◌, ◌++◌, take, refl, ap, sym, ◌∙◌, append_assoc, append-nil, subst, length, Option, Some, None, Result, Ok, Err}
use Rattle.observations.specs.Observations.{Observation, Prints, text_of, reads_of, sent_of}
use Rattle.observations.proofs.CutLemmas.{breaks-here, breaks-before, breaks-behind, before-sent, behind-sent, here-sent}
use Rattle.observations.proofs.MadeLemmas.{text_of-append, reads_of-append, sent_of-append, stands-before, stands-behind}
use Rattle.host_lines.specs.Told.{Heard}
use Rattle.nova_machine.specs.declared.machine.Stop.{Stop}
use Rattle.nova_machine.specs.declared.machine.Stop.TheVariants.{Halt, ChainLimit, UnknownDevice, Break, Expect, Stepped, Limit, UnitEnd, UnitNone, BadImage, Wru, FileFault, ConsoleFault}
use Rattle.nova_machine.specs.Comes.{Output}
use Rattle.nova_machine.specs.LineChanges.{heard_with}
use Rattle.nova_machine.proofs.Hearing.{heard-nothing}
use Rattle.file_commands.specs.Notes.{CommandNote, Note}
use Rattle.script_text.specs.Lines.{lines_of}
use Rattle.script_text.specs.Labels.{label_place}
use Rattle.scp_parser.specs.Command.{Request}
use Rattle.command_session.specs.declared.next.Next.{Next}
use Rattle.command_session.specs.declared.do_file.DoFile.{DoFile}
use Rattle.command_session.specs.declared.next.Next.TheVariants.{Go, Ran, Do, Goto, Exit}
use Rattle.command_session.specs.declared.fault.CommandFault.{CommandFault}
use Rattle.command_session.specs.declared.fault.CommandFault.TheVariants as fault
use Rattle.command_session.specs.Live.{Live, Standing, standing}
use Rattle.command_session.specs.Reply.{Answer, Reply, refused, bare_answer}
use Rattle.command_session.specs.FaultText.{fault_text}
use Rattle.command_session.specs.Asked.{Asked}
use Rattle.scp_commands.specs.Effect.{effect, does}
use Rattle.command_session.specs.Doing.{IsSaid, IsBrokenOff, Does, Did}
use Rattle.scp_commands.proofs.EffectLemmas.{does-reads}
use Rattle.scp_script.specs.declared.progress.Progress.{Progress}
use Rattle.scp_script.specs.declared.progress.Progress.TheVariants.{GoesOn, IsOver}
use Rattle.scp_script.specs.declared.progress.Finish.TheVariants.{EndOfInput, FlushFailed, Commands, Console, Input, OutOfMemory}
use Rattle.scp_script.specs.declared.progress.Finish.TheVariants as finish
use Rattle.session_texts.specs.Scripts.{Script, begun, arguments_of, checked, label_of, or_no_label, label_in, jumped_to, found_answer, settled_answer, settled, behind_failure, is_assertion}
use Rattle.expect_actions.specs.Watch.{WatchState}
use Rattle.session_texts.specs.Actions.{Texts, texts_of, text_of_stop, put_first, overflow_text, behind_refusal, texts_behind}
use Rattle.scp_script.specs.Session.{complaint, with_complaint, text_reply}
use Rattle.scp_script.specs.Loop.{exit_of, IsAnswer, Answers, Complains, AnswerCounts, HasExitStatus, Denies}

complaint-reads : (waiting : List (List ℕ)) (answer : Answer) (at : Standing) → reads_of (complaint waiting answer at) ≡ 0
complaint-reads waiting (Ok (Ran stop)) at = refl
complaint-reads waiting (Ok Go) at = refl
complaint-reads waiting (Ok (Do file)) at = refl
complaint-reads waiting (Ok Goto) at = refl
complaint-reads waiting (Ok (Exit status)) at = refl
complaint-reads waiting (Err fault) at = refl

-- a text reads nothing
pub text-reads : (limit : ℕ) (texts : Texts) (notes : List CommandNote) (live : Live) (what : Asked) → reads_of (text_reply limit texts notes live what).made ≡ 0
unfolding text_reply
text-reads limit texts notes live what =
    let reply = settled texts.scripts what (does limit notes live (checked texts.scripts what)) in
    reads_of-append reply.made (complaint texts.actions reply.answer reply.after)
    ∙ ap (λ n. n + reads_of (complaint texts.actions reply.answer reply.after)) (does-reads limit notes live (checked texts.scripts what))
    ∙ ap (λ n. 0 + n) (complaint-reads texts.actions reply.answer reply.after)

-- the console has the same, and callers have heard the same
pub same-output : (a b : Output) → a.console ≡ b.console → a.heard ≡ b.heard → a ≡ b
same-output a b console heard = ap (λ (x : List ℕ). record a { console = x }) console ∙ ap (λ (x : Heard). record b { heard = x }) heard

-- a command that was done, and no run, has nothing more to print
done-made : (waiting : List (List ℕ)) (reply : Reply) (next : Next) → complaint waiting (Ok next) reply.after ≡ [] → Ok next ≡ reply.answer → (with_complaint waiting reply).made ≡ reply.made
done-made waiting reply next quiet is =
    let none : complaint waiting reply.answer reply.after ≡ [] = ap (λ (a : Answer). complaint waiting a reply.after) (sym is) ∙ quiet in
    ap (λ l. reply.made ++ l) none ∙ append-nil reply.made

pub done-said : (waiting : List (List ℕ)) (reply : Reply) (next : Next) (at : Standing) (tells : Bool) (before after : Output) → complaint waiting (Ok next) reply.after ≡ [] → Ok next ≡ reply.answer
    → IsSaid reply at tells before after → IsSaid (with_complaint waiting reply) at tells before after
done-said waiting reply next at tells before after quiet is said = record {
  after_is = said.after_is;
  written = λ told. said.written told ∙ ap (λ l. before.console ++ text_of l) (sym (done-made waiting reply next quiet is));
  heard = said.heard ∙ ap (λ l. heard_with before.heard (sent_of l)) (sym (done-made waiting reply next quiet is));
}

-- what is to be said of an answer is printed behind what the command has made: that is the text of a fault, or of a stop
-- whose actions do not fit
said-made : (waiting : List (List ℕ)) (reply : Reply) (answer : Answer) (text : List ℕ) → answer ≡ reply.answer → complaint waiting answer reply.after ≡ Prints text reply.after ∷ []
    → (with_complaint waiting reply).made ≡ reply.made ++ Prints text reply.after ∷ []
said-made waiting reply answer text is says = ap (λ (a : Answer). reply.made ++ complaint waiting a reply.after) (sym is) ∙ ap (λ (l : List (Observation Standing)). reply.made ++ l) says

pub complained : (waiting : List (List ℕ)) (reply : Reply) (behind : Answer → WatchState → Texts) (answer : Answer) (text : List ℕ) (result : Progress) (texts : Texts) (at : Standing) (tells : Bool) (before mid after : Output)
    → answer ≡ reply.answer → complaint waiting answer reply.after ≡ Prints text reply.after ∷ [] → exit_of answer ≡ None → texts ≡ behind answer reply.after.live.watch
    → after.heard ≡ mid.heard → IsSaid reply at tells before mid → Complains tells mid.console text result after.console → IsAnswer (with_complaint waiting reply) behind result texts at tells before after
complained waiting reply behind answer text GoesOn texts at tells before mid after is says none open_now heard said told = (
  ap exit_of (sym is) ∙ none,
  open_now ∙ ap (λ (a : Answer). behind a reply.after.live.watch) is,
  record {
    after_is = said.after_is;
    written = λ t.
        told t ∙ ap (λ x. x ++ text) (said.written t) ∙ append_assoc before.console (text_of reply.made) text
        ∙ ap (λ x. before.console ++ (text_of reply.made ++ x)) (sym (append-nil text))
        ∙ ap (λ x. before.console ++ x) (sym (text_of-append reply.made (Prints text reply.after ∷ [])))
        ∙ ap (λ l. before.console ++ text_of l) (sym (said-made waiting reply answer text is says));
    heard =
        heard ∙ said.heard ∙ ap (heard_with before.heard) (sym (append-nil (sent_of reply.made)))
        ∙ ap (heard_with before.heard) (sym (sent_of-append reply.made (Prints text reply.after ∷ [])))
        ∙ ap (λ l. heard_with before.heard (sent_of l)) (sym (said-made waiting reply answer text is says));
  },
)
complained waiting reply behind answer text (IsOver Console) texts at tells before mid after is says none open_now heard said told =
    let made = said-made waiting reply answer text is says in
    let more = Prints text reply.after ∷ [] in
    subst (λ (l : List (Observation Standing)). IsBrokenOff (record (with_complaint waiting reply) { made = l }) at tells before after) (sym made)
    (subst (λ (x : Standing). IsBrokenOff (record (with_complaint waiting reply) { made = reply.made ++ more }) x tells before after) (sym said.after_is)
    (record {
      stands = stands-behind reply.after reply.made more (inl refl);
      told = λ t.
          let (n, short, added) = told t in
          record {
            taken = text_of reply.made ++ take n text;
            written = added ∙ ap (λ x. x ++ take n text) (said.written t) ∙ append_assoc before.console (text_of reply.made) (take n text);
            breaks = breaks-behind reply.made more (take n text) reply.after (breaks-here text reply.after [] n short);
            heard =
                heard ∙ said.heard ∙ ap (heard_with before.heard) (sym (append-nil (sent_of reply.made)))
                ∙ ap (λ (l : List (ℕ × ℕ)). heard_with before.heard (sent_of reply.made ++ l)) (sym (here-sent text reply.after [] n short))
                ∙ ap (heard_with before.heard) (sym (behind-sent reply.made more (take n text) reply.after (breaks-here text reply.after [] n short)));
          };
    }))
complained waiting reply behind answer text (IsOver (finish.Exit status)) texts at tells before mid after is says none open_now heard said told = absurd told
complained waiting reply behind answer text (IsOver EndOfInput) texts at tells before mid after is says none open_now heard said told = absurd told
complained waiting reply behind answer text (IsOver FlushFailed) texts at tells before mid after is says none open_now heard said told = absurd told
complained waiting reply behind answer text (IsOver Commands) texts at tells before mid after is says none open_now heard said told = absurd told
complained waiting reply behind answer text (IsOver Input) texts at tells before mid after is says none open_now heard said told = absurd told
complained waiting reply behind answer text (IsOver OutOfMemory) texts at tells before mid after is says none open_now heard said told = tt

-- a byte of the command's own was refused, and nothing more was printed
pub broken-off : (waiting : List (List ℕ)) (reply : Reply) (at : Standing) (tells : Bool) (before after : Output) → IsBrokenOff reply at tells before after
    → IsBrokenOff (with_complaint waiting reply) at tells before after
broken-off waiting reply at tells before after off =
    let more = complaint waiting reply.answer reply.after in
    record {
      stands = stands-before at reply.made more off.stands;
      told = λ t. let broken = off.told t in
          record {
            taken = broken.taken;
            written = broken.written;
            breaks = breaks-before reply.made more broken.taken at broken.breaks;
            heard = broken.heard ∙ ap (heard_with before.heard) (sym (before-sent reply.made more broken.taken at broken.breaks));
          };
    }

-- the texts behind a fault
abbrev pub refused_texts : CommandFault → Texts → Texts
refused_texts fault t = texts_of (behind_refusal t.scripts (behind_failure (is_assertion fault) t.scripts) t.actions) (behind_failure (is_assertion fault) t.scripts)

-- ---- a GOTO is answered by its label, and no other command

-- another answer stays
settled-same : (scripts : List Script) (what : Asked) (reply : Reply) (answer : Answer) → settled_answer scripts what answer ≡ answer → answer ≡ reply.answer → settled scripts what reply ≡ reply
settled-same scripts what reply answer same is =
    ap (λ (a : Answer). record reply { answer = settled_answer scripts what a }) (sym is)
    ∙ ap (λ (a : Answer). record reply { answer = a }) same
    ∙ ap (λ (a : Answer). record reply { answer = a }) is

settled-said : (scripts : List Script) (what : Asked) (reply : Reply) (at : Standing) (tells : Bool) (before after : Output) → IsSaid reply at tells before after
    → IsSaid (settled scripts what reply) at tells before after
settled-said scripts what reply at tells before after said = record { after_is = said.after_is; written = said.written; heard = said.heard }

settled-off : (scripts : List Script) (what : Asked) (reply : Reply) (at : Standing) (tells : Bool) (before after : Output) → IsBrokenOff reply at tells before after
    → IsBrokenOff (settled scripts what reply) at tells before after
settled-off scripts what reply at tells before after off = record {
  stands = off.stands;
  told = λ t. let broken = off.told t in record { taken = broken.taken; written = broken.written; breaks = broken.breaks; heard = broken.heard };
}

-- ---- what comes of a fault

-- a fault of a command is answered by its text
denied-by : (texts : Texts) (what : Asked) (reply : Reply) (fault : CommandFault) (result : Progress) (texts' : Texts) (at : Standing) (tells : Bool) (before mid after : Output) (sink sink_now : ℕ)
    → texts' ≡ refused_texts fault texts → after.heard ≡ mid.heard → (Err fault ≡ reply.answer) × IsSaid reply at tells before mid
    → Complains tells mid.console (fault_text fault) result after.console × AnswerCounts result sink sink_now × HasExitStatus result
    → IsAnswer (with_complaint texts.actions (settled texts.scripts what reply)) (texts_behind texts what) result texts' at tells before after
denied-by texts what reply fault result texts' at tells before mid after sink sink_now open_now heard (is, said) told =
    complained texts.actions (settled texts.scripts what reply) (texts_behind texts what) (Err fault) (fault_text fault) result texts' at tells before mid after (ap (settled_answer texts.scripts what) is) refl refl open_now heard
    (settled-said texts.scripts what reply at tells before mid said) told.0

-- a command's fault is answered
pub denied : (texts : Texts) (what : Asked) (reply : Reply) (fault : CommandFault) (result : Progress) (texts' : Texts) (at : Standing) (tells : Bool) (before mid after : Output) (sink sink_now : ℕ)
    → texts' ≡ refused_texts fault texts → after.heard ≡ mid.heard → Does reply (Err fault) at tells before mid → Denies fault tells result mid.console after.console sink sink_now
    → IsAnswer (with_complaint texts.actions (settled texts.scripts what reply)) (texts_behind texts what) result texts' at tells before after
denied texts what reply fault.Console result texts' at tells before mid after sink sink_now open_now heard off (is, same, still) =
    subst (λ (r : Progress). IsAnswer (with_complaint texts.actions (settled texts.scripts what reply)) (texts_behind texts what) r texts' at tells before after) (sym is)
    (subst (λ (x : Output). IsBrokenOff (with_complaint texts.actions (settled texts.scripts what reply)) at tells before x) (sym (same-output after mid same heard))
    (broken-off texts.actions (settled texts.scripts what reply) at tells before mid (settled-off texts.scripts what reply at tells before mid off)))
denied texts what reply fault.OutOfMemory result texts' at tells before mid after sink sink_now open_now heard off (is, same, still) =
    subst (λ (r : Progress). IsAnswer (with_complaint texts.actions (settled texts.scripts what reply)) (texts_behind texts what) r texts' at tells before after) (sym is) tt
denied texts what reply (fault.Parse why) result texts' at tells before mid after sink sink_now open_now heard does told =
    denied-by texts what reply (fault.Parse why) result texts' at tells before mid after sink sink_now open_now heard does told
denied texts what reply fault.NoSuchName result texts' at tells before mid after sink sink_now open_now heard does told =
    denied-by texts what reply fault.NoSuchName result texts' at tells before mid after sink sink_now open_now heard does told
denied texts what reply fault.OutOfRange result texts' at tells before mid after sink sink_now open_now heard does told =
    denied-by texts what reply fault.OutOfRange result texts' at tells before mid after sink sink_now open_now heard does told
denied texts what reply fault.ReadOnlyName result texts' at tells before mid after sink sink_now open_now heard does told =
    denied-by texts what reply fault.ReadOnlyName result texts' at tells before mid after sink sink_now open_now heard does told
denied texts what reply fault.AlreadyAttached result texts' at tells before mid after sink sink_now open_now heard does told =
    denied-by texts what reply fault.AlreadyAttached result texts' at tells before mid after sink sink_now open_now heard does told
denied texts what reply fault.NotAttached result texts' at tells before mid after sink sink_now open_now heard does told =
    denied-by texts what reply fault.NotAttached result texts' at tells before mid after sink sink_now open_now heard does told
denied texts what reply fault.ReadOnly result texts' at tells before mid after sink sink_now open_now heard does told =
    denied-by texts what reply fault.ReadOnly result texts' at tells before mid after sink sink_now open_now heard does told
denied texts what reply fault.NoFile result texts' at tells before mid after sink sink_now open_now heard does told =
    denied-by texts what reply fault.NoFile result texts' at tells before mid after sink sink_now open_now heard does told
denied texts what reply fault.FileTooLong result texts' at tells before mid after sink sink_now open_now heard does told =
    denied-by texts what reply fault.FileTooLong result texts' at tells before mid after sink sink_now open_now heard does told
denied texts what reply (fault.LoadTruncated place) result texts' at tells before mid after sink sink_now open_now heard does told =
    denied-by texts what reply (fault.LoadTruncated place) result texts' at tells before mid after sink sink_now open_now heard does told
denied texts what reply (fault.LoadSum place) result texts' at tells before mid after sink sink_now open_now heard does told =
    denied-by texts what reply (fault.LoadSum place) result texts' at tells before mid after sink sink_now open_now heard does told
denied texts what reply (fault.PastMemory origin) result texts' at tells before mid after sink sink_now open_now heard does told =
    denied-by texts what reply (fault.PastMemory origin) result texts' at tells before mid after sink sink_now open_now heard does told
denied texts what reply fault.NotState result texts' at tells before mid after sink sink_now open_now heard does told =
    denied-by texts what reply fault.NotState result texts' at tells before mid after sink sink_now open_now heard does told
denied texts what reply (fault.Version version) result texts' at tells before mid after sink sink_now open_now heard does told =
    denied-by texts what reply (fault.Version version) result texts' at tells before mid after sink sink_now open_now heard does told
denied texts what reply (fault.BadDigest given found) result texts' at tells before mid after sink sink_now open_now heard does told =
    denied-by texts what reply (fault.BadDigest given found) result texts' at tells before mid after sink sink_now open_now heard does told
denied texts what reply (fault.BadField place) result texts' at tells before mid after sink sink_now open_now heard does told =
    denied-by texts what reply (fault.BadField place) result texts' at tells before mid after sink sink_now open_now heard does told
denied texts what reply fault.Truncated result texts' at tells before mid after sink sink_now open_now heard does told =
    denied-by texts what reply fault.Truncated result texts' at tells before mid after sink sink_now open_now heard does told
denied texts what reply fault.MissingUnit result texts' at tells before mid after sink sink_now open_now heard does told =
    denied-by texts what reply fault.MissingUnit result texts' at tells before mid after sink sink_now open_now heard does told
denied texts what reply (fault.Changed unit) result texts' at tells before mid after sink sink_now open_now heard does told =
    denied-by texts what reply (fault.Changed unit) result texts' at tells before mid after sink sink_now open_now heard does told
denied texts what reply (fault.FileFailed who) result texts' at tells before mid after sink sink_now open_now heard does told =
    denied-by texts what reply (fault.FileFailed who) result texts' at tells before mid after sink sink_now open_now heard does told
denied texts what reply fault.PortTaken result texts' at tells before mid after sink sink_now open_now heard does told =
    denied-by texts what reply fault.PortTaken result texts' at tells before mid after sink sink_now open_now heard does told
denied texts what reply fault.PortFailed result texts' at tells before mid after sink sink_now open_now heard does told =
    denied-by texts what reply fault.PortFailed result texts' at tells before mid after sink sink_now open_now heard does told
denied texts what reply fault.Full result texts' at tells before mid after sink sink_now open_now heard does told =
    denied-by texts what reply fault.Full result texts' at tells before mid after sink sink_now open_now heard does told
denied texts what reply fault.AssertFailed result texts' at tells before mid after sink sink_now open_now heard does told =
    denied-by texts what reply fault.AssertFailed result texts' at tells before mid after sink sink_now open_now heard does told
denied texts what reply fault.TooDeep result texts' at tells before mid after sink sink_now open_now heard does told =
    denied-by texts what reply fault.TooDeep result texts' at tells before mid after sink sink_now open_now heard does told
denied texts what reply fault.NoLabel result texts' at tells before mid after sink sink_now open_now heard does told =
    denied-by texts what reply fault.NoLabel result texts' at tells before mid after sink sink_now open_now heard does told
denied texts what reply fault.NotInDo result texts' at tells before mid after sink sink_now open_now heard does told =
    denied-by texts what reply fault.NotInDo result texts' at tells before mid after sink sink_now open_now heard does told

-- a label has no other fault than that it is missing, and that no script is open
no-label : (found : Option ℕ) (why : CommandFault) → or_no_label found ≡ Err why → fault.NoLabel ≡ why
no-label (Some place) why is = absurd (cc)
no-label None why is = cc

label-fault : (label : List ℕ) (scripts : List Script) (why : CommandFault) → label_in label scripts ≡ Err why → (fault.NotInDo ≡ why) ⊎ (fault.NoLabel ≡ why)
label-fault label [] why is = inl (cc)
label-fault label (s ∷ outer) why is = inr (no-label (label_place label (lines_of s.text)) why is)

label-told : (label : List ℕ) (scripts : List Script) (why : CommandFault) (result : Progress) (tells : Bool) (before after : List ℕ) (sink sink_now : ℕ) → label_in label scripts ≡ Err why
    → Denies why tells result before after sink sink_now → Complains tells before (fault_text why) result after
label-told label scripts why result tells before after sink sink_now found =
    ⊎_elim
    (λ (is : fault.NotInDo ≡ why). subst (λ (f : CommandFault). Denies f tells result before after sink sink_now → Complains tells before (fault_text f) result after) is (λ told. told.0))
    (λ (is : fault.NoLabel ≡ why). subst (λ (f : CommandFault). Denies f tells result before after sink sink_now → Complains tells before (fault_text f) result after) is (λ told. told.0))
    (label-fault label scripts why found)

-- the same of a fault that a label has, where the command was done
pub label-denied : (texts : Texts) (what : Asked) (reply : Reply) (why : CommandFault) (result : Progress) (texts' : Texts) (at : Standing) (tells : Bool) (before mid after : Output) (sink sink_now : ℕ)
    → label_in (label_of what) texts.scripts ≡ Err why → texts' ≡ refused_texts why texts → after.heard ≡ mid.heard → Does reply (Ok Goto) at tells before mid
    → Denies why tells result mid.console after.console sink sink_now
    → IsAnswer (with_complaint texts.actions (settled texts.scripts what reply)) (texts_behind texts what) result texts' at tells before after
label-denied texts what reply why result texts' at tells before mid after sink sink_now found open_now heard (is, said) told =
    let answer : Err why ≡ settled_answer texts.scripts what reply.answer = ap found_answer (sym found) ∙ ap (settled_answer texts.scripts what) is in
    complained texts.actions (settled texts.scripts what reply) (texts_behind texts what) (Err why) (fault_text why) result texts' at tells before mid after answer refl refl open_now heard
    (settled-said texts.scripts what reply at tells before mid said) (label-told (label_of what) texts.scripts why result tells mid.console after.console sink sink_now found told)

-- ---- what comes of a command that was done

-- the answer without the number of a file is the same but in a stop, and has the same actions
record BareStop (stop : Stop) : Type 0 where
  pub said : Stop
  pub is : bare_answer (Ok (Ran stop)) ≡ Ok (Ran said)
  pub actions : (watch : WatchState) → text_of_stop said watch ≡ text_of_stop stop watch

bare-ran : (stop : Stop) → BareStop stop
bare-ran Halt = record { said = Halt; is = refl; actions = λ watch. refl }
bare-ran ChainLimit = record { said = ChainLimit; is = refl; actions = λ watch. refl }
bare-ran UnknownDevice = record { said = UnknownDevice; is = refl; actions = λ watch. refl }
bare-ran (Break k) = record { said = Break k; is = refl; actions = λ watch. refl }
bare-ran (Expect k) = record { said = Expect k; is = refl; actions = λ watch. refl }
bare-ran Stepped = record { said = Stepped; is = refl; actions = λ watch. refl }
bare-ran Limit = record { said = Limit; is = refl; actions = λ watch. refl }
bare-ran (UnitEnd unit) = record { said = UnitEnd unit; is = refl; actions = λ watch. refl }
bare-ran (UnitNone unit) = record { said = UnitNone unit; is = refl; actions = λ watch. refl }
bare-ran (BadImage unit place) = record { said = BadImage unit place; is = refl; actions = λ watch. refl }
bare-ran Wru = record { said = Wru; is = refl; actions = λ watch. refl }
bare-ran (FileFault f) = record { said = FileFault (record f { file = None }); is = refl; actions = λ watch. refl }
bare-ran ConsoleFault = record { said = ConsoleFault; is = refl; actions = λ watch. refl }

-- the session goes on
goes-on : (texts : Texts) (what : Asked) (reply : Reply) (next : Next) (texts' : Texts) (at : Standing) (tells : Bool) (before after : Output)
    → complaint texts.actions (Ok next) reply.after ≡ [] → Ok next ≡ settled_answer texts.scripts what reply.answer → exit_of (Ok next) ≡ None → texts' ≡ texts_behind texts what (Ok next) reply.after.live.watch
    → IsSaid reply at tells before after → IsAnswer (with_complaint texts.actions (settled texts.scripts what reply)) (texts_behind texts what) GoesOn texts' at tells before after
goes-on texts what reply next texts' at tells before after quiet is none open_now said = (
  ap exit_of (sym is) ∙ none,
  open_now ∙ ap (λ (a : Answer). texts_behind texts what a reply.after.live.watch) is,
  done-said texts.actions (settled texts.scripts what reply) next at tells before after quiet is (settled-said texts.scripts what reply at tells before after said),
)

pub go-followed : (texts : Texts) (what : Asked) (reply : Reply) (texts' : Texts) (at : Standing) (tells : Bool) (before after : Output) → texts' ≡ texts
    → Does reply (Ok Go) at tells before after → IsAnswer (with_complaint texts.actions (settled texts.scripts what reply)) (texts_behind texts what) GoesOn texts' at tells before after
go-followed texts what reply texts' at tells before after same (is, said) =
    goes-on texts what reply Go texts' at tells before after refl (ap (settled_answer texts.scripts what) is) refl same said

-- the actions of a stop wait in front of the others, or they do not fit, and that was printed
pub ran-followed : (texts : Texts) (what : Asked) (reply : Reply) (stop : Stop) (watch : WatchState) (result : Progress) (texts' : Texts) (at : Standing) (tells : Bool) (before mid after : Output)
    → at.live.watch ≡ watch → texts' ≡ texts_of (put_first (text_of_stop stop watch) texts.actions) texts.scripts
    → after.heard ≡ mid.heard → Complains tells mid.console (overflow_text (text_of_stop stop watch) texts.actions) result after.console → Does reply (Ok (Ran stop)) at tells before mid
    → IsAnswer (with_complaint texts.actions (settled texts.scripts what reply)) (texts_behind texts what) result texts' at tells before after
ran-followed texts what reply stop watch result texts' at tells before mid after watched same heard told (is, said) =
    let bare = bare-ran stop in
    let watch_is : reply.after.live.watch ≡ watch = ap (λ (x : Standing). x.live.watch) (sym said.after_is) ∙ watched in
    let text_is : text_of_stop bare.said reply.after.live.watch ≡ text_of_stop stop watch = ap (text_of_stop bare.said) watch_is ∙ bare.actions watch in
    complained texts.actions (settled texts.scripts what reply) (texts_behind texts what) (Ok (Ran bare.said)) (overflow_text (text_of_stop bare.said reply.after.live.watch) texts.actions) result texts' at tells before mid after
    (ap (settled_answer texts.scripts what) (sym bare.is ∙ is)) refl refl
    (same ∙ ap (λ (t : List ℕ). texts_of (put_first t texts.actions) texts.scripts) (sym text_is)) heard
    (settled-said texts.scripts what reply at tells before mid said)
    (subst (λ (t : List ℕ). Complains tells mid.console (overflow_text t texts.actions) result after.console) (sym text_is) told)

pub do-followed : (texts : Texts) (what : Asked) (reply : Reply) (file : DoFile) (texts' : Texts) (at : Standing) (tells : Bool) (before after : Output)
    → texts' ≡ texts_of texts.actions (begun (arguments_of what) file ∷ texts.scripts)
    → Does reply (Ok (Do file)) at tells before after → IsAnswer (with_complaint texts.actions (settled texts.scripts what reply)) (texts_behind texts what) GoesOn texts' at tells before after
do-followed texts what reply file texts' at tells before after same (is, said) =
    goes-on texts what reply (Do file) texts' at tells before after refl (ap (settled_answer texts.scripts what) is) refl same said

found-ok : (found : Result ℕ CommandFault) → IsTrue (is_ok found) → found_answer found ≡ Ok Goto
found-ok (Ok place) ok = refl
found-ok (Err fault) ok = absurd (cc)

pub goto-followed : (texts : Texts) (what : Asked) (reply : Reply) (texts' : Texts) (at : Standing) (tells : Bool) (before after : Output)
    → IsTrue (is_ok (label_in (label_of what) texts.scripts)) → texts' ≡ texts_of texts.actions (jumped_to (label_in (label_of what) texts.scripts) texts.scripts)
    → Does reply (Ok Goto) at tells before after → IsAnswer (with_complaint texts.actions (settled texts.scripts what reply)) (texts_behind texts what) GoesOn texts' at tells before after
goto-followed texts what reply texts' at tells before after found same (is, said) =
    goes-on texts what reply Goto texts' at tells before after refl (sym (found-ok (label_in (label_of what) texts.scripts) found) ∙ ap (settled_answer texts.scripts what) is) refl same said

-- EXIT was done
pub exit-followed : (texts : Texts) (what : Asked) (reply : Reply) (status : ℕ) (texts' : Texts) (at : Standing) (tells : Bool) (before after : Output)
    → Does reply (Ok (Exit status)) at tells before after
    → IsAnswer (with_complaint texts.actions (settled texts.scripts what reply)) (texts_behind texts what) (IsOver (finish.Exit status)) texts' at tells before after
exit-followed texts what reply status texts' at tells before after (is, said) =
    let answer : Ok (Exit status) ≡ settled_answer texts.scripts what reply.answer = ap (settled_answer texts.scripts what) is in (
      ap exit_of (sym answer),
      done-said texts.actions (settled texts.scripts what reply) (Exit status) at tells before after refl answer (settled-said texts.scripts what reply at tells before after said),
    )

-- ---- what comes of a text

-- a command was done, and then its answer was followed
pub answers-of : (limit : ℕ) (old : Live) (texts : Texts) (r : Request) (number : ℕ) (answer : Answer) (result : Progress) (new : Live) (texts' : Texts) (tells : Bool) (before mid after : Output) (notes notes' : List Note)
    → checked texts.scripts (Ok r) ≡ Ok r → Did (λ own. effect limit own old r) number answer new tells before mid notes notes'
    → ((own : List CommandNote) (used : ℕ) → Does (effect limit own old r) answer (standing used new) tells before mid
    → IsAnswer (with_complaint texts.actions (settled texts.scripts (Ok r) (effect limit own old r))) (texts_behind texts (Ok r)) result texts' (standing used new) tells before after)
    → Answers limit old texts (Ok r) number result new texts' tells before after notes notes'
unfolding text_reply does
answers-of limit old texts r number answer result new texts' tells before mid after notes notes' fits did next = record {
  own = did.own;
  kept = did.kept;
  answers = λ behind come.
      let all = did.own ++ behind in
      subst (λ (a : Asked). IsAnswer (with_complaint texts.actions (settled texts.scripts (Ok r) (does limit all old a))) (texts_behind texts (Ok r)) result texts' (standing (length did.own) new) tells before after)
      (sym fits) (next all (length did.own) (did.does behind come));
}

-- a text whose notes change nothing was answered, and kept none
pub answers-none : (limit : ℕ) (live : Live) (texts : Texts) (what : Asked) (number : ℕ) (result : Progress) (texts' : Texts) (tells : Bool) (before after : Output) (notes : List Note)
    → ((behind : List CommandNote) → IsAnswer (text_reply limit texts behind live what) (texts_behind texts what) result texts' (standing 0 live) tells before after)
    → Answers limit live texts what number result live texts' tells before after notes notes
answers-none limit live texts what number result texts' tells before after notes told = record { own = []; kept = sym (append-nil notes); answers = λ behind come. told behind }

-- a text that is refused before any command
pub line-denied : (limit : ℕ) (texts : Texts) (notes : List CommandNote) (live : Live) (what : Asked) (fault : CommandFault) (result : Progress) (texts' : Texts) (tells : Bool) (before after : Output)
    → checked texts.scripts what ≡ Err fault → texts' ≡ refused_texts fault texts → after.heard ≡ before.heard → Complains tells before.console (fault_text fault) result after.console
    → IsAnswer (text_reply limit texts notes live what) (texts_behind texts what) result texts' (standing 0 live) tells before after
unfolding text_reply does
line-denied limit texts notes live what fault result texts' tells before after is open_now heard told =
    subst (λ (a : Asked). IsAnswer (with_complaint texts.actions (settled texts.scripts what (does limit notes live a))) (texts_behind texts what) result texts' (standing 0 live) tells before after) (sym is)
    (complained texts.actions (settled texts.scripts what (refused fault live)) (texts_behind texts what) (Err fault) (fault_text fault) result texts' (standing 0 live) tells before before after refl refl refl open_now heard
    (record { after_is = refl; written = λ _. sym (append-nil before.console); heard = sym (heard-nothing before.heard) }) told)
