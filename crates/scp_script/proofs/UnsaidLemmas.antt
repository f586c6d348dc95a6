-- A session of which no more is said from some text on, since something beside the disk has changed the disk's file.
use Rattle.std.proofs.Common.{◌≡◌, ◌⊎◌, inl, inr, ℕ, ◌+◌, Bool, IsTrue, true, false, List, [], ◌++◌, drop, refl, ap, sym, ◌∙◌, arith, append_assoc, append-nil}
use Rattle.std.proofs.lemmas.List.{drop-drop}
use Rattle.observations.specs.Observations.{text_of, reads_of, sent_of}
use Rattle.observations.proofs.MadeLemmas.{text_of-append, reads_of-append, sent_of-append}
use Rattle.host_lines.specs.Traffic.{Answer as LineAnswer}
use Rattle.host_lines.specs.Told.{IsFirst, record_in}
use Rattle.host_lines.specs.State.{LineState}
use Rattle.nova_machine.specs.Comes.{Output}
use Rattle.nova_machine.specs.LineChanges.{heard_with, HearsOn}
use Rattle.nova_machine.proofs.Hearing.{heard-behind}
use Rattle.nova_machine.proofs.LineSteps.{first-same, first-through, hears-equal, hears-then}
use Rattle.file_commands.specs.Notes.{Note}
use Rattle.file_traits.specs.Lists.{NamedBytes}
use Rattle.unit_files.specs.InStep.{InStep}
use Rattle.nova_machine.specs.Machine.{attached_files}
use Rattle.command_session.specs.Live.{CommandState, beyond, live_in}
use Rattle.command_session.specs.DiskFile.{disk_alone, StaysWhereAlone}
use Rattle.scp_script.specs.declared.progress.CommandLoop.{CommandLoop}
use Rattle.scp_script.specs.declared.progress.Progress.TheVariants.{GoesOn}
use Rattle.scp_script.specs.Session.{Session, state_of, rested, going_on, step}
use Rattle.scp_script.specs.Loop.{session_of, MayFollow, Stepped, TakesFirst}
use Rattle.scp_script.specs.Perform.{SaysUpTo, SaysNoMore}
use Rattle.scp_script.proofs.NoteLemmas.{none-follow}
use Rattle.scp_script.proofs.WholeLemmas.{ComesSoFar, further, reads-behind}

-- the text after which nothing is said
pub breaks : (start now next : List Note → Session) (tells : Bool) (before mid after : Output) (notes notes' notes'' : List Note) → ((more : List Note) → disk_alone (now more).live (next []).live ≡ false)
    → ComesSoFar start now before mid notes notes' → Stepped now GoesOn next mid after notes' notes'' → SaysUpTo start tells (next []).input before after notes notes''
breaks start now next tells before mid after notes notes' notes'' alone s st =
    let own = st.own ++ [] in
    let may : MayFollow (next []).spent (next []).live [] = none-follow (next []).spent (next []).live [] refl in
    let g = st.goes [] may in
    let r = s.comes own (st.first [] may) in
    record {
      own = s.own ++ own;
      later = [];
      kept = st.kept ∙ ap (λ l. l ++ st.own) s.kept ∙ append_assoc notes s.own st.own
          ∙ ap (λ l. notes ++ l) (ap (λ l. s.own ++ l) (sym (append-nil st.own)) ∙ sym (append-nil (s.own ++ own)));
      first = s.first own (st.first [] may);
      count = r.count;
      done = r.done;
      reached = now own;
      comes = r.comes;
      state = state_of (rested (next []));
      last = g.next ∙ ap (λ b. going_on b (rested (next []))) (alone own);
      more = [];
      written = g.written ∙ ap (λ t. t ++ text_of (step (now own)).made) r.written ∙ append_assoc before.console (text_of r.done) (text_of (step (now own)).made)
          ∙ ap (λ t. before.console ++ t) (sym (text_of-append r.done (step (now own)).made) ∙ sym (append-nil (text_of (r.done ++ (step (now own)).made))));
      heard = λ told. hears-equal (heard_with before.heard (sent_of (r.done ++ (step (now own)).made))) after.heard
          (g.heard ∙ ap (λ h. heard_with h (sent_of (step (now own)).made)) r.heard ∙ heard-behind before.heard (sent_of r.done) (sent_of (step (now own)).made)
          ∙ ap (heard_with before.heard) (sym (sent_of-append r.done (step (now own)).made)));
      made = 0;
      rest = (reads-behind (reads_of r.done) (reads_of (step (now own)).made) (start (s.own ++ own)).open_ (now own).open_ (next []).open_ (start (s.own ++ own)).input (now own).input (next []).input r.reads g.reads).rest
          ∙ ap (λ n. drop n (start (s.own ++ own)).input) (sym (reads_of-append r.done (step (now own)).made) ∙ omega arith);
    }

-- what comes behind it is printed, noted and read behind all that was said
pub said-still : (start : List Note → Session) (tells : Bool) (left left' : List ℕ) (before mid after : Output) (notes notes' notes'' : List Note) (added : List ℕ) (kept : List Note) (n : ℕ)
    → mid.console ++ added ≡ after.console → notes'' ≡ notes' ++ kept → left' ≡ drop n left → (IsTrue tells → HearsOn mid.heard after.heard)
    → SaysUpTo start tells left before mid notes notes' → SaysUpTo start tells left' before after notes notes''
said-still start tells left left' before mid after notes notes' notes'' added kept n grows keeps drops hears s =
    record {
      own = s.own;
      later = s.later ++ kept;
      kept = keeps ∙ ap (λ l. l ++ kept) s.kept ∙ append_assoc notes (s.own ++ s.later) kept ∙ ap (λ l. notes ++ l) (append_assoc s.own s.later kept);
      first = s.first;
      count = s.count;
      done = s.done;
      reached = s.reached;
      comes = s.comes;
      state = s.state;
      last = s.last;
      more = s.more ++ added;
      written = sym grows ∙ ap (λ t. t ++ added) s.written ∙ append_assoc before.console (text_of (s.done ++ (step s.reached).made) ++ s.more) added
          ∙ ap (λ t. before.console ++ t) (append_assoc (text_of (s.done ++ (step s.reached).made)) s.more added);
      heard = λ told. hears-then (heard_with before.heard (sent_of (s.done ++ (step s.reached).made))) mid.heard after.heard (s.heard told) (hears told);
      made = s.made + n;
      rest = drops ∙ ap (drop n) s.rest ∙ drop-drop n (reads_of (s.done ++ (step s.reached).made) + s.made) (start s.own).input ∙ ap (λ k. drop k (start s.own).input) (omega arith);
    }

-- The session has come to such a text, when lines stood so; where they tell, what they recorded then is a first part of what
-- they have recorded now.
pub record SaidUpTo (start : List LineAnswer → List Note → Session) (tells : Bool) (now : LineState) (left : List ℕ) (before after : Output) (notes notes' : List Note) : Type 0 where
  pub then_ : LineState
  pub since : IsTrue tells → IsFirst (record_in then_.told) (record_in now.told)
  pub says : (w : List LineAnswer) → IsFirst (record_in then_.told) w → SaysUpTo (start w) tells left before after notes notes'

-- what comes behind that is behind it still
pub said-on : (start : List LineAnswer → List Note → Session) (tells : Bool) (mid now : LineState) (left left' : List ℕ) (before printed after : Output) (notes notes' notes'' : List Note) (kept : List Note)
    → (IsTrue tells → IsFirst (record_in mid.told) (record_in now.told)) → (added : List ℕ) × (after.console ≡ printed.console ++ added) → notes'' ≡ notes' ++ kept → TakesFirst left left'
    → (IsTrue tells → HearsOn printed.heard after.heard) → SaidUpTo start tells mid left before printed notes notes' → SaidUpTo start tells now left' before after notes notes''
said-on start tells mid now left left' before printed after notes notes' notes'' kept later grows keeps drops hears s = record {
  then_ = s.then_;
  since = λ told. first-through (record_in s.then_.told) (record_in mid.told) (record_in now.told) (s.since told) (later told);
  says = λ w begins. said-still (start w) tells left left' before printed after notes notes' notes'' grows.0 kept drops.0 (sym grows.1) keeps drops.1 hears (s.says w begins);
}

-- at the end: of what was recorded then, where lines tell nothing
pub no-more : (start : List LineAnswer → List Note → Session) (tells : Bool) (now : LineState) (whole : List LineAnswer) (left : List ℕ) (before after : Output) (notes notes' : List Note)
    → IsFirst (record_in now.told) whole → SaidUpTo start tells now left before after notes notes' → SaysNoMore start tells whole left before after notes notes'
no-more start true now whole left before after notes notes' begins s = record {
  recorded = whole;
  same = λ told. refl;
  says = s.says whole (first-through (record_in s.then_.told) (record_in now.told) whole (s.since refl) begins);
}
no-more start false now whole left before after notes notes' begins s = record {
  recorded = record_in s.then_.told;
  same = λ told. absurd (cc);
  says = s.says (record_in s.then_.told) (first-same (record_in s.then_.told));
}

-- the test asks for no line
same-alone : (s t : CommandState) (files files' : List NamedBytes) (a b c d : LineState) (u v w x : List LineAnswer)
    → disk_alone (live_in s (beyond files a u)) (live_in t (beyond files' b v)) ≡ disk_alone (live_in s (beyond files c w)) (live_in t (beyond files' d x))
unfolding disk_alone
same-alone s t files files' a b c d u v w x = refl

-- Behind a text after which a session goes on, either it was the disk alone that changed the disk's file, and all is in step and
-- said so far; or no more is said from there on.
pub turned : (start : List LineAnswer → List Note → Session) (tells : Bool) (s t : CommandState) (files files' : List NamedBytes) (mid now : LineState) (l l' : CommandLoop) (left left' : List ℕ)
    (before printed after : Output) (notes notes' notes'' : List Note) → IsFirst (record_in mid.told) (record_in now.told) → StaysWhereAlone s t files files' → InStep (attached_files s.machine) files
    → ((w : List LineAnswer) → IsFirst (record_in mid.told) w → ComesSoFar (start w) (session_of s (beyond files mid w) l left) before printed notes notes')
    → ((w : List LineAnswer) → IsFirst (record_in now.told) w → Stepped (session_of s (beyond files mid w) l left) GoesOn (session_of t (beyond files' now w) l' left') printed after notes' notes'')
    → SaidUpTo start tells now left' before after notes notes''
    ⊎ (InStep (attached_files t.machine) files'
    × ((w : List LineAnswer) → IsFirst (record_in now.told) w → ComesSoFar (start w) (λ n. rested (session_of t (beyond files' now w) l' left' n)) before after notes notes''))
turned start tells s t files files' mid now l l' left left' before printed after notes notes' notes'' later stays step comes steps =
    by-test (disk_alone (live_in s (beyond files mid [])) (live_in t (beyond files' now []))) refl
  where
    by-test : (b : Bool) → disk_alone (live_in s (beyond files mid [])) (live_in t (beyond files' now [])) ≡ b
        → SaidUpTo start tells now left' before after notes notes''
        ⊎ (InStep (attached_files t.machine) files'
        × ((w : List LineAnswer) → IsFirst (record_in now.told) w → ComesSoFar (start w) (λ n. rested (session_of t (beyond files' now w) l' left' n)) before after notes notes''))
    by-test true alone = inr (
      stays step mid now [] [] alone,
      λ w begins. further (start w) (session_of s (beyond files mid w) l left) (session_of t (beyond files' now w) l' left') before printed after notes notes' notes''
          (λ more more'. same-alone s t files files' mid now mid now w w [] [] ∙ alone) (comes w (first-through (record_in mid.told) (record_in now.told) w later begins)) (steps w begins),
    )
    by-test false alone = inl (record {
      then_ = now;
      since = λ told. first-same (record_in now.told);
      says = λ w begins. breaks (start w) (session_of s (beyond files mid w) l left) (session_of t (beyond files' now w) l' left') tells before printed after notes notes' notes''
          (λ more. same-alone s t files files' mid now mid now w w [] [] ∙ alone) (comes w (first-through (record_in mid.told) (record_in now.told) w later begins)) (steps w begins);
    })
