-- What every session is: true of the beginning, and kept by every text.
use Rattle.std.specs.Prelude.{◌≡◌, ℕ, ◌^◌, ◌<◌, ◌≤◌, List, length}
use Rattle.std.specs.List.{AllByRecursion}
use Rattle.observations.specs.Observations.{Observation, StandsAt}
use Rattle.expect_actions.specs.Actions.{most_actions}
use Rattle.nova_machine.specs.Comes.{Output}
use Rattle.nova_machine.specs.Valid.{AreBytes, DiskIsItsFile}
use Rattle.command_session.specs.Live.{Live}
use Rattle.command_laws.specs.Valid.{ValidLive, CopyFollows, CopyStays}
use Rattle.scp_script.specs.declared.progress.Finish.{Finish}
use Rattle.session_texts.specs.Scripts.{Script, most_scripts}
use Rattle.session_texts.specs.Actions.{Texts}
use Rattle.scp_script.specs.Session.{State, Session, SessionEnd, Going, Over, flushes_next, step, trace, ComesTo}
use Rattle.scp_script.specs.Perform.{IsPerformed}

-- a script that is open: its text is of bytes, its next line stands within it, and its name and arguments are ten at
-- the most, of bytes
pub record ValidScript (s : Script) : Type 0 where
  pub text : AreBytes s.text
  pub place : s.place ≤ length s.text
  pub few : length s.arguments ≤ 10
  pub arguments : AllByRecursion AreBytes s.arguments

-- the texts that are still to come: actions and scripts within their limits, of bytes
pub record ValidTexts (t : Texts) : Type 0 where
  pub few : length t.actions ≤ most_actions
  pub actions : AllByRecursion AreBytes t.actions
  pub open_ : length t.scripts ≤ most_scripts
  pub scripts : AllByRecursion ValidScript t.scripts

-- A session: its state, its texts, the rest of its input, and the numbers that it goes by.
pub record ValidSession (s : Session) : Type 0 where
  pub live : ValidLive s.live
  pub texts : ValidTexts s.texts
  pub input : AreBytes s.input
  pub least : 1 ≤ s.limit
  pub limit : s.limit ≤ 2 ^ 48
  pub budget : s.budget < 2 ^ 64
  pub spent : s.spent < 2 ^ 64

pub record SessionsStayValid : Type 0 where
  -- behind one text, and behind many
  pub next : (s t : Session) → ValidSession s → (step s).next ≡ Going t → ValidSession t
  pub all : (count : ℕ) (s t : Session) (made : List (Observation State)) → ValidSession s → ComesTo count s made t
      → ValidSession t
  -- wherever something is made, and at the end
  pub made : (s : Session) (at : State) → ValidSession s → StandsAt at (trace s).made → ValidLive at.live
  pub ended : (s : Session) → ValidSession s → ValidLive (trace s).ended.state.live
  -- And the disk's copy is that of its file still: behind one text, and behind many, since the session goes on only where the
  -- disk alone has changed that file. At an end so it is where that is so, and where the file is as it was.
  pub disk : (s t : Session) → ValidSession s → (step s).next ≡ Going t → DiskIsItsFile s.live → DiskIsItsFile t.live
  pub disk_all : (count : ℕ) (s t : Session) (made : List (Observation State)) → ValidSession s → DiskIsItsFile s.live
      → ComesTo count s made t → DiskIsItsFile t.live
  pub closed : (s : Session) (end : SessionEnd) (at : State) → ValidSession s → (step s).next ≡ Over end at
      → CopyFollows s.live at.live
  pub stays : (s : Session) (end : SessionEnd) (at : State) → ValidSession s → (step s).next ≡ Over end at
      → CopyStays (flushes_next s) s.live at.live
  -- what a call has left that performs a session, over whichever console and input, also where memory ran out
  pub left : (start : Session) (finish : Finish) (live : Live) (rest : List ℕ) (before after : Output) → ValidSession start
      → IsPerformed start finish live rest before after → ValidLive live
