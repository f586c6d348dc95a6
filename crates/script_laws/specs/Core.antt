-- The core of a session, and its future: what a session does depends on its core alone, where no call on a file fails.
use Rattle.std.specs.Prelude.{◌≡◌, ℕ, ◌+◌, Bool, List, [], ◌++◌, length}
use Rattle.observations.specs.Observations.{Observation, after_made, text_of, reads_of, sent_of}
use Rattle.observations.specs.Cut.{cut_trace, behind, sent_until}
use Rattle.command_session.specs.Live.{Live}
use Rattle.session_texts.specs.Actions.{Texts}
use Rattle.scp_script.specs.Session.{State, Session, Course, Step, Following, Going, Over, step, course, trace, ComesTo}

-- All parts of a session but two that stand beside it: how many units are spent, which is the number of the last command, and
-- the failing calls that are still to come.
pub record Core : Type 0 where
  pub live : Live
  pub limit : ℕ
  pub budget : ℕ
  pub texts : Texts
  pub reads : Bool
  pub prompt : Bool
  pub input : List ℕ
  pub open_ : Bool

abbrev pub core_of : Session → Core
core_of s = record { live = s.live; limit = s.limit; budget = s.budget; texts = s.texts; reads = s.reads; prompt = s.prompt; input = s.input; open_ = s.open_ }

-- the session of a core behind so many units, in which no call fails from there on
abbrev pub session_at : Core → ℕ → Session
session_at c spent = record {
  live = c.live;
  notes = [];
  spent = spent;
  limit = c.limit;
  budget = c.budget;
  texts = c.texts;
  reads = c.reads;
  prompt = c.prompt;
  input = c.input;
  open_ = c.open_;
}

-- two sessions have the same core
abbrev pub SameCore : Session → Session → Type 0
SameCore s t = core_of s ≡ core_of t

-- no call fails from there on
abbrev pub NoneFails : Session → Type 0
NoneFails s = s.notes ≡ []

-- both go on, with the same core; or both are over, by the same and in the same state
abbrev pub SameNext : Following → Following → Type 0
SameNext (Going s) (Going t) = SameCore s t × NoneFails s × NoneFails t
SameNext (Over end x) (Over other y) = (end ≡ other) × (x ≡ y)
SameNext _ _ = ⊥

-- one text makes the same of the same core
pub record SameStep (a b : Step) : Type 0 where
  pub made : a.made ≡ b.made
  pub next : SameNext a.next b.next

-- Sessions of the same core do the same, text by text and to the end: the same is printed, read and left, and by the same
-- they are over.
pub record SameCoreSameFuture : Type 0 where
  pub text : (s t : Session) → SameCore s t → NoneFails s → NoneFails t → SameStep (step s) (step t)
  pub all : (s t : Session) → SameCore s t → NoneFails s → NoneFails t → course s ≡ course t

-- the course that begins with these observations
abbrev pub after_all : List (Observation State) → Course → Course
after_all made c = record { trace = after_made made c.trace; end = c.end }

-- A session is cut behind each of its texts: its course is what those made, and then the course of the session there; and so
-- is its outcome, and what is sent up to that, for every console and input that let those through.
pub record CutBehindTexts : Type 0 where
  pub course : (count : ℕ) (s t : Session) (made : List (Observation State)) → ComesTo count s made t → course s ≡ after_all made (course t)
  pub outcome : (count : ℕ) (s t : Session) (made : List (Observation State)) (takes gives : ℕ) → ComesTo count s made t
      → cut_trace (length (text_of made) + takes) (reads_of made + gives) (trace s) ≡ behind (text_of made) (reads_of made) (cut_trace takes gives (trace t))
  pub sent : (count : ℕ) (s t : Session) (made : List (Observation State)) (takes gives : ℕ) → ComesTo count s made t
      → sent_until (length (text_of made) + takes) (reads_of made + gives) (trace s).made ≡ sent_of made ++ sent_until takes gives (trace t).made
