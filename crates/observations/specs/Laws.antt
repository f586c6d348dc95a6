-- What holds of every cut, in a reader's words. A law is proved where a public function's contract is that law.
use Rattle.std.specs.Prelude.{◌≡◌, ◌≢◌, ℕ, ◌+◌, ◌<◌, ◌≤◌, List, ◌∷◌, ◌++◌, length, take}
use Rattle.observations.specs.declared.exit_status.ExitStatus.TheVariants.{Console, Input}
use Rattle.observations.specs.Status.{number_of}
use Rattle.observations.specs.Observations.{Observation, Prints, Reads, Ended, text_of, reads_of, sent_of}
use Rattle.observations.specs.Cut.{Outcome, ends, cut, sent_until}

-- a console that takes more comes to the same end, where none of its bytes was refused
abbrev pub SameWithMoreRoom : Type 0 → Type 0
SameWithMoreRoom S = (made : List (Observation S)) (ended : Ended S) (takes more gives : ℕ) → takes ≤ more
    → (cut takes gives made ended).status ≢ number_of Console → cut more gives made ended ≡ cut takes gives made ended

-- what the console took is a first part of all that is printed
abbrev pub TakesFirstPart : Type 0 → Type 0
TakesFirstPart S = (made : List (Observation S)) (ended : Ended S) (takes gives : ℕ) → (rest : List ℕ) × (text_of made ≡ (cut takes gives made ended).console ++ rest)

-- where no byte was refused and no read failed, all of it was printed, read and sent, and the status and state are those
-- of the whole trace
pub record IsWhole {S : Type 0} (made : List (Observation S)) (ended : Ended S) (takes gives : ℕ) : Type 0 where
  pub status : (cut takes gives made ended).status ≡ ended.status
  pub console : (cut takes gives made ended).console ≡ text_of made
  pub reads : (cut takes gives made ended).reads ≡ reads_of made
  pub state : (cut takes gives made ended).state ≡ ended.state
  pub sent : sent_until takes gives made ≡ sent_of made

abbrev pub WholeWithoutFaults : Type 0 → Type 0
WholeWithoutFaults S = (made : List (Observation S)) (ended : Ended S) (takes gives : ℕ)
    → (cut takes gives made ended).status ≢ number_of Console → (cut takes gives made ended).status ≢ number_of Input → IsWhole made ended takes gives

-- an outcome, and that up to it was sent what these observations send
pub record EndsBehind {S : Type 0} (done made : List (Observation S)) (ended : Ended S) (takes gives : ℕ) (o : Outcome S) : Type 0 where
  pub outcome : cut takes gives made ended ≡ o
  pub sent : sent_until takes gives made ≡ sent_of done

-- where a byte of a text is refused, all in front of that text was done, and nothing behind it was sent
abbrev pub EndsWhereRefused : Type 0 → Type 0
EndsWhereRefused S = (done more : List (Observation S)) (text : List ℕ) (at : S) (ended : Ended S) (n gives : ℕ) → n < length text
    → EndsBehind done (done ++ Prints text at ∷ more) ended (length (text_of done) + n) (reads_of done + gives)
    (ends (number_of Console) (text_of done ++ take n text) (reads_of done) at)

-- where a read fails, all in front of these reads was done, and nothing behind them was sent
abbrev pub EndsWhereFailed : Type 0 → Type 0
EndsWhereFailed S = (done more : List (Observation S)) (count : ℕ) (at : S) (ended : Ended S) (takes n : ℕ) → n < count
    → EndsBehind done (done ++ Reads count at ∷ more) ended (length (text_of done) + takes) (reads_of done + n)
    (ends (number_of Input) (text_of done) (reads_of done + n) at)
