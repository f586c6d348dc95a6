-- The laws of lines, commands and faults, and what a reader whose answer is the reading of a line says of it.
use Rattle.std.proofs.Common.{◌≡◌, ◌↔◌, ℕ, Result, Ok, Err, List, ◌++◌, length, take, refl, ap, sym, ◌∙◌, subst, ◌⊎◌, inl, inr}
use Rattle.std.specs.Prelude.{IsOk, IfOk}
use Rattle.std.proofs.lemmas.Bool.{false≢true}
use Rattle.std.proofs.lemmas.List.{take_at}
use Rattle.scp_parser.specs.declared.command.Verb.{Verb}
use Rattle.scp_parser.specs.declared.fault.ParseFault.{ParseFault}
use Rattle.scp_parser.specs.Command.{Request, request_of}
use Rattle.scp_parser.specs.Grammar.{Parses}
use Rattle.scp_parser.specs.Faults.{Faults}
use Rattle.scp_parser.specs.Reading.{verb_of, map_ok, reading}
use Rattle.scp_parser.proofs.FormsDecided.{Forms_decided}
use Rattle.scp_parser.proofs.LineLemmas.{parses_reading, faults_reading}

-- the reading of a line by its verb

pub verb_read : (line : List ℕ) (what : Verb) → verb_of line ≡ Ok what → reading line ≡ Ok (request_of line what)
unfolding reading
verb_read line what is = ap (map_ok (request_of line)) is

-- the same where the line was copied to the front of a buffer
pub copied_read : (line copied behind : List ℕ) (what : Verb) → copied ≡ line → verb_of line ≡ Ok what → reading line ≡ Ok (request_of (take (length line) (copied ++ behind)) what)
copied_read line copied behind what same is =
    let text : take (length line) (copied ++ behind) ≡ line = take_at copied behind (length line) (ap length same) ∙ same in
    verb_read line what is ∙ ap (λ (t : List ℕ). Ok (request_of t what)) (sym text)

pub verb_fault : (line : List ℕ) (fault : ParseFault) → verb_of line ≡ Err fault → reading line ≡ Err fault
unfolding reading
verb_fault line fault is = ap (map_ok (request_of line)) is

module _ (d : Forms_decided) where
  pub one_command : (line : List ℕ) (one other : Request) → Parses line one → Parses line other → one ≡ other
  one_command line one other h k =
      let first = (parses_reading d line one).1 h in
      let second = (parses_reading d line other).1 k in
      cc

  either_cases : (line : List ℕ) (r : Result Request ParseFault) → reading line ≡ r → ((c : Request) × Parses line c) ⊎ ((fault : ParseFault) × Faults line fault)
  either_cases line (Ok c) is = inl (c, (parses_reading d line c).0 is)
  either_cases line (Err fault) is = inr (fault, (faults_reading d line fault).0 is)

  pub command_or_fault : (line : List ℕ) → ((c : Request) × Parses line c) ⊎ ((fault : ParseFault) × Faults line fault)
  command_or_fault line = either_cases line (reading line) refl

  pub never_both : (line : List ℕ) (c : Request) (fault : ParseFault) → Parses line c → Faults line fault → ⊥
  never_both line c fault h k =
      let first = (parses_reading d line c).1 h in
      let second = (faults_reading d line fault).1 k in
      cc

  pub one_fault : (line : List ℕ) (one other : ParseFault) → Faults line one → Faults line other → one ≡ other
  one_fault line one other h k =
      let first = (faults_reading d line one).1 h in
      let second = (faults_reading d line other).1 k in
      cc

  -- what a reader says that answers Ok and leaves the command that the line is read as

  pub command_read : (T : Type 0) (line : List ℕ) (value : T) (new : Request) → reading line ≡ Ok new → (c : Request) → (IsOk {T = T} {E = ParseFault} (Ok value) × (new ≡ c)) ↔ Parses line c
  command_read T line value new is c =
      ((λ h. subst (Parses line) h.1 ((parses_reading d line new).0 is)), (λ h. (refl, one_command line new c ((parses_reading d line new).0 is) h)))

  pub no_fault_read : (T : Type 0) (line : List ℕ) (value : T) (new : Request) → reading line ≡ Ok new → (fault : ParseFault) → (◌≡◌ {A = Result T ParseFault} (Ok value) (Err fault)) ↔ Faults line fault
  no_fault_read T line value new is fault = ((λ h. cc), (λ h. absurd (never_both line new fault ((parses_reading d line new).0 is) h)))

  -- what a reader says that answers the fault that the line is read as

  pub no_command_read : (T : Type 0) (line : List ℕ) (e : ParseFault) (new : Request) → reading line ≡ Err e → (c : Request) → (IsOk {T = T} {E = ParseFault} (Err e) × (new ≡ c)) ↔ Parses line c
  no_command_read T line e new is c = ((λ h. absurd (false≢true h.0)), (λ h. absurd (never_both line c e h ((faults_reading d line e).0 is))))

  pub fault_read : (T : Type 0) (line : List ℕ) (e : ParseFault) → reading line ≡ Err e → (fault : ParseFault) → (◌≡◌ {A = Result T ParseFault} (Err e) (Err fault)) ↔ Faults line fault
  fault_read T line e is fault = (
    (λ h. let same : e ≡ fault = cc in subst (Faults line) same ((faults_reading d line e).0 is)),
    (λ h. ap (λ (f : ParseFault). Err f) (one_fault line e fault ((faults_reading d line e).0 is) h)),
  )

  -- the same of a result that is either

  pub command_clause : (T : Type 0) (line : List ℕ) (result : Result T ParseFault) (new : Request) → IfOk result (λ _. reading line ≡ Ok new) → ((fault : ParseFault) → result ≡ Err fault → reading line ≡ Err fault)
      → (c : Request) → (IsOk result × (new ≡ c)) ↔ Parses line c
  command_clause T line (Ok value) new exact faulty = command_read T line value new exact
  command_clause T line (Err e) new exact faulty = no_command_read T line e new (faulty e refl)

  pub fault_clause : (T : Type 0) (line : List ℕ) (result : Result T ParseFault) (new : Request) → IfOk result (λ _. reading line ≡ Ok new) → ((fault : ParseFault) → result ≡ Err fault → reading line ≡ Err fault)
      → (fault : ParseFault) → (result ≡ Err fault) ↔ Faults line fault
  fault_clause T line (Ok value) new exact faulty = no_fault_read T line value new exact
  fault_clause T line (Err e) new exact faulty = fault_read T line e (faulty e refl)
