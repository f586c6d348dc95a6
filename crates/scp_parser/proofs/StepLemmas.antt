-- What the steps of a reader keep of a verb.
use Rattle.std.proofs.Common.{◌≡◌, eqb, length, ℕ, Bool, true, false, cond, Option, Some, None, Result, Ok, Err, List, [], ◌∷◌, refl, ap, subst}
use Rattle.scp_parser.specs.declared.command.Verb.{Verb}
use Rattle.scp_parser.specs.declared.fault.ParseFault.{ParseFault}
use Rattle.line_text.specs.Words.{past_blanks}
use Rattle.scp_parser.specs.Grammar.{Takes}
use Rattle.scp_parser.specs.Faults.{WordFaults}
use Rattle.scp_parser.specs.Reading.{◌>>=◌, needed, needed_found, ended}
use Rattle.operand_forms.proofs.Decides.{Decides}
use Rattle.scp_parser.proofs.Settles.{sound_of}
use Rattle.scp_parser.proofs.OperandLemmas.{needed_settles}

-- a reader's value is that of its second part
pub bind_keeps : {A : Type 0} (P : Verb → Type 0) (r : Result A ParseFault) (f : A → Result Verb ParseFault) (v : Verb) → (r >>= f) ≡ Ok v → ((a : A) → r ≡ Ok a → f a ≡ Ok v → P v) → P v
bind_keeps P (Ok a) f v h holds = holds a refl h
bind_keeps P (Err fault) f v h holds = absurd (cc h)

pub same_Ok : (x y : Verb) → ◌≡◌ {A = Result Verb ParseFault} (Ok x) (Ok y) → x ≡ y
same_Ok x y h = cc h

cond_ok : (b : Bool) (what v : Verb) (fault : ParseFault) → ◌≡◌ {A = Result Verb ParseFault} (cond b (Ok what) (Err fault)) (Ok v) → what ≡ v
cond_ok true what v fault h = same_Ok what v h
cond_ok false what v fault h = absurd (cc h)

pub ended_keeps : (P : Verb → Type 0) (what : Verb) (text : List ℕ) (v : Verb) → ended what text ≡ Ok v → P what → P v
unfolding ended
ended_keeps P what text v h holds = subst P (cond_ok (eqb (length (past_blanks text)) 0) what v _ h) holds

pub cond_either : (P : Type 0) (b : Bool) (x y : Result Verb ParseFault) (v : Verb) → cond b x y ≡ Ok v → (x ≡ Ok v → P) → (y ≡ Ok v → P) → P
cond_either P true x y v h first second = first h
cond_either P false x y v h first second = second h

pub needed_some : {V : Type 0} (only_number : Bool) (o : Option V) (word rest : List ℕ) (a : V × List ℕ) → needed_found only_number o word rest ≡ Ok a → o ≡ Some a.0
needed_some {V} only_number (Some v) word rest a h =
    let same : (v, rest) ≡ a = cc h in ap (λ (p : (V × List ℕ)). Some p.0) same
needed_some only_number None [] rest a h = absurd (cc h)
needed_some only_number None (b ∷ more) rest a h = absurd (cc h)

-- an operand that was read is there
pub needed_takes : {V : Type 0} (Form : List ℕ → V → Type 0) (form : List ℕ → Option V) → Decides Form form → form [] ≡ None
    → (only_number : Bool) (text : List ℕ) (x : V × List ℕ) → needed only_number form text ≡ Ok x → Takes Form text x
needed_takes Form form decides none only_number text x h =
    sound_of (Takes Form text) (WordFaults Form only_number text) (needed only_number form text) (Ok x) h (needed_settles Form form decides none only_number text).found
