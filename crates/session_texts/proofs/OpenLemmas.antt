-- Which scripts can be open.
use Rattle.std.proofs.Common.{◌≡◌, ℕ, ◌+◌, ◌^◌, ◌≤◌, ◌||◌, Bool, true, false, nat_lt, ◌-◌, List, [], ◌∷◌, ◌++◌, length, Option, Some, None, Result, Ok, Err, refl, ap, ◌∙◌, subst, sym, arith, if◌then◌else◌}
use Rattle.command_session.specs.declared.fault.CommandFault.{CommandFault}
use Rattle.std.specs.declared.string.String.{String}
use Rattle.std.specs.declared.alloc.Global.{Global}
use Rattle.command_session.specs.declared.do_file.DoFile.{DoFile}
use Rattle.script_text.specs.Lines.{behind_line}
use Rattle.session_texts.specs.Scripts.{Script, rest_of, still_open, behind_failure, past_line, jumped_to, first_script, AreFiles, IsLeftOf, StackOf}

-- the innermost, and those round it
abbrev innermost : Script → List Script → Script
innermost other [] = other
innermost other (s ∷ outer) = s

abbrev round : List Script → List Script
round [] = []
round (s ∷ outer) = outer

-- more may be open behind more texts
pub stack-later : (first : List Script) (most more : ℕ) (scripts : List Script) → most ≤ more → StackOf first most scripts → StackOf first more scripts
stack-later first most more scripts within s = record {
  read = s.read;
  own = s.own;
  are = s.are;
  left = s.left;
  few = omega (arith, within, s.few);
  files = s.files;
}

pub stack-as : (first : List Script) (most : ℕ) (scripts scripts' : List Script) → scripts' ≡ scripts → StackOf first most scripts → StackOf first most scripts'
stack-as first most scripts scripts' is s = subst (λ (l : List Script). StackOf first most l) (sym is) s

-- ---- the script that a session began with

left-first : (first : List Script) → length first ≤ 1 → IsLeftOf first first
left-first [] one = tt
left-first (s ∷ []) one = refl
left-first (s ∷ t ∷ others) one = absurd (omega (arith, one))

one-left : (first : List Script) (s t : Script) (others : List Script) → IsLeftOf first (s ∷ t ∷ others) → ⊥
one-left [] s t others left = left
one-left (one ∷ []) s t others left = left
one-left (one ∷ two ∷ more) s t others left = left

left-placed : (first : List Script) (one s : Script) (place : ℕ) → s ≡ one → IsLeftOf first (one ∷ []) → IsLeftOf first (record s { place = place } ∷ [])
left-placed [] one s place is left = left
left-placed (f ∷ []) one s place is left = ap (λ (x : Script). record x { place = place }) (is ∙ left)
left-placed (f ∷ g ∷ more) one s place is left = left

pub first-one : (script : Option DoFile) (words : List (String Global)) → length (first_script script words) ≤ 1
first-one None words = omega arith
first-one (Some file) words = omega arith

-- before the first text
pub stack-first : (first : List Script) → length first ≤ 1 → AreFiles first → StackOf first 0 first
stack-first first one files = record { read = []; own = first; are = refl; left = left-first first one; few = omega arith; files = files }

-- ---- a script is closed, opened, or goes on elsewhere

pub stack-round : (first : List Script) (most : ℕ) (script : Script) (outer : List Script) → StackOf first most (script ∷ outer) → StackOf first most outer
stack-round first most script outer s = by s.read s.own s.are s.left s.few
  where
    by : (read own : List Script) → script ∷ outer ≡ read ++ own → IsLeftOf first own → length read ≤ most → StackOf first most outer
    by [] [] are left few = absurd (cc are)
    by [] (one ∷ []) are left few = record { read = []; own = []; are = ap round are; left = tt; few = few; files = s.files.1 }
    by [] (one ∷ two ∷ others) are left few = absurd (one-left first one two others left)
    by (r ∷ read) own are left few = record { read = read; own = own; are = ap round are; left = left; few = omega (arith, few); files = s.files.1 }

pub stack-placed : (first : List Script) (most : ℕ) (script : Script) (outer : List Script) (place : ℕ) → StackOf first most (script ∷ outer)
    → StackOf first most (record script { place = place } ∷ outer)
stack-placed first most script outer place s = by s.read s.own s.are s.left s.few
  where
    now : Script
    now = record script { place = place }

    by : (read own : List Script) → script ∷ outer ≡ read ++ own → IsLeftOf first own → length read ≤ most → StackOf first most (now ∷ outer)
    by [] [] are left few = absurd (cc are)
    by [] (one ∷ []) are left few = record {
      read = [];
      own = now ∷ [];
      are = ap (λ (l : List Script). now ∷ l) (ap round are);
      left = left-placed first one script place (ap (innermost script) are) left;
      few = few;
      files = (s.files.0, s.files.1);
    }
    by [] (one ∷ two ∷ others) are left few = absurd (one-left first one two others left)
    by (r ∷ read) own are left few = record {
      read = now ∷ read;
      own = own;
      are = ap (λ (l : List Script). now ∷ l) (ap round are);
      left = left;
      few = few;
      files = (s.files.0, s.files.1);
    }

pub stack-past : (first : List Script) (most : ℕ) (script : Script) (outer : List Script) → StackOf first most (script ∷ outer) → StackOf first most (past_line script ∷ outer)
stack-past first most script outer s = stack-placed first most script outer (length script.text - length (behind_line (rest_of script))) s

pub stack-opened : (first : List Script) (most : ℕ) (script : Script) (outer : List Script) → length script.text ≤ 2 ^ 20 → StackOf first most outer → StackOf first (most + 1) (script ∷ outer)
stack-opened first most script outer file s = record {
  read = script ∷ s.read;
  own = s.own;
  are = ap (λ (l : List Script). script ∷ l) s.are;
  left = s.left;
  few = omega (arith, s.few);
  files = (file, s.files);
}

-- ---- what a text makes of them

either : (first : List Script) (most : ℕ) (b : Bool) (x y : List Script) → StackOf first most x → StackOf first most y → StackOf first most (if b then x else y)
either first most true x y here there = here
either first most false x y here there = there

pub stack-still : (first : List Script) (most : ℕ) (scripts : List Script) → StackOf first most scripts → StackOf first most (still_open scripts)
unfolding still_open
stack-still first most [] s = s
stack-still first most (script ∷ outer) s =
    either first most (nat_lt script.place (length script.text)) (script ∷ outer) (still_open outer) s (stack-still first most outer (stack-round first most script outer s))

pub stack-failed : (first : List Script) (most : ℕ) (ends : Bool) (scripts : List Script) → StackOf first most scripts → StackOf first most (behind_failure ends scripts)
unfolding behind_failure
stack-failed first most ends [] s = s
stack-failed first most ends (script ∷ outer) s =
    either first most (ends || script.strict) (behind_failure false outer) (script ∷ outer) (stack-failed first most false outer (stack-round first most script outer s)) s

pub stack-jumped : (first : List Script) (most : ℕ) (found : Result ℕ CommandFault) (scripts : List Script) → StackOf first most scripts → StackOf first most (jumped_to found scripts)
stack-jumped first most (Ok place) [] s = s
stack-jumped first most (Ok place) (script ∷ outer) s = stack-placed first most script outer place s
stack-jumped first most (Err fault) [] s = s
stack-jumped first most (Err fault) (script ∷ outer) s = s
