-- A line that is printed with its arguments filled in, piece by piece.
use Rattle.std.proofs.Common.{◌≡◌, ℕ, ◌+◌, ◌≤◌, Bool, true, List, [], ◌∷◌, ◌++◌, length, drop, codes, Result, Ok, Err, OnOk, OnErr, if◌then◌else◌, ap, sym, ◌∙◌, subst, append-nil, append_assoc}
use Rattle.std.proofs.lemmas.List.{drop-drop, drop_all}
use Rattle.file_traits.specs.Streams.{AddsPart, Puts}
use Rattle.file_traits.proofs.PutLemmas.{puts-then, part-first, part-second}
use Rattle.script_text.specs.Filling.{filled}
use Rattle.script_text.proofs.FillingLemmas.{filled_none}
use Rattle.session_texts.specs.Scripts.{Script, text_of_line, echo_text}

-- one piece more was printed
pub filled-more : {T E : Type 0} (arguments : List (List ℕ)) (line piece : List ℕ) (place width : ℕ) (here mid : List ℕ) (result : Result T E) (after : List ℕ)
    → filled arguments (drop place line) ≡ piece ++ filled arguments (drop width (drop place line)) → mid ≡ here ++ piece
    → Puts mid (filled arguments (drop (place + width) line)) result after → Puts here (filled arguments (drop place line)) result after
filled-more arguments line piece place width here mid result after first added puts =
    let P : List ℕ → Type 0 = λ t. Puts here t result after in
    subst P (sym (first ∙ ap (λ t. piece ++ filled arguments t) (drop-drop width place line)))
    (puts-then here piece mid (filled arguments (drop (place + width) line)) result after added puts)

-- a byte of it was refused
pub filled-part : (arguments : List (List ℕ)) (line piece : List ℕ) (place width : ℕ) (here new : List ℕ)
    → filled arguments (drop place line) ≡ piece ++ filled arguments (drop width (drop place line)) → AddsPart here piece new → AddsPart here (filled arguments (drop place line)) new
filled-part arguments line piece place width here new first part =
    let P : List ℕ → Type 0 = λ t. AddsPart here t new in
    subst P (sym first) (part-first here piece (filled arguments (drop width (drop place line))) new part)

-- nothing is left of the line
pub filled-end : (arguments : List (List ℕ)) (line : List ℕ) (place : ℕ) (here : List ℕ) → length line ≤ place → here ≡ here ++ filled arguments (drop place line)
filled-end arguments line place here past =
    sym (append-nil here) ∙ ap (λ t. here ++ t) (sym (filled_none arguments)) ∙ ap (λ t. here ++ filled arguments t) (sym (drop_all place line past))

-- a text between two others

pub between-first : (first text last before after : List ℕ) → AddsPart before first after → AddsPart before (first ++ text ++ last) after
between-first first text last before after part = part-first before (first ++ text) last after (part-first before first text after part)

pub between-second : (first text last before mid after : List ℕ) → mid ≡ before ++ first → AddsPart mid text after → AddsPart before (first ++ text ++ last) after
between-second first text last before mid after added part =
    part-first before (first ++ text) last after (part-second before first text after (subst (λ (l : List ℕ). AddsPart l text after) added part))

pub between-last : {T E : Type 0} (first text last before mid mid' after : List ℕ) (result : Result T E) → mid ≡ before ++ first → mid' ≡ mid ++ text
    → OnOk result (after ≡ mid' ++ last) → OnErr result (AddsPart mid' last after) → Puts before (first ++ text ++ last) result after
between-last {T} {E} first text last before mid mid' after (Ok x) added more all part =
    puts-then {T = T} {E = E} before (first ++ text) mid' last (Ok x) after (more ∙ ap (λ t. t ++ text) added ∙ append_assoc before first text) all
between-last {T} {E} first text last before mid mid' after (Err e) added more all part =
    puts-then {T = T} {E = E} before (first ++ text) mid' last (Err e) after (more ∙ ap (λ t. t ++ text) added ∙ append_assoc before first text) part

-- what is printed of a line, where the lines of its script are printed
pub echo-on : (s : Script) → s.echo ≡ true → echo_text s ≡ codes "do> " ++ text_of_line s ++ 10 ∷ []
echo-on s on = ap (λ (b : Bool). if b then codes "do> " ++ text_of_line s ++ 10 ∷ [] else []) on
