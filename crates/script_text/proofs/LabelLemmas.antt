-- Laws of labels.
use Rattle.std.proofs.Common.{◌≡◌, ℕ, ◌+◌, ◌-◌, ◌<◌, ◌≤◌, Bool, true, false, Option, Some, None, option_map, List, []}
use Rattle.std.proofs.Common.{◌∷◌, length, take, drop}
use Rattle.std.proofs.Common.{refl, sym, ap, ◌∙◌, arith, if◌then◌else◌, min}
use Rattle.std.specs.Str.{bytes_eq}
use Rattle.std.proofs.lemmas.List.{drop-drop, drop_min, length-drop}
use Rattle.std.proofs.lemmas.Slice.Eq.{bytes_eq-Decides}
use Rattle.script_text.specs.Lines.{first_line, command_line, behind_line, lines_of}
use Rattle.script_text.specs.Labels.{label_place}
use Rattle.script_text.proofs.LineLemmas.{lines_first, command_line-taken, length-taken, first_line_within}

-- a place among later lines, told from the front of earlier ones
moved_twice : (n m k : ℕ) (found : Option ℕ) → k ≡ n + m →
    option_map (λ place. n + place) (option_map (λ place. m + place) found) ≡ option_map (λ place. k + place) found
moved_twice n m k None sum = refl
moved_twice n m k (Some place) sum = ap (λ (x : ℕ). Some x) (omega arith)

moved_none : (n : ℕ) (found : Option ℕ) → n ≡ 0 → option_map (λ place. n + place) found ≡ found
moved_none n None zero = refl
moved_none n (Some place) zero = ap (λ (x : ℕ). Some x) (omega arith)

label_none : (label : List ℕ) → label_place label (lines_of []) ≡ None
unfolding label_place lines_of
label_none label = refl

label_first : (label s : List ℕ) → 0 < length s →
    label_place label (lines_of s) ≡ (if bytes_eq (command_line s) (58 ∷ label) then Some 0
    else option_map (λ place. (length s - length (behind_line s)) + place)
    (label_place label (lines_of (behind_line s))))
unfolding label_place
label_first label s some =
    let line = take (length (first_line s) + 1) s in
    let others = label_place label (lines_of (behind_line s)) in
    ap (label_place label) (lines_first s some)
    ∙ ap (λ (x : List ℕ). if bytes_eq x (58 ∷ label) then Some 0
    else option_map (λ place. length line + place) others) (command_line-taken s)
    ∙ ap (λ (n : ℕ). if bytes_eq (command_line s) (58 ∷ label) then Some 0
    else option_map (λ place. n + place) others) (length-taken s)

drop_alike : (m n : ℕ) (s : List ℕ) → min m (length s) ≡ n → drop m s ≡ drop n s
drop_alike m n s same = sym (drop_min m s) ∙ ap (λ (k : ℕ). drop k s) same

drop_same : (n : ℕ) (s : List ℕ) → n ≡ 0 → s ≡ drop n s
drop_same n s none = ap (λ (k : ℕ). drop k s) (sym none)

-- a script of which no line before the rest is the label
pub record Searched (script label rest : List ℕ) : Type 0 where
  pub within : length rest ≤ length script
  pub left : rest ≡ drop (length script - length rest) script
  pub place : option_map (λ place. (length script - length rest) + place) (label_place label (lines_of rest))
      ≡ label_place label (lines_of script)

pub searched_none : (script label : List ℕ) → Searched script label script
searched_none script label = record {
  within = omega arith;
  left = drop_same (length script - length script) script (omega arith);
  place = moved_none (length script - length script) (label_place label (lines_of script)) (omega arith);
}

pub searched_more : (script label rest : List ℕ) → Searched script label rest → 0 < length rest →
    bytes_eq (command_line rest) (58 ∷ label) ≡ false → Searched script label (behind_line rest)
searched_more script label rest searched some other =
    let n = length (first_line rest) in
    let shorter : length (behind_line rest) ≡ length rest - (n + 1) = length-drop (n + 1) rest in
    let here = first_line_within rest in
    let others = label_place label (lines_of (behind_line rest)) in
    record {
      within = omega (arith, searched.within, shorter);
      left = ap (drop (n + 1)) searched.left ∙ drop-drop (n + 1) (length script - length rest) script
          ∙ drop_alike (length script - length rest + (n + 1)) (length script - length (behind_line rest)) script
          (omega (arith, searched.within, shorter, some, here));
      place = sym (moved_twice (length script - length rest) (length rest - length (behind_line rest))
          (length script - length (behind_line rest)) others (omega (arith, searched.within, shorter)))
          ∙ ap (option_map (λ place. (length script - length rest) + place))
          (sym (label_first label rest some ∙ ap (λ (t : Bool). if t then Some 0
          else option_map (λ place. (length rest - length (behind_line rest)) + place) others) other))
          ∙ searched.place;
    }

pub searched_found : (script label rest : List ℕ) → Searched script label rest → 0 < length rest →
    bytes_eq (command_line rest) (58 ∷ label) ≡ true →
    Some (length script - length rest) ≡ label_place label (lines_of script)
searched_found script label rest searched some here =
    let others = label_place label (lines_of (behind_line rest)) in
    let n = length script - length rest in
    let none_more : n ≡ n + 0 = omega arith in
    ap (λ (x : ℕ). Some x) none_more
    ∙ ap (option_map (λ place. n + place))
    (sym (label_first label rest some ∙ ap (λ (t : Bool). if t then Some 0
    else option_map (λ place. (length rest - length (behind_line rest)) + place) others) here))
    ∙ searched.place

pub searched_all : (script label rest : List ℕ) → Searched script label rest → rest ≡ [] →
    None ≡ label_place label (lines_of script)
searched_all script label rest searched all =
    ap (option_map (λ place. (length script - length rest) + place))
    (sym (label_none label) ∙ ap (λ (x : List ℕ). label_place label (lines_of x)) (sym all)) ∙ searched.place

pub label_there : (script label rest : List ℕ) → Searched script label rest →
    bytes_eq (command_line rest) (58 ∷ label) ≡ true →
    command_line (drop (length script - length rest) script) ≡ 58 ∷ label
label_there script label rest searched here =
    ap command_line (sym searched.left) ∙ (bytes_eq-Decides (command_line rest) (58 ∷ label)).0 here
