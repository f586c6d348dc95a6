-- What is computed of the bytes of a keys file is their one answer.
use Rattle.std.proofs.Common.{◌≡◌, ℕ, ◌+◌, ◌<◌, ◌≤◌, List, [], ◌∷◌, ◌++◌, length, take, drop, Option, Some, None}
use Rattle.std.proofs.Common.{option_map, Result, Ok, Err, refl, sym, ap, ◌∙◌, subst, arith, add-zero}
use Rattle.std.proofs.lemmas.List.{append_assoc, append-nil, length-append, length-map, take_at, drop_at}
use Rattle.std.proofs.lemmas.List.{take-append-drop, length-take-le, length-drop}
use Rattle.expect_actions.specs.KeysFile.{Key, KeysLine, most_keys, IsLine, AreLines, none, more, MayLackFeed, whole}
use Rattle.expect_actions.specs.KeysFile.{lacking, DoNotFall, keys_of, keys_said, all_keys, IsKept, IsKeysFile}
use Rattle.expect_actions.specs.KeysFile.{IsFaultyAt, IsAnswer, first_line, behind_line, lines_of, next_read, keys_from}
use Rattle.expect_actions.specs.KeysFile.{keys_read, KeysHaveOneAnswer, KeysAreComputed}
use Rattle.expect_actions.proofs.SplitLemmas.{Joins, with_feed, alone, joins, splits, lines_of_more, lines_of_last}
use Rattle.expect_actions.proofs.LineLemmas.{without_line, line_some, line_found, line_is, next_found, next_is}
use Rattle.expect_actions.proofs.FollowLemmas.{last_time, last_time_push, all_keys_push, kept_push, kept_last, are_push}

-- what is computed is an answer

no_lines : (rest : List ℕ) → [] ≡ lines_of rest → rest ≡ []
no_lines [] h = refl
no_lines (b ∷ rest) h = cc (splits (b ∷ rest) (omega arith))

-- the answer of lines behind those of a front
abbrev pub answer : List KeysLine → ℕ → List (List ℕ) → Result (List Key) ℕ
answer lines place others = keys_from (last_time 0 lines) (all_keys lines) place others

answers_end : (front : List ℕ) (lines : List KeysLine) → AreLines front lines → IsKept lines →
    IsKeysFile (front ++ []) (all_keys lines)
answers_end front lines are kept = record {
  lines = lines;
  are = subst (λ (x : List ℕ). MayLackFeed x lines) (sym (append-nil front)) (whole front lines are);
  kept = kept;
  give = refl;
}

answers_fault : (front rest : List ℕ) (lines : List KeysLine) → 0 < length rest → AreLines front lines → IsKept lines →
    next_read (last_time 0 lines) (length (all_keys lines)) (first_line rest) ≡ None →
    IsFaultyAt (front ++ rest) (length front)
answers_fault front rest lines some are kept nothing = record {
  within = omega (arith, length-append front rest, some);
  lines = lines;
  are = subst (λ (x : List ℕ). AreLines x lines) (sym (take_at front rest (length front) refl)) are;
  kept = kept;
  faulty = λ says is goes_on.
      let bounds = kept_last lines says goes_on in
      let here : IsLine (first_line rest) says =
      subst (λ (x : List ℕ). IsLine (first_line x) says) (drop_at front rest (length front) refl) is in
      let found = next_found (last_time 0 lines) (length (all_keys lines)) (first_line rest) says
      (line_found (first_line rest) says here) bounds.1 bounds.2 in
      cc (found, nothing);
}

answers_last : (front line : List ℕ) (lines : List KeysLine) (says : KeysLine) → AreLines front lines →
    IsLine line says → IsKept (lines ++ says ∷ []) → IsKeysFile (front ++ line) (all_keys lines ++ keys_of says)
answers_last front line lines says are is kept = record {
  lines = lines ++ says ∷ [];
  are = lacking front line lines says are is;
  kept = kept;
  give = sym (all_keys_push lines says);
}

abbrev pub chosen : List Key → ℕ → List ℕ → List (List ℕ) → Option KeysLine → Result (List Key) ℕ
chosen keys place line others None = Err place
chosen keys place line others (Some says) = keys_from says.0 (keys ++ keys_of says) (place + length line + 1) others

pub from_more : (time : ℕ) (keys : List Key) (place : ℕ) (line : List ℕ) (others : List (List ℕ))
    (o : Option KeysLine) → next_read time (length keys) line ≡ o →
    keys_from time keys place (line ∷ others) ≡ chosen keys place line others o
unfolding keys_from
from_more time keys place line others o h = ap (chosen keys place line others) h

pub from_none : (time : ℕ) (keys : List Key) (place : ℕ) → keys_from time keys place [] ≡ Ok keys
unfolding keys_from
from_none time keys place = refl

-- an answer of all texts of these lines behind others
abbrev IsSound : List (List ℕ) → Type 0
IsSound ls = (front rest : List ℕ) (lines : List KeysLine) → ls ≡ lines_of rest → AreLines front lines → IsKept lines →
    IsAnswer (front ++ rest) (answer lines (length front) ls)

sound_some : (line rest behind front : List ℕ) (others : List (List ℕ)) (lines : List KeysLine) (says : KeysLine) →
    Joins rest line behind → others ≡ lines_of behind → AreLines front lines → IsLine line says →
    IsKept (lines ++ says ∷ []) → IsSound others →
    IsAnswer (front ++ rest) (keys_from says.0 (all_keys lines ++ keys_of says) (length front + length line + 1) others)
sound_some line rest behind front others lines says (with_feed split) same are is kept later =
    let front_more = front ++ (line ++ 10 ∷ []) in
    let found = later front_more behind (lines ++ says ∷ []) same (are_push front line lines says are is) kept in
    let bytes : front_more ++ behind ≡ front ++ rest =
    append_assoc front (line ++ 10 ∷ []) behind
    ∙ ap (λ (x : List ℕ). front ++ x) (append_assoc line (10 ∷ []) behind ∙ sym split) in
    let place : length front_more ≡ length front + length line + 1 =
    omega (arith, length-append front (line ++ 10 ∷ []), length-append line (10 ∷ [])) in
    let computed : answer (lines ++ says ∷ []) (length front_more) others
    ≡ keys_from says.0 (all_keys lines ++ keys_of says) (length front + length line + 1) others =
    ap (λ (t : ℕ). keys_from t (all_keys (lines ++ says ∷ [])) (length front_more) others) (last_time_push 0 lines says)
    ∙ ap (λ (k : List Key). keys_from says.0 k (length front_more) others) (all_keys_push lines says)
    ∙ ap (λ (n : ℕ). keys_from says.0 (all_keys lines ++ keys_of says) n others) place in
    subst (IsAnswer (front ++ rest)) computed
    (subst (λ (x : List ℕ). IsAnswer x (answer (lines ++ says ∷ []) (length front_more) others)) bytes found)
sound_some line rest behind front others lines says (alone split nothing) same are is kept later =
    let keys = all_keys lines ++ keys_of says in
    let place = length front + length line + 1 in
    let computed : Ok keys ≡ keys_from says.0 keys place others =
    sym (ap (keys_from says.0 keys place) (same ∙ ap lines_of nothing) ∙ from_none says.0 keys place) in
    subst (IsAnswer (front ++ rest)) computed
    (subst (λ (x : List ℕ). IsKeysFile (front ++ x) keys) (sym split)
    (answers_last front line lines says are is kept))

sound_next : (line rest front : List ℕ) (others : List (List ℕ)) (lines : List KeysLine) → 0 < length rest →
    line ≡ first_line rest → others ≡ lines_of (behind_line rest) → AreLines front lines → IsKept lines →
    IsSound others →
    (o : Option KeysLine) → next_read (last_time 0 lines) (length (all_keys lines)) line ≡ o →
    IsAnswer (front ++ rest) (chosen (all_keys lines) (length front) line others o)
sound_next line rest front others lines some first same are kept later None h =
    answers_fault front rest lines some are kept
    (ap (next_read (last_time 0 lines) (length (all_keys lines))) (sym first) ∙ h)
sound_next line rest front others lines some first same are kept later (Some says) h =
    let next = next_is (last_time 0 lines) (length (all_keys lines)) line says h in
    let is = line_is line says next.0 in
    let joined : Joins rest line (behind_line rest) =
    subst (λ (x : List ℕ). Joins rest x (behind_line rest)) (sym first) (joins rest) in
    sound_some line rest (behind_line rest) front others lines says joined same are is
    (kept_push lines says kept next.1 next.2) later

some_lines : (line : List ℕ) (others : List (List ℕ)) (rest : List ℕ) → line ∷ others ≡ lines_of rest → 0 < length rest
some_lines line others [] same = cc
some_lines line others (b ∷ rest) same = omega arith

sound : (ls : List (List ℕ)) → IsSound ls
sound [] front rest lines same are kept =
    let nothing = no_lines rest same in
    let keys = all_keys lines in
    subst (IsAnswer (front ++ rest)) (sym (from_none (last_time 0 lines) keys (length front)))
    (subst (λ (x : List ℕ). IsKeysFile (front ++ x) keys) (sym nothing) (answers_end front lines are kept))
sound (line ∷ others) front rest lines same are kept =
    let some = some_lines line others rest same in
    let split = same ∙ splits rest some in
    let o = next_read (last_time 0 lines) (length (all_keys lines)) line in
    subst (IsAnswer (front ++ rest)) (sym (from_more (last_time 0 lines) (all_keys lines) (length front) line others o
    refl))
    (sound_next line rest front others lines some (cc (split)) (cc (split)) are kept (sound others) o refl)

nothing_kept : IsKept []
nothing_kept = record { times = tt; few = omega arith }

pub computed_answers : KeysAreComputed
unfolding keys_read
computed_answers bytes = sound (lines_of bytes) [] bytes [] refl none nothing_kept

-- each answer is what is computed

abbrev Follow : ℕ → List Key → List KeysLine → Type 0
Follow time keys lines = DoNotFall time lines × (length (keys ++ all_keys lines) ≤ most_keys)

passed : (bytes : List ℕ) (lines : List KeysLine) → AreLines bytes lines →
    (time : ℕ) (keys : List Key) (place : ℕ) (rest : List ℕ) → Follow time keys lines →
    keys_from time keys place (lines_of (bytes ++ rest))
    ≡ keys_from (last_time time lines) (keys ++ all_keys lines) (place + length bytes) (lines_of rest)
passed bytes lines none time keys place rest follow =
    ap (λ (k : List Key). keys_from time k place (lines_of rest)) (sym (append-nil keys))
    ∙ ap (λ (n : ℕ). keys_from time (keys ++ []) n (lines_of rest)) (sym (add-zero place))
passed bytes lines (more line later says others is are) time keys place rest follow =
    let behind = lines_of (later ++ rest) in
    let split : lines_of ((line ++ 10 ∷ later) ++ rest) ≡ line ∷ behind =
    ap lines_of (append_assoc line (10 ∷ later) rest)
    ∙ lines_of_more line (later ++ rest) (without_line line says is) in
    let joined = append_assoc keys (keys_of says) (all_keys others) in
    let count = length-append (keys ++ keys_of says) (all_keys others) in
    let count_more = length-append keys (keys_of says) in
    let count_line : length (keys_of says) ≡ length says.1 = length-map says.1 (λ b. (says.0, b)) in
    let few : length keys + length says.1 ≤ most_keys =
    omega (arith, ap length joined, count, count_more, count_line, follow.1) in
    let few_more : length ((keys ++ keys_of says) ++ all_keys others) ≤ most_keys =
    omega (arith, ap length joined, follow.1) in
    let next = next_found time (length keys) line says (line_found line says is) follow.0.0 few in
    let later_passed = passed later others are says.0 (keys ++ keys_of says) (place + length line + 1) rest (
      follow.0.1,
      few_more,
    ) in
    let whole_place : place + length line + 1 + length later ≡ place + length (line ++ 10 ∷ later) =
    omega (arith, length-append line (10 ∷ later)) in
    ap (keys_from time keys place) split
    ∙ from_more time keys place line behind (Some says) next
    ∙ later_passed
    ∙ ap (λ (k : List Key). keys_from (last_time says.0 others) k (place + length line + 1 + length later)
    (lines_of rest)) joined
    ∙ ap (λ (n : ℕ). keys_from (last_time says.0 others) (keys ++ all_keys (says ∷ others)) n (lines_of rest))
    whole_place

follow_kept : (lines : List KeysLine) → IsKept lines → Follow 0 [] lines
follow_kept lines kept = (kept.times, kept.few)

passed_all : (bytes rest : List ℕ) (lines : List KeysLine) → AreLines bytes lines → IsKept lines →
    keys_read (bytes ++ rest) ≡ answer lines (0 + length bytes) (lines_of rest)
unfolding keys_read
passed_all bytes rest lines are kept = passed bytes lines are 0 [] 0 rest (follow_kept lines kept)

file_read : (bytes : List ℕ) (lines : List KeysLine) → MayLackFeed bytes lines → IsKept lines →
    keys_read bytes ≡ Ok (all_keys lines)
file_read front all (whole bytes lines are) kept =
    ap keys_read (sym (append-nil bytes)) ∙ passed_all bytes [] lines are kept
    ∙ from_none (last_time 0 lines) (all_keys lines) (0 + length bytes)
file_read front all (lacking bytes last lines says are is) kept =
    let parts = kept_last lines says kept in
    let next = next_found (last_time 0 lines) (length (all_keys lines)) last says (line_found last says is) parts.1
    parts.2 in
    passed_all bytes last lines are parts.0
    ∙ ap (answer lines (0 + length bytes)) (lines_of_last last (line_some last says is) (without_line last says is))
    ∙ from_more (last_time 0 lines) (all_keys lines) (0 + length bytes) last [] (Some says) next
    ∙ from_none says.0 (all_keys lines ++ keys_of says) (0 + length bytes + length last + 1)
    ∙ ap (λ (k : List Key). Ok k) (sym (all_keys_push lines says))

none_unless : {A : Type 0} (o : Option A) → ((x : A) → o ≡ Some x → ⊥) → o ≡ None
none_unless None h = refl
none_unless (Some x) h = absurd (h x refl)

fault_read : (bytes : List ℕ) (place : ℕ) → IsFaultyAt bytes place → keys_read bytes ≡ Err place
fault_read bytes place fault =
    let front = take place bytes in
    let rest = drop place bytes in
    let lines = fault.lines in
    let long : length front ≡ place = length-take-le place bytes (omega (arith, fault.within)) in
    let some : 0 < length rest = omega (arith, length-drop place bytes, fault.within) in
    let nothing = none_unless (next_read (last_time 0 lines) (length (all_keys lines)) (first_line rest))
    (λ says h.
    let next = next_is (last_time 0 lines) (length (all_keys lines)) (first_line rest) says h in
    fault.faulty says (line_is (first_line rest) says next.0) (kept_push lines says fault.kept next.1 next.2)) in
    let at_place : 0 + length front ≡ place = omega (arith, long) in
    ap keys_read (sym (take-append-drop place bytes))
    ∙ passed_all front rest lines fault.are fault.kept
    ∙ ap (answer lines (0 + length front)) (splits rest some)
    ∙ from_more (last_time 0 lines) (all_keys lines) (0 + length front) (first_line rest) (lines_of (behind_line rest))
    None nothing
    ∙ ap (λ (n : ℕ). Err n) at_place

answer_read : (bytes : List ℕ) (a : Result (List Key) ℕ) → IsAnswer bytes a → keys_read bytes ≡ a
answer_read bytes (Ok keys) file = file_read bytes file.lines file.are file.kept
    ∙ ap (λ (k : List Key). Ok k) (sym file.give)
answer_read bytes (Err place) fault = fault_read bytes place fault

pub one_answer : KeysHaveOneAnswer
one_answer bytes a b first second = sym (answer_read bytes a first) ∙ answer_read bytes b second

pub told_answers : (bytes : List ℕ) (a : Result (List Key) ℕ) → keys_read bytes ≡ a → IsAnswer bytes a
told_answers bytes a h = subst (IsAnswer bytes) h (computed_answers bytes)

-- the reader's loop, line by line

time_of_none : (o : Option KeysLine) → None ≡ option_map (λ says. says.0) o → o ≡ None
time_of_none None h = refl
time_of_none (Some says) h = cc

time_of_some : (o : Option KeysLine) (time : ℕ) → Some time ≡ option_map (λ says. says.0) o →
    (says : KeysLine) × (o ≡ Some says) × (says.0 ≡ time)
time_of_some None time h = cc
time_of_some (Some says) time h = (says, refl, cc)

pub loop_fault : (bytes rest line : List ℕ) (time : ℕ) (keys : List Key) (place : ℕ) → 0 < length rest →
    line ≡ first_line rest → keys_from time keys place (lines_of rest) ≡ keys_read bytes →
    None ≡ option_map (λ says. says.0) (next_read time (length keys) line) → Err place ≡ keys_read bytes
loop_fault bytes rest line time keys place some first so_far nothing =
    sym (from_more time keys place line (lines_of (behind_line rest)) None
    (time_of_none (next_read time (length keys) line) nothing))
    ∙ ap (λ (x : List ℕ). keys_from time keys place (x ∷ lines_of (behind_line rest))) first
    ∙ ap (keys_from time keys place) (sym (splits rest some))
    ∙ so_far

pub loop_goes_on : (bytes rest line behind : List ℕ) (time : ℕ) (keys : List Key) (place next : ℕ) (others : List Key) →
    0 < length rest → line ≡ first_line rest → behind ≡ behind_line rest →
    keys_from time keys place (lines_of rest) ≡ keys_read bytes →
    Some next ≡ option_map (λ says. says.0) (next_read time (length keys) line) →
    others ≡ keys ++ keys_said (next_read time (length keys) line) →
    keys_from next others (place + (length line + 1)) (lines_of behind) ≡ keys_read bytes
loop_goes_on bytes rest line behind time keys place next others some first last so_far there added =
    let found = time_of_some (next_read time (length keys) line) next there in
    let says = found.0 in
    let added_keys : others ≡ keys ++ keys_of says =
    added ∙ ap (λ (o : Option KeysLine). keys ++ keys_said o) found.1 in
    let count : place + (length line + 1) ≡ place + length line + 1 = omega arith in
    ap (λ (t : ℕ). keys_from t others (place + (length line + 1)) (lines_of behind)) (sym found.2)
    ∙ ap (λ (k : List Key). keys_from says.0 k (place + (length line + 1)) (lines_of behind)) added_keys
    ∙ ap (λ (n : ℕ). keys_from says.0 (keys ++ keys_of says) n (lines_of behind)) count
    ∙ sym (from_more time keys place line (lines_of behind) (Some says) found.1)
    ∙ ap (λ (x : List ℕ). keys_from time keys place (line ∷ lines_of x)) last
    ∙ ap (λ (x : List ℕ). keys_from time keys place (x ∷ lines_of (behind_line rest))) first
    ∙ ap (keys_from time keys place) (sym (splits rest some))
    ∙ so_far

pub loop_ends : (bytes rest : List ℕ) (time : ℕ) (keys : List Key) (place : ℕ) → length rest ≡ 0 →
    keys_from time keys place (lines_of rest) ≡ keys_read bytes → Ok keys ≡ keys_read bytes
loop_ends bytes [] time keys place nothing so_far = sym (from_none time keys place) ∙ so_far
loop_ends bytes (b ∷ rest) time keys place nothing so_far = absurd (omega arith)

pub loop_begins : (bytes : List ℕ) (keys : List Key) → keys ≡ [] → keys_from 0 keys 0 (lines_of bytes) ≡ keys_read bytes
unfolding keys_read
loop_begins bytes keys nothing = ap (λ (k : List Key). keys_from 0 k 0 (lines_of bytes)) nothing
