-- The files of a valid session are those that can be attached together: each unit takes its file, and no unit comes
-- twice.
use Rattle.std.proofs.Common.{◌≡◌, ◌⊎◌, inl, inr, ℕ, ◌+◌, ◌-◌, ◌<◌, ◌≤◌, Bool, true, false, cond, zero, suc, List, []}
use Rattle.std.proofs.Common.{◌∷◌, length, refl, sym, ap, ◌∙◌, arith}
use Rattle.std.proofs.Common.{subst}
use Rattle.std.specs.Prelude.{nat_le, nat_lt, ◌==◌, ◌&&◌, ◌||◌, not, IsTrue, if◌then◌else◌}
use Rattle.std.specs.List.{AllByRecursion}
use Rattle.std.proofs.lemmas.Bool.{and_parts}
use Rattle.std.proofs.lemmas.Bool.Decides.{nat_tests}
use Rattle.unit_trait.specs.declared.kind.Kind.{Kind}
use Rattle.unit_trait.specs.Kinds.{takes_file, units_of}
use Rattle.unit_trait.proofs.EveryKind.{every-kind}
use Rattle.unit_files.specs.Attachments.{takes_files, takes_attachment, file_place, file_units}
use Rattle.unit_files.specs.Attachments.{only_writes as writes_only}
use Rattle.saved_session.specs.Parts.{FilePart}
use Rattle.saved_session.specs.Ranges.{kind_at, FilePlace, only_writes, is_flag, is_name_length}
use Rattle.saved_session.specs.Order.{behind_file, place_of}
use Rattle.saved_files.specs.PuttingOne.{CanAttach, AreOfTwo, AreApart}
use Rattle.saved_session.specs.Valid.{Follow, IsFile, AreFiles}

-- ---- each can be attached

same-takes : (kind : Kind) → takes_file kind ≡ takes_files kind
same-takes kind =
    every-kind (λ (k : Kind). takes_file k
    ≡ takes_files k) (refl, refl, refl, refl, refl, refl, refl, refl, refl, refl, refl) kind

same-writes : (kind : Kind) → writes_only kind ≡ only_writes kind
same-writes kind =
    every-kind (λ (k : Kind). writes_only k
    ≡ only_writes k) (refl, refl, refl, refl, refl, refl, refl, refl, refl, refl, refl)
    kind

both : (a b : Bool) → a ≡ true → b ≡ true → (a && b) ≡ true
both true b is other = other
both false b is other = absurd cc

long-name : (n : ℕ) → is_name_length n ≡ true → (1 ≤ n) × (n ≤ 255)
long-name n h = (grind (arith, nat_tests), grind (arith, nat_tests))

written-alone : (only : Bool) (n : ℕ) → (is_flag n && ((n == 0) || not only)) ≡ true → only ≡ true → (n == 1) ≡ false
written-alone only n h is = grind (arith, nat_tests)

pub can-attach : (least : FilePlace) (f : FilePart) → IsFile least f → CanAttach f
can-attach least f is =
    let position = and_parts (nat_le least.position f.position) (takes_file (kind_at f.position)) is.position in
    let unit = and_parts (nat_lt f.unit (units_of (kind_at f.position)))
    (nat_lt least.position f.position || nat_le least.unit f.unit) is.unit in
    record {
      unit = both (takes_files (kind_at f.position)) (nat_lt f.unit (units_of (kind_at f.position)))
          (sym (same-takes (kind_at f.position)) ∙ position.1) unit.0;
      name = long-name (length f.name) is.long;
      written = λ only.
          written-alone (only_writes (kind_at f.position)) f.read_only is.read_only
          (sym (same-writes (kind_at f.position)) ∙ only);
    }

-- ---- no two are of one unit

-- the position and the number of the unit that has a place
position_at : ℕ → ℕ
position_at place = if nat_lt place 1 then 0 else if nat_lt place 9 then 1 else place - 7

number_at : ℕ → ℕ
number_at place = if nat_lt place 1 then 0 else if nat_lt place 9 then place - 1 else 0

record IsPlaced (position unit place : ℕ) : Type 0 where
  position_is : position_at place ≡ position
  unit_is : number_at place ≡ unit

tape-placed : (unit : ℕ) → nat_lt unit 8 ≡ true → IsPlaced 1 unit (cond (nat_lt unit 8) (1 + unit) 12)
unfolding position_at number_at
tape-placed unit few =
    let here : unit < 8 = grind (arith, nat_tests) in
    let place : cond (nat_lt unit 8) (1 + unit) 12 ≡ 1 + unit = ap (λ (b : Bool). cond b (1 + unit) 12) few in
    subst (λ (n : ℕ). IsPlaced 1 unit n) (sym place)
    (record { position_is = grind (arith, nat_tests, here); unit_is = grind (arith, nat_tests, here) })

one-placed : (position unit place : ℕ) → position_at place ≡ position → number_at place ≡ 0 → nat_lt unit 1 ≡ true
    → IsPlaced position unit (cond (nat_lt unit 1) place 12)
one-placed position unit place at first few =
    let none : unit ≡ 0 = grind (arith, nat_tests) in
    let here : cond (nat_lt unit 1) place 12 ≡ place = ap (λ (b : Bool). cond b place 12) few in
    subst (λ (n : ℕ). IsPlaced position unit n) (sym here) (record { position_is = at; unit_is = first ∙ sym none })

placed : (position unit : ℕ) → IsTrue (takes_attachment (record { kind = kind_at position; unit = unit }))
    → IsPlaced position unit (file_place (record { kind = kind_at position; unit = unit }))
unfolding kind_at position_at number_at
placed zero unit takes = one-placed 0 unit 0 refl refl takes
placed (suc zero) unit takes = tape-placed unit takes
placed (suc (suc zero)) unit takes = one-placed 2 unit 9 refl refl takes
placed (suc (suc (suc zero))) unit takes = one-placed 3 unit 10 refl refl takes
placed (suc (suc (suc (suc zero)))) unit takes = one-placed 4 unit 11 refl refl takes
placed (suc (suc (suc (suc (suc zero))))) unit takes = absurd cc
placed (suc (suc (suc (suc (suc (suc zero)))))) unit takes = absurd cc
placed (suc (suc (suc (suc (suc (suc (suc zero))))))) unit takes = absurd cc
placed (suc (suc (suc (suc (suc (suc (suc (suc zero)))))))) unit takes = absurd cc
placed (suc (suc (suc (suc (suc (suc (suc (suc (suc zero))))))))) unit takes = absurd cc
placed (suc (suc (suc (suc (suc (suc (suc (suc (suc (suc zero)))))))))) unit takes = absurd cc
placed (suc (suc (suc (suc (suc (suc (suc (suc (suc (suc (suc n))))))))))) unit takes = absurd cc

-- a file that comes at that place or behind it
IsFrom : FilePlace → FilePart → Type 0
IsFrom least f = (least.position < f.position) ⊎ ((least.position ≡ f.position) × (least.unit ≤ f.unit))

is-from : (p q u v : ℕ) → nat_le p q ≡ true → (nat_lt p q || nat_le u v) ≡ true → (p < q) ⊎ ((p ≡ q) × (u ≤ v))
is-from p q u v at next = by-test (nat_lt p q) refl next
  where
    by-test : (b : Bool) → nat_lt p q ≡ b → (b || nat_le u v) ≡ true → (p < q) ⊎ ((p ≡ q) × (u ≤ v))
    by-test true e h = inl (grind (arith, nat_tests))
    by-test false e h = inr (grind (arith, nat_tests), grind (arith, nat_tests))

is-later : (p u q v r w : ℕ) → (p < q) ⊎ ((p ≡ q) × (u ≤ v)) → (q < r) ⊎ ((q ≡ r) × (v + 1 ≤ w))
    → (p < r) ⊎ ((p ≡ r) × (u ≤ w))
is-later p u q v r w (inl a) (inl b) = inl (omega (arith, a, b))
is-later p u q v r w (inl a) (inr b) = let same = b.0 in inl (omega (arith, a, same))
is-later p u q v r w (inr a) (inl b) = let same = a.0 in inl (omega (arith, b, same))
is-later p u q v r w (inr a) (inr b) =
    let one = a.0 in let two = b.0 in let low = a.1 in let high = b.1 in
    inr (omega (arith, one, two), omega (arith, low, high))

first-from : (least : FilePlace) (f : FilePart) → IsFile least f → IsFrom least f
unfolding IsFrom
first-from least f is =
    let position = and_parts (nat_le least.position f.position) (takes_file (kind_at f.position)) is.position in
    let unit = and_parts (nat_lt f.unit (units_of (kind_at f.position)))
    (nat_lt least.position f.position || nat_le least.unit f.unit) is.unit in
    is-from least.position f.position least.unit f.unit position.0 unit.1

later-from : (least : FilePlace) (f g : FilePart) → IsFrom least f → IsFrom (behind_file least f) g → IsFrom least g
unfolding IsFrom
later-from least f g one two =
    is-later least.position least.unit f.position f.unit g.position g.unit one two

all-from : (least : FilePlace) (fs : List FilePart) → Follow IsFile behind_file least fs
    → AllByRecursion (IsFrom least) fs
all-from least [] each = tt
all-from least (f ∷ fs) each =
    let here = first-from least f each.0 in
    (here, each-from fs (all-from (behind_file least f) fs each.1))
  where
    each-from : (gs : List FilePart) → AllByRecursion (IsFrom (behind_file least f)) gs
        → AllByRecursion (IsFrom least) gs
    each-from [] h = tt
    each-from (g ∷ gs) h = (later-from least f g (first-from least f each.0) h.0, each-from gs h.1)

two-apart : (least : FilePlace) (f g : FilePart) → CanAttach f → CanAttach g → IsFrom (behind_file least f) g
    → AreOfTwo f g
unfolding IsFrom
two-apart least f g can other from = λ same.
    let one = placed f.position f.unit can.unit in
    let two = placed g.position g.unit other.unit in
    let position : f.position ≡ g.position = sym one.position_is ∙ ap position_at same ∙ two.position_is in
    let unit : f.unit ≡ g.unit = sym one.unit_is ∙ ap number_at same ∙ two.unit_is in
    by-place from position unit
  where
    by-place : (f.position < g.position) ⊎ ((f.position ≡ g.position) × (f.unit + 1 ≤ g.unit)) → f.position ≡ g.position
        → f.unit ≡ g.unit → ⊥
    by-place (inl a) position unit = omega (arith, a, position)
    by-place (inr b) position unit = let high = b.1 in omega (arith, high, unit)

pub each-can : (least : FilePlace) (fs : List FilePart) → Follow IsFile behind_file least fs
    → AllByRecursion CanAttach fs
each-can least [] each = tt
each-can least (f ∷ fs) each = (can-attach least f each.0, each-can (behind_file least f) fs each.1)

others-apart : (least : FilePlace) (f : FilePart) (gs : List FilePart) → CanAttach f → AllByRecursion CanAttach gs
    → AllByRecursion (IsFrom (behind_file least f)) gs → AllByRecursion (AreOfTwo f) gs
others-apart least f [] can cans from = tt
others-apart least f (g ∷ gs) can cans from =
    (two-apart least f g can cans.0 from.0, others-apart least f gs can cans.1 from.1)

pub all-apart : (least : FilePlace) (fs : List FilePart) → Follow IsFile behind_file least fs → AreApart fs
all-apart least [] each = tt
all-apart least (f ∷ fs) each =
    let next = behind_file least f in (
      others-apart least f fs (can-attach least f each.0) (each-can next fs each.1) (all-from next fs each.1),
      all-apart next fs each.1,
    )

-- ---- there are no more of them than units that can have one

-- the place of a unit among those that can have a file, by its position and number
IsAmong : ℕ → ℕ → ℕ → Type 0
IsAmong position unit place =
    ((position ≡ 0) × (unit ≡ 0) × (place ≡ 0)) ⊎ ((position ≡ 1) × (unit < 8) × (place ≡ 1 + unit))
    ⊎ ((1 < position) × (unit ≡ 0) × (place ≡ 7 + position))

first-among : (unit : ℕ) → nat_lt unit 1 ≡ true → (place : ℕ) × (place < 12) × IsAmong 0 unit place
unfolding IsAmong
first-among unit few =
    let none : unit ≡ 0 = grind (arith, nat_tests) in
    (0, omega arith, inl (refl, none, refl))

tape-among : (unit : ℕ) → nat_lt unit 8 ≡ true → (place : ℕ) × (place < 12) × IsAmong 1 unit place
unfolding IsAmong
tape-among unit few =
    let some : unit < 8 = grind (arith, nat_tests) in
    (1 + unit, omega (arith, some), inr (inl (refl, some, refl)))

paper-among : (position unit : ℕ) → 1 < position → position < 5 → nat_lt unit 1 ≡ true
    → (place : ℕ) × (place < 12) × IsAmong position unit place
unfolding IsAmong
paper-among position unit low high few =
    let none : unit ≡ 0 = grind (arith, nat_tests) in
    (7 + position, omega (arith, high), inr (inr (low, none, refl)))

among : (position unit : ℕ) → IsTrue (takes_attachment (record { kind = kind_at position; unit = unit }))
    → (place : ℕ) × (place < 12) × IsAmong position unit place
unfolding kind_at
among zero unit takes = first-among unit takes
among (suc zero) unit takes = tape-among unit takes
among (suc (suc zero)) unit takes = paper-among 2 unit (omega arith) (omega arith) takes
among (suc (suc (suc zero))) unit takes = paper-among 3 unit (omega arith) (omega arith) takes
among (suc (suc (suc (suc zero)))) unit takes = paper-among 4 unit (omega arith) (omega arith) takes
among (suc (suc (suc (suc (suc zero))))) unit takes = absurd cc
among (suc (suc (suc (suc (suc (suc zero)))))) unit takes = absurd cc
among (suc (suc (suc (suc (suc (suc (suc zero))))))) unit takes = absurd cc
among (suc (suc (suc (suc (suc (suc (suc (suc zero)))))))) unit takes = absurd cc
among (suc (suc (suc (suc (suc (suc (suc (suc (suc zero))))))))) unit takes = absurd cc
among (suc (suc (suc (suc (suc (suc (suc (suc (suc (suc zero)))))))))) unit takes = absurd cc
among (suc (suc (suc (suc (suc (suc (suc (suc (suc (suc (suc n))))))))))) unit takes = absurd cc

-- the unit of a later file has a later place
rising : (p u m q v n : ℕ) → IsAmong p u m → IsAmong q v n → (p < q) ⊎ ((p ≡ q) × (u + 1 ≤ v)) → m < n
unfolding IsAmong
rising p u m q v n (inl (fp, fu, fn)) (inl (gp, gu, gn)) (inl a) = omega (arith, fp, fu, fn, gp, gu, gn, a)
rising p u m q v n (inl (fp, fu, fn)) (inl (gp, gu, gn)) (inr a) = let same = a.0 in let later = a.1 in omega (arith, fp, fu, fn, gp, gu, gn, same, later)
rising p u m q v n (inl (fp, fu, fn)) (inr (inl (gp, gu, gn))) (inl a) = omega (arith, fp, fu, fn, gp, gu, gn, a)
rising p u m q v n (inl (fp, fu, fn)) (inr (inl (gp, gu, gn))) (inr a) = let same = a.0 in let later = a.1 in omega (arith, fp, fu, fn, gp, gu, gn, same, later)
rising p u m q v n (inl (fp, fu, fn)) (inr (inr (gp, gu, gn))) (inl a) = omega (arith, fp, fu, fn, gp, gu, gn, a)
rising p u m q v n (inl (fp, fu, fn)) (inr (inr (gp, gu, gn))) (inr a) = let same = a.0 in let later = a.1 in omega (arith, fp, fu, fn, gp, gu, gn, same, later)
rising p u m q v n (inr (inl (fp, fu, fn))) (inl (gp, gu, gn)) (inl a) = omega (arith, fp, fu, fn, gp, gu, gn, a)
rising p u m q v n (inr (inl (fp, fu, fn))) (inl (gp, gu, gn)) (inr a) = let same = a.0 in let later = a.1 in omega (arith, fp, fu, fn, gp, gu, gn, same, later)
rising p u m q v n (inr (inl (fp, fu, fn))) (inr (inl (gp, gu, gn))) (inl a) = omega (arith, fp, fu, fn, gp, gu, gn, a)
rising p u m q v n (inr (inl (fp, fu, fn))) (inr (inl (gp, gu, gn))) (inr a) = let same = a.0 in let later = a.1 in omega (arith, fp, fu, fn, gp, gu, gn, same, later)
rising p u m q v n (inr (inl (fp, fu, fn))) (inr (inr (gp, gu, gn))) (inl a) = omega (arith, fp, fu, fn, gp, gu, gn, a)
rising p u m q v n (inr (inl (fp, fu, fn))) (inr (inr (gp, gu, gn))) (inr a) = let same = a.0 in let later = a.1 in omega (arith, fp, fu, fn, gp, gu, gn, same, later)
rising p u m q v n (inr (inr (fp, fu, fn))) (inl (gp, gu, gn)) (inl a) = omega (arith, fp, fu, fn, gp, gu, gn, a)
rising p u m q v n (inr (inr (fp, fu, fn))) (inl (gp, gu, gn)) (inr a) = let same = a.0 in let later = a.1 in omega (arith, fp, fu, fn, gp, gu, gn, same, later)
rising p u m q v n (inr (inr (fp, fu, fn))) (inr (inl (gp, gu, gn))) (inl a) = omega (arith, fp, fu, fn, gp, gu, gn, a)
rising p u m q v n (inr (inr (fp, fu, fn))) (inr (inl (gp, gu, gn))) (inr a) = let same = a.0 in let later = a.1 in omega (arith, fp, fu, fn, gp, gu, gn, same, later)
rising p u m q v n (inr (inr (fp, fu, fn))) (inr (inr (gp, gu, gn))) (inl a) = omega (arith, fp, fu, fn, gp, gu, gn, a)
rising p u m q v n (inr (inr (fp, fu, fn))) (inr (inr (gp, gu, gn))) (inr a) = let same = a.0 in let later = a.1 in omega (arith, fp, fu, fn, gp, gu, gn, same, later)

-- from a place on
IsBehind : ℕ → FilePlace → Type 0
IsBehind bound least = (g : FilePart) (place : ℕ) → IsFrom least g → IsAmong g.position g.unit place → bound ≤ place

fewer : (bound : ℕ) (least : FilePlace) (fs : List FilePart) → bound ≤ 12 → IsBehind bound least
    → Follow IsFile behind_file least fs → length fs + bound ≤ 12
unfolding IsFrom IsBehind
fewer bound least [] within behind each = omega (arith, within)
fewer bound least (f ∷ fs) within behind each =
    let here = among f.position f.unit (can-attach least f each.0).unit in
    let low = behind f here.0 (first-from least f each.0) here.2 in
    let high = here.1 in
    let others = fewer (here.0 + 1) (behind_file least f) fs (omega (arith, high)) (λ g place from is.
    let more = rising f.position f.unit here.0 g.position g.unit place here.2 is from in omega (arith, more)) each.1 in
    omega (arith, others, low)

pub few-files : (fs : List FilePart) → AreFiles fs → length fs ≤ file_units
unfolding IsBehind
few-files fs valid =
    let few = fewer 0 (place_of 0 0) fs (omega arith) (λ g place from is. omega arith) valid.each in
    omega (arith, few)
