-- What comes in pieces: what was read stays read, and a fault stays one, whatever comes behind.
use Rattle.std.proofs.Common.{◌≡◌, ℕ, suc, ◌-◌, ◌<◌, Bool, true, false, List, [], ◌∷◌, ◌++◌, length, take, drop, Result, Ok, Err, Option, Some, None, refl, sym, ap, subst, ◌∙◌, append_assoc, append-nil, arith, eq-eqb}
use Rattle.std.specs.Prelude.{◌&&◌, ◌==◌}
use Rattle.std.specs.Option.{is_some}
use Rattle.std.proofs.lemmas.List.{take-append-drop, drop_at, length-append, length-take-le}
use Rattle.sha2.specs.Hashers.{Holds256}
use Rattle.byte_layouts.specs.declared.fault.FieldFault.{FieldFault}
use Rattle.byte_layouts.specs.declared.fault.FieldFault.TheVariants.{Truncated, OutOfMemory}
use Rattle.byte_layouts.specs.Readers.{At, at_of, Reader, followed, gives, chain, with_last, longer, Fails}
use Rattle.byte_layouts.specs.Layout.{Layout, text, reading}
use Rattle.byte_layouts.specs.Held.{Held, at_in, IsBytes, IsPassed, IsThere, Passed}
use Rattle.byte_layouts.specs.Parts.{Found, Taken, Takes, Further, IsRead, GoesOn, rest_of_one, rest_of_elements, rest_of_list, rest_of_measured, rest_of_telling, both}
use Rattle.byte_layouts.proofs.LayoutLaws.{law}

-- ---- bytes that were passed

pub none_passed : (h : Held) → Passed h h
none_passed h = record { read = []; parts = refl; place = omega arith; hashed = λ m it. subst (Holds256 h.hasher) (sym (append-nil m)) it }

pub both_passed : (a b c : Held) → Passed a b → Passed b c → Passed a c
both_passed a b c one two = record {
  read = one.read ++ two.read;
  parts = one.parts ∙ ap (λ (l : List ℕ). one.read ++ l) two.parts ∙ sym (append_assoc one.read two.read c.rest);
  place = omega (arith, one.place, two.place, length-append one.read two.read);
  hashed = λ m it. subst (Holds256 c.hasher) (append_assoc m one.read two.read) (two.hashed (m ++ one.read) (one.hashed m it));
}

passed_to : (old new : Held) (place : ℕ) → IsThere old place → IsPassed old new place → Passed old new
passed_to old new place there passed =
    let n = place - old.place in
    let after : new.rest ≡ drop n old.rest = ap (λ (a : At). a.rest) passed.at in
    let put : new.place ≡ place = ap (λ (a : At). a.place) passed.at in
    record {
      read = take n old.rest;
      parts = sym (take-append-drop n old.rest) ∙ ap (λ (l : List ℕ). take n old.rest ++ l) (sym after);
      place = let forward = there.forward in let within = there.within in omega (arith, put, forward, length-take-le n old.rest within);
      hashed = passed.hashed;
    }

-- ---- one value

-- by the places before and behind
pub found : {A : Type 0} (l : Layout A) (h : Held) (cursor next : At) (x : A) (place : ℕ) → IsBytes h.rest → cursor ≡ at_in h
    → reading l cursor ≡ Ok (x, next) → place ≡ next.place → Found h x place (reading l (at_in h))
found {A} l h cursor next x place bytes at read is =
    let e : reading l (at_in h) ≡ Ok (x, next) = ap (reading l) (sym at) ∙ read in
    let took = ((law l).takes (at_in h) next x bytes e).0 in
    let behind = took.place in
    let used : place - h.place ≡ length (text l x) = omega (arith, behind, is) in
    let size : length h.rest ≡ length (text l x ++ next.rest) = ap (λ (l : List ℕ). length l) took.parts in
    let rest : drop (place - h.place) h.rest ≡ next.rest = ap (λ (l : List ℕ). drop (place - h.place) l) took.parts ∙ drop_at (text l x) next.rest (place - h.place) (sym used) in
    record {
      is = e ∙ (λ i. Ok (x, at_of (sym is i) (sym rest i)));
      there = record { forward = omega (arith, behind, is); within = omega (arith, used, size, length-append (text l x) next.rest) };
    }

pub taken : {A : Type 0} (l : Layout A) (old new : Held) (x : A) (place : ℕ) → IsBytes old.rest → Found old x place (reading l (at_in old)) → IsPassed old new place → Taken (reading l) x old new
taken {A} l old new x place bytes it passed = record {
  passed = passed_to old new place it.there passed;
  found = λ tail. (law l).more (at_in old) (at_of place (drop (place - old.place) old.rest)) x tail bytes it.is ∙ ap (λ (a : At). Ok (x, longer a tail)) (sym passed.at);
}

pub missed : {X Y : Type 0} (view : X → Y) (l : Layout Y) (fault : FieldFault) (h : Held) → IsBytes h.rest → Fails fault (reading l (at_in h)) → Takes view (reading l) (Err fault) h h
missed view l OutOfMemory h bytes e = tt
missed view l Truncated h bytes e = record { same = refl; short = e }
missed view l fault h bytes e = λ tail. (law l).bad (at_in h) fault tail bytes e (λ q. absurd cc)

-- ---- a part

pub none_further : {Y : Type 0} (reader : Reader Y) (h : Held) → Further reader reader h h
none_further reader h = record { passed = none_passed h; goes = λ tail. refl }

pub both_further : {Y : Type 0} (a b c : Reader Y) (old mid new : Held) → Further a b old mid → Further b c mid new → Further a c old new
both_further a b c old mid new one two = record { passed = both_passed old mid new one.passed two.passed; goes = λ tail. one.goes tail ∙ two.goes tail }

-- a part that was read on before
pub goes_on : {Y : Type 0} (over : Type 0) (result : Result (Unit {0}) FieldFault) (a b c : Reader Y) (old mid new : Held) → Further a b old mid → GoesOn over result b c mid new → GoesOn over result a c old new
goes_on over (Ok u) a b c old mid new one it = (both_further a b c old mid new one it.0, it.1, it.2)
goes_on over (Err OutOfMemory) a b c old mid new one it = tt
goes_on over (Err Truncated) a b c old mid new one it = (both_further a b c old mid new one it.0, it.1)
goes_on over (Err fault) a b c old mid new one it = λ tail. one.goes tail ∙ it tail

-- what is read first has the fault of what is read
abbrev pub StopsWith : {Y Z : Type 0} → Reader Z → Reader Y → Type 0
StopsWith reader rest = (at : At) (fault : FieldFault) → reader at ≡ Err fault → rest at ≡ Err fault

pub stops : {X Y Z : Type 0} (over : Type 0) (view : X → Z) (reader : Reader Z) (fault : FieldFault) (a b : Reader Y) (old mid new : Held)
    → Further a b old mid → StopsWith reader b → Takes view reader (Err fault) mid new → GoesOn over (Err fault) a b old new
stops over view reader OutOfMemory a b old mid new so_far first it = tt
stops over view reader Truncated a b old mid new so_far first it =
    subst (λ (h : Held). Further a b old h × (b (at_in h) ≡ Err Truncated)) (sym it.same) (so_far, first (at_in mid) Truncated it.short)
stops over view reader fault a b old mid new so_far first it = λ tail. so_far.goes tail ∙ first (longer (at_in mid) tail) fault (it tail)

-- ---- one value

pub one_read : {X Y : Type 0} (view : X → Y) (reader : Reader Y) (o : Option X) (x : X) (old new : Held) → is_some o ≡ false → Taken reader (view x) old new
    → Further (rest_of_one view reader o) (gives (view x)) old new
one_read view reader None x old new none it = record { passed = it.passed; goes = it.found }
one_read view reader (Some y) x old new none it = absurd cc

pub one_missed : {X Y : Type 0} (over : Type 0) (view : X → Y) (reader : Reader Y) (o : Option X) (fault : FieldFault) (old new : Held) → is_some o ≡ false → Takes view reader (Err fault) old new
    → GoesOn over (Err fault) (rest_of_one view reader o) (rest_of_one view reader o) old new
one_missed over view reader None fault old new none it = stops over view reader fault reader reader old old new (none_further reader old) (λ at f e. e) it
one_missed over view reader (Some y) fault old new none it = absurd cc

pub one_there : {X Y : Type 0} (view : X → Y) (reader : Reader Y) (o : Option X) → is_some o ≡ true → IsRead (rest_of_one view reader o)
one_there view reader None some = absurd cc
one_there view reader (Some x) some = (view x, λ at. refl)

-- ---- lists

abbrev put_before : {A : Type 0} → List A → Result (List A × At) FieldFault → Result (List A × At) FieldFault
put_before front read = followed read (λ xs next. Ok (front ++ xs, next))

abbrev put_first : {A : Type 0} → A → Result (List A × At) FieldFault → Result (List A × At) FieldFault
put_first x read = followed read (λ xs at. Ok (x ∷ xs, at))

one_more : {A : Type 0} (front : List A) (x : A) (read : Result (List A × At) FieldFault) → put_before front (put_first x read) ≡ put_before (with_last front x) read
one_more {A} front x (Ok y) = ap (λ (xs : List A). Ok (xs, y.1)) (sym (append_assoc front (x ∷ []) y.0))
one_more front x (Err fault) = refl

-- the next element was read
one_on : {A : Type 0} (each : List A → Reader A) (left : ℕ) (front : List A) (at after : At) (x : A) → 0 < left → each front at ≡ Ok (x, after)
    → rest_of_elements each left front at ≡ rest_of_elements each (left - 1) (with_last front x) after
one_on {A} each left front at after x some read =
    let k : left ≡ suc (left - 1) = omega (arith, some) in
    ap (λ (n : ℕ). rest_of_elements each n front at) k
    ∙ ap (λ (z : Result (A × At) FieldFault). put_before front (followed z (λ y a. put_first y (chain each with_last (left - 1) (with_last front y) a)))) read
    ∙ one_more front x (chain each with_last (left - 1) (with_last front x) after)

pub further_on : {A : Type 0} (each : List A → Reader A) (a : Reader (List A)) (left : ℕ) (front : List A) (old mid new : Held) (x : A) → 0 < left → Further a (rest_of_elements each left front) old mid
    → Taken (each front) x mid new → Further a (rest_of_elements each (left - 1) (with_last front x)) old new
further_on each a left front old mid new x some so_far it = record {
  passed = both_passed old mid new so_far.passed it.passed;
  goes = λ tail. so_far.goes tail ∙ one_on each left front (longer (at_in mid) tail) (longer (at_in new) tail) x some (it.found tail);
}

pub element_first : {A : Type 0} (each : List A → Reader A) (left : ℕ) (front : List A) → 0 < left → StopsWith (each front) (rest_of_elements each left front)
element_first {A} each left front some at fault e =
    let k : left ≡ suc (left - 1) = omega (arith, some) in
    ap (λ (n : ℕ). rest_of_elements each n front at) k
    ∙ ap (λ (z : Result (A × At) FieldFault). put_before front (followed z (λ y a. put_first y (chain each with_last (left - 1) (with_last front y) a)))) e

pub none_left : {A : Type 0} (each : List A → Reader A) (left : ℕ) (front : List A) → left ≡ 0 → IsRead (rest_of_elements each left front)
none_left {A} each left front none = (front, λ at. ap (λ (n : ℕ). rest_of_elements each n front at) none ∙ ap (λ (l : List A). Ok (l, at)) (append-nil front))

-- ---- a part and another

abbrev put_second : {A B : Type 0} → A → Result (B × At) FieldFault → Result ((A × B) × At) FieldFault
put_second x read = followed read (λ y next. Ok ((x, y), next))

pub first_first : {A B : Type 0} (a : Reader A) (b : Reader B) → StopsWith a (both a b)
first_first {A} {B} a b at fault e = ap (λ (z : Result (A × At) FieldFault). followed z (λ x next. put_second x (b next))) e

-- where the first was read
behind_read : {A B : Type 0} (a : Reader A) (b : Reader B) (read : IsRead a) (at : At) → both a b at ≡ put_second read.0 (b at)
behind_read {A} {B} a b read at = ap (λ (z : Result (A × At) FieldFault). followed z (λ x next. put_second x (b next))) (read.1 at)

first_further : {A B : Type 0} (a c : Reader A) (b : Reader B) (old new : Held) → Further a c old new → Further (both a b) (both c b) old new
first_further {A} {B} a c b old new it = record {
  passed = it.passed;
  goes = λ tail. ap (λ (z : Result (A × At) FieldFault). followed z (λ x next. put_second x (b next))) (it.goes tail);
}

second_further : {A B : Type 0} (a : Reader A) (b d : Reader B) (old new : Held) → IsRead a → Further b d old new → Further (both a b) (both a d) old new
second_further {A} {B} a b d old new read it = record {
  passed = it.passed;
  goes = λ tail. behind_read a b read (longer (at_in old) tail) ∙ ap (put_second read.0) (it.goes tail) ∙ sym (behind_read a d read (longer (at_in new) tail));
}

both_read : {A B : Type 0} (a : Reader A) (b : Reader B) → IsRead a → IsRead b → IsRead (both a b)
both_read a b one two = ((one.0, two.0), λ at. behind_read a b one at ∙ ap (put_second one.0) (two.1 at))

second_goes : {A B : Type 0} (over also : Bool) (result : Result (Unit {0}) FieldFault) (a : Reader A) (b d : Reader B) (old new : Held) → IsRead a → over ≡ true → GoesOn (also ≡ true) result b d old new
    → GoesOn ((over && also) ≡ true) result (both a b) (both a d) old new
second_goes over also (Ok u) a b d old new read has it = (second_further a b d old new read it.0, both_read a d read it.1, ap (λ (x : Bool). x && also) has ∙ it.2)
second_goes over also (Err OutOfMemory) a b d old new read has it = tt
second_goes over also (Err Truncated) a b d old new read has it = (second_further a b d old new read it.0, behind_read a d read (at_in new) ∙ ap (put_second read.0) it.1)
second_goes over also (Err fault) a b d old new read has it = λ tail. behind_read a b read (longer (at_in old) tail) ∙ ap (put_second read.0) (it tail)

pub both_go : {A B : Type 0} (over also : Bool) (result : Result (Unit {0}) FieldFault) (a c : Reader A) (b d : Reader B) (old mid new : Held)
    → Further a c old mid → IsRead c → over ≡ true → GoesOn (also ≡ true) result b d mid new → GoesOn ((over && also) ≡ true) result (both a b) (both c d) old new
both_go over also result a c b d old mid new one read has it =
    goes_on ((over && also) ≡ true) result (both a b) (both c b) (both c d) old mid new (first_further a c b old mid one) (second_goes over also result c b d mid new read has it)

pub first_stops : {A B : Type 0} (over also : Type 0) (fault : FieldFault) (a c : Reader A) (b : Reader B) (old new : Held) → GoesOn over (Err fault) a c old new
    → GoesOn also (Err fault) (both a b) (both c b) old new
first_stops over also OutOfMemory a c b old new it = tt
first_stops over also Truncated a c b old new it = (first_further a c b old new it.0, first_first c b (at_in new) Truncated it.1)
first_stops over also fault a c b old new it = λ tail. first_first a b (longer (at_in old) tail) fault (it tail)

-- ---- a list behind the number of its elements

pub count_read : {A : Type 0} (counts : Reader ℕ) (each : List A → Reader A) (counted : Bool) (left count : ℕ) (front : List A) (old new : Held) → counted ≡ false → Taken counts count old new
    → Further (rest_of_list counts each counted left front) (rest_of_elements each count front) old new
count_read counts each true left count front old new none it = absurd cc
count_read {A} counts each false left count front old new none it = record {
  passed = it.passed;
  goes = λ tail. ap (λ (z : Result (ℕ × At) FieldFault). followed z (λ n. rest_of_elements each n front)) (it.found tail);
}

pub count_there : {A : Type 0} (counts : Reader ℕ) (each : List A → Reader A) (counted : Bool) (left : ℕ) (front : List A) (h : Held) → counted ≡ true
    → Further (rest_of_list counts each counted left front) (rest_of_elements each left front) h h
count_there counts each true left front h some = none_further (rest_of_elements each left front) h
count_there counts each false left front h some = absurd cc

also_over : {Y : Type 0} (over also : Type 0) (result : Result (Unit {0}) FieldFault) (a b : Reader Y) (old new : Held) → (over → also) → GoesOn over result a b old new → GoesOn also result a b old new
also_over over also (Ok u) a b old new more it = (it.0, it.1, more it.2)
also_over over also (Err OutOfMemory) a b old new more it = tt
also_over over also (Err Truncated) a b old new more it = it
also_over over also (Err fault) a b old new more it = it

pub list_goes : {A : Type 0} (result : Result (Unit {0}) FieldFault) (counts : Reader ℕ) (each : List A → Reader A) (before : Reader (List A)) (counted : Bool) (left more : ℕ) (front all : List A) (old mid new : Held)
    → Further before (rest_of_elements each left front) old mid → counted ≡ true → GoesOn (more ≡ 0) result (rest_of_elements each left front) (rest_of_elements each more all) mid new
    → GoesOn ((counted && more == 0) ≡ true) result before (rest_of_list counts each counted more all) old new
list_goes result counts each before true left more front all old mid new one is it =
    also_over (more ≡ 0) ((true && more == 0) ≡ true) result before (rest_of_elements each more all) old new (λ e. eq-eqb more 0 e)
    (goes_on (more ≡ 0) result before (rest_of_elements each left front) (rest_of_elements each more all) old mid new one it)
list_goes result counts each before false left more front all old mid new one is it = absurd cc

-- ---- a value and those behind it, as many as it tells

abbrev put_last : {Y A : Type 0} → Y → Result (A × At) FieldFault → Result ((Y × A) × At) FieldFault
put_last y read = followed read (λ xs next. Ok ((y, xs), next))

pub head_taken : {X Y A : Type 0} (view : X → Y) (count : Y → ℕ) (reader : Reader Y) (each : List A → Reader A) (o : Option X) (x : X) (left n : ℕ) (front : List A) (old new : Held) → is_some o ≡ false → n ≡ count (view x)
    → Taken reader (view x) old new → Further (rest_of_measured view count reader each o left front) (rest_of_measured view count reader each (Some x) n front) old new
head_taken view count reader each (Some y) x left n front old new none is it = absurd cc
head_taken {X} {Y} {A} view count reader each None x left n front old new none is it = record {
  passed = it.passed;
  goes = λ tail. ap (λ (z : Result (Y × At) FieldFault). followed z (λ y next. put_last {A = List A} y (rest_of_elements each (count y) front next))) (it.found tail)
      ∙ ap (λ (k : ℕ). put_last {A = List A} (view x) (rest_of_elements each k front (longer (at_in new) tail))) (sym is);
}

pub measured_goes : {X Y A : Type 0} (result : Result (Unit {0}) FieldFault) (view : X → Y) (count : Y → ℕ) (reader : Reader Y) (each : List A → Reader A) (before : Reader (Y × List A)) (o : Option X) (left more : ℕ) (front all : List A)
    (old mid new : Held) → Further before (rest_of_measured view count reader each o left front) old mid → is_some o ≡ true → GoesOn (more ≡ 0) result (rest_of_elements each left front) (rest_of_elements each more all) mid new
    → GoesOn ((is_some o && more == 0) ≡ true) result before (rest_of_measured view count reader each o more all) old new
measured_goes result view count reader each before None left more front all old mid new one some it = absurd cc
measured_goes {X} {Y} {A} result view count reader each before (Some x) left more front all old mid new one some it =
    goes_on ((true && more == 0) ≡ true) result before (rest_of_measured view count reader each (Some x) left front) (rest_of_measured view count reader each (Some x) more all) old mid new one
    (behind_goes result (rest_of_elements each left front) (rest_of_elements each more all) mid new it)
  where
    behind_goes : (result : Result (Unit {0}) FieldFault) (b d : Reader (List A)) (old new : Held) → GoesOn (more ≡ 0) result b d old new
        → GoesOn ((true && more == 0) ≡ true) result (λ at. put_last (view x) (b at)) (λ at. put_last (view x) (d at)) old new
    behind_goes (Ok u) b d old new it = (
      record { passed = it.0.passed; goes = λ tail. ap (put_last (view x)) (it.0.goes tail) },
      ((view x, it.1.0), λ at. ap (put_last (view x)) (it.1.1 at)),
      eq-eqb more 0 it.2,
    )
    behind_goes (Err OutOfMemory) b d old new it = tt
    behind_goes (Err Truncated) b d old new it = (record { passed = it.0.passed; goes = λ tail. ap (put_last (view x)) (it.0.goes tail) }, ap (put_last (view x)) it.1)
    behind_goes (Err fault) b d old new it = λ tail. ap (put_last (view x)) (it tail)

none_before : {A : Type 0} (read : Result (List A × At) FieldFault) → put_before [] read ≡ read
none_before (Ok x) = refl
none_before (Err fault) = refl

same_followed : {A B : Type 0} (read : Result (A × At) FieldFault) (f g : A → At → Result B FieldFault) → ((x : A) (at : At) → f x at ≡ g x at) → followed read f ≡ followed read g
same_followed (Ok x) f g same = same x.0 x.1
same_followed (Err fault) f g same = refl

pub measured_fresh : {X Y A : Type 0} (view : X → Y) (count : Y → ℕ) (reader : Reader Y) (each : List A → Reader A) (left : ℕ) (front : List A) → front ≡ [] → (at : At)
    → rest_of_measured view count reader each None left front at ≡ followed (reader at) (λ y next. put_last {A = List A} y (chain each with_last (count y) [] next))
measured_fresh {X} {Y} {A} view count reader each left front none at =
    ap (λ (f : List A). rest_of_measured view count reader each None left f at) none
    ∙ same_followed (reader at) (λ y next. put_last {A = List A} y (rest_of_elements each (count y) [] next)) (λ y next. put_last {A = List A} y (chain each with_last (count y) [] next))
    (λ y next. ap (put_last {A = List A} y) (none_before (chain each with_last (count y) [] next)))

-- ---- a value and the part behind it, which is told by the value

abbrev put_value : {Y Z : Type 0} → Y → Result (Z × At) FieldFault → Result ((Y × Z) × At) FieldFault
put_value y read = followed read (λ z next. Ok ((y, z), next))

pub teller_taken : {X Y Z : Type 0} (view : X → Y) (reader : Reader Y) (told : Y → Reader Z) (rest next : Reader Z) (o : Option X) (x : X) (old new : Held) → is_some o ≡ false
    → next ≡ told (view x) → Taken reader (view x) old new → Further (rest_of_telling view reader told rest o) (rest_of_telling view reader told next (Some x)) old new
teller_taken view reader told rest next (Some y) x old new none is it = absurd cc
teller_taken {X} {Y} {Z} view reader told rest next None x old new none is it = record {
  passed = it.passed;
  goes = λ tail. ap (λ (z : Result (Y × At) FieldFault). followed z (λ y at. put_value y (told y at))) (it.found tail)
      ∙ ap (λ (r : Reader Z). put_value (view x) (r (longer (at_in new) tail))) (sym is);
}

pub telling_goes : {X Y Z : Type 0} (over : Bool) (result : Result (Unit {0}) FieldFault) (view : X → Y) (reader : Reader Y) (told other : Y → Reader Z) (rest after : Reader Z) (before : Reader (Y × Z)) (o : Option X)
    (old mid new : Held) → Further before (rest_of_telling view reader told rest o) old mid → is_some o ≡ true → GoesOn (over ≡ true) result rest after mid new
    → GoesOn ((is_some o && over) ≡ true) result before (rest_of_telling view reader other after o) old new
telling_goes over result view reader told other rest after before None old mid new one some it = absurd cc
telling_goes over result view reader told other rest after before (Some x) old mid new one some it =
    goes_on ((true && over) ≡ true) result before (both (gives (view x)) rest) (both (gives (view x)) after) old mid new one
    (second_goes true over result (gives (view x)) rest after mid new (view x, λ at. refl) refl it)

pub telling_fresh : {X Y Z : Type 0} (view : X → Y) (reader : Reader Y) (told whole : Y → Reader Z) (rest : Reader Z) → ((y : Y) (at : At) → told y at ≡ whole y at) → (at : At)
    → rest_of_telling view reader told rest None at ≡ followed (reader at) (λ y next. put_value y (whole y next))
telling_fresh {X} {Y} {Z} view reader told whole rest same at =
    same_followed (reader at) (λ y next. put_value {Z = Z} y (told y next)) (λ y next. put_value {Z = Z} y (whole y next)) (λ y next. ap (put_value {Z = Z} y) (same y next))
