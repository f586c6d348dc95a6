-- What a line of a keys file says is what is read of it.
use Rattle.std.proofs.Common.{◌≡◌, ℕ, ◌+◌, ◌^◌, ◌==◌, ◌<◌, ◌≤◌, Bool, true, false, ◌&&◌, nat_le, if◌then◌else◌, List}
use Rattle.std.proofs.Common.{[], ◌∷◌, ◌++◌, length, take, drop, Option, Some, None, option_and_then, Result, Ok, Err}
use Rattle.std.proofs.Common.{refl, sym, ap, ◌∙◌, subst, arith}
use Rattle.std.specs.List.{position}
use Rattle.std.proofs.lemmas.List.{take_at, drop_at, length-append, append_assoc}
use Rattle.std.proofs.lemmas.Option.{option_and_then_some}
use Rattle.std.proofs.lemmas.Bool.Decides.{nat_tests}
use Rattle.nova_word.specs.declared.numbers.NumberFault.{NumberFault}
use Rattle.nova_word.specs.Numbers.{IsNumber, ReadsNumber, number_read}
use Rattle.nova_word.specs.Quoted.{BeginsQuoted, quoted_read}
use Rattle.nova_word.proofs.ReadingLemmas.{number_read-reads, number_read-is}
use Rattle.nova_word.proofs.QuotedReadLemmas.{quoted_found, quoted_is_computed}
use Rattle.expect_actions.specs.KeysFile.{KeysLine, latest_time, most_keys, IsLine, time_read, says_read, line_read}
use Rattle.expect_actions.specs.KeysFile.{next_read}
use Rattle.expect_actions.proofs.SplitLemmas.{Without, without_append, without_digits, without_text, position_behind}
use Rattle.expect_actions.proofs.SplitLemmas.{parts_at}

-- a line has no LF
pub without_line : (line : List ℕ) (says : KeysLine) → IsLine line says → Without 10 line
without_line line says is =
    let quoted : Without 10 is.quoted = subst (Without 10) (sym is.text.spelled)
    (refl, without_append 10 is.text.inside (34 ∷ []) (without_text is.text.inside says.1 is.text.stands) (refl, tt)) in
    subst (Without 10) (sym is.spelled)
    (without_append 10 is.digits (32 ∷ is.quoted) (without_digits 10 is.digits (omega arith) is.count.digits) (
      refl,
      quoted,
    ))

pub line_some : (line : List ℕ) (says : KeysLine) → IsLine line says → 0 < length line
line_some line says is = omega (arith, ap length is.spelled, length-append is.digits (32 ∷ is.quoted))

-- what is read of a line

pub time_found : (n m : ℕ) → n ≤ m → (if nat_le n m then Some n else None) ≡ Some n
time_found n m h = grind (arith, nat_tests)

pub said_whole : (time : ℕ) (text rest : List ℕ) → length rest ≡ 0 →
    says_read (Some time) (Some (text, rest)) ≡ Some (time, text)
said_whole time text [] h = refl
said_whole time text (b ∷ rest) h = absurd (omega arith)

pub said_more : (time : ℕ) (text rest : List ℕ) → 0 < length rest → says_read (Some time) (Some (text, rest)) ≡ None
said_more time text [] h = absurd (omega arith)
said_more time text (b ∷ rest) h = refl

abbrev parts_read : List ℕ → List ℕ → Option KeysLine
parts_read digits quoted = says_read (time_read (number_read 10 (2 ^ 63) digits)) (quoted_read quoted)

line_found_at : (digits quoted : List ℕ) (says : KeysLine) → IsNumber 10 digits says.0 → says.0 ≤ latest_time →
    BeginsQuoted quoted says.1 [] → line_read (digits ++ 32 ∷ quoted) ≡ Some says
unfolding line_read
line_found_at digits quoted says number within text =
    let line = digits ++ 32 ∷ quoted in
    let blank = position_behind 32 digits quoted (without_digits 32 digits (omega arith) number.digits) in
    let number_found = number_read-is 10 (2 ^ 63) digits (Ok says.0) (number, omega (arith, within)) in
    let cut = drop_at (digits ++ 32 ∷ []) quoted (length digits + 1) (omega (arith, length-append digits (32 ∷ []))) in
    let behind : drop (length digits + 1) line ≡ quoted =
    ap (drop (length digits + 1)) (sym (append_assoc digits (32 ∷ []) quoted)) ∙ cut in
    ap (option_and_then (λ n. parts_read (take n line) (drop (n + 1) line))) blank
    ∙ ap (λ (x : List ℕ). parts_read x (drop (length digits + 1) line))
    (take_at digits (32 ∷ quoted) (length digits) refl)
    ∙ ap (parts_read digits) behind
    ∙ ap (λ (x : Result ℕ NumberFault). says_read (time_read x) (quoted_read quoted)) number_found
    ∙ ap (λ (x : Option ℕ). says_read x (quoted_read quoted)) (time_found says.0 latest_time within)
    ∙ ap (says_read (Some says.0)) (quoted_found quoted says.1 [] text)

pub line_found : (line : List ℕ) (says : KeysLine) → IsLine line says → line_read line ≡ Some says
line_found line says is = ap line_read is.spelled ∙ line_found_at is.digits is.quoted says is.count is.within is.text

-- what was read is what the line says

if_some : {A : Type 0} (t : Bool) (x z : A) → (if t then Some x else None) ≡ Some z → (t ≡ true) × (x ≡ z)
if_some true x z h = (refl, cc)
if_some false x z h = cc

le_true : (n m : ℕ) → nat_le n m ≡ true → n ≤ m
le_true n m h = grind (arith, nat_tests)

time_is : (a : Result ℕ NumberFault) (time : ℕ) → time_read a ≡ Some time → (a ≡ Ok time) × (time ≤ latest_time)
time_is (Err fault) time h = cc
time_is (Ok n) time h =
    let parts = if_some (nat_le n latest_time) n time h in
    let same = parts.1 in
    (ap (λ (x : ℕ). Ok x) same, omega (arith, le_true n latest_time parts.0, same))

abbrev option_pair : List ℕ → Option (List ℕ × List ℕ)
option_pair text = Some (text, [])

said : (time : Option ℕ) (quoted : Option (List ℕ × List ℕ)) (says : KeysLine) → says_read time quoted ≡ Some says →
    (time ≡ Some says.0) × (quoted ≡ Some (says.1, []))
said None quoted says h = cc
said (Some time) None says h = cc
said (Some time) (Some (text, [])) says h =
    let same : ◌≡◌ {A = KeysLine} (time, text) says = cc in
    (ap (λ (x : KeysLine). Some x.0) same, ap (λ (x : KeysLine). option_pair x.1) same)
said (Some time) (Some (text, b ∷ rest)) says h = cc

parts_say : (digits quoted : List ℕ) (says : KeysLine) → parts_read digits quoted ≡ Some says →
    IsLine (digits ++ 32 ∷ quoted) says
parts_say digits quoted says h =
    let parts = said (time_read (number_read 10 (2 ^ 63) digits)) (quoted_read quoted) says h in
    let time = time_is (number_read 10 (2 ^ 63) digits) says.0 parts.0 in
    let reads : ReadsNumber 10 (2 ^ 63) digits (Ok says.0) =
    subst (ReadsNumber 10 (2 ^ 63) digits) time.0 (number_read-reads 10 (2 ^ 63) digits) in
    record {
      digits = digits;
      quoted = quoted;
      spelled = refl;
      count = reads.0;
      within = time.1;
      text = quoted_is_computed.read quoted says.1 [] parts.1;
    }

pub line_is : (line : List ℕ) (says : KeysLine) → line_read line ≡ Some says → IsLine line says
unfolding line_read
line_is line says h =
    option_and_then_some (λ n. parts_read (take n line) (drop (n + 1) line)) (position (λ b. b == 32) line) says h
    (λ n blank parts. subst (λ (x : List ℕ). IsLine x says) (sym (parts_at 32 line n blank))
    (parts_say (take n line) (drop (n + 1) line) says parts))

-- a line behind others

both_true : (time count : ℕ) (says : KeysLine) → time ≤ says.0 → count + length says.1 ≤ most_keys →
    (nat_le time says.0 && nat_le (count + length says.1) most_keys) ≡ true
both_true time count says rises few = grind (arith, nat_tests)

both_are : (time count : ℕ) (says : KeysLine) →
    (nat_le time says.0 && nat_le (count + length says.1) most_keys) ≡ true →
    (time ≤ says.0) × (count + length says.1 ≤ most_keys)
both_are time count says h = grind (arith, nat_tests)

abbrev follow : ℕ → ℕ → KeysLine → Option KeysLine
follow time count says = if nat_le time says.0 && nat_le (count + length says.1) most_keys then Some says else None

pub next_found : (time count : ℕ) (line : List ℕ) (says : KeysLine) → line_read line ≡ Some says → time ≤ says.0 →
    count + length says.1 ≤ most_keys → next_read time count line ≡ Some says
unfolding next_read
next_found time count line says here rises few =
    ap (option_and_then (follow time count)) here
    ∙ ap (λ (t : Bool). if t then Some says else None) (both_true time count says rises few)

pub next_is : (time count : ℕ) (line : List ℕ) (says : KeysLine) → next_read time count line ≡ Some says →
    (line_read line ≡ Some says) × (time ≤ says.0) × (count + length says.1 ≤ most_keys)
unfolding next_read
next_is time count line says h =
    option_and_then_some (follow time count) (line_read line) says h
    (λ other there follows.
    let test = nat_le time other.0 && nat_le (count + length other.1) most_keys in
    let parts = if_some test other says follows in
    let bounds = both_are time count other parts.0 in (
      there ∙ ap (λ (x : KeysLine). Some x) parts.1,
      subst (λ (x : KeysLine). time ≤ x.0) parts.1 bounds.0,
      subst (λ (x : KeysLine). count + length x.1 ≤ most_keys) parts.1 bounds.1,
    ))
