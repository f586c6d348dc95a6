-- Lines whose ports are apart stay so where one of them gets a port that none has, or loses its own.
use Rattle.std.proofs.Common.{◌≡◌, ◌≢◌, ℕ, zero, suc, false, ◌||◌, List, [], ◌∷◌, map, slice_get, slice_set, Option, Some, None, refl, ap, sym, subst, ◌∙◌}
use Rattle.std.specs.List.{list_any}
use Rattle.std.proofs.lemmas.Bool.{false≢true, or_parts, eq-eqb}
use Rattle.std.proofs.lemmas.Option.{same_Some}
use Rattle.telnet_lines.specs.Line.{LineOf, unconnected}
use Rattle.terminal_ports.specs.Ports.{changed_at, is_of, owns, is_taken, HasOther, OthersHaveNone, HavePortsApart}

-- ---- the line at a place

pub changed-set : {P : Type 0} (change : LineOf P → LineOf P) (place : ℕ) (lines : List (LineOf P)) (line : LineOf P) → slice_get lines place ≡ Some line
    → slice_set lines place (change line) ≡ changed_at place change lines
changed-set change place [] line at = absurd (cc)
changed-set {P} change zero (l ∷ lines) line at = ap (λ (x : LineOf P). change x ∷ lines) (sym (same_Some l line at))
changed-set {P} change (suc place) (l ∷ lines) line at = ap (λ (ls : List (LineOf P)). l ∷ ls) (changed-set change place lines line at)

pub changed-none : {P : Type 0} (change : LineOf P → LineOf P) (place : ℕ) (lines : List (LineOf P)) → slice_get lines place ≡ None → changed_at place change lines ≡ lines
changed-none change place [] none = refl
changed-none change zero (l ∷ lines) none = absurd (cc)
changed-none {P} change (suc place) (l ∷ lines) none = ap (λ (ls : List (LineOf P)). l ∷ ls) (changed-none change place lines none)

pub changed-same : {P : Type 0} (change : LineOf P → LineOf P) (place : ℕ) (lines : List (LineOf P)) (line : LineOf P) → slice_get lines place ≡ Some line → change line ≡ line
    → changed_at place change lines ≡ lines
changed-same change place [] line at same = refl
changed-same {P} change zero (l ∷ lines) line at same =
    let is = same_Some l line at in
    ap (λ (x : LineOf P). x ∷ lines) (ap change is ∙ same ∙ sym is)
changed-same {P} change (suc place) (l ∷ lines) line at same = ap (λ (ls : List (LineOf P)). l ∷ ls) (changed-same change place lines line at same)

pub set-same : {P : Type 0} (place : ℕ) (lines : List (LineOf P)) (line : LineOf P) → slice_get lines place ≡ Some line → slice_set lines place line ≡ lines
set-same place [] line at = refl
set-same {P} zero (l ∷ lines) line at = ap (λ (x : LineOf P). x ∷ lines) (sym (same_Some l line at))
set-same {P} (suc place) (l ∷ lines) line at = ap (λ (ls : List (LineOf P)). l ∷ ls) (set-same place lines line at)

-- ---- lines with the same ports

abbrev ports : {P : Type 0} → List (LineOf P) → List (Option ℕ)
ports {P} lines = map (λ (line : LineOf P). line.port) lines

other-by : {P Q : Type 0} (port : Option ℕ) (line : LineOf P) (k : LineOf Q) → k.port ≡ line.port → HasOther port line → HasOther port k
other-by None line k same other = tt
other-by (Some p) line k same other = λ own. other (sym same ∙ own)

none-by : {P Q : Type 0} (port : Option ℕ) (lines : List (LineOf P)) (others : List (LineOf Q)) → ports others ≡ ports lines → OthersHaveNone port lines → OthersHaveNone port others
none-by port [] [] same none = tt
none-by port [] (k ∷ others) same none = absurd (cc)
none-by port (l ∷ lines) [] same none = absurd (cc)
none-by port (l ∷ lines) (k ∷ others) same none =
    let is : k.port ≡ l.port = cc in
    let more : ports others ≡ ports lines = cc in
    (other-by port l k is none.0, none-by port lines others more none.1)

pub apart-by : {P Q : Type 0} (lines : List (LineOf P)) (others : List (LineOf Q)) → ports others ≡ ports lines → HavePortsApart lines → HavePortsApart others
apart-by [] [] same are = tt
apart-by [] (k ∷ others) same are = absurd (cc)
apart-by (l ∷ lines) [] same are = absurd (cc)
apart-by {P} {Q} (l ∷ lines) (k ∷ others) same are =
    let is : k.port ≡ l.port = cc in
    let more : ports others ≡ ports lines = cc in (
      λ own. are.0 (sym is ∙ own),
      (
        subst (λ (p : Option ℕ). OthersHaveNone {P = Q} p others) (sym is) (none-by l.port lines others more are.1.0),
        apart-by lines others more are.1.1,
      ),
    )

-- ---- one line gets another port

-- what holds of all lines but one holds of all, where it holds of what that one becomes
none-set : {P : Type 0} (port : Option ℕ) (place : ℕ) (lines : List (LineOf P)) (line : LineOf P) → HasOther port line → OthersHaveNone port lines → OthersHaveNone port (slice_set lines place line)
none-set port place [] line other none = tt
none-set port zero (l ∷ lines) line other none = (other, none.1)
none-set port (suc place) (l ∷ lines) line other none = (none.0, none-set port place lines line other none.1)

other-none : {P : Type 0} (port : Option ℕ) (line : LineOf P) → line.port ≡ None → HasOther port line
other-none None line none = tt
other-none (Some p) line none = λ own. absurd (let e : None ≡ Some p = sym none ∙ own in cc)

all-none : {P : Type 0} (port : Option ℕ) (lines : List (LineOf P)) → port ≡ None → OthersHaveNone port lines
all-none port [] none = tt
all-none {P} port (l ∷ lines) none = (subst (λ (p : Option ℕ). HasOther {P = P} p l) (sym none) tt, all-none port lines none)

pub none-given : {P : Type 0} (place : ℕ) (lines : List (LineOf P)) (line : LineOf P) → line.port ≡ None → HavePortsApart lines → HavePortsApart (slice_set lines place line)
none-given place [] line none are = tt
none-given zero (l ∷ lines) line none are =
    (λ own. absurd (let e : None ≡ Some 0 = sym none ∙ own in cc), (all-none line.port lines none, are.1.1))
none-given (suc place) (l ∷ lines) line none are = (are.0, (none-set l.port place lines line (other-none l.port line none) are.1.0, none-given place lines line none are.1.1))

-- a port that no line has may be given to one, where it is not 0
free-other : (P : Type 0) (own : Option ℕ) (port : ℕ) → own ≢ Some port → HasOther {P = P} own (unconnected (Some port))
free-other P None port free = tt
free-other P (Some p) port free = λ same. free (sym same)

pub free-apart : {P : Type 0} (place : ℕ) (lines : List (LineOf P)) (port : ℕ) → port ≢ 0 → OthersHaveNone (Some port) lines → HavePortsApart lines
    → HavePortsApart (slice_set lines place (unconnected (Some port)))
free-apart place [] port some free are = tt
free-apart zero (l ∷ lines) port some free are = (λ own. some (same_Some port 0 own), (free.1, are.1.1))
free-apart {P} (suc place) (l ∷ lines) port some free are =
    (are.0, (none-set l.port place lines (unconnected (Some port)) (free-other P l.port port free.0) are.1.0, free-apart place lines port some free.1 are.1.1))

-- what the test of a port tells
other-than : (port : ℕ) (own : Option ℕ) → is_of port own ≡ false → own ≢ Some port
other-than port own is same = false≢true (sym (subst (λ (o : Option ℕ). is_of port o ≡ false) same is) ∙ eq-eqb port port refl)

pub untaken : {P : Type 0} (port : ℕ) (lines : List (LineOf P)) → is_taken port lines ≡ false → OthersHaveNone (Some port) lines
unfolding is_taken
untaken port [] is = tt
untaken port (l ∷ lines) is =
    let two = or_parts (owns port l) (list_any (owns port) lines) is in
    (other-than port l.port two.0, untaken port lines two.1)

-- it is the same of lines with the same ports
pub taken-by : {P Q : Type 0} (port : ℕ) (lines : List (LineOf P)) (others : List (LineOf Q)) → ports others ≡ ports lines → is_taken port others ≡ is_taken port lines
unfolding is_taken
taken-by port [] [] same = refl
taken-by port [] (k ∷ others) same = absurd (cc)
taken-by port (l ∷ lines) [] same = absurd (cc)
taken-by port (l ∷ lines) (k ∷ others) same =
    let is : k.port ≡ l.port = cc in
    let more : ports others ≡ ports lines = cc in
    let rest = taken-by port lines others more in
    (λ i. is_of port (is i) || rest i)

-- a line that keeps its port
same-port : {P : Type 0} (lines : List (LineOf P)) (place : ℕ) (line after : LineOf P) → slice_get lines place ≡ Some line → after.port ≡ line.port
    → ports (slice_set lines place after) ≡ ports lines
same-port [] place line after at same = refl
same-port (l ∷ lines) zero line after at same =
    let is = same_Some l line at in ap (λ (p : Option ℕ). p ∷ ports lines) (same ∙ ap (λ x. x.port) (sym is))
same-port (l ∷ lines) (suc place) line after at same = ap (λ (ps : List (Option ℕ)). l.port ∷ ps) (same-port lines place line after at same)

pub same-given : {P : Type 0} (place : ℕ) (lines : List (LineOf P)) (line after : LineOf P) → slice_get lines place ≡ Some line → after.port ≡ line.port
    → HavePortsApart lines → HavePortsApart (slice_set lines place after)
same-given place lines line after at same are = apart-by lines (slice_set lines place after) (same-port lines place line after at same) are
