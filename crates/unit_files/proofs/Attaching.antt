-- What is open and what is attached, once a file was attached or detached.
use Rattle.std.proofs.Common.{inl, inr, ◌⊎◌, ◌≡◌, ◌≢◌, ℕ, zero, suc, ◌<◌, List, [], ◌∷◌, Option, Some, None, length}
use Rattle.std.proofs.Common.{IfSome, get_or, set, map, replicate, refl, ap, sym, ◌∙◌, subst, arith}
use Rattle.file_traits.specs.State.{FileState, Opened, opened_at, without}
use Rattle.unit_trait.specs.declared.kind.UnitName.{UnitName}
use Rattle.unit_files.specs.Attachments.{Held, file_place, held_at, with_held, IsFileName, HaveFileNames}
use Rattle.unit_files.specs.Causes.{IsNewId, OnlyKept, AreFrom}
use Rattle.unit_files.specs.Open.{is_reading, AllOpen, HaveOwnNumbers, IsFree, IsHeldOpen, Around, without_held}
use Rattle.unit_files.specs.View.{slot_of, held_of}
use Rattle.unit_files.specs.declared.slots.UnitFile.{UnitFile}
use Rattle.unit_files.proofs.Entries.{other-kept, closed-both}
use Rattle.file_traits.proofs.Fronts.{front-found, front-out, front-passed, front-kept}

-- what stands at a place once one was written
found-after : (slots : List (Option Held)) (p q : ℕ) (x : Option Held) (g : Held) → get_or (set slots p x) q None
    ≡ Some g
    → ((q ≡ p) × (x ≡ Some g)) ⊎ ((q ≢ p) × (get_or slots q None ≡ Some g))
found-after [] p q x g is = absurd (cc)
found-after (y ∷ slots) zero zero x g is = inl (refl, is)
found-after (y ∷ slots) zero (suc q) x g is = inr ((λ same. absurd (omega (arith, same))), is)
found-after (y ∷ slots) (suc p) zero x g is = inr ((λ same. absurd (omega (arith, same))), is)
found-after (y ∷ slots) (suc p) (suc q) x g is = elim (found-after slots p q x g is) [
  | inl here ↦ inl (ap suc here.0, here.1)
  | inr there ↦ inr ((λ same. there.0 (omega (arith, same))), there.1)
]

none-some : (h : Held) → None ≡ Some h → ⊥
none-some h is = absurd (cc)

some-none : (o : Opened) (x : Option Opened) → x ≡ Some o → x ≡ None → ⊥
some-none o x is none = absurd (cc)

held-is : (g h : Held) → Some h ≡ Some g → h ≡ g
held-is g h is = cc

-- a number that is not open is none of an attached file
pub free : (slots : List (Option Held)) (opened : List Opened) (file : ℕ) → AllOpen slots opened → opened_at opened file
    ≡ None → IsFree slots file
free slots opened file all fresh place g there same =
    let at = all.there place g there in
    some-none at.entry (opened_at opened file) (ap (λ (n : ℕ). opened_at opened n) same ∙ at.there) fresh

-- ---- a file is attached

module _ (slots : List (Option Held)) (opened : List Opened) (p : ℕ) (h : Held) (entry : Opened)
    (number : entry.file ≡ h.file) (name : entry.name ≡ h.attachment.name) (mode : is_reading entry.mode
    ≡ h.attachment.read_only)
    (fresh : opened_at opened h.file ≡ None) (all : AllOpen slots opened) where
  other-number : (place : ℕ) (g : Held) → get_or slots place None ≡ Some g → entry.file ≢ g.file
  other-number place g there same = free slots opened h.file all fresh place g there (sym number ∙ same)

  still-open : (place : ℕ) (g : Held) → get_or slots place None ≡ Some g → IsHeldOpen g (entry ∷ opened)
  still-open place g there =
      let at = all.there place g there in
      record {
        entry = at.entry;
        there = front-passed entry opened g.file (other-number place g there) ∙ at.there;
        name = at.name;
        mode = at.mode;
      }

  new-open : IsHeldOpen h (entry ∷ opened)
  new-open = record { entry = entry; there = front-found entry opened h.file number; name = name; mode = mode }

  open-after : (q : ℕ) (g : Held) → get_or (set slots p (Some h)) q None ≡ Some g → IsHeldOpen g (entry ∷ opened)
  open-after q g is = elim (found-after slots p q (Some h) g is) [
    | inl here ↦ subst (λ (x : Held). IsHeldOpen x (entry ∷ opened)) (held-is g h here.1) new-open
    | inr there ↦ still-open q g there.1
  ]

  pub open-attached : AllOpen (set slots p (Some h)) (entry ∷ opened)
  open-attached = record { there = open-after }

-- its number is that of no other unit
pub own-attached : (slots : List (Option Held)) (p : ℕ) (h : Held) → HaveOwnNumbers slots → IsFree slots h.file
    → HaveOwnNumbers (set slots p (Some h))
own-attached slots p h own other = record {
  apart = λ one two f g is_f is_g same. elim (found-after slots p one (Some h) f is_f) [
    | inl here ↦ elim (found-after slots p two (Some h) g is_g) [
      | inl too ↦ here.0 ∙ sym too.0
      | inr there ↦ absurd (other two g there.1 (ap (λ (x : Held). x.file) (held-is f h here.1) ∙ same))
    ]
    | inr there ↦ elim (found-after slots p two (Some h) g is_g) [
      | inl here ↦ absurd (other one f there.1 (ap (λ (x : Held). x.file) (held-is g h here.1) ∙ sym same))
      | inr too ↦ own.apart one two f g there.1 too.1 same
    ]
  ];
}

-- the same of what is held of them
pub own-put : (items : List (Option UnitFile)) (slots after : List (Option Held)) (unit : UnitName) (f : UnitFile)
    → after ≡ set (map slot_of items) (file_place unit) (Some (held_of f)) → map slot_of items ≡ slots
    → HaveOwnNumbers (map slot_of items) → IsFree slots f.file.0 → HaveOwnNumbers after
own-put items slots after unit f is view own other =
    subst HaveOwnNumbers (sym is)
    (own-attached (map slot_of items) (file_place unit) (held_of f) own
    (subst (λ (s : List (Option Held)). IsFree s f.file.0) (sym view) other))

-- what is open beside the attached files, once one more is open
rest-front : (slots : List (Option Held)) (entry : Opened) (opened : List Opened) → IsFree slots entry.file
    → without_held slots (entry ∷ opened) ≡ entry ∷ without_held slots opened
rest-front [] entry opened other = refl
rest-front (None ∷ slots) entry opened other = rest-front slots entry opened (λ place g is. other (suc place) g is)
rest-front (Some h ∷ slots) entry opened other =
    ap (λ (xs : List Opened). without_held slots xs) (front-kept entry opened h.file (other zero h refl))
    ∙ rest-front slots entry (without opened h.file) (λ place g is. other (suc place) g is)

-- and is attached
rest-attached : (slots : List (Option Held)) (p : ℕ) (h : Held) (entry : Opened) (opened : List Opened) → entry.file
    ≡ h.file → get_or slots p None ≡ None → p < length slots → IsFree slots entry.file
    → without_held (set slots p (Some h)) (entry ∷ opened) ≡ without_held slots opened
rest-attached [] p h entry opened number was within other = absurd (omega (arith, within))
rest-attached (None ∷ slots) zero h entry opened number was within other =
    ap (λ (xs : List Opened). without_held slots xs) (front-out entry opened h.file number)
rest-attached (Some g ∷ slots) zero h entry opened number was within other = absurd (none-some g (sym was))
rest-attached (None ∷ slots) (suc p) h entry opened number was within other =
    rest-attached slots p h entry opened number was (omega (arith, within)) (λ place g is. other (suc place) g is)
rest-attached (Some g ∷ slots) (suc p) h entry opened number was within other =
    ap (λ (xs : List Opened). without_held (set slots p (Some h)) xs) (front-kept entry opened g.file (other zero g
    refl))
    ∙ rest-attached slots p h entry (without opened g.file) number was (omega (arith, within)) (λ place f is. other
    (suc place) f is)

-- a number that is not open now was not open before
rest-fresh : (slots : List (Option Held)) (opened : List Opened) (file : ℕ) → IsFree slots file
    → opened_at (without_held slots opened) file ≡ opened_at opened file
rest-fresh [] opened file other = refl
rest-fresh (None ∷ slots) opened file other = rest-fresh slots opened file (λ place g is. other (suc place) g is)
rest-fresh (Some h ∷ slots) opened file other =
    rest-fresh slots (without opened h.file) file (λ place g is. other (suc place) g is)
    ∙ other-kept opened h.file file (other zero h refl)

pub around-attached : (slots : List (Option Held)) (base opened : List Opened) (p : ℕ) (h : Held) (entry : Opened)
    → entry.file ≡ h.file → get_or slots p None ≡ None → p < length slots
    → opened_at opened h.file ≡ None → AllOpen slots opened → Around slots base opened
    → Around (set slots p (Some h)) base (entry ∷ opened)
around-attached slots base opened p h entry number was within fresh all around =
    let none = free slots opened h.file all fresh in
    let entry_free : IsFree slots entry.file = λ place g is same. none place g is (sym number ∙ same) in
    record {
      rest = rest-attached slots p h entry opened number was within entry_free ∙ around.rest;
      own = λ q g is. elim (found-after slots p q (Some h) g is) [
        | inl here ↦
            ap (λ (xs : List Opened). opened_at xs g.file) (sym around.rest)
            ∙ ap (λ (x : Held). opened_at (without_held slots opened) x.file) (sym (held-is g h here.1))
            ∙ rest-fresh slots opened h.file none ∙ fresh
        | inr there ↦ around.own q g there.1
      ];
    }

-- ---- a file is detached

pub open-detached : (slots : List (Option Held)) (opened : List Opened) (p : ℕ) (h : Held) → get_or slots p None
    ≡ Some h → HaveOwnNumbers slots → AllOpen slots opened
    → AllOpen (set slots p None) (without opened h.file)
open-detached slots opened p h was own all = record {
  there = λ q g is. elim (found-after slots p q None g is) [
    | inl here ↦ absurd (none-some g here.1)
    | inr there ↦
        let at = all.there q g there.1 in
        record {
          entry = at.entry;
          there = other-kept opened h.file g.file (λ same. there.0 (own.apart q p g h there.1 was same)) ∙ at.there;
          name = at.name;
          mode = at.mode;
        }
  ];
}

pub own-detached : (slots : List (Option Held)) (p : ℕ) → HaveOwnNumbers slots → HaveOwnNumbers (set slots p None)
own-detached slots p own = record {
  apart = λ one other f g is_f is_g same. elim (found-after slots p one None f is_f) [
    | inl here ↦ absurd (none-some f here.1)
    | inr there ↦ elim (found-after slots p other None g is_g) [
      | inl here ↦ absurd (none-some g here.1)
      | inr too ↦ own.apart one other f g there.1 too.1 same
    ]
  ];
}

-- and its name, if it has one, is a name of a file
pub names-set : (slots after : List (Option Held)) (p : ℕ) (x : Option Held) → after ≡ set slots p x
    → HaveFileNames slots → IfSome x (λ h. IsFileName h.attachment.name) → HaveFileNames after
names-set slots after p x is have named = record {
  names = λ q g there. elim (found-after slots p q x g
      (ap (λ (l : List (Option Held)). get_or l q None) (sym is) ∙ there)) [
        | inl here ↦ subst (λ (y : Option Held). IfSome y (λ h. IsFileName h.attachment.name)) here.1 named
        | inr other ↦ have.names q g other.1
      ];
}

rest-detached : (slots : List (Option Held)) (p : ℕ) (h : Held) (opened : List Opened) → get_or slots p None ≡ Some h
    → without_held (set slots p None) (without opened h.file) ≡ without_held slots opened
rest-detached [] p h opened was = absurd (cc)
rest-detached (None ∷ slots) zero h opened was = absurd (none-some h was)
rest-detached (Some g ∷ slots) zero h opened was =
    ap (λ (x : Held). without_held slots (without opened x.file)) (sym (held-is h g was))
rest-detached (None ∷ slots) (suc p) h opened was = rest-detached slots p h opened was
rest-detached (Some g ∷ slots) (suc p) h opened was =
    ap (λ (xs : List Opened). without_held (set slots p None) xs) (closed-both opened h.file g.file)
    ∙ rest-detached slots p h (without opened g.file) was

pub around-detached : (slots : List (Option Held)) (base opened : List Opened) (p : ℕ) (h : Held) → get_or slots p None
    ≡ Some h → Around slots base opened
    → Around (set slots p None) base (without opened h.file)
around-detached slots base opened p h was around = record {
  rest = rest-detached slots p h opened was ∙ around.rest;
  own = λ q g is. elim (found-after slots p q None g is) [
    | inl here ↦ absurd (none-some g here.1)
    | inr there ↦ around.own q g there.1
  ];
}

-- ---- nothing is attached

-- none of the first so many places holds anything
empty : (n place : ℕ) → get_or {A = Option Held} (replicate n None) place None ≡ None
empty zero place = refl
empty (suc n) zero = refl
empty (suc n) (suc place) = empty n place

pub open-none : (n : ℕ) (opened : List Opened) → AllOpen (replicate n None) opened
open-none n opened = record { there = λ place h is. absurd (none-some h (sym (empty n place) ∙ is)) }

pub own-none : (n : ℕ) → HaveOwnNumbers (replicate n None)
own-none n = record { apart = λ one other g h is_g is_h same. absurd (none-some g (sym (empty n one) ∙ is_g)) }

pub names-none : (n : ℕ) → HaveFileNames (replicate n None)
names-none n = record { names = λ place h is. absurd (none-some h (sym (empty n place) ∙ is)) }

rest-none : (n : ℕ) (opened : List Opened) → without_held (replicate n None) opened ≡ opened
rest-none zero opened = refl
rest-none (suc n) opened = rest-none n opened

pub around-none : (n : ℕ) (opened : List Opened) → Around (replicate n None) opened opened
around-none n opened = record {
  rest = rest-none n opened;
  own = λ place h is. absurd (none-some h (sym (empty n place) ∙ is));
}

-- ---- what is attached to the units then

pub kept-without : (slots : List (Option Held)) (unit : UnitName) → OnlyKept slots (with_held slots unit None)
kept-without slots unit = λ other h is. elim (found-after slots (file_place unit) (file_place other) None h is) [
  | inl here ↦ absurd (none-some h here.1)
  | inr there ↦ there.1
]

pub kept-same : (slots slots' : List (Option Held)) → slots' ≡ slots → OnlyKept slots slots'
kept-same slots slots' same = λ unit h is. ap (λ (l : List (Option Held)). held_at l unit) (sym same) ∙ is

pub from-with : (slots : List (Option Held)) (unit : UnitName) (g : Held) (old new : FileState) → IsNewId old new g.file
    → AreFrom slots (with_held slots unit (Some g)) old new
from-with slots unit g old new fresh = λ other h is. elim (found-after slots (file_place unit) (file_place other) (Some g) h is) [
  | inl here ↦ inr (subst (λ (x : Held). IsNewId old new x.file) (held-is h g here.1) fresh)
  | inr there ↦ inl there.1
]

pub from-same : (slots slots' : List (Option Held)) (old new : FileState) → slots' ≡ slots → AreFrom slots slots' old new
from-same slots slots' old new same = λ unit h is. inl (kept-same slots slots' same unit h is)
