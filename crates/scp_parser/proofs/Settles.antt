-- What it means that a reader's result is settled by a relation of its values and one of its faults.
use Rattle.std.proofs.Common.{◌≡◌, Result, Ok, Err, refl, ap, sym, subst, ◌∙◌, inl, inr}
use Rattle.scp_parser.specs.declared.fault.ParseFault.{ParseFault}
use Rattle.scp_parser.specs.Grammar.{Then}
use Rattle.scp_parser.specs.Faults.{FaultThen}
use Rattle.scp_parser.specs.Reading.{◌>>=◌, map_ok}

-- the value or the fault of a result is one of the relation
abbrev pub Sound : {A : Type 0} → (A → Type 0) → (ParseFault → Type 0) → Result A ParseFault → Type 0
Sound R F (Ok x) = R x
Sound R F (Err e) = F e

-- the result is that value or fault exactly where the relation holds of it
pub record Settles {A : Type 0} (r : Result A ParseFault) (R : A → Type 0) (F : ParseFault → Type 0) : Type 0 where
  pub reads : (x : A) → R x → r ≡ Ok x
  pub faults : (e : ParseFault) → F e → r ≡ Err e
  pub found : Sound R F r

pub sound_of : {A : Type 0} (R : A → Type 0) (F : ParseFault → Type 0) (r s : Result A ParseFault) → r ≡ s → Sound R F r → Sound R F s
sound_of R F r s same h = subst (λ (t : Result _ ParseFault). Sound R F t) same h

pub sound_weaker : {A : Type 0} (R Q : A → Type 0) (F G : ParseFault → Type 0) (r : Result A ParseFault) → ((x : A) → R x → Q x) → ((e : ParseFault) → F e → G e) → Sound R F r → Sound Q G r
sound_weaker R Q F G (Ok x) f g h = f x h
sound_weaker R Q F G (Err e) f g h = g e h

-- a step of a reader behind another

then_found : {A B : Type 0} (R : A → Type 0) (F : ParseFault → Type 0) (f : A → Result B ParseFault) (Q : A → B → Type 0) (G : A → ParseFault → Type 0) (r : Result A ParseFault) → Sound R F r
    → ((x : A) → R x → Settles (f x) (Q x) (G x)) → Sound (Then R Q) (FaultThen F R G) (r >>= f)
then_found R F f Q G (Ok x) h next =
    sound_weaker (Q x) (Then R Q) (G x) (FaultThen F R G) (f x) (λ y is. (x, h, is)) (λ e is. inr (x, h, is)) (next x h).found
then_found R F f Q G (Err e) h next = inl h

then_faults : {A B : Type 0} (R : A → Type 0) (F : ParseFault → Type 0) (f : A → Result B ParseFault) (Q : A → B → Type 0) (G : A → ParseFault → Type 0) (r : Result A ParseFault) → Settles r R F
    → ((x : A) → R x → Settles (f x) (Q x) (G x)) → (e : ParseFault) → FaultThen F R G e → (r >>= f) ≡ Err e
then_faults R F f Q G r first next e (inl is) = ap (λ t. t >>= f) (first.faults e is)
then_faults R F f Q G r first next e (inr is) = ap (λ t. t >>= f) (first.reads is.0 is.1) ∙ (next is.0 is.1).faults e is.2

pub then_settles : {A B : Type 0} (R : A → Type 0) (F : ParseFault → Type 0) (f : A → Result B ParseFault) (Q : A → B → Type 0) (G : A → ParseFault → Type 0) (r : Result A ParseFault) → Settles r R F
    → ((x : A) → R x → Settles (f x) (Q x) (G x)) → Settles (r >>= f) (Then R Q) (FaultThen F R G)
then_settles R F f Q G r first next = record {
  reads = λ y is. ap (λ t. t >>= f) (first.reads is.0 is.1) ∙ (next is.0 is.1).reads y is.2;
  faults = then_faults R F f Q G r first next;
  found = then_found R F f Q G r first.found next;
}

-- the same relations in other words
pub restated : {A : Type 0} (R Q : A → Type 0) (F G : ParseFault → Type 0) (r : Result A ParseFault) → Settles r R F → ((x : A) → R x → Q x) → ((x : A) → Q x → R x)
    → ((e : ParseFault) → F e → G e) → ((e : ParseFault) → G e → F e) → Settles r Q G
restated R Q F G r s to from onto back = record {
  reads = λ x is. s.reads x (from x is);
  faults = λ e is. s.faults e (back e is);
  found = sound_weaker R Q F G r to onto s.found;
}

-- a result that is always a value
pub settled_value : {A : Type 0} (x : A) → Settles (Ok x) (λ y. y ≡ x) (λ e. ⊥)
settled_value x = record { reads = λ y is. ap (λ z. Ok z) (sym is); faults = λ e is. absurd is; found = refl }

-- the same of a result that is seen otherwise

pub same_settles : {A : Type 0} (R : A → Type 0) (F : ParseFault → Type 0) (r s : Result A ParseFault) → r ≡ s → Settles s R F → Settles r R F
same_settles R F r s same h = subst (λ (t : Result _ ParseFault). Settles t R F) (sym same) h

map_then : {A B C : Type 0} (see : B → C) (r : Result A ParseFault) (f : A → Result B ParseFault) → map_ok see (r >>= f) ≡ (r >>= (λ x. map_ok see (f x)))
map_then see (Ok x) f = refl
map_then see (Err e) f = refl

pub then_seen : {A B C : Type 0} (see : B → C) (R : A → Type 0) (F : ParseFault → Type 0) (f : A → Result B ParseFault) (Q : A → C → Type 0) (G : A → ParseFault → Type 0) (r : Result A ParseFault)
    → Settles r R F → ((x : A) → R x → Settles (map_ok see (f x)) (Q x) (G x)) → Settles (map_ok see (r >>= f)) (Then R Q) (FaultThen F R G)
then_seen see R F f Q G r first next =
    same_settles (Then R Q) (FaultThen F R G) (map_ok see (r >>= f)) (r >>= (λ x. map_ok see (f x))) (map_then see r f)
    (then_settles R F (λ x. map_ok see (f x)) Q G r first next)
