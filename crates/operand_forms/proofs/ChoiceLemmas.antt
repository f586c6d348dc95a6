-- What a choice between answers tells of its parts.
use Rattle.std.proofs.Common.{◌≡◌, ◌⊎◌, inl, inr, Bool, true, false, cond, Option, Some, None, refl}
use Rattle.std.specs.Option.{option_map}
use Rattle.operand_forms.specs.Operands.{or_else, both}

-- which way a test went
pub chosen : {A : Type 0} (b : Bool) (x y z : A) → cond b x y ≡ z → ((b ≡ true) × (x ≡ z)) ⊎ ((b ≡ false) × (y ≡ z))
chosen true x y z h = inl (refl, h)
chosen false x y z h = inr (refl, h)

pub same_some : {A : Type 0} (x y : A) → Some x ≡ Some y → x ≡ y
same_some x y h = cc

-- an answer that cannot be one is none
pub none_from : {A : Type 0} (o : Option A) → ((x : A) → o ≡ Some x → ⊥) → o ≡ None
none_from None h = refl
none_from (Some x) h = absurd (h x refl)

-- the first of two answers, or else the second
pub either_answer : {A : Type 0} (o p : Option A) (x : A) → or_else o p ≡ Some x → (o ≡ Some x) ⊎ ((o ≡ None) × (p ≡ Some x))
either_answer (Some y) p x h = inl h
either_answer None p x h = inr (refl, h)

pub first_answer : {A : Type 0} (o p : Option A) (x : A) → o ≡ Some x → or_else o p ≡ Some x
first_answer (Some y) p x h = h
first_answer None p x h = cc

pub second_answer : {A : Type 0} (o p q : Option A) → o ≡ None → p ≡ q → or_else o p ≡ q
second_answer (Some y) p q h k = cc
second_answer None p q h k = k

-- an answer that a function made of another
pub mapped : {A B : Type 0} (f : A → B) (o : Option A) (y : B) → option_map f o ≡ Some y → (x : A) × (o ≡ Some x) × (f x ≡ y)
mapped f None y h = absurd (cc)
mapped f (Some x) y h = (x, refl, same_some (f x) y h)

-- two answers, put together
pub record Two {A B C : Type 0} (f : A → B → C) (o : Option A) (p : Option B) (z : C) : Type 0 where
  pub left : A
  pub right : B
  pub first : o ≡ Some left
  pub second : p ≡ Some right
  pub made : f left right ≡ z

pub two_answers : {A B C : Type 0} (f : A → B → C) (o : Option A) (p : Option B) (z : C) → both f o p ≡ Some z → Two f o p z
two_answers f (Some x) (Some y) z h = record { left = x; right = y; first = refl; second = refl; made = same_some (f x y) z h }
two_answers f (Some x) None z h = absurd (cc)
two_answers f None p z h = absurd (cc)

pub put_together : {A B C : Type 0} (f : A → B → C) (o : Option A) (p : Option B) (x : A) (y : B)
    → o ≡ Some x → p ≡ Some y → both f o p ≡ Some (f x y)
put_together f o p x y first second = rw (first, second) refl
