-- What is known of a reading behind its answer.
use Rattle.std.proofs.Common.{◌≡◌, ◌⊎◌, Bool, true, false, cond, Result, Ok, Err, refl, inl, inr}
use Rattle.byte_layouts.specs.declared.fault.FieldFault.{FieldFault}
use Rattle.byte_layouts.specs.Readers.{At, followed}

-- what went on to a value had one to go on with
pub value_parts : {A B : Type 0} (read : Result (A × At) FieldFault) (f : A → At → Result B FieldFault) (y : B) → followed read f ≡ Ok y
    → (x : A) × (mid : At) × (read ≡ Ok (x, mid)) × (f x mid ≡ Ok y)
value_parts (Ok x) f y e = (x.0, x.1, refl, e)
value_parts (Err fault) f y e = absurd cc

-- a fault is that of the first part, or of what went on
pub fault_parts : {A B : Type 0} (read : Result (A × At) FieldFault) (f : A → At → Result B FieldFault) (fault : FieldFault) → followed read f ≡ Err fault
    → (read ≡ Err fault) ⊎ ((x : A) × (mid : At) × (read ≡ Ok (x, mid)) × (f x mid ≡ Err fault))
fault_parts (Ok x) f fault e = inr (x.0, x.1, refl, e)
fault_parts (Err other) f fault e = inl cc

-- a choice that has a value, where the other side is a fault
pub first_chosen : {A : Type 0} (b : Bool) (read : Result A FieldFault) (d : FieldFault) (y : A) → cond b read (Err d) ≡ Ok y → (b ≡ true) × (read ≡ Ok y)
first_chosen true read d y e = (refl, e)
first_chosen false read d y e = absurd cc

pub second_chosen : {A : Type 0} (b : Bool) (read : Result A FieldFault) (d : FieldFault) (y : A) → cond b (Err d) read ≡ Ok y → (b ≡ false) × (read ≡ Ok y)
second_chosen true read d y e = absurd cc
second_chosen false read d y e = (refl, e)

-- a choice of a value that has a fault
pub first_refused : {A : Type 0} (b : Bool) (d fault : FieldFault) (x : A) → cond b (Ok x) (Err d) ≡ Err fault → (b ≡ false) × (fault ≡ d)
first_refused true d fault x e = absurd cc
first_refused false d fault x e = (refl, cc)

pub second_refused : {A : Type 0} (b : Bool) (d fault : FieldFault) (x : A) → cond b (Err d) (Ok x) ≡ Err fault → fault ≡ d
second_refused true d fault x e = cc
second_refused false d fault x e = absurd cc

-- a reading has one answer
pub one_value : {A : Type 0} (x y : A) (read : Result A FieldFault) → read ≡ Ok x → read ≡ Ok y → x ≡ y
one_value x y read d e = cc

pub no_fault : {A : Type 0} (x : A) (fault : FieldFault) (read : Result A FieldFault) → read ≡ Ok x → read ≡ Err fault → ⊥
no_fault x fault read d e = cc
