-- A call that can't have failed.
use Rattle.std.proofs.Common.{Result, Ok, Err, IsOk, OnOk, OnErr, refl}

pub ok_by : {T E : Type 0} (r : Result T E) (P : Type 0) → OnErr r P → (P → ⊥) → IsOk r
ok_by (Ok x) P given never = refl
ok_by (Err e) P given never = absurd (never given)

pub on_ok : {T E : Type 0} (r : Result T E) (P : Type 0) → IsOk r → OnOk r P → P
on_ok (Ok x) P ok given = given
on_ok (Err e) P ok given = absurd (cc)
