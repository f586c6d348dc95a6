-- A piece that is taken in.
use Rattle.std.proofs.Common.{◌≡◌, ℕ, ◌-◌, ◌≤◌, List, [], ◌++◌, length, take, drop, Result, Ok, Err, refl, sym, ap, subst, ◌∙◌, append_assoc, arith, inl, inr}
use Rattle.std.specs.Prelude.{OnOk}
use Rattle.std.specs.declared.alloc.AllocError.{AllocError}
use Rattle.std.proofs.lemmas.Bool.{cases_lt}
use Rattle.std.proofs.lemmas.List.{take-append-drop, drop_all, length-append, length-take-le, get_or_append_left, get_or-append_right}
use Rattle.sha2.specs.declared.Sha256.{Sha256}
use Rattle.sha2.specs.Hashers.{Holds256}
use Rattle.byte_layouts.specs.declared.stage.Stage.{Stage}
use Rattle.byte_layouts.specs.declared.stage.Stage.TheVariants.{Open, AtEnd, Faulty}
use Rattle.byte_layouts.specs.Readers.{at_of, Reader}
use Rattle.byte_layouts.specs.Held.{Held, at_in, IsBytes}
use Rattle.byte_layouts.specs.Fed.{first_place, Keeps, Comes, LetsGo, HasEnded, IsFed, IsWanted}

bytes_joined : (x y : List ℕ) → IsBytes x → IsBytes y → IsBytes (x ++ y)
bytes_joined x y fx fy i =
    elim (cases_lt i (length x)) [
      | inl within ↦ rw (get_or_append_left x y 0 i within) (fx i)
      | inr past ↦ rw (get_or-append_right x y (length x) i 0 refl past) (fy (i - length x))
    ]

-- so many bytes of a piece come behind the bytes that are there
pub record IsTaken (old new : Held) (piece : List ℕ) (count : ℕ) : Type 0 where
  pub hasher : new.hasher ≡ old.hasher
  pub place : new.place ≡ old.place
  pub rest : new.rest ≡ old.rest ++ take count piece

-- what is let go beside them
Beside : List ℕ → List ℕ → ℕ → List ℕ → Type 0
Beside lost piece count left = lost ++ piece ≡ take count piece ++ left

regrouped : (old new : Held) (piece : List ℕ) (count : ℕ) (lost left : List ℕ) → IsTaken old new piece count → Beside lost piece count left → old.rest ++ (lost ++ piece) ≡ new.rest ++ left
unfolding Beside
regrouped old new piece count lost left taken beside =
    ap (λ (l : List ℕ). old.rest ++ l) beside ∙ sym (append_assoc old.rest (take count piece) left) ∙ ap (λ (l : List ℕ). l ++ left) (sym taken.rest)

keeps_more : (old new : Held) (fed piece : List ℕ) (count : ℕ) (lost left : List ℕ) → IsTaken old new piece count → Beside lost piece count left → Keeps old fed lost → Keeps new (fed ++ piece) left
keeps_more old new fed piece count lost left taken beside it = record {
  done = it.done;
  parts = ap (λ (l : List ℕ). l ++ piece) it.parts ∙ append_assoc it.done (old.rest ++ lost) piece ∙ ap (λ (l : List ℕ). it.done ++ l) (append_assoc old.rest lost piece)
      ∙ ap (λ (l : List ℕ). it.done ++ l) (regrouped old new piece count lost left taken beside);
  hashed = subst (λ (x : Sha256). Holds256 x it.done) (sym taken.hasher) it.hashed;
  place = taken.place ∙ it.place;
}

comes_more : {Y : Type 0} (whole rest : Reader Y) (old new : Held) (fed piece : List ℕ) (count : ℕ) (lost left : List ℕ) → IsTaken old new piece count → Beside lost piece count left
    → Comes whole rest (at_in old) lost fed → Comes whole rest (at_in new) left (fed ++ piece)
comes_more whole rest old new fed piece count lost left taken beside it = λ tail.
    let joined : old.rest ++ (lost ++ (piece ++ tail)) ≡ new.rest ++ (left ++ tail) =
    ap (λ (l : List ℕ). old.rest ++ l) (sym (append_assoc lost piece tail)) ∙ sym (append_assoc old.rest (lost ++ piece) tail)
    ∙ ap (λ (l : List ℕ). l ++ tail) (regrouped old new piece count lost left taken beside) ∙ append_assoc new.rest left tail in
    ap (λ (l : List ℕ). whole (first_place l)) (append_assoc fed piece tail) ∙ it (piece ++ tail) ∙ (λ i. rest (at_of (sym taken.place i) (joined i)))

all_beside : (piece : List ℕ) (count : ℕ) → Beside [] piece count (drop count piece)
unfolding Beside
all_beside piece count = sym (take-append-drop count piece)

none_beside : (lost piece : List ℕ) (count : ℕ) → count ≡ 0 → Beside lost piece count (lost ++ piece)
unfolding Beside
none_beside lost piece count none = rw none refl

takes_open : {Y : Type 0} (whole rest : Reader Y) (old new : Held) (fed piece : List ℕ) (count : ℕ) → count ≡ length piece → IsTaken old new piece count
    → Keeps old fed [] × Comes whole rest (at_in old) [] fed → Keeps new (fed ++ piece) [] × Comes whole rest (at_in new) [] (fed ++ piece)
takes_open whole rest old new fed piece count all taken it =
    let over : drop count piece ≡ [] = drop_all count piece (omega (arith, all)) in
    let beside : Beside [] piece count [] = subst (λ (l : List ℕ). Beside [] piece count l) over (all_beside piece count) in
    (keeps_more old new fed piece count [] [] taken beside it.0, comes_more whole rest old new fed piece count [] [] taken beside it.1)

takes_behind : {Y : Type 0} (whole rest : Reader Y) (kept : ℕ) (old new : Held) (fed piece left : List ℕ) (count : ℕ) (it : HasEnded whole rest kept old fed) → IsTaken old new piece count → Beside it.lost piece count left
    → LetsGo kept new.rest left → HasEnded whole rest kept new (fed ++ piece)
takes_behind whole rest kept old new fed piece left count it taken beside lets = record {
  lost = left;
  keeps = keeps_more old new fed piece count it.lost left taken beside it.keeps;
  lets = lets;
  read = it.read;
  comes = comes_more whole rest old new fed piece count it.lost left taken beside it.comes;
}

takes_end : {Y : Type 0} (whole rest : Reader Y) (kept : ℕ) (old new : Held) (fed piece : List ℕ) (count : ℕ) → count ≤ length piece → IsWanted AtEnd kept old.rest (length piece) count → IsTaken old new piece count
    → HasEnded whole rest kept old fed → HasEnded whole rest kept new (fed ++ piece)
takes_end whole rest kept old new fed piece count within wanted taken it = elim it.lets [
  | inl none ↦ takes_behind whole rest kept old new fed piece (drop count piece) count it taken (subst (λ (l : List ℕ). Beside l piece count (drop count piece)) (sym none) (all_beside piece count))
      (elim wanted.0 [
        | inl all ↦ inl (drop_all count piece (omega (arith, all)))
        | inr full ↦ inr (subst (λ (l : List ℕ). kept ≤ length l) (sym taken.rest) (omega (arith, full, length-append old.rest (take count piece), length-take-le count piece within)))
      ])
  | inr full ↦ takes_behind whole rest kept old new fed piece (it.lost ++ piece) count it taken (none_beside it.lost piece count (wanted.1 full))
      (inr (subst (λ (l : List ℕ). kept ≤ length l) (sym taken.rest) (omega (arith, full, length-append old.rest (take count piece)))))
]

pub takes : {Y : Type 0} (stage : Stage) (whole rest : Reader Y) (kept : ℕ) (old new : Held) (fed piece : List ℕ) (count : ℕ) → IsBytes piece → count ≤ length piece → IsWanted stage kept old.rest (length piece) count
    → IsTaken old new piece count → IsFed stage whole rest kept old fed → IsFed stage whole rest kept new (fed ++ piece)
takes Open whole rest kept old new fed piece count bytes within wanted taken it = (bytes_joined fed piece it.0 bytes, takes_open whole rest old new fed piece count wanted taken it.1)
takes AtEnd whole rest kept old new fed piece count bytes within wanted taken it = (bytes_joined fed piece it.0 bytes, takes_end whole rest kept old new fed piece count within wanted taken it.1)
takes (Faulty fault) whole rest kept old new fed piece count bytes within wanted taken it =
    (bytes_joined fed piece it.0 bytes, λ tail. ap (λ (l : List ℕ). whole (first_place l)) (append_assoc fed piece tail) ∙ it.1 (piece ++ tail))

pub then_settled : (P M Q : List ℕ → Type 0) (result : Result (Unit {0}) AllocError) (piece : List ℕ) → ((fed : List ℕ) → P fed → M (fed ++ piece)) → OnOk result ((fed : List ℕ) → M fed → Q fed)
    → OnOk result ((fed : List ℕ) → P fed → Q (fed ++ piece))
then_settled P M Q (Ok u) piece one two = λ fed it. two (fed ++ piece) (one fed it)
then_settled P M Q (Err e) piece one two = tt
