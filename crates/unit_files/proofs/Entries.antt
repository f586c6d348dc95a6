-- The list of open files: one is put in front, or one is closed.
use Rattle.std.proofs.Common.{inl, inr, ◌≡◌, ◌≢◌, ℕ, ◌==◌, List, [], ◌∷◌, Some, Option, refl, ap}
use Rattle.std.proofs.Common.{sym, ◌∙◌, if◌then◌else◌}
use Rattle.std.proofs.lemmas.Bool.{cases_eq}
use Rattle.file_traits.specs.State.{Opened, opened_at, without}
use Rattle.file_traits.proofs.Fronts.{front-out, front-passed, front-kept}

-- closing one leaves every other as it was
pub other-kept : (opened : List Opened) (file other : ℕ) → other ≢ file → opened_at (without opened file) other
    ≡ opened_at opened other
other-kept [] file other differ = refl
other-kept (o ∷ rest) file other differ = elim (cases_eq o.file file) [
  | inl same ↦
      ap (λ (xs : List Opened). opened_at xs other) (front-out o rest file same)
      ∙ sym (front-passed o rest other (λ (here : o.file ≡ other). differ (sym here ∙ same)))
  | inr not ↦
      ap (λ (xs : List Opened). opened_at xs other) (front-kept o rest file not)
      ∙ ap (λ (x : Option Opened). if o.file == other then Some o else x) (other-kept rest file other differ)
]

-- two are closed in either order
pub closed-both : (opened : List Opened) (a b : ℕ) → without (without opened a) b ≡ without (without opened b) a
closed-both [] a b = refl
closed-both (o ∷ rest) a b = elim (cases_eq o.file a) [
  | inl is_a ↦ elim (cases_eq o.file b) [
    | inl is_b ↦ λ i. without (without (o ∷ rest) ((sym is_a ∙ is_b) i)) ((sym is_b ∙ is_a) i)
    | inr not_b ↦
        ap (λ (xs : List Opened). without xs b) (front-out o rest a is_a)
        ∙ sym (front-out o (without rest b) a is_a)
        ∙ ap (λ (xs : List Opened). without xs a) (sym (front-kept o rest b not_b))
  ]
  | inr not_a ↦ elim (cases_eq o.file b) [
    | inl is_b ↦
        ap (λ (xs : List Opened). without xs b) (front-kept o rest a not_a)
        ∙ front-out o (without rest a) b is_b
        ∙ ap (λ (xs : List Opened). without xs a) (sym (front-out o rest b is_b))
    | inr not_b ↦
        ap (λ (xs : List Opened). without xs b) (front-kept o rest a not_a)
        ∙ front-kept o (without rest a) b not_b
        ∙ ap (λ (xs : List Opened). o ∷ xs) (closed-both rest a b)
        ∙ sym (front-kept o (without rest b) a not_a)
        ∙ ap (λ (xs : List Opened). without xs a) (sym (front-kept o rest b not_b))
  ]
]
