-- Lists of which each element is as those before it ask, in the words of layouts and in those of saved sessions.
use Rattle.std.proofs.Common.{◌≡◌, ℕ, suc, zero, ◌-◌, List, [], ◌∷◌, length, get_or, refl, sym, subst, ◌∙◌, arith}
use Rattle.std.specs.Prelude.{Some, slice_get, map}
use Rattle.std.specs.Option.{option_map}
use Rattle.std.specs.List.{AllByRecursion}
use Rattle.std.proofs.lemmas.List.{length-append, length-map, get_or-append_right}
use Rattle.std.proofs.lemmas.Option.{slice_get_read, slice_get-map}
use Rattle.saved_session.specs.Order.{next_number}
use Rattle.saved_session.specs.Valid.{Follow as Follows}
use Rattle.byte_layouts.specs.Readers.{with_last}
use Rattle.byte_layouts.specs.Layout.{Follow}

-- what the next one may be is told by those before it, or by what the last of them left
pub follows_to : {A S : Type 0} (H : List A → A → Type 0) (Each : S → A → Type 0) (next : S → A → S) (state_of : List A → S) → ((front : List A) (x : A) → state_of (with_last front x) ≡ next (state_of front) x)
    → ((front : List A) (x : A) → H front x → Each (state_of front) x) → (front xs : List A) → Follow H with_last front xs → Follows Each next (state_of front) xs
follows_to H Each next state_of step one front [] h = tt
follows_to {A} {S} H Each next state_of step one front (x ∷ xs) h =
    (one front x h.0, subst (λ (s : S). Follows Each next s xs) (step front x) (follows_to H Each next state_of step one (with_last front x) xs h.1))

pub follows_from : {A S : Type 0} (H : List A → A → Type 0) (Each : S → A → Type 0) (next : S → A → S) (state_of : List A → S) → ((front : List A) (x : A) → state_of (with_last front x) ≡ next (state_of front) x)
    → ((front : List A) (x : A) → Each (state_of front) x → H front x) → (front xs : List A) → Follows Each next (state_of front) xs → Follow H with_last front xs
follows_from H Each next state_of step one front [] h = tt
follows_from {A} {S} H Each next state_of step one front (x ∷ xs) h =
    (one front x h.0, follows_from H Each next state_of step one (with_last front x) xs (subst (λ (s : S). Follows Each next s xs) (sym (step front x)) h.1))

pub all_to : {A : Type 0} (H : List A → A → Type 0) (P : A → Type 0) → ((front : List A) (x : A) → H front x → P x) → (front xs : List A) → Follow H with_last front xs → AllByRecursion P xs
all_to H P one front [] h = tt
all_to H P one front (x ∷ xs) h = (one front x h.0, all_to H P one (with_last front x) xs h.1)

pub all_from : {A : Type 0} (H : List A → A → Type 0) (P : A → Type 0) → ((front : List A) (x : A) → P x → H front x) → (front xs : List A) → AllByRecursion P xs → Follow H with_last front xs
all_from H P one front [] h = tt
all_from H P one front (x ∷ xs) h = (one front x h.0, all_from H P one (with_last front x) xs h.1)

-- elements are numbered one behind another
pub numbers_step : {A : Type 0} (front : List A) (x : A) → length (with_last front x) ≡ next_number (length front) x
numbers_step front x = omega (arith, length-append front (x ∷ []))

only_one : {A : Type 0} (x : A) (k : ℕ) → x ≡ get_or (x ∷ []) k x
only_one x zero = refl
only_one x (suc k) = refl

-- the last one
pub last_is : {A : Type 0} (front : List A) (x : A) → slice_get (with_last front x) (length (with_last front x) - 1) ≡ Some x
last_is {A} front x =
    let size = length-append front (x ∷ []) in
    slice_get_read (with_last front x) (length (with_last front x)) (length (with_last front x) - 1) x refl (omega (arith, size))
    (only_one x (length (with_last front x) - 1 - length front)
    ∙ sym (get_or-append_right front (x ∷ []) (length front) (length (with_last front x) - 1) x refl (omega (arith, size))))

-- the last one as it is seen
pub last_seen : {X A : Type 0} (view : X → A) (xs : List X) → slice_get (map view xs) (length (map view xs) - 1) ≡ option_map view (slice_get xs (length xs - 1))
last_seen view xs = rw (length-map xs view) (slice_get-map view xs (length xs - 1))
