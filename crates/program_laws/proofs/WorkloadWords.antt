-- Words that choose a workload name no script.
use Rattle.std.proofs.Common.{◌≡◌, ℕ, ◌+◌, true, List, [], ◌∷◌, Option, Some, None, IfSome, IsSome, refl, subst, ◌∙◌, option_map, ◌&&◌, is_none}
use Rattle.std.specs.Option.{option_and_then}
use Rattle.std.proofs.lemmas.Bool.{and_parts, cond_both}
use Rattle.command_words.specs.declared.options.Options.{Options}
use Rattle.command_words.specs.declared.options.Choices.{Choices}
use Rattle.command_words.specs.declared.options.Wanted.{Wanted}
use Rattle.command_words.specs.declared.options.Wanted.TheVariants as wanted
use Rattle.command_words.specs.Words.{options_from, options_of, all_chosen, next_choice, wants_option, names_script, is_file_name, are_arguments, with_script}

abbrev ChoosesOne : Options → Type 0
ChoosesOne o = IsSome o.script → o.workload ≡ None

-- without a script
record IsOf (c : Choices) (o : Options) : Type 0 where
  script : o.script ≡ None
  workload : o.workload ≡ c.workload

all-by : (w : Wanted) (c : Choices) (made : Options) → IsOf c made → IfSome (elim w [
  | wanted.Option ↦ Some made
  | wanted.Limit ↦ None
  | wanted.Budget ↦ None
  | wanted.Keys ↦ None
  | wanted.Workload ↦ None
]) (IsOf c)
all-by wanted.Option c made is = is
all-by wanted.Limit c made is = tt
all-by wanted.Budget c made is = tt
all-by wanted.Keys c made is = tt
all-by wanted.Workload c made is = tt

all-of : (c : Choices) → IfSome (all_chosen c) (IsOf c)
unfolding all_chosen
all-of c = all-by c.wanted c _ (record { script = refl; workload = refl })

alone : (o : Option Options) (c : Choices) → IfSome o (IsOf c) → IfSome o ChoosesOne
alone None c is = tt
alone (Some o) c is = λ some. let none = is.script in absurd (cc)

with-script : (o : Option Options) (c : Choices) (place : ℕ) → IfSome o (IsOf c) → c.workload ≡ None → IfSome (option_map (λ (options : Options). record options { script = Some place }) o) ChoosesOne
with-script None c place is none = tt
with-script (Some o) c place is none = λ _. is.workload ∙ none

none-is : (o : Option ℕ) → is_none o ≡ true → o ≡ None
none-is None h = refl
none-is (Some n) h = absurd (cc)

script-alone : (place : ℕ) (c : Choices) (word : List ℕ) (more : List (List ℕ)) → IfSome (with_script place c word more) ChoosesOne
script-alone place c word more =
    cond_both (is_file_name word && are_arguments more && is_none c.workload) (option_map (λ (options : Options). record options { script = Some place }) (all_chosen c)) None
    (λ (o : Option Options). IfSome o ChoosesOne)
    (λ all. with-script (all_chosen c) c place (all-of c) (none-is c.workload (and_parts (is_file_name word && are_arguments more) (is_none c.workload) all).1)) (λ _. tt)

then-one : (f : Choices → Option Options) (o : Option Choices) → ((c : Choices) → IfSome (f c) ChoosesOne) → IfSome (option_and_then f o) ChoosesOne
then-one f None all = tt
then-one f (Some c) all = all c

from-one : (words : List (List ℕ)) (place : ℕ) (c : Choices) → IfSome (options_from place c words) ChoosesOne
unfolding options_from
from-one [] place c = alone (all_chosen c) c (all-of c)
from-one (word ∷ more) place c =
    cond_both (wants_option c.wanted && names_script word) (with_script place c word more) (option_and_then (λ c. options_from (place + 1) c more) (next_choice place c word))
    (λ (o : Option Options). IfSome o ChoosesOne) (λ _. script-alone place c word more)
    (λ _. then-one (λ c. options_from (place + 1) c more) (next_choice place c word) (λ next. from-one more (place + 1) next))

pub workload-or-script : (words : List (List ℕ)) (o : Options) → options_of words ≡ Some o → IsSome o.script → o.workload ≡ None
unfolding options_of
workload-or-script words o is = subst (λ (x : Option Options). IfSome x ChoosesOne) is (from-one words 0 _)
