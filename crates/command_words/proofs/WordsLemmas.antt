-- The words of the command line, one at a time.
use Rattle.std.proofs.Common.{◌≡◌, ℕ, ◌+◌, ◌<◌, ◌≤◌, Bool, true, false, List, [], ◌∷◌, length, drop, take, length-drop, ◌-◌, get_or, Option, Some, None, IfSome, refl, ap, sym, ◌∙◌, subst, string_bytes, String, Global, arith, if◌then◌else◌, option_map, bytes_eq, codes, ◌&&◌, not, is_none}
use Rattle.std.specs.Prelude.{◌^◌, nat_le, nat_eq, unwrap_or, slice_index, Result, Ok, Err}
use Rattle.std.specs.List.{list_all}
use Rattle.std.specs.Option.{option_and_then}
use Rattle.std.proofs.lemmas.Bool.{leb-true, le-leb, and_parts}
use Rattle.std.proofs.lemmas.List.{drop_more, drop_all, take_all, length-map}
use Rattle.std.proofs.lemmas.List.Folds.{list_all-map}
use Rattle.nova_word.specs.declared.numbers.NumberFault.{NumberFault}
use Rattle.nova_word.specs.Numbers.{number_read}
use Rattle.command_words.specs.Counts.{count_in, count_of}
use Rattle.command_words.specs.declared.options.Options.{Options}
use Rattle.command_words.specs.declared.options.Choices.{Choices}
use Rattle.command_words.specs.declared.options.Wanted.{Wanted}
use Rattle.command_words.specs.declared.options.Wanted.TheVariants as wanted
use Rattle.command_words.specs.Words.{options_from, options_of, all_chosen, next_choice, chosen_option, limit_of, usual_limit, usual_budget, within_budget, budget_of, workload_of, is_file_name, texts_of}
use Rattle.command_words.specs.Words.{wants_option, names_script, are_arguments, with_script, FilesAreNamed}

pub some-weaker : {A : Type 0} (P Q : A → Type 0) (o : Option A) → ((a : A) → P a → Q a) → IfSome o P → IfSome o Q
some-weaker P Q None all is = tt
some-weaker P Q (Some a) all is = all a is

-- what the words from one on choose: a script with its arguments, or what it chooses and then what the others do
chosen_from : Bool → ℕ → Choices → List ℕ → List (List ℕ) → Option Options
chosen_from test place c text more = if test then with_script place c text more else option_and_then (λ c. options_from (place + 1) c more) (next_choice place c text)

from-word : (place : ℕ) (c : Choices) (text : List ℕ) (more : List (List ℕ)) → options_from place c (text ∷ more) ≡ chosen_from (wants_option c.wanted && names_script text) place c text more
unfolding options_from chosen_from
from-word place c text more = refl

from-none : (place : ℕ) (c : Choices) → options_from place c [] ≡ all_chosen c
unfolding options_from
from-none place c = refl

at-word : (c : Choices) (words : List (String Global)) (i : ℕ) (word : String Global) (test : Bool) → i < length words → word ≡ get_or words i word
    → test ≡ (wants_option c.wanted && names_script (string_bytes word))
    → options_from i c (texts_of (drop i words)) ≡ chosen_from test i c (string_bytes word) (texts_of (drop (i + 1) words))
at-word c words i word test within is tested =
    ap (λ l. options_from i c (texts_of l)) (drop_more words i word within)
    ∙ ap (λ w. options_from i c (string_bytes w ∷ texts_of (drop (i + 1) words))) (sym is)
    ∙ from-word i c (string_bytes word) (texts_of (drop (i + 1) words))
    ∙ ap (λ t. chosen_from t i c (string_bytes word) (texts_of (drop (i + 1) words))) (sym tested)

-- a word that is a script
pub word-script : (c : Choices) (words : List (String Global)) (i : ℕ) (word : String Global) (test : Bool) (answer : Option Options) → i < length words → word ≡ get_or words i word
    → test ≡ (wants_option c.wanted && names_script (string_bytes word)) → test ≡ true
    → answer ≡ options_from i c (texts_of (drop i words)) → answer ≡ with_script i c (string_bytes word) (texts_of (drop (i + 1) words))
unfolding chosen_from
word-script c words i word test answer within is tested on so_far =
    so_far ∙ at-word c words i word test within is tested ∙ ap (λ t. chosen_from t i c (string_bytes word) (texts_of (drop (i + 1) words))) on

-- a word that is no option
pub word-refused : (c : Choices) (words : List (String Global)) (i : ℕ) (word : String Global) (test : Bool) (answer : Option Options) → i < length words → word ≡ get_or words i word
    → test ≡ (wants_option c.wanted && names_script (string_bytes word)) → test ≡ false
    → answer ≡ options_from i c (texts_of (drop i words)) → None ≡ next_choice i c (string_bytes word) → None ≡ answer
unfolding chosen_from
word-refused c words i word test answer within is tested off so_far none =
    sym (so_far ∙ at-word c words i word test within is tested ∙ ap (λ t. chosen_from t i c (string_bytes word) (texts_of (drop (i + 1) words))) off
    ∙ ap (option_and_then (λ c. options_from (i + 1) c (texts_of (drop (i + 1) words)))) (sym none))

-- a word that is one
pub word-taken : (c next : Choices) (words : List (String Global)) (i : ℕ) (word : String Global) (test : Bool) (answer : Option Options) → i < length words → word ≡ get_or words i word
    → test ≡ (wants_option c.wanted && names_script (string_bytes word)) → test ≡ false
    → answer ≡ options_from i c (texts_of (drop i words)) → Some next ≡ next_choice i c (string_bytes word)
    → answer ≡ options_from (i + 1) next (texts_of (drop (i + 1) words))
unfolding chosen_from
word-taken c next words i word test answer within is tested off so_far some =
    so_far ∙ at-word c words i word test within is tested ∙ ap (λ t. chosen_from t i c (string_bytes word) (texts_of (drop (i + 1) words))) off
    ∙ ap (option_and_then (λ c. options_from (i + 1) c (texts_of (drop (i + 1) words)))) (sym some)

-- no word is left
pub words-all : (c : Choices) (words : List (String Global)) (i : ℕ) (answer : Option Options) → length words ≤ i
    → answer ≡ options_from i c (texts_of (drop i words)) → answer ≡ all_chosen c
words-all c words i answer all so_far = so_far ∙ ap (λ l. options_from i c (texts_of l)) (drop_all i words all) ∙ from-none i c

-- the words from one on, as the code takes them
pub rest-same : (words : List (String Global)) (place : ℕ) → take (length words - place) (drop place words) ≡ drop place words
rest-same words place = take_all (length words - place) (drop place words) (omega (arith, length-drop place words))

-- words that are arguments, by the bytes of each
arguments-are : (words : List (String Global)) → are_arguments (texts_of words) ≡ (nat_le (length words) 9 && list_all (λ (word : String Global). nat_le 1 (length (string_bytes word))) words)
arguments-are words =
    ap (λ (n : ℕ). nat_le n 9 && list_all (λ (word : List ℕ). nat_le 1 (length word)) (texts_of words)) (length-map words (λ (word : String Global). string_bytes word))
    ∙ ap (λ (b : Bool). nat_le (length words) 9 && b) (list_all-map (λ (word : List ℕ). nat_le 1 (length word)) (λ (word : String Global). string_bytes word) words)

pub few-arguments : (words : List (String Global)) → length words ≤ 9 → are_arguments (texts_of words) ≡ list_all (λ (word : String Global). nat_le 1 (length (string_bytes word))) words
few-arguments words few = arguments-are words ∙ ap (λ (b : Bool). b && list_all (λ (word : String Global). nat_le 1 (length (string_bytes word))) words) (le-leb (length words) 9 few)

-- ---- what holds of all choices

-- a limit of a run that words can choose
abbrev pub IsLimit : ℕ → Type 0
IsLimit n = (1 ≤ n) × (n ≤ 2 ^ 48)

-- the word that was chosen for the keys stands before that place, and the budget and the limit are ones that words can
-- choose
abbrev Allowed : ℕ → Choices → Type 0
Allowed place c = IfSome c.keys (λ (p : ℕ). p < place) × IfSome c.budget (λ (n : ℕ). n ≤ 2 ^ 32) × IfSome c.limit IsLimit

some-if : {A : Type 0} (P : A → Type 0) (b : Bool) (x y : Option A) → IfSome x P → IfSome y P → IfSome (if b then x else y) P
some-if P true x y first second = first
some-if P false x y first second = second

some-map : {A B : Type 0} (P : B → Type 0) (f : A → B) (o : Option A) → ((a : A) → P (f a)) → IfSome (option_map f o) P
some-map P f None all = tt
some-map P f (Some a) all = all a

some-map-if : {A B : Type 0} (P : B → Type 0) (Q : A → Type 0) (f : A → B) (o : Option A) → IfSome o Q → ((a : A) → Q a → P (f a)) → IfSome (option_map f o) P
some-map-if P Q f None is all = tt
some-map-if P Q f (Some a) is all = all a is

below-next : (o : Option ℕ) (place : ℕ) → IfSome o (λ (p : ℕ). p < place) → IfSome o (λ (p : ℕ). p < place + 1)
below-next None place below = tt
below-next (Some p) place below = omega (arith, below)

cond-fits : (b : Bool) (n : ℕ) → nat_le n usual_budget ≡ b → IfSome (if b then Some n else None) (λ (m : ℕ). m ≤ 2 ^ 32)
cond-fits true n is = leb-true n (2 ^ 32) is
cond-fits false n is = tt

within-fits : (o : Option ℕ) → IfSome (within_budget o) (λ (n : ℕ). n ≤ 2 ^ 32)
within-fits None = tt
within-fits (Some n) = cond-fits (nat_le n usual_budget) n refl

count-fits : (n : ℕ) (b : Bool) → (nat_le 1 n && nat_le n (2 ^ 48)) ≡ b → IfSome (if b then Some n else None) IsLimit
count-fits n true is = let both = and_parts (nat_le 1 n) (nat_le n (2 ^ 48)) is in (leb-true 1 n both.0, leb-true n (2 ^ 48) both.1)
count-fits n false is = tt

read-fits : (r : Result ℕ NumberFault) → IfSome (count_in r) IsLimit
read-fits (Ok n) = count-fits n (nat_le 1 n && nat_le n (2 ^ 48)) refl
read-fits (Err fault) = tt

limit-fits : (word : List ℕ) → IfSome (limit_of word) IsLimit
unfolding limit_of
limit-fits word = some-if IsLimit (nat_eq (slice_index word 0) 48) None (count_of word) tt (read-fits (number_read 10 (2 ^ 63) word))

budget-fits : (word : List ℕ) → IfSome (budget_of word) (λ (n : ℕ). n ≤ 2 ^ 32)
unfolding budget_of
budget-fits word = within-fits (limit_of word)

chosen-by : (place : ℕ) (c : Choices) (quiet limit budget keys workload : Bool) → Allowed (place + 1) c → IfSome
    (if quiet then Some (record c { quiet = true }) else if limit then Some (record c { wanted = wanted.Limit })
    else if budget then Some (record c { wanted = wanted.Budget }) else if keys then Some (record c { wanted = wanted.Keys })
    else if workload then Some (record c { wanted = wanted.Workload }) else None)
    (Allowed (place + 1))
chosen-by place c true limit budget keys workload holds = holds
chosen-by place c false true budget keys workload holds = holds
chosen-by place c false false true keys workload holds = holds
chosen-by place c false false false true workload holds = holds
chosen-by place c false false false false true holds = holds
chosen-by place c false false false false false holds = tt

chosen-allowed : (place : ℕ) (c : Choices) (word : List ℕ) → Allowed (place + 1) c → IfSome (chosen_option c word) (Allowed (place + 1))
unfolding chosen_option
chosen-allowed place c word holds =
    chosen-by place c (bytes_eq word (codes "-q") && not c.quiet) (bytes_eq word (codes "-l") && is_none c.limit) (bytes_eq word (codes "-m") && is_none c.budget)
    (bytes_eq word (codes "-k") && is_none c.keys) (bytes_eq word (codes "-g") && is_none c.workload) holds

by-wanted : (w : Wanted) (place : ℕ) (c : Choices) (word : List ℕ) → Allowed (place + 1) c → IfSome (elim w [
  | wanted.Option ↦ chosen_option c word
  | wanted.Limit ↦ option_map (λ (n : ℕ). record c { limit = Some n; wanted = wanted.Option }) (limit_of word)
  | wanted.Budget ↦ option_map (λ (n : ℕ). record c { budget = Some n; wanted = wanted.Option }) (budget_of word)
  | wanted.Keys ↦ if is_file_name word then Some (record c { keys = Some place; wanted = wanted.Option }) else None
  | wanted.Workload ↦ option_map (λ (n : ℕ). record c { workload = Some n; wanted = wanted.Option }) (workload_of word)
]) (Allowed (place + 1))
by-wanted wanted.Option place c word holds = chosen-allowed place c word holds
by-wanted wanted.Limit place c word holds =
    some-map-if (Allowed (place + 1)) IsLimit (λ (n : ℕ). record c { limit = Some n; wanted = wanted.Option }) (limit_of word) (limit-fits word) (λ n fits. (holds.0, holds.1, fits))
by-wanted wanted.Budget place c word holds =
    some-map-if (Allowed (place + 1)) (λ (n : ℕ). n ≤ 2 ^ 32) (λ (n : ℕ). record c { budget = Some n; wanted = wanted.Option }) (budget_of word) (budget-fits word) (λ n fits. (holds.0, fits, holds.2))
by-wanted wanted.Keys place c word holds =
    some-if (Allowed (place + 1)) (is_file_name word) (Some (record c { keys = Some place; wanted = wanted.Option })) None (omega arith, holds.1, holds.2) tt
by-wanted wanted.Workload place c word holds =
    some-map (Allowed (place + 1)) (λ (n : ℕ). record c { workload = Some n; wanted = wanted.Option }) (workload_of word) (λ n. holds)

next-some : (place : ℕ) (c : Choices) (word : List ℕ) → Allowed place c → IfSome (next_choice place c word) (Allowed (place + 1))
unfolding next_choice
next-some place c word holds = by-wanted c.wanted place c word (below-next c.keys place holds.0, holds.1, holds.2)

-- ---- what then holds of the options

abbrev Fits : ℕ → Options → Type 0
Fits n o = IfSome o.keys (λ (p : ℕ). p < n) × IfSome o.script (λ (p : ℕ). p < n) × (o.budget ≤ 2 ^ 32) × IsLimit o.limit

all-by : (w : Wanted) (n : ℕ) (made : Options) → Fits n made → IfSome (elim w [
  | wanted.Option ↦ Some made
  | wanted.Limit ↦ None
  | wanted.Budget ↦ None
  | wanted.Keys ↦ None
  | wanted.Workload ↦ None
]) (Fits n)
all-by wanted.Option n made fits = fits
all-by wanted.Limit n made fits = tt
all-by wanted.Budget n made fits = tt
all-by wanted.Keys n made fits = tt
all-by wanted.Workload n made fits = tt

usual-fits : (o : Option ℕ) → IfSome o (λ (n : ℕ). n ≤ 2 ^ 32) → unwrap_or o usual_budget ≤ 2 ^ 32
usual-fits None fits = omega arith
usual-fits (Some n) fits = fits

usual-limit-fits : (o : Option ℕ) → IfSome o IsLimit → IsLimit (unwrap_or o usual_limit)
usual-limit-fits None fits = (omega arith, omega arith)
usual-limit-fits (Some n) fits = fits

all-fits : (c : Choices) (n : ℕ) → Allowed n c → IfSome (all_chosen c) (Fits n)
unfolding all_chosen
all-fits c n holds = all-by c.wanted n _ (holds.0, tt, usual-fits c.budget holds.1, usual-limit-fits c.limit holds.2)

below-more : (o : Option ℕ) (m n : ℕ) → m ≤ n → IfSome o (λ (p : ℕ). p < m) → IfSome o (λ (p : ℕ). p < n)
below-more None m n more below = tt
below-more (Some p) m n more below = omega (arith, below, more)

fits-more : (m n : ℕ) (o : Options) → m ≤ n → Fits m o → Fits n o
fits-more m n o more fits = (below-more o.keys m n more fits.0, below-more o.script m n more fits.1, fits.2, fits.3)

script-fits : (place : ℕ) (c : Choices) (word : List ℕ) (more : List (List ℕ)) → Allowed place c → IfSome (with_script place c word more) (Fits (place + 1))
script-fits place c word more holds =
    some-if (Fits (place + 1)) (is_file_name word && are_arguments more && is_none c.workload) (option_map (λ (options : Options). record options { script = Some place }) (all_chosen c)) None
    (some-map-if (Fits (place + 1)) (Fits place) (λ (options : Options). record options { script = Some place }) (all_chosen c) (all-fits c place holds)
    (λ o fits. (below-next o.keys place fits.0, omega arith, fits.2, fits.3))) tt

then-fits : (P : Options → Type 0) (Q : Choices → Type 0) (f : Choices → Option Options) (o : Option Choices) → IfSome o Q → ((c : Choices) → Q c → IfSome (f c) P) → IfSome (option_and_then f o) P
then-fits P Q f None holds all = tt
then-fits P Q f (Some c) holds all = all c holds

chosen-fits : (test : Bool) (place n : ℕ) (c : Choices) (word : List ℕ) (more : List (List ℕ)) → place < n → Allowed place c
    → ((next : Choices) → Allowed (place + 1) next → IfSome (options_from (place + 1) next more) (Fits n)) → IfSome (chosen_from test place c word more) (Fits n)
unfolding chosen_from
chosen-fits true place n c word more within holds all =
    some-weaker (Fits (place + 1)) (Fits n) (with_script place c word more) (λ o. fits-more (place + 1) n o (omega arith)) (script-fits place c word more holds)
chosen-fits false place n c word more within holds all =
    then-fits (Fits n) (Allowed (place + 1)) (λ c. options_from (place + 1) c more) (next_choice place c word) (next-some place c word holds) all

from-fits : (words : List (List ℕ)) (place n : ℕ) (c : Choices) → place + length words ≤ n → Allowed place c → IfSome (options_from place c words) (Fits n)
from-fits [] place n c within holds =
    subst (λ (o : Option Options). IfSome o (Fits n)) (sym (from-none place c)) (some-weaker (Fits place) (Fits n) (all_chosen c) (λ o. fits-more place n o (omega arith)) (all-fits c place holds))
from-fits (word ∷ more) place n c within holds =
    subst (λ (o : Option Options). IfSome o (Fits n)) (sym (from-word place c word more))
    (chosen-fits (wants_option c.wanted && names_script word) place n c word more (omega arith) holds (λ next allowed. from-fits more (place + 1) n next (omega arith) allowed))

of-fits : (words : List (List ℕ)) → IfSome (options_of words) (Fits (length words))
unfolding options_of
of-fits words = from-fits words 0 (length words) _ (omega arith) (tt, tt, tt)

-- all of them
pub all-named : (words : List (String Global)) (answer : Option Options) → answer ≡ options_of (texts_of words) → IfSome answer (FilesAreNamed (texts_of words))
all-named words answer is =
    some-weaker (Fits (length (texts_of words))) (FilesAreNamed (texts_of words)) answer (λ o fits. record { keys = fits.0; script = fits.1 })
    (subst (λ (o : Option Options). IfSome o (Fits (length (texts_of words)))) (sym is) (of-fits (texts_of words)))

pub all-paid : (words : List (String Global)) (answer : Option Options) → answer ≡ options_of (texts_of words) → IfSome answer (λ (o : Options). o.budget ≤ 2 ^ 32)
all-paid words answer is =
    some-weaker (Fits (length (texts_of words))) (λ (o : Options). o.budget ≤ 2 ^ 32) answer (λ o fits. fits.2)
    (subst (λ (o : Option Options). IfSome o (Fits (length (texts_of words)))) (sym is) (of-fits (texts_of words)))

-- the budget and the limit that words choose
pub words-fit : (words : List (List ℕ)) → IfSome (options_of words) (λ (o : Options). (o.budget ≤ 2 ^ 32) × IsLimit o.limit)
words-fit words =
    some-weaker (Fits (length words)) (λ (o : Options). (o.budget ≤ 2 ^ 32) × IsLimit o.limit) (options_of words) (λ o fits. (fits.2, fits.3)) (of-fits words)
