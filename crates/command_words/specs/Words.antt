-- The words of the command line, and what they choose.
use Rattle.std.specs.Prelude.{ℕ, ◌+◌, ◌<◌, ◌^◌, ◌&&◌, Bool, not, nat_eq, nat_le, is_none, unwrap_or, option_map, option_and_then, slice_index, get_or, List, [], ◌∷◌, length, drop, codes, Option, Some, None, IfSome, bytes_eq, map, string_bytes, true, false, if◌then◌else◌}
use Rattle.std.specs.List.{list_all}
use Rattle.std.specs.declared.string.String.{String}
use Rattle.std.specs.declared.alloc.Global.{Global}
use Rattle.command_words.specs.declared.options.Options.{Options}
use Rattle.command_words.specs.declared.options.Choices.{Choices}
use Rattle.command_words.specs.declared.options.Wanted.{Wanted}
use Rattle.command_words.specs.declared.options.Wanted.TheVariants as wanted
use Rattle.command_words.specs.Counts.{count_of}

-- how many instructions a run may execute where the words don't say
abbrev pub usual_limit : ℕ
usual_limit = 2 ^ 48

-- a number among the words has no leading zero; a limit is from 1 to 2 ^ 48
unfoldable pub limit_of : List ℕ → Option ℕ
limit_of word = if nat_eq (slice_index word 0) 48 then None else count_of word

-- how many units lines may cost where the words don't say, which is the most that they can say
abbrev pub usual_budget : ℕ
usual_budget = 2 ^ 32

-- a budget is from 1 to 2 ^ 32
abbrev pub within_budget : Option ℕ → Option ℕ
within_budget None = None
within_budget (Some n) = if nat_le n usual_budget then Some n else None

unfoldable pub budget_of : List ℕ → Option ℕ
budget_of word = within_budget (limit_of word)

-- the number of a workload is from 1 to 65535
abbrev pub within_workloads : Option ℕ → Option ℕ
within_workloads None = None
within_workloads (Some n) = if nat_le n 65535 then Some n else None

unfoldable pub workload_of : List ℕ → Option ℕ
workload_of word = within_workloads (limit_of word)

-- a file can have a name of 1 to 255 bytes
abbrev pub is_file_name : List ℕ → Bool
is_file_name word = nat_le 1 (length word) && nat_le (length word) 255

-- `-q`, `-l`, `-m`, `-k` and `-g` are chosen at most once each
unfoldable pub chosen_option : Choices → List ℕ → Option Choices
chosen_option c word =
    if bytes_eq word (codes "-q") && not c.quiet then Some (record c { quiet = true })
    else if bytes_eq word (codes "-l") && is_none c.limit then Some (record c { wanted = wanted.Limit })
    else if bytes_eq word (codes "-m") && is_none c.budget then Some (record c { wanted = wanted.Budget })
    else if bytes_eq word (codes "-k") && is_none c.keys then Some (record c { wanted = wanted.Keys })
    else if bytes_eq word (codes "-g") && is_none c.workload then Some (record c { wanted = wanted.Workload })
    else None

-- what one more word chooses, which stands at that place: an option, the limit behind `-l`, the budget behind `-m`, the
-- file behind `-k`, or the number behind `-g`
unfoldable pub next_choice : ℕ → Choices → List ℕ → Option Choices
next_choice place c word = elim c.wanted [
  | wanted.Option ↦ chosen_option c word
  | wanted.Limit ↦ option_map (λ (n : ℕ). record c { limit = Some n; wanted = wanted.Option }) (limit_of word)
  | wanted.Budget ↦ option_map (λ (n : ℕ). record c { budget = Some n; wanted = wanted.Option }) (budget_of word)
  | wanted.Keys ↦ if is_file_name word then Some (record c { keys = Some place; wanted = wanted.Option }) else None
  | wanted.Workload ↦ option_map (λ (n : ℕ). record c { workload = Some n; wanted = wanted.Option }) (workload_of word)
]

-- what all words chose, where none is missing
unfoldable pub all_chosen : Choices → Option Options
all_chosen c = elim c.wanted [
  | wanted.Option ↦ Some (record { prompt = not c.quiet; limit = unwrap_or c.limit usual_limit; budget = unwrap_or c.budget usual_budget; keys = c.keys; workload = c.workload; script = None })
  | wanted.Limit ↦ None
  | wanted.Budget ↦ None
  | wanted.Keys ↦ None
  | wanted.Workload ↦ None
]

-- ---- a script

abbrev pub wants_option : Wanted → Bool
wants_option wanted.Option = true
wants_option other = false

-- where an option is wanted, a word that does not begin with `-` is the name of a script
abbrev pub names_script : List ℕ → Bool
names_script word = not (nat_eq (slice_index word 0) 45)

-- the words behind it are its arguments: nine at most, and none of them empty
abbrev pub are_arguments : List (List ℕ) → Bool
are_arguments words = nat_le (length words) 9 && list_all (λ (word : List ℕ). nat_le 1 (length word)) words

-- what all words chose, with a script at that place, behind whose name these words stand. A workload takes no script.
abbrev pub with_script : ℕ → Choices → List ℕ → List (List ℕ) → Option Options
with_script place c word more =
    if is_file_name word && are_arguments more && is_none c.workload then option_map (λ (options : Options). record options { script = Some place }) (all_chosen c) else None

-- ---- all words

-- the options of the words behind those that chose this, in any order, and then of a script; the first of them stands at
-- that place
unfoldable pub options_from : ℕ → Choices → List (List ℕ) → Option Options
options_from place c [] = all_chosen c
options_from place c (word ∷ more) =
    if wants_option c.wanted && names_script word then with_script place c word more
    else option_and_then (λ c. options_from (place + 1) c more) (next_choice place c word)

-- what the words choose, where they are in their grammar
unfoldable pub options_of : List (List ℕ) → Option Options
options_of words = options_from 0 (record { quiet = false; limit = None; budget = None; keys = None; workload = None; wanted = wanted.Option }) words

-- the name of the keys file, if one is given
abbrev pub keys_name : List (List ℕ) → Options → Option (List ℕ)
keys_name words options = option_map (λ (place : ℕ). get_or words place []) options.keys

-- the name of the script, if one is given
abbrev pub script_name : List (List ℕ) → Options → Option (List ℕ)
script_name words options = option_map (λ (place : ℕ). get_or words place []) options.script

-- its name and its arguments
abbrev pub script_words : List (List ℕ) → Options → List (List ℕ)
script_words words options = unwrap_or (option_map (λ (place : ℕ). drop place words) options.script) []

-- each file that is named has the place of one of the words
pub record FilesAreNamed (words : List (List ℕ)) (options : Options) : Type 0 where
  pub keys : IfSome options.keys (λ place. place < length words)
  pub script : IfSome options.script (λ place. place < length words)

-- the bytes of the words
abbrev pub texts_of : List (String Global) → List (List ℕ)
texts_of words = map (λ word. string_bytes word) words
