-- How a session is opened with what the files of the words say.
use Rattle.std.proofs.Common.{◌≡◌, ℕ, List, [], ◌∷◌, take, refl, ap, sym, ◌∙◌, subst, Option, Some, None, option_map, String, Global, is_none}
use Rattle.std.specs.Global.{Vec}
use Rattle.file_traits.specs.Lists.{NamedBytes}
use Rattle.file_commands.specs.Notes.{Note}
use Rattle.expect_actions.specs.KeysFile.{Key}
use Rattle.scp_script.specs.declared.perform_session.Opening.{Opening}
use Rattle.session_texts.specs.Scripts.{first_script, begun}
use Rattle.command_words.specs.declared.options.Options.{Options}
use Rattle.command_words.specs.Words.{script_words, texts_of}
use Rattle.program_start.specs.Start.{Begins}
use Rattle.nova_top.specs.Outside.{first_scripts}
use Rattle.program_start.specs.WordFiles.{StartsWith}
use Rattle.nova_top.specs.Program.{as_file, script_text, OpensAs}

text-same : (script : Option (List ℕ)) (opening : Opening) → opening.script ≡ option_map as_file script → script_text opening ≡ script
text-same None opening is = ap (option_map (λ f. f.text)) is
text-same (Some text) opening is = ap (option_map (λ f. f.text)) is

pub text-begins : (words : List (List ℕ)) (options : Options) (files : List NamedBytes) (keys : List Key) (script : Option (List ℕ)) (kept : List Note) (opening : Opening) → opening.script ≡ option_map as_file script
    → StartsWith words options files kept (Begins options keys script) → StartsWith words options files kept (Begins options keys (script_text opening))
text-begins words options files keys script kept opening is h =
    subst (λ (s : Option (List ℕ)). StartsWith words options files kept (Begins options keys s)) (sym (text-same script opening is)) h

scripts-same : (script : Option (List ℕ)) (arguments : List (String Global)) (words : List (List ℕ)) → texts_of arguments ≡ words → first_script (option_map as_file script) arguments ≡ first_scripts script words
scripts-same None arguments words same = refl
scripts-same (Some text) arguments words same = ap (λ (w : List (List ℕ)). begun (take 10 w) (as_file text) ∷ []) same

pub opens : (words : List (List ℕ)) (options : Options) (script : Option (List ℕ)) (arguments : Vec (String Global)) (opening : Opening) → opening.script ≡ option_map as_file script → opening.arguments ≡ arguments
    → opening.reads ≡ is_none options.workload → opening.prompt ≡ options.prompt → opening.budget ≡ options.budget → texts_of arguments.items ≡ script_words words options → OpensAs words options opening
opens words options script arguments opening is held reads prompt budget same = record {
  reads = reads;
  prompt = prompt;
  budget = budget;
  scripts = (λ i. first_script (is i) (held i).items) ∙ scripts-same script arguments.items (script_words words options) same
      ∙ ap (λ (s : Option (List ℕ)). first_scripts s (script_words words options)) (sym (text-same script opening is));
}
