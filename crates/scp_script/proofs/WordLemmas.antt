-- The first ten words, one more at a time.
use Rattle.std.proofs.Common.{◌≡◌, ◌≢◌, Option, Some, None, ℕ, ◌+◌, ◌<◌, ◌≤◌, List, [], ◌∷◌, ◌++◌, length, take, map, get_or, ap, sym, ◌∙◌, arith}
use Rattle.std.proofs.lemmas.List.{take_more, take_all, take-append-le, length-append, length-take, map-append}
use Rattle.std.specs.Prelude.{string_bytes}
use Rattle.std.specs.declared.string.String.{String}
use Rattle.std.specs.declared.alloc.Global.{Global}
use Rattle.command_session.specs.declared.do_file.DoFile.{DoFile}
use Rattle.session_texts.specs.declared.texts.Texts.{Texts}
use Rattle.session_texts.specs.Scripts.{Script, begun, first_script}

-- where ten are not there yet
few-taken : (words : List (List ℕ)) (word : List ℕ) → length (take 10 words) ≢ 10 → take 10 (words ++ word ∷ []) ≡ take 10 words ++ word ∷ []
few-taken words word few =
    let short : length words < 10 = omega (arith, length-take 10 words, few) in
    take_all 10 (words ++ word ∷ []) (omega (arith, length-append words (word ∷ []), short)) ∙ ap (λ l. l ++ word ∷ []) (sym (take_all 10 words (omega (arith, short))))

-- where ten are there
all-taken : (words : List (List ℕ)) (word : List ℕ) → length (take 10 words) ≡ 10 → take 10 (words ++ word ∷ []) ≡ take 10 words
all-taken words word full = let long : 10 ≤ length words = omega (arith, length-take 10 words, full) in take-append-le 10 words (word ∷ []) long

one-more : (X : Type 0) (f : X → List ℕ) (words : List X) (index : ℕ) (word : X) → index < length words → word ≡ get_or words index word
    → map f (take (index + 1) words) ≡ map f (take index words) ++ f word ∷ []
one-more X f words index word within is =
    ap (map f) (take_more words index word within) ∙ map-append f (take index words) (get_or words index word ∷ []) ∙ ap (λ x. map f (take index words) ++ f x ∷ []) (sym is)

pub word-kept : (X : Type 0) (f : X → List ℕ) (words : List X) (index : ℕ) (word : X) (kept now : List (List ℕ)) → index < length words → word ≡ get_or words index word
    → kept ≡ take 10 (map f (take index words)) → length kept ≢ 10 → now ≡ kept ++ f word ∷ [] → now ≡ take 10 (map f (take (index + 1) words))
word-kept X f words index word kept now within is so_far few added =
    added ∙ ap (λ l. l ++ f word ∷ []) so_far
    ∙ sym (few-taken (map f (take index words)) (f word) (λ full. few (ap length so_far ∙ full)))
    ∙ ap (take 10) (sym (one-more X f words index word within is))

pub word-left : (X : Type 0) (f : X → List ℕ) (words : List X) (index : ℕ) (word : X) (kept now : List (List ℕ)) → index < length words → word ≡ get_or words index word
    → kept ≡ take 10 (map f (take index words)) → length kept ≡ 10 → now ≡ kept → now ≡ take 10 (map f (take (index + 1) words))
word-left X f words index word kept now within is so_far full same =
    same ∙ so_far
    ∙ sym (all-taken (map f (take index words)) (f word) (sym (ap length so_far) ∙ full))
    ∙ ap (take 10) (sym (one-more X f words index word within is))

-- the texts that a session begins with

-- no action waits
abbrev held : List Script → Texts
held scripts = record { actions = []; scripts = scripts }

pub none-first : (texts : Texts) (script : Option DoFile) (words : List (String Global)) → texts ≡ record { actions = []; scripts = [] } → script ≡ None → texts ≡ record { actions = []; scripts = first_script script words }
none-first texts script words none is = none ∙ ap (λ (o : Option DoFile). held (first_script o words)) (sym is)

pub some-first : (texts outer : Texts) (first : Script) (script : Option DoFile) (file copy : DoFile) (arguments : List (List ℕ)) (words given : List (String Global))
    → texts ≡ record outer { scripts = first ∷ outer.scripts } → outer ≡ record { actions = []; scripts = [] } → first ≡ begun arguments copy → arguments ≡ take 10 (map (λ word. string_bytes word) given) → given ≡ words → copy ≡ file → script ≡ Some file
    → texts ≡ record { actions = []; scripts = first_script script words }
some-first texts outer first script file copy arguments words given pushed none is taken same copied there =
    pushed ∙ ap (λ (t : Texts). record t { scripts = first ∷ t.scripts }) none
    ∙ ap (λ (s : Script). held (s ∷ [])) (is ∙ ap (λ a. begun a copy) taken ∙ ap (λ (w : List (String Global)). begun (take 10 (map (λ word. string_bytes word) w)) copy) same
    ∙ ap (λ (f : DoFile). begun (take 10 (map (λ word. string_bytes word) words)) f) copied)
    ∙ ap (λ (o : Option DoFile). held (first_script o words)) (sym there)
