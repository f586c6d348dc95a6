-- What each sequence in front of a text gives.
use Rattle.std.proofs.Common.{◌≡◌, ◌≢◌, ◌∙◌, ap, refl, ℕ, ◌==◌, ◌&&◌, nat_le, ◌<◌, ◌≤◌, Bool, true, false, List, [], ◌∷◌, ◌++◌, arith, if◌then◌else◌}
use Rattle.std.proofs.lemmas.Bool.{ne_eqb, le-leb}
use Rattle.telnet_lines.specs.Telnet.{iac, sb, se, names_option, text, behind_iac, behind_option, within_subnegotiation, within_pair, Text, with_data}
use Rattle.telnet_lines.specs.Laws.{IsInside, Empty, Byte, Pair, IsUnfinished, Nothing, Iac, Option, Subnegotiation, SubnegotiationIac, data_of}

abbrev both : (a b : Bool) → a ≡ true → b ≡ true → (a && b) ≡ true
both a b x y = ap (λ z. z && b) x ∙ y

not_iac : (c : ℕ) → c < 255 → (c == iac) ≡ false
not_iac c low = ne_eqb c iac (λ is. omega (arith, low, is))

is_option : (c : ℕ) → 251 ≤ c → c ≤ 254 → names_option c ≡ true
is_option c low high = both (nat_le 251 c) (nat_le c 254) (le-leb 251 c low) (le-leb c 254 high)

no_option : (c : ℕ) → c < 251 → names_option c ≡ false
no_option c low = grind (arith, low)

pub plain_read : (b : ℕ) (more : List ℕ) → b ≢ iac → data_of (b ∷ more) ≡ b ∷ data_of more
unfolding text
plain_read b more other = ap (λ x. (if x then behind_iac more else with_data (b ∷ []) (text more)).data_bytes) (ne_eqb b iac other)

pub doubled_read : (more : List ℕ) → data_of (iac ∷ iac ∷ more) ≡ iac ∷ data_of more
unfolding text
doubled_read more = refl

pub option_read : (c option : ℕ) (more : List ℕ) → 251 ≤ c → c ≤ 254 → data_of (iac ∷ c ∷ option ∷ more) ≡ data_of more
unfolding text
option_read c option more low high =
    ap (λ x. (if x then with_data (iac ∷ []) (text (option ∷ more)) else if names_option c then text more
    else if c == sb then within_subnegotiation (option ∷ more) else text (option ∷ more)).data_bytes) (not_iac c (omega (arith, high)))
    ∙ ap (λ x. (if x then text more else if c == sb then within_subnegotiation (option ∷ more) else text (option ∷ more)).data_bytes) (is_option c low high)

pub other_read : (c : ℕ) (more : List ℕ) → c < sb → data_of (iac ∷ c ∷ more) ≡ data_of more
unfolding text
other_read c more low =
    ap (λ x. (if x then with_data (iac ∷ []) (text more) else if names_option c then behind_option more
    else if c == sb then within_subnegotiation more else text more).data_bytes) (not_iac c (omega (arith, low)))
    ∙ ap (λ x. (if x then behind_option more else if c == sb then within_subnegotiation more else text more).data_bytes) (no_option c (omega (arith, low)))
    ∙ ap (λ x. (if x then within_subnegotiation more else text more).data_bytes) (ne_eqb c sb (λ is. omega (arith, low, is)))

-- a subnegotiation goes on behind what is inside it, and that gives nothing
inside_passed : (inside more : List ℕ) → IsInside inside → within_subnegotiation (inside ++ more) ≡ within_subnegotiation more
unfolding text
inside_passed inside more Empty = refl
inside_passed inside more (Byte b rest other is) =
    ap (λ x. if x then within_pair (rest ++ more) else within_subnegotiation (rest ++ more)) (ne_eqb b iac other) ∙ inside_passed rest more is
inside_passed inside more (Pair c rest other is) =
    ap (λ x. if x then text (rest ++ more) else within_subnegotiation (rest ++ more)) (ne_eqb c se other) ∙ inside_passed rest more is

inside_gives : (inside : List ℕ) → IsInside inside → (within_subnegotiation inside).data_bytes ≡ []
unfolding text
inside_gives inside Empty = refl
inside_gives inside (Byte b rest other is) =
    ap (λ x. (if x then within_pair rest else within_subnegotiation rest).data_bytes) (ne_eqb b iac other) ∙ inside_gives rest is
inside_gives inside (Pair c rest other is) =
    ap (λ x. (if x then text rest else within_subnegotiation rest).data_bytes) (ne_eqb c se other) ∙ inside_gives rest is

pub subnegotiation_read : (inside more : List ℕ) → IsInside inside → data_of (iac ∷ sb ∷ (inside ++ iac ∷ se ∷ more)) ≡ data_of more
unfolding text
subnegotiation_read inside more is = ap (λ (t : Text). t.data_bytes) (inside_passed inside (iac ∷ se ∷ more) is)

pub unfinished_read : (front : List ℕ) → IsUnfinished front → data_of front ≡ []
unfolding text
unfinished_read front Nothing = refl
unfinished_read front Iac = refl
unfinished_read front (Option c low high) =
    ap (λ x. (if x then with_data (iac ∷ []) (text []) else if names_option c then behind_option []
    else if c == sb then within_subnegotiation [] else text []).data_bytes) (not_iac c (omega (arith, high)))
    ∙ ap (λ x. (if x then behind_option [] else if c == sb then within_subnegotiation [] else text []).data_bytes) (is_option c low high)
unfinished_read front (Subnegotiation inside is) = inside_gives inside is
unfinished_read front (SubnegotiationIac inside is) = ap (λ (t : Text). t.data_bytes) (inside_passed inside (iac ∷ []) is)
