-- Bytes that are received piece by piece: one byte leads from one place to another, and so any number of them does.
use Rattle.std.proofs.Common.{◌≡◌, ◌∙◌, sym, ap, refl, ℕ, ◌==◌, ◌&&◌, Bool, true, false, List, [], ◌∷◌, ◌++◌, append_assoc, if◌then◌else◌}
use Rattle.telnet_lines.specs.declared.decoder.Place.{Place}
use Rattle.telnet_lines.specs.declared.decoder.Place.TheVariants as place
use Rattle.telnet_lines.specs.declared.decoder.Rest.{Rest}
use Rattle.telnet_lines.specs.Telnet.{iac, sb, se, names_option, Text, ends_at, with_data, text, behind_iac, behind_option, within_subnegotiation, within_pair, text_from, without_fill, ends_returned, carriage_return, fills, rest_of, no_rest, keys_of, further_keys, further_rest}

-- the place behind one byte, and the data that the byte gives there
abbrev next : Place → ℕ → Place
next place.Outside b = if b == iac then place.BehindIac else place.Outside
next place.BehindIac c =
    if c == iac then place.Outside else if names_option c then place.BehindOption else if c == sb then place.WithinSubnegotiation else place.Outside
next place.BehindOption b = place.Outside
next place.WithinSubnegotiation b = if b == iac then place.WithinPair else place.WithinSubnegotiation
next place.WithinPair c = if c == se then place.Outside else place.WithinSubnegotiation

abbrev given : Place → ℕ → List ℕ
given place.Outside b = if b == iac then [] else b ∷ []
given place.BehindIac c = if c == iac then iac ∷ [] else []
given place.BehindOption b = []
given place.WithinSubnegotiation b = []
given place.WithinPair c = []

byte_read : (place : Place) (b : ℕ) (more : List ℕ) → text_from place (b ∷ more) ≡ with_data (given place b) (text_from (next place b) more)
unfolding text
byte_read place.Outside b more = elim (b == iac) as (λ x. (if x then behind_iac more else with_data (b ∷ []) (text more))
    ≡ with_data (if x then [] else b ∷ []) (text_from (if x then place.BehindIac else place.Outside) more)) [ true ↦ refl | false ↦ refl ]
byte_read place.BehindIac c more = elim (c == iac) as (λ x.
    (if x then with_data (iac ∷ []) (text more) else if names_option c then behind_option more else if c == sb then within_subnegotiation more else text more)
    ≡ with_data (if x then iac ∷ [] else [])
    (text_from (if x then place.Outside else if names_option c then place.BehindOption else if c == sb then place.WithinSubnegotiation else place.Outside) more)) [
      | true ↦ refl
      | false ↦ elim (names_option c) as (λ y. (if y then behind_option more else if c == sb then within_subnegotiation more else text more)
          ≡ with_data [] (text_from (if y then place.BehindOption else if c == sb then place.WithinSubnegotiation else place.Outside) more)) [
            | true ↦ refl
            | false ↦ elim (c == sb) as (λ z. (if z then within_subnegotiation more else text more)
                ≡ with_data [] (text_from (if z then place.WithinSubnegotiation else place.Outside) more)) [ true ↦ refl | false ↦ refl ]
          ]
    ]
byte_read place.BehindOption b more = refl
byte_read place.WithinSubnegotiation b more = elim (b == iac) as (λ x. (if x then within_pair more else within_subnegotiation more)
    ≡ with_data [] (text_from (if x then place.WithinPair else place.WithinSubnegotiation) more)) [ true ↦ refl | false ↦ refl ]
byte_read place.WithinPair c more = elim (c == se) as (λ x. (if x then text more else within_subnegotiation more)
    ≡ with_data [] (text_from (if x then place.Outside else place.WithinSubnegotiation) more)) [ true ↦ refl | false ↦ refl ]

nothing_read : (place : Place) → text_from place [] ≡ ends_at place
unfolding text
nothing_read place.Outside = refl
nothing_read place.BehindIac = refl
nothing_read place.BehindOption = refl
nothing_read place.WithinSubnegotiation = refl
nothing_read place.WithinPair = refl

text_cut : (place : Place) (a b : List ℕ) →
    text_from place (a ++ b) ≡ with_data (text_from place a).data_bytes (text_from (text_from place a).ends b)
text_cut place [] b = sym (ap (λ (t : Text). with_data t.data_bytes (text_from t.ends b)) (nothing_read place))
text_cut place (x ∷ a) b =
    let there = text_from (next place x) a in
    byte_read place x (a ++ b)
    ∙ ap (with_data (given place x)) (text_cut (next place x) a b)
    ∙ ap (λ (d : List ℕ). record { data_bytes = d; ends = (text_from there.ends b).ends })
    (sym (append_assoc (given place x) there.data_bytes (text_from there.ends b).data_bytes))
    ∙ sym (ap (λ (t : Text). with_data t.data_bytes (text_from t.ends b)) (byte_read place x a))

fill_cut : (returned : Bool) (a b : List ℕ) → without_fill returned (a ++ b) ≡ without_fill returned a ++ without_fill (ends_returned returned a) b
unfolding without_fill ends_returned
fill_cut returned [] b = refl
fill_cut returned (x ∷ a) b = elim (returned && fills x) as (λ y.
    (if y then without_fill (x == carriage_return) (a ++ b) else x ∷ without_fill (x == carriage_return) (a ++ b))
    ≡ (if y then without_fill (x == carriage_return) a else x ∷ without_fill (x == carriage_return) a)
    ++ without_fill (ends_returned (x == carriage_return) a) b) [
      | true ↦ fill_cut (x == carriage_return) a b
      | false ↦ ap (λ (l : List ℕ). x ∷ l) (fill_cut (x == carriage_return) a b)
    ]

returned_cut : (returned : Bool) (a b : List ℕ) → ends_returned returned (a ++ b) ≡ ends_returned (ends_returned returned a) b
unfolding ends_returned
returned_cut returned [] b = refl
returned_cut returned (x ∷ a) b = returned_cut (x == carriage_return) a b

-- two pieces behind any rest
pub keys_cut : (rest : Rest) (a b : List ℕ) → further_keys rest (a ++ b) ≡ further_keys rest a ++ further_keys (further_rest rest a) b
keys_cut rest a b =
    ap (λ (t : Text). without_fill rest.returned t.data_bytes) (text_cut rest.place a b)
    ∙ fill_cut rest.returned (text_from rest.place a).data_bytes (text_from (text_from rest.place a).ends b).data_bytes

pub rest_cut : (rest : Rest) (a b : List ℕ) → further_rest rest (a ++ b) ≡ further_rest (further_rest rest a) b
rest_cut rest a b =
    ap (λ (t : Text). record { place = t.ends; returned = ends_returned rest.returned t.data_bytes }) (text_cut rest.place a b)
    ∙ ap (λ (r : Bool). record { place = (text_from (text_from rest.place a).ends b).ends; returned = r })
    (returned_cut rest.returned (text_from rest.place a).data_bytes (text_from (text_from rest.place a).ends b).data_bytes)

-- no further bytes
pub no_keys : (rest : Rest) → further_keys rest [] ≡ []
unfolding without_fill
no_keys rest = ap (λ (t : Text). without_fill rest.returned t.data_bytes) (nothing_read rest.place)

pub same_rest : (rest : Rest) → further_rest rest [] ≡ rest
unfolding ends_returned
same_rest rest = ap (λ (t : Text). record { place = t.ends; returned = ends_returned rest.returned t.data_bytes }) (nothing_read rest.place)

-- a piece behind all that left a rest
pub keys_behind : (rest : Rest) (r b : List ℕ) → rest ≡ rest_of r → keys_of (r ++ b) ≡ keys_of r ++ further_keys rest b
keys_behind rest r b is = keys_cut no_rest r b ∙ ap (λ (s : Rest). keys_of r ++ further_keys s b) (sym is)

pub rest_behind : (rest : Rest) (r b : List ℕ) → rest ≡ rest_of r → rest_of (r ++ b) ≡ further_rest rest b
rest_behind rest r b is = rest_cut no_rest r b ∙ ap (λ (s : Rest). further_rest s b) (sym is)
