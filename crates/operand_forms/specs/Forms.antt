-- The forms of the words of a line: numbers, names, items, conditions, devices and units.
use Rattle.std.specs.Prelude.{◌≡◌, ◌⊎◌, ℕ, ◌+◌, ◌-◌, ◌<◌, ◌≤◌, ◌^◌, All, List, [], ◌∷◌, ◌++◌, length, codes, nat_le, slice_get, Some, None, Contains, if◌then◌else◌}
use Rattle.nova_word.specs.Numbers.{IsDigit, IsNumber}
use Rattle.unit_trait.specs.declared.kind.Kind.{Kind}
use Rattle.unit_trait.specs.declared.kind.Kind.TheVariants.{Mta}
use Rattle.unit_trait.specs.declared.kind.UnitName.{UnitName}
use Rattle.unit_trait.specs.Kinds.{kind_name}
use Rattle.operand_forms.specs.declared.listing.Name.{Name}
use Rattle.operand_forms.specs.declared.listing.Rel.{Rel}
use Rattle.operand_forms.specs.declared.listing.Rel.TheVariants.{Eq, Ne, Lt, Le, Gt, Ge}
use Rattle.operand_forms.specs.declared.listing.Condition.{Condition}
use Rattle.operand_forms.specs.declared.listing.Item.{Item}
use Rattle.operand_forms.specs.declared.listing.Item.TheVariants.{At, Range, Count, All as AllWords, Reg, State, Unknown}
use Rattle.line_text.specs.Words.{IsSpelled}
use Rattle.operand_forms.specs.Names.{device_kinds, unit_kinds, register_names}

-- a number above the largest of its reader is held as this one
abbrev pub too_large : ℕ
too_large = 2 ^ 64 - 1

abbrev pub held : ℕ → ℕ → ℕ
held largest n = if nat_le n largest then n else too_large

-- a number of a base, as it is held
pub record IsHeld (base largest : ℕ) (text : List ℕ) (n : ℕ) : Type 0 where
  pub number : ℕ
  pub is : IsNumber base text number
  pub counts : n ≡ held largest number

abbrev pub largest_octal : ℕ
largest_octal = 2 ^ 32 - 1

abbrev pub largest_decimal : ℕ
largest_decimal = 2 ^ 63

abbrev pub IsOctal : List ℕ → ℕ → Type 0
IsOctal text n = IsHeld 8 largest_octal text n

abbrev pub IsDecimal : List ℕ → ℕ → Type 0
IsDecimal text n = IsHeld 10 largest_decimal text n

abbrev pub IsLetter : ℕ → Type 0
IsLetter b = ((65 ≤ b) × (b ≤ 90)) ⊎ ((97 ≤ b) × (b ≤ 122))

-- a letter, and then letters, digits and `_`
abbrev pub IsName : List ℕ → Type 0
IsName [] = ⊥
IsName (b ∷ more) = IsLetter b × All (λ c. IsLetter c ⊎ (IsDigit 10 c ⊎ (c ≡ 95))) more

-- register k of the processor or of a device, by its name
pub record IsRegister (device : Name) (text : List ℕ) (k : ℕ) : Type 0 where
  pub name : List ℕ
  pub is : slice_get (register_names device) k ≡ Some name
  pub spelled : IsSpelled text name

-- an item of a list
pub data IsItem (device : Name) : List ℕ → Item → Type 0 where
  at : (text : List ℕ) (address : ℕ) → IsOctal text address → IsItem device text (At address)
  range : (from to : List ℕ) (a b : ℕ) → IsOctal from a → IsOctal to b → IsItem device (from ++ 45 ∷ to) (Range a b)
  count : (from number : List ℕ) (a n : ℕ) → IsOctal from a → IsDecimal number n → IsItem device (from ++ 47 ∷ number) (Count a n)
  all_words : (text : List ℕ) → IsSpelled text (codes "ALL") → IsItem device text AllWords
  state : (text : List ℕ) → IsSpelled text (codes "STATE") → IsItem device text State
  register : (text : List ℕ) (k : ℕ) → IsRegister device text k → IsItem device text (Reg k)
  unknown : (text : List ℕ) → IsName text → (IsSpelled text (codes "ALL") → ⊥) → (IsSpelled text (codes "STATE") → ⊥) → ((k : ℕ) → IsRegister device text k → ⊥) → IsItem device text Unknown

-- items with commas between them
pub data AreItems (device : Name) : List ℕ → List Item → Type 0 where
  last : (text : List ℕ) (item : Item) → IsItem device text item → AreItems device text (item ∷ [])
  more : (text rest : List ℕ) (item : Item) (items : List Item) → IsItem device text item → AreItems device rest items → AreItems device (text ++ 44 ∷ rest) (item ∷ items)

-- a list has at most 16 items
pub record IsList (device : Name) (text : List ℕ) (items : List Item) : Type 0 where
  pub each : AreItems device text items
  pub few : length items ≤ 16

-- how a comparison is written
abbrev pub rel_text : Rel → List ℕ
rel_text Eq = codes "="
rel_text Ne = codes "!="
rel_text Lt = codes "<"
rel_text Le = codes "<="
rel_text Gt = codes ">"
rel_text Ge = codes ">="

-- a comparison with a value, and before it a mask or none
pub data IsCondition : List ℕ → Condition → Type 0 where
  plain : (digits : List ℕ) (rel : Rel) (value : ℕ) → IsOctal digits value → IsCondition (rel_text rel ++ digits) (record { mask = None; rel = rel; value = value })
  masked : (mask digits : List ℕ) (rel : Rel) (m value : ℕ) → IsOctal mask m → IsOctal digits value → IsCondition (38 ∷ mask ++ (rel_text rel ++ digits)) (record { mask = Some m; rel = rel; value = value })

-- a kind of a list, by its name
pub record IsKind (kinds : List Kind) (text : List ℕ) (kind : Kind) : Type 0 where
  pub listed : Contains kinds kind
  pub spelled : IsSpelled text (kind_name kind)

abbrev pub IsDevice : List ℕ → Kind → Type 0
IsDevice text kind = IsKind device_kinds text kind

-- a unit that a command may name; the tape's name alone is its first drive, and that of the multiplexer, which stands
-- for all its lines, is its unit 0
pub data IsUnit : List ℕ → UnitName → Type 0 where
  alone : (text : List ℕ) (kind : Kind) → IsKind unit_kinds text kind → IsUnit text (record { kind = kind; unit = 0 })
  drive : (text : List ℕ) (n : ℕ) → n < 8 → IsSpelled text (codes "MTA" ++ (48 + n) ∷ []) → IsUnit text (record { kind = Mta; unit = n })

-- an item that can be tested is one address or one name
abbrev pub IsTested : Item → Type 0
IsTested (At address) = Unit {0}
IsTested (Reg i) = Unit {0}
IsTested Unknown = Unit {0}
IsTested item = ⊥
