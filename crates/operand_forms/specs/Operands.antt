-- The forms of words as functions: what a word stands for, if it has the form.
use Rattle.std.specs.Prelude.{ℕ, ◌-◌, ◌==◌, zero, suc, Bool, false, ◌&&◌, ◌||◌, nat_le, nat_lt, List, [], ◌∷◌, length, take, drop, codes, Option, Some, None, option_map, Result, Ok, Err, if◌then◌else◌}
use Rattle.std.specs.List.{list_all, before_first, after_first, position, position_or_len}
use Rattle.nova_word.specs.declared.numbers.NumberFault.{NumberFault}
use Rattle.nova_word.specs.declared.numbers.NumberFault.TheVariants.{TooLarge}
use Rattle.nova_word.specs.Numbers.{is_digit, number_read}
use Rattle.unit_trait.specs.declared.kind.Kind.{Kind}
use Rattle.unit_trait.specs.declared.kind.Kind.TheVariants.{Mta}
use Rattle.unit_trait.specs.declared.kind.UnitName.{UnitName}
use Rattle.unit_trait.specs.Kinds.{kind_name}
use Rattle.operand_forms.specs.declared.listing.Name.{Name}
use Rattle.operand_forms.specs.declared.listing.Rel.{Rel}
use Rattle.operand_forms.specs.declared.listing.Rel.TheVariants.{Eq, Ne, Lt, Le, Gt, Ge}
use Rattle.operand_forms.specs.declared.listing.Condition.{Condition}
use Rattle.operand_forms.specs.declared.listing.Item.{Item}
use Rattle.operand_forms.specs.declared.listing.Item.TheVariants.{At, Range, Count, All, Reg, State, Unknown}
use Rattle.line_text.specs.Words.{is_spelled}
use Rattle.operand_forms.specs.Names.{device_kinds, unit_kinds, register_names, first_of}
use Rattle.operand_forms.specs.Forms.{too_large, largest_octal, largest_decimal}

abbrev pub or_else : {T : Type 0} → Option T → Option T → Option T
or_else (Some x) other = Some x
or_else None other = other

-- both, put together
abbrev pub both : {A B C : Type 0} → (A → B → C) → Option A → Option B → Option C
both f (Some a) (Some b) = Some (f a b)
both f (Some a) None = None
both f None b = None

-- a number as it is held
abbrev pub as_held : Result ℕ NumberFault → Option ℕ
as_held (Ok n) = Some n
as_held (Err TooLarge) = Some too_large
as_held (Err fault) = None

unfoldable pub octal : List ℕ → Option ℕ
octal text = as_held (number_read 8 largest_octal text)

unfoldable pub decimal : List ℕ → Option ℕ
decimal text = as_held (number_read 10 largest_decimal text)

abbrev pub is_letter : ℕ → Bool
is_letter b = (nat_le 65 b && nat_le b 90) || (nat_le 97 b && nat_le b 122)

abbrev pub is_name_byte : ℕ → Bool
is_name_byte b = is_letter b || (is_digit 10 b || b == 95)

-- a letter, and then letters, digits and `_`
unfoldable pub is_name : List ℕ → Bool
is_name [] = false
is_name (b ∷ more) = is_letter b && list_all is_name_byte more

-- the number of a register, by its name
unfoldable pub register_named : Name → List ℕ → Option ℕ
register_named device text = position (λ name. is_spelled text name) (register_names device)

abbrev pub unknown_name : List ℕ → Option Item
unknown_name text = if is_name text then Some Unknown else None

-- an item that is a name
unfoldable pub named_item : Name → List ℕ → Option Item
named_item device text =
    if is_spelled text (codes "ALL") then Some All
    else if is_spelled text (codes "STATE") then Some State
    else or_else (option_map (λ k. Reg k) (register_named device text)) (unknown_name text)

-- what stands before and behind the first byte of that value
abbrev pub front : ℕ → List ℕ → List ℕ
front mark text = before_first (λ b. b == mark) text

abbrev pub behind : ℕ → List ℕ → List ℕ
behind mark text = after_first (λ b. b == mark) text

-- an item that is a range, and one that is an address and a count
abbrev pub range_of : List ℕ → Option Item
range_of text = both (λ a b. Range a b) (octal (front 45 text)) (octal (behind 45 text))

abbrev pub count_of : List ℕ → Option Item
count_of text = both (λ a n. Count a n) (octal (front 47 text)) (decimal (behind 47 text))

-- an item that is an address, a range, or an address and a count
unfoldable pub numbered_item : List ℕ → Option Item
numbered_item text = or_else (option_map (λ a. At a) (octal text)) (or_else (range_of text) (count_of text))

unfoldable pub item_of : Name → List ℕ → Option Item
item_of device text = or_else (named_item device text) (numbered_item text)

-- a byte of that value stands in a text
abbrev pub has_mark : ℕ → List ℕ → Bool
has_mark mark text = nat_lt (position_or_len (λ b. b == mark) text) (length text)

-- a list of as many items at the most
unfoldable pub items_up_to : ℕ → Name → List ℕ → Option (List Item)
items_up_to zero device text = None
items_up_to (suc room) device text =
    if has_mark 44 text then both (λ item items. item ∷ items) (item_of device (front 44 text)) (items_up_to room device (behind 44 text))
    else option_map (λ item. item ∷ []) (item_of device text)

unfoldable pub items_of : Name → List ℕ → Option (List Item)
items_of device text = items_up_to 16 device text

-- a comparison: by its first two bytes, and else by its first one
abbrev pub two_byte_rel : ℕ → ℕ → Option Rel
two_byte_rel a b =
    if b == 61 then (if a == 33 then Some Ne else if a == 60 then Some Le else if a == 62 then Some Ge else None) else None

abbrev pub one_byte_rel : ℕ → Option Rel
one_byte_rel a = if a == 61 then Some Eq else if a == 60 then Some Lt else if a == 62 then Some Gt else None

abbrev pub Compared : Type 0
Compared = Rel × ℕ

abbrev pub with_value : Option Rel → List ℕ → Option Compared
with_value rel digits = both (λ r n. (r, n)) rel (octal digits)

unfoldable pub comparison_of : List ℕ → Option Compared
comparison_of [] = None
comparison_of (a ∷ []) = None
comparison_of (a ∷ b ∷ more) = or_else (with_value (two_byte_rel a b) more) (with_value (one_byte_rel a) (b ∷ more))

abbrev pub is_rel_byte : ℕ → Bool
is_rel_byte b = b == 61 || (b == 33 || (b == 60 || b == 62))

abbrev pub condition_with : Option ℕ → Compared → Condition
condition_with mask c = record { mask = mask; rel = c.0; value = c.1 }

-- a condition behind the `&` of its mask
unfoldable pub masked_condition : List ℕ → Option Condition
masked_condition text =
    let n = position_or_len is_rel_byte text in both (λ m c. condition_with (Some m) c) (octal (take n text)) (comparison_of (drop n text))

unfoldable pub condition_of : List ℕ → Option Condition
condition_of [] = None
condition_of (b ∷ more) = if b == 38 then masked_condition more else option_map (λ c. condition_with None c) (comparison_of (b ∷ more))

unfoldable pub kind_named : List Kind → List ℕ → Option Kind
kind_named kinds text = first_of (λ kind. is_spelled text (kind_name kind)) kinds

unfoldable pub device_of : List ℕ → Option Kind
device_of text = kind_named device_kinds text

abbrev pub unit_alone : Kind → UnitName
unit_alone kind = record { kind = kind; unit = 0 }

-- a drive of the tape, by its digit
abbrev pub drive_at : List ℕ → Option UnitName
drive_at [] = None
drive_at (b ∷ []) = if nat_le 48 b && nat_lt b 56 then Some (record { kind = Mta; unit = b - 48 }) else None
drive_at (b ∷ c ∷ more) = None

unfoldable pub drive_of : List ℕ → Option UnitName
drive_of text = if is_spelled (take 3 text) (codes "MTA") then drive_at (drop 3 text) else None

unfoldable pub unit_of : List ℕ → Option UnitName
unit_of text = or_else (option_map unit_alone (kind_named unit_kinds text)) (drive_of text)
