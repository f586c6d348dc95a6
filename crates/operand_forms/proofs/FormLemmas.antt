-- The forms of words are decided by their functions.
use Rattle.operand_forms.specs.declared.listing.Name.{Name}
use Rattle.operand_forms.specs.Forms.{IsOctal, IsDecimal, IsItem, IsList, IsCondition, IsDevice, IsUnit}
use Rattle.operand_forms.specs.Operands.{octal, decimal, item_of, items_of, condition_of, device_of, unit_of}
use Rattle.operand_forms.proofs.Decides.{Decides}
use Rattle.operand_forms.proofs.NumberLemmas.{octal_found, octal_reads, decimal_found, decimal_reads}
use Rattle.operand_forms.proofs.ItemLemmas.{item_found, item_reads, list_found, list_reads}
use Rattle.operand_forms.proofs.ConditionLemmas.{condition_found, condition_reads}
use Rattle.operand_forms.proofs.UnitLemmas.{device_found, device_reads, unit_found, unit_reads}

pub octal_decides : Decides IsOctal octal
octal_decides text n = (octal_found text n, octal_reads text n)

pub decimal_decides : Decides IsDecimal decimal
decimal_decides text n = (decimal_found text n, decimal_reads text n)

pub item_decides : (device : Name) → Decides (IsItem device) (item_of device)
item_decides device text item = (item_found device text item, item_reads device text item)

pub items_decide : (device : Name) → Decides (IsList device) (items_of device)
items_decide device text items = (list_found device text items, list_reads device text items)

pub condition_decides : Decides IsCondition condition_of
condition_decides text condition = (condition_found text condition, condition_reads text condition)

pub device_decides : Decides IsDevice device_of
device_decides text kind = (device_found text kind, device_reads text kind)

pub unit_decides : Decides IsUnit unit_of
unit_decides text unit = (unit_found text unit, unit_reads text unit)
