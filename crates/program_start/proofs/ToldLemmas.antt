-- Files that are told, where the words name one.
use Rattle.std.proofs.Common.{◌≡◌, inl, inr, ℕ, Bool, IsTrue, is_some, Some, ap}
use Rattle.command_words.specs.declared.options.Options.{Options}
use Rattle.program_start.specs.WordFiles.{NamesTold}

pub keys-told : (tells : Bool) (options : Options) (place : ℕ) → options.keys ≡ Some place → NamesTold tells options → IsTrue tells
unfolding NamesTold
keys-told tells options place is told = told (inl (ap is_some is))

pub script-told : (tells : Bool) (options : Options) (place : ℕ) → options.script ≡ Some place → NamesTold tells options → IsTrue tells
unfolding NamesTold
script-told tells options place is told = told (inr (ap is_some is))

-- files that tell all tell these
pub names-told : (tells : Bool) (options : Options) → IsTrue tells → NamesTold tells options
unfolding NamesTold
names-told tells options told = λ _. told
