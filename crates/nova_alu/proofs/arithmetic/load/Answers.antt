use Rattle.std.proofs.Common.{◌≡◌, ℕ, false, ap, sym, arith}
use Rattle.nova_word.specs.Bits.{bits}
use Rattle.nova_alu.specs.Arithmetic.{shifted_number, skips, skips_next}
use Rattle.nova_alu.proofs.arithmetic.load.Goals as goal

no-skip : (word x : ℕ) → bits 13 15 word ≡ 0 → false ≡ skips (bits 13 15 word) x
unfolding skips
no-skip word x none = sym (ap (λ (code : ℕ). skips code x) none)

-- the last four bits are 0, and so are the last three
pub returns-then-word-eq0-clause-skip : goal.returns-then-word-eq0-clause-skip
unfolding skips_next
returns-then-word-eq0-clause-skip c =
    no-skip c.args.word (shifted_number c.args.word c.args.acs.now c.args.carry.now) (omega (arith, c.if-word-eq0.true))
