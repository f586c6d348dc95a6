use Rattle.std.proofs.Common.{subst, arith}
use Rattle.binary_load.specs.declared.blocks.Stores.{Stores}
use Rattle.binary_load.specs.Pieces.{AreWithin}
use Rattle.binary_load.proofs.StoreLemmas.{words_within}
use Rattle.binary_load.proofs.loading.store.Goals as goal

pub store_words-requires : goal.store_words-requires
store_words-requires c =
    let within = subst (λ (x : Stores). AreWithin c.args.memory.now.size c.args.rest.now x) c.in-Words.is c.requires.within in
    words_within c.args.memory.now.size c.in-Words.origin c.in-Words.count _ c.args.rest.now within.0 within.1 c.requires.size
    (omega arith)

pub store_repeated-requires : goal.store_repeated-requires
store_repeated-requires c =
    let within = subst (λ (x : Stores). AreWithin c.args.memory.now.size c.args.rest.now x) c.in-Repeated.is
    c.requires.within in
    omega (arith, within, c.requires.size)
