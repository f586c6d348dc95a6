use Rattle.std.proofs.Common.{◌≡◌, ℕ, length, sym, ap, ◌∙◌, rules}
use Rattle.std.proofs.lemmas.List.{length-map}
use Rattle.byte_layouts.specs.declared.known.Known.{Known}
use Rattle.byte_layouts.proofs.telling.ListOfTells.tell.Goals as goal

known_by : ℕ → ℕ → Known
known_by version count = record { version = version; count = count }

pub returns : goal.returns
unfolding known_by
returns g c =
    let all : c.len.result ≡ length c.args.items.now.items = search rules in
    record { told = ap (known_by c.args.known.version) (all ∙ sym (length-map c.args.items.now.items g.R.Format.view)) }
