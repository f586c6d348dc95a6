use Rattle.std.proofs.Common.{◌≡◌, List, ◌++◌, ◌∷◌, [], Ok, subst}
use Rattle.std.specs.Prelude.{map}
use Rattle.std.proofs.lemmas.Result.{err_from_is_err_and}
use Rattle.std.proofs.lemmas.List.{map_push}
use Rattle.byte_layouts.specs.Layout.{reading}
use Rattle.byte_layouts.specs.Readers.{Fails, chain, with_last}
use Rattle.byte_layouts.proofs.Loops.{goes_on, fails}
use Rattle.byte_layouts.proofs.list.read_elements.Goals as goal

pub returns-in_err-item : goal.returns-in_err-item
returns-in_err-item g c =
    let p = err_from_is_err_and c.from_residual.result c.from_residual.ensures.1 in
    let front = map g.R.Format.view c.loop-i.items.items in
    rw (p.1, p.2) (fails (λ front. reading (g.R.Format.layout c.args.known front)) with_last c.in_err-item.field-0.0 front c.args.count c.loop-i._i front c.loop-i.cursor
    (chain (λ front. reading (g.R.Format.layout c.args.known front)) with_last c.args.count [] c.args.cursor.now) c.loop-i-test.true
    (subst (λ (xs : List g.row.R-Item.Denot). Fails c.in_err-item.field-0.0 (reading (g.R.Format.layout c.args.known (map g.R.Format.view xs)) c.loop-i.cursor)) c.deref.ensures.value c.in_err-item.ensures.read)
    c.loop-i.invariant)

pub loop-i-preserved : goal.loop-i-preserved
loop-i-preserved g c =
    let front = map g.R.Format.view c.loop-i.items.items in
    let item = g.R.Format.view c.in_ok-item.item in
    let e : map g.R.Format.view c.push.new.self.items ≡ front ++ item ∷ [] = rw c.in_ok-push.ensures.items (map_push _ c.loop-i.items.items c.in_ok-item.item) in
    rw e (goes_on (λ front. reading (g.R.Format.layout c.args.known front)) with_last front c.args.count c.loop-i._i front c.loop-i.cursor item c.read.new.cursor
    (chain (λ front. reading (g.R.Format.layout c.args.known front)) with_last c.args.count [] c.args.cursor.now) c.loop-i-test.true
    (subst (λ (xs : List g.row.R-Item.Denot). reading (g.R.Format.layout c.args.known (map g.R.Format.view xs)) c.loop-i.cursor ≡ Ok (item, c.read.new.cursor)) c.deref.ensures.value c.in_ok-item.ensures.read)
    c.loop-i.invariant)
