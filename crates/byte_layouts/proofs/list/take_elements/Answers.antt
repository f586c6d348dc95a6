use Rattle.std.proofs.Common.{◌≡◌, List, ◌++◌, ◌∷◌, [], Err, subst, arith}
use Rattle.std.specs.Prelude.{map}
use Rattle.std.proofs.lemmas.Result.{err_from_is_err_and}
use Rattle.std.proofs.lemmas.List.{map_push}
use Rattle.byte_layouts.specs.Layout.{reading}
use Rattle.byte_layouts.specs.Parts.{Takes, Taken, rest_of_elements}
use Rattle.byte_layouts.proofs.PartLaws.{stops, element_first, further_on, none_left}
use Rattle.byte_layouts.proofs.list.take_elements.Goals as goal

pub returns-in_err-item : goal.returns-in_err-item
returns-in_err-item g c =
    let p = err_from_is_err_and c.from_residual.result c.from_residual.ensures.1 in
    rw (p.1, p.2) (stops (c.loop-left.left ≡ 0) g.R.Format.view _ c.in_err-item.field-0.0 _ _ c.args.pending.now c.loop-left.pending c.take_next.new.pending c.loop-left.invariant
    (element_first (λ front. reading (g.R.Format.layout c.args.known front)) c.loop-left.left (map g.R.Format.view c.loop-left.items.items) c.loop-left-test.true)
    (subst (λ (xs : List g.row.R-Item.Denot). Takes g.R.Format.view (reading (g.R.Format.layout c.args.known (map g.R.Format.view xs))) (Err c.in_err-item.field-0.0) c.loop-left.pending c.take_next.new.pending) c.deref.ensures.value c.in_err-item.ensures))

pub loop-left-preserved : goal.loop-left-preserved
loop-left-preserved g c =
    let e : map g.R.Format.view c.push.new.self.items ≡ map g.R.Format.view c.loop-left.items.items ++ (g.R.Format.view c.in_ok-item.item) ∷ [] = rw c.in_ok-push.ensures.items (map_push _ c.loop-left.items.items c.in_ok-item.item) in
    rw e (further_on (λ front. reading (g.R.Format.layout c.args.known front)) (rest_of_elements (λ front. reading (g.R.Format.layout c.args.known front)) c.args.left.now (map g.R.Format.view c.args.items.now.items))
    c.loop-left.left (map g.R.Format.view c.loop-left.items.items) c.args.pending.now c.loop-left.pending c.take_next.new.pending (g.R.Format.view c.in_ok-item.item) c.loop-left-test.true c.loop-left.invariant
    (subst (λ (xs : List g.row.R-Item.Denot). Taken (reading (g.R.Format.layout c.args.known (map g.R.Format.view xs))) (g.R.Format.view c.in_ok-item.item) c.loop-left.pending c.take_next.new.pending) c.deref.ensures.value c.in_ok-item.ensures))

pub returns : goal.returns
returns g c =
    let none : c.loop-left.left ≡ 0 = omega (arith, c.loop-left-test.false) in
    (c.loop-left.invariant, none_left (λ front. reading (g.R.Format.layout c.args.known front)) c.loop-left.left (map g.R.Format.view c.loop-left.items.items) none, none)
