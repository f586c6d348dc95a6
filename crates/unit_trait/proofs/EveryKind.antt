-- A fact about every kind is decided by a list of the kinds, in bus order.
use Rattle.unit_trait.specs.declared.kind.Kind.{Kind}
use Rattle.unit_trait.specs.declared.kind.Kind.TheVariants.{Dsk, Mta, Lpt, Ptr, Ptp, Clk, Tti, Tto, Tti1, Tto1, Qty}

abbrev pub OfEach : (Kind → Type 0) → Type 0
OfEach P = P Dsk × P Mta × P Lpt × P Ptr × P Ptp × P Clk × P Tti × P Tto × P Tti1 × P Tto1 × P Qty

pub every-kind : (P : Kind → Type 0) → OfEach P → (kind : Kind) → P kind
every-kind P all Dsk = all.0
every-kind P all Mta = all.1
every-kind P all Lpt = all.2
every-kind P all Ptr = all.3
every-kind P all Ptp = all.4
every-kind P all Clk = all.5
every-kind P all Tti = all.6
every-kind P all Tto = all.7
every-kind P all Tti1 = all.8
every-kind P all Tto1 = all.9
every-kind P all Qty = all.10
