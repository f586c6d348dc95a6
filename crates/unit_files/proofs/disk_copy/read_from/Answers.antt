use Rattle.std.proofs.Common.{◌≡◌, ◌*◌, ◌++◌, ◌-◌, ◌∙◌, ℕ, List, length, take, drop, min, replicate, ap}
use Rattle.unit_files.specs.Buffer.{sector_bytes, sector_of}
use Rattle.unit_files.proofs.Sectors.{behind-place}
use Rattle.unit_files.proofs.disk_copy.read_from.Goals as goal

pub returns : goal.returns
unfolding sector_bytes sector_of
returns c =
    let bytes = c.args.bytes.now in
    let from : c.min.result ≡ min (c.args.sector * 512) (length bytes) =
    c.min.ensures ∙ ap (λ (s : ℕ). min (s * 512) (length bytes)) c.from-place.ensures in
    let room = c.told-into in
    c.copy_front.ensures
    ∙ (λ i. take (room i) (take (length bytes - c.min.result) (drop c.min.result bytes) ++ replicate (room i) 0))
    ∙ ap (λ (xs : List ℕ). take 512 (xs ++ replicate 512 0)) (behind-place bytes (c.args.sector * 512) c.min.result from)
