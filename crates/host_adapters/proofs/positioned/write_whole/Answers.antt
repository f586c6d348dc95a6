use Rattle.host_adapters.proofs.Pieces.{write-on}
use Rattle.host_adapters.proofs.positioned.write_whole.Goals as goal

pub pieces-preserved : goal.pieces-preserved
pieces-preserved g c =
    let bytes = g.F.Placed.bytes in (
      c.write_more-more.ensures.bound,
      λ tells. write-on (bytes c.args.file.now) (bytes c.pieces.file) (bytes c.write_more-more.new.file)
          c.args.bytes.now c.args.place c.pieces.done c.write_more-more.result c.pieces.invariant.0
          (c.pieces.invariant.1 tells) (c.write_more-more.ensures.writes tells),
    )
