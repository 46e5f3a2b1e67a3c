use Rattle.hathrelig.proofs.Inputs.{read_whole}
use Rattle.hathrelig.proofs.read_sheet.Goals as goal

pub returns : goal.returns
returns g c =
    read_whole g.R.Read.remaining c.take.result c.args.input _ _ c.take.ensures.limit c.take.ensures.inner c.new-sheet.ensures.items
    c.in_ok-read_to_end.ensures.bytes
