use Rattle.std.proofs.Common.{◌∙◌, ap₂}
use Rattle.image.specs.Reading.{program_at}
use Rattle.image.proofs.AcceptsWritten.{read_exactly, told_at}
use Rattle.image.proofs.reader.read_image.Goals as goal

pub returns : goal.returns
returns c =
    let start = ap₂ program_at c.new-reader.ensures.bytes c.new-reader.ensures.offset in
    read_exactly _ _ (told_at _ _ c.args.image.now (c.transaction.ensures.read ∙ start))
