-- The codelets, echoes and rows of the examples. Assumes nothing.
use Rattle.std.proofs.Common.{refl, subst}
use Rattle.lines.specs.declared.lines.Lines.{Lines}
use Rattle.lines.specs.Examples.{sampling}
use Rattle.lines.proofs.OneTable.{unique}
use Rattle.stages.specs.Filling.{tally, highest, below}
use Rattle.rows.specs.Rows.{row_of}
use Rattle.worked_examples.specs.Images.{sampling_image, chained_image, LinesOf}
use Rattle.worked_examples.specs.Worked.{SamplingRows, ChainedRows}
use Rattle.worked_examples.proofs.Samples.{sampling_table, sampling_exactly, chained, chained_table, chained_exactly}

pub sampling_rowed : (r : Lines) → LinesOf sampling_image r → SamplingRows r
unfolding row_of tally highest below
sampling_rowed r x =
    subst SamplingRows (unique sampling sampling_table r sampling_exactly x) (record { lines = refl; codelet = refl; echoes = refl; sorts = refl; rows = refl; wide = refl; narrow = refl })

pub chained_rowed : (r : Lines) → LinesOf chained_image r → ChainedRows r
unfolding row_of
chained_rowed r x = subst ChainedRows (unique chained chained_table r chained_exactly x) (record { lines = refl; sorts = refl; rows = refl })
