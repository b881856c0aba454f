-- The theorems that the contract names.
use Rattle.text.specs.Decimal.{decimal_step}
use Rattle.text.proofs.DecimalLines.{decimal_finishes, decimals_read_back, numerals_read}
use Rattle.text.proofs.Faults.{first_fault}
use Rattle.text.proofs.decimal.decode_words.Goals as goal

pub returns : goal.returns
returns c = record { answers = c.decode.ensures; reads_back = decimals_read_back; numerals_read = numerals_read; first_fault = first_fault decimal_step decimal_finishes }
