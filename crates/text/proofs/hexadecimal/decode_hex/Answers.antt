-- The theorems that the contract names.
use Rattle.text.specs.Hexadecimal.{hex_step}
use Rattle.text.proofs.Faults.{first_fault}
use Rattle.text.proofs.HexLines.{hex_finishes, hex_reads_back, pairs_read}
use Rattle.text.proofs.hexadecimal.decode_hex.Goals as goal

pub returns : goal.returns
returns c = record { answers = c.decode.ensures; reads_back = hex_reads_back; pairs_read = pairs_read; first_fault = first_fault hex_step hex_finishes }
