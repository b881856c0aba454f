-- What a state's atom looks at. Assumes nothing.
use Rattle.std.specs.Prelude.{ℕ}
use Rattle.std.proofs.lemmas.Bool.{and_parts}
use Rattle.lines.specs.declared.lines.Lines.{Lines}
use Rattle.lines.specs.Layout.{is_plain}
use Rattle.line_graph.specs.Edges.{line_at}
use Rattle.codelets.specs.Codelets.{read_of, in_codelet}
use Rattle.resolving.specs.declared.codelet.Codelet.{Codelet}
use Rattle.updates.specs.Inner.{is_inner, inner_of}
use Rattle.updates.proofs.Inner.{inner_lower}

-- a state's codelet: the lines of the transaction, which of them are its inner lines, and its read line
unfoldable pub codelet_of : Lines → ℕ → Codelet
codelet_of r s =
    record {
      lines = r.lines;
      inner = inner_of r s;
      read = read_of r s;
      lower = inner_lower r s (is_inner r s) (λ n e. (and_parts (in_codelet r s n) (is_plain (line_at r n)) e).0);
    }
