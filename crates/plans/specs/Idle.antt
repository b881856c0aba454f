-- The transaction that does nothing, and its plan. Assumes nothing.
use Rattle.std.specs.Prelude.{◌≡◌, ℕ, false, List, []}
use Rattle.std.proofs.Common.{arith}
use Rattle.transaction.specs.WellFormed.{Program}
use Rattle.lines.specs.declared.lines.Lines.{Lines}
use Rattle.codelets.specs.Codelets.{is_named}
use Rattle.stages.specs.declared.limits.Limits.{Limits}
use Rattle.resolving.specs.declared.packet.Packet.{Packet}
use Rattle.plans.specs.declared.plan.Plan.{Plan}
use Rattle.plans.specs.Sound.{Sound}

-- the image 01 01 00 00: one field, no state, no statement
abbrev pub idle_program : Program
idle_program = record { fields = 1; states = 0; statements = [] }

-- room for one line and one atom in one stage
abbrev pub one : Limits
one =
    record {
      stages = 1;
      lines = 1;
      atoms = 1;
      some_stage = omega arith;
      few_stages = omega arith;
      some_line = omega arith;
      few_lines = omega arith;
      some_atom = omega arith;
      few_atoms = omega arith;
    }

-- there are no lines, and no state is named
pub record Bare (r : Lines) : Type 0 where
  pub none : r.count ≡ 0
  pub unnamed : (s : ℕ) → is_named r s ≡ false

-- sound whatever the arithmetic and the atoms are
abbrev pub AlwaysSound : Plan → Type 0
AlwaysSound plan = (plus minus : ℕ → ℕ → ℕ) (ran : List ℕ → ℕ → Packet → ℕ) → Sound plus minus ran one plan
