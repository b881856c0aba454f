-- The shape of every plan of an image, by the table of its lines. Assumes nothing.
use Rattle.std.proofs.Common.{◌≡◌, ℕ, Bool, true, false, cond, List, [], sym, refl, ap, ◌∙◌, subst, ap₂, arith}
use Rattle.transaction.specs.WellFormed.{Program}
use Rattle.transaction.specs.Programs.{program_of}
use Rattle.image.specs.Reading.{Answer, good, bad, image_says}
use Rattle.lines.specs.declared.lines.Lines.{Lines}
use Rattle.lines.specs.Unique.{IsTableOf}
use Rattle.lines.proofs.OneTable.{unique}
use Rattle.codelets.specs.Codelets.{is_named, read_of}
use Rattle.stages.specs.Filling.{stage_of}
use Rattle.placement.specs.Placement.{stage_at}
use Rattle.resolving.specs.declared.packet.Packet.{Packet}
use Rattle.book.specs.Run.{one_alone}
use Rattle.book.specs.Calls.{Call, Outcome}
use Rattle.book.specs.Book.{Shape, answers}
use Rattle.book.specs.Pipeline.{Contents}
use Rattle.book.specs.Laws.{Served}
use Rattle.plans.specs.declared.plan.Plan.{Plan}
use Rattle.plans.specs.Pipeline.{lines_in, atom_stage, shape_of}
use Rattle.compiler.specs.Verdict.{nodes_of, needed}
use Rattle.compiler.specs.Planned.{ImagePlanned}
use Rattle.compiler.proofs.Staging.{needed_same}

-- the shape that a table of lines gives
abbrev pub stage_in : Lines → ℕ → ℕ → ℕ → ℕ
stage_in r P Q s = cond (is_named r s) (stage_of (nodes_of r) P Q (read_of r s)) 0

abbrev pub shape_in : Lines → Program → ℕ → ℕ → Shape
shape_in r p P Q = record { depth = needed r P Q; width = p.fields; states = p.states; stage = stage_in r P Q }

abbrev told : Program → Answer Program → Program
told p (good q) = q
told p (bad f) = p

module _ (plus minus : ℕ → ℕ → ℕ) (ran : List ℕ → ℕ → Packet → ℕ) (image : List ℕ) (p : Program) (r : Lines) (said : image_says image ≡ good p) (exact : IsTableOf p.statements r) (D P Q : ℕ) (plan : Plan) (x : ImagePlanned plus minus ran image D P Q plan) where
  pub program_same : program_of plan.transaction ≡ p
  program_same = ap {B = Program} (told p) (sym x.read ∙ said)

  lines_same : lines_in plan ≡ r
  lines_same =
      unique p.statements (lines_in plan) r (subst (λ (q : Program). IsTableOf q.statements (lines_in plan)) program_same (record { exact = x.planned.sound.lines; blank = x.planned.sound.blank })) exact

  depth_same : plan.placement.stages.count ≡ needed r P Q
  depth_same =
      x.planned.sound.placed.count
      ∙ needed_same (lines_in plan) plan.placement.nodes.sorts plan.placement.nodes.rows x.planned.sound.placed.rows x.limits.lines x.limits.atoms
      ∙ ap {B = ℕ} (λ (l : Lines). needed l x.limits.lines x.limits.atoms) lines_same
      ∙ ap₂ {C = ℕ} (λ a b. needed r a b) x.lines x.atoms

  own_stage : (s : ℕ) (b : Bool) → is_named (lines_in plan) s ≡ b → cond b (stage_at plan.placement (read_of (lines_in plan) s)) 0 ≡ cond b (stage_of (nodes_of (lines_in plan)) x.limits.lines x.limits.atoms (read_of (lines_in plan) s)) 0
  own_stage s false e = refl
  own_stage s true e =
      x.planned.stages (read_of (lines_in plan) s) (omega (arith, x.planned.sound.order.first s e, (lines_in plan).room, (lines_in plan).few))

  stage_same : (s : ℕ) → atom_stage plan s ≡ stage_in r P Q s
  stage_same s =
      own_stage s (is_named (lines_in plan) s) refl
      ∙ ap {B = ℕ} (λ (l : Lines). stage_in l x.limits.lines x.limits.atoms s) lines_same
      ∙ ap₂ {C = ℕ} (λ a b. stage_in r a b s) x.lines x.atoms

  pub shape_same : shape_of plan ≡ shape_in r p P Q
  shape_same i =
      record {
        depth = depth_same i;
        width = (program_same i).fields;
        states = (program_same i).states;
        stage = λ s. stage_same s i;
      }

  -- what is answered to calls
  pub answers_same : (cs : List Call) (rs : List (Answer Outcome)) (m : Contents Packet) → Served (shape_of plan) (one_alone plus minus (program_of plan.transaction)) cs rs m → rs ≡ answers (shape_in r p P Q) (one_alone plus minus p) cs []
  answers_same cs rs m served =
      served.book ∙ ap₂ {C = List (Answer Outcome)} (λ (shape : Shape) (q : Program). answers shape (one_alone plus minus q) cs []) shape_same program_same
