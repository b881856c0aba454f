-- From the compiler's steps to the verdict and the plan. Assumes nothing.
use Rattle.std.proofs.Common.{◌≡◌, ℕ, ◌<◌, ◌≤◌, Bool, cond, ltb, List, None, Ok, Err, Option, Result, sym, refl, ap, ◌∙◌, subst, arith}
use Rattle.transaction.specs.declared.transaction.Transaction.{Transaction}
use Rattle.transaction.specs.Faults.{refusal}
use Rattle.transaction.specs.WellFormed.{Program}
use Rattle.transaction.specs.Programs.{statements_of, program_of}
use Rattle.image.specs.Reading.{Answer, good, bad, image_says}
use Rattle.lines.specs.declared.line.Source.{Source}
use Rattle.lines.specs.declared.lines.Lines.{Lines}
use Rattle.lines.specs.Unique.{IsTableOf}
use Rattle.codelets.specs.declared.codelets.Codelets.{Codelets}
use Rattle.codelets.specs.declared.fault.CodeletFault.{CodeletFault}
use Rattle.codelets.specs.declared.fault.CodeletFault.TheVariants.{TwoStates}
use Rattle.codelets.specs.Codelets.{Smallest}
use Rattle.codelets.proofs.Paths.{named_below}
use Rattle.std.proofs.lemmas.Bool.{le-ltb}
use Rattle.rows.specs.Makers.{Reads}
use Rattle.stages.specs.declared.limits.Limits.{Limits}
use Rattle.stages.specs.declared.fault.LimitFault.{LimitFault}
use Rattle.stages.specs.declared.fault.StageFault.{StageFault}
use Rattle.stages.specs.Limits.{first_out}
use Rattle.stages.specs.Filling.{stage_of}
use Rattle.placement.specs.declared.placed.Placement.{Placement}
use Rattle.placement.specs.Placement.{stage_at, WellPlaced, TooDeep}
use Rattle.resolving.specs.declared.codelet.Codelet.{Codelet}
use Rattle.resolving.specs.declared.decided.Decided.{Decided}
use Rattle.resolving.specs.declared.packet.Packet.{Packet}
use Rattle.plans.specs.declared.plan.Plan.{Plan}
use Rattle.plans.specs.Pipeline.{lines_in}
use Rattle.plans.specs.Sound.{Sound}
use Rattle.plans.proofs.Soundness.{Found, sound_from}
use Rattle.compiler.specs.declared.fault.AtomFault.{AtomFault}
use Rattle.compiler.specs.declared.fault.AtomFault.TheVariants.{Setting, Update}
use Rattle.compiler.specs.declared.fault.CompileFault.{CompileFault}
use Rattle.compiler.specs.declared.fault.CompileFault.TheVariants.{Atoms, Codelets as InCodelets, Stages}
use Rattle.compiler.specs.Faults.{compile_refusal}
use Rattle.compiler.specs.Verdict.{outcome, nodes_of, needed, refused_limit, judged, admitted, StatementsJudged, TransactionJudged, ProgramJudged, Verdict}
use Rattle.compiler.specs.Settings.{Set, SetBelow}
use Rattle.compiler.specs.Planned.{TransactionPlanned, Planned}
use Rattle.compiler.proofs.Judging.{shared, outside, deep, fits, by_lines}
use Rattle.compiler.proofs.Staging.{needed_same, stages_same}

abbrev pub SharedBy : Lines → CodeletFault → Type 0
SharedBy r (TwoStates s) = Smallest r s

module _ (plus minus : ℕ → ℕ → ℕ) (takes : Codelet → Decided → Source → Bool) (ran : List ℕ → ℕ → Packet → ℕ) (t : Transaction) (limits : Limits) where
  -- what a call of the compiler promises
  pub record Told (a : Result Plan CompileFault) : Type 0 where
    pub verdict : TransactionJudged takes t limits (outcome a)
    pub plan : TransactionPlanned plus minus ran t limits a

  refused : (r : Lines) → IsTableOf (statements_of t) r → (a : Result Plan CompileFault) (f : CompileFault) → a ≡ Err f → bad (compile_refusal f) ≡ judged takes r limits.stages limits.lines limits.atoms → Told a
  refused r x a f e j = rw e (record { verdict = by_lines takes (statements_of t) limits.stages limits.lines limits.atoms _ r x j; plan = tt })

  pub exit_codelets : (r : Lines) → IsTableOf (statements_of t) r → (a : Result Plan CompileFault) (y : CompileFault) (f : CodeletFault) → a ≡ Err y → y ≡ InCodelets f → SharedBy r f → Told a
  exit_codelets r x a y (TwoStates s) e q m = refused r x a (InCodelets (TwoStates s)) (e ∙ ap Err q) (shared takes r limits.stages limits.lines limits.atoms s m)

  pub exit_settings : (k : Codelets) → IsTableOf (statements_of t) k.lines → (a : Result Plan CompileFault) (y : CompileFault) (f : AtomFault) → a ≡ Err y → y ≡ Atoms f → Set plus minus takes ran k.lines (Err f) → Told a
  exit_settings k x a y (Setting n) e q m = absurd m
  exit_settings k x a y (Update s) e q m =
      refused k.lines x a (Atoms (Update s)) (e ∙ ap Err q) (outside takes k.lines limits.stages limits.lines limits.atoms k.alone s m.0 m.1 m.2)

  pub exit_stages : (k : Codelets) → IsTableOf (statements_of t) k.lines → (settings : List (List ℕ)) → SetBelow plus minus takes ran k.lines 8 settings → (a : Result Plan CompileFault) (y : CompileFault) (f : StageFault) → a ≡ Err y → y ≡ Stages f → TooDeep k.lines limits f → Told a
  exit_stages k x settings b a y f e q m =
      refused k.lines x a (Stages f) (e ∙ ap Err q) (deep takes k.lines limits.stages limits.lines limits.atoms k.alone b.taken f.needed (m.needed ∙ needed_same k.lines m.sorts m.rows m.placed limits.lines limits.atoms) m.more)

  pub planned : (k : Codelets) → Found t k.lines → (plan : Plan) → plan.transaction ≡ t → plan.placement.codelets ≡ k → SetBelow plus minus takes ran k.lines 8 plan.settings → WellPlaced k.lines limits plan.placement → Told (Ok plan)
  planned k found plan e q b w = record { verdict = by_lines takes (statements_of t) limits.stages limits.lines limits.atoms _ k.lines (record { exact = found.exact; blank = found.blank }) judgement; plan = record { transaction = e; stages = stages; sound = sound } }
    where
      same : lines_in plan ≡ k.lines
      same = ap {B = Lines} (λ (c : Codelets). c.lines) q

      needs : plan.placement.stages.count ≡ needed k.lines limits.lines limits.atoms
      needs = w.count ∙ needed_same k.lines plan.placement.nodes.sorts plan.placement.nodes.rows w.rows limits.lines limits.atoms

      judgement : good plan.placement.stages.count ≡ judged takes k.lines limits.stages limits.lines limits.atoms
      judgement = fits takes k.lines limits.stages limits.lines limits.atoms k.alone b.taken plan.placement.stages.count needs w.within

      stages : (n : ℕ) → n < 208 → stage_at plan.placement n ≡ stage_of (nodes_of (lines_in plan)) limits.lines limits.atoms n
      stages n h =
          w.each n h ∙ stages_same k.lines plan.placement.nodes.sorts plan.placement.nodes.rows w.rows limits.lines limits.atoms n h ∙ ap {B = ℕ} (λ (r : Lines). stage_of (nodes_of r) limits.lines limits.atoms n) (sym same)

      sound : Sound plus minus ran limits plan
      sound = sound_from plus minus ran limits plan t k.lines e same found w (λ s n. b.right s (named_below k.lines s n) n)

-- what every plan keeps
pub some_stage : (k : Codelets) (limits : Limits) (p : Placement) → WellPlaced k.lines limits p → 1 ≤ p.stages.count
some_stage k limits p w = omega (arith, w.count)

pub few_stages : (k : Codelets) (limits : Limits) (p : Placement) → WellPlaced k.lines limits p → p.stages.count ≤ 32
few_stages k limits p w = omega (arith, w.within, limits.few_stages)

pub earlier : (k : Codelets) (limits : Limits) (p : Placement) → p.codelets ≡ k → WellPlaced k.lines limits p → (m n : ℕ) → Reads p.codelets.lines m n → stage_at p m < stage_at p n
earlier k limits p e w m n x = w.earlier m n (subst (λ (c : Codelets). Reads c.lines m n) e x)

-- an image that gets past the limits, the length and the reading
admits : (len d p q : ℕ) (image : List ℕ) (t : Program) → None ≡ first_out d p q → len ≤ 64 → good t ≡ image_says image → admitted len image d p q ≡ good t
admits len d p q image t e h r =
    ap {B = Answer Program} (λ (o : Option LimitFault). refused_limit o (cond (ltb 64 len) (bad (refusal 2 len)) (image_says image))) (sym e) ∙ ap {B = Answer Program} (λ b. cond b (bad (refusal 2 len)) (image_says image)) (le-ltb 64 len h) ∙ sym r

pub reaches_verdict : (len d p q : ℕ) (takes : Codelet → Decided → Source → Bool) (image : List ℕ) (t : Transaction) (limits : Limits) (a : Answer ℕ) → None ≡ first_out d p q → (limits.stages ≡ d) × (limits.lines ≡ p) × (limits.atoms ≡ q) → len ≤ 64 → good (program_of t) ≡ image_says image → TransactionJudged takes t limits a → Verdict len takes image d p q a
reaches_verdict len d p q takes image t limits a e l h r j =
    subst (λ (x : Answer Program). ProgramJudged takes x d p q a) (sym (admits len d p q image (program_of t) e h r)) (subst (λ x. StatementsJudged takes (statements_of t) d p x a) l.2 (subst (λ x. StatementsJudged takes (statements_of t) d x limits.atoms a) l.1 (subst (λ x. StatementsJudged takes (statements_of t) x limits.lines limits.atoms a) l.0 j)))

pub reaches_plan : (plus minus : ℕ → ℕ → ℕ) (ran : List ℕ → ℕ → Packet → ℕ) (d p q : ℕ) (image : List ℕ) (t : Transaction) (limits : Limits) (a : Result Plan CompileFault) → (limits.stages ≡ d) × (limits.lines ≡ p) × (limits.atoms ≡ q) → good (program_of t) ≡ image_says image → TransactionPlanned plus minus ran t limits a → Planned plus minus ran image d p q a
reaches_plan plus minus ran d p q image t limits (Ok plan) l r x =
    record {
      limits = limits;
      depth = l.0;
      lines = l.1;
      atoms = l.2;
      read = sym r ∙ ap {B = Answer Program} (λ (y : Transaction). good (program_of y)) (sym x.transaction);
      planned = record { transaction = refl; stages = x.stages; sound = x.sound };
    }
reaches_plan plus minus ran d p q image t limits (Err f) l r x = tt
