-- The pipeline of a sound plan is right. Assumes nothing.
use Rattle.std.proofs.Common.{◌≡◌, ℕ, suc, ◌<◌, ◌≤◌, true, false, List, map, length, get_or, take, sym, ap, ◌∙◌, subst, ⊎_elim, arith, length-take-le}
use Rattle.std.proofs.lemmas.Bool.{and_from, le-leb, cases_Bool, cond-true, cond-false, cond_both}
use Rattle.transaction.specs.declared.transaction.Transaction.{Transaction}
use Rattle.transaction.specs.WellFormed.{well_formed}
use Rattle.transaction.specs.Programs.{statements_of, program_of}
use Rattle.meaning.specs.Serial.{Values, alone}
use Rattle.lines.specs.Meaning.{worked_out, Means}
use Rattle.lines.specs.Work.{value_of}
use Rattle.codelets.specs.Codelets.{is_named, read_of}
use Rattle.stages.specs.declared.limits.Limits.{Limits}
use Rattle.placement.specs.Placement.{stage_at}
use Rattle.resolving.specs.declared.packet.Packet.{Packet}
use Rattle.book.specs.Right.{Fits, Finds, Carries, Right}
use Rattle.book.specs.Run.{one_alone}
use Rattle.book.specs.Theorem.{WordsToWords}
use Rattle.book.proofs.Carrying.{carries_all}
use Rattle.book.proofs.WordsKept.{keeps_words}
use Rattle.plans.specs.declared.plan.Plan.{Plan}
use Rattle.plans.specs.Pipeline.{lines_in, atom_stage, shape_of, leaving_with, stage_work, setting_of, pipeline_of}
use Rattle.plans.specs.Sound.{Sound, SoundPlansRight}
use Rattle.plans.proofs.Carried.{node_first, node_last, atom_node, Kept, kept_entered, kept_worked}
use Rattle.plans.proofs.Settings.{setting_makes}
use Rattle.plans.proofs.Finals.{leaving_kept}

-- a transaction's program is well formed
well : (t : Transaction) → well_formed (program_of t) ≡ true
well t =
    let long : length (statements_of t) ≡ t.count = length-take-le t.count t.statements (omega (arith, t.few_statements, t.long)) in
    and_from _ _ (and_from _ _ (le-leb 1 t.fields t.some_field) (le-leb t.fields 16 t.few_fields))
    (and_from _ _ (le-leb t.states 8 t.few_states) (and_from _ _ (le-leb (length (statements_of t)) 48 (subst (λ x. x ≤ 48) (sym long) t.few_statements)) (and_from _ _ t.in_place t.well_nested)))

module _ (plus minus : ℕ → ℕ → ℕ) (ran : List ℕ → ℕ → Packet → ℕ) (limits : Limits) (plan : Plan) (sums : WordsToWords plus) (differences : WordsToWords minus) (sound : Sound plus minus ran limits plan) where
  -- where an atom stands
  stage_named : (s : ℕ) → is_named (lines_in plan) s ≡ true → atom_stage plan s ≡ stage_at plan.placement (read_of (lines_in plan) s)
  stage_named s e = cond-true (is_named (lines_in plan) s) (stage_at plan.placement (read_of (lines_in plan) s)) 0 e

  stage_unnamed : (s : ℕ) → is_named (lines_in plan) s ≡ false → atom_stage plan s ≡ 0
  stage_unnamed s e = cond-false (is_named (lines_in plan) s) (stage_at plan.placement (read_of (lines_in plan) s)) 0 e

  means : (v : Values) → Fits (shape_of plan) v → Means plus minus (lines_in plan) v (statements_of plan.transaction)
  means v fits = sound.meaning plus minus v fits.fields.size fits.words.size

  kept : (v : Values) → Fits (shape_of plan) v → (k : ℕ) (row : Packet) → Carries (pipeline_of plus minus ran plan) v k row → Kept plus minus plan v k row
  kept v fits =
      carries_all (pipeline_of plus minus ran plan) v (λ k row. Kept plus minus plan v k row)
      (kept_entered plus minus limits plan sound.placed v few)
      works
    where
      few : length v.fields ≤ 16
      few = subst (λ x. x ≤ 16) (sym fits.fields.size) plan.transaction.few_fields

      works : (k : ℕ) (row : Packet) (ws : List ℕ) → k < plan.placement.stages.count → Kept plus minus plan v k row → Finds (pipeline_of plus minus ran plan) v (suc k) ws → Kept plus minus plan v (suc k) (stage_work plus minus plan (suc k) row ws)
      works k row ws lt before finds =
          kept_worked plus minus limits plan sound.placed v sound.makes k row ws before
          (λ s named at. finds s (sound.there s named) (stage_named s named ∙ at))

  runs : (s k : ℕ) (v : Values) (row : Packet) → Fits (shape_of plan) v → s < plan.transaction.states → atom_stage plan s ≡ suc k → Carries (pipeline_of plus minus ran plan) v k row → ran (setting_of plan s) (get_or v.words s 0) row ≡ get_or (alone plus minus (statements_of plan.transaction) v).words s 0
  runs s k v row fits lt at carried =
      ⊎_elim
      (λ named. let made = sound.words plus minus v sums differences fits.fields.each fits.words.each in
      setting_makes plus minus limits plan sound.placed v k row (kept v fits k row carried) s named (sym (stage_named s named) ∙ at) sound.makes ran (setting_of plan s) (sound.settings s named) (record { fields = fits.fields.each; lines = made.lines }) (fits.words.each s)
      ∙ (means v fits).words s named)
      (λ unnamed. absurd (let z : 0 ≡ suc k = sym (stage_unnamed s unnamed) ∙ at in omega (arith, z)))
      (cases_Bool (is_named (lines_in plan) s))

  rests : (s : ℕ) (v : Values) → Fits (shape_of plan) v → s < plan.transaction.states → atom_stage plan s ≡ 0 → get_or (alone plus minus (statements_of plan.transaction) v).words s 0 ≡ get_or v.words s 0
  rests s v fits lt at =
      ⊎_elim
      (λ named. absurd (let z : stage_at plan.placement (read_of (lines_in plan) s) ≡ 0 = sym (stage_named s named) ∙ at in omega (arith, z, node_first limits plan sound.placed (read_of (lines_in plan) s) (atom_node (lines_in plan) s named))))
      ((means v fits).unnamed s)
      (cases_Bool (is_named (lines_in plan) s))

  leaves : (v : Values) (row : Packet) → Fits (shape_of plan) v → Carries (pipeline_of plus minus ran plan) v plan.placement.stages.count row → leaving_with plan row ≡ (alone plus minus (statements_of plan.transaction) v).fields
  leaves v row fits carried =
      leaving_kept plus minus limits plan sound.placed sound.order v row (kept v fits plan.placement.stages.count row carried)
      ∙ (ap (λ n. map (value_of v.fields (worked_out plus minus (lines_in plan) v)) (take n (lines_in plan).finals)) (sym fits.fields.size)
      ∙ ap (λ (w : Values). w.fields) (means v fits).same)

  within : (s : ℕ) → s < plan.transaction.states → atom_stage plan s ≤ plan.placement.stages.count
  within s lt =
      cond_both (is_named (lines_in plan) s) (stage_at plan.placement (read_of (lines_in plan) s)) 0 (λ n. n ≤ plan.placement.stages.count)
      (λ named. node_last limits plan sound.placed (read_of (lines_in plan) s) (atom_node (lines_in plan) s named))
      (λ unnamed. omega arith)

  right : Right (pipeline_of plus minus ran plan) (one_alone plus minus (program_of plan.transaction))
  right = record {
    keeps = λ v fits. keeps_words plus minus sums differences (program_of plan.transaction) (well plan.transaction) (shape_of plan) v fits;
    runs = runs;
    rests = rests;
    leaves = leaves;
    within = within;
  }

pub sound_plans_right : SoundPlansRight
sound_plans_right plus minus ran limits plan sums differences sound = right plus minus ran limits plan sums differences sound
