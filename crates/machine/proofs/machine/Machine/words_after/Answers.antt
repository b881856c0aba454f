use Rattle.std.proofs.Common.{◌≡◌, ℕ, ◌<◌, ◌≤◌, Bool, cond, ◌&&◌, eqb, ltb, get_or, sym, ap, ◌∙◌, ⊎_elim, arith, rules, tests}
use Rattle.std.proofs.lemmas.Bool.{lt-ltb, le-ltb, cases_lt}
use Rattle.std.proofs.lemmas.List.{get_or_past}
use Rattle.plans.specs.Pipeline.{atom_stage, setting_of}
use Rattle.word.proofs.Made.{made_at}
use Rattle.machine.proofs.machine.Machine.words_after.Goals as goal

pub returns : goal.returns
returns g c =
    let m = c.args.self.now in
    let states : ℕ = m.plan.transaction.states in
    let new : ℕ → ℕ = λ s. g.A.Atom.ran (setting_of m.plan s) (get_or c.args.visit.stood.now s 0) c.args.visit.carried.now in
    let old : ℕ → ℕ = λ s. get_or m.held.words s 0 in
    let word : (s : ℕ) → s < 8 → get_or c.from_fn.result s 0 ≡ cond (ltb s states && eqb (atom_stage m.plan s) c.args.k) (new s) (old s) =
    made_at _ _ (λ (s : ℕ). cond (ltb s states && eqb (atom_stage m.plan s) c.args.k) (new s) (old s)) 8 (λ i y q lt k. search (rules, tests)) c.from_fn.result 0 c.from_fn.ensures.items in
    let given : (b : Bool) (s : ℕ) → s < 8 → ltb s states ≡ b → get_or c.from_fn.result s 0 ≡ cond (b && eqb (atom_stage m.plan s) c.args.k) (new s) (old s) =
    λ b s lt e. word s lt ∙ ap {B = ℕ} (λ (x : Bool). cond (x && eqb (atom_stage m.plan s) c.args.k) (new s) (old s)) e in
    record {
      runs = λ s h. given _ s (omega (arith, m.plan.transaction.few_states)) (lt-ltb s states h);
      rests = λ s h.
          ⊎_elim
          (λ (lt : s < 8). given _ s lt (le-ltb s states h))
          (λ (le : 8 ≤ s). get_or_past c.from_fn.result s 0 (omega (arith, c.from_fn.ensures.items.long)) ∙ sym (get_or_past m.held.words s 0 (omega (arith, m.held.words_long))))
          (cases_lt s 8);
    }
