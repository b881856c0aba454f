-- What the calls of a service are answered, from what holds of every run that is served. Assumes nothing.
use Rattle.std.proofs.Common.{◌≡◌, ℕ, List, map, subst}
use Rattle.transaction.specs.WellFormed.{Program}
use Rattle.transaction.specs.Programs.{program_of}
use Rattle.image.specs.Reading.{Answer, good, image_says}
use Rattle.resolving.specs.declared.packet.Packet.{Packet}
use Rattle.book.specs.Run.{one_alone}
use Rattle.book.specs.Calls.{Call, Outcome}
use Rattle.book.specs.Laws.{Served}
use Rattle.plans.specs.Pipeline.{shape_of}
use Rattle.machine.specs.declared.machine.Machine.{Machine}
use Rattle.machine.specs.Held.{contents}
use Rattle.calls.specs.declared.call.Asked.{Asked}
use Rattle.calls.specs.Asking.{call_in, answer_in}
use Rattle.calls.specs.Service.{Service}
use Rattle.worked_examples.specs.Runs.{EveryServedRun, CallsAnswered}

one_program : (a : Answer Program) (p q : Program) → a ≡ good p → a ≡ good q → p ≡ q
one_program a p q e f = cc

module _ (plus minus : ℕ → ℕ → ℕ) (ran : List ℕ → ℕ → Packet → ℕ) (image : List ℕ) (asked asked' : List Asked) {A : Type 0} (m : Machine A) (x : Service plus minus ran image 30 10 8 asked asked' m) where
  run_served : Served (shape_of m.plan) (one_alone plus minus (program_of m.plan.transaction)) (map call_in asked) (map answer_in asked') (contents m)
  run_served =
      subst (λ (p : Program). Served (shape_of m.plan) (one_alone plus minus p) (map call_in asked) (map answer_in asked') (contents m))
      (one_program (image_says image) x.program (program_of m.plan.transaction) x.read x.planned.read) x.served

  pub run_holds : (holds : List Call → List (Answer Outcome) → Type 0) → EveryServedRun plus minus image holds → holds (map call_in asked) (map answer_in asked')
  run_holds holds every = every ran m.plan x.planned (map call_in asked) (map answer_in asked') (contents m) run_served

  pub calls_answered : (cs : List Call) (rs : List (Answer Outcome)) → CallsAnswered plus minus image cs rs → map call_in asked ≡ cs → map answer_in asked' ≡ rs
  calls_answered cs rs every e =
      every ran m.plan x.planned (map answer_in asked') (contents m)
      (subst (λ (c : List Call). Served (shape_of m.plan) (one_alone plus minus (program_of m.plan.transaction)) c (map answer_in asked') (contents m)) e run_served)
