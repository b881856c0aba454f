-- From a start and a run of calls to the service. Assumes nothing.
use Rattle.std.proofs.Common.{◌≡◌, ℕ, List, map, sym, subst}
use Rattle.transaction.specs.Programs.{program_of}
use Rattle.resolving.specs.declared.packet.Packet.{Packet as Row}
use Rattle.book.specs.Run.{one_alone}
use Rattle.book.specs.Laws.{Served}
use Rattle.plans.specs.declared.plan.Plan.{Plan}
use Rattle.plans.specs.Pipeline.{shape_of, pipeline_of}
use Rattle.compiler.specs.Planned.{ImagePlanned}
use Rattle.machine.specs.declared.machine.Machine.{Machine}
use Rattle.machine.specs.Held.{contents}
use Rattle.machine.specs.Started.{Begins}
use Rattle.calls.specs.declared.call.Asked.{Asked}
use Rattle.calls.specs.Asking.{call_in, answer_in}
use Rattle.calls.specs.Runs.{Run}
use Rattle.calls.specs.Service.{Service}

pub serves : (plus minus : ℕ → ℕ → ℕ) (ran : List ℕ → ℕ → Row → ℕ) (image : List ℕ) (d p q : ℕ) (asked asked' : List Asked) {A : Type 0} (m m' : Machine A) → m'.plan ≡ m.plan → Begins plus minus ran image d p q m → Run (pipeline_of plus minus ran m.plan) asked asked' (contents m) (contents m') → Service plus minus ran image d p q asked asked' m'
serves plus minus ran image d p q asked asked' m m' e b run =
    record {
      program = program_of m.plan.transaction;
      read = b.planned.read;
      planned = subst (λ (x : Plan). ImagePlanned plus minus ran image d p q x) (sym e) b.planned;
      served = subst (λ (x : Plan). Served (shape_of x) (one_alone plus minus (program_of m.plan.transaction)) (map call_in asked) (map answer_in asked') (contents m')) (sym e) (run.served (one_alone plus minus (program_of m.plan.transaction)) b.right b.fresh);
      calls = run.calls;
      spares = run.spares;
    }
