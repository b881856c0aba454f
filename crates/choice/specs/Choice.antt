-- The class of choice over any atom, its length and its run. Assumes nothing.
use Rattle.std.specs.Prelude.{ℕ, ◌+◌, ◌*◌, min, Bool, true, false, cond, ◌&&◌, ◌||◌, List, take, drop, Some, None, Option}
use Rattle.word.specs.Words.{top}
use Rattle.lines.specs.declared.line.Source.{Source}
use Rattle.lines.specs.declared.line.Line.{Line}
use Rattle.lines.specs.declared.line.Line.TheVariants.{Read, Copy, Add, Sub, Less, Equal, Choose, Write}
use Rattle.resolving.specs.declared.codelet.Codelet.{Codelet}
use Rattle.resolving.specs.declared.decided.Decided.{Decided}
use Rattle.resolving.specs.declared.packet.Packet.{Packet}
use Rattle.resolving.specs.declared.fork.Fork.{Fork}
use Rattle.resolving.specs.Classes.{is_predicate, fork_of}
use Rattle.resolving.specs.Codelets.{inner_line}
use Rattle.resolving.specs.Leaves.{holds_at}
use Rattle.resolving.specs.Resolving.{resolved_to}
use Rattle.resolving.specs.Sameness.{decide}
use Rattle.settings.specs.Settings.{predicate_from}

module _ (takes : Codelet → Decided → Source → Bool) where
  -- a choose whose condition resolves to a predicate, whose first arm is taken with the predicate decided true and whose
  -- second arm is taken with it decided false
  abbrev pub is_choice : Codelet → Decided → Option Line → Bool
  is_choice cod d None = false
  is_choice cod d (Some (Read s)) = false
  is_choice cod d (Some (Copy a)) = false
  is_choice cod d (Some (Add a b)) = false
  is_choice cod d (Some (Sub a b)) = false
  is_choice cod d (Some (Less a b)) = false
  is_choice cod d (Some (Equal a b)) = false
  is_choice cod d (Some (Choose c a b)) = is_predicate cod d (resolved_to cod d c) && (takes cod (decide d (resolved_to cod d c) true) a && takes cod (decide d (resolved_to cod d c) false) b)
  is_choice cod d (Some (Write s a)) = false

  -- choice: what the atom below takes, and an inner line that is such a choose
  abbrev pub choice_takes : Codelet → Decided → Source → Bool
  choice_takes cod d u = takes cod d u || is_choice cod d (inner_line cod (resolved_to cod d u))

  -- the atom below takes both arms of a fork
  abbrev pub arms_taken : Codelet → Decided → Fork → Bool
  arms_taken cod d f = takes cod (decide d f.condition true) f.first && takes cod (decide d f.condition false) f.second

  -- a fork whose arms are both taken
  abbrev pub if_taken : Codelet → Decided → Option Fork → Option Fork
  if_taken cod d None = None
  if_taken cod d (Some f) = cond (arms_taken cod d f) (Some f) None

  -- the fork that an update is, where the atom below takes both its arms
  abbrev pub taken_fork : Codelet → Decided → Source → Option Fork
  taken_fork cod d u = if_taken cod d (fork_of cod d u)

-- the length: past the top word it counts as the top word
abbrev pub choice_length : ℕ → ℕ
choice_length n = min (5 + 2 * n) top

-- the run, on any numbers: the part after the predicate where it is true, and otherwise the part after that
abbrev pub choice_ran : ℕ → (List ℕ → ℕ → Packet → ℕ) → List ℕ → ℕ → Packet → ℕ
choice_ran n ran s old p = cond (holds_at (predicate_from s) old p) (ran (take n (drop 5 s)) old p) (ran (take n (drop (5 + n) s)) old p)
