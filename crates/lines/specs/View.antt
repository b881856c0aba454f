-- What a builder holds. Assumes nothing.
use Rattle.std.specs.Prelude.{◌≡◌, ◌+◌, [], ◌∷◌, ◌++◌, take}
use Rattle.transaction.specs.Frames.{frames_of}
use Rattle.lines.specs.declared.line.Line.{Line}
use Rattle.lines.specs.declared.line.Source.{Source}
use Rattle.lines.specs.declared.builder.Builder.{Builder}
use Rattle.lines.specs.Build.{Draft, latest, draft, guarded}

abbrev pub draft_of : Builder → Draft
draft_of b = draft (take b.count b.lines) (latest b.fields b.states) (frames_of b.nest)

-- one line more, and nothing else
pub record Pushed (l : Line) (b b' : Builder) : Type 0 where
  pub lines : take b'.count b'.lines ≡ take b.count b.lines ++ (l ∷ [])
  pub count : b'.count ≡ b.count + 1
  pub fields : b'.fields ≡ b.fields
  pub states : b'.states ≡ b.states
  pub nest : b'.nest ≡ b.nest

-- a choose line for each open if more, and nothing else
pub record Guarded (old : Source) (b b' : Builder) : Type 0 where
  pub lines : take b'.count b'.lines ≡ guarded (frames_of b.nest) old (take b.count b.lines)
  pub count : b'.count ≡ b.count + b.nest.depth
  pub fields : b'.fields ≡ b.fields
  pub states : b'.states ≡ b.states
  pub nest : b'.nest ≡ b.nest
