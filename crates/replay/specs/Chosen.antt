-- What a word chooses. Assumes nothing.
use Rattle.std.specs.Prelude.{◌≡◌, ◌≢◌, ℕ, ◌+◌, min, Bool, true, List, Some, Option, codes, unwrap_or}
use Rattle.replay.specs.declared.choices.Sums.{Sums}
use Rattle.replay.specs.declared.choices.Sums.TheVariants.{Wrap, Clamp}
use Rattle.replay.specs.declared.choices.Base.{Base}
use Rattle.replay.specs.declared.choices.Base.TheVariants.{ReadWrite, Add, Subtract}
use Rattle.replay.specs.declared.choices.Choices.{Choices}

abbrev pub in_sums : Sums → Choices → Choices
in_sums sums c = record { sums = sums; base = c.base; layers = c.layers; trace = c.trace }

-- over a base, under as many choices as words named before
abbrev pub over : Base → Choices → Choices
over base c = record { sums = c.sums; base = base; layers = Some (unwrap_or c.layers 0); trace = c.trace }

-- under one choice more
abbrev pub one_more : Choices → Choices
one_more c = record { sums = c.sums; base = c.base; layers = Some (min (unwrap_or c.layers 0 + 1) 255); trace = c.trace }

abbrev pub traced : Choices → Choices
traced c = record { sums = c.sums; base = c.base; layers = c.layers; trace = true }

-- what a word makes of what those before it chose
pub record Follows (word : List ℕ) (old new : Choices) : Type 0 where
  pub wrap : word ≡ codes "wrap" → new ≡ in_sums Wrap old
  pub clamp : word ≡ codes "clamp" → new ≡ in_sums Clamp old
  pub trace : word ≡ codes "trace" → new ≡ traced old
  pub choice : word ≡ codes "choice" → new ≡ one_more old
  pub rw : word ≡ codes "rw" → new ≡ over ReadWrite old
  pub add : word ≡ codes "add" → new ≡ over Add old
  pub sub : word ≡ codes "sub" → new ≡ over Subtract old
  pub others : word ≢ codes "wrap" → word ≢ codes "clamp" → word ≢ codes "trace" → word ≢ codes "choice" → word ≢ codes "rw" → word ≢ codes "add" → word ≢ codes "sub" → new ≡ old
