-- Worked examples: lines with their codelets, echoes and rows. Assumes nothing.
use Rattle.std.specs.Prelude.{◌≡◌, true, false, List, [], ◌∷◌, map, take, Some, None}
use Rattle.std.specs.List.{range_with_len}
use Rattle.lines.specs.declared.line.Source.TheVariants.{Field, Line as Made, Constant as Fixed}
use Rattle.lines.specs.declared.line.Line.{Line}
use Rattle.lines.specs.declared.line.Line.TheVariants.{Read, Copy, Add, Equal, Choose, Write}
use Rattle.lines.specs.declared.lines.Lines.{Lines}
use Rattle.codelets.specs.Codelets.{in_codelet, crowded}
use Rattle.echoes.specs.Echoes.{echo}
use Rattle.stages.specs.declared.node.Node.TheVariants.{Line as Outside, Echo, Atom}
use Rattle.rows.specs.Sorts.{sort_of}
use Rattle.rows.specs.Rows.{row_of}

-- the lines of every tenth packet marked: f1 := s0 = 9; if f1; f0 := 1; s0 := 0; else; f0 := 0; s0 := s0 + 1; end
abbrev pub sampling : List Line
sampling =
    Read 0
    ∷ (Equal (Made 0) (Fixed 9)
    ∷ (Copy (Fixed 1)
    ∷ (Choose (Made 1) (Made 2) (Field 0)
    ∷ (Copy (Fixed 0)
    ∷ (Choose (Made 1) (Made 4) (Made 0)
    ∷ (Copy (Fixed 0)
    ∷ (Choose (Made 1) (Made 3) (Made 6)
    ∷ (Add (Made 5) (Fixed 1)
    ∷ (Choose (Made 1) (Made 5) (Made 8)
    ∷ (Write 0 (Made 9) ∷ []))))))))))

-- s0 := s0 + 1; s1 := s1 + s0
abbrev pub chained : List Line
chained = Read 0 ∷ (Read 1 ∷ (Add (Made 0) (Fixed 1) ∷ (Add (Made 1) (Made 2) ∷ (Write 0 (Made 2) ∷ (Write 1 (Made 3) ∷ [])))))

-- f0 := s0; s0 := s1; s1 := f0
abbrev pub crossed : List Line
crossed =
    Read 0 ∷ (Read 1 ∷ (Copy (Made 0) ∷ (Copy (Made 1) ∷ (Copy (Made 2) ∷ (Write 0 (Made 3) ∷ (Write 1 (Made 4) ∷ []))))))

-- the codelet is 0, 1, 5, 8, 9 and 10, line 1 has the one echo, and the rows are 1 for lines 2, 4 and 6, 2 for the atom, 3 for the echo, 4 and 5 for lines 3 and 7
pub record Sampled (r : Lines) : Type 0 where
  pub lines : take r.count r.lines ≡ sampling
  pub finals : take 2 r.finals ≡ Made 7 ∷ (Made 1 ∷ [])
  pub codelet : map (λ n. in_codelet r 0 n) (range_with_len 0 11) ≡ true ∷ (true ∷ (false ∷ (false ∷ (false ∷ (true ∷ (false ∷ (false ∷ (true ∷ (true ∷ (true ∷ []))))))))))
  pub alone : crowded r 0 ≡ false
  pub echoes : map (λ n. echo r n) (range_with_len 0 11) ≡ false ∷ (true ∷ (false ∷ (false ∷ (false ∷ (false ∷ (false ∷ (false ∷ (false ∷ (false ∷ (false ∷ []))))))))))
  pub nodes : map (λ n. sort_of r n) (range_with_len 0 11) ≡ Some Atom ∷ (Some Echo ∷ (Some Outside ∷ (Some Outside ∷ (Some Outside ∷ (None ∷ (Some Outside ∷ (Some Outside ∷ (None ∷ (None ∷ (None ∷ []))))))))))
  pub rows : map (λ n. row_of r n) (2 ∷ (4 ∷ (6 ∷ (0 ∷ (1 ∷ (3 ∷ (7 ∷ []))))))) ≡ 1 ∷ (1 ∷ (1 ∷ (2 ∷ (3 ∷ (4 ∷ (5 ∷ []))))))

-- three rows: the first state's atom, the echo of line 2, the second state's atom
pub record Chained (r : Lines) : Type 0 where
  pub lines : take r.count r.lines ≡ chained
  pub alone : map (λ s. crowded r s) (0 ∷ (1 ∷ [])) ≡ false ∷ (false ∷ [])
  pub nodes : map (λ n. sort_of r n) (range_with_len 0 6) ≡ Some Atom ∷ (Some Atom ∷ (Some Echo ∷ (None ∷ (None ∷ (None ∷ [])))))
  pub rows : map (λ n. row_of r n) (0 ∷ (2 ∷ (1 ∷ []))) ≡ 1 ∷ (2 ∷ (3 ∷ []))

-- both states are in one codelet
pub record Crossed (r : Lines) : Type 0 where
  pub lines : take r.count r.lines ≡ crossed
  pub shared : map (λ s. crowded r s) (0 ∷ (1 ∷ [])) ≡ true ∷ (true ∷ [])

-- there are such lines
abbrev pub SamplesStand : Type 0
SamplesStand = ((r : Lines) × Sampled r) × ((r : Lines) × Chained r) × ((r : Lines) × Crossed r)
