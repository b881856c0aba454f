-- Choose lines, one for each open if of a table. Assumes nothing.
use Rattle.std.proofs.Common.{◌≡◌, List, [], ◌∷◌, ◌++◌, reverse, sym, ap, ◌∙◌}
use Rattle.std.proofs.lemmas.List.{reverse-append}
use Rattle.transaction.specs.declared.frame.Frame.{Frame}
use Rattle.lines.specs.declared.line.Line.{Line}
use Rattle.lines.specs.declared.line.Source.{Source}
use Rattle.lines.specs.Build.{last, choose_for, guarded}

-- the last of the open ifs that are left has its line
pub guarded_turn : (left rest : List (Frame Source)) (f : Frame Source) (old : Source) (ls ls' : List Line) → left ≡ rest ++ (f ∷ []) → ls' ≡ ls ++ (choose_for f (last ls) old ∷ []) → guarded (reverse rest) old ls' ≡ guarded (reverse left) old ls
guarded_turn left rest f old ls ls' e q =
    ap (guarded (reverse rest) old) q
    ∙ sym (ap (λ (fs : List (Frame Source)). guarded fs old ls) (ap reverse e ∙ reverse-append rest (f ∷ [])))
