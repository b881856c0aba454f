use Rattle.std.proofs.Common.{ℕ, max, ap, ◌∙◌, ap₂}
use Rattle.stages.specs.declared.node.Slot.TheVariants.{Stateless, Stateful}
use Rattle.stages.specs.Filling.{in_row, ceiling}
use Rattle.stages.proofs.Counts.{tally_all}
use Rattle.stages.proofs.Widths.{ceiling_is}
use Rattle.stages.proofs.node.Nodes.width.Goals as goal

pub returns : goal.returns
returns c =
    let x = c.args.self.now in
    let l = c.args.limits.now in
    c.max.ensures
    ∙ ap₂ max
    (c.div_ceil-for_lines.ensures ∙ ceiling_is c.count.result l.lines l.some_line ∙ ap (λ (m : ℕ). ceiling m l.lines) (c.count.ensures.exact ∙ tally_all 208 (in_row x Stateless c.args.row)))
    (c.div_ceil-for_atoms.ensures ∙ ceiling_is c.count-2.result l.atoms l.some_atom ∙ ap (λ (m : ℕ). ceiling m l.atoms) (c.count-2.ensures.exact ∙ tally_all 208 (in_row x Stateful c.args.row)))
