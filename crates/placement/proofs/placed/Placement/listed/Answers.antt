-- Each place of the list is made from its number.
use Rattle.std.proofs.Common.{None, rules}
use Rattle.placement.specs.Listing.{listed_at}
use Rattle.word.proofs.Made.{made_at}
use Rattle.placement.proofs.placed.Placement.listed.Goals as goal

pub returns : goal.returns
returns c = made_at _ _ (listed_at c.args.self.now c.args.stage) 416 (λ i y q lt call. search rules) c.from_fn.result None c.from_fn.ensures.items
