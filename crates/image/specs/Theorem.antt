-- An image is accepted exactly when it is the written form of a well-formed transaction. Assumes nothing.
use Rattle.std.specs.Prelude.{◌≡◌, ℕ, true, List}
use Rattle.transaction.specs.WellFormed.{Program, well_formed}
use Rattle.image.specs.Reading.{Answer, good, image_says}
use Rattle.image.specs.Writing.{written}

-- both ways, for every image and every transaction
pub record AcceptsWritten : Type 0 where
  pub accepted : (bs : List ℕ) (p : Program) → image_says bs ≡ good p → (well_formed p ≡ true) × (bs ≡ written p)
  pub reads_back : (p : Program) → well_formed p ≡ true → image_says (written p) ≡ good p

-- An answer to an image: the definition's, and so the transaction of which the image is the written form, if there is one.
pub record ReadExactly (bs : List ℕ) (a : Answer Program) : Type 0 where
  pub answer : a ≡ image_says bs
  pub accepted : (p : Program) → a ≡ good p → (well_formed p ≡ true) × (bs ≡ written p)
  pub complete : (p : Program) → well_formed p ≡ true → bs ≡ written p → a ≡ good p
