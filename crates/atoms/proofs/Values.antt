-- What a leaf gives, at a packet that carries its value. Assumes nothing.
use Rattle.std.proofs.Common.{◌≡◌, ℕ, Bool, true, false, cond, get_or, Some, None, Option, sym, refl, ap, ◌∙◌, subst}
use Rattle.std.proofs.lemmas.Bool.{and_from, not_from_false, eqb-true, false≢true}
use Rattle.word.specs.Words.{Word}
use Rattle.lines.specs.declared.line.Source.{Source}
use Rattle.lines.specs.declared.line.Source.TheVariants.{Field, Line as Made, Constant}
use Rattle.resolving.specs.declared.codelet.Codelet.{Codelet}
use Rattle.resolving.specs.declared.packet.Packet.{Packet}
use Rattle.resolving.specs.declared.leaf.Leaf.TheVariants.{Old, Line as LLine}
use Rattle.resolving.specs.Codelets.{value, Words, Satisfies}
use Rattle.resolving.specs.Leaves.{is_old, is_leaf, leaf_of, leaf_value, NamesWord}
use Rattle.atoms.specs.Rightness.{Brings}

-- of what there is, where there is something
abbrev pub WhereSome : {X : Type 0} → Option X → (X → Type 0) → Type 0
WhereSome None P = Unit {0}
WhereSome (Some x) P = P x

pub at_some : {X : Type 0} (o : Option X) (x : X) (P : X → Type 0) → o ≡ Some x → WhereSome o P → P x
at_some o x P e h = subst (λ q. WhereSome q P) e h

pub leaf_word : (cod : Codelet) (all : Packet) → Words all → (a : Source) → NamesWord (leaf_of cod a) → Word (value all a)
leaf_word cod all words (Field i) h = words.fields i
leaf_word cod all words (Made n) h = words.lines n
leaf_word cod all words (Constant w) h = h

module _ (plus minus : ℕ → ℕ → ℕ) (cod : Codelet) (old : ℕ) (all : Packet) (s : Satisfies plus minus cod old all) where
  pub old_value : (a : Source) → is_old cod a ≡ true → value all a ≡ old
  old_value (Field i) e = absurd (false≢true e)
  old_value (Made n) e = ap (λ i. get_or all.lines i 0) (eqb-true n cod.read e) ∙ s.reads
  old_value (Constant w) e = absurd (false≢true e)

  pub leaf_gives : (packet : Packet) (a : Source) → is_leaf cod a ≡ true → Brings cod all packet a → leaf_value (leaf_of cod a) old packet ≡ value all a
  leaf_gives packet (Field i) l b = b refl
  leaf_gives packet (Made n) l b = go (is_old cod (Made n)) refl
    where
      go : (q : Bool) → is_old cod (Made n) ≡ q → leaf_value (cond q Old (LLine n)) old packet ≡ value all (Made n)
      go true h = sym (old_value (Made n) h)
      go false h = b (and_from (is_leaf cod (Made n)) _ l (not_from_false (is_old cod (Made n)) h))
  leaf_gives packet (Constant w) l b = refl
