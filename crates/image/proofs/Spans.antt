-- Which bytes stand between two offsets of an image. Assumes nothing.
use Rattle.std.proofs.Common.{◌≡◌, ℕ, ◌+◌, ◌≤◌, List, [], ◌++◌, length, drop, sym, refl, ap, ◌∙◌, append_assoc, append-nil, arith, length-append, drop-drop}
use lib.Seq.{drop-append_seam, drop-length}
use Rattle.std.proofs.lemmas.List.{drop_all}

-- the bytes of l stand from `at` up to end
pub record Spans (bs : List ℕ) (at : ℕ) (l : List ℕ) (end : ℕ) : Type 0 where
  pub stand : drop at bs ≡ l ++ drop end bs
  pub long : end ≡ at + length l

module _ (bs : List ℕ) where
  pub spans_none : (at : ℕ) → Spans bs at [] at
  spans_none at = record { stand = refl; long = omega arith }

  -- an empty span ends where it begins
  pub none_spans : {at end : ℕ} → Spans bs at [] end → at ≡ end
  none_spans p = omega (arith, p.long)

  pub spans_join : {l m : List ℕ} {at mid end : ℕ} → Spans bs at l mid → Spans bs mid m end → Spans bs at (l ++ m) end
  spans_join {l} {m} {at} {mid} {end} p q =
      record {
        stand = p.stand ∙ ap (λ (r : List ℕ). l ++ r) q.stand ∙ sym (append_assoc l m (drop end bs));
        long = omega (arith, p.long, q.long, length-append l m);
      }

  -- what follows l at the front
  after_front : (l rest : List ℕ) (at : ℕ) → drop at bs ≡ l ++ rest → drop (at + length l) bs ≡ rest
  after_front l rest at e = sym (drop-drop (length l) at bs) ∙ ap (drop (length l)) e ∙ drop-append_seam l rest

  pub spans_front : (l rest : List ℕ) (at : ℕ) → drop at bs ≡ l ++ rest → Spans bs at l (at + length l)
  spans_front l rest at e = record { stand = e ∙ ap (λ (r : List ℕ). l ++ r) (sym (after_front l rest at e)); long = refl }

  pub spans_split : (l m : List ℕ) {at end : ℕ} → Spans bs at (l ++ m) end → Spans bs at l (at + length l) × Spans bs (at + length l) m end
  spans_split l m {at} {end} p =
      let e : drop at bs ≡ l ++ (m ++ drop end bs) = p.stand ∙ append_assoc l m (drop end bs) in (
        spans_front l (m ++ drop end bs) at e,
        record { stand = after_front l (m ++ drop end bs) at e; long = omega (arith, p.long, length-append l m) },
      )

  -- bytes from the first to the last are all of them
  pub spans_whole : (l : List ℕ) (end : ℕ) → length bs ≤ end → Spans bs 0 l end → bs ≡ l
  spans_whole l end h p = p.stand ∙ ap (λ (r : List ℕ). l ++ r) (drop_all end bs h) ∙ append-nil l

  pub whole_spans : Spans bs 0 bs (length bs)
  whole_spans = record { stand = sym (ap (λ (r : List ℕ). bs ++ r) (drop-length bs) ∙ append-nil bs); long = omega arith }
