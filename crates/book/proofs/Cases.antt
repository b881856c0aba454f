-- How the book decides on a call: it is refused, or what it asks for is there. Assumes nothing.
use Rattle.std.proofs.Common.{◌≡◌, ℕ, ◌<◌, Bool, true, false, not, eqb, ltb, List, length, get_or, is_some, Some, None, Option, unwrap_or, refl, ltb-true, eqb-true}
use Rattle.transaction.specs.declared.refusal.Refusal.{Refusal}
use Rattle.transaction.specs.Faults.{refusal}
use Rattle.word.specs.Words.{top}
use Rattle.meaning.specs.Serial.{Values}
use Rattle.image.specs.Reading.{Answer}
use Rattle.image.specs.Reading.Answer.{good, bad}
use Rattle.book.specs.Run.{words_after, leaving}
use Rattle.book.specs.Calls.{Call, Outcome, refused_if, ticking}
use Rattle.book.specs.Calls.Call.{Feed, Tick, Take, Peek}
use Rattle.book.specs.Calls.Outcome.{done, packet, word}
use Rattle.book.specs.Book.{Shape, Packet, fed, standing, reached, answer}

module _ (shape : Shape) (one : Values → Values) where
  pub data Decided (b : List Packet) : Call → Answer Outcome → Type 0 where
    refused : {c : Call} {r : Refusal} → Decided b c (bad r)
    feeds : {fs : List ℕ} → length fs ≡ shape.width → is_some (standing 0 b) ≡ false → Decided b (Feed fs) (good done)
    ticks : is_some (standing shape.depth b) ≡ false → Decided b Tick (good done)
    takes : {n : ℕ} (i : ℕ) → standing shape.depth b ≡ Some i → Decided b (Take n) (good (packet (leaving one shape.states i (fed b))))
    peeks : {s : ℕ} → s < shape.states → Decided b (Peek s) (good (word (get_or (words_after one shape.states (reached (shape.stage s) b) (fed b)) s 0) (reached (shape.stage s) b)))

  pub decided : (c : Call) (b : List Packet) → Decided b c (answer shape one c b)
  decided (Feed fs) b = go (eqb (length fs) shape.width) refl (eqb (length b) top) (is_some (standing 0 b)) refl
    where
      go : (x : Bool) → eqb (length fs) shape.width ≡ x → (y z : Bool) → is_some (standing 0 b) ≡ z → Decided b (Feed fs) (refused_if (not x) (refusal 11 (length fs)) (refused_if y (refusal 13 0) (refused_if z (refusal 12 0) (good done))))
      go false e y z h = refused
      go true e true z h = refused
      go true e false true h = refused
      go true e false false h = feeds (eqb-true (length fs) shape.width e) h
  decided Tick b = go (is_some (standing shape.depth b)) refl
    where
      go : (z : Bool) → is_some (standing shape.depth b) ≡ z → Decided b Tick (ticking shape.depth z)
      go true h = refused
      go false h = ticks h
  decided (Take n) b = go (eqb n shape.width) (standing shape.depth b) refl
    where
      go : (x : Bool) (o : Option ℕ) → standing shape.depth b ≡ o → Decided b (Take n) (refused_if (not x) (refusal 11 n) (refused_if (not (is_some o)) (refusal 15 shape.depth) (good (packet (leaving one shape.states (unwrap_or o 0) (fed b))))))
      go false o h = refused
      go true None h = refused
      go true (Some i) h = takes i h
  decided (Peek s) b = go (ltb s shape.states) refl
    where
      go : (x : Bool) → ltb s shape.states ≡ x → Decided b (Peek s) (refused_if (not x) (refusal 16 s) (good (word (get_or (words_after one shape.states (reached (shape.stage s) b) (fed b)) s 0) (reached (shape.stage s) b))))
      go false e = refused
      go true e = peeks (ltb-true s shape.states e)
