use Rattle.std.proofs.Common.{◌≡◌, ℕ, List, ◌++◌, length, take, drop, vec_items, Ok, Err, Result, sym, refl, ap, ◌∙◌, subst, arith, take_all, rules}
use lib.Seq.{take-append-le}
use Rattle.std.specs.Vec.{with_items}
use Rattle.std.specs.Result.{IsOkAnd, MatchResult, result_map_both}
use Rattle.image.specs.Reading.{Answer}
use Rattle.book.specs.Calls as book
use Rattle.resolving.specs.declared.packet.Packet.{Packet}
use Rattle.machine.specs.declared.fault.MachineFault.{MachineFault}
use Rattle.machine.specs.declared.machine.Machine.{Machine}
use Rattle.machine.specs.Faults.{answered}
use Rattle.machine.specs.Did.{Did, Spared}
use Rattle.calls.specs.declared.call.Call.{Call}
use Rattle.calls.specs.declared.call.Call.TheVariants.{Take, Peek}
use Rattle.calls.specs.declared.call.Reply.{Reply}
use Rattle.calls.specs.declared.call.Reply.TheVariants.{Done, Shown}
use Rattle.calls.specs.Asking.{call_of, outcome_of, answer_of, buffer, Spares}
use Rattle.calls.proofs.run.ask.Goals as goal

whole : (n : ℕ) (o t : List ℕ) → length o ≡ n → take n (o ++ t) ≡ o
whole n o t e = take-append-le n o t (omega arith) ∙ take_all n o (omega arith)

-- what was done, under other names of the call and the answer
renamed : (plus minus : ℕ → ℕ → ℕ) (ran : List ℕ → ℕ → Packet → ℕ) {A : Type 0} (k k' : book.Call) (a a' : Answer book.Outcome) (m m' : Machine A) → k' ≡ k → a' ≡ a → Did plus minus ran k a m m' → Did plus minus ran k' a' m m'
renamed plus minus ran k k' a a' m m' ek ea d =
    subst (λ (x : book.Call). Did plus minus ran x a' m m') (sym ek) (subst (λ (x : Answer book.Outcome). Did plus minus ran k x m m') (sym ea) d)

-- a call's result, mapped to a reply
module _ {X : Type 0} (h : X → Reply) where
  mapped : {P : X → Reply → Type 0} → ((x : X) (v : Reply) → P x v → v ≡ h x) → (r : Result X MachineFault) (y : Result Reply MachineFault) → MatchResult r (λ x. IsOkAnd y (P x)) (λ f. y ≡ Err f) → y ≡ result_map_both h (λ f. f) r
  mapped each (Ok x) (Ok v) m = ap Ok (each x v m)
  mapped each (Ok x) (Err f) m = absurd m
  mapped each (Err f) y m = m

  answers : (call : Call) (r : Result X MachineFault) → answer_of call (result_map_both h (λ f. f) r) ≡ answered (λ x. outcome_of call (h x)) r
  answers call (Ok x) = refl
  answers call (Err f) = refl

  spares : (r : Result X MachineFault) (before after : Call) → Spared r (buffer before) (buffer after) → Spares (result_map_both h (λ f. f) r) before after
  spares (Ok x) before after s = tt
  spares (Err f) before after s = s

pub returns-in-Take : goal.returns-in-Take
returns-in-Take g c =
    let v = c.in-Take.out in
    let o = c.take.new.out in
    let r = c.take.result in
    let y = c.map-asked-in-Take.result in
    let before : Call = Take v in
    let after : Call = Take (with_items v o) in
    let told : y ≡ result_map_both (λ _. Done) (λ f. f) r = mapped (λ _. Done) (λ u v p. search rules) r y c.map-asked-in-Take.ensures.cases in
    let long : length o ≡ v.len = search rules in
    let filled : vec_items (with_items v o) ≡ o = whole v.len o (drop (length o) v.items) long in
    let long' : length o ≡ length (vec_items v) = search rules in
    let was : c.deref_mut.result.now ≡ vec_items v = c.deref_mut.ensures.value in
    record {
      did =
          renamed g.A.Arith.Arithmetic.plus g.A.Arith.Arithmetic.minus g.A.Atom.ran (book.Call.Take (length c.deref_mut.result.now)) (call_of c.args.asked.now.call) (answered (λ _. book.Outcome.packet o) r) (answer_of after y) c.args.machine.now c.take.new.self
          (ap {B = book.Call} call_of c.in-Take.is ∙ ap {B = book.Call} (λ (l : List ℕ). book.Call.Take (length l)) (sym was))
          (ap {B = Answer book.Outcome} (answer_of after) told ∙ answers (λ _. Done) after r ∙ ap {B = Answer book.Outcome} (λ (l : List ℕ). answered (λ _. book.Outcome.packet l) r) filled)
          c.take.ensures.did;
      call = ap {B = book.Call} (λ (l : List ℕ). book.Call.Take (length l)) filled ∙ ap {B = book.Call} book.Call.Take long' ∙ sym (ap {B = book.Call} call_of c.in-Take.is);
      spares =
          subst (λ (k : Call). Spares y k after) (sym c.in-Take.is)
          (subst (λ (q : Result Reply MachineFault). Spares q before after) (sym told)
          (spares (λ _. Done) r before after (subst (λ (l : List ℕ). Spared r (vec_items v) l) (sym filled) (subst (λ (l : List ℕ). Spared r l o) was c.take.ensures.spared))));
    }

spares_peek : (y : Result Reply MachineFault) (s : ℕ) → Spares y (Peek s) (Peek s)
spares_peek (Ok v) s = tt
spares_peek (Err f) s = refl

pub returns-in-Peek : goal.returns-in-Peek
returns-in-Peek g c =
    let s = c.in-Peek.s in
    let r = c.peek.result in
    let y = c.map-asked-in-Peek.result in
    let shown : ℕ × ℕ → Reply = λ p. Shown p.0 p.1 in
    let told : y ≡ result_map_both shown (λ f. f) r = mapped shown (λ p v q. search rules) r y c.map-asked-in-Peek.ensures.cases in
    record {
      did =
          renamed g.A.Arith.Arithmetic.plus g.A.Arith.Arithmetic.minus g.A.Atom.ran (book.Call.Peek s) (call_of c.args.asked.now.call) (answered (λ p. book.Outcome.word p.0 p.1) r) (answer_of (Peek s) y) c.args.machine.now c.args.machine.now (ap {B = book.Call} call_of c.in-Peek.is) (ap {B = Answer book.Outcome} (answer_of (Peek s)) told ∙ answers shown (Peek s) r) c.peek.ensures;
      call = sym (ap {B = book.Call} call_of c.in-Peek.is);
      spares = subst (λ (k : Call). Spares y k (Peek s)) (sym c.in-Peek.is) (spares_peek y s);
    }
