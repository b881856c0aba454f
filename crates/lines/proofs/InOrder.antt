-- Where the lines of a table stand: what its ghost fields come to. Assumes nothing.
use Rattle.std.proofs.Common.{◌≡◌, ℕ, ◌+◌, ◌<◌, true, false, List, [], ◌++◌, length, get_or, take, sym, ap, ◌∙◌, ap₂, add-zero, zero-add, arith, take-append-drop, length-take-le}
use Rattle.std.proofs.lemmas.List.{get_or-take}
use Rattle.lines.specs.declared.line.Line.{Line}
use Rattle.lines.specs.declared.line.Line.TheVariants.{Read, Write}
use Rattle.lines.specs.declared.line.Source.TheVariants.{Constant as Fixed}
use Rattle.lines.specs.declared.lines.Lines.{Lines}
use Rattle.lines.specs.Named.{amount}
use Rattle.lines.specs.Build.{write_line, numbered}
use Rattle.lines.specs.Layout.{reads_line}
use Rattle.lines.specs.Exact.{first_write, InOrder}
use Rattle.lines.proofs.Places.{number_in, number_moved, number_at}

module _ (r : Lines) where
  abbrev front : List Line
  front = take r.count r.lines

  front_long : length front ≡ r.count
  front_long = length-take-le r.count r.lines (omega (arith, r.few, r.lines_long))

  front_at : (n : ℕ) → n < r.count → get_or front n (Read 0) ≡ get_or r.lines n (Read 0)
  front_at n h = get_or-take r.count r.lines n (Read 0) h

  module _ (s : ℕ) (named : get_or r.named s false ≡ true) where
    read_number : get_or r.reads s 0 ≡ get_or (numbered 0 r.named) s 0
    read_number = ap (λ (l : List ℕ). get_or l s 0) r.reads_at

    write_number : get_or r.writes s 0 ≡ get_or (numbered (first_write r) r.named) s 0
    write_number = ap (λ (l : List ℕ). get_or l s 0) r.writes_at

    first : get_or r.reads s 0 < amount r.named
    first = omega (arith, read_number, (number_in 0 r.named s named).1)

    read : get_or r.lines (get_or r.reads s 0) (Read 0) ≡ Read s
    read =
        sym (get_or-take (amount r.named) r.lines (get_or r.reads s 0) (Read 0) first)
        ∙ ap₂ (λ (l : List Line) (n : ℕ). get_or l n (Read 0)) r.reads_first read_number
        ∙ number_at Read (Read 0) [] 0 r.named s named
        ∙ ap (λ (k : ℕ). Read k) (zero-add s)

    paired : get_or r.writes s 0 ≡ first_write r + get_or r.reads s 0
    paired =
        write_number ∙ ap (λ (n : ℕ). get_or (numbered n r.named) s 0) (sym (add-zero (first_write r))) ∙ number_moved (first_write r) 0 r.named s named
        ∙ ap (λ (n : ℕ). first_write r + n) (sym read_number)

    last : get_or r.writes s 0 < r.count
    last = omega (arith, paired, first, r.room)

    abbrev before : List Line
    before = take (first_write r) front

    before_long : length before ≡ first_write r
    before_long = length-take-le (first_write r) front (omega (arith, front_long))

    write : get_or r.lines (get_or r.writes s 0) (Read 0) ≡ Write s (get_or r.updates s (Fixed 0))
    write =
        sym (front_at (get_or r.writes s 0) last)
        ∙ ap₂ (λ (l : List Line) (n : ℕ). get_or l n (Read 0)) (sym (take-append-drop (first_write r) front) ∙ ap (λ (l : List Line). before ++ l) r.writes_last)
        (write_number ∙ ap (λ (n : ℕ). get_or (numbered n r.named) s 0) (sym before_long))
        ∙ number_at (write_line r.updates) (Read 0) before 0 r.named s named
        ∙ ap (write_line r.updates) (zero-add s)

  pub in_order : InOrder r
  in_order =
      record {
        lower = λ n m h e. r.ordered n m (omega (arith, front_long)) (ap (reads_line m) (front_at n h) ∙ e);
        unread = λ n m h e. r.lines_below n m (omega (arith, front_long)) (ap (reads_line m) (front_at n h) ∙ e);
        finals = r.finals_below;
        updates = r.updates_below;
        first = first;
        read = read;
        paired = paired;
        last = last;
        write = write;
        apart = omega (arith, r.room);
        between = r.plain;
      }
