-- A transaction's lines in a table: read lines first, write lines last, and what they read. Assumes nothing.
use Rattle.std.proofs.Common.{◌≡◌, ℕ, ◌+◌, ◌-◌, ◌<◌, ◌≤◌, Bool, true, List, [], ◌∷◌, ◌++◌, length, get_or, take, drop, sym, refl, ap, ◌∙◌, subst, append_assoc, append-nil, arith}
use Rattle.std.specs.List.{All, AllByRecursion}
use Rattle.std.proofs.lemmas.List.{length-map, length-append, length_push, get_or_append_left, get_or-append_right, get_or-take, take-take, take_at, drop_at}
use Rattle.std.proofs.lemmas.List.Elements.{All-head, All-tail, All-get_or, All-from_get_or, All-append}
use Rattle.transaction.specs.declared.statement.Operand.TheVariants.{Field, State}
use Rattle.transaction.specs.declared.statement.Statement.{Statement}
use Rattle.lines.specs.declared.line.Source.{Source}
use Rattle.lines.specs.declared.line.Line.{Line}
use Rattle.lines.specs.declared.line.Line.TheVariants.{Read}
use Rattle.lines.specs.Named.{named_of, states_from, amount}
use Rattle.lines.specs.Build.{Draft, read_lines, write_line, write_lines, start, body_of, lines_of, finals_of, updates_of}
use Rattle.lines.specs.Layout.{sources_of, is_plain, Ordered, ReadsBelow, Below, Plain}
use Rattle.lines.proofs.Sources.{Under, under_is, all_up, all_from, all_is, ordered_push}
use Rattle.lines.proofs.Order.{Low, all_low}
use Rattle.lines.proofs.Places.{mapped, states_long, reads_long, start_low}

-- what holds of a transaction's lines
pub record Laid (N : List Bool) (table : List Line) (count : ℕ) (finals updates : List Source) : Type 0 where
  pub room : amount N + amount N ≤ count
  pub reads_first : take (amount N) table ≡ read_lines N
  pub writes_last : drop (count - amount N) (take count table) ≡ write_lines N updates
  pub plain : Plain (amount N) (count - amount N) table
  pub ordered : Ordered (take count table)
  pub lines_below : ReadsBelow (count - amount N) (take count table)
  pub finals_below : Below (count - amount N) finals
  pub updates_below : Below (count - amount N) updates

abbrev Reading : ℕ → Line → Type 0
Reading n l = AllByRecursion (Under n) (sources_of l)

ordered_more : (ls ms : List Line) (w : ℕ) → w ≤ length ls → Ordered ls → All (Reading w) ms → Ordered (ls ++ ms)
ordered_more ls [] w h o u = subst Ordered (sym (append-nil ls)) o
ordered_more ls (m ∷ ms) w h o u =
    subst Ordered (append_assoc ls (m ∷ []) ms)
    (ordered_more (ls ++ (m ∷ [])) ms w (omega (arith, length_push ls m)) (ordered_push ls m o (all_up w (length ls) (sources_of m) h (All-head (Reading w) m ms u))) (All-tail (Reading w) m ms u))

module _ (xs : List Statement) where
  abbrev body : Draft
  body = body_of xs

  abbrev writes : List Line
  writes = write_lines (named_of xs) (updates_of xs)

  pub body_low : Low (read_lines (named_of xs)) body
  body_low = all_low (read_lines (named_of xs)) xs (start (named_of xs)) (start_low (named_of xs))

  writes_long : length writes ≡ amount (named_of xs)
  writes_long = length-map (states_from 0 (named_of xs)) (write_line (updates_of xs)) ∙ states_long 0 (named_of xs)

  pub lines_long : length (lines_of xs) ≡ length body.lines + amount (named_of xs)
  lines_long = length-append body.lines writes ∙ ap (λ (n : ℕ). length body.lines + n) writes_long

  abbrev reads_and_rest : body.lines ≡ read_lines (named_of xs) ++ body_low.good.rest
  reads_and_rest = body_low.good.front

  body_long : length body.lines ≡ amount (named_of xs) + length body_low.good.rest
  body_long = ap length reads_and_rest ∙ length-append (read_lines (named_of xs)) body_low.good.rest ∙ ap (λ (n : ℕ). n + length body_low.good.rest) (reads_long (named_of xs))

  writes_under : All (Reading (length body.lines)) writes
  writes_under = mapped (Reading (length body.lines)) (write_line (updates_of xs)) (states_from 0 (named_of xs)) (λ s. (body_low.latest (State s), tt))

  pub all_ordered : Ordered (lines_of xs)
  all_ordered = ordered_more body.lines writes (length body.lines) (omega arith) body_low.good.ordered writes_under

  body_under : All (Reading (length body.lines)) body.lines
  body_under = All-from_get_or (Reading (length body.lines)) body.lines (Read 0) (λ n h. all_from (length body.lines) _ (λ m e. let r : m < n = body_low.good.ordered n m h e in omega arith))

  all_under : ReadsBelow (length body.lines) (lines_of xs)
  all_under n m h e = all_is (length body.lines) _ (All-get_or (Reading (length body.lines)) (lines_of xs) n (Read 0) h (All-append (Reading (length body.lines)) body.lines writes body_under writes_under)) m e

  -- a table that holds them
  module _ (table : List Line) (count : ℕ) (holds : take count table ≡ lines_of xs) (long : count ≡ length (lines_of xs)) where
    pub first_write : count - amount (named_of xs) ≡ length body.lines
    first_write = omega (arith, lines_long)

    room : amount (named_of xs) + amount (named_of xs) ≤ count
    room = omega (arith, lines_long, body_long)

    reads_first : take (amount (named_of xs)) table ≡ read_lines (named_of xs)
    reads_first =
        sym (take-take (amount (named_of xs)) count table (omega (arith, lines_long)))
        ∙ ap (take (amount (named_of xs))) (holds ∙ ap (λ (l : List Line). l ++ writes) reads_and_rest ∙ append_assoc (read_lines (named_of xs)) body_low.good.rest writes)
        ∙ take_at (read_lines (named_of xs)) _ (amount (named_of xs)) (reads_long (named_of xs))

    writes_last : drop (count - amount (named_of xs)) (take count table) ≡ writes
    writes_last = ap (λ (n : ℕ). drop n (take count table)) first_write ∙ ap (drop (length body.lines)) holds ∙ drop_at body.lines writes (length body.lines) refl

    all_plain : Plain (amount (named_of xs)) (count - amount (named_of xs)) table
    all_plain n h k =
        let inside : n < length body.lines = omega (arith, first_write) in
        let e : get_or table n (Read 0) ≡ get_or body_low.good.rest (n - amount (named_of xs)) (Read 0) =
        sym (get_or-take count table n (Read 0) (omega (arith, lines_long))) ∙ ap (λ (l : List Line). get_or l n (Read 0)) holds ∙ get_or_append_left body.lines writes (Read 0) n inside
        ∙ ap (λ (l : List Line). get_or l n (Read 0)) reads_and_rest ∙ get_or-append_right (read_lines (named_of xs)) body_low.good.rest (amount (named_of xs)) n (Read 0) (reads_long (named_of xs)) h in
        ap is_plain e ∙ All-get_or (λ (l : Line). is_plain l ≡ true) body_low.good.rest (n - amount (named_of xs)) (Read 0) (omega (arith, body_long)) body_low.good.plain

    table_ordered : Ordered (take count table)
    table_ordered = subst Ordered (sym holds) all_ordered

    table_below : ReadsBelow (count - amount (named_of xs)) (take count table)
    table_below = subst (λ (n : ℕ). ReadsBelow n (take count table)) (sym first_write) (subst (ReadsBelow (length body.lines)) (sym holds) all_under)

    finals_below : Below (count - amount (named_of xs)) (finals_of xs)
    finals_below i m e = let r : m < length body.lines = under_is (length body.lines) _ (body_low.latest (Field i)) m e in omega (arith, first_write)

    updates_below : Below (count - amount (named_of xs)) (updates_of xs)
    updates_below i m e = let r : m < length body.lines = under_is (length body.lines) _ (body_low.latest (State i)) m e in omega (arith, first_write)

    pub laid : Laid (named_of xs) table count (finals_of xs) (updates_of xs)
    laid =
        record {
          room = room;
          reads_first = reads_first;
          writes_last = writes_last;
          plain = all_plain;
          ordered = table_ordered;
          lines_below = table_below;
          finals_below = finals_below;
          updates_below = updates_below;
        }
