-- What stands at a number, and that what a node reads a node makes. Assumes nothing.
use Rattle.std.proofs.Common.{◌≡◌, ℕ, ◌+◌, ◌<◌, ◌≤◌, Bool, true, false, cond, not, ltb, ◌⊎◌, List, get_or, is_some, Some, None, Option, sym, refl, ap, ◌∙◌, subst, ap₂, inl, inr, ⊎_elim, arith}
use Rattle.std.proofs.lemmas.Bool.{both_ways, false_from_ne_true, cases_Bool, and_parts, and_from, not-true, not_from_false, lt-ltb, le-ltb, ltb-true}
use Rattle.graph.proofs.Paths.{path_to, path_then}
use Rattle.graph.proofs.Rounds.{some_decides}
use Rattle.lines.specs.declared.line.Line.{Line}
use Rattle.lines.specs.declared.line.Line.TheVariants.{Read, Copy, Add, Sub, Less, Equal, Choose, Write}
use Rattle.lines.specs.declared.lines.Lines.{Lines}
use Rattle.lines.specs.Layout.{reads_line, is_plain}
use Rattle.line_graph.specs.Edges.{line_at, read_by, edge}
use Rattle.codelets.specs.Codelets.{is_named, read_of, InCodelet, in_codelet}
use Rattle.codelets.specs.Inner.{owned, inner}
use Rattle.echoes.specs.Echoes.{echo, Echo as IsEcho, parts, serves}
use Rattle.codelets.proofs.Paths.{codelet_decides, named_below}
use Rattle.echoes.proofs.Least.{inner_below, echo_inner, echo_decides}
use Rattle.codelets.proofs.InOrder.{lower, unread, read_line, unwritten}
use Rattle.codelets.proofs.Joining.{joined, read_of_lem}
use Rattle.stages.specs.declared.node.Node.{Node}
use Rattle.stages.specs.declared.node.Node.TheVariants.{Line as Outside, Echo, Atom}
use Rattle.rows.specs.Sorts.{is_read, owned_sort, sort_of, is_node, Sorted, SortsStand}
use Rattle.rows.specs.Makers.{read_inside, reads_as, makes, Reads, line as by_line, echo as by_echo, atom as by_atom, Made, MakersStand}
use Rattle.rows.specs.Rows.{row_of, Ranked, RowsStand}
use Rattle.rows.specs.Passes.{row_at}
use Rattle.rows.specs.Placed.{Placed}
use Rattle.rows.proofs.Highest.{highest_same}
use Rattle.rows.proofs.Ranks.{rule_all, rule_only, rule_lower, row_first, row_last}

-- the four tests behind a sort
abbrev sort : Bool → Bool → Bool → Bool → Option Node
sort a b c d = cond a (cond b (cond c (Some Atom) (cond d (Some Echo) None)) (Some Outside)) None

pub sort_past : (r : Lines) (n : ℕ) → r.count ≤ n → sort_of r n ≡ None
sort_past r n h = ap (λ a. cond a (cond (owned r n) (owned_sort r n) (Some Outside)) None) (le-ltb n r.count h)

line_tests : (a b c d : Bool) → sort a b c d ≡ Some Outside → (a ≡ true) × (b ≡ false)
line_tests false b c d e = absurd cc
line_tests true false c d e = (refl, refl)
line_tests true true true d e = absurd cc
line_tests true true false true e = absurd cc
line_tests true true false false e = absurd cc

echo_tests : (a b c d : Bool) → sort a b c d ≡ Some Echo → (c ≡ false) × (d ≡ true)
echo_tests false b c d e = absurd cc
echo_tests true false c d e = absurd cc
echo_tests true true true d e = absurd cc
echo_tests true true false true e = (refl, refl)
echo_tests true true false false e = absurd cc

atom_tests : (a b c d : Bool) → sort a b c d ≡ Some Atom → (a ≡ true) × (c ≡ true)
atom_tests false b c d e = absurd cc
atom_tests true false c d e = absurd cc
atom_tests true true true d e = (refl, refl)
atom_tests true true false true e = absurd cc
atom_tests true true false false e = absurd cc

node_below : (a b c d : Bool) → is_some (sort a b c d) ≡ true → a ≡ true
node_below false b c d e = absurd cc
node_below true b c d e = refl

some_sort : (x : Option Node) → is_some x ≡ true → (x ≡ Some Outside) ⊎ ((x ≡ Some Echo) ⊎ (x ≡ Some Atom))
some_sort None e = absurd (both_ways _ refl e)
some_sort (Some Outside) e = inl refl
some_sort (Some Echo) e = inr (inl refl)
some_sort (Some Atom) e = inr (inr refl)

read_plain : (l : Line) → is_plain l ≡ true → is_read l ≡ false
read_plain (Read s) e = absurd (both_ways _ refl e)
read_plain (Copy a) e = refl
read_plain (Add a b) e = refl
read_plain (Sub a b) e = refl
read_plain (Less a b) e = refl
read_plain (Equal a b) e = refl
read_plain (Choose c a b) e = refl
read_plain (Write s a) e = refl

read_state : (l : Line) → is_read l ≡ true → (s : ℕ) × (l ≡ Read s)
read_state (Read s) e = (s, refl)
read_state (Copy a) e = absurd (both_ways _ refl e)
read_state (Add a b) e = absurd (both_ways _ refl e)
read_state (Sub a b) e = absurd (both_ways _ refl e)
read_state (Less a b) e = absurd (both_ways _ refl e)
read_state (Equal a b) e = absurd (both_ways _ refl e)
read_state (Choose c a b) e = absurd (both_ways _ refl e)
read_state (Write s a) e = absurd (both_ways _ refl e)

pub unread_line : (l : Line) → ((s : ℕ) → l ≡ Read s → ⊥) → is_read l ≡ false
unread_line l h = false_from_ne_true (is_read l) (λ e. let (s, q) = read_state l e in h s q)

pub as_line : (r : Lines) (m : ℕ) (l : Line) → is_read l ≡ false → reads_as r m l ≡ reads_line m l
as_line r m (Read s) e = absurd (both_ways _ e refl)
as_line r m (Copy a) e = refl
as_line r m (Add a b) e = refl
as_line r m (Sub a b) e = refl
as_line r m (Less a b) e = refl
as_line r m (Equal a b) e = refl
as_line r m (Choose c a b) e = refl
as_line r m (Write s a) e = refl

module _ (r : Lines) where
  owned_by : (s n : ℕ) → InCodelet r s n → owned r n ≡ true
  owned_by s n i = (some_decides (λ s. in_codelet r s n) 8).1 (s, named_below r s i.named, (codelet_decides r s n).1 i)

  module _ (n : ℕ) where
    line_sort : n < r.count → owned r n ≡ false → sort_of r n ≡ Some Outside
    line_sort h o = ap₂ (λ a b. cond a (cond b (owned_sort r n) (Some Outside)) None) (lt-ltb n r.count h) o

    line_of : sort_of r n ≡ Some Outside → (n < r.count) × (owned r n ≡ false)
    line_of e = let (a, b) = line_tests (ltb n r.count) (owned r n) (is_read (line_at r n)) (echo r n) e in (ltb-true n r.count a, b)

    echo_sort : IsEcho r n → sort_of r n ≡ Some Echo
    echo_sort x =
        let i = echo_inner r x in
        let (o, p) = and_parts (owned r n) _ i in
        ap₂ (λ a b. cond a (cond b (owned_sort r n) (Some Outside)) None) (lt-ltb n r.count (inner_below r n i)) o
        ∙ ap₂ (λ c d. cond c (Some Atom) (cond d (Some Echo) None)) (read_plain (line_at r n) p) ((echo_decides r n).1 x)

    echo_of : sort_of r n ≡ Some Echo → IsEcho r n
    echo_of e = (echo_decides r n).0 (echo_tests (ltb n r.count) (owned r n) (is_read (line_at r n)) (echo r n) e).1

    atom_sort : (s : ℕ) → is_named r s ≡ true → read_of r s ≡ n → sort_of r n ≡ Some Atom
    atom_sort s k q =
        let j = joined r s k in
        ap₂ (λ a b. cond a (cond b (owned_sort r n) (Some Outside)) None) (lt-ltb n r.count (subst (λ m. m < r.count) q j.first)) (owned_by s n (subst (λ m. InCodelet r s m) q j.read))
        ∙ ap (λ c. cond c (Some Atom) (cond (echo r n) (Some Echo) None)) (ap (λ m. is_read (line_at r m)) (sym q) ∙ ap is_read (read_line r s k))

    atom_of : sort_of r n ≡ Some Atom → (s : ℕ) × (is_named r s ≡ true) × (read_of r s ≡ n)
    atom_of e =
        let (a, c) = atom_tests (ltb n r.count) (owned r n) (is_read (line_at r n)) (echo r n) e in
        let (s, q) = read_state (line_at r n) c in
        let (k, p) = read_of_lem r s n (ltb-true n r.count a) q in
        (s, k, p)

    pub sorted : Sorted r n
    sorted = record { line = (λ (h, o). line_sort h o, line_of); echo = (echo_sort, echo_of); atom = (atom_sort, atom_of) }

    pub node_is_line : is_node r n ≡ true → n < r.count
    node_is_line e = ltb-true n r.count (node_below (ltb n r.count) (owned r n) (is_read (line_at r n)) (echo r n) e)

    -- an outside line is no read line
    outside_unread : sort_of r n ≡ Some Outside → is_read (line_at r n) ≡ false
    outside_unread e =
        let (h, o) = line_of e in
        false_from_ne_true (is_read (line_at r n)) (λ c. let (s, q) = read_state (line_at r n) c in let (k, p) = read_of_lem r s n h q in both_ways _ o (owned_by s n (subst (λ m. InCodelet r s m) p (joined r s k).read)))

    echo_unread : sort_of r n ≡ Some Echo → is_read (line_at r n) ≡ false
    echo_unread e = (echo_tests (ltb n r.count) (owned r n) (is_read (line_at r n)) (echo r n) e).0

    module _ (m : ℕ) where
      told : is_node r n ≡ true → makes r m n ≡ true → Reads r m n
      told o e =
          ⊎_elim (λ q. by_line m n q (sym (as_line r m (line_at r n) (outside_unread q)) ∙ e))
          (λ t. ⊎_elim (λ q. by_echo m n q (sym (as_line r m (line_at r n) (echo_unread q)) ∙ e)) atoms t)
          (some_sort (sort_of r n) o)
        where
          atoms : sort_of r n ≡ Some Atom → Reads r m n
          atoms q =
              let (s, k, p) = atom_of q in
              let a = sym (ap (reads_as r m) (ap (line_at r) (sym p) ∙ read_line r s k)) ∙ e in
              let (f, t) = and_parts (not (in_codelet r s m)) _ a in
              let (i, hi, u) = (some_decides (read_inside r s m) r.count).0 t in
              let (c, x) = and_parts (in_codelet r s i) _ u in
              by_atom m n s i k p ((codelet_decides r s i).0 c) x (λ d. both_ways _ (not-true _ f) ((codelet_decides r s m).1 d))

  asked : {m n : ℕ} → Reads r m n → (is_node r n ≡ true) × (makes r m n ≡ true)
  asked (by_line m n q e) = (ap is_some q, as_line r m (line_at r n) (outside_unread n q) ∙ e)
  asked (by_echo m n q e) = (ap is_some q, as_line r m (line_at r n) (echo_unread n q) ∙ e)
  asked (by_atom m n s i k p c x d) = (
    ap is_some (atom_sort n s k p),
    ap (reads_as r m) (ap (line_at r) (sym p) ∙ read_line r s k) ∙ and_from _ _ (not_from_false _ (false_from_ne_true (in_codelet r s m) (λ e. d ((codelet_decides r s m).0 e)))) ((some_decides (read_inside r s m) r.count).1 (i, path_to r.count (edge r) c.from, and_from _ _ ((codelet_decides r s i).1 c) x)),
  )

  -- a line that is read from outside its codelet, or by an echo, is a node
  read_node : (m i : ℕ) → i < r.count → read_by r m i ≡ true → ((s : ℕ) → in_codelet r s m ≡ true → in_codelet r s i ≡ false) ⊎ IsEcho r i → is_node r m ≡ true
  read_node m i hi x why =
      ⊎_elim (λ (s, k, q). ap is_some (atom_sort m s k q)) plain (unwritten r m (unread r m i hi x))
    where
      hm : m < r.count
      hm = let lt = lower r m i hi x in omega arith

      plain : is_plain (line_at r m) ≡ true → is_node r m ≡ true
      plain p = ⊎_elim inside (λ o. ap is_some (line_sort m hm o)) (cases_Bool (owned r m))
        where
          inside : owned r m ≡ true → is_node r m ≡ true
          inside o =
              let n : inner r m ≡ true = and_from _ _ o p in
              let (s, h, c) = (some_decides (λ s. in_codelet r s m) 8).0 o in
              ap is_some (echo_sort m (⊎_elim (λ f. parts m i s n c hi x (f s c)) (λ e. serves m i n x e) why))

  maker : {m n : ℕ} → Reads r m n → is_node r m ≡ true
  maker (by_line m n q e) =
      let (h, o) = line_of n q in
      read_node m n h e (inl (λ s _. false_from_ne_true (in_codelet r s n) (λ c. both_ways _ o ((some_decides (λ s. in_codelet r s n) 8).1 (s, named_below r s (and_parts (is_named r s) _ c).0, c)))))
  maker (by_echo m n q e) = let x = echo_of n q in read_node m n (inner_below r n (echo_inner r x)) e (inr x)
  maker (by_atom m n s i k p c x d) =
      read_node m i (path_to r.count (edge r) c.from) x (inl (λ t a. false_from_ne_true (in_codelet r t i) (λ b. let ta = (codelet_decides r t m).0 a in let tb = (codelet_decides r t i).0 b in d (record { named = k; from = path_then r.count (edge r) c.from (path_then r.count (edge r) tb.back ta.from); back = path_then r.count (edge r) ta.back (path_then r.count (edge r) tb.from c.back) }))))

  pub made : (m n : ℕ) → Made r m n
  made m n = record { reads = (λ e. let (o, t) = and_parts (is_node r n) _ e in told n m o t, λ x. let (o, t) = asked x in and_from _ _ o t); maker = maker }

  pub ranked : Ranked r
  ranked = record {
    rule = λ n o. rule_all r n (node_is_line n o);
    only = λ f rule n o. rule_only r (is_node r) node_is_line (λ m n _ o e. maker (told n m o e)) f rule n o;
    lower = λ m n x. let o = maker x in let (p, e) = asked x in (o, rule_lower r m n (node_is_line m o) (node_is_line n p) e);
    first = λ n o. row_first r n (node_is_line n o);
    last = λ n o. row_last r n (node_is_line n o);
  }

-- tables that hold the definition's sorts and rows
pub placed : (r : Lines) (table : List (Option Node)) (rows : List ℕ) → ((n : ℕ) → get_or table n None ≡ sort_of r n) → ((n : ℕ) → n < r.count → get_or rows n 0 ≡ row_of r n) → Placed r table rows
placed r table rows s h = record {
  nodes = s;
  rule = λ n o. let lt = node n o in h n lt ∙ (rule_all r n lt ∙ ap (λ x. 1 + x) (highest_same r.count (λ m. makes r m n) (row_of r) (row_at rows) (λ m hm _. sym (h m hm))));
  lower = λ m n x. let (o, p) = asked r x in let q = maker r x in let lt = rule_lower r m n (node_is_line r m q) (node_is_line r n o) p in (ap is_some (s m) ∙ q, omega (arith, h m (node_is_line r m q), h n (node_is_line r n o)));
  first = λ n o. omega (arith, h n (node n o), row_first r n (node n o));
  last = λ n o. omega (arith, h n (node n o), row_last r n (node n o));
}
  where
    node : (n : ℕ) → is_some (get_or table n None) ≡ true → n < r.count
    node n o = node_is_line r n (sym (ap is_some (s n)) ∙ o)

pub sorts_stand : SortsStand
sorts_stand = sorted

pub makers_stand : MakersStand
makers_stand = made

pub rows_stand : RowsStand
rows_stand = ranked
