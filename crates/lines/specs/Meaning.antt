-- Lines mean what the statements mean. Assumes nothing.
use Rattle.std.specs.Prelude.{◌≡◌, ℕ, ◌<◌, Bool, true, false, cond, List, [], ◌∷◌, map, length, take, slice_index, slice_index_or}
use Rattle.word.specs.Words.{Word}
use Rattle.transaction.specs.declared.statement.Statement.{Statement}
use Rattle.transaction.specs.declared.transaction.Transaction.{Transaction}
use Rattle.transaction.specs.Programs.{statements_of}
use Rattle.meaning.specs.Serial.{Values, values, alone}
use Rattle.lines.specs.declared.line.Source.TheVariants.{Constant as Fixed}
use Rattle.lines.specs.declared.lines.Lines.{Lines}
use Rattle.lines.specs.Work.{value_of, worked, Satisfied}

-- the words that are left: what the write line of a named state takes, and the word of any other as it was
abbrev pub words_left : List ℕ → List Bool → List ℕ → List ℕ → List ℕ
words_left vs ms ns [] = []
words_left vs [] ns (w ∷ ws) = w ∷ ws
words_left vs (m ∷ ms) [] (w ∷ ws) = w ∷ ws
words_left vs (m ∷ ms) (n ∷ ns) (w ∷ ws) = cond m (slice_index vs n) w ∷ words_left vs ms ns ws

module _ (plus minus : ℕ → ℕ → ℕ) (r : Lines) (v : Values) where
  -- the values of the lines, worked out one after another, for a packet that meets these words
  abbrev pub worked_out : List ℕ
  worked_out = worked plus minus v (take r.count r.lines)

  -- what they leave: the final values of the fields, and the words
  abbrev pub lines_leave : Values
  lines_leave = values (map (value_of v.fields worked_out) (take (length v.fields) r.finals)) (words_left worked_out r.named r.writes v.words)

  pub record Means (xs : List Statement) : Type 0 where
    -- the lines leave what the statements leave, run one after another
    pub same : lines_leave ≡ alone plus minus xs v
    -- so a field's final value is what the run leaves in it
    pub fields : (i : ℕ) → i < length v.fields → value_of v.fields worked_out (slice_index_or r.finals i (Fixed 0)) ≡ slice_index (alone plus minus xs v).fields i
    -- what a named state's write line takes is the word that the run leaves
    pub words : (s : ℕ) → slice_index_or r.named s false ≡ true → slice_index worked_out (slice_index r.writes s) ≡ slice_index (alone plus minus xs v).words s
    -- and a state that no statement names keeps its word
    pub unnamed : (s : ℕ) → slice_index_or r.named s false ≡ false → slice_index (alone plus minus xs v).words s ≡ slice_index v.words s

-- under every arithmetic, for every packet with as many fields as the transaction has, which meets as many words as it has states
abbrev pub KeepsMeaning : Transaction → Lines → Type 0
KeepsMeaning t r = (plus minus : ℕ → ℕ → ℕ) (v : Values) → length v.fields ≡ t.fields → length v.words ≡ t.states → Means plus minus r v (statements_of t)

-- under every arithmetic each line has the value that it makes of the values of what it reads, a read line the old word
pub record EachMakes (r : Lines) : Type 0 where
  pub satisfied : (plus minus : ℕ → ℕ → ℕ) (v : Values) → Satisfied plus minus v (take r.count r.lines) (worked_out plus minus r v)
  -- and no other values are so
  pub only : (plus minus : ℕ → ℕ → ℕ) (v : Values) (vs : List ℕ) → Satisfied plus minus v (take r.count r.lines) vs → (n : ℕ) → n < r.count → slice_index vs n ≡ slice_index (worked_out plus minus r v) n

-- where sums and differences of words are words, as in every arithmetic, and all that the packet brings and meets are words, each line's value is a word, and each final value
pub record WordsMade (plus minus : ℕ → ℕ → ℕ) (r : Lines) (v : Values) : Type 0 where
  pub lines : (n : ℕ) → Word (slice_index (worked_out plus minus r v) n)
  pub finals : (i : ℕ) → Word (value_of v.fields (worked_out plus minus r v) (slice_index_or r.finals i (Fixed 0)))

abbrev pub MakesWords : Lines → Type 0
MakesWords r =
    (plus minus : ℕ → ℕ → ℕ) (v : Values) → ((a b : ℕ) → Word a → Word b → Word (plus a b)) → ((a b : ℕ) → Word a → Word b → Word (minus a b)) → ((i : ℕ) → Word (slice_index v.fields i)) → ((s : ℕ) → Word (slice_index v.words s)) → WordsMade plus minus r v
