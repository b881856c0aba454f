-- The tables of the examples. Assumes nothing.
use Rattle.std.proofs.Common.{Bool, true, false, List, [], ◌∷◌, replicate, refl, lit≤}
use Rattle.transaction.specs.declared.statement.Operand.TheVariants.{Field, State, Constant}
use Rattle.transaction.specs.declared.statement.Target.TheVariants.{Field as ToField, State as ToState}
use Rattle.transaction.specs.declared.statement.Statement.{Statement}
use Rattle.transaction.specs.declared.statement.Statement.TheVariants.{Copy, Add, Sub}
use Rattle.lines.specs.declared.line.Source.{Source}
use Rattle.lines.specs.declared.line.Source.TheVariants.{Field as Incoming, Line as Made, Constant as Fixed}
use Rattle.lines.specs.declared.line.Line.TheVariants.{Read, Sub as LSub, Write}
use Rattle.lines.specs.declared.lines.Lines.{Lines}
use Rattle.lines.specs.Unique.{IsTableOf}
use Rattle.lines.specs.Examples.{sampling}
use Rattle.rows.specs.Samples.{sampling as sampling_list, chained as chained_list, crossed as crossed_list}
use Rattle.worked_examples.proofs.Tables.{MadeOf, Told, tabled, tabled_exactly}

abbrev pub one_state : List Bool
one_state = true ∷ (false ∷ (false ∷ (false ∷ (false ∷ (false ∷ (false ∷ (false ∷ [])))))))

abbrev pub two_states : List Bool
two_states = true ∷ (true ∷ (false ∷ (false ∷ (false ∷ (false ∷ (false ∷ (false ∷ [])))))))

-- the incoming fields from field 2 on
abbrev pub rest : List Source
rest =
    Incoming 2 ∷ Incoming 3 ∷ Incoming 4 ∷ Incoming 5 ∷ Incoming 6 ∷ Incoming 7 ∷ Incoming 8 ∷ Incoming 9 ∷ Incoming 10 ∷ Incoming 11 ∷ Incoming 12 ∷ Incoming 13 ∷ Incoming 14 ∷ Incoming 15 ∷ []

abbrev pub sampling_made : MadeOf
sampling_made =
    record {
      lines = sampling_list;
      blank = 197;
      count = 11;
      named = one_state;
      finals = Made 7 ∷ (Made 1 ∷ rest);
      updates = Made 9 ∷ replicate 7 (Fixed 0);
      reads = 0 ∷ replicate 7 1;
      writes = 10 ∷ replicate 7 11;
    }

pub sampling_told : Told sampling sampling_made
sampling_told = record { lines = refl; count = refl; taken = refl; few = lit≤ tt; long = refl; named = refl; eight = refl; finals = refl; sixteen = refl; updates = refl; each = refl; reads = refl; writes = refl; first = refl }

abbrev pub sampling_table : Lines
sampling_table = tabled sampling sampling_made sampling_told

pub sampling_exactly : IsTableOf sampling sampling_table
sampling_exactly = tabled_exactly sampling sampling_made sampling_told

abbrev pub chained : List Statement
chained = Add (ToState 0) (State 0) (Constant 1) ∷ Add (ToState 1) (State 1) (State 0) ∷ []

abbrev pub chained_made : MadeOf
chained_made =
    record {
      lines = chained_list;
      blank = 202;
      count = 6;
      named = two_states;
      finals = Incoming 0 ∷ Incoming 1 ∷ rest;
      updates = Made 2 ∷ (Made 3 ∷ replicate 6 (Fixed 0));
      reads = 0 ∷ (1 ∷ replicate 6 2);
      writes = 4 ∷ (5 ∷ replicate 6 6);
    }

pub chained_told : Told chained chained_made
chained_told = record { lines = refl; count = refl; taken = refl; few = lit≤ tt; long = refl; named = refl; eight = refl; finals = refl; sixteen = refl; updates = refl; each = refl; reads = refl; writes = refl; first = refl }

abbrev pub chained_table : Lines
chained_table = tabled chained chained_made chained_told

pub chained_exactly : IsTableOf chained chained_table
chained_exactly = tabled_exactly chained chained_made chained_told

abbrev pub crossed : List Statement
crossed = Copy (ToField 0) (State 0) ∷ Copy (ToState 0) (State 1) ∷ Copy (ToState 1) (Field 0) ∷ []

abbrev pub crossed_made : MadeOf
crossed_made =
    record {
      lines = crossed_list;
      blank = 201;
      count = 7;
      named = two_states;
      finals = Made 2 ∷ Incoming 1 ∷ rest;
      updates = Made 3 ∷ (Made 4 ∷ replicate 6 (Fixed 0));
      reads = 0 ∷ (1 ∷ replicate 6 2);
      writes = 5 ∷ (6 ∷ replicate 6 7);
    }

pub crossed_told : Told crossed crossed_made
crossed_told = record { lines = refl; count = refl; taken = refl; few = lit≤ tt; long = refl; named = refl; eight = refl; finals = refl; sixteen = refl; updates = refl; each = refl; reads = refl; writes = refl; first = refl }

abbrev pub crossed_table : Lines
crossed_table = tabled crossed crossed_made crossed_told

pub crossed_exactly : IsTableOf crossed crossed_table
crossed_exactly = tabled_exactly crossed crossed_made crossed_told

abbrev pub countdown : List Statement
countdown = Sub (ToState 0) (State 0) (Constant 1) ∷ []

abbrev pub countdown_made : MadeOf
countdown_made =
    record {
      lines = Read 0 ∷ LSub (Made 0) (Fixed 1) ∷ Write 0 (Made 1) ∷ [];
      blank = 205;
      count = 3;
      named = one_state;
      finals = Incoming 0 ∷ Incoming 1 ∷ rest;
      updates = Made 1 ∷ replicate 7 (Fixed 0);
      reads = 0 ∷ replicate 7 1;
      writes = 2 ∷ replicate 7 3;
    }

pub countdown_told : Told countdown countdown_made
countdown_told = record { lines = refl; count = refl; taken = refl; few = lit≤ tt; long = refl; named = refl; eight = refl; finals = refl; sixteen = refl; updates = refl; each = refl; reads = refl; writes = refl; first = refl }

abbrev pub countdown_table : Lines
countdown_table = tabled countdown countdown_made countdown_told

pub countdown_exactly : IsTableOf countdown countdown_table
countdown_exactly = tabled_exactly countdown countdown_made countdown_told

abbrev pub nothing : List Statement
nothing = []

abbrev pub nothing_made : MadeOf
nothing_made =
    record {
      lines = [];
      blank = 208;
      count = 0;
      named = replicate 8 false;
      finals = Incoming 0 ∷ Incoming 1 ∷ rest;
      updates = replicate 8 (Fixed 0);
      reads = replicate 8 0;
      writes = replicate 8 0;
    }

pub nothing_told : Told nothing nothing_made
nothing_told = record { lines = refl; count = refl; taken = refl; few = lit≤ tt; long = refl; named = refl; eight = refl; finals = refl; sixteen = refl; updates = refl; each = refl; reads = refl; writes = refl; first = refl }

abbrev pub nothing_table : Lines
nothing_table = tabled nothing nothing_made nothing_told

pub nothing_exactly : IsTableOf nothing nothing_table
nothing_exactly = tabled_exactly nothing nothing_made nothing_told
