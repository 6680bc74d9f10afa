-- A roster is read line by line: the rows of its first line, and of those behind it.
use Prim.Native.Nat.{ℕ, zero, suc}
use mathlib.Core.Path.{◌≡◌, refl, ap, ◌∙◌}
use mathlib.Core.Bool.{true, false}
use mathlib.Core.List.{List, [], ◌∷◌}
use mathlib.Core.Option.{Option, none, some, bind, bind-eq-some_iff, some-injective}
use Rattle.lists.proofs.Options.{same-options}
use Rattle.calendar.specs.Text.{day_in}
use Rattle.state.specs.declared.Login.{Login}
use Rattle.roster.specs.Csv.{comma, char, Field, field_in, fields_in, is_end, line_end, lines_in}
use Rattle.roster.specs.Fields.{login_in, rights_in}
use Rattle.roster.specs.Roster.{more_fields, row_in, rows_in}
use Rattle.roster.specs.Code.{separator, separated, line_in}
use Rattle.roster.proofs.Separated.{IsSeparated, separated-to, separated-of}

-- the fields of a line, and the text behind them
abbrev Fields : Type 0
Fields = List (List ℕ) × List ℕ

-- a line at the front of a text: its three fields, what they say, and the text behind it
record IsRow (t : List ℕ) (r : Login) (rest : List ℕ) : Type 0 where
  first : List ℕ
  second : List ℕ
  read1 : IsSeparated login_in (separator false) t (r.login, first)
  read2 : IsSeparated day_in (separator false) first (r.end.0, second)
  read3 : IsSeparated rights_in (separator true) second (r.rights, rest)

-- ---- field by field

line-to : (t : List ℕ) (p : Login × List ℕ) → line_in t ≡ some p → IsRow t p.0 p.1
unfolding line_in
line-to t p e =
    let a = (bind-eq-some_iff (separated login_in (separator false) t) _).0 e in
    let b = (bind-eq-some_iff (separated day_in (separator false) a.0.1) _).0 a.2 in
    let c = (bind-eq-some_iff (separated rights_in (separator true) b.0.1) _).0 b.2 in
    let q = some-injective _ _ c.2 in
    rw (← q) (record {
      first = a.0.1;
      second = b.0.1;
      read1 = separated-to _ _ t a.0 a.1;
      read2 = separated-to _ _ a.0.1 b.0 b.1;
      read3 = separated-to _ _ b.0.1 c.0 c.1;
    })

line-of : (t : List ℕ) (p : Login × List ℕ) → IsRow t p.0 p.1 → line_in t ≡ some p
unfolding line_in bind
line-of t p s = rw (separated-of _ _ t _ s.read1, separated-of _ _ s.first _ s.read2, separated-of _ _ s.second _ s.read3)

-- ---- all fields, and then what they say

record AreFields (t : List ℕ) (fs : Fields) (r : Login) (rest : List ℕ) : Type 0 where
  read : fields_in more_fields t ≡ some fs
  ends : line_end fs.1 ≡ some rest
  says : row_in fs.0 ≡ some r

fields-of : (t : List ℕ) (r : Login) (rest : List ℕ) (s : IsRow t r rest)
    → AreFields t (s.read1.content ∷ s.read2.content ∷ s.read3.content ∷ [], s.read3.rest) r rest
unfolding fields_in bind
fields-of t r rest s = record {
  read = rw (s.read1.read, s.read1.ends, s.read2.read, s.read2.ends, s.read3.read);
  ends = s.read3.ends;
  says = rw (s.read1.valued, s.read2.valued, s.read3.valued);
}

abbrev in_front : List ℕ → Fields → Fields
in_front f fs = (f ∷ fs.0, fs.1)

-- one field, and the others behind its comma
record AreMore (n : ℕ) (t : List ℕ) (fs : Fields) : Type 0 where
  field : Field
  behind : List ℕ
  others : Fields
  read : field_in t ≡ some field
  comma-read : char comma field.1 ≡ some behind
  others-read : fields_in n behind ≡ some others
  joined : in_front field.0 others ≡ fs

more-to : (n : ℕ) (t : List ℕ) (fs : Fields) → fields_in (suc n) t ≡ some fs → AreMore n t fs
unfolding fields_in
more-to n t fs e =
    let a = (bind-eq-some_iff (field_in t) _).0 e in
    let b = (bind-eq-some_iff (char comma a.0.1) _).0 a.2 in
    let c = (bind-eq-some_iff (fields_in n b.0) _).0 b.2 in
    record {
      field = a.0;
      behind = b.0;
      others = c.0;
      read = a.1;
      comma-read = b.1;
      others-read = c.1;
      joined = some-injective _ _ c.2;
    }

record IsOne (t : List ℕ) (fs : Fields) : Type 0 where
  field : Field
  read : field_in t ≡ some field
  joined : (field.0 ∷ [], field.1) ≡ fs

one-to : (t : List ℕ) (fs : Fields) → fields_in 0 t ≡ some fs → IsOne t fs
unfolding fields_in
one-to t fs e = let a = (bind-eq-some_iff (field_in t) _).0 e in record { field = a.0; read = a.1; joined = some-injective _ _ a.2 }

record Says (l e x : List ℕ) (r : Login) : Type 0 where
  login : login_in l ≡ some r.login
  end : day_in e ≡ some r.end.0
  rights : rights_in x ≡ some r.rights

says-to : (l e x : List ℕ) (r : Login) → row_in (l ∷ e ∷ x ∷ []) ≡ some r → Says l e x r
says-to l e x r h =
    let a = (bind-eq-some_iff (login_in l) _).0 h in
    let b = (bind-eq-some_iff (day_in e) _).0 a.2 in
    let c = (bind-eq-some_iff (rights_in x) _).0 b.2 in
    rw (← (some-injective _ _ c.2)) (record { login = a.1; end = b.1; rights = c.1 })

fields-to : (t : List ℕ) (fs : Fields) (r : Login) (rest : List ℕ) → AreFields t fs r rest → IsRow t r rest
fields-to t fs r rest s =
    let a = more-to 1 t fs s.read in
    let b = more-to 0 a.behind a.others a.others-read in
    let c = one-to b.behind b.others b.others-read in
    let joined : (a.field.0 ∷ b.field.0 ∷ c.field.0 ∷ [], c.field.1) ≡ fs =
    ap (in_front a.field.0) (ap (in_front b.field.0) c.joined ∙ b.joined) ∙ a.joined in
    let says = says-to a.field.0 b.field.0 c.field.0 r (rw (← joined) at s.says) in
    record {
      first = a.behind;
      second = b.behind;
      read1 = record { content = a.field.0; rest = a.field.1; read = a.read; valued = says.login; ends = a.comma-read };
      read2 = record { content = b.field.0; rest = b.field.1; read = b.read; valued = says.end; ends = b.comma-read };
      read3 = record { content = c.field.0; rest = c.field.1; read = c.read; valued = says.rights; ends = rw (← joined) at s.ends };
    }

-- ---- a line and the lines behind it

-- what at most so many lines say
abbrev pub rows_of : ℕ → List ℕ → Option (List Login)
rows_of most text = bind (lines_in most more_fields text) rows_in

-- what the rows of a line and of those behind it say
abbrev pub turn_of : ℕ → Login × List ℕ → Option (List Login)
turn_of most l = bind (rows_of most l.1) (λ rs. some (l.0 ∷ rs))

abbrev Lines : Type 0
Lines = List (List (List ℕ))

-- the lines behind the first
record AreBehind (most : ℕ) (t : List ℕ) (ls : Lines) : Type 0 where
  fs : Fields
  rest : List ℕ
  others : Lines
  read : fields_in more_fields t ≡ some fs
  ends : line_end fs.1 ≡ some rest
  others-read : lines_in most more_fields rest ≡ some others
  joined : fs.0 ∷ others ≡ ls

behind-to : (most : ℕ) (t : List ℕ) (ls : Lines) → is_end t ≡ false → lines_in (suc most) more_fields t ≡ some ls → AreBehind most t ls
unfolding lines_in
behind-to most t ls n e =
    let a = (bind-eq-some_iff (fields_in more_fields t) _).0 (rw n at e) in
    let b = (bind-eq-some_iff (line_end a.0.1) _).0 a.2 in
    let c = (bind-eq-some_iff (lines_in most more_fields b.0) _).0 b.2 in
    record {
      fs = a.0;
      rest = b.0;
      others = c.0;
      read = a.1;
      ends = b.1;
      others-read = c.1;
      joined = some-injective _ _ c.2;
    }

joined-turn : (most : ℕ) (t : List ℕ) (row : Login) (rest : List ℕ) (ls : Lines) (rs all : List Login) → line_in t ≡ some (row, rest)
    → lines_in most more_fields rest ≡ some ls → rows_in ls ≡ some rs → some (row ∷ rs) ≡ some all → bind (line_in t) (turn_of most) ≡ some all
unfolding bind
joined-turn most t row rest ls rs all a b c d = rw (a, b, c) d

turn-to : (most : ℕ) (t : List ℕ) (rs : List Login) → is_end t ≡ false → rows_of (suc most) t ≡ some rs → bind (line_in t) (turn_of most) ≡ some rs
unfolding rows_in
turn-to most t rs n e =
    let a = (bind-eq-some_iff (lines_in (suc most) more_fields t) _).0 e in
    let b = behind-to most t a.0 n a.1 in
    let says : rows_in (b.fs.0 ∷ b.others) ≡ some rs = rw (← b.joined) at a.2 in
    let c = (bind-eq-some_iff (row_in b.fs.0) _).0 says in
    let d = (bind-eq-some_iff (rows_in b.others) _).0 c.2 in
    let line = line-of t (c.0, b.rest) (fields-to t b.fs c.0 b.rest (record { read = b.read; ends = b.ends; says = c.1 })) in
    joined-turn most t c.0 b.rest b.others d.0 rs line b.others-read d.1 d.2

turn-of : (most : ℕ) (t : List ℕ) (rs : List Login) → is_end t ≡ false → bind (line_in t) (turn_of most) ≡ some rs → rows_of (suc most) t ≡ some rs
unfolding lines_in rows_in bind
turn-of most t rs n e =
    let a = (bind-eq-some_iff (line_in t) _).0 e in
    let b = (bind-eq-some_iff (rows_of most a.0.1) _).0 a.2 in
    let c = (bind-eq-some_iff (lines_in most more_fields a.0.1) _).0 b.1 in
    let row = line-to t a.0 a.1 in
    let fields = fields-of t a.0.0 a.0.1 row in
    rw (n, fields.read, fields.ends, c.1, fields.says, c.2) b.2

-- One line more.
pub rows-turn : (most : ℕ) (t : List ℕ) → is_end t ≡ false → rows_of (suc most) t ≡ bind (line_in t) (turn_of most)
rows-turn most t n = same-options _ _ (λ rs e. turn-to most t rs n e) (λ rs e. turn-of most t rs n e)

-- The end.
pub rows_end : (most : ℕ) → rows_of most [] ≡ some []
unfolding lines_in rows_in bind
rows_end zero = refl
rows_end (suc most) = refl

-- A line too many.
pub rows-full : (t : List ℕ) → is_end t ≡ false → rows_of 0 t ≡ none
unfolding lines_in bind
rows-full t n = rw n
