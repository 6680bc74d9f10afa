-- Words of the code's contracts: what its readers find at the front of a text. Nothing of the paper.
use Rattle.std.specs.Prelude.{◌≡◌, ℕ, List, Bool, true, false, cond, take, drop}
use Rattle.std.specs.Prelude as Rust
use Rattle.std.specs.Borrow.{Bor}
use Rattle.std.proofs.Math.Option.{Option, none, some, bind}
use Rattle.decimal.specs.Code.{digits_in}
use Rattle.calendar.specs.Text.{day_in}
use Rattle.state.specs.declared.Login.{Login}
use Rattle.state.specs.Time.{day}
use Rattle.roster.specs.Csv.{quote, comma, begins, char, field_in, line_end}
use Rattle.roster.specs.Fields.{most_login_digits, is_login_number, login_in, is_hex_digit, hex_value, rights_in}

-- ---- what is found, as the option that definitions chain: of a reference, what it points to

abbrev pub found : {A B : Type 0} → (A → B) → Rust.Option A → Option B
found view (Rust.Some x) = some (view x)
found view Rust.None = none

abbrev pub value_found : Rust.Option ℕ → Option ℕ
value_found o = found (λ x. x) o

-- the text behind what was read
abbrev pub rest_found : Rust.Option (Bor (List ℕ)) → Option (List ℕ)
rest_found o = found (λ r. r.now) o

-- a value, and the text behind it
abbrev pub field_found : Rust.Option (ℕ × Bor (List ℕ)) → Option (ℕ × List ℕ)
field_found o = found (λ f. (f.0, f.1.now)) o

abbrev pub line_found : Rust.Option (Login × Bor (List ℕ)) → Option (Login × List ℕ)
line_found o = found (λ l. (l.0, l.1.now)) o

abbrev pub rows_found : Rust.Option (List Login) → Option (List Login)
rows_found o = found (λ rs. rs) o

-- ---- the values of a line, one field after the other

-- what ends a field: the end of the line, if the field is its last one, or a comma
abbrev pub separator : Bool → List ℕ → Option (List ℕ)
separator last text = cond last (line_end text) (char comma text)

-- a value, and the text behind what follows it
abbrev pub followed : ℕ → Option (List ℕ) → Option (ℕ × List ℕ)
followed x rest = bind rest (λ t. some (x, t))

-- the value of the field at the front, where it is followed by a separator
unfoldable pub separated : (List ℕ → Option ℕ) → (List ℕ → Option (List ℕ)) → List ℕ → Option (ℕ × List ℕ)
separated value after text = bind (field_in text) (λ f. bind (value f.0) (λ x. followed x (after f.1)))

-- a value where its field is closed, by a quote if it was opened by one, and followed by a separator
abbrev pub closed : Bool → (List ℕ → Option (List ℕ)) → ℕ × List ℕ → Option (ℕ × List ℕ)
closed quoted after p = bind (cond quoted (char quote p.1) (some p.1)) (λ t. followed p.0 (after t))

-- where the value of a field begins
abbrev pub opened : List ℕ → List ℕ
opened t = cond (begins quote t) (drop 1 t) t

-- the value that is found where the field at the front has it, and is followed by a separator
abbrev pub field_by : (List ℕ → Option (ℕ × List ℕ)) → Bool → List ℕ → Option (ℕ × List ℕ)
field_by find last t = bind (find (opened t)) (closed (begins quote t) (separator last))

-- what a reader answers, by the results of its calls
abbrev pub ReadsAs : (Bor (List ℕ) → Rust.Option (ℕ × Bor (List ℕ)) → Type 0) → (List ℕ → Option (ℕ × List ℕ)) → Type 0
ReadsAs post find = (t : Bor (List ℕ)) (r : Rust.Option (ℕ × Bor (List ℕ))) → post t r → field_found r ≡ find t.now

-- the line at the front
unfoldable pub line_in : List ℕ → Option (Login × List ℕ)
line_in text =
    bind (separated login_in (separator false) text) (λ login.
    bind (separated day_in (separator false) login.1) (λ end.
    bind (separated rights_in (separator true) end.1) (λ rights.
    some (record { login = login.0; end = day end.0; rights = rights.0 }, rights.1))))

-- ---- a value where it stands

-- a login number of up to ten digits
unfoldable pub login_at : List ℕ → Option (ℕ × List ℕ)
login_at text = let d = digits_in most_login_digits 0 text in cond (is_login_number d.0) (some d) none

abbrev pub date_size : ℕ
date_size = 10

-- a value that takes w characters
abbrev pub value_at : ℕ → (List ℕ → Option ℕ) → List ℕ → Option (ℕ × List ℕ)
value_at w value text = bind (value (take w text)) (λ x. some (x, drop w text))

-- the value of a hexadecimal digit, or none for another character
abbrev pub hex_of : ℕ → Option ℕ
hex_of c = cond (is_hex_digit c) (some (hex_value c)) none
