-- Rosters: "Staffing firms send comma-separated files (RFC 4180, no header, quoted fields allowed)".
use Rattle.std.specs.Prelude.{ℕ, List, [], ◌∷◌, ◌++◌}
use Rattle.std.proofs.Math.Option.{Option, none, some, bind}
use Rattle.decimal.specs.Decimal.{decimal}
use Rattle.calendar.specs.Text.{day_text, day_in}
use Rattle.state.specs.declared.Login.{Login}
use Rattle.state.specs.Time.{day}
use Rattle.roster.specs.Csv.{comma, carriage_return, line_feed, lines_in}
use Rattle.roster.specs.Fields.{login_in, rights_in, rights_digits, hex_text}

-- "up to 64 lines"
abbrev pub most_lines : ℕ
most_lines = 64

-- a line has three fields, so two behind the first
abbrev pub more_fields : ℕ
more_fields = 2

-- what a line says, by its three fields: a login, its end day and its rights
abbrev pub row_in : List (List ℕ) → Option Login
row_in [] = none
row_in (l ∷ []) = none
row_in (l ∷ e ∷ []) = none
row_in (l ∷ e ∷ r ∷ []) =
    bind (login_in l) (λ login.
    bind (day_in e) (λ end.
    bind (rights_in r) (λ rights. some (record { login = login; end = day end; rights = rights }))))
row_in (l ∷ e ∷ r ∷ x ∷ xs) = none

unfoldable pub rows_in : List (List (List ℕ)) → Option (List Login)
rows_in [] = some []
rows_in (fields ∷ lines) = bind (row_in fields) (λ r. bind (rows_in lines) (λ rs. some (r ∷ rs)))

-- what a roster says, or none where "file or a field malformed, more than 64 lines"
unfoldable pub roster_in : List ℕ → Option (List Login)
roster_in text = bind (lines_in most_lines more_fields text) rows_in

-- ---- and back

-- "one line, unquoted, login without leading zeros, capital hexadecimal, ended by CR LF"
unfoldable pub line_of : Login → List ℕ
line_of r =
    decimal r.login ++ (comma
    ∷ (day_text r.end.0 ++ (comma
    ∷ (hex_text rights_digits r.rights ++ (carriage_return ∷ line_feed ∷ [])))))
