use native.Mathlib.Omega.{arith}
use mathlib.Core.Option.{bind}
use Rattle.calendar.specs.Text.{day_in}
use Rattle.roster.specs.Fields.{rights_digits, rights_in}
use Rattle.roster.specs.Code.{login_at, date_size, value_at}
use Rattle.roster.proofs.Finding.{line_by, rights_below}
use Rattle.roster.proofs.lines.line_at.Goals as goal

pub returns-in_err-login : goal.returns-in_err-login
unfolding bind
returns-in_err-login c =
    let login = c.in_err-login.ensures login_at (λ t r e. e) in
    rw (c.from_residual.ensures, line_by, ← login)

pub returns-in_err-end : goal.returns-in_err-end
unfolding bind
returns-in_err-end c =
    let login = c.in_ok-login.ensures login_at (λ t r e. e) in
    let end = c.in_err-end.ensures (value_at date_size day_in) (λ t r e. e) in
    rw (c.from_residual-in_err-end.ensures, line_by, ← login, ← end)

pub returns-in_err-rights : goal.returns-in_err-rights
unfolding bind
returns-in_err-rights c =
    let login = c.in_ok-login.ensures login_at (λ t r e. e) in
    let end = c.in_ok-end.ensures (value_at date_size day_in) (λ t r e. e) in
    let rights = c.in_err-rights.ensures (value_at rights_digits rights_in) (λ t r e. e) in
    rw (c.from_residual-in_err-rights.ensures, line_by, ← login, ← end, ← rights)

pub overflow_cast-row : goal.overflow_cast-row
overflow_cast-row c =
    let below = rights_below _ _ _ (c.in_ok-rights.ensures (value_at rights_digits rights_in) (λ t r e. e)) in
    omega (arith, below)

pub returns : goal.returns
unfolding bind
returns c =
    let login = c.in_ok-login.ensures login_at (λ t r e. e) in
    let end = c.in_ok-end.ensures (value_at date_size day_in) (λ t r e. e) in
    let rights = c.in_ok-rights.ensures (value_at rights_digits rights_in) (λ t r e. e) in
    rw (line_by, ← login, ← end, ← rights)
