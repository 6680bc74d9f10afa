-- The page of a state on a given day: "Lines run in login order, without header." The rows of a well-formed state rise by login.
use Rattle.std.specs.Prelude.{ℕ, Bool, cond, List, map, ltb}
use Rattle.std.proofs.Math.Option.{Option, none, some}
use Rattle.lists.specs.Fold.{count}
use Rattle.lists.specs.Table.{keep}
use Rattle.binary.specs.Codec.{encode_rows}
use Rattle.calendar.specs.Text.{last_day}
use Rattle.state.specs.declared.Day.{Day}
use Rattle.state.specs.declared.Login.{Login}
use Rattle.state.specs.declared.State.{State}
use Rattle.state.specs.Time.{later_day}
use Rattle.state.specs.Rows.{is_login, is_ended, is_silent}
use Rattle.page.specs.declared.Word.{Word}
use Rattle.page.specs.declared.Word.TheVariants.{Open, Ended, Silent}
use Rattle.page.specs.Line.{Line, line}

-- "Silent wins over ended.": the word of a row on day t, on which the state is silent or not
abbrev pub word_of : Bool → Day → Login → Word
word_of silent t r = cond silent Silent (cond (is_ended t r) Ended Open)

-- "End days after 47481 (2099-12-31) print as ten hyphens."
abbrev pub end_shown : Day → Option ℕ
end_shown end = cond (ltb last_day end.0) none (some end.0)

-- what the line of a row says
abbrev pub line_of : Bool → Day → Login → Line
line_of silent t r = record { login = r.login; end = end_shown r.end; rights = r.rights; word = word_of silent t r }

-- the rows that the page shows
abbrev pub listed : List Login → List Login
listed rows = keep is_login rows

-- "It gives the number of lines"
abbrev pub line_count : State → ℕ
line_count s = count is_login s.logins

-- the lines of a table's rows
unfoldable pub lines_of : Bool → Day → List Login → List ℕ
lines_of silent t rows = encode_rows line (map (line_of silent t) (listed rows))

-- the state is silent on the given day, by rule 18: t is "the later of given and agreed day"
abbrev pub is_silent_on : State → Day → Bool
is_silent_on s given = is_silent s.day s.minima.silence (later_day given s.day)

-- "The last word must agree with what rules 18 and 20 give for the given day.": both look at t
unfoldable pub page_text : State → Day → List ℕ
page_text s given = lines_of (is_silent_on s given) (later_day given s.day) s.logins
