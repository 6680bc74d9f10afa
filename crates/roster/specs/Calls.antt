-- The two calls: what each answers, and what its output slice then holds. "24 comes before 25."
use Rattle.std.specs.Prelude.{ℕ, List, [], ◌∷◌, ◌++◌, cond, leb, length, Result, Ok, Err, Some, None}
use Rattle.std.specs.declared.option.Option as Rust
use Rattle.std.proofs.Math.Option.{Option, none, some, bind}
use Rattle.refusals.specs.declared.Refusal.{Refusal}
use Rattle.refusals.specs.declared.Refusal.TheVariants.{BadRoster, NoRosterRoom}
use Rattle.binary.specs.Number.{overwrite}
use Rattle.calendar.specs.Text.{last_day}
use Rattle.state.specs.declared.Cycle.{Cycle}
use Rattle.state.specs.declared.Day.{Day}
use Rattle.state.specs.declared.Login.{Login}
use Rattle.state.specs.Time.{cycles_since, last_cycle, next_cycle}
use Rattle.records.specs.declared.Announcement.{Announcement}
use Rattle.records.specs.declared.Action.{Action}
use Rattle.records.specs.declared.Action.TheVariants.{Propose, Cancel, Presents, Certify, Minima, Remove, Rejoin, Grant, End}
use Rattle.records.specs.Announcement.{read_announcement, announcement_bytes}
use Rattle.roster.specs.Roster.{roster_in, line_of}

-- the number of announcements or the length of a line is given, or the call is refused: 24 is BadRoster, and 25 NoRosterRoom
pub record Outcome : Type 0 where
  pub answer : Result ℕ Refusal
  pub slice : List ℕ

abbrev pub refused : Refusal → List ℕ → Outcome
refused r out = record { answer = Err r; slice = out }

-- a number is given, and bytes are written; "25, output slice shorter than" they are; "a longer one keeps its tail"
unfoldable pub give : ℕ → List ℕ → List ℕ → Outcome
give n bytes out = cond (leb (length bytes) (length out)) (record { answer = Ok n; slice = overwrite bytes out }) (refused NoRosterRoom out)

-- ---- import

-- "grant announcements, one per line in their order, for a given day and cycles rising by one from a given one"
abbrev pub grant_of : Cycle → Day → Login → Announcement
grant_of c d r = record { cycle = c; day = d; action = Grant r }

unfoldable pub grants_of : Cycle → Day → List Login → List Announcement
grants_of c d [] = []
grants_of c d (r ∷ rs) = grant_of c d r ∷ grants_of (next_cycle c) d rs

unfoldable pub bytes_of : List Announcement → List ℕ
bytes_of [] = []
bytes_of (a ∷ rest) = announcement_bytes a ++ bytes_of rest

-- the grants of a roster, or none where "file or a field malformed, more than 64 lines, cycles running past 4294967294": there are no more lines than
-- cycles before 4294967295
unfoldable pub imported : List ℕ → Cycle → Day → Option (List Announcement)
imported text c d = bind (roster_in text) (λ rs. cond (leb (length rs) (cycles_since last_cycle c)) (some (grants_of c d rs)) none)

-- "The node turns up to 64 lines into grant announcements .. and gives their number."
abbrev pub give_grants : Option (List Announcement) → List ℕ → Outcome
give_grants none out = refused BadRoster out
give_grants (some grants) out = give (length grants) (bytes_of grants) out

unfoldable pub import_of : List ℕ → Cycle → Day → List ℕ → Outcome
import_of text c d out = give_grants (imported text c d) out

-- ---- export

-- the row of a grant
abbrev pub granted : Action → Option Login
granted (Propose x) = none
granted (Cancel c) = none
granted (Presents i flag) = none
granted (Certify i life) = none
granted (Minima x) = none
granted (Remove i) = none
granted (Rejoin i life) = none
granted (Grant r) = some r
granted (End login) = none

abbrev pub granted_by : Rust.Option Announcement → Option Login
granted_by None = none
granted_by (Some a) = granted a.action

-- the line of "a well-formed grant ending by 2099-12-31", or none for "anything but" that
unfoldable pub exported : List ℕ → Option (List ℕ)
exported b = bind (granted_by (read_announcement b)) (λ r. cond (leb r.end.0 last_day) (some (line_of r)) none)

-- "A grant exports as one line .. and gives its length"
abbrev pub give_line : Option (List ℕ) → List ℕ → Outcome
give_line none out = refused BadRoster out
give_line (some line) out = give (length line) line out

unfoldable pub export_of : List ℕ → List ℕ → Outcome
export_of b out = give_line (exported b) out
