-- The examples of rosters, as one computed check of the definitions.
use mathlib.Core.Path.{refl}
use mathlib.Core.Option.{bind}
use Rattle.decimal.specs.Decimal.{number_from}
use Rattle.calendar.specs.Calendar.{months_days, years_days, day_of}
use Rattle.calendar.specs.Text.{is_date, day_in}
use Rattle.roster.specs.Csv.{begins, plain_in, quoted_in, field_in, fields_in, lines_in}
use Rattle.roster.specs.Fields.{login_in, hex_from, rights_in, hex_text}
use Rattle.roster.specs.Roster.{rows_in, roster_in, line_of}
use Rattle.roster.specs.Calls.{give, grants_of, bytes_of, imported, import_of, exported, export_of}
use Rattle.examples.specs.Roster.{copies, RosterExamples}
use Rattle.examples.proofs.Compute.{calls-by-value}

pub roster-examples : RosterExamples
unfolding calls-by-value bind number_from months_days years_days day_of is_date day_in
    begins plain_in quoted_in field_in fields_in lines_in login_in hex_from rights_in hex_text rows_in roster_in line_of
    give grants_of bytes_of imported import_of exported export_of copies
roster-examples = record {
  read = refl;
  grants = refl;
  rows = refl;
  too_short = refl;
  malformed-first = refl;
  empty = refl;
  cycles = refl;
  lines = refl;
  accepted = refl;
  refused-lines = refl;
  refused-quotes = refl;
  refused-logins = refl;
  refused-values = refl;
  exports = refl;
  no_room = refl;
  no-grant = refl;
  too-late = refl;
}
