-- What an office can rely on in its rosters.
use Rattle.std.specs.Prelude.{◌≡◌, Ok, Bool, ℕ, ◌+◌, ◌*◌, ◌^◌, ◌≤◌, ◌<◌, length, get_or, take, drop, Some}
use mathlib.Core.List.{List, [], ◌∷◌, ◌++◌, Memᴰ}
use Rattle.std.proofs.Math.Option.{Option, none, some, bind}
use Rattle.refusals.specs.declared.Refusal.TheVariants.{BadRoster, NoRosterRoom}
use Rattle.binary.specs.Number.{Bytes, overwrite}
use Rattle.calendar.specs.Text.{last_day}
use Rattle.state.specs.declared.Cycle.{Cycle}
use Rattle.state.specs.declared.Day.{Day}
use Rattle.state.specs.declared.Login.{Login}
use Rattle.state.specs.Time.{cycle, cycles_since, last_cycle, CycleBefore}
use Rattle.state.specs.Rows.{no_login}
use Rattle.records.specs.declared.Announcement.{Announcement}
use Rattle.records.specs.declared.Action.TheVariants.{Grant}
use Rattle.records.specs.Layout.{announcement_size}
use Rattle.records.specs.Announcement.{read_announcement, announcement_bytes}
use Rattle.roster.specs.Roster.{most_lines, more_fields, roster_in, line_of}
use Rattle.roster.specs.Written.{Written, file_text, contents, AreLines}
use Rattle.roster.specs.Calls.{Outcome, refused, grant_of, grants_of, bytes_of, imported, import_of, exported, export_of}

-- ---- what import writes

-- what a line may say
pub record IsRow (r : Login) : Type 0 where
  pub login : (1 ≤ r.login) × (r.login < 2 ^ 32)
  pub end : r.end.0 ≤ last_day
  pub rights : (1 ≤ r.rights) × (r.rights < 2 ^ 16)

-- A roster that is read has at most 64 lines, each with its values in their ranges.
pub record AreRows (rs : List Login) : Type 0 where
  pub few : length rs ≤ most_lines
  pub each : (r : Login) → Memᴰ r rs → IsRow r

abbrev pub RostersInRange : Type 0
RostersInRange = (text : List ℕ) (rs : List Login) → roster_in text ≡ some rs → AreRows rs

-- the 24 bytes at place i
abbrev pub announcement_at : ℕ → List ℕ → List ℕ
announcement_at i bytes = take announcement_size (drop (announcement_size * i) bytes)

-- The 24 bytes at place i of those that are written are a well-formed announcement of cycle c plus i, which is below 4294967295: the grant of the
-- three values of line i, on the given day.
pub record IsGrant (rs : List Login) (c : Cycle) (d : Day) (bytes : List ℕ) (i : ℕ) : Type 0 where
  pub in-time : CycleBefore (cycle (c.0 + i)) last_cycle
  pub read : read_announcement (announcement_at i bytes) ≡ Some (grant_of (cycle (c.0 + i)) d (get_or rs i no_login))

pub record AreGrants (rs : List Login) (c : Cycle) (d : Day) (grants : List Announcement) : Type 0 where
  pub count : length grants ≡ length rs
  pub size : length (bytes_of grants) ≡ announcement_size * length grants
  pub each : (i : ℕ) → i < length rs → IsGrant rs c d (bytes_of grants) i

abbrev pub ImportsAreGrants : Type 0
ImportsAreGrants = (text : List ℕ) (c : Cycle) (d : Day) → c.0 < 2 ^ 32 → d.0 < 2 ^ 32 → (rs : List Login) (grants : List Announcement)
    → roster_in text ≡ some rs → imported text c d ≡ some grants → AreGrants rs c d grants

-- "An empty file has no lines.": it gives 0 announcements, for every cycle and slice.
abbrev pub EmptyFileGivesNone : Type 0
EmptyFileGivesNone = (c : Cycle) (d : Day) (out : List ℕ) → import_of [] c d out ≡ record { answer = Ok 0; slice = out }

-- ---- export and import

-- "exported and read again, must give the same three values": for every well-formed grant ending by 2099-12-31.
pub record ReadAgain (b : List ℕ) (r : Login) : Type 0 where
  pub line : exported b ≡ some (line_of r)
  pub said : roster_in (line_of r) ≡ some (r ∷ [])

abbrev pub ExportsReadAgain : Type 0
ExportsReadAgain = (b : List ℕ) (a : Announcement) (r : Login) → Bytes b → read_announcement b ≡ Some a → a.action ≡ Grant r → r.end.0 ≤ last_day
    → ReadAgain b r

-- "a grant so made": each announcement that import writes is exported as a line that says the same.
abbrev pub ImportsReadAgain : Type 0
ImportsReadAgain = (text : List ℕ) (c : Cycle) (d : Day) → c.0 < 2 ^ 32 → d.0 < 2 ^ 32 → (rs : List Login) (grants : List Announcement)
    → roster_in text ≡ some rs → imported text c d ≡ some grants
    → (i : ℕ) → i < length rs → ReadAgain (announcement_at i (bytes_of grants)) (get_or rs i no_login)

-- the lines of rows, one behind the other
unfoldable pub lines_of : List Login → List ℕ
lines_of [] = []
lines_of (r ∷ rs) = line_of r ++ lines_of rs

-- what announcements are exported as, one behind the other, or none where one is refused
unfoldable pub exports : List Announcement → Option (List ℕ)
exports [] = some []
exports (a ∷ rest) = bind (exported (announcement_bytes a)) (λ line. bind (exports rest) (λ lines. some (line ++ lines)))

-- The exports of up to 64 grants, in cycles that rise by one from c on and on day d, are a roster that says the same, and its import gives those
-- grants back.
pub record GivenBack (rs : List Login) (c : Cycle) (d : Day) : Type 0 where
  pub lines : exports (grants_of c d rs) ≡ some (lines_of rs)
  pub said : roster_in (lines_of rs) ≡ some rs
  pub grants : imported (lines_of rs) c d ≡ some (grants_of c d rs)

abbrev pub ExportsGivenBack : Type 0
ExportsGivenBack = (rs : List Login) → AreRows rs → (c : Cycle) (d : Day) → c.0 < 2 ^ 32 → d.0 < 2 ^ 32 → length rs ≤ cycles_since last_cycle c
    → GivenBack rs c d

-- ---- quoting

-- Quoting a field, or ending the last line, changes nothing: two files with the same contents say the same.
abbrev pub QuotingChangesNothing : Type 0
QuotingChangesNothing = (e f : Bool) (xs ys : List (List Written)) → AreLines more_fields xs → AreLines more_fields ys → contents xs ≡ contents ys
    → roster_in (file_text e xs) ≡ roster_in (file_text f ys)

-- ---- the answers

-- Import answers 24 where there are no grants to make, then 25 where the slice is too short, and leaves the slice as it was; else it gives the number
-- of lines, and the grants stand in front of the slice's tail.
pub data ImportAnswering (text : List ℕ) (c : Cycle) (d : Day) (out : List ℕ) (x : Outcome) : Type 0 where
  malformed : roster_in text ≡ none → x ≡ refused BadRoster out → ImportAnswering text c d out x
  out-of-cycles : (rs : List Login) → roster_in text ≡ some rs → cycles_since last_cycle c < length rs → x ≡ refused BadRoster out
      → ImportAnswering text c d out x
  too_short : (rs : List Login) → roster_in text ≡ some rs → length rs ≤ cycles_since last_cycle c → length out < announcement_size * length rs
      → x ≡ refused NoRosterRoom out → ImportAnswering text c d out x
  given : (rs : List Login) → roster_in text ≡ some rs → length rs ≤ cycles_since last_cycle c → announcement_size * length rs ≤ length out
      → x ≡ record { answer = Ok (length rs); slice = overwrite (bytes_of (grants_of c d rs)) out } → ImportAnswering text c d out x

abbrev pub ImportAnswers : Type 0
ImportAnswers = (text : List ℕ) (c : Cycle) (d : Day) (out : List ℕ) → ImportAnswering text c d out (import_of text c d out)

-- Export likewise.
pub data ExportAnswering (b out : List ℕ) (x : Outcome) : Type 0 where
  no-grant : ((a : Announcement) (r : Login) → read_announcement b ≡ Some a → a.action ≡ Grant r → last_day < r.end.0) → x ≡ refused BadRoster out
      → ExportAnswering b out x
  too_short : (a : Announcement) (r : Login) → read_announcement b ≡ Some a → a.action ≡ Grant r → r.end.0 ≤ last_day
      → length out < length (line_of r) → x ≡ refused NoRosterRoom out → ExportAnswering b out x
  given : (a : Announcement) (r : Login) → read_announcement b ≡ Some a → a.action ≡ Grant r → r.end.0 ≤ last_day
      → length (line_of r) ≤ length out → x ≡ record { answer = Ok (length (line_of r)); slice = overwrite (line_of r) out } → ExportAnswering b out x

abbrev pub ExportAnswers : Type 0
ExportAnswers = (b out : List ℕ) → ExportAnswering b out (export_of b out)
