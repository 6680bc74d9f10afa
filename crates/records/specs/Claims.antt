-- What reading a record tells, and what a count of seats tells.
use Rattle.std.specs.Prelude.{◌≡◌, true, ℕ, ◌+◌, ◌*◌, ◌^◌, ◌≤◌, ◌<◌, length, Some}
use mathlib.Core.List.{List, [], ◌∷◌, ◌++◌, Memᴰ}
use Rattle.binary.specs.Number.{Bytes}
use Rattle.state.specs.declared.Seat.{Seat}
use Rattle.state.specs.declared.State.{State}
use Rattle.state.specs.Seats.{present, present_seats, quorum_of}
use Rattle.state.specs.Limits.{seat_count}
use Rattle.state.specs.Minima.{is_in_range}
use Rattle.state.specs.Subjects.{is_subject}
use Rattle.records.specs.declared.Action.{Action}
use Rattle.records.specs.declared.Action.TheVariants.{Propose, Cancel, Presents, Certify, Minima, Remove, Rejoin, Grant, End}
use Rattle.records.specs.declared.Announcement.{Announcement}
use Rattle.records.specs.declared.Start.{Start}
use Rattle.records.specs.Layout.{announcement_size, row_size, most_rows, kind_query, query_length, kind_door_query, door_query_length}
use Rattle.records.specs.Announcement.{read_announcement, announcement_bytes}
use Rattle.records.specs.Sheet.{Row, row, level1, level2, rows_of, is_sheet, sheet_of, counts, counted_seats, counted_on_both}
use Rattle.records.specs.StartQuery.{read_start, read_query}

-- the ranges of each kind's arguments
abbrev pub ActionInRange : Action → Type 0
ActionInRange (Propose x) = (x.kind < 2 ^ 16) × (x.arguments < 2 ^ 64) × (is_subject x ≡ true)
ActionInRange (Cancel c) = c.0 < 2 ^ 32
ActionInRange (Presents i flag) = i < seat_count
ActionInRange (Certify i life) = (i < seat_count) × (1 ≤ life) × (life < 2 ^ 32)
ActionInRange (Minima x) = is_in_range x ≡ true
ActionInRange (Remove i) = i < seat_count
ActionInRange (Rejoin i life) = (i < seat_count) × (life < 2 ^ 32)
ActionInRange (Grant x) = (1 ≤ x.login) × (x.login < 2 ^ 32) × (x.end.0 < 2 ^ 32) × (1 ≤ x.rights) × (x.rights < 2 ^ 16)
ActionInRange (End login) = login < 2 ^ 32

pub record AnnouncementInRange (a : Announcement) : Type 0 where
  pub cycle : a.cycle.0 < 2 ^ 32
  pub day : a.day.0 < 2 ^ 32
  pub action : ActionInRange a.action

-- An announcement that is read is 24 bytes long and within its ranges.
abbrev pub AnnouncementsInRange : Type 0
AnnouncementsInRange = (b : List ℕ) (a : Announcement) → Bytes b → read_announcement b ≡ Some a → (length b ≡ announcement_size)
    × AnnouncementInRange a

-- What is written is read back, for every announcement within its ranges.
abbrev pub AnnouncementsReadBack : Type 0
AnnouncementsReadBack = (a : Announcement) → AnnouncementInRange a → read_announcement (announcement_bytes a) ≡ Some a

-- A start record that is read is within its ranges.
abbrev pub StartsInRange : Type 0
StartsInRange = (b : List ℕ) (x : Start) → Bytes b → read_start b ≡ Some x → (x.seat < seat_count) × (x.life < 2 ^ 32)

-- "kind 20 means door 0": it is read as the record of kind 21 that has the same login, day and right, and door 0.
abbrev pub Kind20IsDoor0 : Type 0
Kind20IsDoor0 = (fields : List ℕ) → length fields ≡ 9
    → read_query (query_length ∷ 0 ∷ kind_query ∷ 0 ∷ fields) ≡ read_query (door_query_length ∷ 0 ∷ kind_door_query ∷ 0 ∷ (fields ++ 0 ∷ []))

-- ---- sheets

-- The named size of a row is the width of its format.
abbrev pub RowsAreSized : Type 0
RowsAreSized = row.width ≡ row_size

-- b is a well-formed sheet, and is read as these masks and rows
pub record IsSheetOf (b : List ℕ) (mask1 mask2 : ℕ) (rows : List Row) : Type 0 where
  pub well-formed : is_sheet b ≡ true
  pub first : level1 b ≡ mask1
  pub second : level2 b ≡ mask2
  pub read : rows_of b ≡ rows

abbrev pub RowInRange : Row → Type 0
RowInRange r = (r.seat < seat_count) × (r.life < 2 ^ 32)

-- What is written is accepted and read back, for at most 64 rows within their ranges.
abbrev pub SheetsReadBack : Type 0
SheetsReadBack = (mask1 mask2 : ℕ) (rows : List Row) → length rows ≤ most_rows → ((r : Row) → Memᴰ r rows → RowInRange r)
    → IsSheetOf (sheet_of mask1 mask2 rows) mask1 mask2 rows

-- Some row names seat i under its listed life, and the seat is present.
pub record IsCounted (rows : List Row) (i : ℕ) (x : Seat) : Type 0 where
  pub standing : x.standing ≡ present
  pub row : Row
  pub listed : Memᴰ row rows
  pub seat : row.seat ≡ i
  pub life : row.life ≡ x.life

-- A seat counts exactly then.
abbrev pub CountsListedLife : Type 0
CountsListedLife = (rows : List Row) (i : ℕ) (x : Seat) → (counts rows i x ≡ true → IsCounted rows i x) ×
    (IsCounted rows i x → counts rows i x ≡ true)

-- A seat counts once: never more seats than are present.
abbrev pub CountsOnce : Type 0
CountsOnce = (rows : List Row) (seats : List Seat) → counted_seats rows seats ≤ present_seats seats

-- "Two quorums share at least 1+2m seats."
abbrev pub QuorumsOverlap : Type 0
QuorumsOverlap = (s : State) (a b : List Row) → quorum_of s ≤ counted_seats a s.seats → quorum_of s ≤ counted_seats b s.seats
    → 1 + 2 * s.minima.margin ≤ counted_on_both a b s.seats
