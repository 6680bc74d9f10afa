-- The kinds and sizes of the records.
use Rattle.std.specs.Prelude.{ℕ, ◌+◌}

-- "Announcement, 24 bytes: length 22; kind 1 to 9; cycle (4); day (4); 12 argument bytes"
abbrev pub announcement_length : ℕ
announcement_length = 22

abbrev pub announcement_size : ℕ
announcement_size = announcement_length + 2

abbrev pub arguments_size : ℕ
arguments_size = 12

-- "Sheet, kind 18: level-1 mask (1), level-2 mask (1), row count 0 to 64 (1), rows of seat (1, below 32) and life (4)."
abbrev pub kind_sheet : ℕ
kind_sheet = 18

-- the length of a sheet without rows, and the bytes before its rows
abbrev pub sheet_length : ℕ
sheet_length = 5

abbrev pub sheet_head : ℕ
sheet_head = sheet_length + 2

abbrev pub row_size : ℕ
row_size = 5

abbrev pub most_rows : ℕ
most_rows = 64

-- "Start, kind 19: seat 1, life 4."
abbrev pub kind_start : ℕ
kind_start = 19

abbrev pub start_length : ℕ
start_length = 7

-- "Query, kind 20: login 4, day 4, right 1 (0 to 15)."
abbrev pub kind_query : ℕ
kind_query = 20

abbrev pub query_length : ℕ
query_length = 11

-- "A new query, kind 21, carries the door in a byte after the right"
abbrev pub kind_door_query : ℕ
kind_door_query = 21

abbrev pub door_query_length : ℕ
door_query_length = 12

-- "doors 0 to 3"
abbrev pub door_count : ℕ
door_count = 4
