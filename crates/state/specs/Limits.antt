-- The numbers that bound what a node holds: "32 seats", "at most 16 proposals; at most 64 logins", "level-1 and level-2 trustees (1 to 8 each);
-- margin m (0 to 7); least quorum k (1 to 32); silence limit S (1 to 365 days)"; "ordinary notice and restart notice, 1 to 30 days each" (02, A7).
use Rattle.std.specs.Prelude.{ℕ}

-- the rows of the three tables
abbrev pub seat_count : ℕ
seat_count = 32

abbrev pub proposal_rows : ℕ
proposal_rows = 16

abbrev pub login_rows : ℕ
login_rows = 64

-- "right 1 (0 to 15)"
abbrev pub right_count : ℕ
right_count = 16

abbrev pub most_trustees : ℕ
most_trustees = 8

abbrev pub most_margin : ℕ
most_margin = 7

abbrev pub most_least : ℕ
most_least = 32

abbrev pub most_silence : ℕ
most_silence = 365

abbrev pub most_notice : ℕ
most_notice = 30
