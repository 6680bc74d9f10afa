-- "Checkpoint, 1,108 bytes, length 1,106, kind 16: cycle 4, day 4, trustee counts 1+1, m 1, k 1, S 2; 32 times standing 1, life 4; proposal count 1,
-- 16 times cycle 4, day 4, subject kind 2, subject arguments 8; login count 1, 64 times login 4, end day 4, rights 2."; the two notices "join the
-- synchronised state after S in a checkpoint of kind 26, length 1,108 (1,110 bytes in all)" (02, A7): sizes, and where each part starts.
use Rattle.std.specs.Prelude.{ℕ, ◌+◌, ◌*◌}
use Rattle.state.specs.Limits.{seat_count, proposal_rows}

-- "kind 26 is the one written"
abbrev pub kind_checkpoint : ℕ
kind_checkpoint = 26

abbrev pub checkpoint_length : ℕ
checkpoint_length = 1108

abbrev pub checkpoint_size : ℕ
checkpoint_size = 1110

-- "Kind 16 is still read"
abbrev pub kind_earlier : ℕ
kind_earlier = 16

abbrev pub earlier_length : ℕ
earlier_length = 1106

abbrev pub earlier_size : ℕ
earlier_size = 1108

-- the rows of the tables
abbrev pub seat_size : ℕ
seat_size = 5

abbrev pub proposal_size : ℕ
proposal_size = 18

abbrev pub login_size : ℕ
login_size = 10

-- the numbers before the tables, and of these the notices, which kind 16 has not
abbrev pub head_at : ℕ
head_at = 4

abbrev pub notices_at : ℕ
notices_at = 18

-- the tables, in each kind
abbrev pub tables_at : ℕ
tables_at = 20

abbrev pub earlier_tables_at : ℕ
earlier_tables_at = notices_at

abbrev pub tables_size : ℕ
tables_size = 1090

-- within the tables, behind the seats: the count of each of the other two, and the table
abbrev pub proposal_count_at : ℕ
proposal_count_at = seat_count * seat_size

abbrev pub proposals_at : ℕ
proposals_at = proposal_count_at + 1

abbrev pub login_count_at : ℕ
login_count_at = proposals_at + proposal_rows * proposal_size

abbrev pub logins_at : ℕ
logins_at = login_count_at + 1
