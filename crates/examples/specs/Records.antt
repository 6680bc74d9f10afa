-- The records of the examples: byte for byte, and from what they say.
use Rattle.std.specs.Prelude.{List, [], ◌∷◌, ◌++◌, ℕ, replicate}
use Rattle.binary.specs.Number.{to_bytes}
use Rattle.state.specs.Time.{day, cycle}
use Rattle.records.specs.declared.Action.{Action}
use Rattle.records.specs.declared.Action.TheVariants.{Grant}
use Rattle.records.specs.Layout.{kind_query, query_length, kind_door_query, door_query_length}
use Rattle.records.specs.Announcement.{announcement_bytes}
use Rattle.records.specs.Sheet.{Row, sheet_of}

-- ---- byte for byte

-- "Commissioned at cycle 1, day 100, one trustee per level, m=0, k=2, S=30, seats 0, 1, 2 present at life 1, lists empty"
abbrev pub first_checkpoint : List ℕ
first_checkpoint =
    (82 ∷ 4 ∷ 16 ∷ 0 ∷ 1 ∷ 0 ∷ 0 ∷ 0 ∷ 100 ∷ 0 ∷ 0 ∷ 0 ∷ 1 ∷ 1 ∷ 0 ∷ 2 ∷ 30 ∷ 0 ∷ [])
    ++ ((2 ∷ 1 ∷ 0 ∷ 0 ∷ 0 ∷ 2 ∷ 1 ∷ 0 ∷ 0 ∷ 0 ∷ 2 ∷ 1 ∷ 0 ∷ 0 ∷ 0 ∷ [])
    ++ replicate 1075 0)

-- "node 0 life 1"
abbrev pub start_seat0 : List ℕ
start_seat0 = 7 ∷ 0 ∷ 19 ∷ 0 ∷ 0 ∷ 1 ∷ 0 ∷ 0 ∷ 0 ∷ []

-- "grant 501 to day 120, rights 1, cycle 1, day 101", here to a given day below 256
abbrev pub grant_to : ℕ → List ℕ
grant_to end = 22 ∷ 0 ∷ 8 ∷ 0 ∷ 1 ∷ 0 ∷ 0 ∷ 0 ∷ 101 ∷ 0 ∷ 0 ∷ 0 ∷ 245 ∷ 1 ∷ 0 ∷ 0 ∷ end ∷ 0 ∷ 0 ∷ 0 ∷ 1 ∷ 0 ∷ 0 ∷ 0 ∷ []

-- propose the removal of seat 2 in cycle 1, day 101
abbrev pub propose_removal : List ℕ
propose_removal = 22 ∷ 0 ∷ 1 ∷ 0 ∷ 1 ∷ 0 ∷ 0 ∷ 0 ∷ 101 ∷ 0 ∷ 0 ∷ 0 ∷ 6 ∷ 0 ∷ 2 ∷ 0 ∷ 0 ∷ 0 ∷ 0 ∷ 0 ∷ 0 ∷ 0 ∷ 0 ∷ 0 ∷ []

-- remove seat 2 in cycle 2, on a day below 256
abbrev pub remove_on : ℕ → List ℕ
remove_on day = 22 ∷ 0 ∷ 6 ∷ 0 ∷ 2 ∷ 0 ∷ 0 ∷ 0 ∷ day ∷ 0 ∷ 0 ∷ 0 ∷ 2 ∷ 0 ∷ 0 ∷ 0 ∷ 0 ∷ 0 ∷ 0 ∷ 0 ∷ 0 ∷ 0 ∷ 0 ∷ 0 ∷ []

-- "level-1 mask 1, first with no rows, then with seats 0 and 1 at life 1"
abbrev pub no_rows : List ℕ
no_rows = 5 ∷ 0 ∷ 18 ∷ 0 ∷ 1 ∷ 0 ∷ 0 ∷ []

-- with a level-2 mask below 256
abbrev pub two_rows : ℕ → List ℕ
two_rows mask2 = 15 ∷ 0 ∷ 18 ∷ 0 ∷ 1 ∷ mask2 ∷ 2 ∷ 0 ∷ 1 ∷ 0 ∷ 0 ∷ 0 ∷ 1 ∷ 1 ∷ 0 ∷ 0 ∷ 0 ∷ []

-- "queries of right 0", for login 501 on a day below 256
abbrev pub query_on : ℕ → List ℕ
query_on day = 11 ∷ 0 ∷ 20 ∷ 0 ∷ 245 ∷ 1 ∷ 0 ∷ 0 ∷ day ∷ 0 ∷ 0 ∷ 0 ∷ 0 ∷ []

-- ---- from what they say

-- an announcement for this cycle, on this day
abbrev pub announce : ℕ → ℕ → Action → List ℕ
announce c d x = announcement_bytes (record { cycle = cycle c; day = day d; action = x })

-- "grant 501 to day 120, rights 1"
abbrev pub grant501 : Action
grant501 = Grant (record { login = 501; end = day 120; rights = 1 })

-- a vote of this seat under life 1
abbrev pub vote : ℕ → Row
vote seat = record { seat = seat; life = 1 }

-- sheets that the first trustee of each level signed: without votes, and with those of seats 0 and 1
abbrev pub unvoted : List ℕ
unvoted = sheet_of 1 1 []

abbrev pub two_votes : List ℕ
two_votes = sheet_of 1 1 (vote 0 ∷ vote 1 ∷ [])

-- what a query asks: for this login, on this day, of this right
abbrev pub asked : ℕ → ℕ → ℕ → List ℕ
asked login d right = to_bytes 4 login ++ (to_bytes 4 d ++ (right ∷ []))

-- a query of kind 20
abbrev pub query : ℕ → ℕ → ℕ → List ℕ
query login d right = to_bytes 2 query_length ++ (to_bytes 2 kind_query ++ asked login d right)

-- a query of kind 21, at this door
abbrev pub query_at : ℕ → ℕ → ℕ → ℕ → List ℕ
query_at door login d right = to_bytes 2 door_query_length ++ (to_bytes 2 kind_door_query ++ (asked login d right ++ (door ∷ [])))
