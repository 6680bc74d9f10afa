-- "These six, the four quorum sizes and the edges 6 and 7 days (rule 10) and 30 and 31 days (rule 18) are the fourteen marked examples."
use Rattle.std.specs.Prelude.{◌≡◌, List, [], ◌∷◌, ◌++◌, ℕ}
use Rattle.state.specs.Seats.{quorum}
use Rattle.requests.specs.declared.Answer.TheVariants.{Started, Done, Open, No}
use Rattle.requests.specs.Lines.{line_of}
use Rattle.requests.specs.Run.{run_of}
use Rattle.examples.specs.Records.{first_checkpoint, start_seat0, grant_to, propose_removal, remove_on, no_rows, two_rows, query_on}

-- what node-run prints for a start from the first checkpoint and these records after it
abbrev pub printed : List ℕ → List ℕ
printed records = run_of (start_seat0 ++ (first_checkpoint ++ records))

-- the six printed lines, in ASCII
abbrev pub six_lines : List ℕ
six_lines =
    -- 1 started 1
    49 ∷ 32 ∷ 115 ∷ 116 ∷ 97 ∷ 114 ∷ 116 ∷ 101 ∷ 100 ∷ 32 ∷ 49 ∷ 10 ∷
    -- 2 voted 1
    50 ∷ 32 ∷ 118 ∷ 111 ∷ 116 ∷ 101 ∷ 100 ∷ 32 ∷ 49 ∷ 10 ∷
    -- 3 done 2
    51 ∷ 32 ∷ 100 ∷ 111 ∷ 110 ∷ 101 ∷ 32 ∷ 50 ∷ 10 ∷
    -- 4 open 2
    52 ∷ 32 ∷ 111 ∷ 112 ∷ 101 ∷ 110 ∷ 32 ∷ 50 ∷ 10 ∷
    -- 5 no 20 2
    53 ∷ 32 ∷ 110 ∷ 111 ∷ 32 ∷ 50 ∷ 48 ∷ 32 ∷ 50 ∷ 10 ∷
    -- 6 no 18 2
    54 ∷ 32 ∷ 110 ∷ 111 ∷ 32 ∷ 49 ∷ 56 ∷ 32 ∷ 50 ∷ 10 ∷
    []

pub record MarkedExamples : Type 0 where
  -- the printed run
  pub six-lines :
      printed (grant_to 120 ++ (no_rows ++ (grant_to 120 ++ (two_rows 0 ++ (query_on 120 ++ (query_on 121 ++ query_on 132)))))) ≡ six_lines
  -- "p=3, m=0, k=1 gives 2; p=4 gives 3; p=5, m=1 gives 4; p=1 gives 1"
  pub quorums : quorum 3 0 1 ∷ quorum 4 0 1 ∷ quorum 5 1 1 ∷ quorum 1 0 1 ∷ [] ≡ 2 ∷ 3 ∷ 4 ∷ 1 ∷ []
  -- rule 10: a removal 6 days after its proposal, and 7
  pub notice :
      printed (propose_removal ++ (two_rows 0 ++ (remove_on 107 ++ (two_rows 1 ++ (remove_on 108 ++ two_rows 1)))))
      ≡ line_of 1 Started 1 ++ (line_of 2 Done 2 ++ (line_of 3 (No 10) 2 ++ line_of 4 Done 3))
  -- rule 18: a query 30 days over the agreed day, and 31
  pub silence :
      printed (grant_to 140 ++ (two_rows 0 ++ (query_on 131 ++ query_on 132)))
      ≡ line_of 1 Started 1 ++ (line_of 2 Done 2 ++ (line_of 3 Open 2 ++ line_of 4 (No 18) 2))
