-- The bound asks for something, and what it asks for can be had: two histories within it in which two hosts perform, one of them with a list that is
-- full, and one beyond it in which the park splits.
use Rattle.std.specs.Prelude.{◌≡◌, true, false, List, [], ◌∷◌, ◌++◌, map, ℕ, replicate}
use Rattle.std.proofs.Math.Option.{Option, none, some}
use Rattle.state.specs.declared.Login.{Login}
use Rattle.tables.specs.Logins.{is_listed}
use Rattle.records.specs.declared.Action.TheVariants.{End}
use Rattle.checkpoint.specs.Checkpoint.{checkpoint_bytes}
use Rattle.node.specs.declared.Node.{Node}
use Rattle.image.specs.Layout.{image_size}
use Rattle.examples.specs.Records.{first_checkpoint, start_seat0, grant_to, two_rows, announce}
use Rattle.examples.specs.Evictions.{full_of, but_two}
use Rattle.agreement.specs.History.{Host, by_value, through_c, start, deliver, History, empty, node_at, moments, answer, accepted}
use Rattle.agreement.specs.Claims.{Park, EquivocationBound, Agreement, run_all}

-- seat 1 under life 1
abbrev pub start_seat1 : List ℕ
start_seat1 = 7 ∷ 0 ∷ 19 ∷ 0 ∷ 1 ∷ 1 ∷ 0 ∷ 0 ∷ 0 ∷ []

-- the rows of seats 1 and 2 under life 1, with both masks 1
abbrev pub other_rows : List ℕ
other_rows = 15 ∷ 0 ∷ 18 ∷ 0 ∷ 1 ∷ 1 ∷ 2 ∷ 1 ∷ 1 ∷ 0 ∷ 0 ∷ 0 ∷ 2 ∷ 1 ∷ 0 ∷ 0 ∷ 0 ∷ []

-- end login 501 in cycle 2, day 110
abbrev pub end501 : List ℕ
end501 = 22 ∷ 0 ∷ 9 ∷ 0 ∷ 2 ∷ 0 ∷ 0 ∷ 0 ∷ 110 ∷ 0 ∷ 0 ∷ 0 ∷ 245 ∷ 1 ∷ 0 ∷ 0 ∷ 0 ∷ 0 ∷ 0 ∷ 0 ∷ 0 ∷ 0 ∷ 0 ∷ 0 ∷ []

-- a slice with room for an image
abbrev pub room : List ℕ
room = replicate image_size 0

-- two hosts start from the first checkpoint, at seats 0 and 1
abbrev pub commissioned : History → History
commissioned calls = start (by_value 0) first_checkpoint start_seat0 [] ∷ start (through_c 1) first_checkpoint start_seat1 room ∷ calls

-- both perform the same announcement in each of two cycles, each on another sheet
abbrev pub peaceful : History
peaceful =
    commissioned
    (deliver (by_value 0) (grant_to 120) (two_rows 0) []
    ∷ deliver (through_c 1) (grant_to 120) other_rows room
    ∷ deliver (through_c 1) end501 (two_rows 0) room
    ∷ deliver (by_value 0) end501 other_rows []
    ∷ [])

-- each performs another announcement in one cycle: seat 1 counts on both sheets, and the margin is 0
abbrev pub divided : History
divided = commissioned (deliver (by_value 0) (grant_to 120) (two_rows 0) [] ∷ deliver (through_c 1) (grant_to 121) other_rows room ∷ [])

pub record WithinBound : Type 0 where
  pub park : Park first_checkpoint peaceful
  pub bound : EquivocationBound peaceful
  pub performed : map answer (moments peaceful) ≡ replicate 6 accepted

pub record BeyondBound : Type 0 where
  pub park : Park first_checkpoint divided
  pub performed : map answer (moments divided) ≡ replicate 4 accepted
  pub splits : ¬ Agreement divided

-- ---- a list that is full (02, A8)

-- 64 logins, of which 200 and 210 were over by day 100
abbrev pub full_checkpoint : List ℕ
full_checkpoint = checkpoint_bytes (full_of (but_two 20 99 21 99))

-- end login 200 in cycle 2, day 110
abbrev pub end200 : List ℕ
end200 = announce 2 110 (End 200)

-- both perform a grant that needs a row, each on another sheet; then the evicted login can't be ended
abbrev pub evicting : History
evicting =
    start (by_value 0) full_checkpoint start_seat0 []
    ∷ start (through_c 1) full_checkpoint start_seat1 room
    ∷ deliver (by_value 0) (grant_to 120) (two_rows 0) []
    ∷ deliver (through_c 1) (grant_to 120) other_rows room
    ∷ deliver (through_c 1) end200 (two_rows 0) room
    ∷ []

-- the logins of the node that a host holds at the end
abbrev pub logins_of : Option Node → List Login
logins_of none = []
logins_of (some n) = n.state.logins

abbrev pub logins_at : Host → List Login
logins_at h = logins_of (node_at (run_all empty evicting) h)

pub record EvictsWithinBound : Type 0 where
  pub park : Park full_checkpoint evicting
  pub bound : EquivocationBound evicting
  pub answered : map answer (moments evicting) ≡ replicate 4 accepted ++ (some 13 ∷ [])
  -- both hosts have dropped login 200, and list 210 and the granted 501
  pub dropped_by_value : map (λ l. is_listed l (logins_at (by_value 0))) (200 ∷ 210 ∷ 501 ∷ []) ≡ false ∷ true ∷ true ∷ []
  pub through-C : map (λ l. is_listed l (logins_at (through_c 1))) (200 ∷ 210 ∷ 501 ∷ []) ≡ false ∷ true ∷ true ∷ []
