-- "A door each": computed queries at four doors.
use Rattle.std.specs.Prelude.{◌≡◌, List, [], ◌∷◌, map, ℕ, replicate, set}
use Rattle.node.specs.declared.Node.{Node}
use Rattle.node.specs.QueryAnswer.{QueryAnswer}
use Rattle.node.specs.QueryAnswer.{Open, Refused}
use Rattle.node.specs.Deliver.{deliver_of}
use Rattle.node.specs.Query.{with_counts, query_of}
use Rattle.examples.specs.Records.{announce, grant501, two_votes, query, query_at}
use Rattle.examples.specs.TableOfNo.{granted}

-- ---- misses at doors 0 to 3

abbrev pub zeros : List ℕ
zeros = 0 ∷ 0 ∷ 0 ∷ 0 ∷ []

-- 11 at one door
abbrev pub above : ℕ → List ℕ
above door = set zeros door 11

-- the node with login 501, and these misses
abbrev pub counted : List ℕ → Node
counted misses = with_counts (record { misses = misses }) granted

-- ---- queries

-- kind 21 at a door, for login 501, which is listed, and for login 0, which is not
abbrev pub listed : ℕ → List ℕ
listed door = query_at door 501 101 0

abbrev pub unlisted : ℕ → List ℕ
unlisted door = query_at door 0 101 0

-- the answer of a node with these misses, and the misses after it
abbrev pub reply : List ℕ → List ℕ → QueryAnswer × List ℕ
reply misses qb = let r = query_of (counted misses) qb in (r.answer, r.node.counts.misses)

pub record DoorExamples : Type 0 where
  -- a query leaves the rest of the node as it was
  pub rest-kept : (n : Node) (qb : List ℕ) → (query_of n qb).node ≡ with_counts (query_of n qb).node.counts n
  -- the last door; "A door above 3 .. is rule 1."
  pub door-3 : reply zeros (listed 3) ≡ (Open, zeros)
  pub door-4 : reply zeros (listed 4) ≡ (Refused 1, zeros)
  -- "a lent count above 10 is rule 1", at whichever door, for a query at door 0
  pub count-above :
      map (λ door. reply (above door) (query 501 101 0)) (0 ∷ 1 ∷ 2 ∷ 3 ∷ [])
      ≡ map (λ door. (Refused 1, above door)) (0 ∷ 1 ∷ 2 ∷ 3 ∷ [])
  -- ten misses at door 1: queries at doors 0, 1 and 2
  pub locked : map (λ door. (reply (0 ∷ 10 ∷ 0 ∷ 0 ∷ []) (listed door)).0) (0 ∷ 1 ∷ 2 ∷ []) ≡ Open ∷ Refused 17 ∷ Open ∷ []
  -- a miss is added at its door alone; open clears its door alone
  pub missed : reply zeros (unlisted 2) ≡ (Refused 19, 0 ∷ 0 ∷ 1 ∷ 0 ∷ [])
  pub opened : reply (3 ∷ 9 ∷ 4 ∷ 10 ∷ []) (listed 1) ≡ (Open, 3 ∷ 0 ∷ 4 ∷ 10 ∷ [])
  -- "kind 20 means door 0": both kinds, after one miss
  pub both-missed : map (reply (1 ∷ 0 ∷ 0 ∷ 0 ∷ [])) (query 0 101 0 ∷ unlisted 0 ∷ []) ≡ replicate 2 (Refused 19, 2 ∷ 0 ∷ 0 ∷ 0 ∷ [])
  pub both-opened : map (reply (1 ∷ 0 ∷ 0 ∷ 0 ∷ [])) (query 501 101 0 ∷ listed 0 ∷ []) ≡ replicate 2 (Open, zeros)
  -- "A performed action clears all four."
  pub performed : (deliver_of (counted (3 ∷ 9 ∷ 4 ∷ 10 ∷ [])) (announce 2 101 grant501) two_votes).node.counts.misses ≡ zeros
