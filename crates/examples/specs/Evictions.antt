-- "Grants into a full list": computed deliveries of grants where all 64 rows are taken.
use Rattle.std.specs.Prelude.{◌≡◌, true, false, cond, List, ◌∷◌, ◌++◌, ℕ, ◌*◌, eqb, take, drop}
use Rattle.state.specs.declared.Login.{Login}
use Rattle.state.specs.declared.State.{State}
use Rattle.state.specs.Limits.{login_rows}
use Rattle.state.specs.Time.{day}
use Rattle.state.specs.Update.{with_logins}
use Rattle.tables.specs.Logins.{is_listed, end_login}
use Rattle.records.specs.declared.Action.{Action}
use Rattle.records.specs.declared.Action.TheVariants.{Grant, End}
use Rattle.node.specs.declared.Node.{Node}
use Rattle.node.specs.Reply.{DeliverReply}
use Rattle.node.specs.DeliverAnswer.{Done, Voted, Refused}
use Rattle.node.specs.QueryAnswer as Query
use Rattle.node.specs.Deliver.{deliver_of}
use Rattle.node.specs.Query.{query_of}
use Rattle.examples.specs.Records.{announce, grant501, unvoted, two_votes, query}
use Rattle.examples.specs.TableOfNo.{first_state, numbered, started}

-- the 64 logins 10, 20 to 640: the i-th ends on the day that is told, and holds right 0
abbrev pub logins : (ℕ → ℕ) → List Login
logins ends = numbered (λ i. record { login = 10 * i; end = day (ends i); rights = 1 }) login_rows

-- on agreed day 100, in cycle 1, with these logins
abbrev pub full_of : (ℕ → ℕ) → State
full_of ends = with_logins (logins ends) first_state

-- all end on day 120, but the i-th on another day, or the i-th and the j-th
abbrev pub but : ℕ → ℕ → ℕ → ℕ
but i d k = cond (eqb k i) d 120

abbrev pub but_two : ℕ → ℕ → ℕ → ℕ → ℕ → ℕ
but_two i d j e k = cond (eqb k i) d (but j e k)

-- what a node with those logins replies to an action announced on day 101
abbrev pub reply : (ℕ → ℕ) → Action → List ℕ → DeliverReply
reply ends x sheet = deliver_of (started (full_of ends)) (announce 1 101 x) sheet

-- the list after the grant of login 501 is performed
abbrev pub after : (ℕ → ℕ) → List Login
after ends = (reply ends grant501 two_votes).node.state.logins

abbrev pub row501 : Login
row501 = record { login = 501; end = day 120; rights = 1 }

-- the node from whose list login 200 was evicted
abbrev pub evicted200 : Node
evicted200 = (reply (but 20 100) grant501 two_votes).node

-- a grant of this login, to this day
abbrev pub grant_of : ℕ → ℕ → Action
grant_of login d = Grant (record { login = login; end = day d; rights = 1 })

pub record EvictionExamples : Type 0 where
  -- "if that end day lies before the announced day. Otherwise 11 remains.": on the announced day, and a day before it
  pub not-over : (reply (but 20 101) grant501 two_votes).answer ≡ Refused 11
  pub over : (reply (but 20 100) grant501 two_votes).answer ≡ Done
  -- the row is gone, and the new one is placed in login order
  pub list : after (but 20 100) ≡ take 19 (logins (but 20 100)) ++ (drop 20 (take 50 (logins (but 20 100))) ++ (row501 ∷ drop 50 (logins (but 20 100))))
  -- the first row, and the last one
  pub first-row : after (but 1 100) ≡ drop 1 (take 50 (logins (but 1 100))) ++ (row501 ∷ drop 50 (logins (but 1 100)))
  pub last_row : after (but 64 100) ≡ take 50 (logins (but 64 100)) ++ (row501 ∷ drop 50 (take 63 (logins (but 64 100))))
  -- "the earliest end day": the later row, which ended a day before
  pub earlier-day : is_listed 400 (after (but_two 5 100 40 99)) ≡ false
  pub later-day : is_listed 50 (after (but_two 5 100 40 99)) ≡ true
  -- "the smallest login among equals"
  pub smaller : is_listed 200 (after (but_two 20 99 21 99)) ≡ false
  pub greater : is_listed 210 (after (but_two 20 99 21 99)) ≡ true
  -- where the granted login is listed, and where a row is unused, none goes
  pub replaced : is_listed 200 (reply (but 20 100) (grant_of 500 130) two_votes).node.state.logins ≡ true
  pub unused : is_listed 200
      (deliver_of (started (with_logins (end_login 640 (logins (but 20 100))) first_state)) (announce 1 101 grant501) two_votes).node.state.logins ≡ true
  -- 11 before 14; and 14 where a row would go
  pub full-first : (reply (but 20 101) (grant_of 501 100) two_votes).answer ≡ Refused 11
  pub ended-before : (reply (but 20 100) (grant_of 501 100) two_votes).answer ≡ Refused 14
  -- a vote keeps the list
  pub voted : (reply (but 20 100) grant501 unvoted).answer ≡ Voted
  pub kept-by-vote : (reply (but 20 100) grant501 unvoted).node.state.logins ≡ logins (but 20 100)
  -- the evicted login is not listed, can't be ended, and can be granted again once a row is over
  pub not_listed : (query_of evicted200 (query 200 101 0)).answer ≡ Query.Refused 19
  pub not-ended : (deliver_of evicted200 (announce 2 101 (End 200)) two_votes).answer ≡ Refused 13
  pub full-again : (deliver_of evicted200 (announce 2 120 (grant_of 200 130)) two_votes).answer ≡ Refused 11
  pub granted-again : (deliver_of evicted200 (announce 2 121 (grant_of 200 130)) two_votes).answer ≡ Done
