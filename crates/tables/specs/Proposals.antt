-- "at most 16 proposals"
use Rattle.std.specs.Prelude.{ℕ, ◌-◌, List, Bool, not, ◌&&◌, eqb, ltb, leb, get_or}
use Rattle.lists.specs.Fold.{any, first}
use Rattle.lists.specs.Table.{keep, fill, replace_first}
use Rattle.state.specs.declared.Day.{Day}
use Rattle.state.specs.declared.Cycle.{Cycle}
use Rattle.state.specs.declared.Subject.{Subject}
use Rattle.state.specs.declared.Notices.{Notices}
use Rattle.state.specs.declared.Proposal.{Proposal}
use Rattle.state.specs.declared.State.{State}
use Rattle.state.specs.Limits.{proposal_rows}
use Rattle.state.specs.Time.{days_since, is_same_cycle}
use Rattle.state.specs.Minima.{notice_days}
use Rattle.state.specs.Rows.{no_proposal, is_proposal}

-- the last row is used
abbrev pub proposals_full : List Proposal → Bool
proposals_full rows = is_proposal (get_or rows (proposal_rows - 1) no_proposal)

-- "adds a proposal": in the first unused row, after all others
unfoldable pub add_proposal : Proposal → List Proposal → List Proposal
add_proposal x rows = replace_first (λ r. not (is_proposal r)) x rows

abbrev pub is_of_cycle : Cycle → Proposal → Bool
is_of_cycle c r = is_proposal r && is_same_cycle r.cycle c

unfoldable pub has_proposal : Cycle → List Proposal → Bool
has_proposal c rows = any (is_of_cycle c) rows

-- "drops that cycle's proposal"; "Freed rows are used again."
unfoldable pub drop_proposal : Cycle → List Proposal → List Proposal
drop_proposal c rows = fill proposal_rows no_proposal (keep (λ r. not (is_of_cycle c r)) rows)

-- "A proposal is now ripe from 7 to 60 days and lapses on day 61.": of announced day minus proposal day; the 7 are the ordinary notice (02, A7), and 60
-- days are the most whatever the notice
abbrev pub valid_days : ℕ
valid_days = 60

-- a proposal that has lapsed by the announced day
abbrev pub is_lapsed : Day → Proposal → Bool
is_lapsed announced r = is_proposal r && ltb valid_days (days_since announced r.day)

-- "Lapsed rows, judged by the announced day, are dropped"
unfoldable pub drop_lapsed : Day → List Proposal → List Proposal
drop_lapsed announced rows = fill proposal_rows no_proposal (keep (λ r. not (is_lapsed announced r)) rows)

-- a proposal of this subject that is mature (01: ripe) on the announced day, in a table without lapsed rows, where these notices are in force
abbrev pub is_mature : Notices → Subject → Day → Proposal → Bool
is_mature notices x announced r =
    eqb r.subject.kind x.kind
    && (eqb r.subject.arguments x.arguments && leb (notice_days notices x.kind) (days_since announced r.day))

-- "the ripe proposal of lowest cycle with the same kind and arguments", or an unused row: the first, for the rows rise by cycle
unfoldable pub mature_proposal : Notices → Subject → Day → List Proposal → Proposal
mature_proposal notices x announced rows = first (is_mature notices x announced) no_proposal rows

-- that of a state
abbrev pub notice_in : State → Subject → Day → Proposal
notice_in s x announced = mature_proposal s.minima.notices x announced s.proposals
