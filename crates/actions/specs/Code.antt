-- Words of the code's contracts: an action by what it leaves of each part of a state. Nothing of the paper.
use Rattle.std.specs.Prelude.{List, cond, eqb}
use Rattle.state.specs.declared.Day.{Day}
use Rattle.state.specs.declared.Cycle.{Cycle}
use Rattle.state.specs.declared.Minima.{Minima}
use Rattle.state.specs.declared.Seat.{Seat}
use Rattle.state.specs.declared.Proposal.{Proposal}
use Rattle.state.specs.Minima.{set_over}
use Rattle.state.specs.Seats.{certified, present, retired}
use Rattle.tables.specs.Proposals.{add_proposal, drop_proposal}
use Rattle.records.specs.declared.Action.{Action}
use Rattle.records.specs.declared.Action.TheVariants as case
use Rattle.records.specs.Actions.{subject_of}

-- the seat that the action names
abbrev pub seat_after : Seat → Action → Seat
seat_after seat (case.Propose x) = seat
seat_after seat (case.Cancel c) = seat
seat_after seat (case.Presents i flag) = record { standing = cond flag present certified; life = seat.life }
seat_after seat (case.Certify i life) = record { standing = certified; life = life }
seat_after seat (case.Minima x) = seat
seat_after seat (case.Remove i) = record { standing = retired; life = seat.life }
seat_after seat (case.Rejoin i life) = record { standing = seat.standing; life = life }
seat_after seat (case.Grant x) = seat
seat_after seat (case.End login) = seat

abbrev pub minima_after : Minima → Action → Minima
minima_after minima (case.Propose x) = minima
minima_after minima (case.Cancel c) = minima
minima_after minima (case.Presents i flag) = minima
minima_after minima (case.Certify i life) = minima
minima_after minima (case.Minima x) = set_over minima x
minima_after minima (case.Remove i) = minima
minima_after minima (case.Rejoin i life) = minima
minima_after minima (case.Grant x) = minima
minima_after minima (case.End login) = minima

-- the proposals without the notice, of that cycle, of an action that has a subject
abbrev pub used_up : List Proposal → Cycle → Action → List Proposal
used_up rows notice x = cond (eqb (subject_of x).kind 0) rows (drop_proposal notice rows)

-- the proposals, in cycle c and for an action that is announced on day d, whose notice is of that cycle
abbrev pub proposals_after : List Proposal → Cycle → Cycle → Day → Action → List Proposal
proposals_after rows notice c d (case.Propose x) = add_proposal (record { cycle = c; day = d; subject = x }) rows
proposals_after rows notice c d (case.Cancel x) = drop_proposal x rows
proposals_after rows notice c d (case.Presents i flag) = used_up rows notice (case.Presents i flag)
proposals_after rows notice c d (case.Certify i life) = used_up rows notice (case.Certify i life)
proposals_after rows notice c d (case.Minima x) = used_up rows notice (case.Minima x)
proposals_after rows notice c d (case.Remove i) = used_up rows notice (case.Remove i)
proposals_after rows notice c d (case.Rejoin i life) = used_up rows notice (case.Rejoin i life)
proposals_after rows notice c d (case.Grant x) = used_up rows notice (case.Grant x)
proposals_after rows notice c d (case.End login) = used_up rows notice (case.End login)
