-- A state with some of its fields set to other values.
use Rattle.std.specs.Prelude.{List}
use Rattle.state.specs.declared.Day.{Day}
use Rattle.state.specs.declared.Cycle.{Cycle}
use Rattle.state.specs.declared.Minima.{Minima}
use Rattle.state.specs.declared.Seat.{Seat}
use Rattle.state.specs.declared.Proposal.{Proposal}
use Rattle.state.specs.declared.Login.{Login}
use Rattle.state.specs.declared.State.{State}

-- the same numbers of trustees, which no action changes
abbrev pub with : Cycle → Day → Minima → List Seat → List Proposal → List Login → State → State
with c d minima seats proposals logins s = record {
  cycle = c;
  day = d;
  trustees1 = s.trustees1;
  trustees2 = s.trustees2;
  minima = minima;
  seats = seats;
  proposals = proposals;
  logins = logins;
}

abbrev pub with_time : Cycle → Day → State → State
with_time c d s = with c d s.minima s.seats s.proposals s.logins s

abbrev pub with_minima : Minima → State → State
with_minima minima s = with s.cycle s.day minima s.seats s.proposals s.logins s

abbrev pub with_seats : List Seat → State → State
with_seats seats s = with s.cycle s.day s.minima seats s.proposals s.logins s

abbrev pub with_proposals : List Proposal → State → State
with_proposals proposals s = with s.cycle s.day s.minima s.seats proposals s.logins s

abbrev pub with_logins : List Login → State → State
with_logins logins s = with s.cycle s.day s.minima s.seats s.proposals logins s
