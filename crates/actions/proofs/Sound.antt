-- A well-formed state in its parts, and each part set anew.
use mathlib.Core.Path.{◌≡◌, refl, ◌∙◌}
use mathlib.Core.Bool.{Bool, true, cond, ◌&&◌, and-eq-true_iff}
use mathlib.Core.List.{List}
use Prim.Native.Nat.{ℕ, ◌+◌, ◌^◌, ◌≤◌, ◌<◌}
use native.Mathlib.Omega.{arith}
use lib.Dec.{eqb, leb}
use lib.ListN.{length, length-set}
use borrow.Author.Tests.{leb-true, le-leb, lt-ltb}
use Rattle.lists.specs.Fold.{all}
use Rattle.lists.specs.Table.{keep, fill}
use Rattle.lists.proofs.Every.{All, all_map, all_set, all_get_d}
use Rattle.lists.proofs.Count.{count-length}
use Rattle.lists.proofs.Tables.{IsTable, table-drop}
use Rattle.state.specs.declared.Day.{Day}
use Rattle.state.specs.declared.Cycle.{Cycle}
use Rattle.state.specs.declared.Minima.{Minima}
use Rattle.state.specs.declared.Seat.{Seat}
use Rattle.state.specs.declared.Proposal.{Proposal}
use Rattle.state.specs.declared.Login.{Login}
use Rattle.state.specs.declared.State.{State}
use Rattle.state.specs.Limits.{seat_count, proposal_rows, login_rows}
use Rattle.state.specs.Time.{cycle, is_before_cycle}
use Rattle.state.specs.Minima.{is_in_range, is_in_force, set_over}
use Rattle.state.specs.Update.{with, with_time, with_minima, with_seats, with_proposals, with_logins}
use Rattle.state.specs.Seats.{present, seat_at, set_seat, is_present, present_seats, quorum, quorum_of}
use Rattle.state.specs.Rows.{no_proposal, is_proposal, no_login, is_login}
use Rattle.tables.specs.Proposals.{drop_proposal, drop_lapsed}
use Rattle.state.specs.WellFormed.{is_trustee_count, cycle_of, is_well_formed_seat, is_well_formed_proposal, is_well_formed_login}
use Rattle.state.specs.WellFormed.{are_well_formed_proposals, are_well_formed_logins, is_well_formed}
use Rattle.state.proofs.MinimaRanges.{in-force, set-in-force}
use Rattle.state.proofs.SeatLaws.{present-set}
use Rattle.state.proofs.ProposalRows.{proposal-ages}
use Rattle.checkpoint.specs.Format as format
use Rattle.actions.specs.Perform.{without_lapsed}
use Rattle.actions.specs.Claims.{WellFormed}
use Rattle.actions.proofs.FittingRows.{Good, rows_of, rows_fit, rows_ok, table_of, table_to}

-- Each table with the number of its rows, its order, and what each row is.
abbrev pub GoodSeat : Seat → Type 0
GoodSeat = Good format.seat is_well_formed_seat

abbrev pub SeatTable : List Seat → Type 0
SeatTable seats = (length seats ≡ seat_count) × All GoodSeat seats

abbrev pub ProposalTable : Cycle → Day → List Proposal → Type 0
ProposalTable c d = IsTable is_proposal cycle_of 0 proposal_rows (Good format.proposal (is_well_formed_proposal c d))

abbrev pub GoodLogin : Login → Type 0
GoodLogin = Good format.login is_well_formed_login

abbrev pub LoginTable : List Login → Type 0
LoginTable = IsTable is_login (λ r. r.login) 1 login_rows GoodLogin

-- An unused row is as all others.
pub no-login-good : GoodLogin no_login
no-login-good = ((omega arith, (omega arith, omega arith)), refl)

-- All of a well-formed state but its cycle and day: its proposals are those of a state of cycle c and day d.
pub record Sound (c : Cycle) (d : Day) (s : State) : Type 0 where
  pub trustees : (s.trustees1 < 256) × (s.trustees2 < 256)
  pub minima : (format.minima format.notices).Fits s.minima
  pub ranges : (is_trustee_count s.trustees1 && (is_trustee_count s.trustees2 && is_in_force s.minima)) ≡ true
  pub seats : SeatTable s.seats
  pub enough : quorum_of s ≤ present_seats s.seats
  pub proposals : ProposalTable c d s.proposals
  pub logins : LoginTable s.logins

-- The quorum is at most the number of present seats that results where seat i gets this standing.
abbrev pub EnoughWith : State → ℕ → ℕ → Type 0
EnoughWith s i standing =
    (p : ℕ) → p + cond (is_present (seat_at i s.seats)) 1 0 ≡ present_seats s.seats + cond (eqb standing present) 1 0 → quorum p
    s.minima.margin s.minima.least ≤ p

-- A well-formed state has these parts.
pub sound-of : (s : State) → WellFormed s → Sound s.cycle s.day s
unfolding is_well_formed are_well_formed_proposals are_well_formed_logins
sound-of s w =
    let head = w.fits.0 in
    let tables = w.fits.1 in
    let e1 = (and-eq-true_iff (is_before_cycle (cycle 0) s.cycle) _).0 w.well-formed in
    let e2 = (and-eq-true_iff (is_trustee_count s.trustees1 && (is_trustee_count s.trustees2 && is_in_force s.minima)) _).0 e1.1 in
    let e3 = (and-eq-true_iff (all is_well_formed_seat s.seats) _).0 e2.1 in
    let e4 = (and-eq-true_iff (leb (quorum_of s) (present_seats s.seats)) _).0 e3.1 in
    let e5 = (and-eq-true_iff (are_well_formed_proposals s.cycle s.day s.proposals) _).0 e4.1 in
    record {
      trustees = head.1.0;
      minima = head.1.1;
      ranges = e2.0;
      seats = rows_of format.seat is_well_formed_seat seat_count s.seats tables.0 e3.0;
      enough = leb-true _ _ e4.0;
      proposals = table_of format.proposal (is_well_formed_proposal s.cycle s.day) _ _ _ _ _ tables.1.0.1 e5.0;
      logins = table_of format.login is_well_formed_login _ _ _ _ _ tables.1.1.1 e5.1;
    }

-- Its logins are in order.
pub login-order : (s : State) → WellFormed s → are_well_formed_logins s.logins ≡ true
unfolding are_well_formed_logins
login-order s w = (table_to format.login is_well_formed_login _ _ _ _ _ (sound-of s w).logins).1

-- Its minima are in force.
in-force-of : {c : Cycle} {d : Day} {s : State} → Sound c d s → is_in_force s.minima ≡ true
in-force-of {s = s} h =
    let e1 = (and-eq-true_iff (is_trustee_count s.trustees1) _).0 h.ranges in
    ((and-eq-true_iff (is_trustee_count s.trustees2) _).0 e1.1).1

pub well-formed-in-force : (s : State) → WellFormed s → is_in_force s.minima ≡ true
well-formed-in-force s w = in-force-of (sound-of s w)

module _ {c : Cycle} {d : Day} {s : State} (h : Sound c d s) where
  -- With that cycle and day it is well formed.
  pub sound-to : 1 ≤ c.0 → c.0 < 2 ^ 32 → d.0 < 2 ^ 32 → WellFormed (with_time c d s)
  unfolding is_well_formed are_well_formed_proposals are_well_formed_logins quorum_of
  sound-to low high day-high =
      let ps = table_to format.proposal (is_well_formed_proposal c d) _ _ _ _ _ h.proposals in
      let ls = table_to format.login is_well_formed_login _ _ _ _ _ h.logins in
      let np = count-length is_proposal s.proposals in
      let nl = count-length is_login s.logins in
      let sp = h.proposals.size in
      let sl = h.logins.size in
      let t = h.trustees in
      let m = h.minima in
      let seats = rows_fit format.seat is_well_formed_seat h.seats.0 h.seats.1 in
      record {
        fits = (((high, day-high), (t, m)), (seats, ((omega arith, ps.0), (omega arith, ls.0))));
        well-formed =
            rw (lt-ltb 0 c.0 (omega arith), h.ranges, rows_ok format.seat is_well_formed_seat h.seats.1, le-leb _ _ h.enough, ps.1)
            ls.1;
      }

  -- The tables set to others.
  with-tables : {c' : Cycle} {d' : Day} (seats : List Seat) (ps : List Proposal) (ls : List Login) → SeatTable seats
      → quorum (present_seats seats) s.minima.margin s.minima.least ≤ present_seats seats → ProposalTable c' d' ps → LoginTable ls
      → Sound c' d' (with s.cycle s.day s.minima seats ps ls s)
  unfolding quorum_of
  with-tables seats ps ls g q t u =
      record { trustees = h.trustees; minima = h.minima; ranges = h.ranges; seats = g; enough = q; proposals = t; logins = u }

  -- Proposals stay well formed as time goes on.
  pub sound-later : {c' : Cycle} {d' : Day} → c.0 ≤ c'.0 → d.0 ≤ d'.0 → Sound c' d' s
  unfolding quorum_of
  sound-later lc ld =
      let t = h.proposals in
      with-tables s.seats s.proposals s.logins h.seats h.enough
      (record { size = t.size; rising = t.rising; each = all_map (λ r g. (g.0, proposal-ages r lc ld g.1)) t.each }) h.logins

  -- Each part set anew: the proposals, one proposal dropped, the lapsed ones dropped, the logins, a seat, the minima.
  pub with-proposals : (ps : List Proposal) → ProposalTable c d ps → Sound c d (with_proposals ps s)
  unfolding quorum_of
  with-proposals ps t = with-tables s.seats ps s.logins h.seats h.enough t h.logins

  with-kept : (p : Proposal → Bool) → Sound c d (with_proposals (fill proposal_rows no_proposal (keep p s.proposals)) s)
  with-kept p = with-proposals _ (table-drop h.proposals p no_proposal refl (((omega arith, omega arith), (omega arith, omega arith)), refl))

  pub with-dropped : (x : Cycle) → Sound c d (with_proposals (drop_proposal x s.proposals) s)
  unfolding drop_proposal
  with-dropped x = with-kept _

  pub without-lapsed : (x : Day) → Sound c d (without_lapsed x s)
  unfolding drop_lapsed
  without-lapsed x = with-kept _

  pub with-logins : (ls : List Login) → LoginTable ls → Sound c d (with_logins ls s)
  unfolding quorum_of
  with-logins ls t = with-tables s.seats s.proposals ls h.seats h.enough h.proposals t

  pub with-seat : (i standing life : ℕ) → i < seat_count → GoodSeat (record { standing = standing; life = life }) → EnoughWith s i standing
      → Sound c d (with_seats (set_seat i standing life s.seats) s)
  with-seat i standing life l g q =
      with-tables (set_seat i standing life s.seats) s.proposals s.logins
      (length-set s.seats i _ ∙ h.seats.0, all_set i h.seats.1 g)
      (q _ (present-set s.seats i standing life (let k = h.seats.0 in omega arith))) h.proposals h.logins

  pub with-minima : (x : Minima) → is_in_range x ≡ true → quorum (present_seats s.seats) x.margin x.least ≤ present_seats s.seats → Sound c d
      (with_minima (set_over s.minima x) s)
  unfolding quorum_of
  with-minima x r q =
      let e1 = (and-eq-true_iff (is_trustee_count s.trustees1) _).0 h.ranges in
      let e2 = (and-eq-true_iff (is_trustee_count s.trustees2) _).0 e1.1 in
      let f = set-in-force s.minima x (in-force-of h) r in
      let k = in-force (set_over s.minima x) f in
      let n = k.ranges in
      record {
        trustees = h.trustees;
        minima = (omega arith, (omega arith, (omega arith, (omega arith, omega arith))));
        ranges = rw (e1.0, e2.0, f);
        seats = h.seats;
        enough = q;
        proposals = h.proposals;
        logins = h.logins;
      }

  -- Any seat of it is good.
  pub seat-good : (i : ℕ) → GoodSeat (seat_at i s.seats)
  seat-good i = all_get_d i h.seats.1 ((omega arith, omega arith), refl)
