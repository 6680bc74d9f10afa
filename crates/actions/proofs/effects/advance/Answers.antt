use Prim.Native.Nat.{◌≤◌}
use mathlib.Core.Path.{◌≡◌, ap, ◌∙◌}
use mathlib.Core.List.{List}
use native.Mathlib.Omega.{arith}
use lib.ListN.{length}
use Rattle.lists.proofs.Tables.{mapped-length}
use Rattle.state.specs.declared.Seat.{Seat}
use Rattle.state.specs.Limits.{seat_count}
use Rattle.state.specs.Time.{next_cycle}
use Rattle.state.specs.Update.{with}
use Rattle.actions.specs.Perform.{advance}
use Rattle.records.specs.Actions.{seat_of}
use Rattle.actions.specs.Code.{minima_after}
use Rattle.actions.proofs.Parts.{begun, unset, at-grant, at-end, elsewhere}
use borrow.Author.Rules.{rules}
use Rattle.actions.proofs.effects.advance.Goals.{Joined-at-lt-SEATS, else-at-lt-SEATS, then-at-lt-SEATS}
use Rattle.actions.proofs.effects.advance.Goals as goal

-- the state once its time, minima and seats are changed
begins : (c : Joined-at-lt-SEATS) → c.if-at-lt-SEATS.out ≡ begun c.args.s c.args.a.day c.args.a.action
begins c =
    let s = c.args.s in
    let d = c.args.a.day in
    let x = c.args.a.action in
    let rows : length s.seats ≡ seat_count = search (rules, mapped-length) in
    elim c.if-at-lt-SEATS.branch [
      | then-at-lt-SEATS w ↦
          w.out-is ∙ rw (c.next-out.ensures, c.minima_after-out.ensures, w.seat_after.ensures, c.seat-at.ensures, c.requires.seats.1.1)
      | else-at-lt-SEATS w ↦
          let beyond : length s.seats ≤ seat_of x = omega (arith, rows, w.if-at-lt-SEATS.false, c.seat-at.ensures) in
          w.out-is ∙ rw (c.next-out.ensures, c.minima_after-out.ensures)
          (ap (λ (seats : List Seat). with (next_cycle s.cycle) d (minima_after s.minima x) seats s.proposals s.logins s)
          (unset s d (seat_of x) _ beyond))
    ]

pub returns-in-Grant : goal.returns-in-Grant
unfolding advance
returns-in-Grant c =
    let a = c.args in
    let rows : length a.s.seats ≡ seat_count = search (rules, mapped-length) in
    let e = begins (goal.at.returns-in-Grant c).Joined-at-lt-SEATS ∙ ap (begun a.s a.a.day) c.in-Grant.is in
    rw c.in-Grant.is (at-grant a.s a.a.day rows _ c.if-at-lt-SEATS.out _ e c.grant_login-out.ensures)

pub returns-in-End : goal.returns-in-End
unfolding advance
returns-in-End c =
    let a = c.args in
    let rows : length a.s.seats ≡ seat_count = search (rules, mapped-length) in
    let e = begins (goal.at.returns-in-End c).Joined-at-lt-SEATS ∙ ap (begun a.s a.a.day) c.in-End.is in
    rw c.in-End.is (at-end a.s a.a.day rows _ c.if-at-lt-SEATS.out _ e c.end_login-out.ensures)

pub returns : goal.returns
unfolding advance
returns c =
    let a = c.args in
    let rows : length a.s.seats ≡ seat_count = search (rules, mapped-length) in
    elsewhere a.s a.a.day rows a.a.action a.found c.if-at-lt-SEATS.out _ c.in_default.not-Grant c.in_default-action.not-End
    c.requires.notice (begins (goal.at.returns c).Joined-at-lt-SEATS) c.proposals_after-out.ensures
