-- The parts of a state that the code computes, joined to the definition of what an announcement leaves.
use Prim.Native.Nat.{ℕ, ◌≤◌}
use mathlib.Core.Path.{◌≡◌, refl, sym, ap, ◌∙◌}
use mathlib.Core.List.{List}
use native.Mathlib.Omega.{arith}
use lib.ListN.{length, set}
use lib.Seq.{set_out}
use Rattle.state.specs.declared.Day.{Day}
use Rattle.state.specs.declared.Seat.{Seat}
use Rattle.state.specs.declared.Proposal.{Proposal}
use Rattle.state.specs.declared.Login.{Login}
use Rattle.state.specs.declared.State.{State}
use Rattle.state.specs.Limits.{seat_count}
use Rattle.state.specs.Time.{next_cycle}
use Rattle.state.specs.Seats.{seat_at}
use Rattle.state.specs.Update.{with, with_time, with_proposals, with_logins}
use Rattle.tables.specs.Proposals.{notice_in}
use Rattle.tables.specs.Logins.{grant_login, end_login}
use Rattle.records.specs.declared.Action.{Action}
use Rattle.records.specs.declared.Action.TheVariants as case
use Rattle.records.specs.Actions.{subject_of, seat_of}
use Rattle.rules.specs.declared.Found.{Found}
use Rattle.rules.specs.Code.{FindsNotice}
use Rattle.actions.specs.Perform.{with_standing, with_life, effect, use_proposal, act}
use Rattle.actions.specs.Code.{seat_after, minima_after, proposals_after}

module _ (s : State) (d : Day) where
  -- what the action leaves
  abbrev pub left : Action → State
  left x = with_time (next_cycle s.cycle) d (act s d x)

  -- the seats, with the one that the action names as it leaves it
  abbrev pub seats_after : Action → List Seat
  seats_after x = set s.seats (seat_of x) (seat_after (seat_at (seat_of x) s.seats) x)

  -- the state with its time, minima and seats changed, and then also its proposals
  abbrev pub begun : Action → State
  begun x = with (next_cycle s.cycle) d (minima_after s.minima x) (seats_after x) s.proposals s.logins s

  abbrev finished : Action → State
  finished x =
      let notice = notice_in s (subject_of x) d in
      with_proposals (proposals_after s.proposals notice.cycle s.cycle d x) (begun x)

  -- a seat beyond the last is not listed
  pub unset : (i : ℕ) (seat : Seat) → length s.seats ≤ i → s.seats ≡ set s.seats i seat
  unset i seat h = sym (set_out s.seats i seat h)

  module _ (long : length s.seats ≡ seat_count) where
    unnamed : (seat : Seat) → set s.seats seat_count seat ≡ s.seats
    unnamed seat = set_out s.seats seat_count seat (omega (arith, long))

    pub at-grant : (x : Login) (o : State) (rows : List Login) → o ≡ begun (case.Grant x) → rows ≡ grant_login x s.logins
        → with_logins rows o ≡ left (case.Grant x)
    unfolding act use_proposal effect
    at-grant x o rows e h = rw (h, e, unnamed)

    pub at-end : (login : ℕ) (o : State) (rows : List Login) → o ≡ begun (case.End login) → rows ≡ end_login login s.logins
        → with_logins rows o ≡ left (case.End login)
    unfolding act use_proposal effect
    at-end login o rows e h = rw (h, e, unnamed)

    -- the other actions
    at-proposals : (x : Action) → ((r : Login) → x ≡ case.Grant r → ⊥) → ((l : ℕ) → x ≡ case.End l → ⊥) → finished x ≡ left x
    unfolding act use_proposal effect with_standing with_life
    at-proposals (case.Propose x) g e = rw unnamed
    at-proposals (case.Cancel x) g e = rw unnamed
    at-proposals (case.Presents i flag) g e = refl
    at-proposals (case.Certify i life) g e = refl
    at-proposals (case.Minima x) g e = rw unnamed
    at-proposals (case.Remove i) g e = refl
    at-proposals (case.Rejoin i life) g e = refl
    at-proposals (case.Grant x) g e = absurd (g x refl)
    at-proposals (case.End login) g e = absurd (e login refl)

    pub elsewhere : (x : Action) (f : Found) (o : State) (rows : List Proposal) → ((r : Login) → x ≡ case.Grant r → ⊥)
        → ((l : ℕ) → x ≡ case.End l → ⊥) → FindsNotice s d x f → o ≡ begun x
        → rows ≡ proposals_after s.proposals f.notice.cycle s.cycle d x → with_proposals rows o ≡ left x
    elsewhere x f o rows g e found b h =
        let q = h ∙ ap (λ (n : Proposal). proposals_after s.proposals n.cycle s.cycle d x) found in
        rw (q, b) (at-proposals x g e)
