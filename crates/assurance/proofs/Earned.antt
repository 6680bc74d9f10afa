-- The double-voter bound, from what honest nodes do.
use mathlib.Core.Path.{◌≡◌, refl, sym, ◌∙◌}
use mathlib.Core.Logic.{◌⊎◌, inl, inr}
use mathlib.Core.Bool.{true, ◌&&◌, and-eq-true_iff}
use mathlib.Core.List.{List, Memᴰ}
use Prim.Native.Nat.{ℕ}
use native.Mathlib.Omega.{arith}
use Rattle.state.specs.declared.State.{State}
use Rattle.state.specs.Seats.{free_seat, seat_at}
use Rattle.records.specs.declared.Announcement.{Announcement}
use Rattle.records.specs.Sheet.{Row, rows_of, counts, counted_on_both}
use Rattle.agreement.specs.History.{History, Moment}
use Rattle.agreement.specs.Claims.{Park, EquivocationBound}
use Rattle.agreement.specs.Chain.{Step}
use Rattle.agreement.proofs.Demand.{taken, demand-3}
use Rattle.assurance.specs.Earned.{VoteOf, GoesOn, Steady, HonestVote, Honest, Earned}
use Rattle.lists.proofs.Members.{at_most}
use Rattle.assurance.proofs.Votes.{one-vote, same-call}

module _ (first : List ℕ) (calls : History) (park : Park first calls)
    (honest : (s : State) (a : Announcement) → Step calls s a → Honest calls s) where
  -- two votes of a steady seat in one cycle are for the same bytes
  steady-vote : (i life c : ℕ) (ab bb : List ℕ) → Steady calls i life c → (t u : Moment) → VoteOf calls i life c ab t → VoteOf calls i life c bb u
      → ab ≡ bb
  steady-vote i life c ab bb steady t u v w = at (steady ab bb t u v w)
    where
      at : (t ≡ u) ⊎ (GoesOn calls t u v w ⊎ GoesOn calls u t w v) → ab ≡ bb
      at (inl e) = same-call t u e v.voted w.voted
      at (inr (inl g)) =
          one-vote first calls park t u v.host w.host v.node w.node ab bb v.in_list w.in_list v.voted w.voted
          g.host (w.own-cycle ∙ sym v.own-cycle) g.between
      at (inr (inr g)) =
          sym (one-vote first calls park u t w.host v.host w.node v.node bb ab w.in_list v.in_list w.voted v.voted
          g.host (v.own-cycle ∙ sym w.own-cycle) g.between)

  bound : EquivocationBound calls
  unfolding counted_on_both
  bound p q same differ = omega (arith, h.few, at_most (λ i x. counts one i x && counts other i x) free_seat s.seats h.faulty both)
    where
      s : State
      s = p.state

      one : List Row
      one = rows_of p.sheet

      other : List Row
      other = rows_of q.sheet

      h : Honest calls s
      h = honest s p.announcement (taken p)

      both : (i : ℕ) → (counts one i (seat_at i s.seats) && counts other i (seat_at i s.seats)) ≡ true → Memᴰ i h.faulty
      both i e = at (h.others p refl i c.0) (h.others q (sym same) i c.1)
        where
          c : (counts one i (seat_at i s.seats) ≡ true) × (counts other i (seat_at i s.seats) ≡ true)
          c = (and-eq-true_iff (counts one i (seat_at i s.seats)) (counts other i (seat_at i s.seats))).0 e

          Vote : List ℕ → Type 0
          Vote x = HonestVote calls i (seat_at i s.seats).life s.cycle.0 x

          at : Memᴰ i h.faulty ⊎ Vote p.bytes → Memᴰ i h.faulty ⊎ Vote q.bytes → Memᴰ i h.faulty
          at (inl f) w = f
          at (inr v) (inl f) = f
          at (inr v) (inr w) =
              let seat = seat_at i s.seats in
              absurd (differ (steady-vote i seat.life s.cycle.0 p.bytes q.bytes v.steady v.moment w.moment v.vote w.vote))

pub earned : Earned
earned first calls park honest = let b = bound first calls park honest in (b, demand-3 first calls park b)
