-- The claims of what a performed announcement leaves.
use mathlib.Core.Path.{◌≡◌, refl, sym, ap, ◌∙◌}
use mathlib.Core.Logic.{◌≢◌}
use mathlib.Core.Bool.{Bool, true, false, false≢true}
use Prim.Native.Nat.{ℕ, ◌+◌, ◌^◌, ◌<◌}
use native.Mathlib.Numerals.{add-one}
use native.Mathlib.Omega.{arith}
use borrow.Author.Tests.{eqb-true, lt-ltb}
use Rattle.lists.proofs.Every.{set_keeps}
use Rattle.state.specs.declared.Cycle.{Cycle}
use Rattle.state.specs.declared.Seat.{Seat}
use Rattle.state.specs.Time.{cycle, last_cycle, next_cycle}
use Rattle.state.specs.Seats.{free, free_seat, seat_at, set_seat}
use Rattle.tables.specs.Logins.{is_named, is_listed}
use Rattle.tables.proofs.LoginTable.{unlisted-grant, unlisted-end, unlisted-ended}
use Rattle.records.specs.declared.Action.{Action}
use Rattle.records.specs.declared.Action.TheVariants.{Propose, Cancel, Presents, Certify, Minima, Remove, Rejoin, Grant, End}
use Rattle.actions.specs.Perform.{with_standing, with_life, effect, use_proposal, act, advance, without_lapsed, perform}
use Rattle.actions.specs.Claims.{KeepsWellFormed, AlwaysAdvances, NeverFrees, EndDrops, IsGrantOf, OnlyGrantAdds}
use Rattle.rules.proofs.Passed.{in-time, action-passes}
use Rattle.actions.proofs.Sound.{sound-of, sound-to, sound-later, without-lapsed}
use Rattle.actions.proofs.Kept.{act-kept}

-- A cycle that is not the last has one after it.
next-cycle : (c : Cycle) → c.0 < 2 ^ 32 → c.0 ≢ last_cycle.0 → next_cycle c ≡ cycle (c.0 + 1)
next-cycle c h n = rw (lt-ltb c.0 last_cycle.0 (omega arith))

-- Where no rule applies, the state that an announcement leaves is well formed.
pub keeps-well-formed : KeepsWellFormed
unfolding perform advance
keeps-well-formed s a mask1 mask2 w r p =
    let t = in-time s a p.time in
    let seen = without_lapsed a.day s in
    let before = without-lapsed (sound-of s w) a.day in
    let high = w.fits.0.0.0 in
    let q = action-passes seen a.day mask1 mask2 a.action p.action in
    rw (next-cycle s.cycle high t.not_last)
    (sound-to (act-kept seen a.day before (sound-later before (omega arith) t.day) a.action high r.day r.action q.checked)
    (omega arith) (let n = t.not_last in omega arith) r.day)

-- It is in the next cycle, on the announced day.
pub always-advances : AlwaysAdvances
unfolding perform advance
always-advances s a w e =
    let t = in-time s a e in
    record {
      this = ap cycle t.cycle;
      next = ap (λ (c : Cycle). c.0) (next-cycle s.cycle w.fits.0.0.0 t.not_last) ∙ add-one s.cycle.0;
      day = refl;
      not-before = t.day;
    }

-- A seat that is not free is not freed.
pub never-frees : NeverFrees
unfolding perform advance act with_standing with_life effect use_proposal
never-frees s a i n = after a.action
  where
    after-set : (j : ℕ) (x : Seat) → (i ≡ j → x.standing ≢ free) → (seat_at i (set_seat j x.standing x.life s.seats)).standing ≢ free
    after-set j x f = set_keeps (λ (y : Seat). y.standing ≢ free) s.seats i j x free_seat f n

    after : (x : Action) → (seat_at i (act (without_lapsed a.day s) a.day x).seats).standing ≢ free
    after (Propose x) = n
    after (Cancel c) = n
    after (Presents j true) = after-set j _ (λ e z. omega arith)
    after (Presents j false) = after-set j _ (λ e z. omega arith)
    after (Certify j life) = after-set j _ (λ e z. omega arith)
    after (Minima x) = n
    after (Remove j) = after-set j _ (λ e z. omega arith)
    after (Rejoin j life) = after-set j _ (λ e. rw (← e) n)
    after (Grant x) = n
    after (End login) = n

-- An ended login is not listed.
pub end-drops : EndDrops
unfolding perform advance act effect use_proposal
end-drops s a login e = rw e (unlisted-ended login s.logins)

-- A login that is listed afterwards and was not before has been granted.
pub only-grant-adds : OnlyGrantAdds
unfolding perform advance act with_standing with_life effect use_proposal
only-grant-adds s a login n = after a.action refl
  where
    same : is_listed login s.logins ≡ true → IsGrantOf login a
    same t = absurd (false≢true (sym n ∙ t))

    after : (x : Action) → a.action ≡ x → is_listed login (act (without_lapsed a.day s) a.day x).logins ≡ true → IsGrantOf login a
    after (Propose x) e t = same t
    after (Cancel c) e t = same t
    after (Presents j flag) e t = same t
    after (Certify j life) e t = same t
    after (Minima x) e t = same t
    after (Remove j) e t = same t
    after (Rejoin j life) e t = same t
    after (Grant x) e t = named (is_named login x) refl
      where
        named : (b : Bool) → is_named login x ≡ b → IsGrantOf login a
        named true q = record { row = x; grants = e; named = eqb-true _ _ q }
        named false q = absurd (false≢true (sym (unlisted-grant login x s.logins q n) ∙ t))
    after (End ended) e t = absurd (false≢true (sym (unlisted-end login ended s.logins n) ∙ t))
