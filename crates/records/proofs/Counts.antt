-- What a count of seats tells.
use mathlib.Core.Path.{◌≡◌}
use mathlib.Core.Bool.{Bool, true, false, cond, ◌&&◌, and-eq-true_iff}
use mathlib.Core.List.{List, [], ◌∷◌}
use Prim.Native.Nat.{ℕ, suc, ◌+◌, ◌≤◌}
use native.Mathlib.Omega.{arith}
use lib.Dec.{eqb}
use borrow.Author.Tests.{eqb-true, eq-eqb}
use Rattle.lists.specs.Fold.{any, count, count_from}
use Rattle.lists.proofs.Every.{any_of, any-to}
use Rattle.state.specs.declared.Seat.{Seat}
use Rattle.state.specs.Seats.{is_present, present_seats, quorum_of}
use Rattle.state.proofs.Facts.{quorums-exceed}
use Rattle.records.specs.Sheet.{Row, names, counts, counted_seats, counted_on_both}
use Rattle.records.specs.Claims.{IsCounted, CountsListedLife, CountsOnce, QuorumsOverlap}

-- A seat counts exactly where it is present and some row names it under its listed life.
pub counts-listed-life : CountsListedLife
unfolding counts
counts-listed-life rows i x = (told, telling)
  where
    told : (is_present x && any (names i x.life) rows) ≡ true → IsCounted rows i x
    told e =
        let h = (and-eq-true_iff (is_present x) (any (names i x.life) rows)).0 e in
        let m = any_of (names i x.life) rows h.1 in
        let n = (and-eq-true_iff (eqb m.0.seat i) (eqb m.0.life x.life)).0 m.2 in
        record { standing = eqb-true _ _ h.0; row = m.0; listed = m.1; seat = eqb-true _ _ n.0; life = eqb-true _ _ n.1 }

    telling : IsCounted rows i x → (is_present x && any (names i x.life) rows) ≡ true
    telling c = rw (eq-eqb _ _ c.standing) (any-to (names i x.life) c.listed (rw (eq-eqb _ _ c.seat, eq-eqb _ _ c.life)))

-- one seat: x where it is present, a and b where a row of each sheet names it
once : (x a : Bool) → cond (x && a) 1 0 ≤ cond x 1 0
once true true = omega arith
once true false = omega arith
once false a = omega arith

shared : (x a b : Bool) → cond (x && a) 1 0 + cond (x && b) 1 0 ≤ cond ((x && a) && (x && b)) 1 0 + cond x 1 0
shared true true true = omega arith
shared true true false = omega arith
shared true false true = omega arith
shared true false false = omega arith
shared false a b = omega arith

-- the seats from index i on
counted-once : (a : List Row) (i : ℕ) (seats : List Seat) → count_from (counts a) i seats ≤ count is_present seats
unfolding count_from count counts
counted-once a i [] = omega arith
counted-once a i (x ∷ xs) = omega (arith, counted-once a (suc i) xs, once (is_present x) (any (names i x.life) a))

counted-on-both : (a b : List Row) (i : ℕ) (seats : List Seat)
    → count_from (counts a) i seats + count_from (counts b) i seats ≤ count_from (λ j x. counts a j x && counts b j x) i seats + count is_present seats
unfolding count_from count counts
counted-on-both a b i [] = omega arith
counted-on-both a b i (x ∷ xs) =
    omega (arith, counted-on-both a b (suc i) xs, shared (is_present x) (any (names i x.life) a) (any (names i x.life) b))

-- Never more seats count than are present.
pub counts-once : CountsOnce
unfolding counted_seats present_seats
counts-once rows seats = counted-once rows 0 seats

-- Two quorums share at least 1 + 2m seats.
pub quorums-overlap : QuorumsOverlap
unfolding counted_seats counted_on_both present_seats quorum_of
quorums-overlap s a b p q = omega
    (arith, counted-on-both a b 0 s.seats, quorums-exceed (count is_present s.seats) s.minima.margin s.minima.least)
