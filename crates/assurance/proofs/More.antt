-- Sheets with at least the mask bits and rows of another count at least as many trustees and seats.
use mathlib.Core.Path.{◌≡◌, refl, sym, ap, ◌∙◌}
use mathlib.Core.Bool.{Bool, true, false, cond, not}
use mathlib.Core.List.{List}
use Prim.Native.Nat.{ℕ, zero, suc, ◌*◌, ◌^◌, ◌/◌, ◌%◌, ◌≤◌}
use native.Mathlib.Nat.{div-one, div-div-eq-div-mul, pow-succ'}
use native.Mathlib.Omega.{arith}
use lib.Dec.{eqb}
use borrow.Author.Tests.{eqb-true, eqb-false, ltb-true, lt-ltb, not-false}
use Rattle.state.specs.declared.Day.{Day}
use Rattle.state.specs.declared.Seat.{Seat}
use Rattle.state.specs.declared.State.{State}
use Rattle.state.specs.Trustees.{ones_below, is_majority}
use Rattle.records.specs.declared.Action.{Action}
use Rattle.records.specs.Actions.{kind_of, level_of}
use Rattle.records.specs.Sheet.{rows_of, counts, counted_seats}
use Rattle.records.proofs.Counts.{counts-listed-life}
use Rattle.rules.specs.Rules.{is_signed, action_refusal}
use Rattle.refusals.proofs.Chains.{passes-rule}
use Rattle.lists.proofs.Members.{count-among}
use Rattle.assurance.specs.Interference.{RowsAmong, TrusteesAmong}

-- ---- masks

-- the lowest bit, and the other bits
lowest-bit : (n mask more : ℕ) → TrusteesAmong (suc n) mask more → mask % 2 ≤ more % 2
lowest-bit n mask more h = at (eqb (mask % 2) 1) refl
  where
    at : (b : Bool) → eqb (mask % 2) 1 ≡ b → mask % 2 ≤ more % 2
    at true e =
        let set : mask % 2 ≡ 1 → more % 2 ≡ 1 = rw (div-one mask, div-one more) at (h 0 (omega arith)) in
        let p = set (eqb-true (mask % 2) 1 e) in
        omega arith
    at false e = let z = eqb-false (mask % 2) 1 e in omega (arith, z)

next_bit : (mask i : ℕ) → mask / 2 / 2 ^ i ≡ mask / 2 ^ suc i
next_bit mask i = div-div-eq-div-mul mask 2 (2 ^ i) ∙ ap (λ (x : ℕ). mask / x) (sym (pow-succ' 2 i))

halved : (n mask more : ℕ) → TrusteesAmong (suc n) mask more → TrusteesAmong n (mask / 2) (more / 2)
halved n mask more h i l = rw (next_bit mask i, next_bit more i) (h (suc i) (omega arith))

ones-among : (n mask more : ℕ) → TrusteesAmong n mask more → ones_below n mask ≤ ones_below n more
unfolding ones_below
ones-among zero mask more h = omega arith
ones-among (suc n) mask more h = omega (arith, lowest-bit n mask more h, ones-among n (mask / 2) (more / 2) (halved n mask more h))

majority-among : (n mask more : ℕ) → TrusteesAmong n mask more → is_majority n mask ≡ true → is_majority n more ≡ true
unfolding is_majority
majority-among n mask more h e = let l = ltb-true n (2 * ones_below n mask) e in lt-ltb n (2 * ones_below n more)
    (omega (arith, ones-among n mask more h, l))

-- Rule 8 does not apply either, whichever level signs, and the rules after it are the same.
signed-among : (s : State) (level mask1 mask2 more1 more2 : ℕ) → TrusteesAmong s.trustees1 mask1 more1 → TrusteesAmong s.trustees2 mask2 more2
    → is_signed s level mask1 mask2 ≡ true → is_signed s level more1 more2 ≡ true
signed-among s level mask1 mask2 more1 more2 g h = at (eqb level 1)
  where
    at : (b : Bool) → cond b (is_majority s.trustees1 mask1) (is_majority s.trustees2 mask2) ≡ true
        → cond b (is_majority s.trustees1 more1) (is_majority s.trustees2 more2) ≡ true
    at true e = majority-among _ mask1 more1 g e
    at false e = majority-among _ mask2 more2 h e

pub action-among : (s : State) (d : Day) (mask1 mask2 more1 more2 : ℕ) → TrusteesAmong s.trustees1 mask1 more1 → TrusteesAmong
    s.trustees2 mask2 more2
    → (x : Action) → action_refusal s d mask1 mask2 x ≡ 0 → action_refusal s d more1 more2 x ≡ 0
unfolding action_refusal
action-among s d mask1 mask2 more1 more2 g h x e =
    let level = level_of (kind_of x) in
    let p = passes-rule (not (is_signed s level mask1 mask2)) 8 _ refl e in
    rw (signed-among s level mask1 mask2 more1 more2 g h (not-false _ p.0)) p.1

-- ---- rows

-- a seat that counts still counts
still-counts : (sb tb : List ℕ) → RowsAmong sb tb → (i : ℕ) (x : Seat) → counts (rows_of sb) i x ≡ true → counts (rows_of tb) i x ≡ true
still-counts sb tb h i x e =
    let c = (counts-listed-life (rows_of sb) i x).0 e in
    (counts-listed-life (rows_of tb) i x).1
    (record { standing = c.standing; row = c.row; listed = h c.row c.listed; seat = c.seat; life = c.life })

pub seats-among : (sb tb : List ℕ) → RowsAmong sb tb → (seats : List Seat) → counted_seats (rows_of sb) seats ≤ counted_seats (rows_of tb) seats
unfolding counted_seats
seats-among sb tb h seats = count-among _ _ (still-counts sb tb h) 0 seats
