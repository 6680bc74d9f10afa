-- The counts of misses: what their test tells of each.
use mathlib.Core.Path.{◌≡◌, refl}
use mathlib.Core.Bool.{Bool, true, false, ◌&&◌, true≢false}
use mathlib.Core.List.{List, [], ◌∷◌}
use Prim.Native.Nat.{ℕ, suc, ◌≤◌, ◌<◌}
use native.Mathlib.Omega.{arith}
use lib.Dec.{leb}
use lib.ListN.{get_or}
use borrow.Author.Tests.{leb-true, leb-false, le-leb}
use Rattle.lists.specs.Fold.{all}
use Rattle.lists.proofs.Every.{all_of, all-to, all_set, all_get_d}
use Rattle.verdicts.specs.declared.AttemptCounts.{AttemptCounts}
use Rattle.verdicts.specs.Attempts.{most_misses, misses_at, with_misses, are_in_range}

abbrev pub within : ℕ → Bool
within m = leb m most_misses

-- Where they pass, no count is above the most; where they don't, some is.
pub none_above : (c : AttemptCounts) → are_in_range c ≡ true → (door : ℕ) → misses_at door c ≤ most_misses
unfolding are_in_range
none_above c e door = leb-true _ _ (all_get_d {P = λ m. within m ≡ true} door (all_of within c.misses e) refl)

one-above : (l : List ℕ) → all within l ≡ false → (i : ℕ) × (most_misses < get_or l i 0)
unfolding all
one-above [] e = absurd (true≢false e)
one-above (m ∷ l) e = at (within m) refl e (one-above l)
  where
    at : (b : Bool) → within m ≡ b → (b && all within l) ≡ false → (all within l ≡ false → (i : ℕ) × (most_misses < get_or l i 0))
        → (i : ℕ) × (most_misses < get_or (m ∷ l) i 0)
    at true f g more = let r = more g in (suc r.0, r.1)
    at false f g more = (0, leb-false m most_misses f)

pub some-above : (c : AttemptCounts) → are_in_range c ≡ false → (door : ℕ) × (most_misses < misses_at door c)
unfolding are_in_range
some-above c = one-above c.misses

pub all-in-range : (c : AttemptCounts) → ((door : ℕ) → misses_at door c ≤ most_misses) → are_in_range c ≡ true
all-in-range c h = at (are_in_range c) refl
  where
    at : (b : Bool) → are_in_range c ≡ b → b ≡ true
    at true e = refl
    at false e = let a = some-above c e in absurd (let k = h a.0 in omega arith)

-- They pass again with another count that is not above the most.
pub still-in-range : (c : AttemptCounts) (door m : ℕ) → are_in_range c ≡ true → m ≤ most_misses → are_in_range (with_misses door m c) ≡ true
unfolding are_in_range
still-in-range c door m e l = all-to within (all_set door (all_of within c.misses e) (le-leb _ _ l))
