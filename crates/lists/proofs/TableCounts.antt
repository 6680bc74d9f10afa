-- How many rows of a table are used, and what stays where it is cut.
use mathlib.Core.Path.{◌≡◌, refl, sym, ap, ◌∙◌}
use mathlib.Core.Bool.{Bool, true, false, cond, true≢false}
use mathlib.Core.List.{List, [], ◌∷◌, ◌++◌, Memᴰ}
use Prim.Native.Nat.{ℕ, zero, suc, ◌+◌, ◌-◌, ◌≤◌, ◌<◌}
use native.Mathlib.Omega.{arith}
use lib.ListN.{length, get_or, take, replicate}
use Rattle.lists.specs.Fold.{count}
use Rattle.lists.specs.Table.{fill}
use Rattle.lists.proofs.Every.{All, none, more, all_take}
use Rattle.lists.proofs.Members.{all_in}
use Rattle.lists.proofs.Count.{count-length}
use Rattle.lists.proofs.Tables.{Rising, unused, row}
use Rattle.lists.proofs.TableMembers.{at-index}

module _ {A : Type 0} (used : A → Bool) where
  -- Where a row is unused, fewer are used than there are.
  pub count_less : {r : A} {rows : List A} → Memᴰ r rows → used r ≡ false → count used rows < length rows
  unfolding count
  count_less (Memᴰ.head {xs = xs} e) h = rw (← e, h) (omega (arith, count-length used xs))
  count_less (Memᴰ.tail {x = z} {xs = zs} m) h = one (used z) (count_less m h)
    where
      one : (b : Bool) → count used zs < length zs → cond b 1 0 + count used zs < suc (length zs)
      one true k = omega arith
      one false k = omega arith

  pub count_none : {rows : List A} → All (λ r. used r ≡ false) rows → count used rows ≡ 0
  unfolding count
  count_none none = refl
  count_none (more u h) = rw u (omega (arith, count_none h))

  -- Unused rows behind are not counted.
  count-append-same : (n : ℕ) (u : A) (rows : List A) → used u ≡ false → count used (rows ++ replicate n u) ≡ count used rows
  unfolding count
  count-append-same zero u [] e = refl
  count-append-same (suc n) u [] e = rw e (omega (arith, count-append-same n u [] e))
  count-append-same n u (r ∷ rs) e = ap (λ k. cond (used r) 1 0 + k) (count-append-same n u rs e)

  pub count-fill : (n : ℕ) (u : A) (rows : List A) → used u ≡ false → count used (fill n u rows) ≡ count used rows
  unfolding fill
  count-fill n u rows e = count-append-same (n - length rows) u rows e

module _ {A : Type 0} {used : A → Bool} {key : A → ℕ} where
  -- Where at least as many rows stay as are used, no used row is cut off.
  pub rising-taken : {lo : ℕ} {rows : List A} {r : A} (n : ℕ) → Rising used key lo rows → count used rows ≤ n → used r ≡ true
      → Memᴰ r rows → Memᴰ r (take n rows)
  unfolding count
  rising-taken n (unused h) c u m = absurd (true≢false (sym u ∙ all_in h m))
  rising-taken zero (row v l h) c u m = absurd (omega (arith, rw v at c))
  rising-taken (suc n) (row v l h) c u (Memᴰ.head e) = Memᴰ.head e
  rising-taken (suc n) (row v l h) c u (Memᴰ.tail m) = Memᴰ.tail (rising-taken n h (omega (arith, rw v at c)) u m)

  pub count-taken : {lo : ℕ} {rows : List A} (n : ℕ) → Rising used key lo rows → count used rows ≤ n → count used (take n rows) ≡ count used rows
  unfolding count
  count-taken n (unused h) c = count_none used (all_take n h) ∙ sym (count_none used h)
  count-taken zero (row v l h) c = absurd (omega (arith, rw v at c))
  count-taken (suc n) (row v l h) c = rw v (omega (arith, count-taken n h (omega (arith, rw v at c))))

  -- Where the last row is used, all are.
  pub rising-full : {lo : ℕ} (rows : List A) (n : ℕ) (d : A) → length rows ≡ suc n → Rising used key lo rows → used (get_or rows n d) ≡ true
      → count used rows ≡ length rows
  unfolding count
  rising-full rows n d long (unused h) e = absurd (true≢false (sym e ∙ all_in h (at-index rows n d (omega arith))))
  rising-full (r ∷ []) n d long (row v l h) e = rw v
  rising-full (r ∷ s ∷ rs) zero d long (row v l h) e = absurd (omega arith)
  rising-full (r ∷ s ∷ rs) (suc n) d long (row v l h) e = rw v (omega (arith, rising-full (s ∷ rs) n d (omega arith) h e))
