-- Tables: the used rows first, with rising keys, and then unused ones; what the operations on a table keep of that.
use mathlib.Core.Path.{◌≡◌, refl, sym, ap, ◌∙◌}
use mathlib.Core.Bool.{Bool, true, false, not, and-eq-true_iff}
use mathlib.Core.List.{List, [], ◌∷◌, ◌++◌, map}
use Prim.Native.Nat.{ℕ, zero, suc, ◌-◌, ◌≤◌, ◌<◌}
use native.Mathlib.Nat.{le_trans}
use native.Mathlib.Omega.{arith}
use lib.Dec.{leb}
use lib.ListN.{length, take, replicate, length-append, length-replicate, length-map}
use borrow.Author.Tests.{leb-true, le-leb, not-true}
use Rattle.lists.specs.Fold.{any}
use Rattle.lists.specs.Table.{rising_from, keep, fill, replace_first}
use Rattle.lists.proofs.Tests.{cond_cases}
use Rattle.lists.proofs.Every.{All, none, more, none_of, none-to, all_keep, all-append-same, all-fill, all_take, all-replace_first}

-- `rising_from` as a type: no row is used, or the first is, with a key of at least lo, and those after it have higher keys.
pub data Rising {A : Type 0} (used : A → Bool) (key : A → ℕ) : ℕ → List A → Type 0 where
  unused : {lo : ℕ} {rows : List A} → All (λ r. used r ≡ false) rows → Rising used key lo rows
  row : {lo : ℕ} {r : A} {rs : List A} → used r ≡ true → lo ≤ key r → Rising used key (suc (key r)) rs → Rising used key lo (r ∷ rs)

module _ {A : Type 0} {used : A → Bool} {key : A → ℕ} where
  -- what the test tells, and what passes it
  pub rising-of : (lo : ℕ) (rows : List A) → rising_from used key lo rows ≡ true → Rising used key lo rows
  unfolding rising_from
  rising-of lo [] e = unused none
  rising-of lo (r ∷ rs) e =
      cond_cases (λ v. v ≡ true → Rising used key lo (r ∷ rs)) (used r)
      (λ u t. let h = (and-eq-true_iff (leb lo (key r)) (rising_from used key (suc (key r)) rs)).0 t in row u (leb-true lo (key r) h.0)
      (rising-of (suc (key r)) rs h.1))
      (λ u t. unused (more u (none_of used rs (not-true (any used rs) t)))) e

  pub rising-to : {lo : ℕ} {rows : List A} → Rising used key lo rows → rising_from used key lo rows ≡ true
  unfolding rising_from
  rising-to (unused none) = refl
  rising-to (unused (more u h)) = rw (u, none-to used h)
  rising-to (row u l h) = rw (u, le-leb _ _ l) (rising-to h)

  -- A lower bound may be lowered.
  pub rising-lower : {lo hi : ℕ} {rows : List A} → lo ≤ hi → Rising used key hi rows → Rising used key lo rows
  rising-lower l (unused h) = unused h
  rising-lower l (row u k h) = row u (le_trans l k) h

  -- The order stays where rows are dropped, where unused ones are added at the end, and where the table is cut.
  pub rising-keep : {lo : ℕ} {rows : List A} (p : A → Bool) → Rising used key lo rows → Rising used key lo (keep p rows)
  unfolding keep
  rising-keep p (unused h) = unused (all_keep p h)
  rising-keep {lo} p (row {r = r} u l h) =
      cond_cases (Rising used key lo) (p r) (λ e. row u l (rising-keep p h)) (λ e. rising-lower (omega arith) (rising-keep p h))

  pub rising-append-same : {lo : ℕ} {rows : List A} {x : A} (n : ℕ) → Rising used key lo rows → used x ≡ false → Rising used key lo
      (rows ++ replicate n x)
  rising-append-same n (unused h) e = unused (all-append-same n h e)
  rising-append-same n (row u l h) e = row u l (rising-append-same n h e)

  pub rising-take : {lo : ℕ} {rows : List A} (n : ℕ) → Rising used key lo rows → Rising used key lo (take n rows)
  rising-take n (unused h) = unused (all_take n h)
  rising-take zero (row u l h) = unused none
  rising-take (suc n) (row u l h) = row u l (rising-take n h)

  -- A row whose key is above those of all used rows may take the place of the first unused one.
  pub rising-add : {lo : ℕ} {rows : List A} {x : A} → Rising used key lo rows → used x ≡ true → lo ≤ key x → All
      (λ r. used r ≡ true → key r < key x) rows
      → Rising used key lo (replace_first (λ r. not (used r)) x rows)
  unfolding replace_first
  rising-add (unused none) e l b = unused none
  rising-add (unused (more u h)) e l b = rw u (row e l (unused h))
  rising-add (row u k h) e l (more g b) = rw u (row u k (rising-add h e (g u) b))

-- The number of rows.
pub length-replace_first : {A : Type 0} (p : A → Bool) (x : A) (rows : List A) → length (replace_first p x rows) ≡ length rows
unfolding replace_first
length-replace_first p x [] = refl
length-replace_first {A} p x (r ∷ rs) = cond_cases (λ (l : List A). length l ≡ suc (length rs)) (p r) (λ e. refl)
    (λ e. ap suc (length-replace_first p x rs))

pub length-keep : {A : Type 0} (p : A → Bool) (rows : List A) → length (keep p rows) ≤ length rows
unfolding keep
length-keep p [] = omega arith
length-keep {A} p (r ∷ rs) =
    let k = length-keep p rs in
    cond_cases (λ (l : List A). length l ≤ suc (length rs)) (p r) {x = r ∷ keep p rs} {y = keep p rs} (λ e. omega arith) (λ e. omega arith)

pub length-fill : {A : Type 0} (n : ℕ) (u : A) (rows : List A) → length rows ≤ n → length (fill n u rows) ≡ n
unfolding fill
length-fill n u rows h = simp (length-append, length-replicate) (omega arith)

-- A table of n rows, each of which is as Ok says.
pub record IsTable {A : Type 0} (used : A → Bool) (key : A → ℕ) (lo n : ℕ) (Ok : A → Type 0) (rows : List A) : Type 0 where
  pub size : length rows ≡ n
  pub rising : Rising used key lo rows
  pub each : All Ok rows

module _ {A : Type 0} {used : A → Bool} {key : A → ℕ} {lo n : ℕ} {Ok : A → Type 0} {rows : List A} (t : IsTable used key lo n Ok rows) where
  -- It is one again after a row was added, and after rows were dropped.
  pub table-add : (x : A) → used x ≡ true → lo ≤ key x → Ok x → All (λ r. used r ≡ true → key r < key x) rows → IsTable used key lo n Ok
      (replace_first (λ r. not (used r)) x rows)
  table-add x u l o b = record {
    size = length-replace_first _ x rows ∙ t.size;
    rising = rising-add t.rising u l b;
    each = all-replace_first _ t.each o;
  }

  pub table-drop : (p : A → Bool) (x : A) → used x ≡ false → Ok x → IsTable used key lo n Ok (fill n x (keep p rows))
  unfolding fill
  table-drop p x u o = record {
    size =
        let k = length-keep p rows in
        let m = t.size in
        length-fill n x (keep p rows) (omega arith);
    rising = rising-append-same (n - length (keep p rows)) (rising-keep p t.rising) u;
    each = all-fill n (all_keep p t.each) o;
  }

-- A table in a struct: what is told of its length is told of its rows as they stand in memory.
pub mapped-length : (A B : Type 0) (f : A → B) (l : List A) (n : ℕ) → length (map f l) ≡ n → length l ≡ n
mapped-length A B f l n e = sym (length-map l f) ∙ e
