-- What is asked of the arguments, in words.
use Rattle.std.specs.Prelude.{Ok}
use mathlib.Core.Path.{◌≡◌, refl, sym, subst, ◌∙◌}
use mathlib.Core.Bool.{Bool, true, false, ◌&&◌, not, and-eq-true_iff, true≢false}
use mathlib.Core.List.{List, [], ◌∷◌, Memᴰ}
use Prim.Native.Nat.{ℕ, zero, suc, ◌*◌, ◌-◌, ◌≤◌, ◌<◌}
use native.Mathlib.Omega.{arith}
use borrow.Author.Tests.{leb-true, le-leb, eqb-true, eq-eqb, not-true}
use lib.Dec.{eqb, leb}
use lib.ListN.{length, get_or}
use Rattle.lists.specs.Fold.{any, Distinct}
use Rattle.lists.proofs.Every.{any_of, any-to}
use Rattle.binary.specs.Number.{overwrite}
use Rattle.shares.specs.Shares.{key_size, most_shares, shares_of, in_range, are_numbers}
use Rattle.shares.specs.Calls.{split_of}
use Rattle.shares.specs.Claims.{InRange, AreNumbers, ArgumentsInWords}
use Rattle.shares.proofs.Outcomes.{in-range, split_fits, split-given}

-- ---- the range

pub range-of : (k n : ℕ) → in_range k n ≡ true → InRange k n
range-of k n e = let r = in-range k n e in record { k-above = r.0; k-below = r.3; n-below = r.2 }

pub range-to : (k n : ℕ) → InRange k n → in_range k n ≡ true
range-to k n r =
    let a = r.k-above in
    let b = r.k-below in
    let c = r.n-below in
    rw (le-leb 2 k a, le-leb k most_shares (omega arith), le-leb 2 n (omega arith), le-leb n most_shares c, le-leb k n b)

-- a split gives its shares where all slices are long enough
pub split-gives : (k n : ℕ) (key cs out : List ℕ) → InRange k n → key_size ≤ length key → key_size * (k - 1) ≤ length cs → key_size * n ≤ length out
    → split_of key k n cs out ≡ record { answer = Ok n; slice = overwrite (shares_of k key cs n) out }
split-gives k n key cs out r lk lc lo =
    let fits : split_fits key k n cs out ≡ true =
    rw (le-leb key_size (length key) lk, le-leb (key_size * (k - 1)) (length cs) lc, le-leb (key_size * n) (length out) lo) in
    split-given key k n cs out (range-to k n r) fits

-- ---- the numbers

pub others : {n x : ℕ} {xs : List ℕ} → AreNumbers n (x ∷ xs) → AreNumbers n xs
others a = record { each = λ y m. a.each y (Memᴰ.tail m); distinct = a.distinct.1 }

module _ (n : ℕ) where
  -- the tests of the first number
  record First (x : ℕ) (xs : List ℕ) : Type 0 where
    pub above : 1 ≤ x
    pub below : x ≤ n
    pub absent : any (eqb x) xs ≡ false
    pub rest : are_numbers n xs ≡ true

  first : (x : ℕ) (xs : List ℕ) → are_numbers n (x ∷ xs) ≡ true → First x xs
  unfolding are_numbers
  first x xs e =
      let p = (and-eq-true_iff (leb 1 x && leb x n) _).0 e in
      let q = (and-eq-true_iff (leb 1 x) (leb x n)).0 p.0 in
      let r = (and-eq-true_iff (not (any (eqb x) xs)) (are_numbers n xs)).0 p.1 in
      record { above = leb-true 1 x q.0; below = leb-true x n q.1; absent = not-true (any (eqb x) xs) r.0; rest = r.1 }

  pub distinct_of : (xs : List ℕ) → are_numbers n xs ≡ true → Distinct xs
  distinct_of [] e = tt
  distinct_of (x ∷ xs) e =
      let f = first x xs e in
      (λ m. true≢false (sym (any-to (eqb x) m (eq-eqb x x refl)) ∙ f.absent), distinct_of xs f.rest)

  pub each_of : (xs : List ℕ) → are_numbers n xs ≡ true → (x : ℕ) → Memᴰ x xs → (1 ≤ x) × (x ≤ n)
  each_of [] e x m = elim m [ ]
  each_of (y ∷ ys) e x (Memᴰ.head p) = let f = first y ys e in rw p (f.above, f.below)
  each_of (y ∷ ys) e x (Memᴰ.tail m) = each_of ys (first y ys e).rest x m

  pub numbers_of : (xs : List ℕ) → are_numbers n xs ≡ true → AreNumbers n xs
  numbers_of xs e = record { each = each_of xs e; distinct = distinct_of xs e }

  absent-to : (x : ℕ) (xs : List ℕ) → ¬ Memᴰ x xs → any (eqb x) xs ≡ false
  absent-to x xs a = go (any (eqb x) xs) refl
    where
      go : (b : Bool) → any (eqb x) xs ≡ b → any (eqb x) xs ≡ false
      go false e = e
      go true e =
          let y = any_of (eqb x) xs e in
          absurd (a (subst (λ (z : ℕ). Memᴰ z xs) (sym (eqb-true x y.0 y.2)) y.1))

  pub numbers-to : (xs : List ℕ) → AreNumbers n xs → are_numbers n xs ≡ true
  unfolding are_numbers
  numbers-to [] a = refl
  numbers-to (x ∷ xs) a =
      let h = a.each x (Memᴰ.head refl) in
      rw (le-leb 1 x h.0, le-leb x n h.1, absent-to x xs a.distinct.0, numbers-to xs (others a))

pub arguments-in-words : ArgumentsInWords
arguments-in-words = record { in-range = range-of; to-range = range-to; are-numbers = numbers_of; to-numbers = numbers-to }

-- the number at a place
pub number_at : (n : ℕ) (xs : List ℕ) → AreNumbers n xs → (j : ℕ) → j < length xs → (1 ≤ get_or xs j 0) × (get_or xs j 0 ≤ n)
number_at n [] a j h = absurd (omega arith)
number_at n (x ∷ xs) a zero h = a.each x (Memᴰ.head refl)
number_at n (x ∷ xs) a (suc j) h = number_at n xs (others a) j (omega arith)
