-- The cases of the three calls.
use Rattle.std.specs.Prelude.{Ok, Err}
use mathlib.Core.Path.{◌≡◌}
use mathlib.Core.Bool.{Bool, true, false, ◌&&◌, and-eq-true_iff}
use mathlib.Core.List.{List}
use Prim.Native.Nat.{ℕ, ◌*◌, ◌-◌, ◌≤◌}
use borrow.Author.Tests.{leb-true}
use lib.Dec.{leb}
use lib.ListN.{length, take}
use Rattle.binary.specs.Number.{overwrite}
use Rattle.refusals.specs.declared.Refusal.TheVariants.{OutOfRange, BadShareNumber, TooShort}
use Rattle.shares.specs.Polynomial.{sums}
use Rattle.shares.specs.Shares.{key_size, most_shares, in_range, are_numbers, shares_of, merged_key}
use Rattle.shares.specs.Calls.{holds, split_of, merge_of, add_of}

-- two tests that pass, and three
pub two-fit : (a b c d : ℕ) → (leb a b && leb c d) ≡ true → (a ≤ b) × (c ≤ d)
two-fit a b c d t = let p = (and-eq-true_iff (leb a b) (leb c d)).0 t in (leb-true a b p.0, leb-true c d p.1)

pub three-fit : (a b c d e f : ℕ) → (leb a b && (leb c d && leb e f)) ≡ true → (a ≤ b) × (c ≤ d) × (e ≤ f)
three-fit a b c d e f t =
    let p = (and-eq-true_iff (leb a b) (leb c d && leb e f)).0 t in
    let q = two-fit c d e f p.1 in
    (leb-true a b p.0, q.0, q.1)

pub in-range : (k n : ℕ) → in_range k n ≡ true → (2 ≤ k) × (k ≤ most_shares) × (n ≤ most_shares) × (k ≤ n)
in-range k n t =
    let p = (and-eq-true_iff (leb 2 k && leb k most_shares) _).0 t in
    let q = (and-eq-true_iff (leb 2 k) (leb k most_shares)).0 p.0 in
    let r = (and-eq-true_iff (leb 2 n && leb n most_shares) (leb k n)).0 p.1 in
    let s = (and-eq-true_iff (leb 2 n) (leb n most_shares)).0 r.0 in
    (leb-true 2 k q.0, leb-true k most_shares q.1, leb-true n most_shares s.1, leb-true k n r.1)

module _ (key : List ℕ) (k n : ℕ) (cs out : List ℕ) where
  abbrev pub split_fits : Bool
  split_fits = holds key_size key && (holds (key_size * (k - 1)) cs && holds (key_size * n) out)

  pub split-26 : in_range k n ≡ false → split_of key k n cs out ≡ record { answer = Err OutOfRange; slice = out }
  unfolding split_of
  split-26 e = rw e

  pub split-28 : in_range k n ≡ true → split_fits ≡ false → split_of key k n cs out ≡ record { answer = Err TooShort; slice = out }
  unfolding split_of
  split-28 e f = rw (e, f)

  pub split-given : in_range k n ≡ true → split_fits ≡ true
      → split_of key k n cs out ≡ record { answer = Ok n; slice = overwrite (shares_of k key cs n) out }
  unfolding split_of
  split-given e f = rw (e, f)

module _ (k n : ℕ) (numbers shares out : List ℕ) where
  abbrev pub merge_fits : Bool
  merge_fits = holds k numbers && (holds (key_size * k) shares && holds key_size out)

  pub merge-26 : in_range k n ≡ false → merge_of k n numbers shares out ≡ record { answer = Err OutOfRange; slice = out }
  unfolding merge_of
  merge-26 e = rw e

  pub merge-27 : in_range k n ≡ true → are_numbers n (take k numbers) ≡ false
      → merge_of k n numbers shares out ≡ record { answer = Err BadShareNumber; slice = out }
  unfolding merge_of
  merge-27 e f = rw (e, f)

  pub merge-28 : in_range k n ≡ true → are_numbers n (take k numbers) ≡ true → merge_fits ≡ false
      → merge_of k n numbers shares out ≡ record { answer = Err TooShort; slice = out }
  unfolding merge_of
  merge-28 e f g = rw (e, f, g)

  pub merge-given : in_range k n ≡ true → are_numbers n (take k numbers) ≡ true → merge_fits ≡ true
      → merge_of k n numbers shares out ≡ record { answer = Ok tt; slice = overwrite (merged_key k numbers shares) out }
  unfolding merge_of
  merge-given e f g = rw (e, f, g)

module _ (first second out : List ℕ) where
  abbrev pub add_fits : Bool
  add_fits = holds (length first) second && holds (length first) out

  pub add-28 : add_fits ≡ false → add_of first second out ≡ record { answer = Err TooShort; slice = out }
  unfolding add_of
  add-28 e = rw e

  pub add-given : add_fits ≡ true → add_of first second out ≡ record { answer = Ok (length first); slice = overwrite (sums first second) out }
  unfolding add_of
  add-given e = rw e
