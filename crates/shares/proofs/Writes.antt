-- What the loops over shares and key bytes write.
use mathlib.Core.Path.{◌≡◌, refl, sym, ap, ap₂, ◌∙◌}
use mathlib.Core.List.{List, ◌++◌}
use Prim.Native.Nat.{ℕ, suc, ◌+◌, ◌-◌, ◌*◌, ◌≤◌}
use native.Mathlib.Nat.{zero-add}
use native.Mathlib.Numerals.{add-one}
use native.Mathlib.Omega.{arith}
use lib.ListN.{length, take, drop, get_or}
use borrow.Rule.Slice.PartMut.{put_mid}
use lib.Seq.{take_all, length-take-le, drop-drop}
use Rattle.binary.specs.Number.{Bytes, overwrite}
use Rattle.binary.specs.Splice.{splice}
use Rattle.binary.proofs.Splices.{splice-overwrite, splice-splice}
use Rattle.shares.specs.Polynomial.{eval, value_at_zero}
use Rattle.shares.specs.Shares.{key_size, tabulate, joined, polynomial_of, share_of, shares_of, bytes_of, merged_key}
use Rattle.shares.specs.Code.{weights, weighted_sum, weighed_key}
use Rattle.shares.proofs.Tabulated.{tabulate-length, tabulate-ext, tabulate-bytes}
use Rattle.shares.proofs.Parts.{joined_length}
use Rattle.shares.proofs.Weighing.{weights-length, sum-is-value}

-- ---- a part of a slice that is written to

written : (at k : ℕ) (d : List ℕ) {v w : List ℕ} → v ≡ w → k ≡ length w → put_mid at k d v ≡ splice d at w
unfolding splice
written at k d {v} {w} e s =
    ap₂ (λ (l : List ℕ) (m : ℕ). take at d ++ (l ++ drop m (drop at d))) e s ∙ ap (λ (l : List ℕ). take at d ++ (w ++ l)) (drop-drop (length w) at d)

-- ---- shares

module _ (k : ℕ) (key cs : List ℕ) where
  pub share-length : (i : ℕ) → length (share_of k key cs i) ≡ key_size
  unfolding share_of
  share-length i = tabulate-length key_size (λ b. eval i (polynomial_of k key cs b))

  pub shares-length : (n : ℕ) → length (shares_of k key cs n) ≡ key_size * n
  unfolding shares_of
  shares-length n = joined_length key_size (λ i. share_of k key cs (suc i)) (λ i. share-length (suc i)) n

  pub shares-none : (d : List ℕ) → d ≡ overwrite (shares_of k key cs 0) d
  unfolding shares_of joined overwrite
  shares-none d = refl

  -- one share more
  pub shares-more : (d₀ d row : List ℕ) (n x : ℕ) → d ≡ overwrite (shares_of k key cs n) d₀ → x ≡ n + 1 → key_size * n ≤ length d₀
      → row ≡ share_of k key cs x → put_mid (key_size * n) (key_size * n + key_size - key_size * n) d row ≡ overwrite (shares_of k key cs (n + 1)) d₀
  unfolding shares_of joined
  shares-more d₀ d row n x w e h s =
      let at : 0 + length (shares_of k key cs n) ≡ key_size * n = zero-add (length (shares_of k key cs n)) ∙ shares-length n in
      written (key_size * n) (key_size * n + key_size - key_size * n) d s (omega (arith, share-length x))
      ∙ ap₂ (λ (l : List ℕ) (i : ℕ). splice l (key_size * n) (share_of k key cs i)) (w ∙ sym (splice-overwrite d₀ (shares_of k key cs n))) (e ∙ add-one n)
      ∙ splice-splice d₀ 0 (key_size * n) (shares_of k key cs n) (share_of k key cs (suc n)) at h
      ∙ splice-overwrite d₀ (shares_of k key cs (suc n))
      ∙ ap (λ (m : ℕ). overwrite (shares_of k key cs m) d₀) (sym (add-one n))

-- ---- the key

pub merged-key : (numbers shares : List ℕ) → Bytes shares → weighed_key (weights numbers) shares ≡ merged_key (length numbers) numbers shares
unfolding weighed_key merged_key bytes_of
merged-key numbers shares h =
    tabulate-ext key_size _ _
    (λ b _.
    let ys = tabulate (length numbers) (λ j. get_or shares (key_size * j + b) 0) in
    ap (λ (n : ℕ). weighted_sum (weights numbers) (tabulate n (λ j. get_or shares (key_size * j + b) 0))) (weights-length numbers)
    ∙ sum-is-value numbers ys (sym (tabulate-length (length numbers) (λ j. get_or shares (key_size * j + b) 0)))
    (tabulate-bytes (length numbers) (λ j. get_or shares (key_size * j + b) 0) (λ j. h (key_size * j + b)))
    ∙ ap (λ (l : List ℕ). value_at_zero l ys) (sym (take_all (length numbers) numbers (omega arith))))

-- ---- the first k numbers, as a slice of their own

module _ (k : ℕ) (numbers shares : List ℕ) (h : k ≤ length numbers) where
  abbrev front : List ℕ
  front = take k numbers

  merged-front : merged_key (length front) front shares ≡ merged_key k numbers shares
  unfolding merged_key
  merged-front =
      let size : length front ≡ k = length-take-le k numbers h in
      ap (λ (n : ℕ). merged_key n front shares) size
      ∙ ap (λ (l : List ℕ). tabulate key_size (λ b. value_at_zero l (bytes_of k shares b))) (take_all k front (omega arith))

  merged-length : length (merged_key k numbers shares) ≡ key_size
  unfolding merged_key
  merged-length = tabulate-length key_size (λ b. value_at_zero front (bytes_of k shares b))

  -- their key at the front of a slice
  pub merged-written : (row out : List ℕ) → row ≡ merged_key (length front) front shares → row ++ drop key_size out ≡ overwrite (merged_key k numbers shares) out
  unfolding overwrite
  merged-written row out e = ap₂ (λ (l : List ℕ) (n : ℕ). l ++ drop n out) (e ∙ merged-front) (sym merged-length)

-- for the loop over shares
pub ruleset sharing = (shares-none, shares-more)
