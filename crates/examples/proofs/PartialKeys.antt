-- The examples of partial keys, computed. Merges are computed by the weights of the numbers 3 and 1, so that their inverse is computed once.
use mathlib.Core.Path.{◌≡◌, refl, sym, ap, ◌∙◌}
use mathlib.Core.Bool.{true, and-eq-true_iff}
use mathlib.Core.List.{List, [], ◌∷◌, ◌++◌}
use Prim.Native.Nat.{ℕ, zero, suc}
use native.Mathlib.Omega.{arith}
use borrow.Author.Tests.{ltb-true}
use lib.Dec.{ltb}
use lib.ListN.{replicate}
use Rattle.lists.specs.Fold.{any, all}
use Rattle.binary.specs.Number.{Bytes, overwrite}
use Rattle.gf256.specs.Field.{add, times, remainder, mul, power, inverse}
use Rattle.std.specs.Prelude.{Ok}
use Rattle.shares.specs.Polynomial.{eval}
use Rattle.shares.specs.Shares.{tabulate, joined, share_of, shares_of, bytes_of, merged_key, are_numbers}
use Rattle.shares.specs.Calls.{split_of, merge_of}
use Rattle.shares.specs.Code.{weighed, total, weights, weighted_sum, weighed_key}
use Rattle.shares.proofs.Outcomes.{merge_fits, merge-given}
use Rattle.shares.proofs.Writes.{merged-key}
use Rattle.examples.specs.PartialKeys.{rising, share1, share3, changed, key, room, PartialKeyExamples}

abbrev numbers : List ℕ
numbers = 3 ∷ 1 ∷ []

weights-are : weights numbers ≡ 0x8D ∷ 0x8C ∷ []
unfolding weights weighed total add times remainder mul power inverse
weights-are = refl

bytes-by-test : (l : List ℕ) → all (λ x. ltb x 256) l ≡ true → Bytes l
unfolding all
bytes-by-test [] e i = omega arith
bytes-by-test (x ∷ l) e zero = ltb-true x 256 ((and-eq-true_iff (ltb x 256) (all (λ y. ltb y 256) l)).0 e).0
bytes-by-test (x ∷ l) e (suc i) = bytes-by-test l ((and-eq-true_iff (ltb x 256) (all (λ y. ltb y 256) l)).0 e).1 i

pub merges-to : (shares out merged : List ℕ) → all (λ x. ltb x 256) shares ≡ true → merge_fits 2 3 numbers shares out ≡ true
    → weighed_key (0x8D ∷ 0x8C ∷ []) shares ≡ merged → merge_of 2 3 numbers shares out ≡ record { answer = Ok tt; slice = overwrite merged out }
unfolding are_numbers any
merges-to shares out merged b f e =
    merge-given 2 3 numbers shares out refl refl f
    ∙ ap (λ (l : List ℕ). record { answer = Ok tt; slice = overwrite l out })
    (sym (merged-key numbers shares (bytes-by-test shares b)) ∙ ap (λ (ws : List ℕ). weighed_key ws shares) weights-are ∙ e)

-- what stands behind the first two numbers is not looked at
front-counts : (shares out : List ℕ) → merge_of 2 3 (3 ∷ 1 ∷ 1 ∷ 0 ∷ []) shares out ≡ merge_of 2 3 numbers shares out
unfolding merge_of merged_key are_numbers any
front-counts shares out = refl

pub partial-key-examples : PartialKeyExamples
unfolding any all overwrite add times remainder mul eval weighted_sum weighed_key tabulate joined share_of shares_of bytes_of are_numbers split_of merge_of rising
partial-key-examples = record {
  split = refl;
  merged = merges-to (share3 ++ share1) (replicate 33 9) key refl refl refl;
  more_numbers = front-counts (share3 ++ share1) room ∙ merges-to (share3 ++ share1) room key refl refl refl;
  one-wrong = merges-to (share3 ++ changed 2 share1) room (changed 3 key) refl refl refl;
  two-wrong = merges-to (changed 3 share3 ++ changed 1 share1) room key refl refl refl;
  interchanged = refl;
  rows = refl;
  out_of_range = refl;
  merges-out-of-range = refl;
  bad-numbers = refl;
  split-too-short = refl;
  merge-too-short = refl;
}
