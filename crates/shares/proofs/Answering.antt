-- What the three calls answer, in words; and what a merge gives.
use mathlib.Core.Path.{◌≡◌, refl, sym, ◌∙◌}
use mathlib.Core.Bool.{Bool, true, false, false≢true}
use Prim.Native.Nat.{◌*◌, ◌-◌}
use borrow.Author.Tests.{le-leb}
use lib.ListN.{length, take}
use Rattle.shares.specs.Shares.{key_size, in_range, are_numbers}
use Rattle.shares.specs.Calls.{split_of, merge_of, add_of}
use Rattle.shares.specs.Claims.{MergesInterpolate, SplitAnswering, SplitAnswers, MergeAnswering, bad-number, MergeAnswers}
use Rattle.shares.specs.Claims as C
use Rattle.shares.specs.Renewal.{AddAnswering, AddAnswers}
use Rattle.shares.specs.Renewal as R
use Rattle.shares.proofs.Outcomes.{two-fit, three-fit, split_fits, split-26, split-28, split-given, merge_fits, merge-26, merge-27, merge-28, merge-given, add_fits, add-28, add-given}
use Rattle.shares.proofs.Arguments.{range-of, range-to, numbers_of, numbers-to}
use Rattle.shares.proofs.Interpolation.{interpolates}
use Rattle.shares.proofs.GivingBack.{numbers-bytes}

-- what a test that fails tells of what it tests
fails : {P : Type 0} (b : Bool) → b ≡ false → (P → b ≡ true) → ¬ P
fails b e to p = false≢true (sym e ∙ to p)

pub split-answers : SplitAnswers
split-answers key k n cs out = go (in_range k n) (split_fits key k n cs out) refl refl
  where
    go : (r f : Bool) → in_range k n ≡ r → split_fits key k n cs out ≡ f → SplitAnswering key k n cs out (split_of key k n cs out)
    go false f e h = C.out_of_range (fails (in_range k n) e (range-to k n)) (split-26 key k n cs out e)
    go true false e h =
        C.too_short (range-of k n e)
        (fails (split_fits key k n cs out) h
        (λ p. rw (le-leb key_size (length key) p.0, le-leb (key_size * (k - 1)) (length cs) p.1, le-leb (key_size * n) (length out) p.2)))
        (split-28 key k n cs out e h)
    go true true e h =
        let p = three-fit key_size (length key) (key_size * (k - 1)) (length cs) (key_size * n) (length out) h in
        C.given (range-of k n e) p.0 p.1 p.2 (split-given key k n cs out e h)

pub merge-answers : MergeAnswers
merge-answers k n numbers shares out = go (in_range k n) (are_numbers n (take k numbers)) (merge_fits k n numbers shares out) refl refl refl
  where
    go : (r a f : Bool) → in_range k n ≡ r → are_numbers n (take k numbers) ≡ a → merge_fits k n numbers shares out ≡ f
        → MergeAnswering k n numbers shares out (merge_of k n numbers shares out)
    go false a f e g h = C.out_of_range (fails (in_range k n) e (range-to k n)) (merge-26 k n numbers shares out e)
    go true false f e g h =
        bad-number (range-of k n e) (fails (are_numbers n (take k numbers)) g (numbers-to n (take k numbers))) (merge-27 k n numbers shares out e g)
    go true true false e g h =
        C.too_short (range-of k n e) (numbers_of n (take k numbers) g)
        (fails (merge_fits k n numbers shares out) h
        (λ p. rw (le-leb k (length numbers) p.0, le-leb (key_size * k) (length shares) p.1, le-leb key_size (length out) p.2)))
        (merge-28 k n numbers shares out e g h)
    go true true true e g h =
        let p = three-fit k (length numbers) (key_size * k) (length shares) key_size (length out) h in
        C.given (range-of k n e) (numbers_of n (take k numbers) g) p.0 p.1 p.2 (merge-given k n numbers shares out e g h)

pub add-answers : AddAnswers
add-answers first second out = go (add_fits first second out) refl
  where
    go : (f : Bool) → add_fits first second out ≡ f → AddAnswering first second out (add_of first second out)
    go false e =
        R.too_short
        (fails (add_fits first second out) e (λ p. rw (le-leb (length first) (length second) p.0, le-leb (length first) (length out) p.1)))
        (add-28 first second out e)
    go true e =
        let p = two-fit (length first) (length second) (length first) (length out) e in
        R.given p.0 p.1 (add-given first second out e)

pub merges-interpolate : MergesInterpolate
merges-interpolate n h numbers ys a r =
    interpolates numbers ys (sym r.size) (numbers-bytes n numbers h a) r.bytes a.distinct
