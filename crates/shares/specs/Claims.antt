-- What trustees can rely on.
use Rattle.std.specs.Prelude.{◌≡◌, true, ℕ, suc, ◌*◌, ◌-◌, ◌≤◌, ◌<◌, length, take, drop, Result, Ok, Err}
use mathlib.Core.List.{List, [], ◌∷◌, ◌++◌, Memᴰ}
use Rattle.lists.specs.Fold.{Distinct}
use Rattle.binary.specs.Number.{Bytes, overwrite}
use Rattle.refusals.specs.declared.Refusal.{Refusal}
use Rattle.refusals.specs.declared.Refusal.TheVariants.{OutOfRange, BadShareNumber, TooShort}
use Rattle.shares.specs.Polynomial.{eval, values, value_at_zero}
use Rattle.shares.specs.Shares.{key_size, most_shares, shares_of, merged_key, in_range, are_numbers}
use Rattle.shares.specs.Calls.{Outcome, split_of, merge_of}

-- ---- the arguments, in words

pub record InRange (k n : ℕ) : Type 0 where
  pub k-above : 2 ≤ k
  pub k-below : k ≤ n
  pub n-below : n ≤ most_shares

pub record AreNumbers (n : ℕ) (xs : List ℕ) : Type 0 where
  pub each : (x : ℕ) → Memᴰ x xs → (1 ≤ x) × (x ≤ n)
  pub distinct : Distinct xs

pub record ArgumentsInWords : Type 0 where
  pub in-range : (k n : ℕ) → in_range k n ≡ true → InRange k n
  pub to-range : (k n : ℕ) → InRange k n → in_range k n ≡ true
  pub are-numbers : (n : ℕ) (xs : List ℕ) → are_numbers n xs ≡ true → AreNumbers n xs
  pub to-numbers : (n : ℕ) (xs : List ℕ) → AreNumbers n xs → are_numbers n xs ≡ true

-- ---- any k shares

-- share x of those that are "written from share 1 to n"
abbrev pub share_in : List ℕ → ℕ → List ℕ
share_in slice x = take key_size (drop (key_size * (x - 1)) slice)

-- the shares with these numbers, in their order
unfoldable pub chosen : List ℕ → List ℕ → List ℕ
chosen slice [] = []
chosen slice (x ∷ xs) = share_in slice x ++ chosen slice xs

-- of a slice, the shares with any k numbers, in any order, and whatever follows them, are merged to this key
abbrev pub AnyGive : ℕ → ℕ → List ℕ → List ℕ → Type 0
AnyGive k n slice key = (numbers rest key_out : List ℕ) → k ≤ length numbers → AreNumbers n (take k numbers) → key_size ≤ length key_out
    → merge_of k n numbers (chosen slice (take k numbers) ++ rest) key_out ≡ record { answer = Ok tt; slice = overwrite key key_out }

-- "Any k shares give the key back.": of what a split left in its slice, the shares with any k numbers, in any order, and whatever follows them.
abbrev pub AnySharesGiveTheKey : Type 0
AnySharesGiveTheKey = (key : List ℕ) (k n : ℕ) (cs out : List ℕ) → Bytes key → Bytes cs → (split_of key k n cs out).answer ≡ Ok n
    → (numbers rest key_out : List ℕ) → k ≤ length numbers → AreNumbers n (take k numbers) → key_size ≤ length key_out
    → merge_of k n numbers (chosen (split_of key k n cs out).slice (take k numbers) ++ rest) key_out
    ≡ record { answer = Ok tt; slice = overwrite (take key_size key) key_out }

-- ---- k-1 shares

-- k-1 numbers of shares
pub record Fewer (k n : ℕ) (xs : List ℕ) : Type 0 where
  pub size : suc (length xs) ≡ k
  pub numbers : AreNumbers n xs

-- m bytes
pub record IsRun (m : ℕ) (l : List ℕ) : Type 0 where
  pub size : length l ≡ m
  pub bytes : Bytes l

-- f maps the runs of m bytes one to one onto the runs of m bytes
pub record Bijection (m : ℕ) (f : List ℕ → List ℕ) : Type 0 where
  pub into : (l : List ℕ) → IsRun m l → IsRun m (f l)
  pub onto : (r : List ℕ) → IsRun m r → (l : List ℕ) × IsRun m l × (f l ≡ r)
  pub one-to-one : (l l' : List ℕ) → IsRun m l → IsRun m l' → f l ≡ f l' → l ≡ l'

-- "For k-1 shares and each candidate key byte, exactly one choice of coefficients gives those shares.": at any k-1 numbers, and for each key byte, the
-- choices of its coefficients and the shares stand one to one.
abbrev pub FewerSharesHideTheByte : Type 0
FewerSharesHideTheByte = (k n : ℕ) → InRange k n → (numbers : List ℕ) → suc (length numbers) ≡ k → AreNumbers n numbers → (byte : ℕ) → byte < 256
    → Bijection (k - 1) (λ cs. values (byte ∷ cs) numbers)

-- The same of whole keys and of what a split leaves in its slice: whatever the k-1 shares are, each key has exactly one choice of coefficients that
-- gives them. So who holds k-1 shares, of a split whose coefficients were drawn with equal chances, knows no more of the key than before.
abbrev pub FewerSharesHideTheKey : Type 0
FewerSharesHideTheKey = (k n : ℕ) → InRange k n → (numbers : List ℕ) → suc (length numbers) ≡ k → AreNumbers n numbers
    → (key : List ℕ) → IsRun key_size key → (out : List ℕ) → key_size * n ≤ length out
    → Bijection (key_size * (k - 1)) (λ cs. chosen (split_of key k n cs out).slice numbers)

-- ---- what a merge gives

-- the one polynomial of as many coefficients as there are numbers that has the values ys at them
pub record Interpolates (xs ys cs : List ℕ) : Type 0 where
  pub run : IsRun (length xs) cs
  pub through : values cs xs ≡ ys
  pub only : (ds : List ℕ) → IsRun (length xs) ds → values ds xs ≡ ys → ds ≡ cs
  pub at_zero : value_at_zero xs ys ≡ eval 0 cs

-- Whatever the shares are, right or wrong, a merge gives the values at 0 of the polynomials through them. Nothing tells whether they belong together.
abbrev pub MergesInterpolate : Type 0
MergesInterpolate = (n : ℕ) → n ≤ most_shares → (numbers ys : List ℕ) → AreNumbers n numbers → IsRun (length numbers) ys
    → (cs : List ℕ) × Interpolates numbers ys cs

-- ---- the answers

-- A split answers 26, then 28, and leaves the slice as it was; else it gives the number of shares, which stand in front of the slice's tail.
pub data SplitAnswering (key : List ℕ) (k n : ℕ) (cs out : List ℕ) (x : Outcome (Result ℕ Refusal)) : Type 0 where
  out_of_range : ¬ InRange k n → x ≡ record { answer = Err OutOfRange; slice = out } → SplitAnswering key k n cs out x
  too_short : InRange k n → ¬ ((key_size ≤ length key) × (key_size * (k - 1) ≤ length cs) × (key_size * n ≤ length out))
      → x ≡ record { answer = Err TooShort; slice = out } → SplitAnswering key k n cs out x
  given : InRange k n → key_size ≤ length key → key_size * (k - 1) ≤ length cs → key_size * n ≤ length out
      → x ≡ record { answer = Ok n; slice = overwrite (shares_of k key cs n) out } → SplitAnswering key k n cs out x

abbrev pub SplitAnswers : Type 0
SplitAnswers = (key : List ℕ) (k n : ℕ) (cs out : List ℕ) → SplitAnswering key k n cs out (split_of key k n cs out)

-- A merge answers 26, 27, then 28. Where there are fewer than k numbers, 27 is judged on those that are there.
pub data MergeAnswering (k n : ℕ) (numbers shares out : List ℕ) (x : Outcome (Result Unit Refusal)) : Type 0 where
  out_of_range : ¬ InRange k n → x ≡ record { answer = Err OutOfRange; slice = out } → MergeAnswering k n numbers shares out x
  bad-number : InRange k n → ¬ AreNumbers n (take k numbers) → x ≡ record { answer = Err BadShareNumber; slice = out }
      → MergeAnswering k n numbers shares out x
  too_short : InRange k n → AreNumbers n (take k numbers) → ¬ ((k ≤ length numbers) × (key_size * k ≤ length shares) × (key_size ≤ length out))
      → x ≡ record { answer = Err TooShort; slice = out } → MergeAnswering k n numbers shares out x
  given : InRange k n → AreNumbers n (take k numbers) → k ≤ length numbers → key_size * k ≤ length shares → key_size ≤ length out
      → x ≡ record { answer = Ok tt; slice = overwrite (merged_key k numbers shares) out } → MergeAnswering k n numbers shares out x

abbrev pub MergeAnswers : Type 0
MergeAnswers = (k n : ℕ) (numbers shares out : List ℕ) → MergeAnswering k n numbers shares out (merge_of k n numbers shares out)
