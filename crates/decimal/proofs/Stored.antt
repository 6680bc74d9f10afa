-- Decimal digits stored from the last one on.
use Prim.Native.Nat.{ℕ, zero, suc, ◌+◌, ◌-◌, ◌*◌, ◌/◌, ◌%◌, ◌^◌, ◌≤◌, ◌<◌}
use native.Mathlib.Omega.{arith}
use native.Mathlib.Nat.{suc-add, pow-suc}
use mathlib.Core.Path.{◌≡◌, refl, sym, ap, ◌∙◌}
use mathlib.Core.Bool.{cond}
use mathlib.Core.List.{List, [], ◌∷◌, ◌++◌, append_assoc}
use lib.Dec.{ltb}
use lib.ListN.{length, drop, set, replicate, length-append, length-replicate}
use lib.Seq.{drop_at}
use borrow.Author.Tests.{lt-ltb, le-ltb}
use Rattle.lists.proofs.Tests.{cond_cases}
use Rattle.decimal.specs.Decimal.{digits, most_digits, decimal}
use Rattle.decimal.specs.Claims.{NoDigitLeftOut}

-- one space less, and a byte in its place
one-stored : (k d : ℕ) (t : List ℕ) → set (replicate (suc k) 32 ++ t) k d ≡ replicate k 32 ++ (d ∷ t)
one-stored zero d t = refl
one-stored (suc k) d t = ap (λ (l : List ℕ). 32 ∷ l) (one-stored k d t)

-- one more digit is stored in front of those that stand there
next-digit : (k x : ℕ) (t : List ℕ) → 10 ≤ x → digits (suc k) x ++ t ≡ digits k (x / 10) ++ ((48 + x % 10) ∷ t)
unfolding digits
next-digit k x t e = rw (le-ltb _ _ e) (append_assoc (digits k (x / 10)) ((48 + x % 10) ∷ []) t)

-- the digits of x from index `from` up to the end stand in l after spaces, and those of `rest` are still to be stored in front of them
pub record Stored (x from rest : ℕ) (l : List ℕ) : Type 0 where
  pub stored : List ℕ
  pub spaces : l ≡ replicate from 32 ++ stored
  pub joined : digits from rest ++ stored ≡ decimal x

-- the digits of x, behind spaces
pub record AreDigits (x from : ℕ) (l : List ℕ) : Type 0 where
  pub text : drop from l ≡ decimal x
  pub spaces : l ≡ replicate from 32 ++ drop from l

are-digits : (x from : ℕ) (l : List ℕ) → l ≡ replicate from 32 ++ decimal x → AreDigits x from l
are-digits x from l e =
    let text : drop from l ≡ decimal x = ap (drop from) e ∙ drop_at (replicate from 32) (decimal x) from (length-replicate from 32) in
    record { text = text; spaces = rw text e }

module _ (x rest : ℕ) (l : List ℕ) where
  -- the loop goes on
  pub stored_one : (from : ℕ) → Stored x from rest l → 0 < from → 10 ≤ rest → Stored x (from - 1) (rest / 10) (set l (from - 1) (48 + rest % 10))
  stored_one zero h p t = absurd (omega arith)
  stored_one (suc k) h p t =
      let e : suc k - 1 ≡ k = omega arith in
      rw e (record {
        stored = (48 + rest % 10) ∷ h.stored;
        spaces = rw (h.spaces, one-stored k (48 + rest % 10) h.stored);
        joined = sym (next-digit k rest h.stored t) ∙ h.joined;
      })

  -- the first digit is stored
  pub stored-last : (from : ℕ) → Stored x from rest l → 0 < from → rest < 10 → AreDigits x (from - 1) (set l (from - 1) (48 + rest % 10))
  unfolding digits
  stored-last zero h p t = absurd (omega arith)
  stored-last (suc k) h p t =
      let e : suc k - 1 ≡ k = omega arith in
      let one : 48 + rest % 10 ≡ 48 + rest = omega arith in
      let d : (48 + rest) ∷ h.stored ≡ decimal x = rw (lt-ltb rest 10 t) at h.joined in
      rw (e, one) (are-digits x k _ (rw (h.spaces, one-stored k (48 + rest) h.stored, d)))

  -- all places are taken
  pub stored-all : (from : ℕ) → Stored x from rest l → from ≤ 0 → AreDigits x 0 l
  unfolding digits
  stored-all (suc k) h z = absurd (omega arith)
  stored-all zero h z = are-digits x 0 l (h.spaces ∙ h.joined)

-- ---- how many

length_digits : (k x : ℕ) → length (digits k x) ≤ k
unfolding digits
length_digits zero x = omega arith
length_digits (suc k) x =
    cond_cases (λ (l : List ℕ). length l ≤ suc k) (ltb x 10)
    (λ _. omega arith)
    (λ _. rw length-append (omega (arith, length_digits k (x / 10))))

pub length-decimal : (x : ℕ) → length (decimal x) ≤ most_digits
length-decimal x = length_digits most_digits x

-- with room for more digits than there are
more_room : (k j x : ℕ) → x < 10 ^ suc k → digits (suc k + j) x ≡ digits (suc k) x
unfolding digits
more_room zero j x h = rw (suc-add, lt-ltb x 10 (omega arith)) refl
more_room (suc k) j x h =
    let h' : x < 10 ^ suc k * 10 = rw pow-suc at h in
    rw suc-add (ap (λ (l : List ℕ). cond (ltb x 10) ((48 + x) ∷ []) (l ++ ((48 + x % 10) ∷ []))) (more_room k j (x / 10) (omega arith)))

pub no-digit-left-out : NoDigitLeftOut
no-digit-left-out x k h = more_room 19 k x (omega arith)

-- a number below ten to the power of w has at most w digits
pub decimal-below : (w x : ℕ) → 1 ≤ w → w ≤ most_digits → x < 10 ^ w → decimal x ≡ digits w x
decimal-below zero x a b h = absurd (omega arith)
decimal-below (suc k) x a b h =
    let e : most_digits ≡ suc k + (most_digits - suc k) = omega arith in
    ap (λ (n : ℕ). digits n x) e ∙ more_room k (most_digits - suc k) x h

pub length-below : (w x : ℕ) → 1 ≤ w → w ≤ most_digits → x < 10 ^ w → length (decimal x) ≤ w
length-below w x a b h = rw (decimal-below w x a b h) (length_digits w x)
