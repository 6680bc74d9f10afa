-- Numbers as texts: how long they are, and that they are read back.
use Prim.Native.Nat.{ℕ, zero, suc, ◌+◌, ◌-◌, ◌*◌, ◌/◌, ◌%◌, ◌^◌, ◌≤◌, ◌<◌}
use native.Mathlib.Omega.{arith}
use native.Mathlib.Nat.{pow-suc}
use mathlib.Core.Path.{◌≡◌, refl, sym, ap, ◌∙◌}
use mathlib.Core.Bool.{cond}
use mathlib.Core.List.{List, [], ◌∷◌, ◌++◌, append_assoc}
use lib.Dec.{ltb}
use lib.ListN.{length, drop, replicate, length-append, length-drop, length-replicate, replicate-append-replicate}
use lib.Seq.{drop_at}
use borrow.Author.Tests.{ltb-true, lt-ltb, le-leb}
use Rattle.lists.proofs.Tests.{cond_cases}
use Rattle.decimal.specs.Decimal.{digits, most_digits, decimal, padded, is_digit, number_from, number_in}
use Rattle.decimal.specs.Claims.{AlignedReadBack, PaddedReadBack}
use Rattle.decimal.proofs.Stored.{decimal-below, length-below}

abbrev spaces : ℕ → List ℕ
spaces n = replicate n 32

-- the last w places, where digits stand behind spaces
pub last-places : (from w : ℕ) (b : List ℕ) → length b ≡ most_digits → from ≤ most_digits → b ≡ spaces from ++ drop from b
    → length (drop from b) ≤ w → w ≤ most_digits → drop (most_digits - w) b ≡ spaces (w - length (drop from b)) ++ drop from b
last-places from w b h within e long short =
    let k : ℕ = most_digits - w in
    let d : List ℕ = drop from b in
    let size : length d ≡ most_digits - from = rw (length-drop, h) in
    let m : from ≡ k + (w - length d) = omega arith in
    let r : spaces from ≡ spaces k ++ spaces (w - length d) = ap spaces m ∙ sym (replicate-append-replicate k (w - length d) 32) in
    let p : b ≡ spaces k ++ (spaces (w - length d) ++ d) =
    e ∙ ap (λ (l : List ℕ). l ++ d) r ∙ append_assoc (spaces k) (spaces (w - length d)) d in
    ap (drop k) p ∙ drop_at (spaces k) (spaces (w - length d) ++ d) k (length-replicate k 32)

-- ---- what is read

read-append : (v : ℕ) (a b : List ℕ) → number_from v (a ++ b) ≡ number_from (number_from v a) b
unfolding number_from
read-append v [] b = refl
read-append v (c ∷ cs) b = read-append (cond (is_digit c) (10 * v + (c - 48)) v) cs b

read-spaces : (n v : ℕ) → number_from v (spaces n) ≡ v
unfolding number_from
read-spaces zero v = refl
read-spaces (suc n) v = read-spaces n v

read-digit : (v d : ℕ) → d < 10 → number_from v ((48 + d) ∷ []) ≡ 10 * v + d
unfolding number_from
read-digit v d h = rw (le-leb 48 (48 + d) (omega arith), le-leb (48 + d) 57 (omega arith)) (omega arith)

-- the last digit, after the others
read-last : (l : List ℕ) (x : ℕ) → number_in l ≡ x / 10 → number_in (l ++ ((48 + x % 10) ∷ [])) ≡ x
read-last l x e = let r = read-digit (number_in l) (x % 10) (omega arith) in read-append 0 l ((48 + x % 10) ∷ []) ∙ omega arith

read-digits : (k x : ℕ) → x < 10 ^ suc k → number_in (digits (suc k) x) ≡ x
unfolding digits
read-digits zero x h = let r = read-digit 0 x (omega arith) in rw (lt-ltb x 10 (omega arith)) (omega arith)
read-digits (suc k) x h =
    let h' : x < 10 ^ suc k * 10 = rw pow-suc at h in
    cond_cases (λ (l : List ℕ). number_in l ≡ x) (ltb x 10)
    (λ t. let r = read-digit 0 x (ltb-true x 10 t) in omega arith)
    (λ _. read-last (digits (suc k) (x / 10)) x (read-digits k (x / 10) (omega arith)))

pub read-decimal : (w x : ℕ) → 1 ≤ w → w ≤ most_digits → x < 10 ^ w → number_in (decimal x) ≡ x
read-decimal zero x a b h = absurd (omega arith)
read-decimal (suc k) x a b h = ap number_in (decimal-below (suc k) x a b h) ∙ read-digits k x h

pub aligned-read-back : AlignedReadBack
aligned-read-back w x a b h =
    let n : ℕ = w - length (decimal x) in
    let l = length-below w x a b h in (
      simp (length-append, length-replicate) (omega arith),
      read-append 0 (spaces n) (decimal x) ∙ ap (λ (v : ℕ). number_from v (decimal x)) (read-spaces n 0) ∙ read-decimal w x a b h,
    )

pub padded-read-back : PaddedReadBack
unfolding padded number_from
padded-read-back zero x h = (refl, omega arith)
padded-read-back (suc w) x h =
    let h' : x < 10 ^ w * 10 = rw pow-suc at h in
    let t = padded-read-back w (x / 10) (omega arith) in
    (rw (length-append, t.0) (omega arith), read-last (padded w (x / 10)) x t.1)
