-- Digits read one by one from a text.
use Prim.Native.Nat.{ℕ, zero, suc, ◌+◌, ◌-◌, ◌*◌, ◌^◌, ◌≤◌, ◌<◌, min}
use native.Mathlib.Numerals.{add-one}
use native.Mathlib.Nat.{pow-suc, pow-le-pow_right}
use native.Mathlib.Omega.{arith}
use mathlib.Core.Path.{◌≡◌, refl, sym, ap, ◌∙◌}
use mathlib.Core.Bool.{Bool, true, false, cond, and-eq-true_iff}
use mathlib.Core.List.{List, [], ◌∷◌, ◌++◌}
use lib.Dec.{leb}
use lib.ListN.{length, get_or, drop, drop_of_length-le}
use lib.Seq.{drop-cons}
use borrow.Author.Tests.{leb-true, leb-false}
use Rattle.lists.specs.Fold.{all}
use Rattle.decimal.specs.Decimal.{is_digit, number_from}
use Rattle.decimal.specs.Code.{most_read, digits_in}

-- the digits from index `at` to index i are read as the value
pub record Scanned (text : List ℕ) (at most value i : ℕ) : Type 0 where
  pub below : value < 10 ^ (i - at)
  pub same : digits_in (at + most - i) value (drop i text) ≡ digits_in most 0 (drop at text)

-- a digit more has a power more
digit-below : (v d n : ℕ) → v < 10 ^ n → d < 10 → 10 * v + d < 10 ^ suc n
digit-below v d n h k = rw pow-suc (omega arith)

-- a value with a digit still to come is short enough to take it
pub scanned-short : {text : List ℕ} {at most value i : ℕ} → Scanned text at most value i → i < at + most → most ≤ most_read → value < 10 ^ most_read
scanned-short {at = at} {most = most} {i = i} s l h =
    let p : 10 ^ (i - at) ≤ 10 ^ most_read = pow-le-pow_right {n = 10} (omega arith) {i = i - at} {j = most_read} (omega arith) in
    omega (arith, s.below)

-- what a digit is
pub digit-range : (c : ℕ) → is_digit c ≡ true → (48 ≤ c) × (c ≤ 57)
digit-range c e = let b = (and-eq-true_iff (leb 48 c) (leb c 57)).0 e in (leb-true _ _ b.0, leb-true _ _ b.1)

-- no text has no digits
nothing-read : (n v : ℕ) → digits_in n v [] ≡ (v, [])
unfolding digits_in
nothing-read zero v = refl
nothing-read (suc n) v = refl

module _ {text : List ℕ} {at most value i : ℕ} (s : Scanned text at most value i) where
  module _ (from : at ≤ i) (to : i < at + most) (h : i < length text) where
    turn : (b : Bool) → is_digit (get_or text i 0) ≡ b → digits_in (at + most - i) value (drop i text)
        ≡ cond b (digits_in (at + most - (i + 1)) (10 * value + (get_or text i 0 - 48)) (drop (i + 1) text)) (value, drop i text)
    unfolding digits_in
    turn b e =
        let n : at + most - i ≡ suc (at + most - (i + 1)) = omega arith in
        rw (n, drop-cons text i 0 h, e, add-one)

    pub scanned-one : is_digit (get_or text i 0) ≡ true → Scanned text at most (10 * value + (get_or text i 0 - 48)) (i + 1)
    scanned-one e =
        let range = digit-range (get_or text i 0) e in
        let n : i + 1 - at ≡ suc (i - at) = omega arith in
        record {
          below = rw n (digit-below value (get_or text i 0 - 48) (i - at) s.below (omega arith));
          same = sym (turn true e) ∙ s.same;
        }

    -- a character that is no digit ends the number
    pub scanned-other : is_digit (get_or text i 0) ≡ false → (value, drop i text) ≡ digits_in most 0 (drop at text)
    scanned-other e = sym (turn false e) ∙ s.same

  -- and so does the last digit that is asked for, or the end of the text
  pub scanned-all : (end : ℕ) → end ≤ i → (at ≤ end → i ≤ end) → end ≡ min (at + most) (length text)
      → (value, drop end text) ≡ digits_in most 0 (drop at text)
  unfolding digits_in
  scanned-all end l f e = go (leb (length text) end) refl
    where
      go : (b : Bool) → leb (length text) end ≡ b → (value, drop end text) ≡ digits_in most 0 (drop at text)
      go true q =
          let past = leb-true _ _ q in
          let none = drop_of_length-le text {i = end} past in
          let none' = drop_of_length-le text {i = i} (omega arith) in
          rw (none, ← nothing-read (at + most - i) value) (rw none' at s.same)
      go false q =
          let within = leb-false _ _ q in
          let last : i ≡ end = omega arith in
          let n : at + most - i ≡ 0 = omega arith in
          rw (← last) (rw n at s.same)

-- ---- what was read

-- the digits at the front of a text, up to n of them, and their number
pub record IsFront (n v : ℕ) (text : List ℕ) : Type 0 where
  pub front : List ℕ
  pub text_of : text ≡ front ++ (digits_in n v text).1
  pub digits : all is_digit front ≡ true
  pub few : length front ≤ n
  pub value : (digits_in n v text).0 ≡ number_from v front

pub digits-read : (n v : ℕ) (text : List ℕ) → IsFront n v text
unfolding digits_in number_from all
digits-read zero v text = record { front = []; text_of = refl; digits = refl; few = omega arith; value = refl }
digits-read (suc n) v [] = record { front = []; text_of = refl; digits = refl; few = omega arith; value = refl }
digits-read (suc n) v (c ∷ cs) = go (is_digit c) refl (digits-read n (10 * v + (c - 48)) cs)
  where
    go : (b : Bool) → is_digit c ≡ b → IsFront n (10 * v + (c - 48)) cs → IsFront (suc n) v (c ∷ cs)
    go true e f = record {
      front = c ∷ f.front;
      text_of = rw e (ap (λ (l : List ℕ). c ∷ l) f.text_of);
      digits = rw e f.digits;
      few = omega (arith, f.few);
      value = rw e f.value;
    }
    go false e f = record { front = []; text_of = rw e; digits = refl; few = omega arith; value = rw e }

-- the text ends, or goes on with no digit
abbrev pub Stops : List ℕ → Type 0
Stops [] = Unit {0}
Stops (c ∷ cs) = is_digit c ≡ false

-- digits at the front of a text are what is read
pub digits-front : (n v : ℕ) (front rest : List ℕ) → all is_digit front ≡ true → length front ≤ n → Stops rest
    → digits_in n v (front ++ rest) ≡ (number_from v front, rest)
unfolding digits_in number_from all
digits-front zero v [] rest e h s = refl
digits-front zero v (c ∷ cs) rest e h s = absurd (omega arith)
digits-front (suc n) v [] [] e h s = refl
digits-front (suc n) v [] (d ∷ ds) e h s = rw s
digits-front (suc n) v (c ∷ cs) rest e h s =
    let t = (and-eq-true_iff (is_digit c) (all is_digit cs)).0 e in
    rw t.0 (digits-front n (10 * v + (c - 48)) cs rest t.1 (omega arith) s)
