-- A date is read from ten characters by the digits where they stand.
use Prim.Native.Nat.{ℕ, zero, suc, ◌+◌, ◌-◌, ◌*◌, ◌/◌, ◌%◌, ◌≤◌, ◌<◌}
use native.Mathlib.Omega.{arith}
use mathlib.Core.Path.{◌≡◌, refl, sym, ap, ◌∙◌}
use mathlib.Core.Bool.{Bool, true, false, cond, and-eq-true_iff, and-true, and-false, false≢true}
use mathlib.Core.List.{List, [], ◌∷◌, ◌++◌}
use mathlib.Core.Option.{none, some}
use lib.ListN.{length, drop, drop_of_length-le}
use lib.Seq.{drop-cons}
use borrow.Author.Tests.{leb-true, le-leb, eqb-true}
use Rattle.binary.specs.Number.{byte_at, is_same_bytes}
use Rattle.binary.proofs.Same.{same_bytes, bytes_same}
use Rattle.decimal.specs.Decimal.{padded, number_from, number_in}
use Rattle.calendar.specs.declared.Date.{Date}
use Rattle.calendar.specs.Calendar.{date, day_of}
use Rattle.calendar.specs.Code.{are_digits, two_digits, is_date_like}
use Rattle.calendar.specs.Text.{date_text, is_date, date_in, day_in}

-- ---- a list by its elements

-- n elements of a list from index i on
unfoldable pub elements : ℕ → ℕ → List ℕ → List ℕ
elements zero i text = []
elements (suc n) i text = byte_at i text ∷ elements n (suc i) text

pub by-elements : (n i : ℕ) (text : List ℕ) → length text ≡ i + n → drop i text ≡ elements n i text
unfolding elements
by-elements zero i text e = drop_of_length-le text {i = i} (omega arith)
by-elements (suc n) i text e =
    drop-cons text i 0 (omega arith) ∙ ap (λ (l : List ℕ). byte_at i text ∷ l) (by-elements n (suc i) text (omega arith))

-- ---- two digits

pub digits-range : (a b : ℕ) → are_digits a b ≡ true → ((48 ≤ a) × (a ≤ 57)) × ((48 ≤ b) × (b ≤ 57))
digits-range a b e = let t = simp and-eq-true_iff at e in omega (arith, leb-true)

range-digits : (a b : ℕ) → ((48 ≤ a) × (a ≤ 57)) × ((48 ≤ b) × (b ≤ 57)) → are_digits a b ≡ true
range-digits a b t = rw (le-leb 48 a t.0.0, le-leb a 57 t.0.1, le-leb 48 b t.1.0, le-leb b 57 t.1.1)

written-digits : (x y : ℕ) → are_digits (48 + x % 10) (48 + y % 10) ≡ true
written-digits x y = range-digits (48 + x % 10) (48 + y % 10) (omega arith)

read-two : (v a b : ℕ) (rest : List ℕ) → are_digits a b ≡ true → number_from v (a ∷ b ∷ rest) ≡ number_from (100 * v + two_digits a b) rest
unfolding number_from
read-two v a b rest e =
    let t = digits-range a b e in
    let n : 10 * (10 * v + (a - 48)) + (b - 48) ≡ 100 * v + two_digits a b = omega arith in
    rw (le-leb 48 a t.0.0, le-leb a 57 t.0.1, le-leb 48 b t.1.0, le-leb b 57 t.1.1) (ap (λ (k : ℕ). number_from k rest) n)

read-pair : (a b : ℕ) → are_digits a b ≡ true → number_in (a ∷ b ∷ []) ≡ two_digits a b
unfolding number_from
read-pair a b e = read-two 0 a b [] e ∙ omega arith

written-two : (a b : ℕ) → are_digits a b ≡ true → padded 2 (two_digits a b) ≡ a ∷ b ∷ []
unfolding padded
written-two a b e =
    let t = digits-range a b e in
    let p : 48 + two_digits a b / 10 % 10 ≡ a = omega arith in
    let q : 48 + two_digits a b % 10 ≡ b = omega arith in
    (λ i. p i ∷ q i ∷ [])

-- a year by its hundred and the year in it
written-year : (h y : ℕ) → y < 100 → padded 4 (100 * h + y) ≡ padded 2 h ++ padded 2 y
unfolding padded
written-year h y l =
    let x : ℕ = 100 * h + y in
    let e : x / 10 / 10 ≡ h = omega arith in
    let c : 48 + x / 10 % 10 ≡ 48 + y / 10 % 10 = omega arith in
    let d : 48 + x % 10 ≡ 48 + y % 10 = omega arith in
    (λ i. (48 + e i / 10 % 10) ∷ (48 + e i % 10) ∷ c i ∷ d i ∷ [])

-- ---- ten characters

-- the digits of year, month and day, and the hyphens
pub record IsLike (text : List ℕ) : Type 0 where
  pub hundred : are_digits (byte_at 0 text) (byte_at 1 text) ≡ true
  pub year : are_digits (byte_at 2 text) (byte_at 3 text) ≡ true
  pub behind-year : byte_at 4 text ≡ 45
  pub month : are_digits (byte_at 5 text) (byte_at 6 text) ≡ true
  pub behind-month : byte_at 7 text ≡ 45
  pub day : are_digits (byte_at 8 text) (byte_at 9 text) ≡ true

pub is-like : (text : List ℕ) → is_date_like text ≡ true → IsLike text
unfolding is_date_like
is-like text e =
    let t = simp and-eq-true_iff at e in
    record {
      hundred = range-digits (byte_at 0 text) (byte_at 1 text) (omega (arith, leb-true));
      year = range-digits (byte_at 2 text) (byte_at 3 text) (omega (arith, leb-true));
      behind-year = omega (arith, eqb-true);
      month = range-digits (byte_at 5 text) (byte_at 6 text) (omega (arith, leb-true));
      behind-month = omega (arith, eqb-true);
      day = range-digits (byte_at 8 text) (byte_at 9 text) (omega (arith, leb-true));
    }

written-like : (d : Date) → is_date_like (date_text d) ≡ true
unfolding is_date_like padded
written-like d =
    let y : ℕ = d.year in
    rw (
      written-digits (y / 10 / 10 / 10) (y / 10 / 10),
      written-digits (y / 10) y,
      written-digits (d.month / 10) d.month,
      written-digits (d.day / 10) d.day,
    )

-- the numbers that the digits are, and those that are written so
module _ (text : List ℕ) (e : length text ≡ 10) (t : IsLike text) where
  abbrev pub at : ℕ → ℕ
  at i = byte_at i text

  abbrev pub year_at : ℕ
  year_at = 100 * two_digits (at 0) (at 1) + two_digits (at 2) (at 3)

  abbrev pub date_at : Date
  date_at = date year_at (two_digits (at 5) (at 6)) (two_digits (at 8) (at 9))

  by_ten : text ≡ elements 10 0 text
  by_ten = by-elements 10 0 text e

  read-year : number_in (at 0 ∷ at 1 ∷ at 2 ∷ at 3 ∷ []) ≡ year_at
  unfolding number_from
  read-year =
      read-two 0 (at 0) (at 1) (at 2 ∷ at 3 ∷ []) t.hundred
      ∙ read-two (100 * 0 + two_digits (at 0) (at 1)) (at 2) (at 3) [] t.year
      ∙ omega arith

  pub date-at : date_in text ≡ date_at
  unfolding elements
  date-at =
      let m = read-pair (at 5) (at 6) t.month in
      let j = read-pair (at 8) (at 9) t.day in
      ap date_in by_ten ∙ (λ i. record { year = read-year i; month = m i; day = j i })

  written-so : date_text (date_in text) ≡ text
  unfolding elements
  written-so =
      let h = written-two (at 0) (at 1) t.hundred in
      let y = written-two (at 2) (at 3) t.year in
      let m = written-two (at 5) (at 6) t.month in
      let j = written-two (at 8) (at 9) t.day in
      let r = digits-range (at 2) (at 3) t.year in
      let w : date_text date_at ≡ elements 10 0 text =
      rw (written-year (two_digits (at 0) (at 1)) (two_digits (at 2) (at 3)) (omega arith), h, y, m, j, t.behind-year, t.behind-month) in
      ap date_text date-at ∙ w ∙ sym by_ten

  pub day-like : day_in text ≡ cond (is_date (date_in text)) (some (day_of (date_in text))) none
  unfolding day_in
  day-like =
      let s : is_same_bytes (date_text (date_in text)) text ≡ true = ap (λ (l : List ℕ). is_same_bytes l text) written-so ∙ same_bytes text in
      rw (s, and-true)

-- A text that is that of no date.
no-day : (text : List ℕ) → ((d : Date) → date_text d ≡ text → ⊥) → day_in text ≡ none
unfolding day_in
no-day text f = at (is_same_bytes (date_text (date_in text)) text) refl
  where
    at : (b : Bool) → is_same_bytes (date_text (date_in text)) text ≡ b → day_in text ≡ none
    at true e = absurd (f (date_in text) (bytes_same _ _ e))
    at false e = rw (e, and-false)

pub not-ten : (text : List ℕ) → (length text ≡ 10 → ⊥) → day_in text ≡ none
unfolding padded
not-ten text h = no-day text (λ d e. h (ap length (sym e)))

pub not-like : (text : List ℕ) → is_date_like text ≡ false → day_in text ≡ none
not-like text h = no-day text (λ d e. false≢true (sym h ∙ ap is_date_like (sym e) ∙ written-like d))
