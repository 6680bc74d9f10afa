-- The fields of a roster's line: what is read is in its range, and what is written is read back.
use Prim.Native.Nat.{ℕ, zero, suc, ◌+◌, ◌*◌, ◌/◌, ◌%◌, ◌^◌, ◌≤◌, ◌<◌}
use native.Mathlib.Omega.{arith}
use native.Mathlib.Nat.{pow-suc, mul-le-mul_right}
use mathlib.Core.Path.{◌≡◌, refl, sym, ap, ◌∙◌}
use mathlib.Core.Bool.{Bool, true, ◌&&◌, and-eq-true_iff, or-true}
use mathlib.Core.List.{List, [], ◌∷◌, ◌++◌}
use mathlib.Core.Option.{some}
use lib.Dec.{eqb, ltb, leb}
use lib.ListN.{length, length-append}
use borrow.Author.Tests.{ltb-true, leb-true, le-leb, eqb-true}
use Rattle.lists.specs.Fold.{all}
use Rattle.lists.proofs.Options.{chosen}
use Rattle.lists.proofs.Tests.{cond_cases, all_below, passes-below}
use Rattle.lists.proofs.Every.{all_of, all-to, all_map}
use Rattle.decimal.specs.Decimal.{digits, most_digits, decimal, padded, is_digit, number_in}
use Rattle.decimal.proofs.Stored.{length-below}
use Rattle.decimal.proofs.Texts.{read-decimal}
use Rattle.calendar.specs.Calendar.{date_of}
use Rattle.calendar.specs.Text.{day_text}
use Rattle.roster.specs.Csv.{is_text_data}
use Rattle.roster.specs.Fields.{most_login_digits, is_login_number, login_in}
use Rattle.roster.specs.Fields.{is_capital, is_small, is_hex_digit, hex_value, hex_from, rights_digits, rights_in, hex_digit, hex_text}

all_append : (p : ℕ → Bool) (a b : List ℕ) → all p a ≡ true → all p b ≡ true → all p (a ++ b) ≡ true
unfolding all
all_append p [] b e f = f
all_append p (x ∷ xs) b e f =
    let t = (and-eq-true_iff (p x) (all p xs)).0 e in
    rw (t.0, all_append p xs b t.1 f)

-- ---- logins

-- what a login's field holds
pub record IsLogin (c : List ℕ) (x : ℕ) : Type 0 where
  pub digits : all is_digit c ≡ true
  pub few : length c ≤ most_login_digits
  pub value : number_in c ≡ x
  pub in-range : is_login_number x ≡ true

pub login-to : (c : List ℕ) (x : ℕ) → login_in c ≡ some x → IsLogin c x
unfolding login_in
login-to c x e =
    let t = chosen _ (number_in c) x e in
    let u = (and-eq-true_iff (all is_digit c) _).0 t.0 in
    let v = (and-eq-true_iff (leb 1 (length c) && leb (length c) most_login_digits) (is_login_number (number_in c))).0 u.1 in
    let w = (and-eq-true_iff (leb 1 (length c)) (leb (length c) most_login_digits)).0 v.0 in
    record { digits = u.0; few = leb-true _ _ w.1; value = t.1; in-range = ap is_login_number (sym t.1) ∙ v.1 }

pub login-range : (text : List ℕ) (x : ℕ) → login_in text ≡ some x → (1 ≤ x) × (x < 2 ^ 32)
login-range text x e =
    let t = simp and-eq-true_iff at (login-to text x e).in-range in
    omega (arith, leb-true)

is_digit_lem : (d : ℕ) → d < 10 → is_digit (48 + d) ≡ true
is_digit_lem d h = rw (le-leb 48 (48 + d) (omega arith), le-leb (48 + d) 57 (omega arith))

all_digits : (k x : ℕ) → all is_digit (digits k x) ≡ true
unfolding digits all
all_digits zero x = refl
all_digits (suc k) x =
    cond_cases (λ (l : List ℕ). all is_digit l ≡ true) (ltb x 10) (λ t. rw (is_digit_lem x (ltb-true x 10 t)))
    (λ _. all_append is_digit (digits k (x / 10)) ((48 + x % 10) ∷ []) (all_digits k (x / 10)) (rw (is_digit_lem (x % 10) (omega arith))))

digits-some : (k x : ℕ) → 1 ≤ length (digits (suc k) x)
unfolding digits
digits-some k x =
    cond_cases (λ (l : List ℕ). 1 ≤ length l) (ltb x 10) (λ _. omega arith) (λ _. rw length-append (omega arith))

pub login-back : (x : ℕ) → 1 ≤ x → x < 2 ^ 32 → login_in (decimal x) ≡ some x
unfolding login_in
login-back x h l =
    let r = read-decimal 10 x (omega arith) (omega arith) (omega arith) in
    let n = length-below 10 x (omega arith) (omega arith) (omega arith) in
    rw (
      all_digits most_digits x,
      le-leb 1 (length (decimal x)) (digits-some 19 x),
      le-leb (length (decimal x)) most_login_digits n,
      r,
      le-leb 1 x h,
      le-leb x 4294967295 (omega arith),
    )

-- ---- rights

abbrev is_rights : List ℕ → Bool
is_rights text = all is_hex_digit text && (eqb (length text) rights_digits && leb 1 (hex_from 0 text))

pub hex-value : (c : ℕ) → is_hex_digit c ≡ true → hex_value c < 16
hex-value c e =
    cond_cases (λ (n : ℕ). n < 16) (is_digit c)
    (λ t. (let u = simp and-eq-true_iff at t in omega (arith, leb-true)))
    (λ t. cond_cases (λ (n : ℕ). n < 16) (is_capital c)
    (λ s. (let u = simp and-eq-true_iff at s in omega (arith, leb-true)))
    (λ s. (let r : is_small c ≡ true = rw (t, s) at e in let u = simp and-eq-true_iff at r in omega (arith, leb-true))))

-- the digits of the text are below 16 to the power of their number
hex-below : (v : ℕ) (text : List ℕ) → all is_hex_digit text ≡ true → hex_from v text < suc v * 16 ^ length text
unfolding hex_from all
hex-below v [] e = omega arith
hex-below v (c ∷ cs) e =
    let t = (and-eq-true_iff (is_hex_digit c) (all is_hex_digit cs)).0 e in
    let d = hex-value c t.0 in
    let m = mul-le-mul_right {m = suc (16 * v + hex_value c)} {n = 16 * suc v} (16 ^ length cs) (omega arith) in
    rw pow-suc (omega (arith, hex-below (16 * v + hex_value c) cs t.1))

pub rights-range : (text : List ℕ) (x : ℕ) → rights_in text ≡ some x → (1 ≤ x) × (x < 2 ^ 16)
unfolding rights_in
rights-range text x e =
    let t = chosen (is_rights text) (hex_from 0 text) x e in
    let u = (and-eq-true_iff (all is_hex_digit text) (eqb (length text) rights_digits && leb 1 (hex_from 0 text))).0 t.0 in
    let w = (and-eq-true_iff (eqb (length text) rights_digits) (leb 1 (hex_from 0 text))).0 u.1 in
    let n : 16 ^ length text ≡ 65536 = ap (λ (k : ℕ). 16 ^ k) (eqb-true (length text) rights_digits w.0) in
    omega (arith, leb-true, hex-below 0 text u.0)

-- the sixteen digits
is_digit_of : ℕ → Bool
is_digit_of d = eqb (hex_value (hex_digit d)) d && (is_hex_digit (hex_digit d) && is_text_data (hex_digit d))

all-digits-of : all_below is_digit_of 16 ≡ true
unfolding all_below is_digit_of
all-digits-of = refl

record IsDigitOf (d c : ℕ) : Type 0 where
  value : hex_value c ≡ d
  digit : is_hex_digit c ≡ true
  plain : is_text_data c ≡ true

hex-digit : (x : ℕ) → IsDigitOf (x % 16) (hex_digit (x % 16))
unfolding is_digit_of
hex-digit x =
    let d : ℕ = x % 16 in
    let t = passes-below is_digit_of 16 all-digits-of d (omega arith) in
    let u = (and-eq-true_iff (eqb (hex_value (hex_digit d)) d) (is_hex_digit (hex_digit d) && is_text_data (hex_digit d))).0 t in
    let w = (and-eq-true_iff (is_hex_digit (hex_digit d)) (is_text_data (hex_digit d))).0 u.1 in
    record { value = eqb-true _ _ u.0; digit = w.0; plain = w.1 }

pub rights-back : (x : ℕ) → 1 ≤ x → x < 2 ^ 16 → rights_in (hex_text rights_digits x) ≡ some x
unfolding rights_in hex_text hex_from all
rights-back x h l =
    let a = hex-digit (x / 16 / 16 / 16) in
    let b = hex-digit (x / 16 / 16) in
    let c = hex-digit (x / 16) in
    let d = hex-digit x in
    let n : 16 * (16 * (16 * (16 * 0 + x / 16 / 16 / 16 % 16) + x / 16 / 16 % 16) + x / 16 % 16) + x % 16 ≡ x = omega arith in
    rw (a.value, b.value, c.value, d.value, a.digit, b.digit, c.digit, d.digit, n, le-leb 1 x h)

-- ---- all three are TEXTDATA

pub digit-plain : (c : ℕ) → is_digit c ≡ true → is_text_data c ≡ true
digit-plain c e =
    let t = simp and-eq-true_iff at e in
    let h : 45 ≤ c = omega (arith, leb-true) in
    let l : c ≤ 126 = omega (arith, leb-true) in
    rw (le-leb 45 c h, le-leb c 126 l, or-true, or-true)

pub login-plain : (x : ℕ) → all is_text_data (decimal x) ≡ true
login-plain x = all-to is_text_data (all_map digit-plain (all_of is_digit (decimal x) (all_digits most_digits x)))

pub day-plain : (n : ℕ) → all is_text_data (day_text n) ≡ true
unfolding day_text padded all
day-plain n =
    let d = date_of n in
    let y : ℕ = d.year in
    let plain : (x : ℕ) → is_text_data (48 + x % 10) ≡ true = λ x. digit-plain (48 + x % 10) (is_digit_lem (x % 10) (omega arith)) in
    rw (
      plain (y / 10 / 10 / 10),
      plain (y / 10 / 10),
      plain (y / 10),
      plain y,
      plain (d.month / 10),
      plain d.month,
      plain (d.day / 10),
      plain d.day,
    )

pub rights-plain : (x : ℕ) → all is_text_data (hex_text rights_digits x) ≡ true
unfolding hex_text all
rights-plain x =
    rw (
      (hex-digit (x / 16 / 16 / 16)).plain,
      (hex-digit (x / 16 / 16)).plain,
      (hex-digit (x / 16)).plain,
      (hex-digit x).plain,
    )
