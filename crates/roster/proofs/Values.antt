-- The values that the code computes from characters.
use Prim.Native.Nat.{ℕ, zero, suc, ◌+◌, ◌*◌, ◌≤◌, ◌<◌}
use native.Mathlib.Omega.{arith}
use mathlib.Core.Path.{◌≡◌, refl}
use mathlib.Core.Bool.{Bool, true, false, cond, and-eq-true_iff, and-false}
use mathlib.Core.List.{List, [], ◌∷◌}
use mathlib.Core.Option.{Option, some, none, bind, bind-eq-some_iff}
use lib.Dec.{leb, eqb}
use lib.ListN.{length, get_or, take, length-take}
use borrow.Author.Tests.{leb-true, le-leb, ne_eqb}
use Rattle.lists.specs.Fold.{all}
use Rattle.lists.proofs.Options.{same-options}
use Rattle.lists.proofs.Tests.{clash}
use Rattle.calendar.specs.Text.{day_in}
use Rattle.calendar.proofs.Characters.{elements, by-elements}
use Rattle.calendar.proofs.Texts.{day-length}
use Rattle.roster.specs.Fields.{is_login_number, is_capital, is_small, is_hex_digit, hex_from, rights_digits, rights_in}
use Rattle.roster.specs.Code.{hex_of, date_size, value_at}

pub capital-range : (c : ℕ) → is_capital c ≡ true → (65 ≤ c) × (c ≤ 70)
capital-range c e = let b = (and-eq-true_iff (leb 65 c) (leb c 70)).0 e in (leb-true _ _ b.0, leb-true _ _ b.1)

pub small-range : (c : ℕ) → is_small c ≡ true → (97 ≤ c) × (c ≤ 102)
small-range c e = let b = (and-eq-true_iff (leb 97 c) (leb c 102)).0 e in (leb-true _ _ b.0, leb-true _ _ b.1)

-- ---- rights

-- a number that is not zero
abbrev pub unless_zero : ℕ → Option ℕ
unless_zero x = cond (eqb x 0) none (some x)

abbrev pub four_digits : ℕ → ℕ → ℕ → ℕ → ℕ
four_digits a b c d = 16 * (16 * (16 * a + b) + c) + d

unless-zero : (x y : ℕ) → x ≡ y → cond (leb 1 x) (some x) none ≡ unless_zero y
unless-zero zero y e = rw (← e)
unless-zero (suc n) y e = rw (← e, le-leb 1 (suc n) (omega arith), ne_eqb (suc n) 0 (λ z. absurd (omega arith)))

-- a text of four characters
four-of : (t : List ℕ) → length t ≡ 4 → t ≡ get_or t 0 0 ∷ get_or t 1 0 ∷ get_or t 2 0 ∷ get_or t 3 0 ∷ []
unfolding elements
four-of t h = by-elements 4 0 t h

-- the rights of four characters, digit by digit
abbrev by_digits : List ℕ → Option ℕ
by_digits t =
    bind (hex_of (get_or t 0 0)) (λ a.
    bind (hex_of (get_or t 1 0)) (λ b.
    bind (hex_of (get_or t 2 0)) (λ c.
    bind (hex_of (get_or t 3 0)) (λ d. unless_zero (four_digits a b c d)))))

pub rights_of : (t : List ℕ) → length t ≡ 4 → rights_in t ≡ by_digits t
unfolding rights_in hex_from bind all
rights_of t h = rw (four-of t h) (go (get_or t 0 0) (get_or t 1 0) (get_or t 2 0) (get_or t 3 0) _ _ _ _ refl refl refl refl)
  where
    go : (a b c d : ℕ) (p q r s : Bool) → is_hex_digit a ≡ p → is_hex_digit b ≡ q → is_hex_digit c ≡ r → is_hex_digit d ≡ s
        → rights_in (a ∷ b ∷ c ∷ d ∷ []) ≡ by_digits (a ∷ b ∷ c ∷ d ∷ [])
    go a b c d false q r s e f g h = rw e
    go a b c d true false r s e f g h = rw (e, f)
    go a b c d true true false s e f g h = rw (e, f, g)
    go a b c d true true true false e f g h = rw (e, f, g, h)
    go a b c d true true true true e f g h = rw (e, f, g, h) (unless-zero _ _ (omega arith))

-- ---- values of a fixed size

short-part : (text : List ℕ) (n : ℕ) → length text < n → length (take n text) < n
short-part text n h = rw (length-take n text) (omega arith)

pub end_short : (text : List ℕ) → length text < 10 → value_at date_size day_in text ≡ none
end_short text h =
    same-options _ _
    (λ p e. absurd (let a = (bind-eq-some_iff (day_in (take 10 text)) _).0 e in let few = short-part text 10 h in omega (arith, few, day-length _ a.0 a.1)))
    (λ p e. clash (cc))

pub rights_short : (text : List ℕ) → length text < 4 → value_at rights_digits rights_in text ≡ none
unfolding rights_in bind
rights_short text h =
    let few = short-part text 4 h in
    let wrong : eqb (length (take 4 text)) 4 ≡ false = ne_eqb (length (take 4 text)) 4 (λ e. absurd (omega (arith, few, e))) in
    rw (wrong, and-false (all is_hex_digit (take 4 text)))

-- a login number within its range
pub login-number : (x : ℕ) → is_login_number x ≡ true → (1 ≤ x) × (x ≤ 4294967295)
login-number x e = let b = (and-eq-true_iff (leb 1 x) (leb x 4294967295)).0 e in (leb-true _ _ b.0, leb-true _ _ b.1)
