-- Sums of two lists of bytes, place by place, and of two polynomials.
use mathlib.Core.Path.{◌≡◌, refl, sym, ap, ap₂, ◌∙◌}
use mathlib.Core.List.{List, [], ◌∷◌, ◌++◌}
use Prim.Native.Nat.{ℕ, zero, suc, ◌≤◌, ◌<◌}
use native.Mathlib.Omega.{arith}
use lib.ListN.{length, take, drop, get_or}
use Rattle.binary.specs.Number.{Bytes, overwrite}
use Rattle.gf256.specs.Field.{add, mul}
use Rattle.gf256.proofs.Laws.{add_assoc, add-four, add-zero, add-self, add-byte, mul-add}
use Rattle.shares.specs.Polynomial.{eval, values, sums}
use Rattle.shares.specs.Shares.{tabulate}
use Rattle.shares.specs.Renewal.{PolynomialsAdd}
use Rattle.shares.proofs.Algebra.{zero-add}
use Rattle.shares.proofs.Tabulated.{tabulate-length, tabulate-same, Tabulated}

-- ---- lists

pub sums-length : (a b : List ℕ) → length a ≤ length b → length (sums a b) ≡ length a
unfolding sums
sums-length [] b h = refl
sums-length (x ∷ a) [] h = absurd (omega arith)
sums-length (x ∷ a) (y ∷ b) h = ap suc (sums-length a b (omega arith))

-- at least m places
pub sums-holds : (m : ℕ) (a b : List ℕ) → m ≤ length a → m ≤ length b → m ≤ length (sums a b)
unfolding sums
sums-holds m [] b h l = h
sums-holds m (x ∷ a) [] h l = l
sums-holds zero (x ∷ a) (y ∷ b) h l = omega arith
sums-holds (suc m) (x ∷ a) (y ∷ b) h l = let r = sums-holds m a b (omega arith) (omega arith) in omega arith

pub sums_at : (a b : List ℕ) (i : ℕ) → i < length a → i < length b → get_or (sums a b) i 0 ≡ add (get_or a i 0) (get_or b i 0)
unfolding sums
sums_at [] b i h l = absurd (omega arith)
sums_at (x ∷ a) [] i h l = absurd (omega arith)
sums_at (x ∷ a) (y ∷ b) zero h l = refl
sums_at (x ∷ a) (y ∷ b) (suc i) h l = sums_at a b i (omega arith) (omega arith)

-- as a loop writes them
sums-tabulated : (a b : List ℕ) → length a ≤ length b → tabulate (length a) (λ i. add (get_or a i 0) (get_or b i 0)) ≡ sums a b
sums-tabulated a b h = tabulate-same (length a) _ (sums a b) (sums-length a b h) (λ i l. sym (sums_at a b i l (omega arith)))

pub sums-written : (a b d l : List ℕ) (i : ℕ) → Tabulated d i (λ j. add (get_or a j 0) (get_or b j 0)) l → i ≡ length a → length a ≤ length b
    → l ≡ overwrite (sums a b) d
unfolding overwrite
sums-written a b d l i t e h =
    t.is
    ∙ ap (λ (n : ℕ). tabulate n (λ j. add (get_or a j 0) (get_or b j 0)) ++ drop n d) e
    ∙ ap₂ (λ (r : List ℕ) (n : ℕ). r ++ drop n d) (sums-tabulated a b h) (sym (sums-length a b h))

pub sums-bytes : (a b : List ℕ) → Bytes a → Bytes b → Bytes (sums a b)
unfolding sums
sums-bytes [] b ha hb i = omega arith
sums-bytes (x ∷ a) [] ha hb i = omega arith
sums-bytes (x ∷ a) (y ∷ b) ha hb zero = add-byte x y (ha 0) (hb 0)
sums-bytes (x ∷ a) (y ∷ b) ha hb (suc i) = sums-bytes a b (λ j. ha (suc j)) (λ j. hb (suc j)) i

sums_none : (a : List ℕ) → sums a [] ≡ []
unfolding sums
sums_none [] = refl
sums_none (x ∷ a) = refl

pub sums-take : (m : ℕ) (a b : List ℕ) → take m (sums a b) ≡ sums (take m a) (take m b)
unfolding sums
sums-take zero a b = refl
sums-take (suc m) [] b = refl
sums-take (suc m) (x ∷ a) [] = refl
sums-take (suc m) (x ∷ a) (y ∷ b) = ap (λ (l : List ℕ). add x y ∷ l) (sums-take m a b)

pub sums-drop : (m : ℕ) (a b : List ℕ) → drop m (sums a b) ≡ sums (drop m a) (drop m b)
unfolding sums
sums-drop zero a b = refl
sums-drop (suc m) [] b = refl
sums-drop (suc m) (x ∷ a) [] = sym (sums_none (drop m a))
sums-drop (suc m) (x ∷ a) (y ∷ b) = sums-drop m a b

pub sums-append : (a b c d : List ℕ) → length a ≡ length c → sums (a ++ b) (c ++ d) ≡ sums a c ++ sums b d
unfolding sums
sums-append [] b [] d n = refl
sums-append [] b (z ∷ c) d n = absurd (omega arith)
sums-append (x ∷ a) b [] d n = absurd (omega arith)
sums-append (x ∷ a) b (z ∷ c) d n = ap (λ (l : List ℕ). add x z ∷ l) (sums-append a b c d (omega arith))

-- what stands behind the second list does not count
pub sums-front : (a b r : List ℕ) → length a ≤ length b → sums a (b ++ r) ≡ sums a b
unfolding sums
sums-front [] b r h = refl
sums-front (x ∷ a) [] r h = absurd (omega arith)
sums-front (x ∷ a) (y ∷ b) r h = ap (λ (l : List ℕ). add x y ∷ l) (sums-front a b r (omega arith))

pub tabulate-sums : (n : ℕ) (f g : ℕ → ℕ) → tabulate n (λ i. add (f i) (g i)) ≡ sums (tabulate n f) (tabulate n g)
unfolding tabulate sums
tabulate-sums zero f g = refl
tabulate-sums (suc n) f g =
    ap (λ (l : List ℕ). l ++ (add (f n) (g n) ∷ [])) (tabulate-sums n f g)
    ∙ sym (sums-append (tabulate n f) (f n ∷ []) (tabulate n g) (g n ∷ []) (tabulate-length n f ∙ sym (tabulate-length n g)))

-- added twice, a list goes out
pub sums-twice : (a b : List ℕ) → length b ≤ length a → sums a (sums a b) ≡ b
unfolding sums
sums-twice a [] h = ap (sums a) (sums_none a) ∙ sums_none a
sums-twice [] (y ∷ b) h = absurd (omega arith)
sums-twice (x ∷ a) (y ∷ b) h =
    ap₂ (λ (z : ℕ) (l : List ℕ). z ∷ l) (sym (add_assoc x x y) ∙ ap (λ (z : ℕ). add z y) (add-self x) ∙ zero-add y) (sums-twice a b (omega arith))

-- ---- polynomials

pub polynomials-add : PolynomialsAdd
unfolding sums eval
polynomials-add x [] [] n = sym (add-zero 0)
polynomials-add x [] (d ∷ ds) n = absurd (omega arith)
polynomials-add x (c ∷ cs) [] n = absurd (omega arith)
polynomials-add x (c ∷ cs) (d ∷ ds) n =
    ap (λ (v : ℕ). add (add c d) (mul x v)) (polynomials-add x cs ds (omega arith))
    ∙ ap (add (add c d)) (mul-add x (eval x cs) (eval x ds))
    ∙ add-four c d (mul x (eval x cs)) (mul x (eval x ds))

-- their values at some numbers
pub values-add : (xs cs ds : List ℕ) → length cs ≡ length ds → values (sums cs ds) xs ≡ sums (values cs xs) (values ds xs)
unfolding sums values
values-add [] cs ds n = refl
values-add (x ∷ xs) cs ds n = ap₂ (λ (v : ℕ) (l : List ℕ). v ∷ l) (polynomials-add x cs ds n) (values-add xs cs ds n)
