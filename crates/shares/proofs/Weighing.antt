-- The weights give the value at 0: Newton's interpolation is a sum of the values, each times a weight that depends on the numbers alone.
use mathlib.Core.Path.{◌≡◌, refl, sym, ap, ap₂, ◌∙◌}
use mathlib.Core.List.{List, [], ◌∷◌}
use Prim.Native.Nat.{ℕ, zero, suc}
use native.Mathlib.Omega.{arith}
use lib.ListN.{length}
use Rattle.binary.specs.Number.{Bytes}
use Rattle.gf256.specs.Field.{add, mul, inverse, divide}
use Rattle.gf256.proofs.Laws.{add_assoc, add-four, add_comm, add-zero, mul-byte, mul_comm, mul_assoc, mul-add, mul-zero, zero-mul, one-mul}
use Rattle.shares.specs.Polynomial.{slopes, value_at_zero}
use Rattle.shares.specs.Code.{weighed, total, weights, weighted_sum}
use Rattle.shares.proofs.Algebra.{add-mul, mul_left}

pub slopes-length : (x y : ℕ) (us vs : List ℕ) → length us ≡ length vs → length (slopes x y us vs) ≡ length us
unfolding slopes
slopes-length x y [] vs n = refl
slopes-length x y (u ∷ us) [] n = absurd (omega arith)
slopes-length x y (u ∷ us) (v ∷ vs) n = ap suc (slopes-length x y us vs (omega arith))

pub slopes-bytes : (x y : ℕ) (us vs : List ℕ) → Bytes (slopes x y us vs)
unfolding slopes
slopes-bytes x y [] vs i = omega arith
slopes-bytes x y (u ∷ us) [] i = omega arith
slopes-bytes x y (u ∷ us) (v ∷ vs) zero = mul-byte (add v y) (inverse (add u x))
slopes-bytes x y (u ∷ us) (v ∷ vs) (suc i) = slopes-bytes x y us vs i

weighed-length : (x : ℕ) (us ws : List ℕ) → length us ≡ length ws → length (weighed x us ws) ≡ length us
unfolding weighed
weighed-length x [] ws n = refl
weighed-length x (u ∷ us) [] n = absurd (omega arith)
weighed-length x (u ∷ us) (w ∷ ws) n = ap suc (weighed-length x us ws (omega arith))

pub weights-length : (xs : List ℕ) → length (weights xs) ≡ length xs
unfolding weights
weights-length [] = refl
weights-length (x ∷ xs) = ap suc (weighed-length x xs (weights xs) (sym (weights-length xs)))

-- one slope, times its weight
term : (x y u v w : ℕ) → let z = mul w (divide x (add u x)) in mul x (mul w (divide (add v y) (add u x))) ≡ add (mul z y) (mul z v)
term x y u v w =
    let i = inverse (add u x) in
    let s = add v y in
    mul_left x w (mul s i)
    ∙ ap (mul w) (mul_left x s i ∙ mul_comm s (mul x i))
    ∙ sym (mul_assoc w (mul x i) s)
    ∙ mul-add (mul w (mul x i)) v y
    ∙ add_comm (mul (mul w (mul x i)) v) (mul (mul w (mul x i)) y)

sum-slopes : (x y : ℕ) (us ws vs : List ℕ) → length us ≡ length ws → length us ≡ length vs → let zs = weighed x us ws in
    mul x (weighted_sum ws (slopes x y us vs)) ≡ add (mul (total zs) y) (weighted_sum zs vs)
unfolding weighed total weighted_sum slopes
sum-slopes x y [] [] vs m n = mul-zero x ∙ sym (ap (λ (k : ℕ). add k 0) (zero-mul y) ∙ add-zero 0)
sum-slopes x y [] (w ∷ ws) vs m n = absurd (omega arith)
sum-slopes x y (u ∷ us) [] vs m n = absurd (omega arith)
sum-slopes x y (u ∷ us) (w ∷ ws) [] m n = absurd (omega arith)
sum-slopes x y (u ∷ us) (w ∷ ws) (v ∷ vs) m n =
    let z = mul w (divide x (add u x)) in
    let zs = weighed x us ws in
    mul-add x (mul w (divide (add v y) (add u x))) (weighted_sum ws (slopes x y us vs))
    ∙ ap₂ add (term x y u v w) (sum-slopes x y us ws vs (omega arith) (omega arith))
    ∙ add-four (mul z y) (mul z v) (mul (total zs) y) (weighted_sum zs vs)
    ∙ ap (λ (k : ℕ). add k (add (mul z v) (weighted_sum zs vs))) (sym (add-mul z (total zs) y))

pub sum-is-value : (xs ys : List ℕ) → length xs ≡ length ys → Bytes ys → weighted_sum (weights xs) ys ≡ value_at_zero xs ys
unfolding weights weighted_sum value_at_zero
sum-is-value [] ys n h = refl
sum-is-value (x ∷ xs) [] n h = absurd (omega arith)
sum-is-value (x ∷ xs) (y ∷ ys) n h =
    let zs = weighed x xs (weights xs) in
    let ss = slopes x y xs ys in
    let m : length xs ≡ length ys = omega arith in
    ap (λ (k : ℕ). add k (weighted_sum zs ys)) (add-mul 1 (total zs) y ∙ ap (λ (k : ℕ). add k (mul (total zs) y)) (one-mul y (h 0)))
    ∙ add_assoc y (mul (total zs) y) (weighted_sum zs ys)
    ∙ ap (add y)
    (sym (sum-slopes x y xs (weights xs) ys (sym (weights-length xs)) m)
    ∙ ap (mul x) (sum-is-value xs ss (sym (slopes-length x y xs ys m)) (slopes-bytes x y xs ys)))
