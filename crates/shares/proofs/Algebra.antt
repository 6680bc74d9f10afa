-- Identities of the field.
use mathlib.Core.Path.{◌≡◌, sym, ap, ap₂, ◌∙◌}
use mathlib.Core.Logic.{◌≢◌}
use Prim.Native.Nat.{ℕ, ◌<◌}
use Rattle.gf256.specs.Field.{add, mul, inverse, divide}
use Rattle.gf256.proofs.Laws.{add_assoc, add_comm, add-zero, add-self, mul_comm, mul_assoc, mul-add, one-mul, mul-inverse}

pub cancel : (a b : ℕ) → add (add a b) b ≡ a
cancel a b = add_assoc a b b ∙ ap (add a) (add-self b) ∙ add-zero a

pub zero-add : (a : ℕ) → add 0 a ≡ a
zero-add a = add_comm 0 a ∙ add-zero a

-- two numbers whose sum is 0 are one
pub same : (a b : ℕ) → add a b ≡ 0 → a ≡ b
same a b e = sym (cancel a b) ∙ ap (λ (x : ℕ). add x b) e ∙ zero-add b

pub add-mul : (a b c : ℕ) → mul (add a b) c ≡ add (mul a c) (mul b c)
add-mul a b c = mul_comm (add a b) c ∙ mul-add c a b ∙ ap₂ add (mul_comm c a) (mul_comm c b)

pub mul_left : (a b c : ℕ) → mul a (mul b c) ≡ mul b (mul a c)
mul_left a b c = sym (mul_assoc a b c) ∙ ap (λ (x : ℕ). mul x c) (mul_comm a b) ∙ mul_assoc b a c

-- a polynomial y + (X + x) (g + X h) by Horner's rule at u
pub horner : (y x u g h : ℕ) → add (add y (mul x g)) (mul u (add g (mul (add u x) h))) ≡ add y (mul (add u x) (add g (mul u h)))
horner y x u g h =
    add_assoc y (mul x g) (mul u (add g (mul (add u x) h)))
    ∙ ap (add y)
    (ap (add (mul x g)) (mul-add u g (mul (add u x) h) ∙ ap (add (mul u g)) (mul_left u (add u x) h))
    ∙ sym (add_assoc (mul x g) (mul u g) (mul (add u x) (mul u h)))
    ∙ ap (λ (k : ℕ). add k (mul (add u x) (mul u h))) (add_comm (mul x g) (mul u g) ∙ sym (add-mul u x g))
    ∙ sym (mul-add (add u x) g (mul u h)))

pub product-divided : (d q : ℕ) → d < 256 → d ≢ 0 → q < 256 → divide (mul d q) d ≡ q
product-divided d q hd nd hq =
    ap (λ (k : ℕ). mul k (inverse d)) (mul_comm d q) ∙ mul_assoc q d (inverse d) ∙ ap (mul q) (mul-inverse d hd nd) ∙ mul_comm q 1 ∙ one-mul q hq

pub quotient-times : (d q : ℕ) → d < 256 → d ≢ 0 → q < 256 → mul d (divide q d) ≡ q
quotient-times d q hd nd hq = sym (mul_assoc d q (inverse d)) ∙ product-divided d q hd nd hq
