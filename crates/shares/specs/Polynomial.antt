-- Polynomials over the field of 256 elements: their coefficients "in rising degree", their values, and what is known of one from some of its values.
use Rattle.std.specs.Prelude.{ℕ, List, [], ◌∷◌}
use Rattle.gf256.specs.Field.{add, mul, divide}

-- the value at x
unfoldable pub eval : ℕ → List ℕ → ℕ
eval x [] = 0
eval x (c ∷ cs) = add c (mul x (eval x cs))

-- the values at the numbers xs
unfoldable pub values : List ℕ → List ℕ → List ℕ
values cs [] = []
values cs (x ∷ xs) = eval x cs ∷ values cs xs

-- the sum of two polynomials, of two keys, of two runs of shares: "added byte for byte in the field"
unfoldable pub sums : List ℕ → List ℕ → List ℕ
sums [] ds = []
sums (c ∷ cs) [] = []
sums (c ∷ cs) (d ∷ ds) = add c d ∷ sums cs ds

-- Newton's interpolation: where a polynomial p has the value y at x, and the values vs at the numbers us, (p + y) / (X + x) has these values at us
unfoldable pub slopes : ℕ → ℕ → List ℕ → List ℕ → List ℕ
slopes x y [] vs = []
slopes x y (u ∷ us) [] = []
slopes x y (u ∷ us) (v ∷ vs) = divide (add v y) (add u x) ∷ slopes x y us vs

-- the value at 0 of the polynomial of least degree that has the values ys at the numbers xs
unfoldable pub value_at_zero : List ℕ → List ℕ → ℕ
value_at_zero [] ys = 0
value_at_zero (x ∷ xs) [] = 0
value_at_zero (x ∷ xs) (y ∷ ys) = add y (mul x (value_at_zero xs (slopes x y xs ys)))
