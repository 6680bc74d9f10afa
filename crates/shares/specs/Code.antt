-- Words of the code's contracts: a key byte as a sum of its shares, each times a weight that depends on the numbers alone, so that the weights serve for
-- all bytes of the key. Nothing of the paper.
use Rattle.std.specs.Prelude.{ℕ, List, [], ◌∷◌, length}
use Rattle.gf256.specs.Field.{add, mul, divide}
use Rattle.shares.specs.Shares.{key_size, tabulate, bytes_of}

-- the weights ws of the numbers us, once the number x stands before them
unfoldable pub weighed : ℕ → List ℕ → List ℕ → List ℕ
weighed x [] ws = []
weighed x (u ∷ us) [] = []
weighed x (u ∷ us) (w ∷ ws) = mul w (divide x (add u x)) ∷ weighed x us ws

unfoldable pub total : List ℕ → ℕ
total [] = 0
total (w ∷ ws) = add w (total ws)

unfoldable pub weights : List ℕ → List ℕ
weights [] = []
weights (x ∷ xs) = let ws = weighed x xs (weights xs) in add 1 (total ws) ∷ ws

unfoldable pub weighted_sum : List ℕ → List ℕ → ℕ
weighted_sum [] ys = 0
weighted_sum (w ∷ ws) [] = 0
weighted_sum (w ∷ ws) (y ∷ ys) = add (mul w y) (weighted_sum ws ys)

unfoldable pub weighed_key : List ℕ → List ℕ → List ℕ
weighed_key ws shares = tabulate key_size (λ b. weighted_sum ws (bytes_of (length ws) shares b))
