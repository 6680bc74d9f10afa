-- "Shamir's 1979 scheme byte by byte": the shares of a key, and the key of k shares.
use Rattle.std.specs.Prelude.{ℕ, zero, suc, ◌+◌, ◌*◌, ◌-◌, Bool, true, ◌&&◌, not, List, [], ◌∷◌, ◌++◌, eqb, leb, take, drop}
use Rattle.lists.specs.Fold.{any}
use Rattle.binary.specs.Number.{byte_at}
use Rattle.shares.specs.Polynomial.{eval, value_at_zero}

-- "the 32-byte key"; "Shares are 32 bytes each"
abbrev pub key_size : ℕ
key_size = 32

abbrev pub most_shares : ℕ
most_shares = 16

-- f 0, f 1, .., n of them
unfoldable pub tabulate : ℕ → (ℕ → ℕ) → List ℕ
tabulate zero f = []
tabulate (suc n) f = tabulate n f ++ (f n ∷ [])

-- f 0, f 1, .., n lists, one behind the other
unfoldable pub joined : ℕ → (ℕ → List ℕ) → List ℕ
joined zero f = []
joined (suc n) f = joined n f ++ f n

-- ---- split

-- those of key byte b, of "the k-1 coefficients of each byte .. lent in rising degree, key byte by key byte"
abbrev pub coefficients_of : ℕ → List ℕ → ℕ → List ℕ
coefficients_of k cs b = take (k - 1) (drop ((k - 1) * b) cs)

-- its polynomial: "constant term the key byte"
abbrev pub polynomial_of : ℕ → List ℕ → List ℕ → ℕ → List ℕ
polynomial_of k key cs b = byte_at b key ∷ coefficients_of k cs b

-- "Share i is taken at i"
unfoldable pub share_of : ℕ → List ℕ → List ℕ → ℕ → List ℕ
share_of k key cs i = tabulate key_size (λ b. eval i (polynomial_of k key cs b))

-- "written from share 1 to n"
unfoldable pub shares_of : ℕ → List ℕ → List ℕ → ℕ → List ℕ
shares_of k key cs n = joined n (λ i. share_of k key cs (suc i))

-- ---- merge

-- byte b of the first k shares
unfoldable pub bytes_of : ℕ → List ℕ → ℕ → List ℕ
bytes_of k shares b = tabulate k (λ j. byte_at (key_size * j + b) shares)

-- "k of them rebuild it": each key byte is the value at 0 of the polynomial that its k shares determine
unfoldable pub merged_key : ℕ → List ℕ → List ℕ → List ℕ
merged_key k numbers shares = tabulate key_size (λ b. value_at_zero (take k numbers) (bytes_of k shares b))

-- ---- what is asked of the arguments

-- "both 2 to 16, k at most n"
abbrev pub is_count : ℕ → Bool
is_count x = leb 2 x && leb x most_shares

abbrev pub in_range : ℕ → ℕ → Bool
in_range k n = is_count k && (is_count n && leb k n)

-- none is "zero, above n or repeated among them"
unfoldable pub are_numbers : ℕ → List ℕ → Bool
are_numbers n [] = true
are_numbers n (x ∷ xs) = (leb 1 x && leb x n) && (not (any (eqb x) xs) && are_numbers n xs)
