-- A key that is split among three trustees, of whom two rebuild it: its shares, merges of right and of wrong shares, and the edges of the arguments.
use Rattle.std.specs.Prelude.{◌≡◌, List, [], ◌∷◌, ◌++◌, map, ℕ, zero, suc, replicate, Result, Ok, Err}
use Rattle.gf256.specs.Field.{add}
use Rattle.refusals.specs.declared.Refusal.{Refusal}
use Rattle.refusals.specs.declared.Refusal.TheVariants.{OutOfRange, BadShareNumber, TooShort}
use Rattle.refusals.specs.Refusals.{number_of}
use Rattle.shares.specs.Calls.{split_of, merge_of}

-- the bytes 1, 2, .., 32
unfoldable pub rising : ℕ → ℕ → List ℕ
rising zero x = []
rising (suc n) x = x ∷ rising n (suc x)

abbrev pub key : List ℕ
key = rising 32 1

-- each byte's coefficient is 0x57, whose products with 2 and 3 are 0xAE and 0xF9
abbrev pub coefficients : List ℕ
coefficients = replicate 32 0x57

abbrev pub share1 : List ℕ
share1 = map (add 0x57) key

abbrev pub share2 : List ℕ
share2 = map (add 0xAE) key

abbrev pub share3 : List ℕ
share3 = map (add 0xF9) key

-- a list with its first byte changed
abbrev pub changed : ℕ → List ℕ → List ℕ
changed x [] = []
changed x (y ∷ ys) = add x y ∷ ys

abbrev pub room : List ℕ
room = replicate 32 0

abbrev pub splits : ℕ → ℕ → List ℕ → Result ℕ Refusal
splits k n out = (split_of key k n coefficients out).answer

abbrev pub merges : ℕ → ℕ → List ℕ → Result Unit Refusal
merges k n numbers = (merge_of k n numbers (share1 ++ share2) room).answer

pub record PartialKeyExamples : Type 0 where
  -- a byte more than the shares take, which stays
  pub split : split_of key 2 3 coefficients (replicate 97 9) ≡ record { answer = Ok 3; slice = share1 ++ (share2 ++ (share3 ++ (9 ∷ []))) }
  pub merged : merge_of 2 3 (3 ∷ 1 ∷ []) (share3 ++ share1) (replicate 33 9) ≡ record { answer = Ok tt; slice = key ++ (9 ∷ []) }
  -- what stands behind the first two numbers is not looked at
  pub more_numbers : merge_of 2 3 (3 ∷ 1 ∷ 1 ∷ 0 ∷ []) (share3 ++ share1) room ≡ record { answer = Ok tt; slice = key }
  -- nothing tells a wrong share from a right one: the key is another one, and with two wrong shares it may be right
  pub one-wrong : merge_of 2 3 (3 ∷ 1 ∷ []) (share3 ++ changed 2 share1) room ≡ record { answer = Ok tt; slice = changed 3 key }
  pub two-wrong : merge_of 2 3 (3 ∷ 1 ∷ []) (changed 3 share3 ++ changed 1 share1) room ≡ record { answer = Ok tt; slice = key }
  -- shares under numbers that are not theirs
  pub interchanged : (merge_of 2 3 (1 ∷ 3 ∷ []) (share3 ++ share1) room).answer ≡ Ok tt
  -- the numbers of the three rows
  pub rows : map number_of (OutOfRange ∷ BadShareNumber ∷ TooShort ∷ []) ≡ 26 ∷ 27 ∷ 28 ∷ []
  -- 26
  pub out_of_range : (splits 1 3 [] ∷ splits 2 17 [] ∷ splits 3 2 [] ∷ splits 0 0 [] ∷ []) ≡ replicate 4 (Err OutOfRange)
  pub merges-out-of-range : (merges 1 3 (0 ∷ []) ∷ merges 17 17 [] ∷ merges 4 3 [] ∷ []) ≡ replicate 3 (Err OutOfRange)
  -- 27: zero, above n, repeated; also where there are too few numbers
  pub bad-numbers : (merges 2 3 (1 ∷ 0 ∷ []) ∷ merges 2 3 (4 ∷ 1 ∷ []) ∷ merges 2 3 (2 ∷ 2 ∷ []) ∷ merges 2 3 (0 ∷ []) ∷ []) ≡ replicate 4 (Err BadShareNumber)
  -- 28: the slice for the shares, the key, the coefficients
  pub split-too-short : (splits 2 3 (replicate 95 0) ∷ (split_of (rising 31 1) 2 3 coefficients (replicate 96 0)).answer
      ∷ (split_of key 3 3 (replicate 63 0) (replicate 96 0)).answer ∷ []) ≡ replicate 3 (Err TooShort)
  -- the numbers, the shares, the slice for the key
  pub merge-too-short : (merges 2 3 (1 ∷ []) ∷ merges 3 3 (1 ∷ 2 ∷ 3 ∷ []) ∷ (merge_of 2 3 (1 ∷ 2 ∷ []) (share1 ++ share2) (replicate 31 0)).answer
      ∷ []) ≡ replicate 3 (Err TooShort)
