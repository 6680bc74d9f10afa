-- The two tables of the code, and one computed test of all their entries.
use mathlib.Core.Path.{◌≡◌, refl, sym, ap, ◌∙◌}
use mathlib.Core.Bool.{Bool, true, ◌&&◌, and-eq-true_iff}
use mathlib.Core.List.{List, [], ◌∷◌}
use Prim.Native.Nat.{ℕ, zero, suc, ◌+◌, ◌<◌}
use native.Mathlib.Nat.{zero-add, suc-add, not-suc-le-zero, le_of_suc-le-suc}
use borrow.Author.Tests.{eqb-true, ltb-true}
use lib.Dec.{eqb, ltb}
use lib.Bits.{bit_xor}
use lib.ListN.{length, get_or}
use Rattle.lists.proofs.Tests.{all_below, passes-below}
use Rattle.gf256.proofs.Products.{times_x, thrice, thrice-sum, product, product-thrice}

abbrev pub powers : List ℕ
powers =
    1 ∷ 3 ∷ 5 ∷ 15 ∷ 17 ∷ 51 ∷ 85 ∷ 255 ∷ 26 ∷ 46 ∷ 114 ∷ 150 ∷ 161 ∷ 248 ∷ 19 ∷ 53 ∷ 95 ∷ 225 ∷ 56 ∷ 72 ∷ 216 ∷ 115 ∷ 149 ∷ 164 ∷
    247 ∷ 2 ∷ 6 ∷ 10 ∷ 30 ∷ 34 ∷ 102 ∷ 170 ∷ 229 ∷ 52 ∷ 92 ∷ 228 ∷ 55 ∷ 89 ∷ 235 ∷ 38 ∷ 106 ∷ 190 ∷ 217 ∷ 112 ∷ 144 ∷ 171 ∷ 230 ∷ 49 ∷
    83 ∷ 245 ∷ 4 ∷ 12 ∷ 20 ∷ 60 ∷ 68 ∷ 204 ∷ 79 ∷ 209 ∷ 104 ∷ 184 ∷ 211 ∷ 110 ∷ 178 ∷ 205 ∷ 76 ∷ 212 ∷ 103 ∷ 169 ∷ 224 ∷ 59 ∷ 77 ∷ 215 ∷
    98 ∷ 166 ∷ 241 ∷ 8 ∷ 24 ∷ 40 ∷ 120 ∷ 136 ∷ 131 ∷ 158 ∷ 185 ∷ 208 ∷ 107 ∷ 189 ∷ 220 ∷ 127 ∷ 129 ∷ 152 ∷ 179 ∷ 206 ∷ 73 ∷ 219 ∷ 118 ∷ 154 ∷
    181 ∷ 196 ∷ 87 ∷ 249 ∷ 16 ∷ 48 ∷ 80 ∷ 240 ∷ 11 ∷ 29 ∷ 39 ∷ 105 ∷ 187 ∷ 214 ∷ 97 ∷ 163 ∷ 254 ∷ 25 ∷ 43 ∷ 125 ∷ 135 ∷ 146 ∷ 173 ∷ 236 ∷
    47 ∷ 113 ∷ 147 ∷ 174 ∷ 233 ∷ 32 ∷ 96 ∷ 160 ∷ 251 ∷ 22 ∷ 58 ∷ 78 ∷ 210 ∷ 109 ∷ 183 ∷ 194 ∷ 93 ∷ 231 ∷ 50 ∷ 86 ∷ 250 ∷ 21 ∷ 63 ∷ 65 ∷
    195 ∷ 94 ∷ 226 ∷ 61 ∷ 71 ∷ 201 ∷ 64 ∷ 192 ∷ 91 ∷ 237 ∷ 44 ∷ 116 ∷ 156 ∷ 191 ∷ 218 ∷ 117 ∷ 159 ∷ 186 ∷ 213 ∷ 100 ∷ 172 ∷ 239 ∷ 42 ∷ 126 ∷
    130 ∷ 157 ∷ 188 ∷ 223 ∷ 122 ∷ 142 ∷ 137 ∷ 128 ∷ 155 ∷ 182 ∷ 193 ∷ 88 ∷ 232 ∷ 35 ∷ 101 ∷ 175 ∷ 234 ∷ 37 ∷ 111 ∷ 177 ∷ 200 ∷ 67 ∷ 197 ∷ 84 ∷
    252 ∷ 31 ∷ 33 ∷ 99 ∷ 165 ∷ 244 ∷ 7 ∷ 9 ∷ 27 ∷ 45 ∷ 119 ∷ 153 ∷ 176 ∷ 203 ∷ 70 ∷ 202 ∷ 69 ∷ 207 ∷ 74 ∷ 222 ∷ 121 ∷ 139 ∷ 134 ∷ 145 ∷
    168 ∷ 227 ∷ 62 ∷ 66 ∷ 198 ∷ 81 ∷ 243 ∷ 14 ∷ 18 ∷ 54 ∷ 90 ∷ 238 ∷ 41 ∷ 123 ∷ 141 ∷ 140 ∷ 143 ∷ 138 ∷ 133 ∷ 148 ∷ 167 ∷ 242 ∷ 13 ∷ 23 ∷
    57 ∷ 75 ∷ 221 ∷ 124 ∷ 132 ∷ 151 ∷ 162 ∷ 253 ∷ 28 ∷ 36 ∷ 108 ∷ 180 ∷ 199 ∷ 82 ∷ 246 ∷ []

-- that of 0 is never used
abbrev pub logs : List ℕ
logs =
    0 ∷ 0 ∷ 25 ∷ 1 ∷ 50 ∷ 2 ∷ 26 ∷ 198 ∷ 75 ∷ 199 ∷ 27 ∷ 104 ∷ 51 ∷ 238 ∷ 223 ∷ 3 ∷ 100 ∷ 4 ∷ 224 ∷ 14 ∷ 52 ∷ 141 ∷ 129 ∷ 239 ∷
    76 ∷ 113 ∷ 8 ∷ 200 ∷ 248 ∷ 105 ∷ 28 ∷ 193 ∷ 125 ∷ 194 ∷ 29 ∷ 181 ∷ 249 ∷ 185 ∷ 39 ∷ 106 ∷ 77 ∷ 228 ∷ 166 ∷ 114 ∷ 154 ∷ 201 ∷ 9 ∷ 120 ∷
    101 ∷ 47 ∷ 138 ∷ 5 ∷ 33 ∷ 15 ∷ 225 ∷ 36 ∷ 18 ∷ 240 ∷ 130 ∷ 69 ∷ 53 ∷ 147 ∷ 218 ∷ 142 ∷ 150 ∷ 143 ∷ 219 ∷ 189 ∷ 54 ∷ 208 ∷ 206 ∷ 148 ∷
    19 ∷ 92 ∷ 210 ∷ 241 ∷ 64 ∷ 70 ∷ 131 ∷ 56 ∷ 102 ∷ 221 ∷ 253 ∷ 48 ∷ 191 ∷ 6 ∷ 139 ∷ 98 ∷ 179 ∷ 37 ∷ 226 ∷ 152 ∷ 34 ∷ 136 ∷ 145 ∷ 16 ∷
    126 ∷ 110 ∷ 72 ∷ 195 ∷ 163 ∷ 182 ∷ 30 ∷ 66 ∷ 58 ∷ 107 ∷ 40 ∷ 84 ∷ 250 ∷ 133 ∷ 61 ∷ 186 ∷ 43 ∷ 121 ∷ 10 ∷ 21 ∷ 155 ∷ 159 ∷ 94 ∷ 202 ∷
    78 ∷ 212 ∷ 172 ∷ 229 ∷ 243 ∷ 115 ∷ 167 ∷ 87 ∷ 175 ∷ 88 ∷ 168 ∷ 80 ∷ 244 ∷ 234 ∷ 214 ∷ 116 ∷ 79 ∷ 174 ∷ 233 ∷ 213 ∷ 231 ∷ 230 ∷ 173 ∷ 232 ∷
    44 ∷ 215 ∷ 117 ∷ 122 ∷ 235 ∷ 22 ∷ 11 ∷ 245 ∷ 89 ∷ 203 ∷ 95 ∷ 176 ∷ 156 ∷ 169 ∷ 81 ∷ 160 ∷ 127 ∷ 12 ∷ 246 ∷ 111 ∷ 23 ∷ 196 ∷ 73 ∷ 236 ∷
    216 ∷ 67 ∷ 31 ∷ 45 ∷ 164 ∷ 118 ∷ 123 ∷ 183 ∷ 204 ∷ 187 ∷ 62 ∷ 90 ∷ 251 ∷ 96 ∷ 177 ∷ 134 ∷ 59 ∷ 82 ∷ 161 ∷ 108 ∷ 170 ∷ 85 ∷ 41 ∷ 157 ∷
    151 ∷ 178 ∷ 135 ∷ 144 ∷ 97 ∷ 190 ∷ 220 ∷ 252 ∷ 188 ∷ 149 ∷ 207 ∷ 205 ∷ 55 ∷ 63 ∷ 91 ∷ 209 ∷ 83 ∷ 57 ∷ 132 ∷ 60 ∷ 65 ∷ 162 ∷ 109 ∷ 71 ∷
    20 ∷ 42 ∷ 158 ∷ 93 ∷ 86 ∷ 242 ∷ 211 ∷ 171 ∷ 68 ∷ 17 ∷ 146 ∷ 217 ∷ 35 ∷ 32 ∷ 46 ∷ 137 ∷ 180 ∷ 124 ∷ 184 ∷ 38 ∷ 119 ∷ 153 ∷ 227 ∷ 165 ∷
    103 ∷ 74 ∷ 237 ∷ 222 ∷ 197 ∷ 49 ∷ 254 ∷ 24 ∷ 13 ∷ 99 ∷ 140 ∷ 128 ∷ 192 ∷ 247 ∷ 112 ∷ 7 ∷ []

unfoldable pub log : ℕ → ℕ
log a = get_or logs a 0

-- ---- the test

-- each power is three times the one before, the first is p, and three times the last is 1
chain : ℕ → List ℕ → Bool
chain p [] = eqb p 1
chain p (x ∷ xs) = eqb x p && chain (thrice p) xs

-- of the power at i: its logarithm is i
at-power : ℕ → Bool
at-power i = eqb (log (get_or powers i 0)) i

-- the place of a byte among 0 and the powers
abbrev pub place : ℕ → ℕ
place zero = 0
place (suc b) = suc (log (suc b))

-- of a byte: products stay bytes, 1 is neutral, and the logarithm is below 255 and that of the byte, unless the byte is 0
at_byte : ℕ → Bool
at_byte a = ltb (times_x a) 256 && (eqb (product 8 1 a) a && (ltb (log a) 255 && eqb (get_or (0 ∷ powers) (place a) 0) a))

test : Bool
test = chain 1 powers && (all_below at-power 255 && all_below at_byte 256)

test-passes : test ≡ true
unfolding test chain at-power at_byte all_below log product thrice times_x
test-passes = refl

parts : (chain 1 powers ≡ true) × (all_below at-power 255 && all_below at_byte 256) ≡ true
unfolding test
parts = (and-eq-true_iff (chain 1 powers) (all_below at-power 255 && all_below at_byte 256)).0 test-passes

each-power : (i : ℕ) → i < 255 → at-power i ≡ true
each-power = passes-below at-power 255 ((and-eq-true_iff (all_below at-power 255) (all_below at_byte 256)).0 parts.1).0

each-byte : (a : ℕ) → a < 256 → at_byte a ≡ true
each-byte = passes-below at_byte 256 ((and-eq-true_iff (all_below at-power 255) (all_below at_byte 256)).0 parts.1).1

-- ---- what it tells of a byte

pub record Tested (a : ℕ) : Type 0 where
  pub times_x-byte : times_x a < 256
  pub one_product : product 8 1 a ≡ a
  pub log-below : log a < 255
  pub entry : get_or (0 ∷ powers) (place a) 0 ≡ a

pub tested : (a : ℕ) → a < 256 → Tested a
unfolding at_byte
tested a h =
    let t = (and-eq-true_iff (ltb (times_x a) 256) _).0 (each-byte a h) in
    let u = (and-eq-true_iff (eqb (product 8 1 a) a) _).0 t.1 in
    let v = (and-eq-true_iff (ltb (log a) 255) _).0 u.1 in
    record {
      times_x-byte = ltb-true (times_x a) 256 t.0;
      one_product = eqb-true (product 8 1 a) a u.0;
      log-below = ltb-true (log a) 255 v.0;
      entry = eqb-true (get_or (0 ∷ powers) (place a) 0) a v.1;
    }

-- ---- the powers

-- a times 3, i times over
unfoldable pub up : ℕ → ℕ → ℕ
up zero a = a
up (suc i) a = thrice (up i a)

up-thrice : (i a : ℕ) → up i (thrice a) ≡ thrice (up i a)
unfolding up
up-thrice zero a = refl
up-thrice (suc i) a = ap thrice (up-thrice i a)

pub up_up : (i j a : ℕ) → up i (up j a) ≡ up (i + j) a
unfolding up
up_up zero j a = ap (λ (n : ℕ). up n a) (sym (zero-add j))
up_up (suc i) j a = ap thrice (up_up i j a) ∙ ap (λ (n : ℕ). up n a) (sym (suc-add i j))

pub up-sum : (i a b : ℕ) → up i (bit_xor a b) ≡ bit_xor (up i a) (up i b)
unfolding up
up-sum zero a b = refl
up-sum (suc i) a b = ap thrice (up-sum i a b) ∙ thrice-sum (up i a) (up i b)

pub product-up : (n i a b : ℕ) → product n (up i a) b ≡ up i (product n a b)
unfolding up
product-up n zero a b = refl
product-up n (suc i) a b = product-thrice n (up i a) b ∙ ap thrice (product-up n i a b)

chain-at : (xs : List ℕ) (p : ℕ) → chain p xs ≡ true → (i : ℕ) → i < length xs → get_or xs i 0 ≡ up i p
unfolding chain up
chain-at [] p t i h = absurd (not-suc-le-zero h)
chain-at (x ∷ xs) p t zero h = eqb-true x p ((and-eq-true_iff (eqb x p) _).0 t).0
chain-at (x ∷ xs) p t (suc i) h =
    chain-at xs (thrice p) ((and-eq-true_iff (eqb x p) _).0 t).1 i (le_of_suc-le-suc h) ∙ up-thrice i p

chain-end : (xs : List ℕ) (p : ℕ) → chain p xs ≡ true → up (length xs) p ≡ 1
unfolding chain up
chain-end [] p t = eqb-true p 1 t
chain-end (x ∷ xs) p t = sym (up-thrice (length xs) p) ∙ chain-end xs (thrice p) ((and-eq-true_iff (eqb x p) _).0 t).1

pub entry-up : (i : ℕ) → i < 255 → get_or powers i 0 ≡ up i 1
entry-up i h = chain-at powers 1 parts.0 i h

pub powers-end : up 255 1 ≡ 1
powers-end = chain-end powers 1 parts.0

pub up-log : (a : ℕ) → suc a < 256 → up (log (suc a)) 1 ≡ suc a
up-log a h = sym (entry-up (log (suc a)) (tested (suc a) h).log-below) ∙ (tested (suc a) h).entry

-- the exponents below 255 give different powers
pub log-up : (i : ℕ) → i < 255 → log (up i 1) ≡ i
unfolding at-power
log-up i h = ap log (sym (entry-up i h)) ∙ eqb-true (log (get_or powers i 0)) i (each-power i h)
