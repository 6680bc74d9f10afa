-- Formats of a fixed width. A format is written once, and gives both how a value is written and how it is read.
use Rattle.std.specs.Prelude.{ℕ, zero, suc, ◌+◌, ◌*◌, ◌^◌, ◌<◌, ◌≡◌, List, [], ◌∷◌, ◌++◌, get_or, drop}
use Rattle.binary.specs.Number.{to_bytes, from_bytes}

infixr 60 ◌⊗◌
pub record Codec (A : Type 0) : Type 1 where
  pub width : ℕ
  -- the bytes of a value
  pub encode : A → List ℕ
  -- the value in the first `width` bytes
  pub decode : List ℕ → A
  -- every number of the value is within its width, and every table has its number of rows
  pub Fits : A → Type 0

-- one byte
abbrev pub byte : Codec ℕ
byte = record { width = 1; encode = λ x. x ∷ []; decode = λ b. get_or b 0 0; Fits = λ x. x < 256 }

-- a little-endian number of w bytes
abbrev pub number : ℕ → Codec ℕ
number w = record { width = w; encode = to_bytes w; decode = from_bytes w; Fits = λ x. x < 256 ^ w }

-- no bytes, for a value that is known
abbrev pub constant : {A : Type 0} → A → Codec A
constant x = record { width = 0; encode = λ _. []; decode = λ _. x; Fits = λ y. y ≡ x }

-- one after the other
abbrev pub ◌⊗◌ : {A B : Type 0} → Codec A → Codec B → Codec (A × B)
◌⊗◌ f g = record {
  width = f.width + g.width;
  encode = λ p. f.encode p.0 ++ g.encode p.1;
  decode = λ b. (f.decode b, g.decode (drop f.width b));
  Fits = λ p. f.Fits p.0 × g.Fits p.1;
}

-- the same bytes for a type whose values are made by `to` and taken apart by `of`
abbrev pub onto : {A B : Type 0} → Codec A → (A → B) → (B → A) → Codec B
onto f to of = record { width = f.width; encode = λ x. f.encode (of x); decode = λ b. to (f.decode b); Fits = λ x. f.Fits (of x) }

module _ {A : Type 0} (f : Codec A) where
  unfoldable pub encode_rows : List A → List ℕ
  encode_rows [] = []
  encode_rows (x ∷ xs) = f.encode x ++ encode_rows xs

  unfoldable pub decode_rows : ℕ → List ℕ → List A
  decode_rows zero b = []
  decode_rows (suc n) b = f.decode b ∷ decode_rows n (drop f.width b)

  -- there are n rows, and each fits
  unfoldable pub FitsRows : ℕ → List A → Type 0
  FitsRows zero [] = Unit {0}
  FitsRows zero (x ∷ xs) = ⊥
  FitsRows (suc n) [] = ⊥
  FitsRows (suc n) (x ∷ xs) = f.Fits x × FitsRows n xs

  -- n rows of one format
  abbrev pub rows : ℕ → Codec (List A)
  rows n = record { width = n * f.width; encode = encode_rows; decode = decode_rows n; Fits = FitsRows n }
