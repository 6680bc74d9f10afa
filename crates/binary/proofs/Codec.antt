-- The laws of a format, and that each way to make a format keeps them.
use Prim.Native.Nat.{ℕ, zero, suc, ◌+◌, ◌*◌, ◌≤◌}
use native.Mathlib.Nat.{suc-mul, zero-mul, add_comm}
use native.Mathlib.Omega.{arith}
use mathlib.Core.Path.{◌≡◌, refl, sym, ap, ◌∙◌}
use mathlib.Core.List.{List, [], ◌∷◌, ◌++◌, append_assoc, append-nil}
use lib.ListN.{length, get_or, take, drop, length-append, length-drop}
use lib.Seq.{drop_at, take-add, take_all}
use Rattle.lists.proofs.Every.{All, none, more}
use Rattle.binary.specs.Number.{Bytes}
use Rattle.binary.specs.Codec.{Codec, byte, number, constant, onto, rows, encode_rows, decode_rows, FitsRows, ◌⊗◌}
use Rattle.binary.proofs.Number.{number-length, number-read-back, number_fits, number-written-back, bytes_drop}

infixr 60 ◌⊗-back◌
infixr 60 ◌⊗-laws◌
-- What is written is read back.
pub record ReadsBack {A : Type 0} (f : Codec A) : Type 0 where
  -- a value is written as `width` bytes
  pub long : (a : A) → f.Fits a → length (f.encode a) ≡ f.width
  -- a value that was written is read back, whatever bytes follow
  pub back : (a : A) → f.Fits a → (t : List ℕ) → f.decode (f.encode a ++ t) ≡ a

-- And what is read is written back, where all bytes are those of a value.
pub record Laws {A : Type 0} (f : Codec A) : Type 0 where
  pub reads : ReadsBack f
  -- a value that was read fits
  pub fits : (b : List ℕ) → f.width ≤ length b → Bytes b → f.Fits (f.decode b)
  -- the bytes that a value was read from are written back
  pub forth : (b : List ℕ) → f.width ≤ length b → Bytes b → f.encode (f.decode b) ≡ take f.width b

-- both ways for the bytes of a value, with none after them
pub read_back : {A : Type 0} {f : Codec A} → ReadsBack f → (a : A) → f.Fits a → f.decode (f.encode a) ≡ a
read_back {f} F a h = ap f.decode (sym (append-nil (f.encode a))) ∙ F.back a h []

pub written_back : {A : Type 0} {f : Codec A} → Laws f → (b : List ℕ) → length b ≡ f.width → Bytes b → f.encode (f.decode b) ≡ b
written_back {f} F b n h = F.forth b (omega arith) h ∙ take_all f.width b (omega arith)

-- one byte
pub byte_laws : Laws byte
byte_laws = record { reads = record { long = λ x h. refl; back = λ x h t. refl }; fits = λ b n h. h 0; forth = byte-forth }
  where
    byte-forth : (b : List ℕ) → 1 ≤ length b → Bytes b → get_or b 0 0 ∷ [] ≡ take 1 b
    byte-forth [] n h = absurd (omega arith)
    byte-forth (x ∷ xs) n h = refl

-- a little-endian number
pub number-laws : (w : ℕ) → Laws (number w)
number-laws w = record {
  reads = record { long = λ x h. number-length w x; back = number-read-back w };
  fits = λ b n h. number_fits w b h;
  forth = number-written-back w;
}

-- a value that is known
pub constant-laws : {A : Type 0} (x : A) → Laws (constant x)
constant-laws x = record {
  reads = record { long = λ y h. refl; back = λ y h t. sym h };
  fits = λ b n h. refl;
  forth = λ b n h. refl;
}

-- one after the other
pub ◌⊗-back◌ : {A B : Type 0} {f : Codec A} {g : Codec B} → ReadsBack f → ReadsBack g → ReadsBack (f ⊗ g)
◌⊗-back◌ F G = record {
  long = λ p h. rw (length-append, F.long p.0 h.0, G.long p.1 h.1);
  back = λ p h t. rw (append_assoc, F.back p.0 h.0, drop_at, F.long p.0 h.0, G.back p.1 h.1);
}

pub ◌⊗-laws◌ : {A B : Type 0} {f : Codec A} {g : Codec B} → Laws f → Laws g → Laws (f ⊗ g)
◌⊗-laws◌ {f} {g} F G = record {
  reads = F.reads ⊗-back G.reads;
  fits = λ b n h. (F.fits b (omega arith) h, G.fits (drop f.width b) (rw length-drop (omega arith)) (bytes_drop f.width b h));
  forth = λ b n h. rw (F.forth b (omega arith) h, G.forth (drop f.width b) (rw length-drop (omega arith)) (bytes_drop f.width b h), take-add);
}

-- the same bytes for another type, where `to` and `of` are inverse
pub onto-back : {A B : Type 0} {f : Codec A} (to : A → B) (of : B → A) → ((x : B) → to (of x) ≡ x) → ReadsBack f → ReadsBack (onto f to of)
onto-back to of p F = record { long = λ x h. F.long (of x) h; back = λ x h t. rw (F.back (of x) h t) (p x) }

pub onto-laws : {A B : Type 0} {f : Codec A} (to : A → B) (of : B → A) → ((x : B) → to (of x) ≡ x) → ((a : A) → of (to a) ≡ a) → Laws f → Laws
    (onto f to of)
onto-laws {f} to of p q F = record {
  reads = onto-back to of p F.reads;
  fits = λ b n h. rw (q, onto) (F.fits b n h);
  forth = λ b n h. rw (q, onto) (F.forth b n h);
}

-- rows fit where each does, and there are as many
module _ {A : Type 0} (f : Codec A) where
  pub fits_each : (n : ℕ) (xs : List A) → FitsRows f n xs → All f.Fits xs
  unfolding FitsRows
  fits_each zero [] h = none
  fits_each zero (x ∷ xs) h = absurd h
  fits_each (suc n) [] h = absurd h
  fits_each (suc n) (x ∷ xs) h = more h.0 (fits_each n xs h.1)

  pub fits_count : (n : ℕ) (xs : List A) → FitsRows f n xs → length xs ≡ n
  unfolding FitsRows
  fits_count zero [] h = refl
  fits_count zero (x ∷ xs) h = absurd h
  fits_count (suc n) [] h = absurd h
  fits_count (suc n) (x ∷ xs) h = ap suc (fits_count n xs h.1)

  pub fits-rows : {xs : List A} → All f.Fits xs → FitsRows f (length xs) xs
  unfolding FitsRows
  fits-rows none = tt
  fits-rows (more h t) = (h, fits-rows t)

-- n rows of one format, law by law
module _ {A : Type 0} {f : Codec A} (F : ReadsBack f) where
  rows_long : (n : ℕ) (xs : List A) → FitsRows f n xs → length (encode_rows f xs) ≡ n * f.width
  unfolding encode_rows FitsRows
  rows_long zero [] h = sym (zero-mul f.width)
  rows_long zero (x ∷ xs) h = absurd h
  rows_long (suc n) [] h = absurd h
  rows_long (suc n) (x ∷ xs) h = rw (length-append, suc-mul) (omega (arith, F.long x h.0, rows_long n xs h.1))

  rows-read : (n : ℕ) (xs : List A) → FitsRows f n xs → (t : List ℕ) → decode_rows f n (encode_rows f xs ++ t) ≡ xs
  unfolding encode_rows decode_rows FitsRows
  rows-read zero [] h t = refl
  rows-read zero (x ∷ xs) h t = absurd h
  rows-read (suc n) [] h t = absurd h
  rows-read (suc n) (x ∷ xs) h t = rw (append_assoc, F.back x h.0, drop_at, F.long x h.0, rows-read n xs h.1)

  pub rows_back : (n : ℕ) → ReadsBack (rows f n)
  rows_back n = record { long = rows_long n; back = rows-read n }

module _ {A : Type 0} {f : Codec A} (F : Laws f) where
  rows-fits : (n : ℕ) (b : List ℕ) → n * f.width ≤ length b → Bytes b → FitsRows f n (decode_rows f n b)
  unfolding decode_rows FitsRows
  rows-fits zero b l h = tt
  rows-fits (suc n) b l h =
      let l' : n * f.width + f.width ≤ length b = rw suc-mul at l in
      (F.fits b (omega arith) h, rows-fits n (drop f.width b) (rw length-drop (omega arith)) (bytes_drop f.width b h))

  rows-forth : (n : ℕ) (b : List ℕ) → n * f.width ≤ length b → Bytes b → encode_rows f (decode_rows f n b) ≡ take (n * f.width) b
  unfolding encode_rows decode_rows
  rows-forth zero b l h = rw zero-mul
  rows-forth (suc n) b l h =
      let l' : n * f.width + f.width ≤ length b = rw suc-mul at l in
      rw (
        suc-mul,
        add_comm,
        take-add,
        F.forth b (omega arith) h,
        rows-forth n (drop f.width b) (rw length-drop (omega arith))
            (bytes_drop f.width b h),
      )

  pub rows-laws : (n : ℕ) → Laws (rows f n)
  rows-laws n = record { reads = rows_back F.reads n; fits = rows-fits n; forth = rows-forth n }
