-- Loops over rows of one format: what a loop that reads or writes a row in each turn has done after i of n turns.
use Prim.Native.Nat.{ℕ, zero, suc, ◌+◌, ◌*◌, ◌≤◌, ◌<◌}
use native.Mathlib.Nat.{suc-mul, zero-mul, add_comm, mul-le-mul_right}
use native.Mathlib.Numerals.{add-one}
use native.Mathlib.Omega.{arith}
use mathlib.Core.Path.{◌≡◌, refl, sym, ap, ◌∙◌}
use mathlib.Core.Bool.{Bool, true, false, ◌&&◌}
use mathlib.Core.List.{List, [], ◌∷◌, ◌++◌, append_assoc, append-nil}
use lib.Dec.{leb}
use lib.ListN.{length, get_or, set, take, drop, length-append, length-set}
use lib.Seq.{take-suc-set, take-suc, take_all, drop-drop, length-take-le}
use Rattle.lists.specs.Fold.{all}
use Rattle.lists.specs.Code.{leading}
use Rattle.lists.proofs.Loops.{all_pass, all-fail, all_end, leading-pass, leading-fail, leading_end}
use Rattle.binary.specs.Codec.{Codec, encode_rows, decode_rows}
use Rattle.binary.specs.Splice.{splice}
use Rattle.binary.proofs.Splices.{splice-splice, splice-none}

-- row i of n rows of w bytes lies within them, and behind i rows
pub row_within : (i n w : ℕ) → i < n → i * w + w ≤ n * w
row_within i n w h = rw suc-mul at (mul-le-mul_right w h)

module _ {A : Type 0} (f : Codec A) where
  -- a row and n rows after it
  pub suc-rows : (n : ℕ) → f.width + n * f.width ≡ suc n * f.width
  suc-rows n = add_comm f.width (n * f.width) ∙ sym (suc-mul n f.width)

  -- one more row, at the end
  encode_rows-snoc : (xs : List A) (x : A) → encode_rows f (xs ++ (x ∷ [])) ≡ encode_rows f xs ++ f.encode x
  unfolding encode_rows
  encode_rows-snoc [] x = append-nil (f.encode x)
  encode_rows-snoc (y ∷ ys) x = ap (λ (l : List ℕ). f.encode y ++ l) (encode_rows-snoc ys x) ∙ sym
      (append_assoc (f.encode y) (encode_rows f ys) (f.encode x))

  decode_rows-snoc : (n : ℕ) (b : List ℕ) → decode_rows f (suc n) b ≡ decode_rows f n b ++ (f.decode (drop (n * f.width) b) ∷ [])
  unfolding decode_rows
  decode_rows-snoc zero b = rw zero-mul
  decode_rows-snoc (suc n) b = rw (decode_rows-snoc n (drop f.width b), drop-drop, suc-rows n)

  -- row i of n lies after i rows, and there is none from n on
  pub row_of : (n i : ℕ) (b : List ℕ) (d : A) → i < n → get_or (decode_rows f n b) i d ≡ f.decode (drop (i * f.width) b)
  unfolding decode_rows
  row_of zero i b d h = absurd (omega arith)
  row_of (suc n) zero b d h = rw zero-mul
  row_of (suc n) (suc i) b d h = row_of n i (drop f.width b) d (omega arith) ∙ rw (drop-drop, suc-rows i)

  pub no_row : (n i : ℕ) (b : List ℕ) (d : A) → n ≤ i → get_or (decode_rows f n b) i d ≡ d
  unfolding decode_rows
  no_row zero i b d h = refl
  no_row (suc n) zero b d h = absurd (omega arith)
  no_row (suc n) (suc i) b d h = no_row n i (drop f.width b) d (omega arith)

  pub row_at : (n : ℕ) (s : List ℕ) (at i : ℕ) (d : A) → i < n → get_or (decode_rows f n (drop at s)) i d ≡ f.decode (drop (at + i * f.width) s)
  row_at n s at i d h = row_of n i (drop at s) d h ∙ ap (λ (l : List ℕ). f.decode l) (drop-drop (i * f.width) at s)

  -- a test of row i
  pub row-test : (n : ℕ) (s : List ℕ) (i : ℕ) (d : A) (p : A → Bool) (x : A) (t : Bool) → i < n → x ≡ f.decode (drop (i * f.width) s) → t ≡ p x
      → p (get_or (decode_rows f n s) i d) ≡ t
  row-test n s i d p x t h e q = ap p (row_of n i s d h ∙ sym e) ∙ sym q

  pub length-decode_rows : (n : ℕ) (b : List ℕ) → length (decode_rows f n b) ≡ n
  unfolding decode_rows
  length-decode_rows zero b = refl
  length-decode_rows (suc n) b = ap suc (length-decode_rows n (drop f.width b))

  -- loops that test the rows of a table where they lie, at the front of s: the turn at row i, which is x, and the end
  module _ (n : ℕ) (s : List ℕ) (i : ℕ) (d : A) (p : A → Bool) where
    abbrev table : List A
    table = decode_rows f n s

    inside : i < n → i < length table
    inside h = rw length-decode_rows h

    outside : n ≤ i → length table ≤ i
    outside h = rw length-decode_rows h

    module _ (x : A) (h : i < n) (e : x ≡ f.decode (drop (i * f.width) s)) where
      pub all_row : (t : Bool) → t ≡ p x → t ≡ true → all p (drop i table) ≡ all p (drop (i + 1) table)
      all_row t q k = all_pass p table i d (inside h) (row-test n s i d p x t h e q ∙ k)

      pub not-row : (t : Bool) → t ≡ p x → t ≡ false → all p (drop i table) ≡ false
      not-row t q k = all-fail p table i d (inside h) (row-test n s i d p x t h e q ∙ k)

      pub lead-row : (key : A → ℕ) (lo : ℕ) → (leb lo (key x) && p x) ≡ true
          → leading p key lo (drop i table) ≡ 1 + leading p key (key x + 1) (drop (i + 1) table)
      lead-row key lo = rw (row_of n i s d h ∙ sym e) at (leading-pass p key table i lo d (inside h))

      pub last_row : (key : A → ℕ) (lo : ℕ) → (leb lo (key x) && p x) ≡ false → leading p key lo (drop i table) ≡ 0
      last_row key lo = rw (row_of n i s d h ∙ sym e) at (leading-fail p key table i lo d (inside h))

    pub all-rows : n ≤ i → all p (drop i table) ≡ true
    all-rows h = all_end p table i (outside h)

    pub no_lead : (key : A → ℕ) (lo : ℕ) → n ≤ i → leading p key lo (drop i table) ≡ 0
    no_lead key lo h = leading_end p key table i lo (outside h)

  -- the first i of the n rows in b are read into a table
  pub record RowsRead (n : ℕ) (b : List ℕ) (i : ℕ) (table : List A) : Type 0 where
    pub within : i ≤ n
    pub size : length table ≡ n
    pub read : take i table ≡ decode_rows f i b

  pub read_none : (n : ℕ) (b : List ℕ) (table : List A) → length table ≡ n → RowsRead n b 0 table
  unfolding decode_rows
  read_none n b table l = record { within = omega arith; size = l; read = refl }

  pub read_one : (n : ℕ) (s : List ℕ) (at i : ℕ) (table : List A) (x : A) → RowsRead n (drop at s) i table → i < n → x ≡ f.decode
      (drop (at + i * f.width) s)
      → RowsRead n (drop at s) (i + 1) (set table i x)
  read_one n s at i table x h k e =
      let z = h.size in
      let e' : x ≡ f.decode (drop (i * f.width) (drop at s)) = rw drop-drop e in
      record {
        within = omega arith;
        size = simp length-set h.size;
        read = rw (add-one, take-suc-set table i x (omega arith), h.read, e', decode_rows-snoc);
      }

  -- the first i of n rows are written to d₀ from index `at` on, which gives d
  pub record RowsWritten (n : ℕ) (table : List A) (d₀ : List ℕ) (at i : ℕ) (d : List ℕ) : Type 0 where
    pub within : i ≤ n
    pub same_length : length d ≡ length d₀
    pub written : d ≡ splice d₀ at (encode_rows f (take i table))

  pub written_none : (n : ℕ) (table : List A) (d : List ℕ) (at : ℕ) → RowsWritten n table d at 0 d
  unfolding encode_rows
  written_none n table d at = record { within = omega arith; same_length = refl; written = sym (splice-none d at) }

  pub written_all : (n : ℕ) (table : List A) (d₀ : List ℕ) (at i : ℕ) (d : List ℕ) → RowsWritten n table d₀ at i d → length table ≡ n → n ≤ i → d
      ≡ splice d₀ at (encode_rows f table)
  written_all n table d₀ at i d h l k = h.written ∙ ap (λ (q : List A). splice d₀ at (encode_rows f q)) (take_all i table (omega arith))

  -- rows of which each is written as `width` bytes
  module _ (flat : (x : A) → length (f.encode x) ≡ f.width) where
    encode_rows-length : (xs : List A) → length (encode_rows f xs) ≡ length xs * f.width
    unfolding encode_rows
    encode_rows-length [] = sym (zero-mul f.width)
    encode_rows-length (x ∷ xs) = rw (length-append, suc-mul) (omega (arith, flat x, encode_rows-length xs))

    pub rows-size : (n : ℕ) (xs : List A) → length xs ≡ n → length (encode_rows f xs) ≡ n * f.width
    rows-size n xs e = encode_rows-length xs ∙ ap (λ (k : ℕ). k * f.width) e

    pub written_one : (n : ℕ) (table : List A) (d₀ : List ℕ) (at i : ℕ) (d d' : List ℕ) (x : A) → RowsWritten n table d₀ at i d → length table ≡ n
        → i < n → at + i * f.width ≤ length d₀
        → length d' ≡ length d → d' ≡ splice d (at + i * f.width) (f.encode (get_or table i x)) → RowsWritten n table d₀ at (i + 1) d'
    written_one n table d₀ at i d d' x h l k room same e =
        let y = get_or table i x in
        let w : length (encode_rows f (take i table)) ≡ i * f.width = rows-size i (take i table) (length-take-le i table (omega arith)) in
        let t : take (i + 1) table ≡ take i table ++ (y ∷ []) = rw add-one (take-suc table i x (omega arith)) in
        record {
          within = omega arith;
          same_length = same ∙ h.same_length;
          written =
              e
              ∙ ap (λ (q : List ℕ). splice q (at + i * f.width) (f.encode y)) h.written
              ∙ splice-splice d₀ at (at + i * f.width) (encode_rows f (take i table)) (f.encode y) (ap (λ (m : ℕ). at + m) w) room
              ∙ ap (splice d₀ at) (sym (encode_rows-snoc (take i table) y) ∙ ap (encode_rows f) (sym t));
        }
