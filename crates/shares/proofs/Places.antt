-- Where each byte stands in the shares that are written, and in those that are chosen.
use mathlib.Core.Path.{◌≡◌, refl, sym, ap, ap₂, ◌∙◌}
use mathlib.Core.List.{List, [], ◌∷◌, ◌++◌, append_assoc}
use Prim.Native.Nat.{ℕ, zero, suc, ◌+◌, ◌*◌, ◌-◌, ◌≤◌, ◌<◌}
use native.Mathlib.Omega.{arith}
use lib.ListN.{length, drop, get_or, length-append, length-drop, get_or-append}
use lib.Seq.{length-take-le, get_or-take, get_or-drop}
use Rattle.binary.specs.Number.{Bytes, overwrite}
use Rattle.shares.specs.Polynomial.{eval, values}
use Rattle.shares.specs.Shares.{key_size, joined, polynomial_of, share_of, shares_of, bytes_of}
use Rattle.shares.specs.Claims.{AreNumbers, share_in, chosen, IsRun}
use Rattle.shares.proofs.Tabulated.{tabulate-length, tabulate-at, tabulate-same, tabulate-bytes, behind}
use Rattle.shares.proofs.Parts.{joined-part}
use Rattle.shares.proofs.Writes.{share-length, shares-length}
use Rattle.shares.proofs.Arguments.{others, number_at}

-- ---- shares as they are written

share-byte : (k : ℕ) (key cs : List ℕ) (n i b : ℕ) → i < n → b < key_size
    → get_or (shares_of k key cs n) (key_size * i + b) 0 ≡ eval (suc i) (polynomial_of k key cs b)
unfolding shares_of share_of
share-byte k key cs n i b h l =
    let share : ℕ → List ℕ = λ j. share_of k key cs (suc j) in
    let all = joined n share in
    sym (get_or-take key_size (drop (key_size * i) all) b 0 l ∙ get_or-drop (key_size * i) all b 0)
    ∙ ap (λ (q : List ℕ). get_or q b 0) (joined-part key_size share (λ j. share-length k key cs (suc j)) n i h)
    ∙ tabulate-at key_size (λ c. eval (suc i) (polynomial_of k key cs c)) b l

-- in a slice, in front of its tail
pub written_byte : (k : ℕ) (key cs out : List ℕ) (n x b : ℕ) → 1 ≤ x → x ≤ n → b < key_size
    → get_or (overwrite (shares_of k key cs n) out) (key_size * (x - 1) + b) 0 ≡ eval x (polynomial_of k key cs b)
unfolding overwrite
written_byte k key cs out n x b h m l =
    get_or-append (shares_of k key cs n) _ 0 (key_size * (x - 1) + b) (omega (arith, shares-length k key cs n))
    ∙ share-byte k key cs n (x - 1) b (omega arith) l
    ∙ ap (λ (y : ℕ). eval y (polynomial_of k key cs b)) (let e : suc (x - 1) ≡ x = omega arith in e)

-- ---- shares that are chosen

module _ (n : ℕ) (slice : List ℕ) (room : key_size * n ≤ length slice) where
  share-size : (x : ℕ) → 1 ≤ x → x ≤ n → length (share_in slice x) ≡ key_size
  share-size x h m = length-take-le key_size (drop (key_size * (x - 1)) slice) (omega (arith, length-drop (key_size * (x - 1)) slice))

  pub chosen-length : (xs : List ℕ) → AreNumbers n xs → length (chosen slice xs) ≡ key_size * length xs
  unfolding chosen
  chosen-length [] a = refl
  chosen-length (x ∷ xs) a =
      let h = number_at n (x ∷ xs) a 0 (omega arith) in
      length-append (share_in slice x) (chosen slice xs) ∙ (omega (arith, share-size x h.0 h.1, chosen-length xs (others a)))

  pub chosen-byte : (xs rest : List ℕ) → AreNumbers n xs → (j b : ℕ) → j < length xs → b < key_size
      → get_or (chosen slice xs ++ rest) (key_size * j + b) 0 ≡ get_or slice (key_size * (get_or xs j 0 - 1) + b) 0
  unfolding chosen
  chosen-byte [] rest a j b h l = absurd (omega arith)
  chosen-byte (x ∷ xs) rest a zero b h l =
      let m = number_at n (x ∷ xs) a 0 (omega arith) in
      let here : key_size * 0 + b ≡ b = omega arith in
      ap₂ (λ (q : List ℕ) (i : ℕ). get_or q i 0) (append_assoc (share_in slice x) (chosen slice xs) rest) here
      ∙ get_or-append (share_in slice x) (chosen slice xs ++ rest) 0 b (omega (arith, share-size x m.0 m.1))
      ∙ get_or-take key_size (drop (key_size * (x - 1)) slice) b 0 l
      ∙ get_or-drop (key_size * (x - 1)) slice b 0
  chosen-byte (x ∷ xs) rest a (suc j) b h l =
      let m = number_at n (x ∷ xs) a 0 (omega arith) in
      let there : key_size * suc j + b ≡ key_size + (key_size * j + b) = omega arith in
      ap₂ (λ (q : List ℕ) (i : ℕ). get_or q i 0) (append_assoc (share_in slice x) (chosen slice xs) rest) there
      ∙ behind (share_in slice x) (chosen slice xs ++ rest) key_size (key_size * j + b) (share-size x m.0 m.1)
      ∙ chosen-byte xs rest (others a) j b (omega arith) l

-- ---- the values of a key byte's polynomial

pub values_length : (cs xs : List ℕ) → length (values cs xs) ≡ length xs
unfolding values
values_length cs [] = refl
values_length cs (x ∷ xs) = ap suc (values_length cs xs)

pub value-at : (cs xs : List ℕ) (j : ℕ) → j < length xs → get_or (values cs xs) j 0 ≡ eval (get_or xs j 0) cs
unfolding values
value-at cs [] j h = absurd (omega arith)
value-at cs (x ∷ xs) zero h = refl
value-at cs (x ∷ xs) (suc j) h = value-at cs xs j (omega arith)

-- byte b of k shares
pub column-run : (k : ℕ) (shares : List ℕ) (b : ℕ) → Bytes shares → IsRun k (bytes_of k shares b)
unfolding bytes_of
column-run k shares b h = record {
  size = tabulate-length k (λ j. get_or shares (key_size * j + b) 0);
  bytes = tabulate-bytes k (λ j. get_or shares (key_size * j + b) 0) (λ j. h (key_size * j + b));
}

-- byte b of the shares that are chosen from those a split wrote
abbrev pub written_shares : ℕ → ℕ → List ℕ → List ℕ → List ℕ → List ℕ
written_shares k n key cs out = overwrite (shares_of k key cs n) out

module _ (k n : ℕ) (key cs out : List ℕ) (room : key_size * n ≤ length out) where
  abbrev written : List ℕ
  written = written_shares k n key cs out

  pub written-length : length written ≡ length out
  unfolding overwrite
  written-length =
      length-append (shares_of k key cs n) (drop (length (shares_of k key cs n)) out)
      ∙ (omega (arith, shares-length k key cs n, length-drop (length (shares_of k key cs n)) out))

  still-room : key_size * n ≤ length written
  still-room = omega (arith, written-length)

  pub picked-length : (xs : List ℕ) → AreNumbers n xs → length (chosen written xs) ≡ key_size * length xs
  picked-length = chosen-length n written still-room

  pub picked-byte : (xs rest : List ℕ) → AreNumbers n xs → (j b : ℕ) → j < length xs → b < key_size
      → get_or (chosen written xs ++ rest) (key_size * j + b) 0 ≡ get_or (values (polynomial_of k key cs b) xs) j 0
  picked-byte xs rest a j b h l =
      let m = number_at n xs a j h in
      chosen-byte n written still-room xs rest a j b h l
      ∙ written_byte k key cs out n (get_or xs j 0) b m.0 m.1 l
      ∙ sym (value-at (polynomial_of k key cs b) xs j h)

  pub picked-bytes : (xs rest : List ℕ) → AreNumbers n xs → (b : ℕ) → b < key_size
      → bytes_of (length xs) (chosen written xs ++ rest) b ≡ values (polynomial_of k key cs b) xs
  unfolding bytes_of
  picked-bytes xs rest a b l =
      tabulate-same (length xs) _ (values (polynomial_of k key cs b) xs) (values_length (polynomial_of k key cs b) xs)
      (λ j h. picked-byte xs rest a j b h l)
