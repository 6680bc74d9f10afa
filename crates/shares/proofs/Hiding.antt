-- k-1 shares leave every key byte open: its coefficients and the shares stand one to one.
use mathlib.Core.Path.{◌≡◌, sym, ap, ap₂, subst, ◌∙◌}
use mathlib.Core.List.{List, [], ◌∷◌}
use Prim.Native.Nat.{ℕ, zero, suc, ◌-◌, ◌≤◌, ◌<◌}
use native.Mathlib.Omega.{arith}
use lib.ListN.{length}
use Rattle.lists.specs.Fold.{Distinct}
use Rattle.binary.specs.Number.{Bytes}
use Rattle.shares.specs.Polynomial.{eval, values}
use Rattle.shares.specs.Shares.{most_shares}
use Rattle.shares.specs.Claims.{AreNumbers, IsRun, Bijection, FewerSharesHideTheByte}
use Rattle.shares.proofs.Interpolation.{bytes-cons, eval-byte, eval-zero, Through, through, only}
use Rattle.shares.proofs.Places.{values_length}
use Rattle.shares.proofs.GivingBack.{numbers-bytes}

-- ---- one byte

pub values-bytes : (cs xs : List ℕ) → Bytes cs → Bytes (values cs xs)
unfolding values
values-bytes cs [] h i = omega arith
values-bytes cs (x ∷ xs) h zero = eval-byte x cs h
values-bytes cs (x ∷ xs) h (suc i) = values-bytes cs xs h i

module _ (xs : List ℕ) (hx : Bytes xs) (d : Distinct (0 ∷ xs)) (byte : ℕ) (hb : byte < 256) where
  zero-bytes : Bytes (0 ∷ xs)
  zero-bytes = bytes-cons 0 xs (omega arith) hx

  into : (cs : List ℕ) → IsRun (length xs) cs → IsRun (length xs) (values (byte ∷ cs) xs)
  into cs r = record { size = values_length (byte ∷ cs) xs; bytes = values-bytes (byte ∷ cs) xs (bytes-cons byte cs hb r.bytes) }

  -- the polynomial through the key byte at 0 and the shares
  onto : (ys : List ℕ) → IsRun (length xs) ys → (cs : List ℕ) × IsRun (length xs) cs × (values (byte ∷ cs) xs ≡ ys)
  unfolding values
  onto ys r =
      let t = through (0 ∷ xs) (byte ∷ ys) (ap suc (sym r.size)) zero-bytes (bytes-cons byte ys hb r.bytes) d in
      go t.0 t.1
    where
      go : (p : List ℕ) → Through (0 ∷ xs) (byte ∷ ys) p → (cs : List ℕ) × IsRun (length xs) cs × (values (byte ∷ cs) xs ≡ ys)
      go [] t = let z : 0 ≡ suc (length xs) = t.size in absurd (omega arith)
      go (c ∷ cs) t =
          let e : eval 0 (c ∷ cs) ∷ values (c ∷ cs) xs ≡ byte ∷ ys = t.gives in
          let h : c ≡ byte = sym (eval-zero c cs) ∙ (cc) in
          let z : suc (length cs) ≡ suc (length xs) = t.size in
          (cs, record { size = omega arith; bytes = λ i. t.bytes (suc i) }, ap (λ (k : ℕ). values (k ∷ cs) xs) (sym h) ∙ (cc))

  one-to-one : (cs ds : List ℕ) → IsRun (length xs) cs → IsRun (length xs) ds → values (byte ∷ cs) xs ≡ values (byte ∷ ds) xs → cs ≡ ds
  unfolding values
  one-to-one cs ds p q e =
      let s : byte ∷ cs ≡ byte ∷ ds =
      only (0 ∷ xs) (byte ∷ cs) (byte ∷ ds) (ap suc p.size) (ap suc q.size) zero-bytes (bytes-cons byte cs hb p.bytes)
      (bytes-cons byte ds hb q.bytes) d
      (ap₂ (λ (k : ℕ) (l : List ℕ). k ∷ l) (eval-zero byte cs ∙ sym (eval-zero byte ds)) e) in
      cc

  byte-bijection : Bijection (length xs) (λ cs. values (byte ∷ cs) xs)
  byte-bijection = record { into = into; onto = onto; one-to-one = one-to-one }

-- numbers of shares are bytes, distinct, and none is 0
distinct-zero : (n : ℕ) (xs : List ℕ) → AreNumbers n xs → Distinct (0 ∷ xs)
distinct-zero n xs a = (λ m. let h = (a.each 0 m).0 in absurd (omega arith), a.distinct)

pub hides : (n : ℕ) (xs : List ℕ) → n ≤ most_shares → AreNumbers n xs → (byte : ℕ) → byte < 256 → Bijection (length xs) (λ cs. values (byte ∷ cs) xs)
hides n xs h a byte hb = byte-bijection xs (numbers-bytes n xs h a) (distinct-zero n xs a) byte hb

pub fewer-shares-hide-the-byte : FewerSharesHideTheByte
fewer-shares-hide-the-byte k n r xs size numbers byte hb =
    subst (λ (m : ℕ). Bijection m (λ cs. values (byte ∷ cs) xs)) (let s : length xs ≡ k - 1 = omega (arith, size) in s)
    (hides n xs r.n-below numbers byte hb)
