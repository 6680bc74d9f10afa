-- k-1 shares leave every key open.
use mathlib.Core.Path.{◌≡◌, sym, ap, subst, ◌∙◌}
use mathlib.Core.List.{List, [], ◌∷◌, append-nil}
use Prim.Native.Nat.{ℕ, suc, ◌+◌, ◌*◌, ◌-◌, ◌/◌, ◌%◌, ◌≤◌, ◌<◌}
use native.Mathlib.Nat.{mul_comm}
use native.Mathlib.Decide.{dec_lt}
use native.Mathlib.Omega.{arith}
use lib.ListN.{length, get_or, get_or-eq_default}
use lib.Seq.{ext_get_or}
use Rattle.binary.specs.Number.{byte_at}
use Rattle.shares.specs.Polynomial.{values}
use Rattle.shares.specs.Shares.{key_size, joined, coefficients_of, polynomial_of, bytes_of}
use Rattle.shares.specs.Calls.{split_of}
use Rattle.shares.specs.Claims.{InRange, AreNumbers, chosen, IsRun, Bijection, FewerSharesHideTheKey}
use Rattle.shares.proofs.Tabulated.{tabulate-at}
use Rattle.shares.proofs.Turns.{coefficients-length}
use Rattle.shares.proofs.Arguments.{split-gives}
use Rattle.shares.proofs.Places.{values_length, column-run, written_shares, picked-length, picked-byte}
use Rattle.shares.proofs.GivingBack.{coefficients-bytes, polynomial-bytes}
use Rattle.shares.proofs.Hiding.{values-bytes, hides}
use Rattle.shares.proofs.Bijections.{same_map}
use Rattle.shares.proofs.Parts.{joined_length, joined_bytes, joined-part, parts_same}

module _ (k n : ℕ) (r : InRange k n) (xs : List ℕ) (e : suc (length xs) ≡ k) (a : AreNumbers n xs) (key : List ℕ) (hk : IsRun key_size key) (out : List ℕ)
    (room : key_size * n ≤ length out) where
  abbrev d : ℕ
  d = k - 1

  less : length xs ≡ d
  less = omega arith

  -- the shares with the numbers xs, of a split with these coefficients
  abbrev held : List ℕ → List ℕ
  held cs = chosen (written_shares k n key cs out) xs

  held-is : (cs : List ℕ) → IsRun (key_size * d) cs → chosen (split_of key k n cs out).slice xs ≡ held cs
  held-is cs h =
      ap (λ x. chosen x.slice xs) (split-gives k n key cs out r (omega (arith, hk.size)) (omega (arith, h.size)) room)

  held-length : (cs : List ℕ) → length (held cs) ≡ key_size * d
  held-length cs = picked-length k n key cs out room xs a ∙ ap (λ (m : ℕ). key_size * m) less

  -- byte b of the j-th of them
  held-byte : (cs : List ℕ) (j b : ℕ) → j < d → b < key_size
      → get_or (held cs) (key_size * j + b) 0 ≡ get_or (values (polynomial_of k key cs b) xs) j 0
  held-byte cs j b h l =
      ap (λ (s : List ℕ). get_or s (key_size * j + b) 0) (sym (append-nil (held cs))) ∙ picked-byte k n key cs out room xs [] a j b (omega (arith, less)) l

  held_at : (cs : List ℕ) (i : ℕ) → i < key_size * d → get_or (held cs) i 0 ≡ get_or (values (polynomial_of k key cs (i % key_size)) xs) (i / key_size) 0
  held_at cs i h =
      ap (λ (m : ℕ). get_or (held cs) m 0) (let s : i ≡ key_size * (i / key_size) + i % key_size = omega arith in s)
      ∙ held-byte cs (i / key_size) (i % key_size) (omega arith) (omega arith)

  -- ---- into

  into : (cs : List ℕ) → IsRun (key_size * d) cs → IsRun (key_size * d) (held cs)
  into cs h = record { size = held-length cs; bytes = λ i. go i (dec_lt i (key_size * d)) }
    where
      go : (i : ℕ) → Dec (i < key_size * d) → get_or (held cs) i 0 < 256
      go i (yes l) =
          rw (held_at cs i l) (values-bytes (polynomial_of k key cs (i % key_size)) xs
          (polynomial-bytes k key cs (i % key_size) hk.bytes h.bytes) (i / key_size))
      go i (no l) =
          rw (get_or-eq_default (held cs) 0 (let s : length (held cs) ≤ i = omega (arith, held-length cs) in s)) (omega arith)

  -- ---- one to one

  run_of : (cs : List ℕ) → IsRun (key_size * d) cs → (b : ℕ) → b < key_size → IsRun (length xs) (coefficients_of k cs b)
  run_of cs h b l = record {
    size = coefficients-length k cs b l (omega (arith, h.size)) ∙ sym less;
    bytes = coefficients-bytes k cs b h.bytes;
  }

  one-to-one : (cs ds : List ℕ) → IsRun (key_size * d) cs → IsRun (key_size * d) ds → held cs ≡ held ds → cs ≡ ds
  one-to-one cs ds p q same =
      parts_same d key_size cs ds (p.size ∙ mul_comm key_size d) (q.size ∙ mul_comm key_size d)
      (λ b l.
      (hides n xs r.n-below a (byte_at b key) (hk.bytes b)).one-to-one (coefficients_of k cs b) (coefficients_of k ds b) (run_of cs p b l)
      (run_of ds q b l)
      (ext_get_or 0 (values (polynomial_of k key cs b) xs) (values (polynomial_of k key ds b) xs)
      (values_length (polynomial_of k key cs b) xs ∙ sym (values_length (polynomial_of k key ds b) xs))
      (λ j h.
      let m : j < d = omega (arith, h, values_length (polynomial_of k key cs b) xs, less) in
      sym (held-byte cs j b m l) ∙ ap (λ (s : List ℕ). get_or s (key_size * j + b) 0) same ∙ held-byte ds j b m l)))

  -- ---- onto

  module _ (shares : List ℕ) (hs : IsRun (key_size * d) shares) where
    column : (b : ℕ) → IsRun (length xs) (bytes_of d shares b)
    column b = subst (λ (m : ℕ). IsRun m (bytes_of d shares b)) (sym less) (column-run d shares b hs.bytes)

    column-at : (b j : ℕ) → j < d → get_or (bytes_of d shares b) j 0 ≡ get_or shares (key_size * j + b) 0
    unfolding bytes_of
    column-at b j h = tabulate-at d (λ i. get_or shares (key_size * i + b) 0) j h

    -- the coefficients of key byte b that give its bytes of the shares
    found : (b : ℕ) → (cs : List ℕ) × IsRun (length xs) cs × (values (byte_at b key ∷ cs) xs ≡ bytes_of d shares b)
    found b = (hides n xs r.n-below a (byte_at b key) (hk.bytes b)).onto (bytes_of d shares b) (column b)

    abbrev cs : List ℕ
    cs = joined key_size (λ b. (found b).0)

    sizes : (b : ℕ) → length (found b).0 ≡ d
    sizes b = (found b).1.size ∙ less

    cs-run : IsRun (key_size * d) cs
    cs-run = record {
      size = joined_length d (λ b. (found b).0) sizes key_size ∙ mul_comm d key_size;
      bytes = joined_bytes d (λ b. (found b).0) sizes (λ b. (found b).1.bytes) key_size;
    }

    gives : held cs ≡ shares
    gives =
        ext_get_or 0 (held cs) shares (held-length cs ∙ sym hs.size)
        (λ i h.
        let l : i < key_size * d = omega (arith, h, held-length cs) in
        let b = i % key_size in
        let within : b < key_size = omega arith in
        held_at cs i l
        ∙ ap (λ (q : List ℕ). get_or (values (byte_at b key ∷ q) xs) (i / key_size) 0) (joined-part d (λ c. (found c).0) sizes key_size b within)
        ∙ ap (λ (q : List ℕ). get_or q (i / key_size) 0) (found b).2
        ∙ column-at b (i / key_size) (omega arith)
        ∙ ap (λ (m : ℕ). get_or shares m 0) (let s : key_size * (i / key_size) + i % key_size ≡ i = omega arith in s))

  bijection : Bijection (key_size * d) (λ cs. chosen (split_of key k n cs out).slice xs)
  bijection =
      same_map (key_size * d) (λ cs. chosen (split_of key k n cs out).slice xs) held held-is
      (record { into = into; onto = λ s h. (cs s h, cs-run s h, gives s h); one-to-one = one-to-one })

pub fewer-shares-hide-the-key : FewerSharesHideTheKey
fewer-shares-hide-the-key k n r xs size numbers key hk out room = bijection k n r xs size numbers key hk out room
