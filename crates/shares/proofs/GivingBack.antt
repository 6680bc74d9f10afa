-- Any k shares give the key back.
use Rattle.std.specs.Prelude.{Ok, Err}
use mathlib.Core.Path.{◌≡◌, refl, sym, ap, ◌∙◌}
use mathlib.Core.Bool.{Bool, true, false}
use mathlib.Core.List.{List, [], ◌∷◌, ◌++◌}
use Prim.Native.Nat.{ℕ, zero, suc, ◌*◌, ◌-◌, ◌≤◌}
use native.Mathlib.Omega.{arith}
use borrow.Author.Tests.{le-leb}
use lib.ListN.{length, take, drop, length-append}
use lib.Seq.{length-take-le, get_or-take}
use Rattle.lists.proofs.Tests.{clash}
use Rattle.binary.specs.Number.{Bytes, byte_at, overwrite}
use Rattle.binary.proofs.Number.{bytes_take, bytes_drop}
use Rattle.refusals.specs.declared.Refusal.TheVariants.{OutOfRange, TooShort}
use Rattle.shares.specs.Polynomial.{value_at_zero}
use Rattle.shares.specs.Shares.{key_size, most_shares, coefficients_of, polynomial_of, shares_of, bytes_of, merged_key, in_range}
use Rattle.shares.specs.Calls.{split_of, merge_of}
use Rattle.shares.specs.Claims.{AreNumbers, chosen, AnySharesGiveTheKey}
use Rattle.shares.proofs.Tabulated.{tabulate-same}
use Rattle.shares.proofs.Turns.{coefficients-length}
use Rattle.shares.proofs.Outcomes.{three-fit, in-range, split_fits, split-26, split-28, split-given, merge_fits, merge-given}
use Rattle.shares.proofs.Interpolation.{bytes-cons, value-at-zero, eval-zero}
use Rattle.shares.proofs.Arguments.{others, number_at, numbers-to}
use Rattle.shares.proofs.Places.{written_shares, picked-length, picked-bytes}

-- ---- runs of bytes

pub numbers-bytes : (n : ℕ) (xs : List ℕ) → n ≤ most_shares → AreNumbers n xs → Bytes xs
numbers-bytes n [] h a i = omega arith
numbers-bytes n (x ∷ xs) h a zero = let m = number_at n (x ∷ xs) a 0 (omega arith) in omega (arith, m)
numbers-bytes n (x ∷ xs) h a (suc i) = numbers-bytes n xs h (others a) i

-- ---- a split that gave its shares: what it was given, and what it left

pub record Gave (key : List ℕ) (k n : ℕ) (cs out : List ℕ) : Type 0 where
  pub ranged : in_range k n ≡ true
  pub key-size : key_size ≤ length key
  pub coefficients : key_size * (k - 1) ≤ length cs
  pub room : key_size * n ≤ length out
  pub is : split_of key k n cs out ≡ record { answer = Ok n; slice = overwrite (shares_of k key cs n) out }

pub gave : (key : List ℕ) (k n : ℕ) (cs out : List ℕ) → (split_of key k n cs out).answer ≡ Ok n → Gave key k n cs out
gave key k n cs out g = go (in_range k n) (split_fits key k n cs out) refl refl
  where
    go : (r f : Bool) → in_range k n ≡ r → split_fits key k n cs out ≡ f → Gave key k n cs out
    go true true e h =
        let f = three-fit key_size (length key) (key_size * (k - 1)) (length cs) (key_size * n) (length out) h in
        record { ranged = e; key-size = f.0; coefficients = f.1; room = f.2; is = split-given key k n cs out e h }
    go true false e h =
        let z : Err TooShort ≡ Ok n = ap (λ x. x.answer) (sym (split-28 key k n cs out e h)) ∙ g in
        clash (cc)
    go false f e h =
        let z : Err OutOfRange ≡ Ok n = ap (λ x. x.answer) (sym (split-26 key k n cs out e)) ∙ g in
        clash (cc)

-- ---- the key byte by byte

pub coefficients-bytes : (k : ℕ) (cs : List ℕ) (b : ℕ) → Bytes cs → Bytes (coefficients_of k cs b)
coefficients-bytes k cs b h = bytes_take (k - 1) (drop ((k - 1) * b) cs) (bytes_drop ((k - 1) * b) cs h)

pub polynomial-bytes : (k : ℕ) (key cs : List ℕ) (b : ℕ) → Bytes key → Bytes cs → Bytes (polynomial_of k key cs b)
polynomial-bytes k key cs b hk hc = bytes-cons (byte_at b key) (coefficients_of k cs b) (hk b) (coefficients-bytes k cs b hc)

module _ (k n : ℕ) (key cs out : List ℕ) (k-above : 2 ≤ k) (n-below : n ≤ most_shares) where
  key-bytes : (numbers rest : List ℕ) → Bytes key → Bytes cs → key_size ≤ length key → key_size * (k - 1) ≤ length cs → key_size * n ≤ length out
      → k ≤ length numbers → AreNumbers n (take k numbers)
      → merged_key k numbers (chosen (written_shares k n key cs out) (take k numbers) ++ rest) ≡ take key_size key
  unfolding merged_key
  key-bytes numbers rest hk hc lk lc lo ln a =
      let xs = take k numbers in
      let size : length xs ≡ k = length-take-le k numbers ln in
      let shares = chosen (written_shares k n key cs out) xs ++ rest in
      tabulate-same key_size _ (take key_size key) (length-take-le key_size key lk)
      (λ b h.
      let p = polynomial_of k key cs b in
      let same : length xs ≡ length p = omega (arith, size, coefficients-length k cs b h lc) in
      ap (λ (m : ℕ). value_at_zero xs (bytes_of m shares b)) (sym size)
      ∙ ap (value_at_zero xs) (picked-bytes k n key cs out lo xs rest a b h)
      ∙ value-at-zero xs p same (numbers-bytes n xs n-below a) (polynomial-bytes k key cs b hk hc) a.distinct
      ∙ eval-zero (byte_at b key) (coefficients_of k cs b)
      ∙ sym (get_or-take key_size key b 0 h))

pub any-shares-give-the-key : AnySharesGiveTheKey
any-shares-give-the-key key k n cs out hk hc g numbers rest key_out ln a lo =
    let p = gave key k n cs out g in
    let r = in-range k n p.ranged in
    let xs = take k numbers in
    let shares = chosen (written_shares k n key cs out) xs ++ rest in
    let size = length-append (chosen (written_shares k n key cs out) xs) rest in
    let picked = picked-length k n key cs out p.room xs a in
    let fits : merge_fits k n numbers shares key_out ≡ true =
    rw (
      le-leb k (length numbers) ln,
      le-leb (key_size * k) (length shares) (omega (arith, size, picked, length-take-le k numbers ln)),
      le-leb key_size (length key_out) lo,
    ) in
    ap (λ x. merge_of k n numbers (chosen x.slice xs ++ rest) key_out) p.is
    ∙ merge-given k n numbers shares key_out p.ranged (numbers-to n xs a) fits
    ∙ ap (λ (l : List ℕ). record { answer = Ok tt; slice = overwrite l key_out })
    (key-bytes k n key cs out r.0 r.2 numbers rest hk hc p.key-size p.coefficients p.room ln a)
