-- Sums of shares are shares of the sum.
use Rattle.std.specs.Prelude.{Ok}
use mathlib.Core.Path.{◌≡◌, refl, sym, ap, ap₂, ◌∙◌}
use mathlib.Core.Bool.{true}
use mathlib.Core.List.{List, ◌∷◌, ◌++◌}
use Prim.Native.Nat.{ℕ, zero, suc, ◌*◌, ◌-◌, ◌≤◌, ◌<◌}
use native.Mathlib.Omega.{arith}
use borrow.Author.Tests.{le-leb}
use lib.ListN.{length, take, drop}
use lib.Seq.{take_at}
use Rattle.binary.specs.Number.{byte_at, overwrite}
use Rattle.gf256.specs.Field.{add}
use Rattle.shares.specs.Polynomial.{eval, sums}
use Rattle.shares.specs.Shares.{key_size, joined, polynomial_of, share_of, shares_of}
use Rattle.shares.specs.Calls.{split_of, merge_of, add_of}
use Rattle.shares.specs.Claims.{chosen}
use Rattle.shares.specs.Renewal.{front, SharesAdd, SummedSharesGiveTheSum}
use Rattle.shares.proofs.Tabulated.{tabulate-ext}
use Rattle.shares.proofs.Sums.{sums_at, sums-bytes, sums-take, sums-drop, sums-append, sums-front, sums-holds, tabulate-sums, polynomials-add}
use Rattle.shares.proofs.Turns.{coefficients-length}
use Rattle.shares.proofs.Writes.{shares-length}
use Rattle.shares.proofs.Outcomes.{add_fits, add-given}
use Rattle.shares.proofs.Arguments.{range-of, split-gives}
use Rattle.shares.proofs.Places.{written-length}
use Rattle.shares.proofs.GivingBack.{Gave, gave, any-shares-give-the-key}

-- ---- shares

-- key'' is the sum of the other two
module _ (k : ℕ) (key key' key'' cs cs' : List ℕ) (each : (b : ℕ) → b < key_size → byte_at b key'' ≡ add (byte_at b key) (byte_at b key'))
    (lc : key_size * (k - 1) ≤ length cs) (lc' : key_size * (k - 1) ≤ length cs') where
  polynomial-sum : (b : ℕ) → b < key_size → polynomial_of k key'' (sums cs cs') b ≡ sums (polynomial_of k key cs b) (polynomial_of k key' cs' b)
  unfolding sums
  polynomial-sum b h =
      let at = (k - 1) * b in
      ap₂ (λ (x : ℕ) (l : List ℕ). x ∷ l) (each b h)
      (ap (take (k - 1)) (sums-drop at cs cs') ∙ sums-take (k - 1) (drop at cs) (drop at cs'))

  share-sum : (i : ℕ) → share_of k key'' (sums cs cs') i ≡ sums (share_of k key cs i) (share_of k key' cs' i)
  unfolding share_of
  share-sum i =
      tabulate-ext key_size (λ b. eval i (polynomial_of k key'' (sums cs cs') b)) _
      (λ b h.
      ap (eval i) (polynomial-sum b h)
      ∙ polynomials-add i (polynomial_of k key cs b) (polynomial_of k key' cs' b)
      (ap suc (coefficients-length k cs b h lc ∙ sym (coefficients-length k cs' b h lc'))))
      ∙ tabulate-sums key_size (λ b. eval i (polynomial_of k key cs b)) (λ b. eval i (polynomial_of k key' cs' b))

  shares_sum : (n : ℕ) → shares_of k key'' (sums cs cs') n ≡ sums (shares_of k key cs n) (shares_of k key' cs' n)
  unfolding shares_of joined sums
  shares_sum zero = refl
  shares_sum (suc n) =
      ap₂ ◌++◌ (shares_sum n) (share-sum (suc n))
      ∙ sym (sums-append (shares_of k key cs n) (share_of k key cs (suc n)) (shares_of k key' cs' n) (share_of k key' cs' (suc n))
      (shares-length k key cs n ∙ sym (shares-length k key' cs' n)))

-- ---- the calls

-- the shares at the front of the slice that a split left
front-is : (k n : ℕ) (key cs out : List ℕ) → front n (overwrite (shares_of k key cs n) out) ≡ shares_of k key cs n
unfolding overwrite
front-is k n key cs out = take_at (shares_of k key cs n) (drop (length (shares_of k key cs n)) out) (key_size * n) (shares-length k key cs n)

-- the tail of that slice does not count in a sum
tail-out : (s s' out' : List ℕ) → length s ≤ length s' → sums s (overwrite s' out') ≡ sums s s'
unfolding overwrite
tail-out s s' out' h = sums-front s s' (drop (length s') out') h

module _ (k n : ℕ) (key key' key'' cs cs' out out' : List ℕ) (each : (b : ℕ) → b < key_size → byte_at b key'' ≡ add (byte_at b key) (byte_at b key'))
    (size : key_size ≤ length key'') (g : (split_of key k n cs out).answer ≡ Ok n) (g' : (split_of key' k n cs' out').answer ≡ Ok n)
    (sum : List ℕ) (room : key_size * n ≤ length sum) where
  abbrev p : Gave key k n cs out
  p = gave key k n cs out g

  abbrev p' : Gave key' k n cs' out'
  p' = gave key' k n cs' out' g'

  pub sum_is : split_of key'' k n (sums cs cs') sum ≡ record { answer = Ok n; slice = overwrite (shares_of k key'' (sums cs cs') n) sum }
  sum_is =
      split-gives k n key'' (sums cs cs') sum (range-of k n p.ranged) size
      (sums-holds (key_size * (k - 1)) cs cs' p.coefficients p'.coefficients) room

  -- the sum of what two splits left is what one of key'' leaves
  pub added : add_of (front n (split_of key k n cs out).slice) (split_of key' k n cs' out').slice sum
      ≡ record { answer = Ok (key_size * n); slice = (split_of key'' k n (sums cs cs') sum).slice }
  added =
      let s = shares_of k key cs n in
      let s' = shares_of k key' cs' n in
      let w = overwrite s' out' in
      let ls : length s ≡ key_size * n = shares-length k key cs n in
      let ls' : length s' ≡ key_size * n = shares-length k key' cs' n in
      let fits : add_fits s w sum ≡ true =
      rw (
        le-leb (length s) (length w) (omega (arith, ls, written-length k n key' cs' out' p'.room, p'.room)),
        le-leb (length s) (length sum) (omega (arith, ls, room)),
      ) in
      ap₂ (λ (x y : List ℕ). add_of x y sum) (ap (λ x. front n x.slice) p.is ∙ front-is k n key cs out) (ap (λ x. x.slice) p'.is)
      ∙ add-given s w sum fits
      ∙ ap₂ (λ (m : ℕ) (l : List ℕ). record { answer = Ok m; slice = overwrite l sum }) ls
      (tail-out s s' out' (omega (arith, ls, ls')) ∙ sym (shares_sum k key key' key'' cs cs' each p.coefficients p'.coefficients n))
      ∙ ap (λ x. record { answer = Ok (key_size * n); slice = x.slice }) (sym sum_is)

-- ---- of two keys

module _ (k n : ℕ) (key key' cs cs' out out' : List ℕ) (g : (split_of key k n cs out).answer ≡ Ok n)
    (g' : (split_of key' k n cs' out').answer ≡ Ok n) where
  each-byte : (b : ℕ) → b < key_size → byte_at b (sums key key') ≡ add (byte_at b key) (byte_at b key')
  each-byte b h = sums_at key key' b (omega (arith, (gave key k n cs out g).key-size)) (omega (arith, (gave key' k n cs' out' g').key-size))

  long : key_size ≤ length (sums key key')
  long = sums-holds key_size key key' (gave key k n cs out g).key-size (gave key' k n cs' out' g').key-size

pub shares-add : SharesAdd
shares-add k n key key' cs cs' out out' g g' sum room =
    added k n key key' (sums key key') cs cs' out out' (each-byte k n key key' cs cs' out out' g g') (long k n key key' cs cs' out out' g g') g g' sum room

pub summed-shares-give-the-sum : SummedSharesGiveTheSum
summed-shares-give-the-sum k n key key' cs cs' out out' hk hk' hc hc' g g' sum room numbers rest key_out ln a lo =
    let is =
    sum_is k n key key' (sums key key') cs cs' out out' (each-byte k n key key' cs cs' out out' g g') (long k n key key' cs cs' out out' g g') g g' sum room in
    ap (λ x. merge_of k n numbers (chosen x.slice (take k numbers) ++ rest) key_out) (shares-add k n key key' cs cs' out out' g g' sum room)
    ∙ any-shares-give-the-key (sums key key') k n (sums cs cs') sum (sums-bytes key key' hk hk') (sums-bytes cs cs' hc hc') (ap (λ x. x.answer) is)
    numbers rest key_out ln a lo
    ∙ ap (λ (l : List ℕ). record { answer = Ok tt; slice = overwrite l key_out }) (sums-take key_size key key')
