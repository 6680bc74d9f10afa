-- A renewed set is a set of the same key.
use Rattle.std.specs.Prelude.{Ok}
use mathlib.Core.Path.{◌≡◌, refl, sym, ap, ◌∙◌}
use mathlib.Core.List.Memᴰ
use mathlib.Core.List.{List, [], ◌∷◌, ◌++◌}
use Prim.Native.Nat.{ℕ, ◌*◌, ◌≤◌, ◌<◌}
use native.Mathlib.Omega.{arith}
use lib.ListN.{length, take}
use Rattle.binary.specs.Number.{byte_at}
use Rattle.gf256.specs.Field.{add}
use Rattle.gf256.proofs.Laws.{add-zero}
use Rattle.shares.specs.Polynomial.{sums}
use Rattle.shares.specs.Shares.{key_size}
use Rattle.shares.specs.Calls.{split_of, merge_of, add_of}
use Rattle.shares.specs.Claims.{chosen}
use Rattle.shares.specs.Renewal.{front, zero_key, renewed, renewed_by, RenewedIsSplit, RenewedSharesGiveTheKey}
use Rattle.shares.proofs.Tabulated.{tabulate-length, tabulate-at}
use Rattle.shares.proofs.Sums.{sums-bytes}
use Rattle.shares.proofs.Arguments.{range-of, split-gives}
use Rattle.shares.proofs.GivingBack.{gave, any-shares-give-the-key}
use Rattle.shares.proofs.SharesSum.{sum_is, added}

-- a key is its sum with the zero key
zero-added : (key : List ℕ) (b : ℕ) → b < key_size → byte_at b key ≡ add (byte_at b key) (byte_at b zero_key)
zero-added key b h = sym (ap (add (byte_at b key)) (tabulate-at key_size (λ _. 0) b h) ∙ add-zero (byte_at b key))

-- what two splits left, the second of the zero key
module _ (k n : ℕ) (key cs out zs zero_out : List ℕ) (g : (split_of key k n cs out).answer ≡ Ok n)
    (z : (split_of zero_key k n zs zero_out).answer ≡ Ok n) (sum : List ℕ) (room : key_size * n ≤ length sum) where
  size : key_size ≤ length key
  size = (gave key k n cs out g).key-size

  pub renewed-sum : add_of (front n (split_of key k n cs out).slice) (split_of zero_key k n zs zero_out).slice sum
      ≡ record { answer = Ok (key_size * n); slice = (split_of key k n (sums cs zs) sum).slice }
  renewed-sum = added k n key zero_key key cs zs out zero_out (zero-added key) size g z sum room

  pub renewed-given : (split_of key k n (sums cs zs) sum).answer ≡ Ok n
  renewed-given = ap (λ x. x.answer) (sum_is k n key zero_key key cs zs out zero_out (zero-added key) size g z sum room)

pub renewed-is-split : RenewedIsSplit
unfolding renewed
renewed-is-split k n key cs out g zs room lz lr =
    let r = range-of k n (gave key k n cs out g).ranged in
    let z : (split_of zero_key k n zs room).answer ≡ Ok n =
    ap (λ x. x.answer) (split-gives k n zero_key zs room r (omega (arith, tabulate-length key_size (λ _. 0))) lz lr) in
    (ap (λ x. x.slice) (renewed-sum k n key cs out zs room g z room lr), renewed-given k n key cs out zs room g z room lr)

pub renewed-shares-give-the-key : RenewedSharesGiveTheKey
unfolding renewed_by
renewed-shares-give-the-key k n key cs out hk hc g [] runs room lr numbers rest key_out ln a lo =
    any-shares-give-the-key key k n cs out hk hc g numbers rest key_out ln a lo
renewed-shares-give-the-key k n key cs out hk hc g (zs ∷ zss) runs room lr numbers rest key_out ln a lo =
    let run = runs zs (Memᴰ.head refl) in
    let once = renewed-is-split k n key cs out g zs room (omega (arith, run.size)) lr in
    ap (λ (l : List ℕ). merge_of k n numbers (chosen (renewed_by k n room l zss) (take k numbers) ++ rest) key_out) once.0
    ∙ renewed-shares-give-the-key k n key (sums cs zs) room hk (sums-bytes cs zs hc run.bytes) once.1 zss (λ ys m. runs ys (Memᴰ.tail m)) room
    lr numbers rest key_out ln a lo
