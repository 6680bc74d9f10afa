-- k-1 shares of a set, and k-1 after each renewal, leave every key open.
use Rattle.std.specs.Prelude.{Ok}
use mathlib.Core.Path.{◌≡◌, refl, sym, ap, subst}
use mathlib.Core.List.{List, [], ◌∷◌, Memᴰ}
use Prim.Native.Nat.{ℕ, ◌*◌, ◌-◌, ◌≤◌}
use native.Mathlib.Nat.{mul-zero}
use native.Mathlib.Omega.{arith}
use lib.ListN.{length}
use Rattle.gf256.proofs.Laws.{add-zero}
use Rattle.shares.specs.Polynomial.{values, sums}
use Rattle.shares.specs.Shares.{key_size}
use Rattle.shares.specs.Calls.{split_of}
use Rattle.shares.specs.Claims.{InRange, chosen, Fewer, IsRun, Bijection}
use Rattle.shares.specs.Renewal.{renewed, taken, RenewalHidesTheByte, RenewalsHideTheKey}
use Rattle.shares.proofs.Arguments.{split-gives}
use Rattle.shares.proofs.Hiding.{fewer-shares-hide-the-byte}
use Rattle.shares.proofs.HidingKeys.{fewer-shares-hide-the-key}
use Rattle.shares.proofs.Renewing.{renewed-is-split}
use Rattle.shares.proofs.Bijections.{run-sums, same_map, after-sum, in-turn, one_more, of_none}

-- ---- one byte

pub renewal-hides-the-byte : RenewalHidesTheByte
unfolding sums
renewal-hides-the-byte k n r old new p q byte h =
    let before = fewer-shares-hide-the-byte k n r old p.size p.numbers byte h in
    let after = fewer-shares-hide-the-byte k n r new q.size q.numbers byte h in
    in-turn (k - 1) (k - 1) (λ cs. values (byte ∷ cs) old) (λ cs zs. values (sums (byte ∷ cs) (0 ∷ zs)) new) before
    (λ cs run.
    same_map (k - 1) (λ zs. values (sums (byte ∷ cs) (0 ∷ zs)) new) (λ zs. values (byte ∷ sums cs zs) new)
    (λ zs _. ap (λ (x : ℕ). values (x ∷ sums cs zs) new) (add-zero byte))
    (after-sum (k - 1) cs run (λ ds. values (byte ∷ ds) new) after))

-- ---- whole keys

module _ (k n : ℕ) (r : InRange k n) (key : List ℕ) (hk : IsRun key_size key) (room : List ℕ) (lr : key_size * n ≤ length room) where
  abbrev each : ℕ
  each = key_size * (k - 1)

  -- a set of the key with the coefficients cs, renewed with zs
  renewed-again : (cs out zs : List ℕ) → IsRun each cs → key_size * n ≤ length out → IsRun each zs
      → renewed k n room (split_of key k n cs out).slice zs ≡ (split_of key k n (sums cs zs) room).slice
  renewed-again cs out zs run lo h =
      let given : (split_of key k n cs out).answer ≡ Ok n =
      ap (λ x. x.answer) (split-gives k n key cs out r (omega (arith, hk.size)) (omega (arith, run.size)) lo) in
      (renewed-is-split k n key cs out given zs room (omega (arith, h.size)) lr).0

  hides-visits : (visits : List (List ℕ)) → ((numbers : List ℕ) → Memᴰ numbers visits → Fewer k n numbers)
      → (cs out : List ℕ) → IsRun each cs → key_size * n ≤ length out
      → Bijection (each * length visits) (taken k n room (split_of key k n cs out).slice visits)
  unfolding taken
  hides-visits [] fewer cs out run lo =
      subst (λ (m : ℕ). Bijection m (taken k n room (split_of key k n cs out).slice [])) (sym (mul-zero each)) (of_none _ (λ _. refl))
  hides-visits (numbers ∷ visits) fewer cs out run lo =
      let shares = (split_of key k n cs out).slice in
      one_more each (length visits) (λ zs. chosen (renewed k n room shares zs) numbers) (λ zs. taken k n room (renewed k n room shares zs) visits)
      (same_map each (λ zs. chosen (renewed k n room shares zs) numbers) (λ zs. chosen (split_of key k n (sums cs zs) room).slice numbers)
      (λ zs h. ap (λ (l : List ℕ). chosen l numbers) (renewed-again cs out zs run lo h))
      (after-sum each cs run (λ ds. chosen (split_of key k n ds room).slice numbers)
      (let few = fewer numbers (Memᴰ.head refl) in fewer-shares-hide-the-key k n r numbers few.size few.numbers key hk room lr)))
      (λ zs h.
      subst (λ (l : List ℕ). Bijection (each * length visits) (taken k n room l visits)) (sym (renewed-again cs out zs run lo h))
      (hides-visits visits (λ xs m. fewer xs (Memᴰ.tail m)) (sums cs zs) room (run-sums each cs zs run h) lr))

pub renewals-hide-the-key : RenewalsHideTheKey
renewals-hide-the-key k n r first f visits fewer key hk out room lo lr =
    one_more (key_size * (k - 1)) (length visits) (λ cs. chosen (split_of key k n cs out).slice first)
    (λ cs. taken k n room (split_of key k n cs out).slice visits) (fewer-shares-hide-the-key k n r first f.size f.numbers key hk out lo)
    (λ cs h. hides-visits k n r key hk room lr visits fewer cs out h lo)
