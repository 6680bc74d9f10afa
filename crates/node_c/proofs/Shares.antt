-- Partial keys through C.
use mathlib.Core.Path.{◌≡◌, sym, ap, ◌∙◌}
use mathlib.Core.List.{List}
use Prim.Native.Nat.{ℕ, ◌*◌, ◌%◌}
use native.Mathlib.Omega.{arith}
use Rattle.std.specs.Prelude.{Result, Ok}
use Rattle.refusals.specs.declared.Refusal.{Refusal}
use Rattle.shares.specs.Polynomial.{sums}
use Rattle.shares.specs.Shares.{key_size}
use Rattle.shares.specs.Calls.{Outcome, split_of}
use Rattle.shares.specs.Renewal.{zero_key}
use Rattle.shares.specs.Claims.{SplitAnswering, out_of_range, too_short, given}
use Rattle.shares.proofs.Answering.{split-answers}
use Rattle.shares.proofs.Outcomes.{in-range}
use Rattle.shares.proofs.GivingBack.{gave, any-shares-give-the-key}
use Rattle.shares.proofs.Renewing.{renewed-sum, renewed-given}
use Rattle.node_c.specs.Calls.{value_returned, add_returned, node_shares_split, node_shares_merge, node_shares_add}
use Rattle.refusals.specs.Refusals.{number_in}
use Rattle.node_c.specs.Claims.{AnySharesGiveTheKeyInC, RenewedIsSplitInC}

-- a split that returned a number of shares gave them
split-gave : (key : List ℕ) (k n : ℕ) (cs out : List ℕ) (x : Outcome (Result ℕ Refusal)) → SplitAnswering key k n cs out x → value_returned x.answer ≡ 256 * n
    → x.answer ≡ Ok n
split-gave key k n cs out x (out_of_range r e) h = let z : 26 ≡ 256 * n = ap (λ (y : Outcome (Result ℕ Refusal)). value_returned y.answer) (sym e) ∙ h in absurd (omega arith)
split-gave key k n cs out x (too_short r f e) h = let z : 28 ≡ 256 * n = ap (λ (y : Outcome (Result ℕ Refusal)). value_returned y.answer) (sym e) ∙ h in absurd (omega arith)
split-gave key k n cs out x (given r a b d e) h = ap (λ (y : Outcome (Result ℕ Refusal)). y.answer) e

pub any-shares-give-the-key-in-c : AnySharesGiveTheKeyInC
unfolding node_shares_split node_shares_merge
any-shares-give-the-key-in-c key k n cs out hk hc h numbers rest key_out ln a lo =
    let gave = split-gave key k n cs out (split_of key k n cs out) (split-answers key k n cs out) h in
    ap (λ (x : Outcome (Result Unit Refusal)). record { number = number_in x.answer; slice = x.slice })
    (any-shares-give-the-key key k n cs out hk hc gave numbers rest key_out ln a lo)

-- 24 bits hold the number of bytes
pub renewed-is-split-in-c : RenewedIsSplitInC
unfolding node_shares_split node_shares_add
renewed-is-split-in-c key k n cs out zs zero_out h z sum room =
    let g = split-gave key k n cs out (split_of key k n cs out) (split-answers key k n cs out) h in
    let gz = split-gave zero_key k n zs zero_out (split_of zero_key k n zs zero_out) (split-answers zero_key k n zs zero_out) z in
    let r = in-range k n (gave key k n cs out g).ranged in
    let small : 256 * (key_size * n % 16777216) ≡ 256 * (key_size * n) = omega (arith, r) in (
      ap (λ (x : Outcome (Result ℕ Refusal)). record { number = add_returned x.answer; slice = x.slice }) (renewed-sum k n key cs out zs zero_out g gz sum room)
          ∙ ap (λ (m : ℕ). record { number = m; slice = (split_of key k n (sums cs zs) sum).slice }) small,
      ap value_returned (renewed-given k n key cs out zs zero_out g gz sum room),
    )
