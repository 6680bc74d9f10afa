-- The loops that change a row step by step: a share by Horner's rule, and the key share by share.
use mathlib.Core.Path.{◌≡◌, sym, ap, ap₂, ◌∙◌}
use mathlib.Core.List.{List}
use Prim.Native.Nat.{ℕ, suc, ◌+◌, ◌*◌, ◌-◌, ◌≤◌, ◌<◌}
use native.Mathlib.Nat.{add_comm}
use native.Mathlib.Omega.{arith}
use lib.ListN.{length, take, drop, get_or}
use lib.Seq.{get_or-take, get_or-drop}
use Rattle.binary.specs.Number.{byte_at}
use Rattle.gf256.specs.Field.{add, mul}
use Rattle.shares.specs.Polynomial.{eval}
use Rattle.shares.specs.Shares.{key_size, tabulate, coefficients_of, polynomial_of, bytes_of}
use Rattle.shares.specs.Code.{weighted_sum, weighed_key}
use Rattle.shares.proofs.Tabulated.{tabulate-ext}
use Rattle.shares.proofs.Turns.{eval-turn, eval-end, from_is, sum_up_to, sum-turn, sum-end, coefficients-length}

-- ---- a share

-- byte b once the coefficients from i on are taken in
abbrev pub value_from : ℕ → ℕ → List ℕ → ℕ → ℕ → ℕ
value_from k x cs i b = eval x (drop i (coefficients_of k cs b))

module _ (k x : ℕ) (key cs : List ℕ) (fits : key_size * (k - 1) ≤ length cs) where
  abbrev value : ℕ → ℕ → ℕ
  value = value_from k x cs

  size_of : (b : ℕ) → b < key_size → length (coefficients_of k cs b) ≡ k - 1
  size_of b h = coefficients-length k cs b h fits

  pub value_none : (b : ℕ) → b < key_size → 0 ≡ value (k - 1) b
  value_none b h = eval-end x (coefficients_of k cs b) ∙ ap (λ (i : ℕ). value i b) (size_of b h)

  pub value-turn : (i j y b : ℕ) → suc j ≡ i → i ≤ k - 1 → b < key_size → y ≡ value i b
      → add (byte_at ((k - 1) * b) (take (length cs - j) (drop j cs))) (mul x y) ≡ value j b
  value-turn i j y b f l h e =
      let cb = coefficients_of k cs b in
      let there : byte_at ((k - 1) * b) (take (length cs - j) (drop j cs)) ≡ get_or cb j 0 =
      ap (λ (q : List ℕ). get_or q ((k - 1) * b) 0) (from_is j cs)
      ∙ get_or-drop j cs ((k - 1) * b) 0
      ∙ ap (λ (n : ℕ). get_or cs n 0) (add_comm j ((k - 1) * b))
      ∙ sym (get_or-take (k - 1) (drop ((k - 1) * b) cs) j 0 (omega arith) ∙ get_or-drop ((k - 1) * b) cs j 0) in
      ap₂ (λ (c v : ℕ). add c (mul x v)) there (e ∙ ap (λ (n : ℕ). value n b) (sym f)) ∙ eval-turn x j cb (omega (arith, size_of b h))

  pub value-end : (y b : ℕ) → y ≡ value 0 b → add (byte_at (1 * b) key) (mul x y) ≡ eval x (polynomial_of k key cs b)
  unfolding eval
  value-end y b e = ap₂ (λ (i v : ℕ). add (byte_at i key) (mul x v)) (let s : 1 * b ≡ b = omega arith in s) e

-- ---- the key

module _ (ws shares : List ℕ) where
  pub added : (j y b : ℕ) → j < length ws → y ≡ sum_up_to ws shares j b
      → add y (mul (get_or ws j 0) (byte_at b (take (length shares - key_size * j) (drop (key_size * j) shares)))) ≡ sum_up_to ws shares (j + 1) b
  added j y b h e =
      ap₂ (λ (v z : ℕ). add v (mul (get_or ws j 0) z)) e (ap (λ (q : List ℕ). get_or q b 0) (from_is (key_size * j) shares) ∙ get_or-drop (key_size * j) shares b 0)
      ∙ sum-turn ws shares b j h

  pub all-added : (d : List ℕ) (j : ℕ) → j ≡ length ws → d ≡ tabulate key_size (sum_up_to ws shares j) → d ≡ weighed_key ws shares
  unfolding weighed_key
  all-added d j e w =
      w ∙ tabulate-ext key_size (sum_up_to ws shares j) (λ b. weighted_sum ws (bytes_of (length ws) shares b)) (λ b _. sum-end ws shares b j e)
