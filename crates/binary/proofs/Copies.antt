-- Bytes copied into a slice one after the other.
use Prim.Native.Nat.{ℕ, ◌+◌, ◌≤◌, ◌<◌}
use native.Mathlib.Omega.{arith}
use native.Mathlib.Numerals.{add-one}
use mathlib.Core.Path.{◌≡◌, sym, ap, ◌∙◌}
use mathlib.Core.List.{List, append_assoc}
use lib.ListN.{length, set, get_or, take, drop, length-set}
use lib.Seq.{paste, paste-suc, take-length}
use Rattle.binary.specs.Splice.{splice}

-- the bytes of v before index i are copied to d₀ from index `at` on, which gives d
pub record Copied (d₀ : List ℕ) (at : ℕ) (v : List ℕ) (i : ℕ) (d : List ℕ) : Type 0 where
  pub within : i ≤ length v
  pub same_length : length d ≡ length d₀
  pub copied : d ≡ paste d₀ at v i

pub copied-one : (d₀ : List ℕ) (at : ℕ) (v : List ℕ) (i : ℕ) (d : List ℕ) → Copied d₀ at v i d → at + length v ≤ length d₀ → i < length v
    → Copied d₀ at v (i + 1) (set d (at + i) (get_or v i 0))
copied-one d₀ at v i d h room k = record {
  within = omega arith;
  same_length = length-set d (at + i) (get_or v i 0) ∙ h.same_length;
  copied = ap (λ (l : List ℕ). set l (at + i) (get_or v i 0)) h.copied ∙ paste-suc d₀ at v i 0 (omega arith) k ∙ ap (paste d₀ at v)
      (sym (add-one i));
}

pub copied_all : (d₀ : List ℕ) (at : ℕ) (v : List ℕ) (i : ℕ) (d : List ℕ) → Copied d₀ at v i d → length v ≤ i → d ≡ splice d₀ at v
unfolding splice
copied_all d₀ at v i d h k =
    let e : i ≡ length v = omega (arith, h.within) in
    h.copied ∙ ap (paste d₀ at v) e ∙ rw (take-length v) (append_assoc (take at d₀) v (drop (at + length v) d₀))
