-- Lists made of parts of one length.
use mathlib.Core.Path.{◌≡◌, refl, sym, ap, ap₂, ◌∙◌}
use mathlib.Core.List.{List, [], ◌∷◌, ◌++◌}
use Prim.Native.Nat.{ℕ, zero, suc, ◌+◌, ◌*◌, ◌≤◌, ◌<◌}
use native.Mathlib.Nat.{mul-zero, mul-suc, mul-le-mul_left, le_trans, le_of_eq, add_comm}
use native.Mathlib.Decide.{dec_lt}
use native.Mathlib.Omega.{arith}
use lib.ListN.{length, take, drop, length-append, length-drop, take-append-drop}
use lib.Seq.{take-append-le, drop-append-le, drop_at, take_all, drop-drop}
use Rattle.binary.specs.Number.{Bytes}
use Rattle.shares.specs.Shares.{joined}

abbrev pub part : ℕ → ℕ → List ℕ → List ℕ
part d b l = take d (drop (d * b) l)

pub append-bytes : (l r : List ℕ) → Bytes l → Bytes r → Bytes (l ++ r)
append-bytes [] r hl hr i = hr i
append-bytes (x ∷ l) r hl hr zero = hl 0
append-bytes (x ∷ l) r hl hr (suc i) = append-bytes l r (λ j. hl (suc j)) hr i

module _ (d : ℕ) (f : ℕ → List ℕ) (size : (b : ℕ) → length (f b) ≡ d) where
  pub joined_length : (m : ℕ) → length (joined m f) ≡ d * m
  unfolding joined
  joined_length zero = sym (mul-zero d)
  joined_length (suc m) = length-append (joined m f) (f m) ∙ ap₂ ◌+◌ (joined_length m) (size m) ∙ sym (mul-suc d m)

  pub joined_bytes : ((b : ℕ) → Bytes (f b)) → (m : ℕ) → Bytes (joined m f)
  unfolding joined
  joined_bytes h zero i = omega arith
  joined_bytes h (suc m) i = append-bytes (joined m f) (f m) (joined_bytes h m) (h m) i

  pub joined-part : (m b : ℕ) → b < m → part d b (joined m f) ≡ f b
  unfolding joined
  joined-part zero b h = absurd (omega arith)
  joined-part (suc m) b h = go (joined-part m b) (dec_lt b m)
    where
      go : (b < m → part d b (joined m f) ≡ f b) → Dec (b < m) → part d b (joined m f ++ f m) ≡ f b
      go before (yes l) =
          let within : d * b + d ≤ d * m = le_trans (le_of_eq (sym (mul-suc d b))) (mul-le-mul_left d l) in
          let all = joined_length m in
          ap (take d) (drop-append-le (d * b) (joined m f) (f m) (omega arith))
          ∙ take-append-le d (drop (d * b) (joined m f)) (f m) (omega (arith, length-drop (d * b) (joined m f)))
          ∙ before l
      go before (no l) =
          let e : b ≡ m = omega arith in
          ap (λ (c : ℕ). take d (drop (d * c) (joined m f ++ f m))) e
          ∙ ap (take d) (drop_at (joined m f) (f m) (d * m) (joined_length m))
          ∙ take_all d (f m) (le_of_eq (size m))
          ∙ ap f (sym e)

-- two lists of m parts are equal where their parts are
pub parts_same : (d m : ℕ) (l r : List ℕ) → length l ≡ d * m → length r ≡ d * m → ((b : ℕ) → b < m → part d b l ≡ part d b r) → l ≡ r
parts_same d zero l r p q same = none l (p ∙ mul-zero d) ∙ sym (none r (q ∙ mul-zero d))
  where
    none : (x : List ℕ) → length x ≡ 0 → x ≡ []
    none [] e = refl
    none (y ∷ x) e = absurd (omega arith)
parts_same d (suc m) l r p q same =
    let whole = mul-suc d m in
    let first : take d l ≡ take d r = ap (λ (i : ℕ). take d (drop i l)) (sym (mul-zero d)) ∙ same 0 (omega arith) ∙ ap (λ (i : ℕ). take d (drop i r)) (mul-zero d) in
    let rest : drop d l ≡ drop d r =
    parts_same d m (drop d l) (drop d r) (length-drop d l ∙ (omega arith)) (length-drop d r ∙ (omega arith))
    (λ b h. shifted b l ∙ same (suc b) (omega arith) ∙ sym (shifted b r)) in
    sym (take-append-drop d l) ∙ ap₂ ◌++◌ first rest ∙ take-append-drop d r
  where
    shifted : (b : ℕ) (x : List ℕ) → part d b (drop d x) ≡ part d (suc b) x
    shifted b x = ap (take d) (drop-drop (d * b) d x ∙ ap (λ (i : ℕ). drop i x) (add_comm d (d * b) ∙ sym (mul-suc d b)))
