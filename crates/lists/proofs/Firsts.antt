-- Laws of the first element that passes a test.
use mathlib.Core.Path.{◌≡◌, refl, sym, ap, ◌∙◌}
use mathlib.Core.Logic.{◌⊎◌, inl, inr}
use mathlib.Core.Bool.{Bool, true, false, cond, false≢true}
use mathlib.Core.List.{List, [], ◌∷◌, ◌++◌, Memᴰ}
use Prim.Native.Nat.{ℕ, zero, suc}
use lib.ListN.{replicate}
use Rattle.lists.specs.Fold.{first}
use Rattle.lists.specs.Table.{keep}
use Rattle.lists.proofs.Tests.{cond_cases}

module _ {A : Type 0} (p : A → Bool) (d : A) where
  -- among the rows that are kept, where all that pass are
  pub first-keep : (k : A → Bool) → ((x : A) → p x ≡ true → k x ≡ true) → (xs : List A) → first p d (keep k xs) ≡ first p d xs
  unfolding first keep
  first-keep k f [] = refl
  first-keep k f (x ∷ xs) = at (k x) (p x) refl refl (first-keep k f xs)
    where
      at : (a b : Bool) → k x ≡ a → p x ≡ b → first p d (keep k xs) ≡ first p d xs → first p d (cond a (x ∷ keep k xs) (keep k xs)) ≡ cond b x
          (first p d xs)
      at true true e g h = rw g
      at true false e g h = rw g h
      at false true e g h = absurd (false≢true (sym e ∙ f x g))
      at false false e g h = h

  -- unused rows behind change nothing
  first-same : (n : ℕ) → first p d (replicate n d) ≡ d
  unfolding first
  first-same zero = refl
  first-same (suc n) = cond_cases (λ (x : A). x ≡ d) (p d) (λ e. refl) (λ e. first-same n)

  pub first-fill : (n : ℕ) (xs : List A) → first p d (xs ++ replicate n d) ≡ first p d xs
  unfolding first
  first-fill n [] = first-same n
  first-fill n (x ∷ xs) = ap (λ (y : A). cond (p x) x y) (first-fill n xs)

-- The first row that passes a test is a row that passes it, where it is not the value for none.
pub first-listed : {A : Type 0} (p : A → Bool) (d : A) (xs : List A) → (first p d xs ≡ d) ⊎ (Memᴰ (first p d xs) xs × (p (first p d xs) ≡ true))
unfolding first
first-listed p d [] = inl refl
first-listed {A} p d (x ∷ xs) = at (p x) refl (first-listed p d xs)
  where
    at : (b : Bool) → p x ≡ b → (first p d xs ≡ d) ⊎ (Memᴰ (first p d xs) xs × (p (first p d xs) ≡ true))
        → (cond b x (first p d xs) ≡ d) ⊎ (Memᴰ (cond b x (first p d xs)) (x ∷ xs) × (p (cond b x (first p d xs)) ≡ true))
    at true e f = inr (Memᴰ.head refl, e)
    at false e (inl f) = inl f
    at false e (inr f) = inr (Memᴰ.tail f.0, f.1)

-- Where some element passes a test, the first that is found passes it.
pub first_passes : {A : Type 0} (p : A → Bool) (d : A) {x : A} {xs : List A} → Memᴰ x xs → p x ≡ true → p (first p d xs) ≡ true
unfolding first
first_passes p d (Memᴰ.head e) h = rw (← e, h) h
first_passes p d (Memᴰ.tail {x = y} m) h = cond_cases (λ z. p z ≡ true) (p y) (λ g. g) (λ _. first_passes p d m h)
