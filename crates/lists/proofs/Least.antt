-- Laws of the element that comes before all others.
use mathlib.Core.Path.{◌≡◌, refl}
use mathlib.Core.Logic.{◌⊎◌, inl, inr}
use mathlib.Core.Bool.{Bool, true, false, cond}
use mathlib.Core.List.{List, [], ◌∷◌, Memᴰ}
use Rattle.lists.specs.Fold.{least}

-- It is x or one of the list.
pub least-listed : {A : Type 0} (before : A → A → Bool) (x : A) (xs : List A) → (least before x xs ≡ x) ⊎ Memᴰ (least before x xs) xs
unfolding least
least-listed before x [] = inl refl
least-listed {A} before x (y ∷ ys) = at (before y x) (least-listed before (cond (before y x) y x) ys)
  where
    at : (b : Bool) → (least before (cond b y x) ys ≡ cond b y x) ⊎ Memᴰ (least before (cond b y x) ys) ys
        → (least before (cond b y x) ys ≡ x) ⊎ Memᴰ (least before (cond b y x) ys) (y ∷ ys)
    at true (inl e) = inr (Memᴰ.head e)
    at false (inl e) = inl e
    at b (inr m) = inr (Memᴰ.tail m)

-- Where the test is that of an order, it is below x and below each of the list.
module _ {A : Type 0} (before : A → A → Bool) (Below : A → A → Type 0) (through : (x y z : A) → Below x y → Below y z → Below x z)
    (passes : (x y : A) → before x y ≡ true → Below x y) (fails : (x y : A) → before x y ≡ false → Below y x) where
  itself : (x : A) → Below x x
  itself x = at (before x x) refl
    where
      at : (b : Bool) → before x x ≡ b → Below x x
      at true e = passes x x e
      at false e = fails x x e

  -- the one of two that the fold goes on with
  of_two : (x y : A) → Below (cond (before y x) y x) x × Below (cond (before y x) y x) y
  of_two x y = at (before y x) refl
    where
      at : (b : Bool) → before y x ≡ b → Below (cond b y x) x × Below (cond b y x) y
      at true e = (passes y x e, itself y)
      at false e = (itself x, fails y x e)

  pub least_first : (x : A) (xs : List A) → Below (least before x xs) x
  unfolding least
  least_first x [] = itself x
  least_first x (y ∷ ys) = through _ _ _ (least_first (cond (before y x) y x) ys) (of_two x y).0

  pub least-all : {y : A} (x : A) {xs : List A} → Memᴰ y xs → Below (least before x xs) y
  unfolding least
  least-all x (Memᴰ.head {x = y} {xs = ys} e) =
      rw e (through _ _ _ (least_first (cond (before y x) y x) ys) (of_two x y).1)
  least-all x (Memᴰ.tail {x = z} m) = least-all (cond (before z x) z x) m
