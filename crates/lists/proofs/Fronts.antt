-- A table told by its used rows at the front and the unused ones after them.
use mathlib.Core.Path.{◌≡◌, refl, sym, ap, ◌∙◌}
use mathlib.Core.Bool.{Bool, true, false, cond, not, ◌&&◌, ◌||◌, and-false, and-eq-true_iff, false≢true}
use mathlib.Core.List.{List, [], ◌∷◌}
use Prim.Native.Nat.{ℕ, suc, ◌+◌}
use native.Mathlib.Omega.{arith}
use lib.Dec.{eqb, leb}
use lib.ListN.{drop}
use Rattle.lists.specs.Fold.{any, all, count}
use Rattle.lists.specs.Table.{rising_from}
use Rattle.lists.specs.Code.{leading, is_filled, is_spare}

-- `fine` is the test of a used row, and `blank` that of an unused one
module _ {A : Type 0} (used : A → Bool) (key : A → ℕ) (fine blank : A → Bool) where
  abbrev ok : A → Bool
  ok r = cond (used r) (fine r) (blank r)

  abbrev filled : A → Bool
  filled = is_filled used fine

  abbrev spare : A → Bool
  spare = is_spare used blank

  -- the truth values of the tests of a row, and of the rows after it
  spare-row : (u f z some each rest : Bool) → (not some && each) ≡ rest → (not (u || some) && (cond u f z && each)) ≡ ((not u && z) && rest)
  spare-row true f z some each rest e = refl
  spare-row false f true some each rest e = e
  spare-row false f false some each rest e = and-false (not some)

  all-spare : (rows : List A) → (not (any used rows) && all ok rows) ≡ all spare rows
  unfolding any all
  all-spare [] = refl
  all-spare (r ∷ rs) = spare-row (used r) (fine r) (blank r) (any used rs) (all ok rs) (all spare rs) (all-spare rs)

  -- the first row does not lead
  none-leads : (lo : ℕ) (r : A) (rs : List A) → (leb lo (key r) && filled r) ≡ false → leading filled key lo (r ∷ rs) ≡ 0
  unfolding leading
  none-leads lo r rs e = rw e

  -- a used row that does not lead
  stops : (lo : ℕ) (r : A) (rs : List A) → used r ≡ true → (leb lo (key r) && filled r) ≡ false → false ≡ all spare
      (drop (leading filled key lo (r ∷ rs)) (r ∷ rs))
  unfolding all
  stops lo r rs u e =
      let no : false ≡ all spare (r ∷ rs) = rw u in
      no ∙ ap (λ (n : ℕ). all spare (drop n (r ∷ rs))) (sym (none-leads lo r rs e))

  -- The used rows come first and in order, and each row passes its test: so the rows behind those that lead are spare.
  front-row : (lo : ℕ) (r : A) (rs : List A) (u h f : Bool) → used r ≡ u → leb lo (key r) ≡ h → fine r ≡ f
      → (rising_from used key (suc (key r)) rs && all ok rs) ≡ all spare (drop (leading filled key (suc (key r)) rs) rs)
      → (rising_from used key lo (r ∷ rs) && all ok (r ∷ rs)) ≡ all spare (drop (leading filled key lo (r ∷ rs)) (r ∷ rs))
  unfolding rising_from leading any all
  front-row lo r rs true true true a b c e = rw (a, b, c) e
  front-row lo r rs true true false a b c e =
      let first : (rising_from used key lo (r ∷ rs) && all ok (r ∷ rs)) ≡ false = rw (a, b, c) (and-false (rising_from used key (suc (key r)) rs)) in
      first ∙ stops lo r rs a (rw (a, b, c))
  front-row lo r rs true false f a b c e =
      let first : (rising_from used key lo (r ∷ rs) && all ok (r ∷ rs)) ≡ false = rw (a, b) in
      first ∙ stops lo r rs a (rw b)
  front-row lo r rs false h f a b c e =
      let z = none-leads lo r rs (rw a (and-false (leb lo (key r)))) in
      let first : (rising_from used key lo (r ∷ rs) && all ok (r ∷ rs)) ≡ (not (any used (r ∷ rs)) && all ok (r ∷ rs)) = rw a in
      first ∙ all-spare (r ∷ rs) ∙ ap (λ (n : ℕ). all spare (drop n (r ∷ rs))) (sym z)

  front : (lo : ℕ) (rows : List A) → (rising_from used key lo rows && all ok rows) ≡ all spare (drop (leading filled key lo rows) rows)
  unfolding rising_from leading all
  front lo [] = refl
  front lo (r ∷ rs) = front-row lo r rs (used r) (leb lo (key r)) (fine r) refl refl refl (front (suc (key r)) rs)

  -- No spare row is counted, and every row that leads is.
  spare-count : (rows : List A) → all spare rows ≡ true → count used rows ≡ 0
  unfolding all count
  spare-count [] e = refl
  spare-count (r ∷ rs) e = at (used r) e (spare-count rs)
    where
      at : (u : Bool) → ((not u && blank r) && all spare rs) ≡ true → (all spare rs ≡ true → count used rs ≡ 0) → cond u 1 0 + count used rs ≡ 0
      at true t f = absurd (false≢true t)
      at false t f = let h = (and-eq-true_iff (blank r) (all spare rs)).0 t in omega (arith, f h.1)

  front-count-row : (lo : ℕ) (r : A) (rs : List A) (b : Bool) → (leb lo (key r) && filled r) ≡ b
      → (all spare (drop (leading filled key (suc (key r)) rs) rs) ≡ true → count used rs ≡ leading filled key (suc (key r)) rs)
      → all spare (drop (leading filled key lo (r ∷ rs)) (r ∷ rs)) ≡ true → count used (r ∷ rs) ≡ leading filled key lo (r ∷ rs)
  unfolding leading count
  front-count-row lo r rs true e f t =
      let u : used r ≡ true = (simp and-eq-true_iff at e).1.0 in
      let h = rw e at t in
      rw (e, u) (omega (arith, f h))
  front-count-row lo r rs false e f t = rw e (spare-count (r ∷ rs) (rw e at t))

  front-count : (lo : ℕ) (rows : List A) → all spare (drop (leading filled key lo rows) rows) ≡ true → count used rows ≡ leading filled key lo rows
  unfolding leading count
  front-count lo [] t = refl
  front-count lo (r ∷ rs) t = front-count-row lo r rs (leb lo (key r) && filled r) refl (front-count (suc (key r)) rs) t

  -- A table with its count: what a loop over the leading rows and one over those behind them find.
  pub counted-front : (n lo : ℕ) (rows : List A) → let k = leading filled key lo rows in
      (eqb n (count used rows) && (rising_from used key lo rows && all ok rows)) ≡ (eqb n k && all spare (drop k rows))
  counted-front n lo rows = at (all spare (drop (leading filled key lo rows) rows)) refl
    where
      at : (b : Bool) → let k = leading filled key lo rows in all spare (drop k rows) ≡ b
          → (eqb n (count used rows) && (rising_from used key lo rows && all ok rows)) ≡ (eqb n k && all spare (drop k rows))
      at true e = rw (front lo rows, front-count lo rows e)
      at false e = rw (front lo rows, e) (and-false (eqb n (count used rows)) ∙ sym (and-false (eqb n (leading filled key lo rows))))
