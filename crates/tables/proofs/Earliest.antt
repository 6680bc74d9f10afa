-- The row with the earliest end day, the smallest login among equals.
use mathlib.Core.Path.{◌≡◌, refl, sym, ap, ◌∙◌}
use mathlib.Core.Logic.{◌⊎◌, inl, inr}
use mathlib.Core.Bool.{Bool, true, false, ◌||◌, ◌&&◌, and-eq-true_iff, false≢true}
use mathlib.Core.List.{List, [], ◌∷◌, Memᴰ}
use Prim.Native.Nat.{◌≤◌}
use native.Mathlib.Omega.{arith}
use lib.Dec.{eqb, ltb}
use lib.ListN.{get_or}
use borrow.Author.Tests.{ltb-true, ltb-false, le-ltb, eqb-true, eq-eqb, not-true}
use Rattle.lists.proofs.Tests.{or-false-of}
use Rattle.lists.proofs.Least.{least-listed, least-all}
use Rattle.state.specs.declared.Day.{Day}
use Rattle.state.specs.declared.Login.{Login}
use Rattle.state.specs.Rows.{no_login}
use Rattle.tables.specs.Logins.{logins_full, is_earlier, earliest_row}
use Rattle.tables.specs.Claims.{EarliestIsFirst, LacksRowInWords}

-- r ends before x, or with it and has no greater login
Below : Login → Login → Type 0
Below r x = (r.end.0 ≤ x.end.0) × (x.end.0 ≡ r.end.0 → r.login ≤ x.login)

through : (x y z : Login) → Below x y → Below y z → Below x z
unfolding Below
through x y z p q = (
  omega (arith, p.0, q.0),
  λ e.
      let first : y.end.0 ≡ x.end.0 = omega (arith, p.0, q.0) in
      let second : z.end.0 ≡ y.end.0 = omega (arith, p.0, q.0) in
      omega (arith, p.1 first, q.1 second),
)

earlier-below : (x y : Login) → is_earlier x y ≡ true → Below x y
unfolding Below
earlier-below x y = at (ltb x.end.0 y.end.0) refl
  where
    at : (b : Bool) → ltb x.end.0 y.end.0 ≡ b → (b || (eqb x.end.0 y.end.0 && ltb x.login y.login)) ≡ true → Below x y
    at true f e = let k = ltb-true x.end.0 y.end.0 f in (omega arith, λ q. omega arith)
    at false f e =
        let t = (and-eq-true_iff (eqb x.end.0 y.end.0) _).0 e in
        let same = eqb-true x.end.0 y.end.0 t.0 in
        let less = ltb-true x.login y.login t.1 in
        (omega arith, λ q. omega arith)

-- which fails where the other is not after it
later-below : (x y : Login) → is_earlier x y ≡ false → Below y x
unfolding Below
later-below x y e =
    let f = or-false-of (ltb x.end.0 y.end.0) _ e in
    let k = ltb-false x.end.0 y.end.0 f.0 in (
      k,
      λ same. at (ltb x.login y.login) refl same f.1,
    )
  where
    at : (b : Bool) → ltb x.login y.login ≡ b → x.end.0 ≡ y.end.0 → (eqb x.end.0 y.end.0 && b) ≡ false → y.login ≤ x.login
    at true g same h = absurd (false≢true (sym h ∙ rw (eq-eqb _ _ same)))
    at false g same h = ltb-false _ _ g

earliest-below : (rows : List Login) {r : Login} → Memᴰ r rows → Below (earliest_row rows) r
unfolding earliest_row
earliest-below rows m = least-all is_earlier Below through earlier-below later-below (get_or rows 0 no_login) m

earliest-listed : (rows : List Login) → logins_full rows ≡ true → Memᴰ (earliest_row rows) rows
unfolding earliest_row
earliest-listed [] e = absurd (false≢true e)
earliest-listed (r ∷ rs) e = by (least-listed is_earlier r (r ∷ rs))
  where
    by : (earliest_row (r ∷ rs) ≡ r) ⊎ Memᴰ (earliest_row (r ∷ rs)) (r ∷ rs) → Memᴰ (earliest_row (r ∷ rs)) (r ∷ rs)
    by (inl f) = Memᴰ.head f
    by (inr m) = m

pub earliest-is-first : EarliestIsFirst
unfolding Below
earliest-is-first rows full = record {
  listed = earliest-listed rows full;
  ends-first = λ x m. (earliest-below rows m).0;
  smallest = λ x m e. (earliest-below rows m).1 (ap (λ (d : Day). d.0) e);
}

pub lacks-row-in-words : LacksRowInWords
lacks-row-in-words d login rows = record {
  lacks = λ e.
      let t = simp and-eq-true_iff at e in
      let first = earliest-is-first rows t.0.0 in
      let not-over = ltb-false (earliest_row rows).end.0 d.0 (not-true _ t.1) in
      record { full = t.0.0; unlisted = not-true _ t.0.1; none_over = λ r m. omega (arith, first.ends-first r m) };
  none = λ h.
      let not-over = h.none_over (earliest_row rows) (earliest-is-first rows h.full).listed in
      rw (h.full, h.unlisted, le-ltb (earliest_row rows).end.0 d.0 not-over);
}
