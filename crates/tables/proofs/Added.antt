-- A row added as the code does it: the index of the row's place, and then the row there or before it.
use mathlib.Core.Path.{◌≡◌, refl, sym, ap, ◌∙◌}
use mathlib.Core.Bool.{Bool, true, false, cond, not, ◌||◌}
use mathlib.Core.List.{List, [], ◌∷◌}
use Prim.Native.Nat.{ℕ, suc, ◌≤◌}
use native.Mathlib.Omega.{arith}
use lib.Dec.{ltb}
use lib.ListN.{length, get_or, take, set}
use lib.Seq.{take-length, set_out}
use Rattle.lists.specs.Code.{index_of, insert_at}
use Rattle.lists.proofs.Tests.{cond_cases}
use Rattle.lists.proofs.Loops.{insert-end}
use Rattle.state.specs.Limits.{login_rows}
use Rattle.state.specs.declared.Login.{Login}
use Rattle.state.specs.Rows.{no_login, is_login}
use Rattle.tables.specs.Logins.{is_named, insert_login, add_login}
use Rattle.tables.specs.Code.{is_place}

-- x in the place of row i if that has its name, or else before it
abbrev placed : ℕ → Login → List Login → List Login
placed i x rows = cond (is_named x.login (get_or rows i no_login)) (set rows i x) (insert_at i x rows)

cut-insert : (x : Login) (rows : List Login) → take (length rows) (insert_login x rows) ≡ placed (index_of (is_place x.login) rows) x rows
unfolding insert_login index_of insert_at
cut-insert x [] = cond_cases (λ (v : List Login). [] ≡ v) (is_named x.login no_login) (λ e. refl) (λ e. refl)
cut-insert x (r ∷ rs) = at (is_named x.login r) (not (is_login r) || ltb x.login r.login) refl refl (cut-insert x rs)
  where
    after : (b : Bool) (l m : List Login) → (r ∷ cond b l m) ≡ cond b (r ∷ l) (r ∷ m)
    after true l m = refl
    after false l m = refl

    at : (a b : Bool) → is_named x.login r ≡ a → (not (is_login r) || ltb x.login r.login) ≡ b
        → take (length rs) (insert_login x rs) ≡ placed (index_of (is_place x.login) rs) x rs
        → take (suc (length rs)) (insert_login x (r ∷ rs)) ≡ placed (index_of (is_place x.login) (r ∷ rs)) x (r ∷ rs)
    at true b e f h = rw (e, e) (ap (λ (l : List Login). x ∷ l) (take-length rs))
    at false true e f h = rw (e, f, e)
    at false false e f h = rw (e, f)
        (ap (λ (l : List Login). r ∷ l) h ∙ after (is_named x.login (get_or rs (index_of (is_place x.login) rs) no_login)) _ _)

-- The three ways in which the code ends: no place is left, the row there has the name of the new one, or it has another.
module _ (x : Login) (rows : List Login) (i : ℕ) (long : length rows ≡ login_rows) (found : i ≡ index_of (is_place x.login) rows) where
  add-placed : placed i x rows ≡ add_login x rows
  unfolding add_login
  add-placed = rw (found, ← long) (sym (cut-insert x rows))

  pub add-full : login_rows ≤ i → rows ≡ add_login x rows
  add-full h =
      sym (cond_cases (λ (l : List Login). l ≡ rows) (is_named x.login (get_or rows i no_login)) (λ e. set_out rows i x (omega arith))
      (λ e. insert-end x rows i (omega arith)))
      ∙ add-placed

  pub add-replaces : is_named x.login (get_or rows i no_login) ≡ true → set rows i x ≡ add_login x rows
  add-replaces e = rw e at add-placed

  pub add-inserts : is_named x.login (get_or rows i no_login) ≡ false → insert_at i x rows ≡ add_login x rows
  add-inserts e = rw e at add-placed
