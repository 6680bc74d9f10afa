-- What stands at the front of a text.
use Prim.Native.Nat.{ℕ, ◌<◌}
use native.Mathlib.Omega.{arith}
use mathlib.Core.Path.{◌≡◌, refl}
use mathlib.Core.Logic.{◌≢◌}
use mathlib.Core.Bool.{false}
use mathlib.Core.List.{List, [], ◌∷◌}
use mathlib.Core.Option.{none, some}
use borrow.Author.Tests.{eq-eqb, ne_eqb}
use lib.ListN.{length}
use Rattle.roster.specs.Csv.{begins, char, is_end}

pub char_here : {text rest : List ℕ} {x c : ℕ} → text ≡ x ∷ rest → x ≡ c → char c text ≡ some rest
unfolding begins
char_here {x = x} {c = c} e h = rw (e, eq-eqb x c h)

pub char_other : (text rest : List ℕ) (x c : ℕ) → text ≡ x ∷ rest → x ≢ c → char c text ≡ none
unfolding begins
char_other text rest x c e h = rw (e, ne_eqb x c h)

pub char_end : (text : List ℕ) (c : ℕ) → length text ≡ 0 → char c text ≡ none
unfolding begins
char_end [] c e = refl
char_end (x ∷ xs) c e = absurd (omega arith)

pub not_end : (text : List ℕ) → 0 < length text → is_end text ≡ false
not_end [] h = absurd (omega arith)
not_end (x ∷ xs) h = refl

pub is_nil : (text : List ℕ) → length text ≡ 0 → text ≡ []
is_nil [] e = refl
is_nil (x ∷ xs) e = absurd (omega arith)
