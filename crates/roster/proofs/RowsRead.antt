-- The loop over the lines of a roster.
use Prim.Native.Nat.{ℕ, suc, ◌+◌, ◌-◌, ◌≤◌, ◌<◌}
use native.Mathlib.Omega.{arith}
use mathlib.Core.Path.{◌≡◌, refl, sym, ap, ◌∙◌}
use mathlib.Core.Bool.{Bool, true, false}
use mathlib.Core.List.{List, [], ◌∷◌, ◌++◌, append_assoc, append-nil}
use mathlib.Core.Option.{Option, none, some, bind}
use lib.Dec.{eqb}
use lib.ListN.{length, length-append}
use borrow.Author.Tests.{eqb-true, eqb-false}
use Rattle.state.specs.declared.Login.{Login}
use Rattle.roster.specs.Roster.{most_lines, roster_in}
use Rattle.roster.specs.Code.{line_in}
use Rattle.roster.proofs.Found.{not_end, is_nil}
use Rattle.roster.proofs.Turns.{rows_of, turn_of, rows-turn, rows_end, rows-full}

-- rows, and those that follow them
abbrev followed_by : List Login → Option (List Login) → Option (List Login)
followed_by front rows = bind rows (λ rs. some (front ++ rs))

-- the roster says the rows, and then what the rest of its text says
pub record RowsRead (text : List ℕ) (rows : List Login) (rest : List ℕ) : Type 0 where
  pub few : length rows ≤ most_lines
  pub same : roster_in text ≡ followed_by rows (rows_of (most_lines - length rows) rest)

none_before : (o : Option (List Login)) → o ≡ followed_by [] o
unfolding bind
none_before none = refl
none_before (some rs) = refl

pub rows_none : (text : List ℕ) (rows : List Login) → rows ≡ [] → RowsRead text rows text
unfolding roster_in
rows_none text rows e = rw e (record { few = omega arith; same = none_before (rows_of most_lines text) })

-- a row more stands before the others
one-before : (front : List Login) (r : Login) (o : Option (List Login))
    → followed_by front (bind o (λ rs. some (r ∷ rs))) ≡ followed_by (front ++ (r ∷ [])) o
unfolding bind
one-before front r none = refl
one-before front r (some rs) = ap some (sym (append_assoc front (r ∷ []) rs))

module _ {text : List ℕ} {rows : List Login} {rest : List ℕ} (s : RowsRead text rows rest) where
  module _ (h : 0 < length rest) where
    pub rows_over : length rows ≡ most_lines → roster_in text ≡ none
    unfolding bind
    rows_over e = s.same ∙ rw (e, rows-full rest (not_end rest h))

    turn : length rows < most_lines → rows_of (most_lines - length rows) rest ≡ bind (line_in rest) (turn_of (most_lines - (length rows + 1)))
    turn l =
        let e : most_lines - length rows ≡ suc (most_lines - (length rows + 1)) = omega arith in
        rw e (rows-turn (most_lines - (length rows + 1)) rest (not_end rest h))

    pub rows_bad : line_in rest ≡ none → roster_in text ≡ none
    unfolding bind
    rows_bad e = at (eqb (length rows) most_lines) refl
      where
        at : (full : Bool) → eqb (length rows) most_lines ≡ full → roster_in text ≡ none
        at true q = rows_over (eqb-true _ _ q)
        at false q = let n = eqb-false _ _ q in s.same ∙ rw (turn (omega (arith, s.few)), e)

    pub rows_one : {r : Login} → length (rows ++ (r ∷ [])) ≤ most_lines → (behind : List ℕ) → line_in rest ≡ some (r, behind)
        → RowsRead text (rows ++ (r ∷ [])) behind
    unfolding bind
    rows_one {r} few behind e =
        let n : length (rows ++ (r ∷ [])) ≡ length rows + 1 = rw length-append in
        let l : length rows < most_lines = omega arith in
        let others : Option (List Login) = rows_of (most_lines - (length rows + 1)) behind in
        let step : roster_in text ≡ followed_by rows (bind others (λ rs. some (r ∷ rs))) = s.same ∙ rw (turn l, e) in
        record { few = few; same = rw n (step ∙ one-before rows r others) }

  pub rows_all : length rest ≡ 0 → roster_in text ≡ some rows
  unfolding bind
  rows_all h = s.same ∙ rw (is_nil rest h, rows_end (most_lines - length rows), append-nil)

-- the loop over the lines
pub ruleset rows_read = (rows_none, rows_over, rows_bad, rows_one, rows_all)
