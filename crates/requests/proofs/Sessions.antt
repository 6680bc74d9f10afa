-- The lines of a session, one after the other.
use Prim.Native.Nat.{ℕ, zero, suc, ◌+◌, ◌≤◌}
use native.Mathlib.Omega.{arith}
use mathlib.Core.Path.{◌≡◌, refl, sym, ap, ◌∙◌}
use mathlib.Core.Bool.{Bool, true, false, cond}
use mathlib.Core.List.{List, [], ◌++◌}
use lib.Dec.{eqb}
use lib.ListN.{length, length-append, length-drop}
use lib.Seq.{drop-append-le}
use borrow.Author.Tests.{eq-eqb, ne_eqb}
use Rattle.requests.specs.Run.{Session, next_step, next_line, next_session, lines_from, read_on}
use Rattle.requests.specs.Claims.{EndsOrHolds, NoLineLeftOut, LineByLine, LineAhead}
use Rattle.requests.proofs.Frames.{request-heads}
use Rattle.requests.proofs.Extents.{used-fits, step-whole}
use Rattle.requests.proofs.Following.{more-input}

pub ends-or-holds : EndsOrHolds
ends-or-holds n b e = (step-whole n b e).held

cond-else : (t : Bool) {y y' : List ℕ} → (t ≡ false → y ≡ y') → cond t [] y ≡ cond t [] y'
cond-else true f = refl
cond-else false f = f refl

-- a session's next request takes bytes from its rest
less : (s : Session) (most : ℕ) → length s.rest ≤ suc most → (next_step s).ends ≡ false → length (next_session s).rest ≤ most
less s most h e = let some = (step-whole s.node s.rest e).some in rw length-drop (omega arith)

none : (most : ℕ) (s : Session) → length s.rest ≤ 0 → lines_from most s ≡ []
unfolding lines_from
none zero s h = refl
none (suc most) s h = rw (eq-eqb (length s.rest) 0 (omega arith)) refl

enough : (f g : ℕ) (s : Session) → length s.rest ≤ f → length s.rest ≤ g → lines_from f s ≡ lines_from g s
unfolding lines_from
enough zero g s h k = sym (none g s h)
enough (suc f) zero s h k = none (suc f) s k
enough (suc f) (suc g) s h k =
    cond-else (eqb (length s.rest) 0) (λ _. ap (λ (l : List ℕ). next_line s ++ l)
    (cond-else (next_step s).ends (λ e. enough f g (next_session s) (less s f h e) (less s g k e))))

pub no-line-left-out : NoLineLeftOut
no-line-left-out s k = enough (length s.rest + k) (length s.rest) s (omega arith) (omega arith)

pub line-by-line : LineByLine
unfolding lines_from
line-by-line s h =
    let n = length s.rest in
    let once : lines_from (suc n) s ≡ next_line s ++ cond (next_step s).ends [] (lines_from n (next_session s)) =
    rw (ne_eqb n 0 (λ e. absurd (omega arith))) refl in
    enough n (suc n) s (omega arith) (omega arith) ∙ once
    ∙ ap (λ (l : List ℕ). next_line s ++ cond (next_step s).ends [] l)
    (enough n (length (next_session s).rest) (next_session s) (rw length-drop (omega arith)) (omega arith))

pub line-ahead : LineAhead
line-ahead s more h =
    let heads = request-heads s.rest h in
    let fits = used-fits s.node s.rest in
    rw (← drop-append-le (next_step s).used s.rest more fits, ← more-input s.node s.rest more h)
    (line-by-line (read_on s more) (rw length-append (omega arith)))
