-- Whether a node is halted, as the test of its seat tells it.
use mathlib.Core.Path.{◌≡◌, sym, ap, ◌∙◌}
use mathlib.Core.Bool.{Bool}
use lib.Dec.{eqb}
use Rattle.state.specs.declared.Seat.{Seat}
use Rattle.state.specs.declared.State.{State}
use Rattle.state.specs.Seats.{retired}
use Rattle.verdicts.specs.declared.Own.{Own}
use Rattle.verdicts.specs.Own.{held_seat, is_halted}

pub halted : (s : State) (own : Own) (held : Seat) (r : Bool) → held ≡ held_seat s own → r ≡ eqb held.standing retired → is_halted s own ≡ r
halted s own held r e h = sym (h ∙ ap (λ (x : Seat). eqb x.standing retired) e)
