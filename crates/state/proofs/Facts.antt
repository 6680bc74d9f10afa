-- What the quorum and a difference of days tell.
use native.Mathlib.Omega.{arith}
use borrow.Author.Tests.{ltb-true, ltb-false}
use Rattle.state.specs.Seats.{quorum}
use Rattle.state.specs.Claims.{QuorumsExceed, DaysNeverBack}

pub quorums-exceed : QuorumsExceed
unfolding quorum
quorums-exceed p m k = omega arith

pub days-never-back : DaysNeverBack
days-never-back a b = (λ e. let h = ltb-true a.0 b.0 e in omega arith, λ e. let h = ltb-false a.0 b.0 e in omega arith)
