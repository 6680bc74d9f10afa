use Rattle.std.proofs.Common.{◌≡◌}
use Rattle.binary.specs.Number.{overwrite}
use Rattle.shares.specs.Shares.{shares_of}
use Rattle.shares.proofs.splitting.put_shares.Given as goal

abbrev pub invariant-loop-i : goal.invariant-loop-i
invariant-loop-i l =
    l.out ≡ overwrite (shares_of l.polynomials.needed l.polynomials.key.now l.polynomials.coefficients.now l.i) l.initial.out
