use Rattle.std.proofs.Common.{ap, ◌∙◌, List, ℕ, arith}
use Rattle.shares.specs.Code.{weighed_key}
use Rattle.shares.proofs.Writes.{merged-key}
use Rattle.shares.proofs.merging.put_key.Goals as goal

pub returns : goal.returns
returns c =
    let a = c.args in
    c.put_sum.ensures
    ∙ ap (λ (ws : List ℕ). weighed_key ws a.shares.now) c.put_weights.ensures
    ∙ merged-key a.numbers.now a.shares.now (λ i. omega (arith, c.type_inv.shares i))
