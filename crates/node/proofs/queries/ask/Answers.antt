use native.Mathlib.Omega.{arith}
use mathlib.Core.Path.{sym, ◌∙◌}
use Rattle.refusals.specs.Refusals.{number_in}
use Rattle.node.specs.declared.Node.{Node}
use Rattle.node.proofs.Query.{Why, why, adds-from}
use Rattle.node.proofs.queries.ask.Goals as goal

pub answered-requires : goal.answered-requires
unfolding Why
answered-requires c =
    let a = c.args in
    let n : Node = record { state = a.state; own = a.own; counts = a.counts } in
    let k = number_in c.query_refusal.result in
    λ h.
    let l = adds-from k h in
    (why n a.query.now _ (sym c.read_query.ensures ∙ c.in-Some.is) k (omega arith) (sym c.query_refusal.ensures)).1 h
