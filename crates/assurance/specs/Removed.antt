-- A removed seat answers no one for long.
use Rattle.std.specs.Prelude.{◌≡◌, List, ℕ, ◌<◌}
use Rattle.state.specs.Time.{days_since}
use Rattle.records.specs.declared.Action.TheVariants.{Remove}
use Rattle.agreement.specs.History.{History}
use Rattle.agreement.specs.Claims.{PerformedIn, OpenedIn, Park, EquivocationBound}

-- After a remove of a seat announced on day D, performed anywhere in the list, no node of that seat answers open for a given day above D plus its
-- silence limit, before or after the remove in the list, under the bound.
abbrev pub RemovedNeverOpens : Type 0
RemovedNeverOpens = (first : List ℕ) (calls : History) → Park first calls → EquivocationBound calls
    → (r : PerformedIn calls) (o : OpenedIn calls) → r.announcement.action ≡ Remove o.node.own.seat
    → ¬ (o.node.state.minima.silence < days_since o.query.day r.announcement.day)
