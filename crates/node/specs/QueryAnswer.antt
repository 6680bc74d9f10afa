-- What a query is answered: "open" or the number of a rule.
use Rattle.std.specs.Prelude.{ℕ}

pub data QueryAnswer : Type 0 where
  Open : QueryAnswer
  Refused : (number : ℕ) → QueryAnswer
