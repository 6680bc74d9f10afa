-- What a delivery is answered: "done" where it was performed, "voted", or the number of a rule.
use Rattle.std.specs.Prelude.{ℕ}

pub data DeliverAnswer : Type 0 where
  Done : DeliverAnswer
  Voted : DeliverAnswer
  Refused : (number : ℕ) → DeliverAnswer
