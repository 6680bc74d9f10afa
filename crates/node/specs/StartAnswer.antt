-- What a start is answered: "started" or the number of a rule.
use Rattle.std.specs.Prelude.{ℕ}

pub data StartAnswer : Type 0 where
  Started : StartAnswer
  Refused : (number : ℕ) → StartAnswer
