-- What a page is answered: "It gives the number of lines", or the number of a rule.
use Rattle.std.specs.Prelude.{ℕ}

pub data PageAnswer : Type 0 where
  Given : (lines : ℕ) → PageAnswer
  Refused : (number : ℕ) → PageAnswer
