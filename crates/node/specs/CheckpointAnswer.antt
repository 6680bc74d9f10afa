-- What a checkpoint is answered: it is given, or the number of a rule.
use Rattle.std.specs.Prelude.{ℕ}

pub data CheckpointAnswer : Type 0 where
  Given : CheckpointAnswer
  Refused : (number : ℕ) → CheckpointAnswer
