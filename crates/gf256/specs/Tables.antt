-- "a table of the 255 powers of 3 and its table of logarithms": what they hold.
use Rattle.std.specs.Prelude.{◌≡◌, ◌≢◌, List, ℕ, ◌<◌, length, get_or}
use Rattle.gf256.specs.Field.{power}

pub record ArePowers (table : List ℕ) : Type 0 where
  pub size : length table ≡ 255
  pub each : (i : ℕ) → i < 255 → get_or table i 0 ≡ power i 3

-- at each byte; 0 has no logarithm, and its entry, whatever it is, is not used
pub record AreLogarithms (table : List ℕ) : Type 0 where
  pub size : length table ≡ 256
  pub below : (a : ℕ) → a < 256 → get_or table a 0 < 255
  pub each : (a : ℕ) → a < 256 → a ≢ 0 → power (get_or table a 0) 3 ≡ a
