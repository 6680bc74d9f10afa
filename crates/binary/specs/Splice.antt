-- Bytes written into a list at a position.
use Rattle.std.specs.Prelude.{ℕ, ◌+◌, List, ◌++◌, length, take, drop}

-- d with v written from index `at` on
unfoldable pub splice : List ℕ → ℕ → List ℕ → List ℕ
splice d at v = take at d ++ (v ++ drop (at + length v) d)
