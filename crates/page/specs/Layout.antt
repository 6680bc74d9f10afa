-- "Each line has 46 characters and a line feed": where each column begins.
use Rattle.std.specs.Prelude.{ℕ}

abbrev pub end_at : ℕ
end_at = 11

abbrev pub rights_at : ℕ
rights_at = 22

abbrev pub word_at : ℕ
word_at = 39

abbrev pub line_size : ℕ
line_size = 47
