-- What a line says can be read from its characters.
use Rattle.std.specs.Prelude.{◌≡◌, length, ◌+◌}
use Rattle.page.specs.Layout.{end_at, rights_at, word_at, line_size}
use Rattle.page.specs.Line.{Line, login_column, end_column, rights_column, ◌then◌, space, line}

-- The named size and places are those of the format.
pub record LineLaidOut : Type 0 where
  pub end : (login_column then space).width ≡ end_at
  pub rights : end_at + (end_column then space).width ≡ rights_at
  pub word : rights_at + (rights_column then space).width ≡ word_at
  pub whole : line.width ≡ line_size

-- A line takes its 47 characters, and is read back.
pub record IsLine (x : Line) : Type 0 where
  pub size : length (line.encode x) ≡ line_size
  pub read : line.decode (line.encode x) ≡ x

abbrev pub LineReadBack : Type 0
LineReadBack = (x : Line) → line.Fits x → IsLine x
