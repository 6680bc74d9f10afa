-- RFC 4180 the other way round: how its rules write a file, and that what they write is what is read.
use Rattle.std.specs.Prelude.{◌≡◌, Bool, true, cond, ◌||◌, ℕ, suc, ◌≤◌, eqb, length}
use mathlib.Core.List.{List, [], ◌∷◌, ◌++◌, map, Memᴰ}
use Rattle.std.proofs.Math.Option.{some}
use Rattle.lists.specs.Fold.{all}
use Rattle.roster.specs.Csv.{quote, comma, carriage_return, line_feed, is_text_data, is_quotable, lines_in}

-- a field as it is written: quoted or not
pub record Written : Type 0 where
  pub quoted : Bool
  pub content : List ℕ

-- only a quoted field may hold quotes, commas and line ends
abbrev pub is_written : Written → Bool
is_written f = cond f.quoted (all (λ c. is_quotable c || eqb c quote) f.content) (all is_text_data f.content)

-- a quote in a quoted field is written twice
unfoldable pub escaped : List ℕ → List ℕ
escaped [] = []
escaped (c ∷ cs) = cond (eqb c quote) (quote ∷ quote ∷ escaped cs) (c ∷ escaped cs)

abbrev pub field_text : Written → List ℕ
field_text f = cond f.quoted (quote ∷ (escaped f.content ++ (quote ∷ []))) f.content

unfoldable pub fields_text : List Written → List ℕ
fields_text [] = []
fields_text (f ∷ []) = field_text f
fields_text (f ∷ g ∷ fs) = field_text f ++ (comma ∷ fields_text (g ∷ fs))

-- the last line is ended by CRLF or not, the others are
unfoldable pub file_text : Bool → List (List Written) → List ℕ
file_text ended [] = []
file_text ended (l ∷ []) = fields_text l ++ cond ended (carriage_return ∷ line_feed ∷ []) []
file_text ended (l ∷ m ∷ ls) = fields_text l ++ (carriage_return ∷ line_feed ∷ file_text ended (m ∷ ls))

abbrev pub contents : List (List Written) → List (List (List ℕ))
contents lines = map (map (λ f. f.content)) lines

-- each line has a field and n behind it, written by the rules
pub record AreLines (n : ℕ) (lines : List (List Written)) : Type 0 where
  pub sizes : (l : List Written) → Memᴰ l lines → length l ≡ suc n
  pub written : (l : List Written) → Memᴰ l lines → all is_written l ≡ true

-- Every file that is written so is read as its fields' contents, however they are quoted and whether its last line is ended or not. A line needs two
-- fields at least, for one line of one empty field is the empty file.
abbrev pub FilesRead : Type 0
FilesRead = (most n : ℕ) → 1 ≤ n → (ended : Bool) (lines : List (List Written)) → AreLines n lines → length lines ≤ most
    → lines_in most n (file_text ended lines) ≡ some (contents lines)

-- Every text that is read is a file written so.
pub record IsFile (most n : ℕ) (text : List ℕ) (read : List (List (List ℕ))) : Type 0 where
  pub ended : Bool
  pub lines : List (List Written)
  pub are-lines : AreLines n lines
  pub few : length lines ≤ most
  pub text_of : text ≡ file_text ended lines
  pub contents-of : read ≡ contents lines

abbrev pub FilesWritten : Type 0
FilesWritten = (most n : ℕ) (text : List ℕ) (read : List (List (List ℕ))) → lines_in most n text ≡ some read → IsFile most n text read
