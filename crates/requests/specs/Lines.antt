-- "It prints one line each: ordinal, answer, the node's cycle after it (0 if none). The answer is "started", "voted", "done", "open", or "no" and the
-- number." In ASCII, single spaces between, a line feed after each line.
use Rattle.std.specs.Prelude.{ℕ, ◌+◌, List, [], ◌∷◌, ◌++◌}
use Rattle.decimal.specs.Decimal.{most_digits, decimal}
use Rattle.requests.specs.declared.Answer.{Answer}
use Rattle.requests.specs.declared.Answer.TheVariants.{Started, Voted, Done, Open, No}

-- "started ", "voted ", "done ", "open ", "no "
abbrev pub word_of : Answer → List ℕ
word_of Started = 115 ∷ 116 ∷ 97 ∷ 114 ∷ 116 ∷ 101 ∷ 100 ∷ 32 ∷ []
word_of Voted = 118 ∷ 111 ∷ 116 ∷ 101 ∷ 100 ∷ 32 ∷ []
word_of Done = 100 ∷ 111 ∷ 110 ∷ 101 ∷ 32 ∷ []
word_of Open = 111 ∷ 112 ∷ 101 ∷ 110 ∷ 32 ∷ []
word_of (No k) = 110 ∷ 111 ∷ 32 ∷ (decimal k ++ (32 ∷ []))

unfoldable pub line_of : ℕ → Answer → ℕ → List ℕ
line_of ordinal answer cycle = decimal ordinal ++ (32 ∷ (word_of answer ++ (decimal cycle ++ (10 ∷ []))))

-- the bytes that are enough for the longest word with its number, and for the longest line
abbrev pub word_room : ℕ
word_room = 4 + most_digits

abbrev pub line_room : ℕ
line_room = most_digits + (word_room + most_digits) + 2
