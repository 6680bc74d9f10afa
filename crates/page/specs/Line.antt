-- The format of a line: "Each line has 46 characters and a line feed: login right-aligned in 10, a space, end date as year-month-day in 10, a
-- space, 16 places for rights (letter A to P where bit 0 to 15 is held, else a hyphen), a space, and "open", "ended" or "silent" padded to 7."
use Rattle.std.specs.Prelude.{ℕ, zero, suc, ◌+◌, ◌*◌, ◌^◌, ◌≤◌, ◌<◌, cond, List, [], ◌∷◌, ◌++◌, eqb, replicate, take}
use Rattle.std.proofs.Math.Option.{Option, none, some}
use Rattle.binary.specs.Number.{byte_at}
use Rattle.binary.specs.Codec.{Codec, onto, ◌⊗◌}
use Rattle.decimal.specs.Decimal.{aligned, number_in}
use Rattle.calendar.specs.Text.{last_day, day_text, day_in}
use Rattle.state.specs.Limits.{right_count}
use Rattle.state.specs.Rows.{is_held}
use Rattle.page.specs.declared.Word.{Word}
use Rattle.page.specs.declared.Word.TheVariants.{Open, Ended, Silent}

-- what a line says; no end day where it is after 2099-12-31
pub record Line : Type 0 where
  pub login : ℕ
  pub end : Option ℕ
  pub rights : ℕ
  pub word : Word

-- in ASCII
abbrev pub space : ℕ
space = 32

abbrev pub hyphen : ℕ
hyphen = 45

abbrev pub line_feed : ℕ
line_feed = 10

-- ---- the columns

-- "login right-aligned in 10"
abbrev pub login_column : Codec ℕ
login_column = record { width = 10; encode = λ x. aligned 10 x; decode = λ b. number_in (take 10 b); Fits = λ x. x < 10 ^ 10 }

-- "end date as year-month-day in 10"; "End days after 47481 (2099-12-31) print as ten hyphens."
abbrev pub end_text : Option ℕ → List ℕ
end_text none = replicate 10 hyphen
end_text (some n) = day_text n

abbrev pub HasDate : Option ℕ → Type 0
HasDate none = Unit {0}
HasDate (some n) = n ≤ last_day

abbrev pub end_column : Codec (Option ℕ)
end_column = record { width = 10; encode = end_text; decode = λ b. day_in (take 10 b); Fits = HasDate }

-- "16 places for rights (letter A to P where bit 0 to 15 is held, else a hyphen)": the place of right i
abbrev pub place : ℕ → ℕ → ℕ
place i rights = cond (is_held i rights) (65 + i) hyphen

-- n places, from that of right i on
unfoldable pub places : ℕ → ℕ → ℕ → List ℕ
places zero i rights = []
places (suc n) i rights = place i rights ∷ places n (suc i) rights

-- and back: the places are the bits, from the lowest on
unfoldable pub rights_in : List ℕ → ℕ
rights_in [] = 0
rights_in (c ∷ cs) = cond (eqb c hyphen) 0 1 + 2 * rights_in cs

abbrev pub rights_column : Codec ℕ
rights_column = record { width = 16; encode = λ x. places right_count 0 x; decode = λ b. rights_in (take 16 b); Fits = λ x. x < 2 ^ 16 }

-- ""open", "ended" or "silent" padded to 7"
abbrev pub word_text : Word → List ℕ
word_text Open = 111 ∷ 112 ∷ 101 ∷ 110 ∷ 32 ∷ 32 ∷ 32 ∷ []
word_text Ended = 101 ∷ 110 ∷ 100 ∷ 101 ∷ 100 ∷ 32 ∷ 32 ∷ []
word_text Silent = 115 ∷ 105 ∷ 108 ∷ 101 ∷ 110 ∷ 116 ∷ 32 ∷ []

-- and back: no two begin with the same letter
abbrev pub word_in : List ℕ → Word
word_in b = cond (eqb (byte_at 0 b) 111) Open (cond (eqb (byte_at 0 b) 101) Ended Silent)

abbrev pub word_column : Codec Word
word_column = record { width = 7; encode = word_text; decode = word_in; Fits = λ _. Unit {0} }

-- ---- the line

infixl 70 ◌then◌
-- a column, and a character behind it
abbrev pub ◌then◌ : {A : Type 0} → Codec A → ℕ → Codec A
◌then◌ f c = record { width = f.width + 1; encode = λ x. f.encode x ++ (c ∷ []); decode = f.decode; Fits = f.Fits }

abbrev pub Columns : Type 0
Columns = ℕ × (Option ℕ × (ℕ × Word))

abbrev pub columns : Codec Columns
columns = login_column then space ⊗ end_column then space ⊗ rights_column then space ⊗ word_column then line_feed

abbrev pub of_columns : Columns → Line
of_columns p = record { login = p.0; end = p.1.0; rights = p.1.1.0; word = p.1.1.1 }

abbrev pub columns_of : Line → Columns
columns_of x = (x.login, (x.end, (x.rights, x.word)))

abbrev pub line : Codec Line
line = onto columns of_columns columns_of
