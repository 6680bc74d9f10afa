-- RFC 4180: comma-separated files, by the rules of its grammar. Each rule reads a text from the front on and gives what it read and the text behind
-- it, or none where the text does not follow the rule.
use Rattle.std.specs.Prelude.{ℕ, zero, suc, List, [], ◌∷◌, Bool, true, false, cond, ◌&&◌, ◌||◌, eqb, leb, drop}
use Rattle.std.proofs.Math.Option.{Option, none, some, map, bind}

-- DQUOTE, COMMA, CR and LF, in ASCII
abbrev pub quote : ℕ
quote = 34

abbrev pub comma : ℕ
comma = 44

abbrev pub carriage_return : ℕ
carriage_return = 13

abbrev pub line_feed : ℕ
line_feed = 10

-- the text begins with this character
unfoldable pub begins : ℕ → List ℕ → Bool
begins c [] = false
begins c (x ∷ xs) = eqb x c

-- this character, and the text behind it
abbrev pub char : ℕ → List ℕ → Option (List ℕ)
char c text = cond (begins c text) (some (drop 1 text)) none

-- TEXTDATA = %x20-21 / %x23-2B / %x2D-7E: what is printed in ASCII, but for quote and comma
abbrev pub is_text_data : ℕ → Bool
is_text_data c = (leb 32 c && leb c 33) || ((leb 35 c && leb c 43) || (leb 45 c && leb c 126))

-- what a field held, and the text behind it
abbrev pub Field : Type 0
Field = List ℕ × List ℕ

abbrev pub before : ℕ → Field → Field
before c f = (c ∷ f.0, f.1)

-- non-escaped = *TEXTDATA
unfoldable pub plain_in : List ℕ → Field
plain_in [] = ([], [])
plain_in (c ∷ cs) = cond (is_text_data c) (before c (plain_in cs)) ([], c ∷ cs)

-- TEXTDATA / COMMA / CR / LF
abbrev pub is_quotable : ℕ → Bool
is_quotable c = is_text_data c || (eqb c comma || (eqb c carriage_return || eqb c line_feed))

-- escaped = DQUOTE *(TEXTDATA / COMMA / CR / LF / 2DQUOTE) DQUOTE, from behind the first quote on: two quotes stand for one, and a single one ends it
unfoldable pub quoted_in : List ℕ → Option Field
quoted_in [] = none
quoted_in (c ∷ []) = cond (eqb c quote) (some ([], [])) none
quoted_in (c ∷ d ∷ cs) =
    cond (eqb c quote)
    (cond (eqb d quote) (map (before quote) (quoted_in cs)) (some ([], d ∷ cs)))
    (cond (is_quotable c) (map (before c) (quoted_in (d ∷ cs))) none)

-- field = (escaped / non-escaped)
unfoldable pub field_in : List ℕ → Option Field
field_in text = cond (begins quote text) (quoted_in (drop 1 text)) (some (plain_in text))

-- record = field *(COMMA field): the fields of a line, as many as are asked for behind the first
unfoldable pub fields_in : ℕ → List ℕ → Option (List (List ℕ) × List ℕ)
fields_in zero text = bind (field_in text) (λ f. some (f.0 ∷ [], f.1))
fields_in (suc n) text =
    bind (field_in text) (λ f.
    bind (char comma f.1) (λ behind.
    bind (fields_in n behind) (λ fs. some (f.0 ∷ fs.0, fs.1))))

-- the text has come to its end
abbrev pub is_end : List ℕ → Bool
is_end [] = true
is_end (c ∷ cs) = false

-- CRLF, which the last line may lack
abbrev pub line_end : List ℕ → Option (List ℕ)
line_end text = cond (is_end text) (some []) (bind (char carriage_return text) (char line_feed))

-- file = record *(CRLF record) [CRLF]: the fields of each line, where there are at most as many lines as told; "An empty file has no lines."
unfoldable pub lines_in : ℕ → ℕ → List ℕ → Option (List (List (List ℕ)))
lines_in zero n text = cond (is_end text) (some []) none
lines_in (suc most) n text =
    cond (is_end text) (some [])
    (bind (fields_in n text) (λ fs.
    bind (line_end fs.1) (λ behind.
    bind (lines_in most n behind) (λ ls. some (fs.0 ∷ ls)))))
