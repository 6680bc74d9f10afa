-- Lines of a comma-separated file: their fields are read as they were written.
use Prim.Native.Nat.{ℕ, zero, suc, ◌≤◌}
use native.Mathlib.Omega.{arith}
use mathlib.Core.Path.{◌≡◌, refl, ap, ◌∙◌}
use mathlib.Core.Bool.{true, false, and-eq-true_iff}
use mathlib.Core.List.{List, [], ◌∷◌, ◌++◌, append_assoc, map}
use mathlib.Core.Option.{Option, some, bind, bind-eq-some_iff, some-injective}
use lib.ListN.{length}
use Rattle.lists.specs.Fold.{all}
use Rattle.lists.proofs.Tests.{cond_cases, clash}
use Rattle.roster.specs.Csv.{comma, begins, char, Field, field_in, fields_in, is_end}
use Rattle.roster.specs.Written.{Written, is_written, field_text, fields_text}
use Rattle.roster.proofs.Quoting.{Behind, field_of, field-read, begins-split, IsField, field-written}

abbrev pub contents_of : List Written → List (List ℕ)
contents_of l = map (λ f. f.content) l

-- what the fields of a line held, and the text behind it
abbrev pub Fields : Type 0
Fields = List (List ℕ) × List ℕ

-- ---- written, so read

-- one field after the other
in-turn : (f : Written) (l : List Written) (rest : List ℕ) → all is_written (f ∷ l) ≡ true → Behind rest
    → fields_in (length l) (fields_text (f ∷ l) ++ rest) ≡ some (contents_of (f ∷ l), rest)
unfolding fields_in fields_text begins all bind
in-turn f [] rest e h =
    let w = (and-eq-true_iff (is_written f) true).0 e in
    rw (field-read f.quoted f.content rest w.0 h)
in-turn f (g ∷ l) rest e h =
    let w = (and-eq-true_iff (is_written f) (all is_written (g ∷ l))).0 e in
    let behind = fields_text (g ∷ l) ++ rest in
    rw (append_assoc (field_text f) (comma ∷ fields_text (g ∷ l)) rest, field-read f.quoted f.content (comma ∷ behind) w.0 (refl, refl))
    (rw (in-turn g l rest w.1 h))

pub fields_read : (n : ℕ) (l : List Written) (rest : List ℕ) → length l ≡ suc n → all is_written l ≡ true → Behind rest
    → fields_in n (fields_text l ++ rest) ≡ some (contents_of l, rest)
fields_read n [] rest s w h = absurd (omega arith)
fields_read n (f ∷ l) rest s w h = let e : length l ≡ n = omega arith in rw e at (in-turn f l rest w h)

-- a line of two fields or more is not empty
pub line-begins : (n : ℕ) → 1 ≤ n → (l : List Written) (rest : List ℕ) → length l ≡ suc n → is_end (fields_text l ++ rest) ≡ false
unfolding fields_text
line-begins n h [] rest s = absurd (omega arith)
line-begins n h (f ∷ []) rest s = absurd (omega arith)
line-begins n h (f ∷ g ∷ l) rest s = rw (append_assoc (field_text f)) (at (field_text f))
  where
    at : (t : List ℕ) → is_end (t ++ (comma ∷ (fields_text (g ∷ l) ++ rest))) ≡ false
    at [] = refl
    at (c ∷ cs) = refl

-- ---- read, so written

pub char-written : (c : ℕ) (text behind : List ℕ) → char c text ≡ some behind → text ≡ c ∷ behind
char-written c text behind =
    cond_cases (λ (o : Option (List ℕ)). o ≡ some behind → text ≡ c ∷ behind) (begins c text)
    (λ b e. begins-split c text b ∙ ap (λ (l : List ℕ). c ∷ l) (some-injective _ _ e)) (λ b e. clash (cc))

-- a line that was read, as it was written
pub record IsLine (n : ℕ) (text : List ℕ) (read : Fields) : Type 0 where
  pub first : Written
  pub others : List Written
  pub size : length others ≡ n
  pub written : all is_written (first ∷ others) ≡ true
  pub text_of : text ≡ fields_text (first ∷ others) ++ read.1
  pub contents-of : read.0 ≡ contents_of (first ∷ others)

-- a line of one field, and a field in front of a line
one_field : (text : List ℕ) (f : Field) → IsField text f → IsLine zero text (f.0 ∷ [], f.1)
unfolding fields_text all
one_field text f w = record {
  first = field_of w.quoted f.0;
  others = [];
  size = refl;
  written = rw w.written;
  text_of = w.text_of;
  contents-of = refl;
}

one_more : (n : ℕ) (text behind : List ℕ) (f : Field) (fs : Fields) → IsField text f → f.1 ≡ comma ∷ behind → IsLine n behind fs
    → IsLine (suc n) text (f.0 ∷ fs.0, fs.1)
unfolding fields_text all
one_more n text behind f fs w e l =
    let g = field_of w.quoted f.0 in
    let t = ap (λ (x : List ℕ). field_text g ++ x) (e ∙ ap (λ (x : List ℕ). comma ∷ x) l.text_of) in
    record {
      first = g;
      others = l.first ∷ l.others;
      size = ap suc l.size;
      written = rw (w.written, l.written);
      text_of = w.text_of ∙ rw (append_assoc (field_text g)) t;
      contents-of = ap (λ (x : List (List ℕ)). f.0 ∷ x) l.contents-of;
    }

-- by how many fields there are behind the first
abbrev LinesWritten : ℕ → Type 0
LinesWritten n = (text : List ℕ) (read : Fields) → fields_in n text ≡ some read → IsLine n text read

lines-of-one : LinesWritten zero
unfolding fields_in
lines-of-one text read e =
    let a = (bind-eq-some_iff (field_in text) _).0 e in
    rw (← (some-injective _ _ a.2)) (one_field text a.0 (field-written text a.0 a.1))

lines-of-more : (n : ℕ) → LinesWritten n → LinesWritten (suc n)
unfolding fields_in
lines-of-more n h text read e =
    let a = (bind-eq-some_iff (field_in text) _).0 e in
    let b = (bind-eq-some_iff (char comma a.0.1) _).0 a.2 in
    let c = (bind-eq-some_iff (fields_in n b.0) _).0 b.2 in
    let w = field-written text a.0 a.1 in
    let m = char-written comma a.0.1 b.0 b.1 in
    rw (← (some-injective _ _ c.2)) (one_more n text b.0 a.0 c.0 w m (h b.0 c.0 c.1))

pub fields-written : (n : ℕ) → LinesWritten n
fields-written zero = lines-of-one
fields-written (suc n) = lines-of-more n (fields-written n)
