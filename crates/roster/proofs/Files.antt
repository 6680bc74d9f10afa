-- Comma-separated files: what is written is read, what is read was written, and so quoting changes nothing.
use Prim.Native.Nat.{ℕ, zero, suc, ◌+◌, ◌≤◌}
use native.Mathlib.Omega.{arith}
use mathlib.Core.Path.{◌≡◌, refl, sym, ap, ◌∙◌}
use mathlib.Core.Bool.{Bool, true, false, cond}
use mathlib.Core.List.Memᴰ
use mathlib.Core.List.{List, [], ◌∷◌, ◌++◌}
use mathlib.Core.Option.{Option, some, bind, bind-eq-some_iff, some-injective}
use lib.ListN.{length, length-map}
use Rattle.lists.specs.Fold.{all}
use Rattle.lists.proofs.Options.{same-options}
use Rattle.lists.proofs.Tests.{cond_cases, clash}
use Rattle.lists.proofs.Every.{more}
use Rattle.lists.proofs.Members.{all_in, all-members}
use Rattle.roster.specs.Csv.{carriage_return, line_feed, begins, char, fields_in, is_end, line_end, lines_in}
use Rattle.roster.specs.Roster.{most_lines, more_fields, rows_in, roster_in}
use Rattle.roster.specs.Written.{Written, is_written, fields_text, file_text, contents, AreLines, FilesRead, IsFile, FilesWritten}
use Rattle.roster.specs.Claims.{QuotingChangesNothing}
use Rattle.roster.proofs.Quoting.{Behind}
use Rattle.roster.proofs.WrittenLines.{contents_of, Fields, fields_read, line-begins, char-written, IsLine, fields-written}

-- the lines of a file, each with its fields
abbrev Lines : Type 0
Lines = List (List (List ℕ))

-- CRLF, and the end of the last line
abbrev line_ended : List ℕ → List ℕ
line_ended t = carriage_return ∷ line_feed ∷ t

abbrev last_ended : Bool → List ℕ
last_ended ended = cond ended (line_ended []) []

no_lines : (most n : ℕ) → lines_in most n [] ≡ some []
unfolding lines_in
no_lines zero n = refl
no_lines (suc most) n = refl

-- ---- written, so read

-- a line, and the lines behind it
line_read : (most n : ℕ) → 1 ≤ n → (l : List Written) → length l ≡ suc n → all is_written l ≡ true → (rest behind : List ℕ) → Behind rest
    → line_end rest ≡ some behind → (ls : Lines) → lines_in most n behind ≡ some ls
    → lines_in (suc most) n (fields_text l ++ rest) ≡ some (contents_of l ∷ ls)
unfolding lines_in bind
line_read most n h l s w rest behind b e ls r = rw (line-begins n h l rest s, fields_read n l rest s w b) (rw e (rw r))

-- behind the last line, ended or not, there is nothing
last-read : (ended : Bool) → Behind (last_ended ended) × (line_end (last_ended ended) ≡ some [])
unfolding begins bind
last-read true = ((refl, refl), refl)
last-read false = ((tt, refl), refl)

other-lines : {n : ℕ} {l : List Written} {ls : List (List Written)} → AreLines n (l ∷ ls) → AreLines n ls
other-lines a = record { sizes = λ x m. a.sizes x (Memᴰ.tail m); written = λ x m. a.written x (Memᴰ.tail m) }

pub files-read : FilesRead
unfolding file_text begins bind
files-read most n h ended [] a k = no_lines most n
files-read zero n h ended (l ∷ []) a k = absurd (omega arith)
files-read (suc most) n h ended (l ∷ []) a k =
    let m = Memᴰ.head refl in
    let t = last-read ended in
    line_read most n h l (a.sizes l m) (a.written l m) (last_ended ended) [] t.0 t.1 [] (no_lines most n)
files-read zero n h ended (l ∷ l' ∷ ls) a k = absurd (omega arith)
files-read (suc most) n h ended (l ∷ l' ∷ ls) a k =
    let t = file_text ended (l' ∷ ls) in
    let r = files-read most n h ended (l' ∷ ls) (other-lines a) (omega arith) in
    let m = Memᴰ.head refl in
    line_read most n h l (a.sizes l m) (a.written l m) (line_ended t) t (refl, refl) refl (contents (l' ∷ ls)) r

-- ---- read, so written

no_line : (n : ℕ) → AreLines n []
no_line n = record { sizes = λ l m. absurd (Memᴰ.not-nil m); written = λ l m. absurd (Memᴰ.not-nil m) }

more-lines : (n : ℕ) (l : List Written) (ls : List (List Written)) → length l ≡ suc n → all is_written l ≡ true → AreLines n ls → AreLines n (l ∷ ls)
more-lines n l ls s w a = record {
  sizes = λ x m. all_in {P = λ y. length y ≡ suc n} (more s (all-members ls a.sizes)) m;
  written = λ x m. all_in {P = λ y. all is_written y ≡ true} (more w (all-members ls a.written)) m;
}

at-end : (most n : ℕ) (text : List ℕ) (read : Lines) → is_end text ≡ true → some [] ≡ some read → IsFile most n text read
unfolding file_text
at-end most n [] read b e =
    record { ended = false; lines = []; are-lines = no_line n; few = omega arith; text_of = refl; contents-of = sym (some-injective _ _ e) }
at-end most n (c ∷ cs) read b e = clash (cc)

-- a line that was read, and what was read behind it
module _ (most n : ℕ) (text : List ℕ) (fs : Fields) (l : IsLine n text fs) where
  abbrev line : List Written
  line = l.first ∷ l.others

  before-lines : (ended : Bool) (xs : List (List Written)) → AreLines n xs → length xs ≤ most
      → fields_text line ++ fs.1 ≡ file_text ended (line ∷ xs) → IsFile (suc most) n text (fs.0 ∷ contents xs)
  before-lines ended xs a k t = record {
    ended = ended;
    lines = line ∷ xs;
    are-lines = more-lines n line xs (ap suc l.size) l.written a;
    few = omega arith;
    text_of = l.text_of ∙ t;
    contents-of = ap (λ (c : List (List ℕ)). c ∷ contents xs) l.contents-of;
  }

  last_line : (ended : Bool) → fs.1 ≡ last_ended ended → IsFile (suc most) n text (fs.0 ∷ [])
  unfolding file_text
  last_line ended e = before-lines ended [] (no_line n) (omega arith) (ap (λ (t : List ℕ). fields_text line ++ t) e)

  -- an ended line, which may be the last one too
  next-line : (behind : List ℕ) (ls : Lines) → fs.1 ≡ line_ended behind → IsFile most n behind ls → IsFile (suc most) n text (fs.0 ∷ ls)
  unfolding file_text
  next-line behind ls e f = at f.lines f.are-lines f.few f.text_of f.contents-of
    where
      at : (xs : List (List Written)) → AreLines n xs → length xs ≤ most → behind ≡ file_text f.ended xs → ls ≡ contents xs
          → IsFile (suc most) n text (fs.0 ∷ ls)
      at [] a k t c = rw c (last_line true (e ∙ ap line_ended t))
      at (x ∷ xs) a k t c = rw c (before-lines f.ended (x ∷ xs) a k (ap (λ (y : List ℕ). fields_text line ++ y) (e ∙ ap line_ended t)))

  -- whether it was ended or not
  behind-line : (behind : List ℕ) (ls : Lines) → line_end fs.1 ≡ some behind → lines_in most n behind ≡ some ls → IsFile most n behind ls
      → IsFile (suc most) n text (fs.0 ∷ ls)
  behind-line behind ls e r f = at fs.1 refl e
    where
      at : (t : List ℕ) → fs.1 ≡ t → line_end t ≡ some behind → IsFile (suc most) n text (fs.0 ∷ ls)
      at [] p q = let z : ls ≡ [] = cc (no_lines most n) in rw z (last_line false p)
      at (c ∷ cs) p q =
          let b = (bind-eq-some_iff (char carriage_return (c ∷ cs)) (char line_feed)).0 q in
          let u = char-written carriage_return (c ∷ cs) b.0 b.1 in
          let v = char-written line_feed b.0 behind b.2 in
          next-line behind ls (p ∙ u ∙ ap (λ (x : List ℕ). carriage_return ∷ x) v) f

-- by how many lines there may be
abbrev FilesOf : ℕ → ℕ → Type 0
FilesOf most n = (text : List ℕ) (read : Lines) → lines_in most n text ≡ some read → IsFile most n text read

of_none : (n : ℕ) → FilesOf zero n
unfolding lines_in
of_none n text read =
    cond_cases (λ (o : Option Lines). o ≡ some read → IsFile zero n text read) (is_end text) (at-end zero n text read) (λ b e. clash (cc))

of-more : (most n : ℕ) → FilesOf most n → FilesOf (suc most) n
unfolding lines_in
of-more most n h text read =
    cond_cases (λ (o : Option Lines). o ≡ some read → IsFile (suc most) n text read) (is_end text) (at-end (suc most) n text read)
    (λ _ e.
    (let a = (bind-eq-some_iff (fields_in n text) _).0 e in
    let b = (bind-eq-some_iff (line_end a.0.1) _).0 a.2 in
    let c = (bind-eq-some_iff (lines_in most n b.0) _).0 b.2 in
    let l = fields-written n text a.0 a.1 in
    let z : a.0.0 ∷ c.0 ≡ read = some-injective _ _ c.2 in
    rw (← z) (behind-line most n text a.0 l b.0 c.0 b.1 c.1 (h b.0 c.0 c.1))))

pub files-written : FilesWritten
files-written zero n = of_none n
files-written (suc most) n = of-more most n (files-written most n)

-- ---- quoting

same_count : (xs ys : List (List Written)) → contents xs ≡ contents ys → length xs ≡ length ys
same_count xs ys c = sym (length-map xs contents_of) ∙ ap length c ∙ length-map ys contents_of

-- one text is not written of two contents
one-contents : (n : ℕ) → 1 ≤ n → (e f : Bool) (xs ys : List (List Written)) → AreLines n xs → AreLines n ys → file_text e xs ≡ file_text f ys
    → contents xs ≡ contents ys
one-contents n h e f xs ys a b t =
    let most = length xs + length ys in
    let p = files-read most n h e xs a (omega arith) in
    let q = files-read most n h f ys b (omega arith) in
    some-injective _ _ (sym p ∙ ap (lines_in most n) t ∙ q)

-- what is read of one file is read of every other with the same contents: they are few, as they were read
same_read : (most n : ℕ) → 1 ≤ n → (e f : Bool) (xs ys : List (List Written)) → AreLines n xs → AreLines n ys → contents xs ≡ contents ys
    → (read : Lines) → lines_in most n (file_text e xs) ≡ some read → lines_in most n (file_text f ys) ≡ some read
same_read most n h e f xs ys a b c read p =
    let w = files-written most n (file_text e xs) read p in
    let d = sym c ∙ one-contents n h e w.ended xs w.lines a w.are-lines w.text_of in
    let s = same_count ys w.lines d in
    files-read most n h f ys b (omega (arith, w.few)) ∙ ap some (d ∙ sym w.contents-of)

pub quoting-changes-nothing : QuotingChangesNothing
unfolding roster_in
quoting-changes-nothing e f xs ys a b c =
    let same = same_read most_lines more_fields (omega arith) in
    let x = lines_in most_lines more_fields (file_text e xs) in
    let y = lines_in most_lines more_fields (file_text f ys) in
    ap (λ (o : Option Lines). bind o rows_in) (same-options x y (same e f xs ys a b c) (same f e ys xs b a (sym c)))
