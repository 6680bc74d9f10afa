-- The lines of rows are read as those rows.
use Prim.Native.Nat.{ℕ, suc, ◌^◌, ◌≤◌, ◌<◌}
use native.Mathlib.Omega.{arith}
use mathlib.Core.Path.{◌≡◌, refl, ap, ◌∙◌}
use mathlib.Core.Bool.{true, false}
use mathlib.Core.List.{List, [], ◌∷◌, ◌++◌, map, append_assoc, append-nil}
use mathlib.Core.Option.{some, bind}
use lib.ListN.{length, length-map}
use lib.Dec.{ltb}
use borrow.Author.Tests.{ltb-true, le-leb}
use Rattle.lists.specs.Fold.{all}
use Rattle.lists.proofs.Tests.{cond_cases}
use Rattle.lists.proofs.Every.{All, none, more}
use Rattle.lists.proofs.Members.{all_in, all-members, of_map}
use Rattle.decimal.specs.Decimal.{decimal}
use Rattle.calendar.specs.Text.{last_day, day_text}
use Rattle.calendar.proofs.Texts.{day-read-back}
use Rattle.state.specs.declared.Cycle.{Cycle}
use Rattle.state.specs.declared.Day.{Day}
use Rattle.state.specs.declared.Login.{Login}
use Rattle.state.specs.Time.{last_cycle, next_cycle}
use Rattle.records.specs.declared.Action.TheVariants.{Grant}
use Rattle.records.specs.Announcement.{read_announcement, announcement_bytes}
use Rattle.records.specs.Claims.{ActionInRange, AnnouncementInRange}
use Rattle.records.proofs.Ranges.{announcements-in-range}
use Rattle.records.proofs.AnnouncementsBack.{announcements-read-back}
use Rattle.roster.specs.Csv.{carriage_return, line_feed}
use Rattle.roster.specs.Fields.{rights_digits, hex_text}
use Rattle.roster.specs.Written.{Written, is_written, fields_text, file_text, contents, AreLines}
use Rattle.roster.specs.Roster.{most_lines, more_fields, row_in, rows_in, roster_in, line_of}
use Rattle.roster.specs.Calls.{grant_of, grants_of, imported, granted_by, exported}
use Rattle.roster.specs.Claims.{IsRow, AreRows, ReadAgain, ExportsReadAgain, lines_of, exports, ExportsGivenBack}
use Rattle.roster.proofs.FieldTexts.{login-back, rights-back, login-plain, day-plain, rights-plain}
use Rattle.roster.proofs.Quoting.{field_of}
use Rattle.roster.proofs.Files.{files-read}

-- ---- one line

abbrev fields_of : Login → List (List ℕ)
fields_of r = decimal r.login ∷ day_text r.end.0 ∷ hex_text rights_digits r.rights ∷ []

abbrev written_line : Login → List Written
written_line r = map (field_of false) (fields_of r)

line-written : (r : Login) → all is_written (written_line r) ≡ true
unfolding all
line-written r = rw (login-plain r.login, day-plain r.end.0, rights-plain r.rights)

-- the line, and a text behind it
abbrev ended : Login → List ℕ → List ℕ
ended r rest = fields_text (written_line r) ++ (carriage_return ∷ line_feed ∷ rest)

line-of : (r : Login) (rest : List ℕ) → line_of r ++ rest ≡ ended r rest
unfolding line_of fields_text
line-of r rest = simp append_assoc

row_back : (r : Login) → IsRow r → row_in (fields_of r) ≡ some r
unfolding bind
row_back r h =
    rw (
      login-back r.login h.login.0 h.login.1,
      (day-read-back r.end.0 h.end).read,
      rights-back r.rights h.rights.0 h.rights.1,
    )

-- ---- all lines

abbrev written_lines : List Login → List (List Written)
written_lines rs = map written_line rs

-- the lines of rows are a file by the rules
are-lines : (rs : List Login) → AreLines more_fields (written_lines rs)
are-lines rs = record {
  sizes = of_map written_line (λ l. length l ≡ suc more_fields) rs (λ r m. refl);
  written = of_map written_line (λ l. all is_written l ≡ true) rs (λ r m. line-written r);
}

file-of : (rs : List Login) → lines_of rs ≡ file_text true (written_lines rs)
unfolding lines_of file_text
file-of [] = refl
file-of (r ∷ []) = line-of r []
file-of (r ∷ s ∷ rs) = line-of r (lines_of (s ∷ rs)) ∙ ap (ended r) (file-of (s ∷ rs))

rows_back : {rs : List Login} → All IsRow rs → rows_in (contents (written_lines rs)) ≡ some rs
unfolding rows_in bind
rows_back none = refl
rows_back (more {x = r} h t) = rw (row_back r h, rows_back t)

roster-back : (rs : List Login) → AreRows rs → roster_in (lines_of rs) ≡ some rs
unfolding roster_in bind
roster-back rs h =
    let few : length (written_lines rs) ≤ most_lines = rw length-map h.few in
    rw (file-of rs, files-read most_lines more_fields (omega arith) true (written_lines rs) (are-lines rs) few)
    (rows_back (all-members rs h.each))

-- ---- one grant

pub read_again : (b : List ℕ) (r : Login) → granted_by (read_announcement b) ≡ some r → IsRow r → ReadAgain b r
unfolding exported lines_of bind
read_again b r e h =
    let row : AreRows (r ∷ []) = record { few = omega arith; each = λ x m. all_in {P = IsRow} (more h none) m } in
    record {
      line = rw (e, le-leb r.end.0 last_day h.end);
      said = rw append-nil at (roster-back (r ∷ []) row);
    }

-- ---- all grants

grant-exported : (r : Login) → IsRow r → (c : Cycle) (d : Day) → c.0 < 2 ^ 32 → d.0 < 2 ^ 32
    → exported (announcement_bytes (grant_of c d r)) ≡ some (line_of r)
grant-exported r h c d hc hd =
    let range : AnnouncementInRange (grant_of c d r) = record { cycle = hc; day = hd; action = omega (arith, h.login, h.end, h.rights) } in
    let read = announcements-read-back (grant_of c d r) range in
    (read_again (announcement_bytes (grant_of c d r)) r (rw read) h).line

-- the next cycle has 32 bits too
next-below : (c : Cycle) → c.0 < 2 ^ 32 → (next_cycle c).0 < 2 ^ 32
next-below c h = cond_cases (λ (x : Cycle). x.0 < 2 ^ 32) (ltb c.0 last_cycle.0)
    (λ t. (let l : c.0 < 4294967295 = ltb-true c.0 4294967295 t in omega arith)) (λ _. h)

grants-exported : {rs : List Login} → All IsRow rs → (c : Cycle) (d : Day) → c.0 < 2 ^ 32 → d.0 < 2 ^ 32
    → exports (grants_of c d rs) ≡ some (lines_of rs)
unfolding exports grants_of lines_of bind
grants-exported none c d hc hd = refl
grants-exported (more {x = r} h t) c d hc hd = rw (grant-exported r h c d hc hd, grants-exported t (next_cycle c) d (next-below c hc) hd)

pub exports-given-back : ExportsGivenBack
unfolding imported bind
exports-given-back rs h c d hc hd l =
    let said = roster-back rs h in
    record { lines = grants-exported (all-members rs h.each) c d hc hd; said = said; grants = rw (said, le-leb _ _ l) }

pub exports-read-again : ExportsReadAgain
exports-read-again b a r h e g l =
    let t : ActionInRange (Grant r) = rw g at (announcements-in-range b a h e).1.action in
    read_again b r (rw (e, g)) (record { login = (t.0, t.1); end = l; rights = (t.3, t.4) })
