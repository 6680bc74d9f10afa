-- A roster with a quoted line, its grants, the line of a grant, and the edges of lines, fields and cycles.
use Rattle.std.specs.Prelude.{◌≡◌, List, [], ◌∷◌, ◌++◌, map, ℕ, zero, suc, replicate, Result, Ok, Err}
use Rattle.std.proofs.Math.Option.{some}
use Rattle.state.specs.declared.Login.{Login}
use Rattle.state.specs.Time.{day, cycle}
use Rattle.records.specs.declared.Action.TheVariants.{Grant, End}
use Rattle.refusals.specs.declared.Refusal.{Refusal}
use Rattle.refusals.specs.declared.Refusal.TheVariants.{BadRoster, NoRosterRoom}
use Rattle.refusals.specs.Refusals.{number_of}
use Rattle.roster.specs.Roster.{roster_in}
use Rattle.roster.specs.Calls.{import_of, export_of}
use Rattle.examples.specs.Records.{announce}

-- ---- characters, in ASCII

-- 501, 1970-05-01 and 0001
abbrev pub login501 : List ℕ
login501 = 53 ∷ 48 ∷ 49 ∷ []

abbrev pub may1970 : List ℕ
may1970 = 49 ∷ 57 ∷ 55 ∷ 48 ∷ 45 ∷ 48 ∷ 53 ∷ 45 ∷ 48 ∷ 49 ∷ []

abbrev pub right0 : List ℕ
right0 = 48 ∷ 48 ∷ 48 ∷ 49 ∷ []

-- 2099-12-31, 1972-02-29, 1973-02-29 and 2100-01-01
abbrev pub last_date : List ℕ
last_date = 50 ∷ 48 ∷ 57 ∷ 57 ∷ 45 ∷ 49 ∷ 50 ∷ 45 ∷ 51 ∷ 49 ∷ []

abbrev pub leap_day : List ℕ
leap_day = 49 ∷ 57 ∷ 55 ∷ 50 ∷ 45 ∷ 48 ∷ 50 ∷ 45 ∷ 50 ∷ 57 ∷ []

abbrev pub no_leap_day : List ℕ
no_leap_day = 49 ∷ 57 ∷ 55 ∷ 51 ∷ 45 ∷ 48 ∷ 50 ∷ 45 ∷ 50 ∷ 57 ∷ []

abbrev pub after_last : List ℕ
after_last = 50 ∷ 49 ∷ 48 ∷ 48 ∷ 45 ∷ 48 ∷ 49 ∷ 45 ∷ 48 ∷ 49 ∷ []

-- 4294967295 and 4294967296
abbrev pub last_login : List ℕ
last_login = 52 ∷ 50 ∷ 57 ∷ 52 ∷ 57 ∷ 54 ∷ 55 ∷ 50 ∷ 57 ∷ 53 ∷ []

abbrev pub after_last_login : List ℕ
after_last_login = 52 ∷ 50 ∷ 57 ∷ 52 ∷ 57 ∷ 54 ∷ 55 ∷ 50 ∷ 57 ∷ 54 ∷ []

-- ffFF
abbrev pub all_rights : List ℕ
all_rights = 102 ∷ 102 ∷ 70 ∷ 70 ∷ []

abbrev pub cr_lf : List ℕ
cr_lf = 13 ∷ 10 ∷ []

abbrev pub quoted : List ℕ → List ℕ
quoted f = 34 ∷ (f ++ (34 ∷ []))

-- fields with commas between
abbrev pub line : List ℕ → List ℕ → List ℕ → List ℕ
line l e r = l ++ (44 ∷ (e ++ (44 ∷ r)))

abbrev pub line501 : List ℕ
line501 = line login501 may1970 right0

-- 501,1970-05-01,0001 and then 4294967295,"2099-12-31",ffFF without a line end
abbrev pub two_lines : List ℕ
two_lines = line501 ++ (cr_lf ++ line last_login (quoted last_date) all_rights)

-- that many lines
unfoldable pub copies : ℕ → List ℕ
copies zero = []
copies (suc n) = line501 ++ (cr_lf ++ copies n)

-- ---- what is said

abbrev pub row501 : Login
row501 = record { login = 501; end = day 120; rights = 1 }

abbrev pub last_row : Login
last_row = record { login = 4294967295; end = day 47481; rights = 65535 }

-- the answer to a text for a cycle, with room for all
abbrev pub answer_in : List ℕ → ℕ → Result ℕ Refusal
answer_in text c = (import_of text (cycle c) (day 101) (replicate 1536 0)).answer

abbrev pub answer_to : List ℕ → Result ℕ Refusal
answer_to text = answer_in text 7

pub record RosterExamples : Type 0 where
  -- either case of hexadecimal digits, a quoted field, no last line end
  pub read : roster_in two_lines ≡ some (row501 ∷ last_row ∷ [])
  -- "cycles rising by one from a given one", "a longer one keeps its tail"
  pub grants : import_of two_lines (cycle 7) (day 101) (replicate 49 0)
      ≡ record { answer = Ok 2; slice = announce 7 101 (Grant row501) ++ (announce 8 101 (Grant last_row) ++ (0 ∷ [])) }
  -- the numbers of the two rows
  pub rows : map number_of (BadRoster ∷ NoRosterRoom ∷ []) ≡ 24 ∷ 25 ∷ []
  -- "24 comes before 25."
  pub too_short : (import_of two_lines (cycle 7) (day 101) (replicate 47 0)).answer ≡ Err NoRosterRoom
  pub malformed-first : (import_of cr_lf (cycle 7) (day 101) []).answer ≡ Err BadRoster
  -- "An empty file has no lines.", in any cycle; "cycles running past 4294967294"
  pub empty : answer_in [] 4294967295 ≡ Ok 0
  pub cycles : map (answer_in line501) (0 ∷ 4294967294 ∷ 4294967295 ∷ []) ≡ Ok 1 ∷ Ok 1 ∷ Err BadRoster ∷ []
  -- "up to 64 lines"
  pub lines : map (λ n. answer_to (copies n)) (63 ∷ 64 ∷ 65 ∷ []) ≡ Ok 63 ∷ Ok 64 ∷ Err BadRoster ∷ []
  -- ten digits with zeros in front, every field quoted, a leap day
  pub accepted :
      map answer_to
      (line (replicate 7 48 ++ login501) may1970 right0
      ∷ line (quoted login501) (quoted may1970) (quoted right0)
      ∷ line login501 leap_day right0
      ∷ [])
      ≡ replicate 3 (Ok 1)
  -- lines: CR LF alone, an LF and a CR without the other, two fields and four
  pub refused-lines :
      map answer_to (cr_lf ∷ (line501 ++ (10 ∷ [])) ∷ (line501 ++ (13 ∷ [])) ∷ (login501 ++ (44 ∷ may1970)) ∷ (line501 ++ (44 ∷ [])) ∷ [])
      ≡ replicate 5 (Err BadRoster)
  -- quoting: no last quote, something behind it, a quote in a field
  pub refused-quotes :
      map (λ l. answer_to (line l may1970 right0)) ((34 ∷ login501) ∷ (quoted login501 ++ (32 ∷ [])) ∷ quoted (34 ∷ 34 ∷ login501) ∷ [])
      ≡ replicate 3 (Err BadRoster)
  -- logins: none, 0, 4294967296, eleven digits, a space in front
  pub refused-logins :
      map (λ l. answer_to (line l may1970 right0)) ([] ∷ (48 ∷ []) ∷ after_last_login ∷ (replicate 8 48 ++ login501) ∷ (32 ∷ login501) ∷ [])
      ≡ replicate 5 (Err BadRoster)
  -- dates and rights: a leap day of another year, 2100-01-01, zero, three digits and five
  pub refused-values :
      map answer_to
      (line login501 no_leap_day right0
      ∷ line login501 after_last right0
      ∷ line login501 may1970 (replicate 4 48)
      ∷ line login501 may1970 (48 ∷ 48 ∷ 49 ∷ [])
      ∷ line login501 may1970 (48 ∷ right0)
      ∷ [])
      ≡ replicate 5 (Err BadRoster)
  -- "A grant exports as one line .. ended by CR LF, and gives its length"
  pub exports : export_of (announce 7 101 (Grant row501)) (replicate 22 0) ≡ record { answer = Ok 21; slice = line501 ++ (13 ∷ 10 ∷ 0 ∷ []) }
  pub no_room : (export_of (announce 7 101 (Grant row501)) (replicate 20 0)).answer ≡ Err NoRosterRoom
  -- "anything but a well-formed grant ending by 2099-12-31"
  pub no-grant : (export_of (announce 7 101 (End 501)) []).answer ≡ Err BadRoster
  pub too-late : (export_of (announce 7 101 (Grant (record { login = 501; end = day 47482; rights = 1 }))) []).answer ≡ Err BadRoster
