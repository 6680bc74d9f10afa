-- What a mature proposal, a lapsed one, the earliest login and an unused row tell.
use Rattle.std.specs.Prelude.{◌≡◌, ◌≢◌, true, false, ℕ, ◌≤◌, length, replicate}
use mathlib.Core.List.{List, Memᴰ}
use Rattle.lists.specs.Fold.{any}
use Rattle.lists.specs.Table.{rising_from}
use Rattle.state.specs.declared.Day.{Day}
use Rattle.state.specs.declared.Notices.{Notices}
use Rattle.state.specs.declared.Subject.{Subject}
use Rattle.state.specs.declared.Proposal.{Proposal}
use Rattle.state.specs.declared.Login.{Login}
use Rattle.state.specs.Limits.{proposal_rows, login_rows}
use Rattle.state.specs.Time.{days_since, DayNotAfter}
use Rattle.state.specs.Minima.{notice_days}
use Rattle.state.specs.Rows.{no_proposal, is_proposal, no_login}
use Rattle.state.specs.WellFormed.{cycle_of}
use Rattle.tables.specs.Proposals.{proposals_full, has_proposal, valid_days, is_lapsed, drop_lapsed, is_mature}
use Rattle.tables.specs.Logins.{logins_full, is_listed, earliest_row, lacks_row}

-- A notice of a subject, where these notices are in force: a proposal of it, from as many days as its kind asks to 60 days before the announced day.
pub record IsNotice (notices : Notices) (x : Subject) (announced : Day) (r : Proposal) : Type 0 where
  pub same : r.subject ≡ x
  pub days : notice_days notices x.kind ≤ days_since announced r.day
  pub valid : days_since announced r.day ≤ valid_days

-- Where the lapsed rows are dropped, the mature ones of a subject are its notices: those, and no others.
pub record Matures (notices : Notices) (x : Subject) (d : Day) (rows : List Proposal) (r : Proposal) : Type 0 where
  pub notice : Memᴰ r (drop_lapsed d rows) → is_mature notices x d r ≡ true → Memᴰ r rows × IsNotice notices x d r
  pub mature : Memᴰ r rows → IsNotice notices x d r → Memᴰ r (drop_lapsed d rows) × (is_mature notices x d r ≡ true)

abbrev pub MatureIsNotice : Type 0
MatureIsNotice = (notices : Notices) (x : Subject) → x.kind ≢ 0 → (d : Day) (rows : List Proposal) (r : Proposal) → Matures notices x d rows r

-- Of the used rows those are left that have not lapsed.
pub record LeftAfter (d : Day) (rows : List Proposal) (r : Proposal) : Type 0 where
  pub was : Memᴰ r (drop_lapsed d rows) → Memᴰ r rows × (is_lapsed d r ≡ false)
  pub stays : Memᴰ r rows → is_lapsed d r ≡ false → Memᴰ r (drop_lapsed d rows)

abbrev pub OnlyLapsedGo : Type 0
OnlyLapsedGo = (d : Day) (rows : List Proposal) (r : Proposal) → is_proposal r ≡ true → LeftAfter d rows r

-- Where none has lapsed, the table stays as it is.
abbrev pub NoneLapsed : Type 0
NoneLapsed = (d : Day) (rows : List Proposal) → length rows ≡ proposal_rows → any (is_lapsed d) rows ≡ false → drop_lapsed d rows ≡ rows

-- Where one has lapsed, there is room.
abbrev pub LapsedMakesRoom : Type 0
LapsedMakesRoom = (d : Day) (rows : List Proposal) → length rows ≡ proposal_rows
    → (r : Proposal) → Memᴰ r rows → is_lapsed d r ≡ true → proposals_full (drop_lapsed d rows) ≡ false

-- In a table that rises by cycle, a lapsed proposal's cycle has none afterwards.
abbrev pub LapsedIsGone : Type 0
LapsedIsGone = (d : Day) (rows : List Proposal) → rising_from is_proposal cycle_of 0 rows ≡ true
    → (r : Proposal) → Memᴰ r rows → is_lapsed d r ≡ true → has_proposal r.cycle (drop_lapsed d rows) ≡ false

-- "the row with the earliest end day, the smallest login among equals"
pub record IsEarliest (rows : List Login) (r : Login) : Type 0 where
  pub listed : Memᴰ r rows
  pub ends-first : (x : Login) → Memᴰ x rows → DayNotAfter r.end x.end
  pub smallest : (x : Login) → Memᴰ x rows → x.end ≡ r.end → r.login ≤ x.login

-- A full table has it, in order or not.
abbrev pub EarliestIsFirst : Type 0
EarliestIsFirst = (rows : List Login) → logins_full rows ≡ true → IsEarliest rows (earliest_row rows)

-- "Otherwise 11 remains.": the table is full, the login is not listed, and no row is over on the announced day.
pub record NoRowFor (announced : Day) (login : ℕ) (rows : List Login) : Type 0 where
  pub full : logins_full rows ≡ true
  pub unlisted : is_listed login rows ≡ false
  pub none_over : (r : Login) → Memᴰ r rows → DayNotAfter announced r.end

pub record LacksRow (announced : Day) (login : ℕ) (rows : List Login) : Type 0 where
  pub lacks : lacks_row announced login rows ≡ true → NoRowFor announced login rows
  pub none : NoRowFor announced login rows → lacks_row announced login rows ≡ true

abbrev pub LacksRowInWords : Type 0
LacksRowInWords = (announced : Day) (login : ℕ) (rows : List Login) → LacksRow announced login rows

-- An empty table is not full.
abbrev pub EmptyIsNotFull : Type 0
EmptyIsNotFull = (proposals_full (replicate proposal_rows no_proposal) ≡ false) × (logins_full (replicate login_rows no_login) ≡ false)
