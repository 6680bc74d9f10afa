-- The access page of document 01's run, and the edges of its words and dates.
use Rattle.std.specs.Prelude.{◌≡◌, List, [], ◌∷◌, ◌++◌, map, ℕ, replicate}
use Rattle.std.proofs.Math.Option.{none, some}
use Rattle.calendar.specs.Calendar.{date, day_of}
use Rattle.state.specs.Time.{day, later_day}
use Rattle.tables.specs.Logins.{find_login}
use Rattle.page.specs.declared.Word.{Word}
use Rattle.page.specs.declared.Word.TheVariants.{Open, Ended, Silent}
use Rattle.page.specs.Page.{word_of, end_shown, is_silent_on, page_text}
use Rattle.node.specs.PageAnswer.{Given}
use Rattle.node.specs.Page.{page_of, page_slice}
use Rattle.examples.specs.TableOfNo.{first_state, full_logins, started, granted}

-- `       501 1970-05-01 A--------------- open   ` and a line feed, in ASCII, column by column
abbrev pub line501 : List ℕ
line501 =
    32 ∷ 32 ∷ 32 ∷ 32 ∷ 32 ∷ 32 ∷ 32 ∷ 53 ∷ 48 ∷ 49 ∷ 32 ∷
    49 ∷ 57 ∷ 55 ∷ 48 ∷ 45 ∷ 48 ∷ 53 ∷ 45 ∷ 48 ∷ 49 ∷ 32 ∷
    65 ∷ 45 ∷ 45 ∷ 45 ∷ 45 ∷ 45 ∷ 45 ∷ 45 ∷ 45 ∷ 45 ∷ 45 ∷ 45 ∷ 45 ∷ 45 ∷ 45 ∷ 45 ∷ 32 ∷
    111 ∷ 112 ∷ 101 ∷ 110 ∷ 32 ∷ 32 ∷ 32 ∷ 10 ∷
    []

-- the word of login 501, which ends on day 120, at the node of document 01's run, whose agreed day is 101 and S 30
abbrev pub word_on : ℕ → Word
word_on d =
    let s = granted.state in
    word_of (is_silent_on s (day d)) (later_day (day d) s.day) (find_login 501 s.logins)

pub record PageExamples : Type 0 where
  -- "Login 501 of document 01's run on day 120 reads"
  pub line-501 : page_text granted.state (day 120) ≡ line501
  -- "a longer slice keeps its tail"; one that is just long enough is filled
  pub tail-kept : page_slice granted (day 120) (replicate 49 0) ≡ line501 ++ (0 ∷ 0 ∷ [])
  pub exact : page_slice granted (day 120) (replicate 47 0) ≡ line501
  -- "It gives the number of lines": one, 64, and none into any slice
  pub one_line : (page_of granted (replicate 47 0)).answer ≡ Given 1
  pub full-list : (page_of (started full_logins) (replicate 3008 0)).answer ≡ Given 64
  pub empty-list : (page_of (started first_state) []).answer ≡ Given 0
  -- before the agreed day, on the end day and the day after it, at S days after the agreed day and the day after that
  pub words : map word_on (0 ∷ 120 ∷ 121 ∷ 131 ∷ 132 ∷ []) ≡ Open ∷ Open ∷ Ended ∷ Ended ∷ Silent ∷ []
  -- the last days of February and the first of March in 1970 and 1972, the leap day of 2000, and the last date
  pub dates :
      map day_of
      (date 1970 1 1 ∷ date 1970 2 28 ∷ date 1970 3 1 ∷ date 1972 2 28 ∷ date 1972 2 29 ∷ date 1972 3 1 ∷ date 2000 2 29 ∷ date 2099 12 31 ∷ [])
      ≡ 0 ∷ 58 ∷ 59 ∷ 788 ∷ 789 ∷ 790 ∷ 11016 ∷ 47481 ∷ []
  -- "End days after 47481 (2099-12-31) print as ten hyphens."
  pub last-date : end_shown (day 47481) ≡ some 47481
  pub after_last : end_shown (day 47482) ≡ none
