-- What an office can rely on in an access page. No claim asks for a running or an unlocked node, but where it speaks of a query.
use Rattle.std.specs.Prelude.{◌≡◌, ◌≢◌, true, ℕ, ◌≤◌, ◌<◌, Some}
use mathlib.Core.List.{List, map, Memᴰ}
use Rattle.std.proofs.Math.Option.{Option}
use Rattle.binary.specs.Codec.{decode_rows}
use Rattle.state.specs.declared.Day.{Day}
use Rattle.state.specs.declared.Login.{Login}
use Rattle.state.specs.declared.State.{State}
use Rattle.state.specs.Time.{later_day}
use Rattle.state.specs.Seats.{retired}
use Rattle.state.specs.Rows.{holds_right}
use Rattle.state.specs.WellFormed.{are_well_formed_logins}
use Rattle.tables.specs.Logins.{is_listed, find_login}
use Rattle.page.specs.declared.Word.{Word}
use Rattle.page.specs.declared.Word.TheVariants.{Open, Ended, Silent}
use Rattle.page.specs.Line.{Line, line}
use Rattle.page.specs.Page.{end_shown, line_of, listed, line_count, is_silent_on, page_text}
use Rattle.records.specs.declared.Query.{Query}
use Rattle.records.specs.StartQuery.{read_query}
use Rattle.checkpoint.specs.Checkpoint.{Fits}
use Rattle.verdicts.specs.Own.{held_seat}
use Rattle.verdicts.specs.Attempts.{most_misses, misses_at}
use Rattle.node.specs.declared.Node.{Node}
use Rattle.node.specs.Answers.{query_number}
use Rattle.node.specs.Query.{query_of}
use Rattle.node.specs.Page.{page_of, page_slice}
use Rattle.agreement.specs.History.{History}
use Rattle.agreement.specs.Claims.{HeldIn, Park, EquivocationBound}

-- what the page of a given day says of a row of the state
abbrev pub line_in : State → Day → Login → Line
line_in s given r = line_of (is_silent_on s given) (later_day given s.day) r

-- ---- "The last word must agree with what rules 18 and 20 give for the given day."

-- what a query answers where the line has this word
abbrev pub number_of : Word → ℕ
number_of Open = 0
number_of Silent = 18
number_of Ended = 20

-- For a node that is not halted, has no count above 10 and is not locked at the door, a listed login, a right that its row holds and every day, the
-- query answers open, 18 or 20 exactly where the login's line has the word open, silent or ended.
abbrev pub WordAgrees : Type 0
WordAgrees = (n : Node) (qb : List ℕ) (q : Query) → read_query qb ≡ Some q
    → ((door : ℕ) → misses_at door n.counts ≤ most_misses)
    → (held_seat n.state n.own).standing ≢ retired → misses_at q.door n.counts < most_misses
    → is_listed q.login n.state.logins ≡ true → holds_right q.right (find_login q.login n.state.logins) ≡ true
    → query_number (query_of n qb).answer ≡ number_of (line_in n.state q.day (find_login q.login n.state.logins)).word

-- The row that a query finds is a row of the page, and in a well-formed list each row of the page is the one that a query for its login finds.
pub record RowsAreFound (rows : List Login) : Type 0 where
  pub shown : (login : ℕ) → is_listed login rows ≡ true → Memᴰ (find_login login rows) (listed rows)
  pub found : are_well_formed_logins rows ≡ true → (r : Login) → Memᴰ r (listed rows) → find_login r.login rows ≡ r

abbrev pub PageRowsAreFound : Type 0
PageRowsAreFound = (rows : List Login) → RowsAreFound rows

-- ---- what the page shows can be read back

-- The characters of a page are read as its lines, one for each login, in their order.
abbrev pub PageReadBack : Type 0
PageReadBack = (s : State) → Fits s → (given : Day)
    → decode_rows line (line_count s) (page_text s given) ≡ map (line_in s given) (listed s.logins)

-- what a line shows of its row on every day: an end day after 2099 is not told
pub record Shown : Type 0 where
  pub login : ℕ
  pub end : Option ℕ
  pub rights : ℕ

abbrev pub shown_of : Login → Shown
shown_of r = record { login = r.login; end = end_shown r.end; rights = r.rights }

-- So two states with the same page have the same list, up to end days after 2099.
abbrev pub SamePageSameList : Type 0
SamePageSameList = (s u : State) → Fits s → Fits u → (d e : Day) → page_text s d ≡ page_text u e
    → map shown_of (listed s.logins) ≡ map shown_of (listed u.logins)

-- ---- nodes

-- A page never changes the node.
abbrev pub PageKeepsNode : Type 0
PageKeepsNode = (n : Node) (out : List ℕ) → (page_of n out).node ≡ n

-- Two nodes of equal cycle, of a list within the bound, give the same page for the same day.
pub record SamePage (n k : Node) (given : Day) (out : List ℕ) : Type 0 where
  pub text : page_text n.state given ≡ page_text k.state given
  pub answer : (page_of n out).answer ≡ (page_of k out).answer
  pub slice : page_slice n given out ≡ page_slice k given out

abbrev pub PagesAgree : Type 0
PagesAgree = (first : List ℕ) (calls : History) → Park first calls → EquivocationBound calls
    → (n k : HeldIn calls) → n.node.state.cycle ≡ k.node.state.cycle
    → (given : Day) (out : List ℕ) → SamePage n.node k.node given out
