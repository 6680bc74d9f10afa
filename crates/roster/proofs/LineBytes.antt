-- What an export answers, in each of its cases.
use Prim.Native.Nat.{ℕ, ◌≤◌, ◌<◌}
use native.Mathlib.Omega.{arith}
use mathlib.Core.Path.{◌≡◌, refl}
use mathlib.Core.List.{List}
use mathlib.Core.Option.{none, bind}
use lib.ListN.{length}
use borrow.Author.Tests.{le-leb, lt-leb}
use Rattle.refusals.specs.declared.Refusal.TheVariants.{BadRoster}
use Rattle.decimal.specs.Decimal.{decimal}
use Rattle.decimal.proofs.Stored.{length-below}
use Rattle.calendar.specs.Text.{last_day}
use Rattle.state.specs.declared.Login.{Login}
use Rattle.records.specs.declared.Announcement.{Announcement}
use Rattle.records.specs.declared.Action.{Action}
use Rattle.records.specs.declared.Action.TheVariants.{Propose, Cancel, Presents, Certify, Minima, Remove, Rejoin, Grant, End}
use Rattle.std.specs.Prelude.{Some, None}
use Rattle.records.specs.Announcement.{read_announcement}
use Rattle.roster.specs.Roster.{line_of}
use Rattle.roster.specs.Calls.{refused, give, granted, exported, export_of}

-- a login has at most ten digits
pub login_size : (x : ℕ) → x < 4294967296 → length (decimal x) ≤ 10
login_size x h = length-below 10 x (omega arith) (omega arith) (omega arith)

no_row : (x : Action) → ((r : Login) → x ≡ Grant r → ⊥) → granted x ≡ none
no_row (Propose x) n = refl
no_row (Cancel c) n = refl
no_row (Presents i flag) n = refl
no_row (Certify i life) n = refl
no_row (Minima x) n = refl
no_row (Remove i) n = refl
no_row (Rejoin i life) n = refl
no_row (Grant r) n = absurd (n r refl)
no_row (End login) n = refl

module _ (b out : List ℕ) where
  pub not_read : read_announcement b ≡ None → export_of b out ≡ refused BadRoster out
  unfolding export_of exported bind
  not_read e = rw e

  module _ (a : Announcement) (e : read_announcement b ≡ Some a) where
    pub not_granted : ((r : Login) → a.action ≡ Grant r → ⊥) → export_of b out ≡ refused BadRoster out
    unfolding export_of exported bind
    not_granted n = rw (e, no_row a.action n)

    module _ (r : Login) (g : a.action ≡ Grant r) where
      pub too_late : last_day < r.end.0 → export_of b out ≡ refused BadRoster out
      unfolding export_of exported bind
      too_late h = rw (e, g, lt-leb r.end.0 last_day h)

      pub in_time : r.end.0 ≤ last_day → export_of b out ≡ give (length (line_of r)) (line_of r) out
      unfolding export_of exported bind
      in_time h = rw (e, g, le-leb r.end.0 last_day h)

-- what an export answers, in each case
pub ruleset export_cases = (not_read, not_granted, too_late, in_time)
