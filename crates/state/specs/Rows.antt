-- A row of a table: "Unused rows are zero." The key of an unused row is 0, so a table needs no count.
use Rattle.std.specs.Prelude.{ℕ, ◌/◌, ◌%◌, ◌^◌, Bool, not, eqb, ltb}
use Rattle.state.specs.declared.Day.{Day}
use Rattle.state.specs.declared.Proposal.{Proposal}
use Rattle.state.specs.declared.Login.{Login}
use Rattle.state.specs.Time.{day, cycle, is_before_day, days_since}
use Rattle.state.specs.Subjects.{no_subject}

abbrev pub no_proposal : Proposal
no_proposal = record { cycle = cycle 0; day = day 0; subject = no_subject }

abbrev pub is_proposal : Proposal → Bool
is_proposal r = not (eqb r.subject.kind 0)

abbrev pub no_login : Login
no_login = record { login = 0; end = day 0; rights = 0 }

abbrev pub is_login : Login → Bool
is_login r = not (eqb r.login 0)

-- "t after end day", where t is "the later of given and agreed day"
abbrev pub is_ended : Day → Login → Bool
is_ended t r = is_before_day r.end t

-- "t minus agreed day above S"
abbrev pub is_silent : Day → ℕ → Day → Bool
is_silent agreed S t = ltb S (days_since t agreed)

-- bit `right` of the rights is 1
abbrev pub is_held : ℕ → ℕ → Bool
is_held right rights = eqb (rights / 2 ^ right % 2) 1

-- "right 1 (0 to 15)" of the login's 16 rights
abbrev pub holds_right : ℕ → Login → Bool
holds_right right r = is_held right r.rights
