-- "What holds for notices is shown for all allowed settings together." (02, A7): how the notices of a park are set, and what that means for a proposal,
-- with or without the bound on double voters. Which notice an action had is in Notice and Restarts, over the notices of the state that it is performed
-- from.
use Rattle.std.specs.Prelude.{◌≡◌, ◌≢◌, ◌⊎◌, List, ℕ, ◌≤◌, ◌<◌}
use Rattle.state.specs.declared.Day.{Day}
use Rattle.state.specs.declared.Notices.{Notices}
use Rattle.state.specs.declared.Minima as M
use Rattle.state.specs.declared.Subject.{Subject}
use Rattle.state.specs.declared.Proposal.{Proposal}
use Rattle.state.specs.declared.State.{State}
use Rattle.state.specs.Limits.{most_notice}
use Rattle.state.specs.Time.{days_since}
use Rattle.state.specs.Minima.{set_over, notice_days}
use Rattle.records.specs.declared.Announcement.{Announcement}
use Rattle.records.specs.declared.Action.TheVariants.{Minima}
use Rattle.records.specs.Actions.{subject_of}
use Rattle.checkpoint.specs.Checkpoint.{read_checkpoint}
use Rattle.tables.specs.Claims.{IsNotice}
use Rattle.actions.specs.Perform.{perform}
use Rattle.agreement.specs.History.{History}
use Rattle.agreement.specs.Claims.{Park}
use Rattle.agreement.specs.Chain.{Step, Reached}
use Rattle.assurance.specs.Notice.{Noticed}

-- "1 to 30 days each"
pub record Allowed (x : Notices) : Type 0 where
  pub ordinary : (1 ≤ x.ordinary) × (x.ordinary ≤ most_notice)
  pub restart : (1 ≤ x.restart) × (x.restart ≤ most_notice)

-- The notices of every state of a park are within their ranges, whatever it sets.
abbrev pub AlwaysAllowed : Type 0
AlwaysAllowed = (first : List ℕ) (calls : History) → Park first calls
    → (s : State) → Reached (read_checkpoint first).state (Step calls) s → Allowed s.minima.notices

-- The announcement b, performed from u, sets the notices: it is a minima, each notice is the one that it names, or as before where it names zero, and
-- its proposal had the ordinary notice of u.
pub record SetsNotices (first : State) (calls : History) (u : State) (b : Announcement) (x : Step calls u b) : Type 0 where
  pub minima : M.Minima
  pub named : b.action ≡ Minima minima
  pub set : (perform u b).minima ≡ set_over u.minima minima
  pub noticed : Noticed first calls u b x
  pub days : u.minima.notices.ordinary ≤ days_since b.day noticed.row.day

-- Nothing else changes them.
abbrev pub NoticesAreSet : Type 0
NoticesAreSet = (first : List ℕ) (calls : History) → Park first calls
    → (u : State) (b : Announcement) (x : Step calls u b) → (perform u b).minima.notices ≢ u.minima.notices
    → SetsNotices (read_checkpoint first).state calls u b x

-- Where notices are set anew, a proposal that is younger than the old notice and than the new one, so than the smaller, is mature by neither. One that is mature by the
-- new and was not by the old is as old as the new notice, which is then the smaller.
pub record Ripens (old new : Notices) (x : Subject) (d : Day) (r : Proposal) : Type 0 where
  pub young : days_since d r.day < notice_days old x.kind → days_since d r.day < notice_days new x.kind
      → (¬ IsNotice old x d r) × (¬ IsNotice new x d r)
  pub ripened : IsNotice new x d r → ¬ IsNotice old x d r
      → (notice_days new x.kind < notice_days old x.kind) × (notice_days new x.kind ≤ days_since d r.day)

abbrev pub SettingsRipen : Type 0
SettingsRipen = (old new : Notices) (x : Subject) (d : Day) (r : Proposal) → Ripens old new x d r

-- Between two states of a chain a minima shortened the notice of this kind, with the ordinary notice in force before it.
pub record Shortened (first : State) (calls : History) (s u : State) (kind : ℕ) : Type 0 where
  pub from : State
  pub setting : Announcement
  pub step : Step calls from setting
  pub after : Reached s (Step calls) from
  pub before : Reached (perform from setting) (Step calls) u
  pub shorter : notice_days (perform from setting).minima.notices kind < notice_days from.minima.notices kind
  pub sets : SetsNotices first calls from setting step

-- What an owner who has seen the state s can rely on: an action that is performed later was announced at least the notice of s before, or the notice was
-- shortened since, by a minima that had its own notice.
abbrev pub WarnedUnlessShortened : Type 0
WarnedUnlessShortened = (first : List ℕ) (calls : History) → Park first calls
    → (s u : State) → Reached s (Step calls) u → (b : Announcement) (x : Step calls u b)
    → (n : Noticed (read_checkpoint first).state calls u b x)
    → (notice_days s.minima.notices (subject_of b.action).kind ≤ days_since b.day n.row.day)
    ⊎ Shortened (read_checkpoint first).state calls s u (subject_of b.action).kind
