-- What a performed announcement leaves, and what the rules ask for before one is.
use Rattle.std.specs.Prelude.{◌≡◌, ◌≢◌, ◌⊎◌, true, false, cond, ℕ, suc, ◌-◌, ◌≤◌, ◌<◌, get_or}
use mathlib.Core.List.{Memᴰ}
use Rattle.state.specs.declared.Day.{Day}
use Rattle.state.specs.declared.Proposal.{Proposal}
use Rattle.state.specs.declared.Login.{Login}
use Rattle.state.specs.declared.State.{State}
use Rattle.state.specs.Limits.{proposal_rows, login_rows}
use Rattle.state.specs.Time.{days_since, DayNotAfter}
use Rattle.state.specs.Seats.{free, certified, present, seat_at, is_active, present_seats, quorum}
use Rattle.state.specs.Rows.{no_proposal, is_proposal, no_login, is_login}
use Rattle.state.specs.WellFormed.{cycle_of, is_well_formed}
use Rattle.tables.specs.Proposals.{proposals_full, has_proposal, valid_days, is_lapsed}
use Rattle.tables.specs.Logins.{is_listed, lacks_row}
use Rattle.tables.specs.Claims.{IsNotice}
use Rattle.records.specs.declared.Announcement.{Announcement}
use Rattle.records.specs.declared.Action.{Action}
use Rattle.records.specs.declared.Action.TheVariants.{Propose, Cancel, Presents, Certify, Minima, Remove, Rejoin, Grant, End}
use Rattle.records.specs.Actions.{kind_of, level_of, subject_of}
use Rattle.records.specs.Claims.{AnnouncementInRange}
use Rattle.checkpoint.specs.Checkpoint.{Fits}
use Rattle.rules.specs.Rules.{is_signed, time_refusal, action_refusal}
use Rattle.actions.specs.Perform.{without_lapsed, perform}

-- a state as memory can hold it, and well formed
pub record WellFormed (s : State) : Type 0 where
  pub fits : Fits s
  pub well-formed : is_well_formed s ≡ true

-- none of the rules 4 to 14 applies to the announcement in this state, with these masks; the lapsed proposals are dropped before
pub record Admitted (s : State) (a : Announcement) (mask1 mask2 : ℕ) : Type 0 where
  pub time : time_refusal s.cycle s.day a ≡ 0
  pub action : action_refusal (without_lapsed a.day s) a.day mask1 mask2 a.action ≡ 0

-- Where no rule applies, the state that an announcement leaves is well formed again.
abbrev pub KeepsWellFormed : Type 0
KeepsWellFormed = (s : State) (a : Announcement) (mask1 mask2 : ℕ) → WellFormed s → AnnouncementInRange a → Admitted s a mask1 mask2 → WellFormed
    (perform s a)

-- It is in the next cycle, on the announced day, which is not before the agreed one.
pub record Advances (s : State) (a : Announcement) : Type 0 where
  pub this : a.cycle ≡ s.cycle
  pub next : (perform s a).cycle.0 ≡ suc s.cycle.0
  pub day : (perform s a).day ≡ a.day
  pub not-before : DayNotAfter s.day a.day

abbrev pub AlwaysAdvances : Type 0
AlwaysAdvances = (s : State) (a : Announcement) → WellFormed s → time_refusal s.cycle s.day a ≡ 0 → Advances s a

-- A seat that is not free is not freed.
abbrev pub NeverFrees : Type 0
NeverFrees = (s : State) (a : Announcement) (i : ℕ) → (seat_at i s.seats).standing ≢ free → (seat_at i (perform s a).seats).standing ≢ free

-- An ended login is not listed.
abbrev pub EndDrops : Type 0
EndDrops = (s : State) (a : Announcement) (login : ℕ) → a.action ≡ End login → is_listed login (perform s a).logins ≡ false

-- A login that is listed afterwards and was not before has been granted.
pub record IsGrantOf (login : ℕ) (a : Announcement) : Type 0 where
  pub row : Login
  pub grants : a.action ≡ Grant row
  pub named : row.login ≡ login

abbrev pub OnlyGrantAdds : Type 0
OnlyGrantAdds = (s : State) (a : Announcement) (login : ℕ) → is_listed login s.logins ≡ false → is_listed login (perform s a).logins ≡ true
    → IsGrantOf login a

-- ---- what the rules ask for

-- "Kinds 4, 5 and 6 need more than half of level 2, the others more than half of level 1."
abbrev pub Signed : State → ℕ → ℕ → Action → Type 0
Signed s mask1 mask2 x = is_signed s (level_of (kind_of x)) mask1 mask2 ≡ true

abbrev pub AlwaysSigned : Type 0
AlwaysSigned = (s : State) (a : Announcement) (mask1 mask2 : ℕ) → Admitted s a mask1 mask2 → Signed s mask1 mask2 a.action

-- the notice that an announced action with a subject uses up
pub record UsesNotice (s : State) (a : Announcement) : Type 0 where
  pub proposal : Proposal
  -- it is listed, and a notice by those in force before the action
  pub listed : Memᴰ proposal s.proposals
  pub notice : IsNotice s.minima.notices (subject_of a.action) a.day proposal
  -- "of lowest cycle"
  pub lowest : (r : Proposal) → Memᴰ r s.proposals → IsNotice s.minima.notices (subject_of a.action) a.day r
      → cycle_of proposal ≤ cycle_of r
  -- this row is gone, and each other stays that has not lapsed
  pub gone : ¬ Memᴰ proposal (perform s a).proposals
  pub others : (r : Proposal) → Memᴰ r s.proposals → is_proposal r ≡ true → r ≢ proposal → is_lapsed a.day r ≡ false
      → Memᴰ r (perform s a).proposals

-- An action that has a subject uses up such a notice.
abbrev pub AlwaysNotified : Type 0
AlwaysNotified = (s : State) (a : Announcement) (mask1 mask2 : ℕ) → WellFormed s → Admitted s a mask1 mask2 → (subject_of a.action).kind ≢ 0
    → UsesNotice s a

-- After a performed announcement no proposal has lapsed on its day: none is older than 60 days.
abbrev pub NoneOlder : Type 0
NoneOlder = (s : State) (a : Announcement) (r : Proposal) → Memᴰ r (perform s a).proposals → is_proposal r ≡ true
    → days_since (perform s a).day r.day ≤ valid_days

-- what else an admitted action of each kind found in the state that it saw
abbrev pub Found : State → Day → Action → Type 0
Found s d (Propose x) = proposals_full s.proposals ≡ false
Found s d (Cancel c) = has_proposal c s.proposals ≡ true
Found s d (Presents i flag) = (seat_at i s.seats).standing ≡ cond flag certified present
Found s d (Certify i life) = (seat_at i s.seats).standing ≡ free
Found s d (Minima x) = quorum (present_seats s.seats) x.margin x.least ≤ present_seats s.seats
Found s d (Remove i) = is_active (seat_at i s.seats) ≡ true
Found s d (Rejoin i life) = (is_active (seat_at i s.seats) ≡ true) × ((seat_at i s.seats).life < life)
Found s d (Grant x) = (lacks_row d x.login s.logins ≡ false) × DayNotAfter d x.end
Found s d (End login) = is_listed login s.logins ≡ true

abbrev pub AlwaysFound : Type 0
AlwaysFound = (s : State) (a : Announcement) (mask1 mask2 : ℕ) → Admitted s a mask1 mask2 → Found (without_lapsed a.day s) a.day a.action

-- 11 is given only where the last row of a table is used.
abbrev pub FullOnlyWhenFull : Type 0
FullOnlyWhenFull = (s : State) (d : Day) (mask1 mask2 : ℕ) (x : Action) → action_refusal s d mask1 mask2 x ≡ 11
    → (is_proposal (get_or s.proposals (proposal_rows - 1) no_proposal) ≡ true) ⊎ (is_login (get_or s.logins (login_rows - 1) no_login) ≡ true)
