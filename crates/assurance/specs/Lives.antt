-- Lives, days and standings along the chain of a park's states, with or without the bound on double voters.
use Rattle.std.specs.Prelude.{◌≡◌, false, List, ℕ, ◌≤◌, ◌<◌}
use Rattle.state.specs.declared.State.{State}
use Rattle.state.specs.Time.{DayNotAfter}
use Rattle.state.specs.Seats.{retired, seat_at}
use Rattle.records.specs.declared.Announcement.{Announcement}
use Rattle.records.specs.declared.Action.TheVariants.{Certify, Rejoin}
use Rattle.records.specs.Sheet.{Row, names}
use Rattle.checkpoint.specs.Checkpoint.{read_checkpoint}
use Rattle.actions.specs.Perform.{perform}
use Rattle.agreement.specs.History.{History}
use Rattle.agreement.specs.Claims.{Park}
use Rattle.agreement.specs.Chain.{Step, Reached}
use Rattle.assurance.specs.Notice.{Noticed}

-- From s to u the life of seat i does not fall, nor does the day, and the seat stays retired.
pub record Rises (i : ℕ) (s u : State) : Type 0 where
  pub life : (seat_at i s.seats).life ≤ (seat_at i u.seats).life
  pub day : DayNotAfter s.day u.day
  pub stays-retired : (seat_at i s.seats).standing ≡ retired → (seat_at i u.seats).standing ≡ retired

-- Along the chain lives and days never fall, and a retired seat stays retired.
abbrev pub NeverFalls : Type 0
NeverFalls = (first : List ℕ) (calls : History) → Park first calls
    → (s u : State) → Reached s (Step calls) u → (i : ℕ) → Rises i s u

-- The life of seat i stems from the first state, or from a certify or a rejoin of the chain that names it and had its notice.
pub data Stems (first : State) (calls : History) (s : State) (i life : ℕ) : Type 0 where
  at_first : (seat_at i first.seats).life ≡ life → Stems first calls s i life
  certified : (r : State) (a : Announcement) (x : Step calls r a) → Reached first (Step calls) r → a.action ≡ Certify i life
      → Noticed first calls r a x → Reached (perform r a) (Step calls) s → Stems first calls s i life
  rejoined : (r : State) (a : Announcement) (x : Step calls r a) → Reached first (Step calls) r → a.action ≡ Rejoin i life
      → Noticed first calls r a x → Reached (perform r a) (Step calls) s → Stems first calls s i life

-- Every life in a reached state stems from the first checkpoint, a certify or a rejoin.
abbrev pub LivesStem : Type 0
LivesStem = (first : List ℕ) (calls : History) → Park first calls
    → (s : State) → Reached (read_checkpoint first).state (Step calls) s
    → (i : ℕ) → Stems (read_checkpoint first).state calls s i (seat_at i s.seats).life

-- A row with an earlier life never counts after the rejoin: it does not name the seat under its listed life.
abbrev pub EarlierLivesNeverCount : Type 0
EarlierLivesNeverCount = (first : List ℕ) (calls : History) → Park first calls
    → (r : State) (a : Announcement) (i life : ℕ) → Step calls r a → a.action ≡ Rejoin i life
    → (u : State) → Reached (perform r a) (Step calls) u
    → (x : Row) → x.life < life → names i (seat_at i u.seats).life x ≡ false
