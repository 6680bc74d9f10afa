-- "32 seats, each with a standing and a life number"; and the quorum.
use Rattle.std.specs.Prelude.{ℕ, ◌+◌, ◌/◌, max, List, Bool, ◌||◌, eqb, get_or, set}
use Rattle.lists.specs.Fold.{count}
use Rattle.state.specs.declared.Seat.{Seat}
use Rattle.state.specs.declared.State.{State}

-- "Standings: 0 free, 1 certified, 2 present, 3 retired for good."
abbrev pub free : ℕ
free = 0

abbrev pub certified : ℕ
certified = 1

abbrev pub present : ℕ
present = 2

abbrev pub retired : ℕ
retired = 3

abbrev pub free_seat : Seat
free_seat = record { standing = free; life = 0 }

-- seat number i
abbrev pub seat_at : ℕ → List Seat → Seat
seat_at i seats = get_or seats i free_seat

abbrev pub is_present : Seat → Bool
is_present x = eqb x.standing present

-- certified or present
abbrev pub is_active : Seat → Bool
is_active x = eqb x.standing certified || eqb x.standing present

-- the seats with seat i as given
abbrev pub set_seat : ℕ → ℕ → ℕ → List Seat → List Seat
set_seat i standing life seats = set seats i (record { standing = standing; life = life })

-- p, the number of present seats
unfoldable pub present_seats : List Seat → ℕ
present_seats seats = count is_present seats

-- "Quorum = the larger of floor(p/2)+1+m and k, with p present seats."
unfoldable pub quorum : ℕ → ℕ → ℕ → ℕ
quorum p m k = max (p / 2 + 1 + m) k

-- the quorum in force
unfoldable pub quorum_of : State → ℕ
quorum_of s = quorum (present_seats s.seats) s.minima.margin s.minima.least
