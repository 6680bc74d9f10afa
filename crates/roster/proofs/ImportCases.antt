-- The four cases of an import.
use Prim.Native.Nat.{ℕ, ◌*◌, ◌≤◌, ◌<◌}
use mathlib.Core.Path.{◌≡◌, ◌∙◌}
use mathlib.Core.List.{List}
use mathlib.Core.Option.{none, some, bind}
use lib.ListN.{length}
use borrow.Author.Tests.{le-leb, lt-leb}
use Rattle.std.specs.Prelude.{Ok}
use Rattle.refusals.specs.declared.Refusal.TheVariants.{BadRoster, NoRosterRoom}
use Rattle.binary.specs.Number.{overwrite}
use Rattle.state.specs.declared.Cycle.{Cycle}
use Rattle.state.specs.declared.Day.{Day}
use Rattle.state.specs.declared.Login.{Login}
use Rattle.state.specs.Time.{cycles_since, last_cycle}
use Rattle.records.specs.Layout.{announcement_size}
use Rattle.roster.specs.Roster.{roster_in}
use Rattle.roster.specs.Calls.{refused, give, grants_of, bytes_of, imported, import_of}
use Rattle.roster.proofs.GrantBytes.{grants-count, grants-size}
use Rattle.roster.proofs.Giving.{no_room, fits}

module _ (text : List ℕ) (c : Cycle) (d : Day) (out : List ℕ) where
  pub not_read : roster_in text ≡ none → import_of text c d out ≡ refused BadRoster out
  unfolding import_of imported bind
  not_read e = rw e

  -- the roster was read
  module _ (rows : List Login) (e : roster_in text ≡ some rows) where
    pub out_of_cycles : cycles_since last_cycle c < length rows → import_of text c d out ≡ refused BadRoster out
    unfolding import_of imported bind
    out_of_cycles h = rw (e, lt-leb _ _ h)

    module _ (h : length rows ≤ cycles_since last_cycle c) where
      given : import_of text c d out ≡ give (length rows) (bytes_of (grants_of c d rows)) out
      unfolding import_of imported bind
      given = rw (e, le-leb _ _ h, grants-count c d rows)

      pub too_short : length out < announcement_size * length rows → import_of text c d out ≡ refused NoRosterRoom out
      too_short k = given ∙ no_room _ (bytes_of (grants_of c d rows)) out (rw (grants-size c d rows) k)

      pub grants_given : announcement_size * length rows ≤ length out
          → import_of text c d out ≡ record { answer = Ok (length rows); slice = overwrite (bytes_of (grants_of c d rows)) out }
      grants_given k = given ∙ fits _ (bytes_of (grants_of c d rows)) out (rw (grants-size c d rows) k)

-- what an import answers, in each case
pub ruleset import_cases = (not_read, out_of_cycles, too_short, grants_given)
