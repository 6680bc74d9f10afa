-- An announcement that was written is read back.
use Prim.Native.Nat.{◌^◌, ◌<◌}
use native.Mathlib.Omega.{arith}
use mathlib.Core.Path.{◌≡◌}
use mathlib.Core.Bool.{true, false}
use mathlib.Core.List.{[], append-nil}
use borrow.Author.Tests.{lt-ltb, le-leb}
use Rattle.lists.specs.Fold.{all}
use Rattle.lists.specs.Table.{fill}
use Rattle.binary.specs.Number.{to_bytes, from_bytes, is_zero_from}
use Rattle.binary.proofs.Number.{number-read-back}
use Rattle.state.specs.Limits.{seat_count}
use Rattle.state.proofs.MinimaRanges.{in-range}
use Rattle.state.specs.declared.Cycle.{Cycle}
use Rattle.state.specs.declared.Day.{Day}
use Rattle.records.specs.declared.Action.{Action}
use Rattle.records.specs.declared.Action.TheVariants.{Propose, Cancel, Presents, Certify, Minima, Remove, Rejoin, Grant, End}
use Rattle.records.specs.declared.Announcement.{Announcement}
use Rattle.std.specs.Prelude.{Some}
use Rattle.records.specs.Announcement.{announcing, read_propose, read_cancel, read_presents, read_certify, read_minima}
use Rattle.records.specs.Announcement.{read_remove, read_rejoin, read_grant, read_end, read_kind, read_announcement, announcement_bytes}
use Rattle.records.specs.Claims.{ActionInRange, AnnouncementsReadBack}

-- the numbers of a written announcement, read again
module _ (c : Cycle) (d : Day) (hc : c.0 < 2 ^ 32) (hd : d.0 < 2 ^ 32) where
  abbrev announced : Action → Announcement
  announced x = record { cycle = c; day = d; action = x }

  time : (from_bytes 4 (to_bytes 4 c.0) ≡ c.0) × (from_bytes 4 (to_bytes 4 d.0) ≡ d.0)
  time = (rw append-nil at (number-read-back 4 c.0 hc []), rw append-nil at (number-read-back 4 d.0 hd []))

  back : (x : Action) → ActionInRange x → read_announcement (announcement_bytes (announced x)) ≡ Some (announced x)
  unfolding announcement_bytes read_announcement read_kind announcing to_bytes from_bytes is_zero_from fill all
      read_propose read_cancel read_presents read_certify read_minima read_remove read_rejoin read_grant read_end
  back (Propose x) h =
      rw (time.0, time.1, number-read-back 2 x.kind h.0 [], number-read-back 8 x.arguments h.1 [], h.2)
  back (Cancel e) h = rw (time.0, time.1, number-read-back 4 e.0 h [])
  back (Presents i true) h = rw (time.0, time.1, lt-ltb i seat_count h)
  back (Presents i false) h = rw (time.0, time.1, lt-ltb i seat_count h)
  back (Certify i life) h =
      rw (time.0, time.1, number-read-back 4 life h.2 [], lt-ltb i seat_count h.0, le-leb 1 life h.1)
  back (Minima x) h =
      let ranges = in-range x h in
      rw (time.0, time.1, number-read-back 2 x.silence (omega arith) [], h)
  back (Remove i) h = rw (time.0, time.1, lt-ltb i seat_count h)
  back (Rejoin i life) h = rw (time.0, time.1, number-read-back 4 life h.1 [], lt-ltb i seat_count h.0)
  back (Grant x) h =
      let login = number-read-back 4 x.login h.1 [] in
      let end = number-read-back 4 x.end.0 h.2 [] in
      let rights = number-read-back 2 x.rights h.4 [] in
      rw (time.0, time.1, login, end, rights, le-leb 1 x.login h.0, le-leb 1 x.rights h.3)
  back (End login) h = rw (time.0, time.1, number-read-back 4 login h [])

pub announcements-read-back : AnnouncementsReadBack
announcements-read-back a h = back a.cycle a.day h.cycle h.day a.action h.action
