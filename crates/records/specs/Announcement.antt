-- "Announcement, 24 bytes: length 22; kind 1 to 9; cycle (4); day (4); 12 argument bytes, unused ones zero."
use Rattle.std.specs.Prelude.{ℕ, List, [], ◌∷◌, ◌++◌, Bool, cond, ◌&&◌, eqb, ltb, leb, Option, Some, None}
use Rattle.lists.specs.Table.{fill}
use Rattle.binary.specs.Number.{to_bytes, byte_at, field, is_zero_from, is_framed}
use Rattle.state.specs.declared.Minima as M
use Rattle.state.specs.declared.Subject.{Subject}
use Rattle.state.specs.Time.{cycle, day}
use Rattle.state.specs.Limits.{seat_count}
use Rattle.state.specs.Kinds.{kind_propose, kind_cancel, kind_presents, kind_certify, kind_minima, kind_remove, kind_rejoin, kind_grant, kind_end}
use Rattle.state.specs.Minima.{is_in_range}
use Rattle.state.specs.Subjects.{is_subject}
use Rattle.records.specs.declared.Announcement.{Announcement}
use Rattle.records.specs.declared.Action.{Action}
use Rattle.records.specs.declared.Action.TheVariants.{Propose, Cancel, Presents, Certify, Minima, Remove, Rejoin, Grant, End}
use Rattle.records.specs.Layout.{announcement_length, arguments_size}
use Rattle.records.specs.Actions.{kind_of}

-- the announcement of this action, with the record's cycle and day, where its arguments are well formed
unfoldable pub announcing : List ℕ → Bool → Action → Option Announcement
announcing b ok x = cond ok (Some (record { cycle = cycle (field 4 4 b); day = day (field 4 8 b); action = x })) None

-- the argument bytes of each kind start at index 12; "seats are below 32"
unfoldable pub read_propose : List ℕ → Option Announcement
read_propose b =
    let x : Subject = record { kind = field 2 12 b; arguments = field 8 14 b } in
    announcing b (is_zero_from 22 b && is_subject x) (Propose x)

unfoldable pub read_cancel : List ℕ → Option Announcement
read_cancel b = announcing b (is_zero_from 16 b) (Cancel (cycle (field 4 12 b)))

unfoldable pub read_presents : List ℕ → Option Announcement
read_presents b =
    let seat = byte_at 12 b in
    let flag = byte_at 13 b in
    announcing b (is_zero_from 14 b && (ltb seat seat_count && leb flag 1)) (Presents seat (eqb flag 1))

unfoldable pub read_certify : List ℕ → Option Announcement
read_certify b =
    let seat = byte_at 12 b in
    let life = field 4 13 b in
    announcing b (is_zero_from 17 b && (ltb seat seat_count && leb 1 life)) (Certify seat life)

unfoldable pub read_minima : List ℕ → Option Announcement
read_minima b =
    let x : M.Minima = record {
      margin = byte_at 12 b;
      least = byte_at 13 b;
      silence = field 2 14 b;
      notices = record { ordinary = byte_at 16 b; restart = byte_at 17 b };
    } in
    announcing b (is_zero_from 18 b && is_in_range x) (Minima x)

unfoldable pub read_remove : List ℕ → Option Announcement
read_remove b =
    let seat = byte_at 12 b in
    announcing b (is_zero_from 13 b && ltb seat seat_count) (Remove seat)

unfoldable pub read_rejoin : List ℕ → Option Announcement
read_rejoin b =
    let seat = byte_at 12 b in
    announcing b (is_zero_from 17 b && ltb seat seat_count) (Rejoin seat (field 4 13 b))

unfoldable pub read_grant : List ℕ → Option Announcement
read_grant b =
    let login = field 4 12 b in
    let rights = field 2 20 b in
    announcing b (is_zero_from 22 b && (leb 1 login && leb 1 rights)) (Grant (record { login = login; end = day (field 4 16 b); rights = rights }))

unfoldable pub read_end : List ℕ → Option Announcement
read_end b = announcing b (is_zero_from 16 b) (End (field 4 12 b))

-- the arguments of each kind; other kinds are malformed
unfoldable pub read_kind : ℕ → List ℕ → Option Announcement
read_kind kind b =
    cond (eqb kind kind_propose) (read_propose b)
    (cond (eqb kind kind_cancel) (read_cancel b)
    (cond (eqb kind kind_presents) (read_presents b)
    (cond (eqb kind kind_certify) (read_certify b)
    (cond (eqb kind kind_minima) (read_minima b)
    (cond (eqb kind kind_remove) (read_remove b)
    (cond (eqb kind kind_rejoin) (read_rejoin b)
    (cond (eqb kind kind_grant) (read_grant b)
    (cond (eqb kind kind_end) (read_end b)
    None))))))))

unfoldable pub read_announcement : List ℕ → Option Announcement
read_announcement b = cond (is_framed announcement_length b) (read_kind (field 2 2 b) b) None

-- ---- written

-- the argument bytes of an action, without the unused ones
abbrev pub argument_bytes : Action → List ℕ
argument_bytes (Propose x) = to_bytes 2 x.kind ++ to_bytes 8 x.arguments
argument_bytes (Cancel c) = to_bytes 4 c.0
argument_bytes (Presents i flag) = i ∷ cond flag 1 0 ∷ []
argument_bytes (Certify i life) = i ∷ to_bytes 4 life
argument_bytes (Minima x) = x.margin ∷ x.least ∷ (to_bytes 2 x.silence ++ (x.notices.ordinary ∷ x.notices.restart ∷ []))
argument_bytes (Remove i) = i ∷ []
argument_bytes (Rejoin i life) = i ∷ to_bytes 4 life
argument_bytes (Grant x) = to_bytes 4 x.login ++ (to_bytes 4 x.end.0 ++ to_bytes 2 x.rights)
argument_bytes (End login) = to_bytes 4 login

unfoldable pub announcement_bytes : Announcement → List ℕ
announcement_bytes a =
    to_bytes 2 announcement_length
    ++ (to_bytes 2 (kind_of a.action)
    ++ (to_bytes 4 a.cycle.0
    ++ (to_bytes 4 a.day.0
    ++ fill arguments_size 0 (argument_bytes a.action))))
