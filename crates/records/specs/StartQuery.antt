-- "Start, kind 19: seat 1, life 4. Query, kind 20: login 4, day 4, right 1 (0 to 15)."
use Rattle.std.specs.Prelude.{ℕ, List, cond, ◌&&◌, ◌||◌, ltb, Option, Some, None}
use Rattle.binary.specs.Number.{byte_at, field, is_record}
use Rattle.state.specs.Limits.{seat_count, right_count}
use Rattle.state.specs.Time.{day}
use Rattle.records.specs.declared.Query.{Query}
use Rattle.records.specs.declared.Start.{Start}
use Rattle.records.specs.Layout.{kind_start, start_length, kind_query, query_length, kind_door_query, door_query_length, door_count}

unfoldable pub read_start : List ℕ → Option Start
read_start b =
    let seat = byte_at 4 b in
    cond (is_record start_length kind_start b && ltb seat seat_count) (Some (record { seat = seat; life = field 4 5 b })) None

-- "A new query, kind 21, carries the door in a byte after the right; kind 20 means door 0"; "A door above 3 .. is rule 1."
unfoldable pub read_query : List ℕ → Option Query
read_query b =
    let named = is_record door_query_length kind_door_query b in
    let right = byte_at 12 b in
    let door = cond named (byte_at 13 b) 0 in
    cond ((is_record query_length kind_query b || named) && (ltb right right_count && ltb door door_count))
    (Some (record { login = field 4 4 b; day = day (field 4 8 b); right = right; door = door })) None
