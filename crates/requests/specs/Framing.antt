-- "Records are framed by their length and placed by their kind (1 to 9, 16, 18, 19, 20)."; "node-run places 21 as a query";
-- kind 26: "node-run places it like 16" (02, A7)
use Rattle.std.specs.Prelude.{ℕ, ◌+◌, List, Bool, cond, not, ◌&&◌, ◌||◌, eqb, leb, length, drop, Option, Some, None}
use Rattle.binary.specs.Number.{field}
use Rattle.state.specs.Kinds.{kind_propose, kind_end}
use Rattle.records.specs.Layout.{announcement_size, kind_sheet, sheet_head, kind_start, start_length}
use Rattle.records.specs.Layout.{kind_query, query_length, kind_door_query, door_query_length}
use Rattle.checkpoint.specs.Layout.{kind_checkpoint, checkpoint_size, kind_earlier, earlier_size}
use Rattle.requests.specs.declared.Frame.{Frame}

-- "A record is a 2-byte length (of what follows it), a 2-byte kind, a body."
abbrev pub record_head : ℕ
record_head = 4

-- the bytes of the record at the front of b, its length field with them
abbrev pub size_of : List ℕ → ℕ
size_of b = field 2 0 b + 2

abbrev pub kind_of : List ℕ → ℕ
kind_of b = field 2 2 b

abbrev pub is_announcement : ℕ → Bool
is_announcement kind = leb kind_propose kind && leb kind kind_end

-- kind 20, and kind 21, which names its door
abbrev pub is_query : ℕ → Bool
is_query kind = eqb kind kind_query || eqb kind kind_door_query

abbrev pub is_sheet_kind : ℕ → Bool
is_sheet_kind kind = eqb kind kind_sheet

-- kind 26, and kind 16
abbrev pub is_checkpoint_kind : ℕ → Bool
is_checkpoint_kind kind = eqb kind kind_checkpoint || eqb kind kind_earlier

-- "A record too short for its kind (a sheet: under 7 bytes)": the fewest bytes of a record of that kind
unfoldable pub least_size : ℕ → ℕ
least_size kind =
    cond (is_announcement kind) announcement_size
    (cond (eqb kind kind_checkpoint) checkpoint_size
    (cond (eqb kind kind_earlier) earlier_size
    (cond (eqb kind kind_sheet) sheet_head
    (cond (eqb kind kind_start) (start_length + 2)
    (cond (eqb kind kind_query) (query_length + 2)
    (cond (eqb kind kind_door_query) (door_query_length + 2)
    record_head))))))

-- b holds all of the record at its front
unfoldable pub holds_record : List ℕ → Bool
holds_record b = leb record_head (length b) && leb (size_of b) (length b)

-- a record of that many bytes, and of that kind
abbrev pub framed : ℕ → ℕ → Option Frame
framed size kind = Some (record { size = size; kind = kind })

-- the record at the front of the input b
unfoldable pub frame_of : List ℕ → Option Frame
frame_of b = cond (holds_record b && leb (least_size (kind_of b)) (size_of b)) (framed (size_of b) (kind_of b)) None

-- "start and checkpoint (one request), then announcement and sheet (one), or query (one)"
abbrev pub has_second : ℕ → Bool
has_second kind = is_announcement kind || eqb kind kind_start

-- b holds all records of the request at its front
unfoldable pub holds_request : List ℕ → Bool
holds_request b = holds_record b && (not (has_second (kind_of b)) || holds_record (drop (size_of b) b))

-- the bytes of two records of the greatest length
abbrev pub request_room : ℕ
request_room = 131074
