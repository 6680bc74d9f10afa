-- "Sheet, kind 18: level-1 mask (1), level-2 mask (1), row count 0 to 64 (1), rows of seat (1, below 32) and life (4)."
use Rattle.std.specs.Prelude.{ℕ, ◌+◌, ◌*◌, List, ◌∷◌, ◌++◌, Bool, ◌&&◌, eqb, ltb, leb, length, drop}
use Rattle.lists.specs.Fold.{any, all, count_from}
use Rattle.binary.specs.Number.{to_bytes, byte_at, is_record}
use Rattle.binary.specs.Codec.{Codec, byte, number, onto, encode_rows, decode_rows, ◌⊗◌}
use Rattle.state.specs.declared.Seat.{Seat}
use Rattle.state.specs.Limits.{seat_count}
use Rattle.state.specs.Seats.{is_present}
use Rattle.records.specs.Layout.{kind_sheet, sheet_length, sheet_head, row_size, most_rows}

abbrev pub level1 : List ℕ → ℕ
level1 b = byte_at 4 b

abbrev pub level2 : List ℕ → ℕ
level2 b = byte_at 5 b

-- a vote of that seat under that life, whose signature was checked
pub record Row : Type 0 where
  pub seat : ℕ
  pub life : ℕ

abbrev pub row : Codec Row
row = onto (byte ⊗ number 4) (λ p. record { seat = p.0; life = p.1 }) (λ r. (r.seat, r.life))

unfoldable pub rows_of : List ℕ → List Row
rows_of b = decode_rows row (byte_at 6 b) (drop sheet_head b)

unfoldable pub is_sheet : List ℕ → Bool
is_sheet b =
    let n = byte_at 6 b in
    leb n most_rows && (is_record (sheet_length + row_size * n) kind_sheet b && all (λ r. ltb r.seat seat_count) (rows_of b))

-- the row names seat i under this life
abbrev pub names : ℕ → ℕ → Row → Bool
names i life r = eqb r.seat i && eqb r.life life

-- "A seat counts once, if it is present and some row has its listed life.": seat i, which is x, counts on these rows
unfoldable pub counts : List Row → ℕ → Seat → Bool
counts rows i x = is_present x && any (names i x.life) rows

-- the number of seats that count on these rows
unfoldable pub counted_seats : List Row → List Seat → ℕ
counted_seats rows seats = count_from (counts rows) 0 seats

-- the number of seats that count on both
unfoldable pub counted_on_both : List Row → List Row → List Seat → ℕ
counted_on_both a b seats = count_from (λ i x. counts a i x && counts b i x) 0 seats

-- the sheet with these masks and rows. The node only reads sheets; here they are written, so that it can be said what a sheet of certain votes does.
unfoldable pub sheet_of : ℕ → ℕ → List Row → List ℕ
sheet_of mask1 mask2 rows =
    to_bytes 2 (sheet_length + row_size * length rows) ++ (kind_sheet ∷ 0 ∷ mask1 ∷ mask2 ∷ length rows ∷ encode_rows row rows)
