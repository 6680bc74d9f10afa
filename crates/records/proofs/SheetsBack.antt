-- A sheet that was written is read back.
use mathlib.Core.Path.{◌≡◌, refl}
use mathlib.Core.Bool.{true}
use mathlib.Core.List.{List, [], ◌∷◌, Memᴰ}
use Prim.Native.Nat.{◌+◌, ◌*◌}
use native.Mathlib.Omega.{arith}
use lib.Dec.{ltb}
use lib.ListN.{length}
use borrow.Author.Tests.{eq-eqb, lt-ltb, le-leb}
use Rattle.lists.specs.Fold.{all}
use Rattle.lists.proofs.Members.{all-members}
use Rattle.binary.specs.Number.{to_bytes, from_bytes, field}
use Rattle.binary.specs.Codec.{encode_rows, decode_rows, FitsRows}
use Rattle.binary.proofs.Codec.{Laws, read_back, byte_laws, number-laws, ◌⊗-laws◌, onto-laws, rows_back, fits-rows}
use Rattle.state.specs.Limits.{seat_count}
use Rattle.records.specs.Sheet.{Row, row, rows_of, is_sheet, sheet_of}
use Rattle.records.specs.Claims.{RowsAreSized, RowInRange, SheetsReadBack}

pub rows-are-sized : RowsAreSized
rows-are-sized = refl

row_laws : Laws row
row_laws = onto-laws _ _ (λ x. refl) (λ a. refl) (byte_laws ⊗-laws number-laws 4)

fit : (rows : List Row) → ((r : Row) → Memᴰ r rows → RowInRange r) → FitsRows row (length rows) rows
fit rows h = fits-rows row (all-members rows (λ r m. (let t = h r m in (omega arith, omega arith))))

seats-below : (rows : List Row) → ((r : Row) → Memᴰ r rows → RowInRange r) → all (λ r. ltb r.seat seat_count) rows ≡ true
unfolding all
seats-below [] h = refl
seats-below (r ∷ rs) h = rw (lt-ltb _ _ (h r (Memᴰ.head refl)).0) (seats-below rs (λ x m. h x (Memᴰ.tail m)))

pub sheets-read-back : SheetsReadBack
unfolding sheet_of is_sheet rows_of to_bytes from_bytes
sheets-read-back mask1 mask2 rows n h =
    let back-laws = rows_back row_laws.reads (length rows) in
    let back : decode_rows row (length rows) (encode_rows row rows) ≡ rows = read_back back-laws rows (fit rows h) in
    let long = back-laws.long rows (fit rows h) in
    let size : length (sheet_of mask1 mask2 rows) ≡ 5 + 5 * length rows + 2 = omega arith in
    let told : field 2 0 (sheet_of mask1 mask2 rows) ≡ 5 + 5 * length rows = omega arith in
    record { well-formed = rw (le-leb _ _ n, back, seats-below rows h, eq-eqb _ _ size, eq-eqb _ _ told); first = refl; second = refl; read = back }
