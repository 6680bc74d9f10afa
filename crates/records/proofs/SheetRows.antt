-- The rows of a sheet where they lie in its bytes: row i starts at index 7 + 5 i.
use mathlib.Core.Path.{◌≡◌, refl, sym, ◌∙◌}
use mathlib.Core.Bool.{Bool, true, false, cond, ◌&&◌, ◌||◌, and-eq-true_iff, and-true, and-false, or-false, or_assoc, and-or_distrib_left}
use mathlib.Core.List.{List, ◌∷◌}
use Prim.Native.Nat.{ℕ, ◌+◌, ◌*◌, ◌%◌, ◌^◌, ◌≤◌, ◌<◌}
use native.Mathlib.Nat.{add-zero, add_assoc, mul_comm}
use native.Mathlib.Numerals.{add-one}
use native.Mathlib.Omega.{arith}
use lib.Dec.{eqb, ltb}
use lib.ListN.{length, get_or, drop, drop_of_length-le}
use lib.Bits.{bit_or}
use lib.Seq.{drop-cons, drop-drop, get_or-drop}
use borrow.Author.Tests.{eqb-true, leb-true, ltb-true}
use Rattle.lists.specs.Fold.{any}
use Rattle.lists.proofs.Every.{all_of, all_get_d}
use Rattle.binary.specs.Number.{byte_at, field}
use Rattle.binary.proofs.Rows.{row_at, length-decode_rows}
use Rattle.state.specs.declared.Seat.{Seat}
use Rattle.state.specs.Seats.{is_present, seat_at}
use Rattle.records.specs.Sheet.{Row, row, rows_of, is_sheet, names, counts}
use Rattle.records.specs.Code.{test_bit}
use Rattle.records.proofs.Bits.{no_bits, bit-or, bit_shifted}

-- the row for an index that the sheet does not have
abbrev pub no_row : Row
no_row = record { seat = 0; life = 0 }

module _ (b : List ℕ) where
  pub sheet-rows : length (rows_of b) ≡ byte_at 6 b
  unfolding rows_of
  sheet-rows = length-decode_rows row (byte_at 6 b) (drop 7 b)

  pub sheet-row : (i : ℕ) → i < byte_at 6 b → get_or (rows_of b) i no_row ≡ record { seat = byte_at (7 + 5 * i) b; life = field 4 (7 + 5 * i + 1) b }
  unfolding rows_of
  sheet-row i h = row_at row (byte_at 6 b) b 7 i no_row h ∙ simp (drop-drop, get_or-drop, add-zero, add_assoc, mul_comm i 5)

  -- What the test of a sheet tells.
  pub record Sheet : Type 0 where
    pub most : byte_at 6 b ≤ 64
    pub size : length b ≡ 7 + 5 * byte_at 6 b
    pub seat : (i : ℕ) → i < byte_at 6 b → byte_at (7 + 5 * i) b < 32

  pub sheet-of : is_sheet b ≡ true → Sheet
  unfolding is_sheet
  sheet-of e =
      let t = simp and-eq-true_iff at e in
      let rows = all_of (λ r. ltb r.seat 32) (rows_of b) t.1.1 in
      record {
        most = leb-true _ _ t.0;
        size = omega (arith, eqb-true);
        seat = λ i h. ltb-true _ _ (rw (sheet-row i h) at (all_get_d {d = no_row} i rows refl));
      }

-- A seat counts on some rows where it counts on the first of them or on the others.
counts-row : (r : Row) (rs : List Row) (k : ℕ) (x : Seat) → counts (r ∷ rs) k x ≡ ((is_present x && names k x.life r) || counts rs k x)
unfolding counts any
counts-row r rs k x = and-or_distrib_left (is_present x) (names k x.life r) (any (names k x.life) rs)

module _ (b : List ℕ) (seats : List Seat) where
  -- seat k counts on the rows from row i on
  abbrev counts_from : ℕ → ℕ → Bool
  counts_from i k = counts (drop i (rows_of b)) k (seat_at k seats)

  -- a row that names seat j under this life hits it
  abbrev hits : ℕ → ℕ → Bool
  hits j life = is_present (seat_at j seats) && eqb life (seat_at j seats).life

  -- The loop that marks the seats which count, bit k for seat k, after i rows: a seat is marked or counts on the rows that are left exactly
  -- where it counts on all.
  pub record Seen (i seen : ℕ) : Type 0 where
    pub sheet : Sheet b
    pub marks : (k : ℕ) → (test_bit seen k || counts_from i k) ≡ counts (rows_of b) k (seat_at k seats)

  pub seen_start : is_sheet b ≡ true → Seen 0 0
  seen_start e = record { sheet = sheet-of b e; marks = λ k. rw (no_bits k) }

  -- The seat that the row names is the only one that it hits.
  only-named : (j k life : ℕ) → (is_present (seat_at k seats) && (eqb j k && eqb life (seat_at k seats).life)) ≡ (hits j life && eqb j k)
  only-named j k life = at (eqb j k) refl
    where
      at : (t : Bool) → eqb j k ≡ t → (is_present (seat_at k seats) && (eqb j k && eqb life (seat_at k seats).life)) ≡ (hits j life && eqb j k)
      at true e = rw (e, eqb-true j k e) (sym (and-true _))
      at false e = rw (e, and-false (is_present (seat_at k seats)), and-false (hits j life))

  -- what row i, which names seat j under this life, tells of seat k
  split : (i j life k : ℕ) → i < byte_at 6 b → j ≡ byte_at (7 + 5 * i) b → life ≡ field 4 (7 + 5 * i + 1) b
      → counts_from i k ≡ ((hits j life && eqb j k) || counts_from (i + 1) k)
  split i j life k h p q =
      rw (add-one i, drop-cons (rows_of b) i no_row (rw sheet-rows h), sheet-row b i h, ← p, ← q, ← only-named j k life)
      (counts-row _ _ k (seat_at k seats))

  pub seen-turn : (i j life hit seen : ℕ) → Seen i seen → i < byte_at 6 b → j ≡ byte_at (7 + 5 * i) b → life ≡ field 4 (7 + 5 * i + 1) b
      → hit ≡ cond (hits j life) 1 0 → Seen (i + 1) (bit_or seen ((hit * 2 ^ j) % 2 ^ 32))
  seen-turn i j life hit seen s h p q e =
      let m : j < 32 = omega (arith, s.sheet.seat i h) in
      record {
        sheet = s.sheet;
        marks = λ k. rw (
          e,
          bit-or seen ((cond (hits j life) 1 0 * 2 ^ j) % 2 ^ 32) k,
          bit_shifted (hits j life) j k m,
          or_assoc (test_bit seen k) (hits j life && eqb j k) (counts_from (i + 1) k),
          ← split i j life k h p q,
        ) (s.marks k);
      }

  -- past the last row no seat counts on what is left
  none_left : (i k : ℕ) → byte_at 6 b ≤ i → counts_from i k ≡ false
  unfolding counts any
  none_left i k h = rw (drop_of_length-le (rows_of b) {i = i} (rw sheet-rows h)) (and-false (is_present (seat_at k seats)))

  pub seen_end : (i seen : ℕ) → Seen i seen → byte_at 6 b ≤ i → (k : ℕ) → test_bit seen k ≡ counts (rows_of b) k (seat_at k seats)
  seen_end i seen s h k = sym (rw (none_left i k h) (or-false _)) ∙ s.marks k
