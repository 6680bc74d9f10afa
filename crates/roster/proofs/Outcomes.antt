-- What the two calls answer, and what their output slice then holds.
use Prim.Native.Nat.{ℕ, ◌≤◌, ◌<◌}
use native.Mathlib.Omega.{arith}
use mathlib.Core.Path.{◌≡◌, refl, sym, ◌∙◌}
use mathlib.Core.List.{List}
use mathlib.Core.Option.{Option, none, some, bind, some-injective}
use lib.Dec.{leb}
use lib.ListN.{length}
use borrow.Author.Tests.{leb-true, leb-false, le-leb}
use Rattle.lists.proofs.Tests.{cond_cases, clash}
use Rattle.binary.specs.Number.{overwrite}
use Rattle.calendar.specs.Text.{last_day}
use Rattle.state.specs.declared.Cycle.{Cycle}
use Rattle.state.specs.declared.Day.{Day}
use Rattle.state.specs.declared.Login.{Login}
use Rattle.state.specs.Time.{last_cycle, cycles_since}
use Rattle.records.specs.declared.Announcement.{Announcement}
use Rattle.records.specs.declared.Action.{Action}
use Rattle.records.specs.declared.Action.TheVariants.{Propose, Cancel, Presents, Certify, Minima, Remove, Rejoin, Grant, End}
use Rattle.std.specs.declared.option.Option as Rust
use Rattle.std.specs.Prelude.{Some, None}
use Rattle.records.specs.Announcement.{read_announcement}
use Rattle.roster.specs.Csv.{lines_in}
use Rattle.roster.specs.Roster.{rows_in, roster_in, line_of}
use Rattle.roster.specs.Calls.{Outcome, give, grants_of, bytes_of, imported, give_grants, import_of}
use Rattle.roster.specs.Calls.{granted, granted_by, exported, give_line, export_of}
use Rattle.roster.specs.Claims.{EmptyFileGivesNone, ImportAnswering, malformed, out-of-cycles, ImportAnswers}
use Rattle.roster.specs.Claims.{ExportAnswering, no-grant, ExportAnswers}
use Rattle.roster.specs.Claims as C
use Rattle.roster.proofs.GrantBytes.{grants-count, grants-size}
use Rattle.roster.proofs.Giving.{give-cases}

pub empty-file-gives-none : EmptyFileGivesNone
unfolding import_of imported roster_in lines_in rows_in bind grants_of bytes_of give overwrite
empty-file-gives-none c d out = rw (le-leb 0 (cycles_since last_cycle c) (omega arith), le-leb 0 (length out) (omega arith))

-- ---- import

module _ (text : List ℕ) (c : Cycle) (d : Day) (out : List ℕ) where
  abbrev Imports : Outcome → Type 0
  Imports = ImportAnswering text c d out

  -- the lines are read, and there are cycles for them
  made : (rs : List Login) → roster_in text ≡ some rs → length rs ≤ cycles_since last_cycle c → Imports (give_grants (some (grants_of c d rs)) out)
  made rs e h =
      let n = grants-count c d rs in
      let s = grants-size c d rs in
      give-cases (length (grants_of c d rs)) (bytes_of (grants_of c d rs)) out Imports (λ k. C.given rs e h (omega arith) (rw n))
      (λ k. C.too_short rs e h (omega arith) refl)

  read : (o : Option (List Login)) → roster_in text ≡ o → Imports (import_of text c d out)
  unfolding import_of imported bind
  read none e = malformed e (rw e)
  read (some rs) e =
      rw e (cond_cases (λ (o : Option (List Announcement)). Imports (give_grants o out)) (leb (length rs) (cycles_since last_cycle c))
      (λ t. made rs e (leb-true _ _ t)) (λ t. out-of-cycles rs e (leb-false _ _ t) refl))

pub import-answers : ImportAnswers
import-answers text c d out = read text c d out (roster_in text) refl

-- ---- export

-- only a grant grants
granting : (x : Action) (r : Login) → granted x ≡ some r → x ≡ Grant r
granting (Propose x) r e = clash (cc)
granting (Cancel x) r e = clash (cc)
granting (Presents x y) r e = clash (cc)
granting (Certify x y) r e = clash (cc)
granting (Minima x) r e = clash (cc)
granting (Remove x) r e = clash (cc)
granting (Rejoin x y) r e = clash (cc)
granting (Grant x) r e = cc
granting (End x) r e = clash (cc)

module _ (b out : List ℕ) where
  abbrev Exports : Outcome → Type 0
  Exports = ExportAnswering b out

  -- what is read is granted
  same-grant : (a : Announcement) (r : Login) → read_announcement b ≡ Some a → a.action ≡ Grant r → granted_by (read_announcement b) ≡ some r
  same-grant a r e g = rw (e, g)

  told : (r : Login) (x : Rust.Option Announcement) → read_announcement b ≡ x → granted_by x ≡ some r → Exports (export_of b out)
  unfolding export_of exported bind
  told r None e g = clash (cc)
  told r (Some a) e g =
      let q = granting a.action r g in
      let late : last_day < r.end.0 → (x : Announcement) (y : Login) → read_announcement b ≡ Some x → x.action ≡ Grant y → last_day < y.end.0 =
      λ l x y p k. (let z : r ≡ y = some-injective r y (sym (same-grant a r e q) ∙ same-grant x y p k) in rw (← z) l) in
      rw (same-grant a r e q) (cond_cases (λ (o : Option (List ℕ)). Exports (give_line o out)) (leb r.end.0 last_day)
      (λ t. give-cases (length (line_of r)) (line_of r) out Exports (λ k. C.given a r e q (leb-true _ _ t) k refl)
      (λ k. C.too_short a r e q (leb-true _ _ t) k refl))
      (λ t. no-grant (late (leb-false _ _ t)) refl))

  exports : (o : Option Login) → granted_by (read_announcement b) ≡ o → Exports (export_of b out)
  unfolding export_of exported bind
  exports none e = no-grant (λ a r p q. (let z = same-grant a r p q in clash (cc))) (rw e)
  exports (some r) e = told r (read_announcement b) refl e

pub export-answers : ExportAnswers
export-answers b out = exports b out (granted_by (read_announcement b)) refl
