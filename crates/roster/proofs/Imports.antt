-- What a roster says is in its ranges, and what import writes are its grants.
use Prim.Native.Nat.{ℕ, zero, suc, ◌+◌, ◌*◌, ◌^◌, ◌≤◌, ◌<◌}
use native.Mathlib.Omega.{arith}
use mathlib.Core.Path.{◌≡◌, refl, ap, ◌∙◌}
use mathlib.Core.List.{List, [], ◌∷◌, ◌++◌, Memᴰ}
use mathlib.Core.Option.{some, bind, bind-eq-some_iff, some-injective}
use lib.Dec.{leb}
use lib.ListN.{length, get_or, length-map}
use lib.Seq.{take_at, drop-append-add}
use borrow.Author.Tests.{leb-true, lt-ltb}
use Rattle.lists.proofs.Options.{chosen}
use Rattle.lists.proofs.Tests.{clash}
use Rattle.lists.proofs.Every.{All, none, more}
use Rattle.lists.proofs.Members.{all_in}
use Rattle.calendar.proofs.Texts.{text-written-back}
use Rattle.state.specs.declared.Cycle.{Cycle}
use Rattle.state.specs.declared.Day.{Day}
use Rattle.state.specs.declared.Login.{Login}
use Rattle.state.specs.Time.{cycle, next_cycle, last_cycle, cycles_since}
use Rattle.state.specs.Rows.{no_login}
use Rattle.records.specs.declared.Announcement.{Announcement}
use Rattle.records.specs.Layout.{announcement_size}
use Rattle.records.specs.Announcement.{announcement_bytes}
use Rattle.records.proofs.AnnouncementsBack.{announcements-read-back}
use Rattle.roster.specs.Csv.{lines_in}
use Rattle.roster.specs.Roster.{most_lines, more_fields, row_in, rows_in, roster_in}
use Rattle.roster.specs.Calls.{grant_of, grants_of, bytes_of, imported}
use Rattle.roster.specs.Claims.{IsRow, AreRows, RostersInRange, announcement_at, IsGrant, ImportsAreGrants, ImportsReadAgain}
use Rattle.roster.proofs.GrantBytes.{grant-size, grants-count, grants-size}
use Rattle.roster.proofs.FieldTexts.{login-range, rights-range}
use Rattle.roster.proofs.Files.{files-written}
use Rattle.roster.proofs.Exports.{read_again}

member-at : {A : Type 0} (xs : List A) (i : ℕ) (d : A) → i < length xs → Memᴰ (get_or xs i d) xs
member-at [] i d h = absurd (omega arith)
member-at (x ∷ xs) zero d h = Memᴰ.head refl
member-at (x ∷ xs) (suc i) d h = Memᴰ.tail (member-at xs i d (omega arith))

-- ---- ranges

row-range : (fields : List (List ℕ)) (r : Login) → row_in fields ≡ some r → IsRow r
row-range [] r e = clash (cc)
row-range (l ∷ []) r e = clash (cc)
row-range (l ∷ m ∷ []) r e = clash (cc)
row-range (l ∷ m ∷ n ∷ []) r e =
    let a = (bind-eq-some_iff _ _).0 e in
    let b = (bind-eq-some_iff _ _).0 a.2 in
    let c = (bind-eq-some_iff _ _).0 b.2 in
    rw (← (some-injective _ _ c.2)) (record {
      login = login-range l a.0 a.1;
      end = (text-written-back m b.0 b.1).within;
      rights = rights-range n c.0 c.1;
    })
row-range (l ∷ m ∷ n ∷ x ∷ xs) r e = clash (cc)

few-lines : (most n : ℕ) (text : List ℕ) (lines : List (List (List ℕ))) → lines_in most n text ≡ some lines → length lines ≤ most
few-lines most n text lines e = let f = files-written most n text lines e in rw (f.contents-of, length-map) f.few

record Rows (lines : List (List (List ℕ))) (rs : List Login) : Type 0 where
  size : length rs ≡ length lines
  each : All IsRow rs

rows-range : (lines : List (List (List ℕ))) (rs : List Login) → rows_in lines ≡ some rs → Rows lines rs
unfolding rows_in
rows-range [] rs e = rw (← (some-injective _ _ e)) (record { size = refl; each = none })
rows-range (l ∷ ls) rs e =
    let a = (bind-eq-some_iff _ _).0 e in
    let b = (bind-eq-some_iff _ _).0 a.2 in
    let t = rows-range ls b.0 b.1 in
    rw (← (some-injective _ _ b.2)) (record { size = ap suc t.size; each = more (row-range l a.0 a.1) t.each })

pub rosters-in-range : RostersInRange
unfolding roster_in
rosters-in-range text rs e =
    let t = (bind-eq-some_iff (lines_in most_lines more_fields text) rows_in).0 e in
    let h = rows-range t.0 rs t.2 in
    let f = few-lines most_lines more_fields text t.0 t.1 in
    record { few = omega (arith, h.size); each = λ r m. all_in h.each m }

-- ---- grants

-- there are cycles left for n grants
abbrev Left : Cycle → ℕ → Type 0
Left c n = n ≤ cycles_since last_cycle c

next-cycle : (c : Cycle) (n : ℕ) → Left c (suc n) → next_cycle c ≡ cycle (c.0 + 1)
next-cycle c n h = rw (lt-ltb c.0 last_cycle.0 (omega arith))

grant-at : (c : Cycle) (d : Day) (rs : List Login) (i : ℕ) → Left c (length rs) → i < length rs
    → announcement_at i (bytes_of (grants_of c d rs)) ≡ announcement_bytes (grant_of (cycle (c.0 + i)) d (get_or rs i no_login))
unfolding grants_of bytes_of
grant-at c d [] i h l = absurd (omega arith)
grant-at c d (r ∷ rs) zero h l =
    let e : c.0 + 0 ≡ c.0 = omega arith in
    rw e (take_at (announcement_bytes (grant_of c d r)) (bytes_of (grants_of (next_cycle c) d rs)) announcement_size (grant-size c d r))
grant-at c d (r ∷ rs) (suc i) h l =
    let a : List ℕ = announcement_bytes (grant_of c d r) in
    let b : List ℕ = bytes_of (grants_of (cycle (c.0 + 1)) d rs) in
    let n : announcement_size * suc i ≡ length a + announcement_size * i = omega (arith, grant-size c d r) in
    let m : c.0 + 1 + i ≡ c.0 + suc i = omega arith in
    let t : announcement_at (suc i) (a ++ b) ≡ announcement_at i b = rw (n, drop-append-add) in
    rw (next-cycle c (length rs) h) (t ∙ rw m at (grant-at (cycle (c.0 + 1)) d rs i (omega arith) (omega arith)))

-- the grants of a roster, and that there are cycles for them
record Imported (c : Cycle) (d : Day) (rs : List Login) (grants : List Announcement) : Type 0 where
  left : Left c (length rs)
  made : grants_of c d rs ≡ grants

imported-of : (text : List ℕ) (c : Cycle) (d : Day) (rs : List Login) (grants : List Announcement) → roster_in text ≡ some rs
    → imported text c d ≡ some grants → Imported c d rs grants
unfolding imported bind
imported-of text c d rs grants e f =
    let t = chosen (leb (length rs) (cycles_since last_cycle c)) (grants_of c d rs) grants (rw e at f) in
    record { left = leb-true _ _ t.0; made = t.1 }

is-grant : (c : Cycle) (d : Day) → c.0 < 2 ^ 32 → d.0 < 2 ^ 32 → (rs : List Login) → AreRows rs → Left c (length rs) → (i : ℕ) → i < length rs
    → IsGrant rs c d (bytes_of (grants_of c d rs)) i
is-grant c d hc hd rs h l i k =
    let r : Login = get_or rs i no_login in
    let t : IsRow r = h.each r (member-at rs i no_login k) in
    record {
      in-time = omega arith;
      read = rw (grant-at c d rs i l k) (announcements-read-back (grant_of (cycle (c.0 + i)) d r) (record {
        cycle = omega arith;
        day = hd;
        action = omega (arith, t.login, t.end, t.rights);
      }));
    }

pub imports-are-grants : ImportsAreGrants
imports-are-grants text c d hc hd rs grants e f =
    let t = imported-of text c d rs grants e f in
    let n = grants-count c d rs in
    rw (← t.made) (record {
      count = n;
      size = rw n (grants-size c d rs);
      each = is-grant c d hc hd rs (rosters-in-range text rs e) t.left;
    })

pub imports-read-again : ImportsReadAgain
imports-read-again text c d hc hd rs grants e f i k =
    let g = (imports-are-grants text c d hc hd rs grants e f).each i k in
    let t = (rosters-in-range text rs e).each (get_or rs i no_login) (member-at rs i no_login k) in
    read_again (announcement_at i (bytes_of grants)) (get_or rs i no_login) (rw g.read) t
