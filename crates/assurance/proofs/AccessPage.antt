-- The access page.
use mathlib.Core.Path.{◌≡◌, refl, sym, ap, ◌∙◌}
use mathlib.Core.Logic.{◌≢◌, ◌⊎◌, inl, inr}
use mathlib.Core.Bool.{Bool, true, false, and-eq-true_iff, true≢false}
use mathlib.Core.List.{List, map, map-map, Memᴰ}
use Prim.Native.Nat.{ℕ, ◌*◌, ◌<◌}
use native.Mathlib.Omega.{arith}
use lib.ListN.{length, length-map}
use borrow.Author.Tests.{eq-eqb, ne_eqb, lt-leb}
use Rattle.lists.specs.Fold.{first}
use Rattle.lists.proofs.Every.{All, all_map, all-mapped, all_keep}
use Rattle.lists.proofs.Members.{all_in, to-keep, of-keep}
use Rattle.lists.proofs.Count.{length-kept}
use Rattle.lists.proofs.Firsts.{first-listed}
use Rattle.lists.proofs.Tables.{Rising, unused, row, rising-of}
use Rattle.lists.proofs.TableMembers.{rising-above}
use Rattle.binary.specs.Codec.{decode_rows}
use Rattle.binary.proofs.Codec.{read_back, fits_each, fits-rows, rows_back}
use Rattle.state.specs.declared.Day.{Day}
use Rattle.state.specs.declared.Login.{Login}
use Rattle.state.specs.declared.State.{State}
use Rattle.state.specs.Limits.{login_rows}
use Rattle.state.specs.Time.{later_day}
use Rattle.state.specs.Seats.{retired}
use Rattle.state.specs.Rows.{no_login, is_login, is_ended, holds_right}
use Rattle.state.specs.WellFormed.{are_well_formed_logins}
use Rattle.tables.specs.Logins.{is_named, is_listed, find_login}
use Rattle.page.specs.Layout.{line_size}
use Rattle.page.specs.Line.{Line, line}
use Rattle.page.specs.Page.{listed, line_count, lines_of, is_silent_on, page_text}
use Rattle.page.proofs.ReadBack.{line-back}
use Rattle.page.proofs.Rows.{InWidth, line-fits, lines-size}
use Rattle.records.specs.declared.Query.{Query}
use Rattle.std.specs.Prelude.{Option}
use Rattle.checkpoint.specs.Format.{login}
use Rattle.checkpoint.specs.Checkpoint.{Fits}
use Rattle.verdicts.specs.Own.{held_seat}
use Rattle.verdicts.specs.Attempts.{most_misses, misses_at}
use Rattle.verdicts.proofs.Misses.{all-in-range}
use Rattle.verdicts.specs.Verdicts.{login_refusal, query_refusal}
use Rattle.node.specs.declared.Node.{Node}
use Rattle.node.specs.Answers.{query_number}
use Rattle.node.specs.Query.{ask_record, ask_of, query_of}
use Rattle.node.proofs.QueryLowest.{answer-number}
use Rattle.node.specs.Page.{page_of, page_slice}
use Rattle.agreement.proofs.Demand.{same-state}
use Rattle.assurance.specs.AccessPage.{line_in, number_of, WordAgrees, PageRowsAreFound, PageReadBack, Shown}
use Rattle.assurance.specs.AccessPage.{SamePageSameList, PageKeepsNode, PagesAgree}

-- ---- the word and the query

module _ (n : Node) (q : Query) where
  abbrev t : Day
  t = later_day q.day n.state.day

  abbrev found : Login
  found = find_login q.login n.state.logins

  by-rules : (held_seat n.state n.own).standing ≢ retired → misses_at q.door n.counts < most_misses → is_login found ≡ true
      → holds_right q.right found ≡ true → query_refusal n.state n.own n.counts q ≡ number_of (line_in n.state q.day found).word
  unfolding query_refusal login_refusal
  by-rules runs unlocked is-listed holds = at (is_silent_on n.state q.day) refl (is_ended t found) refl
    where
      at : (s : Bool) → is_silent_on n.state q.day ≡ s → (e : Bool) → is_ended t found ≡ e
          → query_refusal n.state n.own n.counts q ≡ number_of (line_in n.state q.day found).word
      at true a e b = rw (ne_eqb _ _ runs, lt-leb _ _ unlocked, a)
      at false a true b = rw (ne_eqb _ _ runs, lt-leb _ _ unlocked, a, is-listed, b)
      at false a false b = rw (ne_eqb _ _ runs, lt-leb _ _ unlocked, a, is-listed, b, holds)

pub word-agrees : WordAgrees
unfolding query_of ask_of is_listed
word-agrees n qb q rq within runs unlocked is-listed holds =
    ap (λ (x : Option Query). query_number (ask_record n.state n.own n.counts x).answer) rq
    ∙ rw (all-in-range n.counts within) (answer-number n.counts q.door (query_refusal n.state n.own n.counts q))
    ∙ by-rules n q runs unlocked is-listed holds

-- ---- the rows of the page

-- a row that is found is a row of the list
found-member : (l : ℕ) (rows : List Login) → is_listed l rows ≡ true → Memᴰ (find_login l rows) rows
unfolding is_listed find_login
found-member l rows e = pick (first-listed (is_named l) no_login rows)
  where
    pick : (first (is_named l) no_login rows ≡ no_login)
        ⊎ (Memᴰ (first (is_named l) no_login rows) rows × (is_named l (first (is_named l) no_login rows) ≡ true))
        → Memᴰ (first (is_named l) no_login rows) rows
    pick (inl z) = absurd (true≢false (sym e ∙ ap is_login z))
    pick (inr m) = m.0

-- a query for the login of a row of a rising list finds that row
finds : {lo : ℕ} {rows : List Login} → Rising is_login (λ r. r.login) lo rows → (r : Login) → Memᴰ r rows → is_login r ≡ true
    → find_login r.login rows ≡ r
unfolding find_login first
finds (unused h) r m u = absurd (true≢false (sym u ∙ all_in h m))
finds (row v l h) r (Memᴰ.head e) u = rw (← e, eq-eqb r.login r.login refl)
finds (row {r = x} v l h) r (Memᴰ.tail m) u =
    let k = rising-above h m u in
    rw (ne_eqb x.login r.login (λ (z : x.login ≡ r.login). omega arith)) (finds h r m u)

pub page-rows-are-found : PageRowsAreFound
unfolding are_well_formed_logins is_listed
page-rows-are-found rows = record {
  shown = λ l e. to-keep is_login (found-member l rows e) e;
  found = λ w r m.
      let k = of-keep is_login rows m in
      let t = (and-eq-true_iff _ _).0 w in
      finds (rising-of 1 rows t.0) r k.0 k.1;
}

-- ---- read back

-- the rows of a state in memory
in-width : (s : State) → Fits s → All InWidth s.logins
in-width s h = all_map (λ r f. (omega arith, omega arith)) (fits_each login login_rows s.logins h.1.1.1.1)

module _ (s : State) (h : Fits s) (given : Day) where
  abbrev lines : List Line
  lines = map (line_in s given) (listed s.logins)

  lines_fit : All line.Fits lines
  lines_fit =
      all-mapped line.Fits (line_in s given)
      (all_keep is_login (all_map (λ r f. line-fits (is_silent_on s given) (later_day given s.day) r f) (in-width s h)))

  line-number : length lines ≡ line_count s
  line-number = length-map (listed s.logins) (line_in s given) ∙ length-kept is_login s.logins

  page-size : length (page_text s given) ≡ line_size * line_count s
  unfolding page_text
  page-size = lines-size (is_silent_on s given) (later_day given s.day) (in-width s h)

  page-lines : decode_rows line (line_count s) (page_text s given) ≡ lines
  unfolding page_text lines_of
  page-lines = rw (← line-number) (read_back (rows_back line-back (length lines)) lines (fits-rows line lines_fit))

pub page-read-back : PageReadBack
page-read-back s h given = page-lines s h given

-- what a line shows of its row
shown : Line → Shown
shown x = record { login = x.login; end = x.end; rights = x.rights }

pub same-page-same-list : SamePageSameList
unfolding shown
same-page-same-list s u f g d e same =
    let counts : line_count s ≡ line_count u = (let k = ap length same in omega (arith, page-size s f d, page-size u g e)) in
    let both : lines s f d ≡ lines u g e =
    sym (page-lines s f d) ∙ ap (λ (n : ℕ). decode_rows line n (page_text s d)) counts ∙ ap (decode_rows line (line_count u)) same ∙ page-lines u g e in
    sym (map-map shown (line_in s d) (listed s.logins)) ∙ ap (map shown) both ∙ map-map shown (line_in u e) (listed u.logins)

-- ---- nodes

pub page-keeps-node : PageKeepsNode
unfolding page_of
page-keeps-node n out = refl

pub pages-agree : PagesAgree
unfolding page_of page_slice
pages-agree first calls park bound n k c given out =
    let same = same-state first calls park bound n k c in
    record { text = rw same; answer = rw same; slice = rw same }
