-- What a grant evicts, and that it stays out.
use mathlib.Core.Path.{◌≡◌, sym, ap, ◌∙◌, subst}
use mathlib.Core.Bool.{true, false, not}
use Prim.Native.Nat.{ℕ}
use native.Mathlib.Omega.{arith}
use lib.Dec.{eqb}
use Rattle.lists.proofs.TableMembers.{rising-one}
use Rattle.state.specs.declared.Cycle.{Cycle}
use Rattle.state.specs.declared.Login.{Login}
use Rattle.state.specs.declared.State.{State}
use Rattle.state.specs.Rows.{is_login}
use Rattle.tables.specs.Logins.{find_login, is_listed}
use Rattle.tables.proofs.FoundLogins.{found-row}
use Rattle.checkpoint.specs.Checkpoint.{read_checkpoint}
use Rattle.actions.specs.Perform.{perform}
use Rattle.actions.specs.Evictions.{Evicts}
use Rattle.actions.proofs.Performed.{end-drops}
use Rattle.actions.proofs.Evictions.{one-evicted}
use Rattle.actions.proofs.Sound.{sound-of}
use Rattle.node.specs.Answers.{query_number}
use Rattle.node.specs.Query.{query_of}
use Rattle.node.proofs.Query.{query-comes-to}
use Rattle.agreement.specs.Chain.{Step}
use Rattle.agreement.proofs.Chain.{agree}
use Rattle.agreement.proofs.Demand.{opened, not-before-given, taken, advances, from_first, one, stays_out}
use Rattle.assurance.specs.Evictions.{ListedRowsStay, EvictedWasClosed, ends, evicts, DroppedStaysOut, EvictAlike}
use Rattle.assurance.proofs.Facts.{step-well-formed, step-rows}

pub listed-rows-stay : ListedRowsStay
listed-rows-stay first calls park p = step-rows first calls park p.state p.announcement (taken p)

-- The row that a query for the evicted login finds is the evicted one.
pub evicted-was-closed : EvictedWasClosed
unfolding is_listed
evicted-was-closed first calls park p x r E n same qb q rq named late said =
    let O = opened n qb q rq (query_of n qb) (query-comes-to n qb) (ap query_number said) in
    let rows = p.state.logins in
    let found = find_login q.login rows in
    let there : is_login found ≡ true = ap (λ (s : State). is_listed q.login s.logins) (sym same) ∙ O.listed in
    let row = found-row q.login rows there in
    let one_name : found.login ≡ r.login = row.1 ∙ named in
    let used : is_login r ≡ true = ap (λ (l : ℕ). not (eqb l 0)) (sym one_name) ∙ there in
    let table = (sound-of p.state (step-well-formed first calls park p.state p.announcement (taken p))).logins in
    let evicted : found ≡ r = rising-one table.rising row.0 E.earliest.listed there used one_name in
    let end = ap (λ (l : Login). l.end.0) (ap (λ (s : State). find_login q.login s.logins) same ∙ evicted) in
    omega (arith, end, O.not-ended, not-before-given q.day n.state.day, E.over, late)

pub dropped-stays-out : DroppedStaysOut
dropped-stays-out first calls park bound p o (ends e) late =
    stays_out first calls park bound p o (end-drops p.state p.announcement o.query.login e) late
dropped-stays-out first calls park bound p o (evicts x r E e) late =
    stays_out first calls park bound p o (subst (λ (l : ℕ). is_listed l (perform p.state p.announcement).logins ≡ false) e E.gone) late

-- One state and one announcement to a cycle, so one row.
pub evict-alike : EvictAlike
evict-alike first calls park bound p q c x y r t E F =
    let state = agree (read_checkpoint first).state (Step calls) (one first calls park bound) (advances first calls park)
    (from_first first calls park p) (from_first first calls park q) (ap (λ (k : Cycle). k.0) c) in
    let act = one first calls park bound q.state p.announcement q.announcement
    (subst (λ (s : State). Step calls s p.announcement) state (taken p)) (taken q) in
    let same : Evicts q.state q.announcement x r = subst (λ a. Evicts q.state a x r) act (subst (λ s. Evicts s p.announcement x r) state E) in
    one-evicted q.state q.announcement x y r t same F
