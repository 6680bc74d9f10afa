-- The computed histories.
use mathlib.Core.Path.{◌≡◌, refl, sym, ap, ◌∙◌, subst}
use mathlib.Core.Logic.{◌⊎◌, inl, inr}
use mathlib.Core.Bool.{Bool, true, false, cond, ◌&&◌, and-eq-true_iff}
use mathlib.Core.List.Memᴰ
use mathlib.Core.List.{List, [], ◌∷◌, ◌++◌, Memᴰ, map}
use mathlib.Core.Option.{some}
use Prim.Native.Nat.{ℕ, zero, suc, ◌+◌}
use native.Mathlib.Omega.{arith}
use lib.Dec.{eqb, ltb}
use lib.ListN.{get_or, replicate}
use borrow.Author.Tests.{ltb-true}
use Rattle.lists.specs.Fold.{all}
use Rattle.binary.specs.Number.{Bytes, to_bytes, overwrite}
use Rattle.binary.specs.Codec.{encode_rows}
use Rattle.state.specs.declared.Cycle.{Cycle}
use Rattle.state.specs.declared.State.{State}
use Rattle.tables.specs.Logins.{is_listed}
use Rattle.records.specs.declared.Announcement.{Announcement}
use Rattle.std.specs.Prelude.{Some}
use Rattle.records.specs.Announcement.{read_announcement}
use Rattle.checkpoint.specs.Layout as layout
use Rattle.checkpoint.specs.Layout.{tables_at}
use Rattle.checkpoint.specs.Checkpoint.{checkpoint_bytes, is_checkpoint}
use Rattle.node.specs.Start.{start_of}
use Rattle.node.specs.Deliver.{deliver_of}
use Rattle.node.specs.WellFormed.{is_well_formed_vote, is_well_formed_own}
use Rattle.image.specs.Image.{image_bytes, decode_image, is_image, read_image}
use Rattle.node_c.specs.Calls.{return, on_image, node_start, node_deliver}
use Rattle.examples.specs.Records.{first_checkpoint, start_seat0, grant_to, two_rows}
use Rattle.examples.specs.TableOfNo.{numbered}
use Rattle.examples.proofs.Compute.{calls-by-value}
use Rattle.agreement.specs.History.{by_value, through_c, Call, start, deliver, query, checkpoint, History, Cluster, empty, run, Moment}
use Rattle.agreement.specs.History.{moments_from, moments, answer}
use Rattle.agreement.specs.Claims.{PerformedIn, HeldIn, HoldsBytes, Park, EquivocationBound, Agreement, run_all}
use Rattle.agreement.specs.NotIdle.{start_seat1, other_rows, end501, peaceful, divided, WithinBound, BeyondBound}
use Rattle.agreement.specs.NotIdle.{full_checkpoint, end200, evicting, logins_at, EvictsWithinBound}
use Rattle.agreement.proofs.Demand.{advances, taken}

-- what unfolds where calls at hosts are computed
unfoldable pub calls-at-hosts : Unit {0}
unfolding calls-by-value to_bytes overwrite encode_rows checkpoint_bytes image_bytes decode_image is_well_formed_vote is_well_formed_own is_image read_image
    return on_image node_start node_deliver run moments_from
calls-at-hosts = tt

-- ---- of every call of a list

abbrev pub Each : (Call → Type 0) → History → Type 0
Each P [] = Unit {0}
Each P (c ∷ cs) = P c × Each P cs

pub each_of : (p : Call → Bool) (cs : History) → all p cs ≡ true → Each (λ c. p c ≡ true) cs
unfolding all
each_of p [] e = tt
each_of p (c ∷ cs) e = let t = (and-eq-true_iff (p c) (all p cs)).0 e in (t.0, each_of p cs t.1)

each : (P : Call → Type 0) (w : Cluster) (cs : History) → Each P cs → (t : Moment) → Memᴰ t (moments_from w cs) → P t.call
unfolding moments_from
each P w [] h t m = absurd (Memᴰ.not-nil m)
each P w (c ∷ cs) h t m = pick (λ i. each P (run w c).after cs h.1 t i) (Memᴰ.cases_cons m)
  where
    pick : (Memᴰ t (moments_from (run w c).after cs) → P t.call) → (t ≡ record { before = w; call = c }) ⊎ Memᴰ t
        (moments_from (run w c).after cs) → P t.call
    pick ih (inl e) = rw e h.0
    pick ih (inr i) = ih i

-- ---- the slices hold bytes

abbrev pub is_bytes : List ℕ → Bool
is_bytes b = all (λ x. ltb x 256) b

pub bytes : (b : List ℕ) → is_bytes b ≡ true → Bytes b
unfolding all
bytes [] e i = omega arith
bytes (x ∷ xs) e zero = let t = simp and-eq-true_iff at e in ltb-true x 256 t.0
bytes (x ∷ xs) e (suc i) = let t = simp and-eq-true_iff at e in bytes xs t.1 i

abbrev pub holds_bytes : Call → Bool
holds_bytes (start h cb rb out) = is_bytes cb && (is_bytes rb && is_bytes out)
holds_bytes (deliver h ab sb out) = is_bytes ab && (is_bytes sb && is_bytes out)
holds_bytes (query h qb out) = is_bytes qb && is_bytes out
holds_bytes (checkpoint h out) = is_bytes out

pub holds-bytes : (c : Call) → holds_bytes c ≡ true → HoldsBytes c
holds-bytes (start h cb rb out) e = let t = simp and-eq-true_iff at e in (bytes cb t.0, bytes rb t.1.0, bytes out t.1.1)
holds-bytes (deliver h ab sb out) e = let t = simp and-eq-true_iff at e in (bytes ab t.0, bytes sb t.1.0, bytes out t.1.1)
holds-bytes (query h qb out) e = let t = simp and-eq-true_iff at e in (bytes qb t.0, bytes out t.1)
holds-bytes (checkpoint h out) e = bytes out e

-- ---- the starts are from the first checkpoint

abbrev pub FromFirst : List ℕ → Call → Type 0
FromFirst first (start h cb rb out) = cb ≡ first
FromFirst first (deliver h ab sb out) = Unit {0}
FromFirst first (query h qb out) = Unit {0}
FromFirst first (checkpoint h out) = Unit {0}

-- So the list is one of a park.
pub park : (first : List ℕ) (calls : History) → is_bytes first ≡ true → is_checkpoint first ≡ true → all holds_bytes calls ≡ true → Each
    (FromFirst first) calls → Park first calls
park first calls k c b f = record {
  first-bytes = bytes first k;
  first-checkpoint = c;
  bytes = λ t m. holds-bytes t.call (each (λ c. holds_bytes c ≡ true) empty calls (each_of holds_bytes calls b) t m);
  starts = λ t m h cb rb out e a. inl (subst (FromFirst first) e (each (FromFirst first) empty calls f t m));
}

first-accepted : is_checkpoint first_checkpoint ≡ true
unfolding calls-by-value
first-accepted = refl

-- ---- one announcement to a cycle

abbrev AsAnnounced : (ℕ → List ℕ) → Call → Type 0
AsAnnounced g (start h cb rb out) = Unit {0}
AsAnnounced g (deliver h ab sb out) = (a : Announcement) → read_announcement ab ≡ Some a → ab ≡ g a.cycle.0
AsAnnounced g (query h qb out) = Unit {0}
AsAnnounced g (checkpoint h out) = Unit {0}

bounded : (first : List ℕ) (calls : History) (g : ℕ → List ℕ) → Park first calls → Each (AsAnnounced g) calls → EquivocationBound calls
bounded first calls g k d p q s n =
    let x = (advances first calls k p.state p.announcement (taken p)).this in
    let y = (advances first calls k q.state q.announcement (taken q)).this in
    let same = x ∙ ap (λ (u : State). u.cycle) s ∙ sym y in
    absurd (n (announced-by p ∙ ap (λ (c : Cycle). g c.0) same ∙ sym (announced-by q)))
  where
    announced-by : (r : PerformedIn calls) → r.bytes ≡ g r.announcement.cycle.0
    announced-by r =
        let p = r.performed in
        subst (AsAnnounced g) p.called (each (AsAnnounced g) empty calls d r.moment r.in_list) r.announcement p.read

-- ---- within the bound

peaceful-park : Park first_checkpoint peaceful
unfolding all
peaceful-park = park first_checkpoint peaceful refl first-accepted refl (refl, (refl, (tt, (tt, (tt, (tt, tt))))))

-- the grant in cycle 1, and another announcement afterwards
announced : List ℕ → ℕ → List ℕ
announced later c = cond (eqb c 1) (grant_to 120) later

-- bytes that are read as an announcement of cycle c
of-cycle : (later ab : List ℕ) (b : Announcement) → read_announcement ab ≡ Some b → ab ≡ announced later b.cycle.0
    → (a : Announcement) → read_announcement ab ≡ Some a → ab ≡ announced later a.cycle.0
of-cycle later ab b e f a r = let w : Some b ≡ Some a = sym e ∙ r in let same : b ≡ a = cc in subst
    (λ (x : Announcement). ab ≡ announced later x.cycle.0) same f

granted : (later : List ℕ) (a : Announcement) → read_announcement (grant_to 120) ≡ Some a → grant_to 120 ≡ announced later a.cycle.0
unfolding calls-by-value announced
granted later = of-cycle later (grant_to 120) _ refl refl

ended : (a : Announcement) → read_announcement end501 ≡ Some a → end501 ≡ announced end501 a.cycle.0
unfolding calls-by-value announced
ended = of-cycle end501 end501 _ refl refl

answered : map answer (moments peaceful) ≡ replicate 6 (some 0)
unfolding calls-at-hosts
answered = refl

pub within-bound : WithinBound
within-bound = record {
  park = peaceful-park;
  bound = bounded first_checkpoint peaceful (announced end501) peaceful-park (tt, (tt, (granted end501, (granted end501, (ended, (ended, tt))))));
  performed = answered;
}

-- ---- within the bound, with a list that is full

evicting-park : Park full_checkpoint evicting
unfolding calls-at-hosts all numbered
evicting-park = park full_checkpoint evicting refl refl refl (refl, (refl, (tt, (tt, (tt, tt)))))

not-ended : (a : Announcement) → read_announcement end200 ≡ Some a → end200 ≡ announced end200 a.cycle.0
unfolding calls-by-value announced
not-ended = of-cycle end200 end200 _ refl refl

evicting-answered : map answer (moments evicting) ≡ replicate 4 (some 0) ++ (some 13 ∷ [])
unfolding calls-at-hosts numbered
evicting-answered = refl

evicting-by-value : map (λ l. is_listed l (logins_at (by_value 0))) (200 ∷ 210 ∷ 501 ∷ []) ≡ false ∷ true ∷ true ∷ []
unfolding calls-at-hosts numbered run_all
evicting-by-value = refl

evicting-through-C : map (λ l. is_listed l (logins_at (through_c 1))) (200 ∷ 210 ∷ 501 ∷ []) ≡ false ∷ true ∷ true ∷ []
unfolding calls-at-hosts numbered run_all
evicting-through-C = refl

pub evicts-within-bound : EvictsWithinBound
evicts-within-bound = record {
  park = evicting-park;
  bound = bounded full_checkpoint evicting (announced end200) evicting-park (tt, (tt, (granted end200, (granted end200, (not-ended, tt)))));
  answered = evicting-answered;
  dropped_by_value = evicting-by-value;
  through-C = evicting-through-C;
}

-- ---- beyond the bound

divided-answered : map answer (moments divided) ≡ replicate 4 (some 0)
unfolding calls-at-hosts
divided-answered = refl

divided-park : Park first_checkpoint divided
unfolding all
divided-park = park first_checkpoint divided refl first-accepted refl (refl, (refl, (tt, (tt, tt))))

split : ¬ Agreement divided
unfolding calls-at-hosts
split A =
    let n = (deliver_of (start_of first_checkpoint start_seat0).node (grant_to 120) (two_rows 0)).node in
    let k = (deliver_of (start_of first_checkpoint start_seat1).node (grant_to 121) other_rows).node in
    let third = Memᴰ.tail (Memᴰ.tail (Memᴰ.head refl)) in
    let fourth = Memᴰ.tail (Memᴰ.tail (Memᴰ.tail (Memᴰ.head refl))) in
    let one : HeldIn divided = record { moment = _; in_list = third; host = by_value 0; node = n; held = refl } in
    let other : HeldIn divided = record { moment = _; in_list = fourth; host = through_c 1; node = k; held = refl } in
    let e = A one other refl in
    let z : ◌≡◌ {A = ℕ} 120 121 = ap (λ (b : List ℕ). get_or b (tables_at + layout.logins_at + 4) 0) e in
    omega arith

pub beyond-bound : BeyondBound
beyond-bound = record { park = divided-park; performed = divided-answered; splits = split }
