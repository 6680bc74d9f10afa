-- Laws of writes at a position.
use Prim.Native.Nat.{ℕ, suc, ◌+◌, ◌≤◌}
use native.Mathlib.Nat.{add-zero, zero-add, add_assoc, add-suc}
use native.Mathlib.Omega.{arith}
use native.Mathlib.Numerals.{add-one}
use mathlib.Core.Path.{◌≡◌, refl, sym, ap, subst, ◌∙◌}
use mathlib.Core.List.{List, [], ◌∷◌, ◌++◌, append_assoc}
use lib.ListN.{length, set, take, drop, length-append, take-append-drop}
use lib.Seq.{length-take-le, sets, sets-eq, take_at, drop-append-add, drop-drop}
use Rattle.binary.specs.Number.{overwrite}
use Rattle.binary.specs.Splice.{splice}

-- a run of stores
pub splice-sets : (d : List ℕ) (at : ℕ) (v : List ℕ) → at + length v ≤ length d → sets d at v ≡ splice d at v
unfolding splice
splice-sets d at v h = sets-eq v d at h ∙ append_assoc (take at d) v (drop (at + length v) d)

pub splice-none : (d : List ℕ) (at : ℕ) → splice d at [] ≡ d
unfolding splice
splice-none d at = rw add-zero (take-append-drop at d)

-- one write after another, at the place where the first one ended, is one write
pub splice-splice : (d : List ℕ) (at k : ℕ) (v w : List ℕ) → at + length v ≡ k → k ≤ length d → splice (splice d at v) k w ≡ splice d at (v ++ w)
unfolding splice
splice-splice d at k v w e h =
    let p : List ℕ = take at d ++ v in
    let lp : length p ≡ k = simp (length-append, length-take-le at d (omega arith)) e in
    let r : List ℕ = drop (at + length v) d in
    let s : take at d ++ (v ++ r) ≡ p ++ r = sym (append_assoc (take at d) v r) in
    let t : drop (k + length w) (p ++ r) ≡ drop (at + length (v ++ w)) d =
    ap (λ (n : ℕ). drop (n + length w) (p ++ r)) (sym lp) ∙ drop-append-add p r (length w) ∙ drop-drop (length w) (at + length v) d ∙ ap
    (λ (n : ℕ). drop n d) (add_assoc at (length v) (length w) ∙ ap (λ (n : ℕ). at + n) (sym (length-append v w))) in
    ap (λ (l : List ℕ). take k l ++ (w ++ drop (k + length w) l)) s
    ∙ ap (λ (l : List ℕ). l ++ (w ++ drop (k + length w) (p ++ r))) (take_at p r k lp)
    ∙ ap (λ (l : List ℕ). p ++ (w ++ l)) t
    ∙ append_assoc (take at d) v (w ++ drop (at + length (v ++ w)) d)
    ∙ ap (λ (l : List ℕ). take at d ++ l) (sym (append_assoc v w (drop (at + length (v ++ w)) d)))

-- a write at the front
pub splice_front : (d v : List ℕ) (n : ℕ) → length v ≡ n → splice d 0 v ≡ v ++ drop n d
unfolding splice
splice_front d v n e = rw e (ap (λ (k : ℕ). v ++ drop k d) (zero-add n))

pub splice-overwrite : (d v : List ℕ) → splice d 0 v ≡ overwrite v d
unfolding overwrite
splice-overwrite d v = splice_front d v (length v) refl

-- stores at at + i, at + (i + 1), .., as straight-line code leaves them
abbrev pub rest : List ℕ → ℕ → ℕ → List ℕ → List ℕ
rest d at i [] = d
rest d at i (x ∷ v) = rest (set d (at + i) x) at (suc i) v

rest-sets : (d : List ℕ) (at i : ℕ) (v : List ℕ) → rest d at i v ≡ sets d (at + i) v
rest-sets d at i [] = refl
rest-sets d at i (x ∷ v) = rest-sets (set d (at + i) x) at (suc i) v ∙ ap (λ (k : ℕ). sets (set d (at + i) x) k v) (add-suc at i)

pub splice-stores : (d : List ℕ) (at x : ℕ) (v : List ℕ) → at + suc (length v) ≤ length d → rest (set d at x) at 1 v ≡ splice d at (x ∷ v)
splice-stores d at x v h = rest-sets (set d at x) at 1 v ∙ ap (λ (k : ℕ). sets (set d at x) k v) (add-one at) ∙ splice-sets d at (x ∷ v) h

-- one more write, where the last one ended
pub then-put : (d₀ d d' v w : List ℕ) (at k : ℕ) → d' ≡ splice d k w → d ≡ splice d₀ at v → at + length v ≡ k → k ≤ length d₀ → d' ≡ splice d₀ at
    (v ++ w)
then-put d₀ d d' v w at k e p q h = e ∙ ap (λ (l : List ℕ). splice l k w) p ∙ splice-splice d₀ at k v w q h

-- d is d₀ with v written from index at up to index k
pub record Wrote (d₀ : List ℕ) (at k : ℕ) (v d : List ℕ) : Type 0 where
  pub is : d ≡ splice d₀ at v
  pub ends : at + length v ≡ k

pub first-put : (d₀ d v : List ℕ) (at n : ℕ) → d ≡ splice d₀ at v → length v ≡ n → Wrote d₀ at (at + n) v d
first-put d₀ d v at n e l = record { is = e; ends = ap (λ (m : ℕ). at + m) l }

pub next-put : (d₀ d d' v w : List ℕ) (at k n : ℕ) → Wrote d₀ at k v d → d' ≡ splice d k w → length w ≡ n → k ≤ length d₀ → Wrote d₀ at (k + n)
    (v ++ w) d'
next-put d₀ d d' v w at k n h e l b = record {
  is = then-put d₀ d d' v w at k e h.is h.ends b;
  ends = ap (λ (m : ℕ). at + m) (length-append v w) ∙ sym (add_assoc at (length v) (length w)) ∙ ap (λ (m : ℕ). m + length w) h.ends ∙ ap
      (λ (m : ℕ). k + m) l;
}

-- all is written, from the place where it starts
pub all-put : (d₀ d v u : List ℕ) (at k : ℕ) → Wrote d₀ at k v d → v ≡ u → d ≡ splice d₀ at u
all-put d₀ d v u at k h e = h.is ∙ ap (splice d₀ at) e

-- the same for writes that answer where they end, r
pub put_first : (d₀ d v : List ℕ) (at r : ℕ) → r ≡ at + length v → d ≡ splice d₀ at v → Wrote d₀ at r v d
put_first d₀ d v at r e w = record { is = w; ends = sym e }

pub put_next : (d₀ d d' v w : List ℕ) (at k r : ℕ) → Wrote d₀ at k v d → k ≤ length d₀ → r ≡ k + length w → d' ≡ splice d k w
    → Wrote d₀ at r (v ++ w) d'
put_next d₀ d d' v w at k r h b e p = subst (λ (n : ℕ). Wrote d₀ at n (v ++ w) d') (sym e) (next-put d₀ d d' v w at k (length w) h p refl b)

pub put_last : (d₀ d v u : List ℕ) (at r : ℕ) → Wrote d₀ at r v d → v ≡ u → (r ≡ at + length u) × (d ≡ splice d₀ at u)
put_last d₀ d v u at r h e = (sym h.ends ∙ ap (λ (l : List ℕ). at + length l) e, all-put d₀ d v u at r h e)

-- fields one after the other, as a run of writes joins them and as a codec does
abbrev pub lefts : List ℕ → List (List ℕ) → List ℕ
lefts v [] = v
lefts v (w ∷ ws) = lefts (v ++ w) ws

abbrev pub rights : List ℕ → List (List ℕ) → List ℕ
rights v [] = v
rights v (w ∷ ws) = v ++ rights w ws

lefts-append : (u v : List ℕ) (ws : List (List ℕ)) → lefts (u ++ v) ws ≡ u ++ lefts v ws
lefts-append u v [] = refl
lefts-append u v (w ∷ ws) = ap (λ (l : List ℕ). lefts l ws) (append_assoc u v w) ∙ lefts-append u (v ++ w) ws

pub lefts-rights : (v : List ℕ) (ws : List (List ℕ)) → lefts v ws ≡ rights v ws
lefts-rights v [] = refl
lefts-rights v (w ∷ ws) = lefts-append v w ws ∙ ap (λ (l : List ℕ). v ++ l) (lefts-rights w ws)
