-- Laws of maps of runs that are one to one.
use mathlib.Core.Path.{◌≡◌, refl, sym, ap, ap₂, subst, ◌∙◌}
use mathlib.Core.List.{List, [], ◌∷◌, ◌++◌}
use Prim.Native.Nat.{ℕ, suc, ◌+◌, ◌*◌}
use native.Mathlib.Nat.{mul-suc, add_comm}
use native.Mathlib.Omega.{arith}
use lib.ListN.{length, take, drop, length-append, length-drop, take-append-drop}
use lib.Seq.{length-take-le, take_at, drop_at}
use Rattle.binary.proofs.Number.{bytes_take, bytes_drop}
use Rattle.shares.specs.Polynomial.{sums}
use Rattle.shares.specs.Claims.{IsRun, Bijection}
use Rattle.shares.proofs.Parts.{append-bytes}
use Rattle.shares.proofs.Sums.{sums-length, sums-bytes, sums-twice}

-- a run in two parts

run-append : (m n : ℕ) (a b : List ℕ) → IsRun m a → IsRun n b → IsRun (m + n) (a ++ b)
run-append m n a b p q = record { size = length-append a b ∙ ap₂ ◌+◌ p.size q.size; bytes = append-bytes a b p.bytes q.bytes }

run_take : (m n : ℕ) (l : List ℕ) → IsRun (m + n) l → IsRun m (take m l)
run_take m n l r = record { size = length-take-le m l (omega (arith, r.size)); bytes = bytes_take m l r.bytes }

run_drop : (m n : ℕ) (l : List ℕ) → IsRun (m + n) l → IsRun n (drop m l)
run_drop m n l r = record { size = length-drop m l ∙ (omega (arith, r.size)); bytes = bytes_drop m l r.bytes }

pub run-sums : (m : ℕ) (a b : List ℕ) → IsRun m a → IsRun m b → IsRun m (sums a b)
run-sums m a b p q =
    record { size = sums-length a b (omega (arith, p.size, q.size)) ∙ p.size; bytes = sums-bytes a b p.bytes q.bytes }

-- maps that are equal on runs

pub same_map : (m : ℕ) (f g : List ℕ → List ℕ) → ((l : List ℕ) → IsRun m l → f l ≡ g l) → Bijection m g → Bijection m f
same_map m f g same b = record {
  into = λ l h. subst (IsRun m) (sym (same l h)) (b.into l h);
  onto = λ r h. let x = b.onto r h in (x.0, x.1, same x.0 x.1 ∙ x.2);
  one-to-one = λ l k p q e. b.one-to-one l k p q (sym (same l p) ∙ e ∙ same k q);
}

-- a run is added first
pub after-sum : (m : ℕ) (a : List ℕ) → IsRun m a → (f : List ℕ → List ℕ) → Bijection m f → Bijection m (λ l. f (sums a l))
after-sum m a r f b = record {
  into = λ l h. b.into (sums a l) (run-sums m a l r h);
  onto = λ s h. let x = b.onto s h in (sums a x.0, run-sums m a x.0 r x.1, ap f (twice x.0 x.1) ∙ x.2);
  one-to-one = λ l k p q e.
      sym (twice l p) ∙ ap (sums a) (b.one-to-one (sums a l) (sums a k) (run-sums m a l r p) (run-sums m a k r q) e) ∙ twice k q;
}
  where
    twice : (l : List ℕ) → IsRun m l → sums a (sums a l) ≡ l
    twice l h = sums-twice a l (omega (arith, r.size, h.size))

-- the second part's map depends on the first part
module _ (m n : ℕ) (f : List ℕ → List ℕ) (g : List ℕ → List ℕ → List ℕ) (bf : Bijection m f) (bg : (l : List ℕ) → IsRun m l → Bijection n (g l)) where
  abbrev both : List ℕ → List ℕ
  both l = f (take m l) ++ g (take m l) (drop m l)

  into : (l : List ℕ) → IsRun (m + n) l → IsRun (m + n) (both l)
  into l h =
      let a = run_take m n l h in
      run-append m n (f (take m l)) (g (take m l) (drop m l)) (bf.into (take m l) a) ((bg (take m l) a).into (drop m l) (run_drop m n l h))

  onto : (r : List ℕ) → IsRun (m + n) r → (l : List ℕ) × IsRun (m + n) l × (both l ≡ r)
  onto r h =
      let x = bf.onto (take m r) (run_take m n r h) in
      let a = x.0 in
      let y = (bg a x.1).onto (drop m r) (run_drop m n r h) in
      let b = y.0 in
      let t : take m (a ++ b) ≡ a = take_at a b m x.1.size in
      let d : drop m (a ++ b) ≡ b = drop_at a b m x.1.size in (
        a ++ b,
        run-append m n a b x.1 y.1,
        ap₂ (λ (p q : List ℕ). f p ++ g p q) t d ∙ ap₂ ◌++◌ x.2 y.2 ∙ take-append-drop m r,
      )

  one-to-one : (l k : List ℕ) → IsRun (m + n) l → IsRun (m + n) k → both l ≡ both k → l ≡ k
  one-to-one l k p q e =
      let a = run_take m n l p in
      let c = run_take m n k q in
      let sl = (bf.into (take m l) a).size in
      let sk = (bf.into (take m k) c).size in
      let fl = f (take m l) in
      let gl = g (take m l) (drop m l) in
      let gk = g (take m k) (drop m k) in
      let first : take m l ≡ take m k =
      bf.one-to-one (take m l) (take m k) a c (sym (take_at fl gl m sl) ∙ ap (take m) e ∙ take_at (f (take m k)) gk m sk) in
      let second : gl ≡ gk = sym (drop_at fl gl m sl) ∙ ap (drop m) e ∙ drop_at (f (take m k)) gk m sk in
      let rest : drop m l ≡ drop m k =
      (bg (take m l) a).one-to-one (drop m l) (drop m k) (run_drop m n l p) (run_drop m n k q) (second ∙ ap (λ (t : List ℕ). g t (drop m k)) (sym first)) in
      sym (take-append-drop m l) ∙ ap₂ ◌++◌ first rest ∙ take-append-drop m k

  pub in-turn : Bijection (m + n) (λ l. f (take m l) ++ g (take m l) (drop m l))
  in-turn = record { into = into; onto = onto; one-to-one = one-to-one }

-- one part of m bytes before c such parts
pub one_more : (m c : ℕ) (f : List ℕ → List ℕ) (g : List ℕ → List ℕ → List ℕ) → Bijection m f → ((l : List ℕ) → IsRun m l → Bijection (m * c) (g l))
    → Bijection (m * suc c) (λ l. f (take m l) ++ g (take m l) (drop m l))
one_more m c f g bf bg =
    subst (λ (n : ℕ). Bijection n (λ l. f (take m l) ++ g (take m l) (drop m l))) (add_comm m (m * c) ∙ sym (mul-suc m c)) (in-turn m (m * c) f g bf bg)

-- no bytes at all
pub of_none : (f : List ℕ → List ℕ) → ((l : List ℕ) → f l ≡ []) → Bijection 0 f
of_none f e = record {
  into = λ l h. subst (IsRun 0) (sym (e l)) nothing;
  onto = λ r h. ([], nothing, e [] ∙ sym (empty r h));
  one-to-one = λ l k p q _. empty l p ∙ sym (empty k q);
}
  where
    nothing : IsRun 0 []
    nothing = record { size = refl; bytes = λ i. omega arith }

    empty : (l : List ℕ) → IsRun 0 l → l ≡ []
    empty [] h = refl
    empty (x ∷ l) h = let z : suc (length l) ≡ 0 = h.size in absurd (omega arith)
