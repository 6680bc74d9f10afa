-- Laws of lists that are given place by place.
use mathlib.Core.Path.{◌≡◌, refl, sym, ap, subst, ◌∙◌}
use mathlib.Core.List.{List, [], ◌∷◌, ◌++◌, append_assoc, append-nil}
use Prim.Native.Nat.{ℕ, zero, suc, ◌+◌, ◌<◌, ◌≤◌}
use native.Mathlib.Nat.{not-suc-le-zero, add-zero}
use native.Mathlib.Decide.{dec_lt}
use native.Mathlib.Numerals.{add-one}
use native.Mathlib.Omega.{arith}
use lib.ListN.{length, drop, get_or, set, length-append, get_or-append, get_or-eq_default, drop_of_length-le, replicate, length-replicate, get_or-replicate}
use lib.Seq.{ext_get_or, get_or-append_seam, get_or-append-add, get_or-drop, drop-cons, set_at}
use Rattle.binary.specs.Number.{Bytes}
use Rattle.shares.specs.Shares.{tabulate}

pub tabulate-length : (n : ℕ) (f : ℕ → ℕ) → length (tabulate n f) ≡ n
unfolding tabulate
tabulate-length zero f = refl
tabulate-length (suc n) f = length-append (tabulate n f) (f n ∷ []) ∙ add-one (length (tabulate n f)) ∙ ap suc (tabulate-length n f)

pub tabulate-at : (n : ℕ) (f : ℕ → ℕ) (i : ℕ) → i < n → get_or (tabulate n f) i 0 ≡ f i
unfolding tabulate
tabulate-at zero f i h = absurd (not-suc-le-zero h)
tabulate-at (suc n) f i h = go (tabulate-at n f i) (dec_lt i n)
  where
    go : (i < n → get_or (tabulate n f) i 0 ≡ f i) → Dec (i < n) → get_or (tabulate n f ++ (f n ∷ [])) i 0 ≡ f i
    go ih (yes l) = get_or-append (tabulate n f) (f n ∷ []) 0 i (subst (λ (m : ℕ). i < m) (sym (tabulate-length n f)) l) ∙ ih l
    go ih (no g) =
        let e : i ≡ n = omega arith in
        ap (λ (m : ℕ). get_or (tabulate n f ++ (f n ∷ [])) m 0) (e ∙ sym (tabulate-length n f))
        ∙ get_or-append_seam (tabulate n f) (f n) [] 0
        ∙ ap f (sym e)

-- two of them are equal where they are so place by place
pub tabulate-same : (n : ℕ) (f : ℕ → ℕ) (l : List ℕ) → length l ≡ n → ((i : ℕ) → i < n → f i ≡ get_or l i 0) → tabulate n f ≡ l
tabulate-same n f l e same =
    ext_get_or 0 (tabulate n f) l (tabulate-length n f ∙ sym e)
    (λ i h. let m : i < n = omega (arith, h, tabulate-length n f) in tabulate-at n f i m ∙ same i m)

pub tabulate-ext : (n : ℕ) (f g : ℕ → ℕ) → ((i : ℕ) → i < n → f i ≡ g i) → tabulate n f ≡ tabulate n g
tabulate-ext n f g same = tabulate-same n f (tabulate n g) (tabulate-length n g) (λ i h. same i h ∙ sym (tabulate-at n g i h))

pub tabulate-bytes : (n : ℕ) (f : ℕ → ℕ) → ((i : ℕ) → f i < 256) → Bytes (tabulate n f)
tabulate-bytes n f small i = go (dec_lt i n)
  where
    go : Dec (i < n) → get_or (tabulate n f) i 0 < 256
    go (yes l) = rw (tabulate-at n f i l) (small i)
    go (no g) = rw (get_or-eq_default (tabulate n f) 0 (let l : length (tabulate n f) ≤ i = omega (arith, tabulate-length n f) in l)) (omega arith)

-- element i of what follows a list of n
pub behind : (l r : List ℕ) (n i : ℕ) → length l ≡ n → get_or (l ++ r) (n + i) 0 ≡ get_or r i 0
behind l r n i e = ap (λ (m : ℕ). get_or (l ++ r) (m + i) 0) (sym e) ∙ get_or-append-add l r i 0

-- the list d, once a loop has written the first i of them to its front
pub record Tabulated (d : List ℕ) (i : ℕ) (f : ℕ → ℕ) (l : List ℕ) : Type 0 where
  pub is : l ≡ tabulate i f ++ drop i d

pub tabulated_none : (d : List ℕ) (f : ℕ → ℕ) → Tabulated d 0 f d
unfolding tabulate
tabulated_none d f = record { is = refl }

module _ {d l : List ℕ} {i : ℕ} {f : ℕ → ℕ} (so_far : Tabulated d i f l) where
  -- what it has not come to stands as before
  pub tabulated_next : get_or l i 0 ≡ get_or d i 0
  tabulated_next =
      ap (λ (q : List ℕ). get_or q i 0) so_far.is
      ∙ ap (λ (m : ℕ). get_or (tabulate i f ++ drop i d) m 0) (sym (add-zero i))
      ∙ behind (tabulate i f) (drop i d) i 0 (tabulate-length i f)
      ∙ get_or-drop i d 0 0
      ∙ ap (λ (m : ℕ). get_or d m 0) (add-zero i)

  pub tabulated_more : {x : ℕ} → i < length d → x ≡ f i → Tabulated d (i + 1) f (set l i x)
  unfolding tabulate
  tabulated_more {x} h e =
      let t = tabulate i f in
      let is = ap (λ (q : List ℕ). set q i x) (so_far.is ∙ ap (λ (r : List ℕ). t ++ r) (drop-cons d i 0 h))
      ∙ set_at t (get_or d i 0) (drop (suc i) d) x i (tabulate-length i f)
      ∙ ap (λ (y : ℕ). t ++ (y ∷ drop (suc i) d)) e
      ∙ sym (append_assoc t (f i ∷ []) (drop (suc i) d))
      ∙ ap (λ (n : ℕ). tabulate n f ++ drop n d) (sym (add-one i)) in
      record { is = is }

  pub tabulated_all : (n : ℕ) → length d ≡ n → i ≡ n → l ≡ tabulate n f
  tabulated_all n s e =
      so_far.is ∙ ap (λ (r : List ℕ). tabulate i f ++ r) (drop_of_length-le d {i = i} (omega arith)) ∙ append-nil (tabulate i f) ∙ ap (λ (m : ℕ). tabulate m f) e

-- ---- rows that are made step by step

pub row-start : (n : ℕ) (d : List ℕ) (f : ℕ → ℕ) → d ≡ replicate n 0 → ((b : ℕ) → b < n → 0 ≡ f b) → d ≡ tabulate n f
row-start n d f e none = e ∙ sym (tabulate-same n f (replicate n 0) (length-replicate n 0) (λ b h. sym (get_or-replicate n b 0 0 h ∙ none b h)))

-- the row was given by f, and each byte is changed to what g gives
pub row_step : (n : ℕ) (d d' : List ℕ) (f v g : ℕ → ℕ) → d ≡ tabulate n f → d' ≡ tabulate n v
    → ((b : ℕ) → b < n → get_or d b 0 ≡ f b → v b ≡ g b) → d' ≡ tabulate n g
row_step n d d' f v g e w step =
    w ∙ tabulate-ext n v g (λ b h. step b h (ap (λ (q : List ℕ). get_or q b 0) e ∙ tabulate-at n f b h))

-- for the loops of the code
pub ruleset tabulated = (tabulated_none, tabulated_more, tabulated_next, tabulated_all)
