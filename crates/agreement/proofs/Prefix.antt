-- The moments of a history are its prefixes.
use mathlib.Core.Path.{◌≡◌, sym, ap}
use mathlib.Core.Logic.{◌⊎◌, inl, inr}
use mathlib.Core.List.Memᴰ
use mathlib.Core.List.{[], ◌∷◌, Memᴰ}
use Rattle.agreement.specs.History.{History, Cluster, empty, run, Moment, moments_from}
use Rattle.agreement.specs.Claims.{run_all, Prefix, MomentsArePrefixes}

split : (w : Cluster) (calls : History) (t : Moment) → Memᴰ t (moments_from w calls) → Prefix w calls t
unfolding moments_from run_all
split w [] t m = absurd (Memᴰ.not-nil m)
split w (c ∷ cs) t m = pick (λ i. split (run w c).after cs t i) (Memᴰ.cases_cons m)
  where
    pick : (Memᴰ t (moments_from (run w c).after cs) → Prefix (run w c).after cs t)
        → (t ≡ record { before = w; call = c }) ⊎ Memᴰ t (moments_from (run w c).after cs) → Prefix w (c ∷ cs) t
    pick ih (inl e) = record {
      earlier = [];
      later = cs;
      list = ap (λ (x : Moment). x.call ∷ cs) (sym e);
      cluster = ap
          (λ (x : Moment). x.before) e;
    }
    pick ih (inr i) = let p = ih i in
        record { earlier = c ∷ p.earlier; later = p.later; list = ap (λ (x : History). c ∷ x) p.list; cluster = p.cluster }

pub moments-are-prefixes : MomentsArePrefixes
moments-are-prefixes calls t m = split empty calls t m
