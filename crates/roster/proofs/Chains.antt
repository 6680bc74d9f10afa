-- What an option hands on to the next step.
use mathlib.Core.Path.{◌≡◌, refl}
use mathlib.Core.Option.{Option, none, some, bind}

pub bind-none : {A B : Type 0} (f : A → Option B) → bind none f ≡ none
unfolding bind
bind-none f = refl

pub bind-some : {A B : Type 0} (x : A) (f : A → Option B) → bind (some x) f ≡ f x
unfolding bind
bind-some x f = refl

pub ruleset chains = (bind-none, bind-some)
