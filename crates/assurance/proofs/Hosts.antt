-- Hosts, and what they hold after a node was left at one of them.
use mathlib.Core.Path.{◌≡◌, refl, sym, ap, ◌∙◌}
use mathlib.Core.Logic.{◌≢◌, ◌⊎◌, inl, inr}
use mathlib.Core.Bool.{Bool, true, false, cond, true≢false}
use mathlib.Core.Option.{some, some-injective}
use lib.Dec.{eqb}
use borrow.Author.Tests.{eqb-true, eq-eqb}
use Rattle.node.specs.declared.Node.{Node}
use Rattle.node.specs.WellFormed.{WellFormedNode}
use Rattle.image.specs.Image.{image_bytes}
use Rattle.image.proofs.RoundTrips.{node-read-back}
use Rattle.agreement.specs.History.{Host, by_value, through_c, Cluster, image_node, node_at}
use Rattle.agreement.proofs.Calls.{leave}
use Rattle.assurance.specs.Doors.{is_same_host}

pub same-host : (g h : Host) → is_same_host g h ≡ true → g ≡ h
same-host (by_value i) (by_value j) e = ap by_value (eqb-true i j e)
same-host (by_value i) (through_c j) e = absurd (true≢false (sym e))
same-host (through_c i) (by_value j) e = absurd (true≢false (sym e))
same-host (through_c i) (through_c j) e = ap through_c (eqb-true i j e)

host-itself : (h : Host) → is_same_host h h ≡ true
host-itself (by_value i) = eq-eqb i i refl
host-itself (through_c i) = eq-eqb i i refl

pub other-host : (g h : Host) → is_same_host g h ≡ false → g ≢ h
other-host g h e s = true≢false (sym (host-itself h) ∙ ap (λ (x : Host). is_same_host x h) (sym s) ∙ e)

-- the host has that node, and every other what it had
pub leave-at : (w : Cluster) (h g : Host) (n : Node) → WellFormedNode n → node_at (leave w h n) g ≡ cond (is_same_host g h) (some n) (node_at w g)
leave-at w (by_value i) (by_value j) n f = refl
leave-at w (by_value i) (through_c j) n f = refl
leave-at w (through_c i) (by_value j) n f = refl
leave-at w (through_c i) (through_c j) n f = at (eqb j i)
  where
    at : (b : Bool) → image_node (cond b (some (image_bytes n)) (w.images j)) ≡ cond b (some n) (image_node (w.images j))
    at true = rw (node-read-back n f)
    at false = refl

pub leave-here : (w : Cluster) (h : Host) (n : Node) → WellFormedNode n → node_at (leave w h n) h ≡ some n
leave-here w h n f = leave-at w h h n f ∙ rw (host-itself h)

pub leave-cases : (w : Cluster) (h g : Host) (n x : Node) → WellFormedNode n → node_at (leave w h n) g ≡ some x → ((g ≡ h) × (x ≡ n)) ⊎
    (node_at w g ≡ some x)
leave-cases w h g n x f e = at (is_same_host g h) refl (sym (leave-at w h g n f) ∙ e)
  where
    at : (b : Bool) → is_same_host g h ≡ b → cond b (some n) (node_at w g) ≡ some x → ((g ≡ h) × (x ≡ n)) ⊎ (node_at w g ≡ some x)
    at true s e = inl (same-host g h s, sym (some-injective n x e))
    at false s e = inr e
