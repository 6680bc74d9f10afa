use native.Mathlib.Omega.{arith}
use mathlib.Core.Bool.{true}
use mathlib.Core.Path.{◌≡◌, sym, ◌∙◌}
use Rattle.node_c.specs.Calls.{node_page}
use Rattle.image.specs.Image.{is_image, read_image}
use Rattle.image.proofs.RoundTrips.{image-size}
use Rattle.node_c.proofs.AnswerNumbers.{page-is}
use Rattle.node_c.proofs.entries.node_page.Goals.{Else-not-is_image}
use Rattle.node_c.proofs.entries.node_page.Goals as goal

accepted : (c : Else-not-is_image) → is_image c.args.image.now ≡ true
accepted c = sym c.is_image.ensures ∙ c.if-not-is_image.false

pub node_in-requires : goal.node_in-requires
node_in-requires c = omega (arith, image-size _ (accepted (goal.at.node_in-requires c).Else-not-is_image))

pub returns : goal.returns
unfolding node_page read_image
returns c =
    let e = accepted (goal.at.returns c).Else-not-is_image in record {
      value = rw (e, ← c.node_in.ensures, ← c.page.ensures.value, page-is c.page.result.answer) c.value_returned.ensures;
      out_after = rw (e, ← c.node_in.ensures)
          c.page.ensures.out_after;
    }

pub returns-then-not-is_image : goal.returns-then-not-is_image
unfolding node_page read_image
returns-then-not-is_image c = let e = sym c.is_image.ensures ∙ c.if-not-is_image.true in record { value = rw e; out_after = rw e }
