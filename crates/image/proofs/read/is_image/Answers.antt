use Rattle.image.specs.Layout.{image_size}
use mathlib.Core.Path.{sym, ap, ◌∙◌}
use borrow.Author.Tests.{eq-eqb, ne_eqb}
use Rattle.verdicts.specs.Attempts.{are_in_range}
use Rattle.image.specs.Image.{decode_image, is_image}
use Rattle.image.proofs.OwnParts.{image-tested}
use Rattle.image.proofs.read.is_image.Goals as goal

pub returns-then-b-ne-IMAGE_SIZE : goal.returns-then-b-ne-IMAGE_SIZE
unfolding is_image
returns-then-b-ne-IMAGE_SIZE c = rw (ne_eqb _ _ c.if-b-ne-IMAGE_SIZE.true)

pub returns-then-is_current : goal.returns-then-is_current
unfolding decode_image
returns-then-is_current c =
    sym (image-tested c.args.b.now _ _ c.if-b-ne-IMAGE_SIZE.false (sym c.is_current.ensures ∙ c.if-is_current.true)
    c.is_well_formed_own-own.ensures (c.are_in_range.ensures ∙ ap are_in_range c.counts_in-counts.ensures))

pub returns : goal.returns
unfolding is_image
returns c =
    rw (eq-eqb _ image_size c.if-b-ne-IMAGE_SIZE.false, sym c.is_current.ensures ∙ c.if-is_current.false)
