use Rattle.std.proofs.Common.{sym, ◌∙◌, ap}
use Rattle.store_spec.proofs.Common.{image_of}
use Rattle.twin_media.proofs.Kept.{same_ballots}
use Rattle.twin_media.proofs.finding.same_set.Goals as goal

pub returns : goal.returns
returns c =
    let one = c.args.one.now in
    let two = c.args.two.now in (
      λ equal. same_ballots one two c.requires c.image.ensures.stored c.image-2.ensures.stored (sym c.image.ensures.image ∙ c.same_bytes.ensures.0 equal ∙ c.image-2.ensures.image),
      λ same. c.same_bytes.ensures.1 (c.image.ensures.image ∙ ap (λ e. image_of e one.ballots) c.requires ∙ ap (image_of two.election) same ∙ sym c.image-2.ensures.image),
    )
