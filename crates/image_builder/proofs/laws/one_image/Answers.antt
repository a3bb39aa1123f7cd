use Rattle.body_store.proofs.Listings.{image_of-members}
use Rattle.image_builder.proofs.laws.one_image.Goals as goal

pub returns : goal.returns
returns c e xs ys first second same = image_of-members e xs ys first second (λ b. (same b).0) (λ b. (same b).1)
