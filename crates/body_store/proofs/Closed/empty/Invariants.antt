use Rattle.std.proofs.Common.{[]}
use Rattle.body_store.proofs.Closed.empty.Given as goal

abbrev pub ghost-from_image : goal.ghost-from_image
ghost-from_image a = []
