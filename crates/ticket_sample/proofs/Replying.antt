-- The reply to a line whose ballot was looked for.
use Rattle.std.proofs.Common.{ℕ, List}
use Rattle.store_spec.proofs.Common.{Ballot, Election, Spells}
use Rattle.ticket_sample.specs.Compared.{IsReplyTo}
use Rattle.ticket_sample.specs.Comparing.{IsLook, Takes, TakesOut}
use Rattle.ticket_sample.specs.declared.compare.CompareReply.{CompareReply}
use Rattle.ticket_sample.specs.declared.compare.CompareReply.TheVariants.{Malformed, Invalid, Outside, Repeated, Match, Differs}

pub look_replies : (e : Election) (sample : List Ballot) (Done : ℕ → Type 0) (bytes : List ℕ) (b : Ballot) (reply : CompareReply) → Spells e bytes b → IsLook sample Done b reply → IsReplyTo e sample Done bytes reply
look_replies e sample Done bytes b Malformed spells look = absurd look
look_replies e sample Done bytes b Invalid spells look = absurd look
look_replies e sample Done bytes b Outside spells look = (b, spells, look)
look_replies e sample Done bytes b Repeated spells look = (b, spells, look.0, look.1)
look_replies e sample Done bytes b Match spells look = (b, spells, look.0, look.1)
look_replies e sample Done bytes b Differs spells look = (b, spells, look.0, look.1, look.2)

pub look_takes : (e : Election) (bytes : List ℕ) (b : Ballot) (reply : CompareReply) (old new : List Ballot) → Spells e bytes b → TakesOut b reply old new → Takes e bytes reply old new
look_takes e bytes b Match old new spells takes = (b, spells, takes)
look_takes e bytes b Differs old new spells takes = (b, spells, takes)
look_takes e bytes b Malformed old new spells takes = takes
look_takes e bytes b Invalid old new spells takes = takes
look_takes e bytes b Outside old new spells takes = takes
look_takes e bytes b Repeated old new spells takes = takes
