use Rattle.std.proofs.Common.{◌≡◌, ℕ, ◌+◌, ◌≤◌, List, Option, Some, None, length, ap, ◌∙◌}
use Rattle.store_spec.proofs.Common.{Err, IfSome, Ok, OnOk, Result, bank_size, slice_range}
use Rattle.bank_medium.proofs.Parts.{within_range}
use Rattle.bank_medium.specs.Banks.{place_of}
use Rattle.bank_medium.proofs.page.read_page.Goals as goal

same_range : {E : Type 0} (result : Result (Unit {0}) E) (seen : Option (List ℕ)) (out : List ℕ) (place p n at k : ℕ) → place ≡ p → at + k ≤ n
    → OnOk result (IfSome seen (λ bytes. out ≡ slice_range bytes (place + at) (place + at + k)))
    → OnOk result (IfSome seen (λ bytes. out ≡ slice_range (slice_range bytes p (p + n)) at (at + k)))
same_range (Ok x) None out place p n at k is within read = read
same_range (Ok x) (Some bytes) out place p n at k is within read =
    read ∙ ap (λ q. slice_range bytes (q + at) (q + at + k)) is ∙ within_range p n at k bytes within
same_range (Err x) seen out place p n at k is within read = read

pub returns-clause-read : goal.returns-clause-read
returns-clause-read g c =
    let e = c.args.election.now in
    same_range c.read.result (g.D.Disk.seen c.args.disk.now) c.read.new.buf c.bank_place.result (place_of e c.args.bank) (bank_size e) c.args.at (length c.args.out.now) c.bank_place.ensures.place c.requires.within c.read.ensures.read
