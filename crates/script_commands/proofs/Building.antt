-- What `build` makes of a script that was read.
use Rattle.std.proofs.Common.{◌≡◌, ℕ, List, Err, ap, subst, ◌∙◌, arith, refl}
use Rattle.store_spec.proofs.Common.{AllZip, Ballot, CountsFaultIf, Election, IsListing, IsWithinLimit, Spells, image_of, lines_of}
use Rattle.ballot_record.proofs.BallotSets.{in_order, in_order-IsPermutation, set_of_listing}
use Rattle.body_store.proofs.BallotSets.{limit-IsPermutation}
use Rattle.body_store.proofs.Listings.{image_of-IsPermutation}
use Rattle.script_commands.specs.Build.{BuildEnds, WritesImage}
use Rattle.outside_io.specs.Outside.{IsReadOut, NoFault, OfScript, Outside, Output}
use Rattle.script_commands.specs.Script.{Reads, script_status}
use Rattle.script_commands.specs.declared.build.script.ScriptFault.{ScriptFault}
use Rattle.script_commands.specs.declared.build.script.ScriptFault.TheVariants.{BadLine, TooLong, ReadFault, Memory}
use Rattle.run_outcome.specs.declared.status.Status.TheVariants as status
use Rattle.outside_io.proofs.Told.{told_as}

-- where the sink was left alone, and the script did not fail, nothing failed
quiet : {S K : Type 0} (before after : Outside S K) → after.sink ≡ before.sink → after.script.faults ≡ before.script.faults → NoFault before after
quiet {S} {K} before after still steady = record { script = steady; sink = ap (λ (sink : Output K). sink.faults) still }

-- the script was refused, and nothing was written
pub script_refused : {S K : Type 0} (e : Election) (fault : ScriptFault) (before after : Outside S K) → OfScript before after (Reads (Err fault) e) → after.sink ≡ before.sink → CountsFaultIf (fault ≡ ReadFault) before.script.faults after.script.faults → BuildEnds e (script_status fault) before after
script_refused e (BadLine line why) before after read still count = (record { why = read; untouched = still }, quiet before after still (count.steady (λ is. cc)))
script_refused e TooLong before after read still count = (record { why = read; untouched = still }, quiet before after still (count.steady (λ is. cc)))
script_refused e ReadFault before after read still count = (record { why = read; untouched = still }, count.rose refl)
script_refused e Memory before after read still count = (record { why = read; untouched = still }, quiet before after still (count.steady (λ is. cc)))

-- the whole script was read, and its lines spell these ballots
abbrev pub AllRead : {S K : Type 0} → Election → List Ballot → Outside S K → Outside S K → Type 0
AllRead e listing before after = OfScript before after (λ text left. IsReadOut text left × AllZip (Spells e) (lines_of text) listing)

-- there was no memory then
pub no_memory : {S K : Type 0} (e : Election) (listing : List Ballot) (before after : Outside S K) → AllRead e listing before after → after.sink ≡ before.sink → after.script.faults ≡ before.script.faults → BuildEnds e status.Memory before after
no_memory e listing before after read still steady = (record { why = told_as read (λ x y h. omega (arith, h.0.0)); untouched = still }, quiet before after still steady)

-- the image of ballots is that of their set
image_of_set : (e : Election) (listing : List Ballot) → IsListing e listing → image_of e listing ≡ image_of e (in_order listing)
image_of_set e listing is = image_of-IsPermutation e listing (in_order listing) is.distinct (in_order-IsPermutation listing)

-- the bytes of the image of their set were put, and the sink took of them
pub writes_image : {S K : Type 0} (e : Election) (listing : List Ballot) (bytes : List ℕ) (before after : Outside S K) (Takes : List ℕ → Type 0)
    → AllRead e listing before after → IsListing e listing → IsWithinLimit e listing → bytes ≡ image_of e listing → Takes bytes
    → WritesImage e before after Takes
writes_image e listing bytes before after Takes read is few image takes =
    let set = in_order listing in
    let same = in_order-IsPermutation listing in
    let held = set_of_listing e listing is in
    let within = limit-IsPermutation e listing set same few in
    record {
      set = set;
      held = held;
      within_limit = within;
      built = told_as read (λ x y h. (h.0, record { listing = listing; each = h.1; same = same; set = held; within_limit = within }));
      taken = subst Takes (image ∙ image_of_set e listing is) takes;
    }
