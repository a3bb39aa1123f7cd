use Rattle.std.proofs.Common.{[], ◌∷◌, ◌++◌, ◌≡◌, ℕ, ◌+◌, ◌<◌, cond, Some, subst, sym, ◌∙◌, arith, length-append}
use Rattle.store_spec.proofs.Common.{Ballot, is_eq, length, length-map, nat_cmp, numbers_of}
use Rattle.std.proofs.Math.ListN.{length-set}
use Rattle.std.specs.BTreeMap.{get}
use Rattle.std.specs.Vec.{with_item}
use Rattle.script_commands.specs.Index.{IsIndexOf, IsPlaceOf}
use Rattle.script_commands.specs.declared.build.index.Place.{Place}
use Rattle.script_commands.proofs.Slots.{noted_among, noted_in, others_grown, others_stay, places_grown, slot_below}
use Rattle.script_commands.proofs.build.index.Index.note.Goals as goal

pub index_mut-requires : goal.index_mut-requires
index_mut-requires c =
    let place = subst (λ (place : Place). IsPlaceOf place c.args.self.now c.args.number) c.in-Slot.is c.requires.place in
    omega (arith, c.requires.index.slots, place.1, slot_below c.args.number)

pub returns-in-Slot : goal.returns-in-Slot
returns-in-Slot c =
    let i = c.requires.index in
    let slots = c.args.self.now.slots.items in
    let ballots = c.args.ballots.now.ballots in
    let numbers = numbers_of ballots in
    let number = c.args.number in
    let others = get nat_cmp c.args.self.now.others in
    let at = c.in-Slot.at in
    let place = subst (λ (place : Place). IsPlaceOf place c.args.self.now number) c.in-Slot.is c.requires.place in
    let within : at < length slots = omega (arith, i.slots, place.1, slot_below number) in
    let count : length numbers ≡ c.len-count.result = length-map ballots (λ (b : Ballot). b.number) ∙ sym c.len-count.ensures.count in
    let noted : IsIndexOf (record { slots = with_item c.args.self.now.slots at (length numbers + 1); others = c.args.self.now.others }) (numbers ++ number ∷ []) = record {
      slots = length-set slots at (length numbers + 1) ∙ i.slots;
      places = places_grown slots numbers number at place.2 within i.places;
      noted = noted_in slots numbers number at place.2 within others place.0 place.1 place.3 i.noted;
      others = others_stay others numbers number i.others;
    } in
    subst (λ n. IsIndexOf (record { slots = with_item c.args.self.now.slots at (n + 1); others = c.args.self.now.others }) (numbers ++ number ∷ [])) count noted

pub returns-in_ok-insert-in-Others : goal.returns-in_ok-insert-in-Others
returns-in_ok-insert-in-Others c =
    let i = c.requires.index in
    let ballots = c.args.ballots.now.ballots in
    let numbers = numbers_of ballots in
    let number = c.args.number in
    let others = get nat_cmp c.args.self.now.others in
    let new_others = get nat_cmp c.insert.new.self in
    let count : length numbers ≡ c.len-count.result = length-map ballots (λ (b : Ballot). b.number) ∙ sym c.len-count.ensures.count in
    let updated = subst (λ n. (other : ℕ) → new_others other ≡ cond (is_eq (nat_cmp number other)) (Some n) (others other)) (sym count) c.in_ok-insert-in-Others.ensures.updates.0 in
    let taken = subst (λ (place : Place). IsPlaceOf place c.args.self.now number) c.in-Others.is c.requires.place in
    record {
      slots = i.slots;
      places = λ at. omega (arith, i.places at, length-append numbers (number ∷ []));
      noted = noted_among others new_others numbers number c.requires.absent updated c.args.self.now.slots.items taken i.noted;
      others = others_grown others new_others numbers number c.requires.absent updated i.others;
    }
