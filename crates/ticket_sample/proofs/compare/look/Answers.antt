use Rattle.std.proofs.Common.{◌≡◌, ◌∙◌, ℕ, ◌<◌, List, Bool, false, true, get_or, length, arith, refl, sym}
use Rattle.store_spec.proofs.Common.{get_or_default}
use Rattle.ballot_record.specs.Record.{ballot}
use Rattle.ticket_sample.proofs.Looking.{done_there, fresh_there, in_sample, other_there, same_there, taken_there}
use Rattle.ticket_sample.proofs.compare.look.Goals as goal

-- the flag that was read at a place
flag_at : (flags : List Bool) (place : ℕ) (found what : Bool) → place < length flags → found ≡ get_or flags place found → found ≡ what → get_or flags place false ≡ what
flag_at flags place found what within read is = get_or_default flags place false found within ∙ sym read ∙ is

pub returns-then-index-clause-reply : goal.returns-then-index-clause-reply
returns-then-index-clause-reply c =
    let found = c.in-Some.ensures in
    let flags = c.args.compared.now.items in
    let long = c.requires.flags in
    let b = ballot c.args.read.now in
    let set = flag_at flags c.in-Some.place _ _ (omega (arith, found.0, long)) c.index.ensures c.if-index.true in (
      in_sample c.args.sample.now flags b c.in-Some.place c.requires.ascending long found.0 found.1,
      done_there c.args.sample.now flags b c.in-Some.place c.requires.ascending long found.0 found.1 set,
    )

pub returns-then-are_same-clause-reply : goal.returns-then-are_same-clause-reply
returns-then-are_same-clause-reply c =
    let found = c.in-Some.ensures in
    let flags = c.args.compared.now.items in
    let long = c.requires.flags in
    let b = ballot c.args.read.now in
    let unset = flag_at flags c.in-Some.place _ _ (omega (arith, found.0, long)) c.index.ensures c.if-index.false in (
      same_there c.args.sample.now flags b c.in-Some.place c.requires.ascending long found.0 found.1 (c.if-are_same.ensures.0 refl),
      fresh_there c.args.sample.now flags b c.in-Some.place c.requires.ascending long found.0 found.1 unset,
    )

pub returns-then-are_same-clause-rest : goal.returns-then-are_same-clause-rest
returns-then-are_same-clause-rest c =
    let found = c.in-Some.ensures in
    taken_there c.args.sample.now c.args.compared.now.items (ballot c.args.read.now) c.in-Some.place c.requires.ascending c.requires.flags found.0 found.1 _ refl

pub returns-else-are_same-clause-reply : goal.returns-else-are_same-clause-reply
returns-else-are_same-clause-reply c =
    let found = c.in-Some.ensures in
    let flags = c.args.compared.now.items in
    let long = c.requires.flags in
    let b = ballot c.args.read.now in
    let unset = flag_at flags c.in-Some.place _ _ (omega (arith, found.0, long)) c.index.ensures c.if-index.false in (
      in_sample c.args.sample.now flags b c.in-Some.place c.requires.ascending long found.0 found.1,
      other_there c.args.sample.now flags b c.in-Some.place c.requires.ascending long found.0 found.1 (λ same. let clash : false ≡ true = c.if-are_same.ensures.1 same in cc),
      fresh_there c.args.sample.now flags b c.in-Some.place c.requires.ascending long found.0 found.1 unset,
    )

pub returns-else-are_same-clause-rest : goal.returns-else-are_same-clause-rest
returns-else-are_same-clause-rest c =
    let found = c.in-Some.ensures in
    taken_there c.args.sample.now c.args.compared.now.items (ballot c.args.read.now) c.in-Some.place c.requires.ascending c.requires.flags found.0 found.1 _ refl
