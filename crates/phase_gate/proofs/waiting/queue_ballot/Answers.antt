use Rattle.std.proofs.Common.{◌≡◌, ◌-◌, ◌<◌, ◌∷◌, ◌++◌, [], length, map, arith, ap, sym, ◌∙◌}
use Rattle.store_spec.proofs.Common.{All-set, length-map, map-set_same, queued}
use Rattle.ballot_record.specs.BallotList.{ListedBallots}
use Rattle.ballot_record.specs.Record.{ballot}
use Rattle.phase_gate.proofs.Queues.{on_any_err, queued_there}
use Rattle.phase_gate.proofs.waiting.queue_ballot.Goals as goal

pub push-requires-clause-election : goal.push-requires-clause-election
push-requires-clause-election c =
    let lists = c.args.lists.now.items in
    let place = c.from-place.result - 1 in
    sym (ap (λ (l : ListedBallots). l.election) c.index_mut.ensures.value ∙ c.requires.elections place c.index_mut.result.now (let within : place < length lists = omega arith in within))

pub returns-clause-goes : goal.returns-clause-goes
returns-clause-goes c =
    let lists = c.args.lists.now.items in
    let place = c.from-place.result in
    let b = ballot c.args.ballot.now in
    let within : place - 1 < length lists = omega arith in (
      omega (arith, length-map lists (λ (l : ListedBallots). l.ballots)),
      queued_there (λ (l : ListedBallots). l.ballots) lists place c.index_mut.result.now c.push.new.self b within
          (ap (λ (l : ListedBallots). l.ballots) c.in_ok-push.ensures.pushed ∙ ap (λ (l : ListedBallots). l.ballots ++ b ∷ []) c.index_mut.ensures.value)
          ∙ ap (λ t. queued (map (λ (l : ListedBallots). l.ballots) lists) t b) c.from-place.ensures,
    )

pub returns-clause-elections : goal.returns-clause-elections
returns-clause-elections c =
    All-set (λ (l : ListedBallots). l.election ≡ c.args.election.now) c.args.lists.now.items (c.from-place.result - 1) c.push.new.self
    (ap (λ (l : ListedBallots). l.election) c.in_ok-push.ensures.pushed ∙ ap (λ (l : ListedBallots). l.election) c.index_mut.ensures.value ∙ c.requires.elections (c.from-place.result - 1) c.index_mut.result.now (omega arith)) c.requires.elections

pub returns-in_err-push-clause-elections : goal.returns-in_err-push-clause-elections
returns-in_err-push-clause-elections c =
    All-set (λ (l : ListedBallots). l.election ≡ c.args.election.now) c.args.lists.now.items (c.from-place.result - 1) c.push.new.self
    (ap (λ (l : ListedBallots). l.election) (c.in_err-push.ensures.unchanged ∙ c.index_mut.ensures.value) ∙ c.requires.elections (c.from-place.result - 1) c.index_mut.result.now (omega arith)) c.requires.elections

pub returns-in_err-push-clause-unchanged : goal.returns-in_err-push-clause-unchanged
returns-in_err-push-clause-unchanged c =
    on_any_err c.from_residual.result
    (map-set_same (λ (l : ListedBallots). l.ballots) c.args.lists.now.items (c.from-place.result - 1) c.push.new.self
    c.index_mut.result.now (ap (λ (l : ListedBallots). l.ballots) c.in_err-push.ensures.unchanged ∙ ap (λ (l : ListedBallots). l.ballots) c.index_mut.ensures.value))
