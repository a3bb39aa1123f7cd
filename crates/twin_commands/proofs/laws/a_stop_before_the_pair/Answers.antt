use Rattle.std.proofs.Common.{inl}
use Rattle.store_spec.proofs.Common.{disk_model}
use Rattle.twin_commands.proofs.Standing.{first_left, kept_lost, kept_own, second_left}
use Rattle.twin_commands.proofs.laws.a_stop_before_the_pair.Goals as goal
use Rattle.twin_commands.specs.Standing.{HoldsOwnOr, IsLostOr}

pub returns-clause-first_holds : goal.returns-clause-first_holds
returns-clause-first_holds g c e one one_after two two_after a b own valid sees sees_two held start leaves =
    first_left (disk_model g.D.Disk.seen g.D.Disk.calls g.D.Disk.may_leave g.D.Disk.faults) e one one_after two two_after a b sees sees_two leaves
    (HoldsOwnOr e a b own) (λ image left. inl (start image left)) (inl held) (kept_own e a b a own valid held)

pub returns-clause-first_lost : goal.returns-clause-first_lost
returns-clause-first_lost g c e one one_after two two_after a b valid sees sees_two lost start leaves =
    first_left (disk_model g.D.Disk.seen g.D.Disk.calls g.D.Disk.may_leave g.D.Disk.faults) e one one_after two two_after a b sees sees_two leaves
    (IsLostOr e a b) (λ image left. inl (start image left)) (inl lost) (kept_lost e a b a lost)

pub returns-clause-second_holds : goal.returns-clause-second_holds
returns-clause-second_holds g c e one one_after two two_after a b own valid sees sees_two held start leaves =
    second_left (disk_model g.D.Disk.seen g.D.Disk.calls g.D.Disk.may_leave g.D.Disk.faults) e one one_after two two_after a b sees sees_two leaves
    (HoldsOwnOr e a b own) (λ image left. inl (start image left)) (inl held) (kept_own e a b b own valid held)

pub returns-clause-second_lost : goal.returns-clause-second_lost
returns-clause-second_lost g c e one one_after two two_after a b valid sees sees_two lost start leaves =
    second_left (disk_model g.D.Disk.seen g.D.Disk.calls g.D.Disk.may_leave g.D.Disk.faults) e one one_after two two_after a b sees sees_two leaves
    (IsLostOr e a b) (λ image left. inl (start image left)) (inl lost) (kept_lost e a b b lost)
