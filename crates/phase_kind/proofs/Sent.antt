-- A worker may go to another thread where its seat, its list and its replies may.
use Rattle.std.proofs.Common.{rules}
use Rattle.std.proofs.Crossing.{Vec-send}
use Rattle.phase_kind.specs.contracts.tray.Tray as tray
use Rattle.phase_kind.specs.contracts.worker.Worker
use Rattle.phase_kind.specs.contracts.worker.Worker.TheInside
use Rattle.phase_kind.specs.declared.kind.Kind.{Ghosts}
use denote.Param.Send
use denote.RattleType.{RattleType}
use denote.Struct.Declared

module _ (K Sight Words Seat Item L Reply Final : RattleType) where
  tray_send : Send.IsSend L → Send.IsSend Reply → Send.IsSend (tray.the_field L Reply).row
  tray_send list reply = Send.struct_send (Declared.shape (tray.the_type L Reply)) (list, (Vec-send Reply reply, tt))

  module _ (g : Ghosts K.Denot Sight.Denot Words.Denot Seat.Denot Item.Denot L.Denot Reply.Denot Final.Denot) where
    pub worker_send : Send.IsSend Seat → Send.IsSend L → Send.IsSend Reply → Send.IsSend (Worker.the_row K Sight Words Seat Item L Reply Final g)
    worker_send seat list reply =
        Send.view_send (TheInside.the_row K Sight Words Seat Item L Reply Final g) _ _ _ _
        (Send.recorded_send (TheInside.the_field K Sight Words Seat Item L Reply Final g).row _ _ (TheInside.the_type K Sight Words Seat Item L Reply Final g).to_one
        (Send.struct_send (Declared.shape (TheInside.the_type K Sight Words Seat Item L Reply Final g)) (search rules, (seat, (tray_send list reply, (search rules, tt))))))
