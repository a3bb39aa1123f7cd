-- What a run ends with: the exit status of each status, and the text on standard error where that is not 0.
use Rattle.std.specs.Prelude.{ℕ, List, ◌++◌, codes}
use Rattle.std.specs.Fmt.{decimal}
use Rattle.recovery.specs.declared.fault.MediumWhy.TheVariants as media
use Rattle.run_outcome.specs.declared.status.Status.{Status}
use Rattle.run_outcome.specs.declared.status.Status.TheVariants.{Ok, Usage, BadElection, TooLong, DiskFault, ReadFault, WriteFault, Memory, NoStore, Damaged, OtherElection, Exists, WrongSize, NotCanonical, BadLine, NoOldForm, OtherDiskFault, MediumSize, MediumInUse, BadMedium, MergeConflict, MergeFull, Misplaced}
use Rattle.run_outcome.specs.declared.status.Which.TheVariants.{Election, Script}

abbrev pub exit_status : Status → ℕ
exit_status Ok = 0
exit_status Usage = 2
exit_status BadElection = 3
exit_status (TooLong which) = 4
exit_status DiskFault = 5
exit_status (ReadFault which) = 6
exit_status WriteFault = 7
exit_status Memory = 8
exit_status NoStore = 9
exit_status (Damaged cell) = 10
exit_status (OtherElection header) = 11
exit_status Exists = 12
exit_status (WrongSize size) = 13
exit_status (NotCanonical place) = 14
exit_status (BadLine line why) = 15
exit_status NoOldForm = 16
exit_status (OtherDiskFault index) = 17
exit_status (MediumSize index size) = 18
exit_status (MediumInUse index) = 19
exit_status (BadMedium index why) = 20
exit_status (MergeConflict number) = 21
exit_status (MergeFull count) = 22
exit_status (Misplaced index number) = 23

abbrev pub status_text : Status → List ℕ
status_text Ok = codes "ok"
status_text Usage = codes "usage"
status_text BadElection = codes "bad election"
status_text (TooLong Election) = codes "election too long"
status_text (TooLong Script) = codes "script too long"
status_text DiskFault = codes "disk fault"
status_text (ReadFault Election) = codes "election read fault"
status_text (ReadFault Script) = codes "script read fault"
status_text WriteFault = codes "write fault"
status_text Memory = codes "out of memory"
status_text NoStore = codes "no store"
status_text (Damaged cell) = codes "damaged cell " ++ decimal cell
status_text (OtherElection header) = codes "other election"
status_text Exists = codes "store exists"
status_text (WrongSize size) = codes "wrong size " ++ decimal size
status_text (NotCanonical place) = codes "not canonical at " ++ decimal place
status_text (BadLine line why) = codes "bad line " ++ decimal line
status_text NoOldForm = codes "no version 1 form"
status_text (OtherDiskFault index) = codes "disk fault at medium " ++ decimal index
status_text (MediumSize index size) = codes "medium " ++ decimal index ++ codes " wrong size " ++ decimal size
status_text (MediumInUse index) = codes "medium " ++ decimal index ++ codes " in use"
status_text (BadMedium index media.NoStore) = codes "medium " ++ decimal index ++ codes " no store"
status_text (BadMedium index (media.OtherElection header)) = codes "medium " ++ decimal index ++ codes " other election"
status_text (BadMedium index (media.Damaged cell)) = codes "medium " ++ decimal index ++ codes " damaged cell " ++ decimal cell
status_text (MergeConflict number) = codes "conflict " ++ decimal number
status_text (MergeFull count) = codes "merge of " ++ decimal count
status_text (Misplaced index number) = codes "medium " ++ decimal index ++ codes " misplaced " ++ decimal number
