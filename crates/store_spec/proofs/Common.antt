-- The names that many proofs cite, passed on from one place: of the kit's pages, and of the definitions. It declares nothing.
pub use Rattle.std.proofs.Math.Nat.{mod-eq_of_lt, mul-le-mul_left, mul-le-mul_right, mul-suc}
pub use Rattle.std.proofs.Math.Pow.{pow_mono}
pub use Rattle.std.proofs.Math.Seq.{map-set_same, take-add, take-append-add, take-append_seam, take-set-lt}
pub use Rattle.std.proofs.lemmas.Bool.{and_from, and_parts, both_ways, cases_Bool, cases_eq, cases_lt, cases_order, cond-false, cond-true, cond_both, eq-eqb, eqb-false, eqb-true, false≢true, iff_false, le-leb, le-ltb, leb-true, lt-leb, lt-ltb, ne_eqb, or_right, true≢false}
pub use Rattle.std.proofs.lemmas.Bool.Decides.{Decides-eqb, nat_tests}
pub use Rattle.std.proofs.lemmas.Fmt.{decimal_injective, length-decimal-le}
pub use Rattle.std.proofs.lemmas.Grind.{common_steps, flat_map-append}
pub use Rattle.std.proofs.lemmas.Iterator.Adapters.{YieldsList-from_vec}
pub use Rattle.std.proofs.lemmas.Iterator.Consumers.{YieldsList-end, YieldsList-turn}
pub use Rattle.std.proofs.lemmas.List.{append-nil, append_assoc, append_cancel_left, drop-append-le, drop-drop, drop-set-lt, drop-take, drop_all, drop_at, drop_more, ext_get_or, get_or-append-add, get_or-append_right, get_or-drop, get_or-map, get_or-replicate, get_or-set_other, get_or-set_same, get_or-take, get_or_append_left, get_or_default, get_or_past, get_or_push, length-append, length-drop, length-map, length-replicate, length-set, length-take, length-take-le, length_push, map-append, map-id, map-set, map_push, nil_from_length, replicate-append-replicate, set-get_or, set_at, take-append-drop, take-append-le, take-replicate, take-set, take-set-le, take-take, take_all, take_at, take_more, with_items_is}
pub use Rattle.std.proofs.lemmas.List.Concat.{flat_map-cons}
pub use Rattle.std.proofs.lemmas.List.Elements.{All-append, All-cons, All-contains, All-contains_itself, All-filter, All-from_recursion, All-get_or, All-head, All-map, All-nil, All-push, All-replicate, All-set, All-tail, All-weaker, Contains-append_cases, Contains-append_left, Contains-append_right, Contains-get_or, Contains-push, Contains-push_cases, filter-append, filter_passes, recursion_from_All}
pub use Rattle.std.proofs.lemmas.List.Folds.{Any-from_list_any, flat_map-map, list_any-append, list_any_at}
pub use Rattle.std.proofs.lemmas.List.FromFn.{get_or-map-range_with_len, length-map-range_with_len}
pub use Rattle.std.proofs.lemmas.List.Kept.{AllPairs-cons, AllPairs-filter}
pub use Rattle.std.proofs.lemmas.List.Quantifiers.{all_pairs_push}
pub use Rattle.std.proofs.lemmas.List.Sorted.{All-permutation, Contains-permutation, IsNonDecreasingBy-from_sort, IsPermutation-append_comm, IsPermutation-append_left, IsPermutation-append_right, IsPermutation-cons, IsPermutation-map, IsPermutation-middle, IsPermutation-refl, IsPermutation-sym, IsPermutation-trans, length_permutation, sum_by-IsPermutation}
pub use Rattle.std.proofs.lemmas.List.Sums.{count_by-le-length, get_or-le-sum_by, length-filter, sum_by-append, sum_by-cons, sum_by-le, sum_by-le-sum_by, sum_by-set, sum_by_push}
pub use Rattle.std.proofs.lemmas.Map.Keys.{IsDistinct-IsPermutation}
pub use Rattle.std.proofs.lemmas.Map.Made.{AllPairs-from_IsDistinct, IsDistinct-from_AllPairs}
pub use Rattle.std.proofs.lemmas.Nat.{pow_below, pow_pos}
pub use Rattle.std.proofs.lemmas.Nat.Bits.{bit_at-trailing_zeros}
pub use Rattle.std.proofs.lemmas.Option.{get_or_from_slice_get, none-some, option_and_then_some, same_Some, slice_get-get_or, slice_get-map, slice_get_within, some_pair_parts}
pub use Rattle.std.proofs.lemmas.Result.{IfErr-weaker, IfOk-weaker, err_from_is_err_and, on_ok_weaker}
pub use Rattle.std.proofs.lemmas.Simd.{map-map}
pub use Rattle.std.proofs.lemmas.Slice.Eq.{bytes_eq-Decides}
pub use Rattle.std.proofs.lemmas.Slice.Zip.{AllZip-long, get_or-zip, length-zip}
pub use Rattle.std.specs.Fmt.{decimal}
pub use Rattle.std.specs.Int.{bit_at, bytes_high_first, from_be_bytes, to_be_bytes, trailing_zeros, w64}
pub use Rattle.std.specs.List.{All, AllByRecursion, AllPairs, AllZip, Contains, count_by, filter, flat_map, join_with_byte, list_all, list_any, range_with_len, sum_by, swap, zip}
pub use Rattle.std.specs.List.Sorted.{IsNonDecreasing, IsNonDecreasingBy, IsPermutation, IsStrictlyIncreasing}
pub use Rattle.std.specs.Option.{ForSome, IsSomeAnd, option_map_or}
pub use Rattle.std.specs.Ordering.{is_eq, is_lt, nat_cmp, ordering_index}
pub use Rattle.std.specs.Prelude.{Any, Err, IfErr, IfOk, IfSome, IsErrAnd, IsErrOf, IsSome, IsTrue, MatchOption, MatchResult, Ok, OnErr, OnOk, Result, Some, Vec, codes, count_ones, is_some, length, nat_eq, nat_le, nat_lt, not, option_map, slice_get, slice_index, slice_range, string_bytes, unwrap_or}
pub use Rattle.std.specs.Str.{IsUtf8, bytes_eq}
pub use Rattle.std.specs.Vec.{with_items}
pub use Rattle.std.specs.declared.alloc.Global.{Global}
pub use Rattle.std.specs.declared.cmp.Ordering.TheVariants.{Equal, Greater, Less}
pub use Rattle.store_spec.specs.Act.{Act, left_by, word_of}
pub use Rattle.store_spec.specs.Ballot.{Ballot, IsBallotSet, IsListing, IsValid, IsWithinLimit, MARK_SETS, ballot_of, numbers_of}
pub use Rattle.store_spec.specs.BallotLine.{IsGroup, IsLineOf, IsRecordLine, ReadsAs, RecordLine, Spells, ballot_of_line, choices_in, group_text, line_of_ballot, line_text, mark_set, record_line, slash, space}
pub use Rattle.store_spec.specs.BallotPhase.{BallotOutcome, CastLine, CastReply, HasNumber, IsRightReply, MayBeCastBefore, accepted_in, is_accepted}
pub use Rattle.store_spec.specs.BallotPhase.CastReply.{Accepted, Conflict, Duplicate, Full}
pub use Rattle.store_spec.specs.Build.{Builds, IsRefused, Reason}
pub use Rattle.store_spec.specs.Build.Reason.{Invalid, Malformed}
pub use Rattle.store_spec.specs.CastInvariant.{AreClaimed, AreInOrder, ArePlaced, CastInvariant, EachOnce, HasMet, HasRoomFor, HasSeen, HoldSame, HoldsOther, IsClaimed, IsHand, IsProbing, IsTried, accepted_of, count_of, hands_of, in_hand}
pub use Rattle.store_spec.specs.CastStep.{CastNote, CastRow, CastState, CastView, GoesFrom, Table, cast_act, cast_measure, cast_number, cast_view_after, claim_place, claim_word, fresh_cast_view, joined_cast_view}
pub use Rattle.store_spec.specs.CastStep.CastNote.{Claimed, Placed, Taken}
pub use Rattle.store_spec.specs.CastStep.CastRow.{claim_met, claim_passed, claim_won, claims_full, displaces, look_passes, look_ready, lost_passes, lost_ready, takes_empty}
pub use Rattle.store_spec.specs.CastStep.CastState.{Carrying, Probing, Ready, Rest}
pub use Rattle.store_spec.specs.Damage.{BeginsAnImage, cell_at, first_cells, number_at}
pub use Rattle.store_spec.specs.Disk.{AddsNoCrashImage, DiskModel, EachCrashImage, IsSettled, IsTorn, KeepsCrashImages, LeavesOnly, LeavesOnlyOnceSynced, SyncsFirst, TearsAtMost, after_calls, disk_model, inside_next, leaves_now, overwritten, torn_from}
pub use Rattle.store_spec.specs.Election.{Contest, Election, HasVersionOne, IsContest, IsElection, as_version_one, bank_size, cell_count, cell_size, choices_of, choices_on, example, header_size, in_version, is_on_style, medium_size, most_ballots, most_cells, most_choices, set_width}
pub use Rattle.store_spec.specs.Fault.{CountsFault, CountsFaultIf, Rose, last_count, next_count}
pub use Rattle.store_spec.specs.Figures.{example_ballot}
pub use Rattle.store_spec.specs.Home.{home_in, home_of}
pub use Rattle.store_spec.specs.Image.{IsCellOf, IsImageOf, ballot_bytes, cell_bytes, cells_of, header_of, image_of}
pub use Rattle.store_spec.specs.Input.{IsTooLong, begun_with, continued, ended_lines, first_width, line_end, line_limit, lines_of, lines_within, script_limit, taken_line, taken_lines, taken_within}
pub use Rattle.store_spec.specs.Layout.{HasRoom, HoldsExactly, IsLayout, IsOrdered, MayStand, ascending, laid_out, layout_of, numbers_in, placed, put_in_order}
pub use Rattle.store_spec.specs.Measure.{Falls}
pub use Rattle.store_spec.specs.Medium.{Bank, Holds, HoldsSet, HoldsSome, HoldsTheSame, IsChosen, IsMediumOf, IsOpen, IsUnused, bank_of, bank_place, closed_gate, gate_place, medium_of, open_gate, other_bank}
pub use Rattle.store_spec.specs.Medium.Bank.{A, B}
pub use Rattle.store_spec.specs.Parts.{ClosesCastingInParts, ClosesWithdrawingInParts, of_part, of_parts, part_of, share}
pub use Rattle.store_spec.specs.Phase.{Answer, Met, is_met_accepted, numbers_that}
pub use Rattle.store_spec.specs.Phase.Met.{Held}
pub use Rattle.store_spec.specs.Probe.{IsFilled, IsFirstEmpty}
pub use Rattle.store_spec.specs.Report.{allowed_of, choice_line, contest_line, contest_lines, count_line, export_text, is_overvote, lines_text, marked_in, overvotes, tally_text, undervotes, votes}
pub use Rattle.store_spec.specs.ScriptLine.{IsMalformed, IsNumber, IsTab, Says, ScriptLine, Work, item_text, open_text, work_text}
pub use Rattle.store_spec.specs.ScriptLine.ScriptLine.{Cast, CastInvalid, Checkpoint, Close, Export, Find, Open, Tally, Withdraw}
pub use Rattle.store_spec.specs.ScriptLine.Work.{Casting, Finding, Withdrawing}
pub use Rattle.store_spec.specs.Session.{Answers, AnswersBy, Closes, ClosesCasting, ClosesFinding, ClosesWithdrawing, Does, DoesBy, Effect, Phase, Plays, PlaysBy, State, acknowledged_in, all_reply_lines, ballots_without, begun, cast_text, closing, counted, find_text, in_phase, last_reply, line_of, opened, phase_text, queued, queues, refusal, replies, reply_line, reply_lines, stays, withdraw_text, written, wrong_phase}
pub use Rattle.store_spec.specs.Session.Phase.{Casts, Closed, Finds, Withdraws}
pub use Rattle.store_spec.specs.Stop.{HoldsAcknowledged, HoldsOneOf, LeavesMediumOf}
pub use Rattle.store_spec.specs.Summary.{is_in_summary, summary_of}
pub use Rattle.store_spec.specs.WithdrawInvariant.{AreCopies, AreFlags, AreLowest, AreOwed, IsLive, IsOfBase, IsSound, SearchesDown, WithdrawInvariant, begun_by, cell_words, copies, debts, flag_words, times, times_begun, times_taken, walks_to}
pub use Rattle.store_spec.specs.WithdrawPhase.{IsRightWithdrawal, MayBeWithdrawnBefore, WithdrawOutcome, WithdrawReply, Withdrawal, is_withdrawn, listed, withdrawn_in, without}
pub use Rattle.store_spec.specs.WithdrawPhase.WithdrawReply.{Absent}
pub use Rattle.store_spec.specs.WithdrawStep.{FirstRow, Fits, StandsInBase, WithdrawMove, WithdrawNote, WithdrawRow, WithdrawState, WithdrawView, fresh_withdraw_view, withdraw_act, withdraw_measure, withdraw_number, withdraw_view_after}
pub use Rattle.store_spec.specs.WithdrawStep.FirstRow.{chose, found_gone}
pub use Rattle.store_spec.specs.WithdrawStep.WithdrawMove.{begins, goes_on}
pub use Rattle.store_spec.specs.WithdrawStep.WithdrawNote.{Begun, Done, Gone, Quiet}
pub use Rattle.store_spec.specs.WithdrawStep.WithdrawRow.{began, emptied, found_candidate, found_lower_candidate, found_owed, kept_candidate, looked_higher, looked_lower, lost, refilled, walked_on}
pub use Rattle.store_spec.specs.WithdrawStep.WithdrawState.{Chosen, Down, Owing, Up}
pub use mathlib.Core.Option.{some}
