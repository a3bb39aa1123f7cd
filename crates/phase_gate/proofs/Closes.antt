-- The close of a phase, from what was played to what is replied.
use Rattle.std.proofs.Common.{◌≡◌, ℕ, Bool, List, [], ◌∷◌, ◌++◌, length, map, codes, ap, refl, sym, ◌∙◌}
use Rattle.store_spec.proofs.Common.{Ballot, CastReply, ClosesCasting, ClosesFinding, ClosesWithdrawing, Effect, Election, WithdrawReply, all_reply_lines, begun, cast_text, closing, counted, find_text, map-map, replies, withdraw_text}
use Rattle.phase_gate.specs.Writing.{WritesReply, as_written, written_of}
use Rattle.phase_gate.specs.declared.writing.Writing.{Writing}
use Rattle.phase_play.specs.Plays.{PlaysCasting, PlaysFinding, PlaysWithdrawing}

-- one map after another, within lists
map_maps : {X Y Z : Type 0} (f : Y → Z) (g : X → Y) (lists : List (List X))
    → map (map f) (map (map g) lists) ≡ map (map (λ x. f (g x))) lists
map_maps f g [] = refl
map_maps f g (list ∷ lists) = ap (λ first. first ∷ map (map f) (map (map g) lists)) (map-map f g list) ∙ ap
    (λ rest. map (λ x. f (g x)) list ∷ rest) (map_maps f g lists)

-- the words of replies, as the lists of the program have them and as the lines do
pub words_of : {V X R L : Type 0} (text : R → List ℕ) (of : X → R) (items : V → List X) (reply : L → R)
    (lists : List V) (lines : List (List L)) → map (map reply) lines ≡ map (λ v. map of (items v)) lists
    → map (λ v. map (λ x. text (of x)) (items v)) lists ≡ map (map (λ l. text (reply l))) lines
words_of text of items reply lists lines same =
    sym (map-map (map (λ x. text (of x))) items lists)
    ∙ sym (map_maps text of (map items lists))
    ∙ ap (map (map text)) (map-map (map of) items lists)
    ∙ ap (map (map text)) (sym same)
    ∙ map_maps text reply lines

-- what is told of a close, whose text was appended to nothing
told_of_text : (writing : Writing) (old text : List ℕ) (told words : List (List (List ℕ))) (count : ℕ)
    (after : List Ballot) → told ≡ words → old ≡ []
    → text ≡ old ++ written_of writing (all_reply_lines 1 told ++ counted (codes "closed") count) → count ≡ length after
    → replies text (begun after) ≡ as_written writing (closing words after)
told_of_text writing old text told words count after same nothing put counts =
    let line : List ℕ → ℕ → List ℕ = λ t n. written_of writing (t ++ counted (codes "closed") n) in
    ap (λ t. replies t (begun after))
    (put
    ∙ ap (λ o. o ++ line (all_reply_lines 1 told) count) nothing
    ∙ ap (λ w. line (all_reply_lines 1 w) count) same
    ∙ ap (line (all_reply_lines 1 words)) counts)

-- what is told of a close that did such a thing
pub closes_told : (writing : Writing) (Did : Effect → Type 0) (old text : List ℕ) (told words : List (List (List ℕ)))
    (count : ℕ) (after : List Ballot) → Did (closing words after) → told ≡ words → old ≡ []
    → text ≡ old ++ written_of writing (all_reply_lines 1 told ++ counted (codes "closed") count) → count ≡ length after
    → WritesReply writing Did (replies text (begun after))
closes_told writing Did old text told words count after did same nothing put counts =
    (closing words after, did, told_of_text writing old text told words count after same nothing put counts)

-- ---- one closed store

-- a casting phase that was played does what its close asks
pub closes_casting : {V X : Type 0} (e : Election) (set after : List Ballot) (work : List (List Ballot))
    (of : X → CastReply) (items : V → List X) (lists : List V)
    → PlaysCasting e set work (map (λ v. map of (items v)) lists) after
    → ClosesCasting e set work (closing (map (λ v. map (λ x. cast_text (of x)) (items v)) lists) after)
closes_casting e set after work of items lists plays = record {
  lines = plays.lines;
  of_lists = plays.of_work;
  after = after;
  outcome = plays.outcome;
  is = ap (λ words. closing words after) (words_of cast_text of items (λ l. l.reply) lists plays.lines plays.of_replies);
}

-- so does a withdrawing phase
pub closes_withdrawing : {V X : Type 0} (set after : List Ballot) (work : List (List ℕ)) (of : X → WithdrawReply)
    (items : V → List X) (lists : List V) → PlaysWithdrawing set work (map (λ v. map of (items v)) lists) after
    → ClosesWithdrawing set work (closing (map (λ v. map (λ x. withdraw_text (of x)) (items v)) lists) after)
closes_withdrawing set after work of items lists plays = record {
  lines = plays.lines;
  of_lists = plays.of_work;
  after = after;
  rest = plays.rest;
  outcome = plays.outcome;
  is = ap (λ words. closing words after)
      (words_of withdraw_text of items (λ a. a.reply) lists plays.lines plays.of_replies);
}

-- and a finding phase
pub closes_finding : {V : Type 0} (set : List Ballot) (work : List (List ℕ)) (items : V → List Bool) (lists : List V)
    → PlaysFinding set work (map items lists)
    → ClosesFinding set work (closing (map (λ v. map find_text (items v)) lists) set)
closes_finding set work items lists plays = record {
  lines = plays.lines;
  of_lists = plays.of_work;
  outcome = plays.outcome;
  is = ap (λ words. closing words set) (sym (map-map (map find_text) items lists) ∙ ap (map (map find_text))
      (sym plays.of_present) ∙ map_maps find_text (λ a. a.present) plays.lines);
}
