-- What the sink has taken once some lines were answered, and how a run ends then.
use Rattle.std.proofs.Common.{◌≡◌, ℕ, ◌+◌, inl, inr, List, [], ◌∷◌, ◌++◌, length, map, take, Option, Some, None, Result, Ok as Fine, Err, refl, sym, ap, subst, ◌∙◌, arith, append_assoc, append-nil}
use Rattle.store_spec.proofs.Common.{Ballot, Election, Rose, codes, count_line, length-append, line_end, lines_text, map_push, script_limit, take-append-add, taken_within}
use Rattle.std.specs.Option.{option_map}
use Rattle.outside_io.proofs.Told.{told_as, told_at, told_still, told_with}
use Rattle.outside_io.specs.Outside.{Outside, Output}
use Rattle.outside_io.specs.Reading.{ReadFirst, ReadLines, ReadsTo}
use Rattle.outside_io.specs.Reading.Ending.{ReadOut, TooMuch, Faulted}
use Rattle.outside_io.specs.Stream.{GivesAtMost, TakesAll, TakesSome}
use Rattle.outside_io.specs.Told.{IfTold}
use Rattle.run_outcome.specs.Status.{ended}
use Rattle.run_outcome.specs.declared.status.Status.{Status}
use Rattle.run_outcome.specs.declared.status.Status.TheVariants as status
use Rattle.run_outcome.specs.declared.status.Which.TheVariants as which
use Rattle.sample_commands.proofs.Answering.{Leaves, answered_more, answered_none, are_missing, reply_right}
use Rattle.sample_commands.specs.Compare.{LinesEnd, WritesText, compare_reply_line, compare_reply_lines, replies_text}
use Rattle.ticket_sample.specs.Compared.{AnsweredLine, AreAnswered, IsReplyTo}
use Rattle.ticket_sample.specs.Comparing.{IsNoneOfRest}
use Rattle.ticket_sample.specs.declared.compare.CompareReply.{CompareReply}
use Rattle.ticket_sample.specs.declared.compare.CompareReply.TheVariants.{Malformed}

-- ---- the text

text_of : AnsweredLine → ℕ → List ℕ
text_of one at = compare_reply_line at one.reply ++ line_end ∷ []

lines_more : (at : ℕ) (answers : List AnsweredLine) (one : AnsweredLine) → lines_text (compare_reply_lines at (answers ++ one ∷ [])) ≡ lines_text (compare_reply_lines at answers) ++ (compare_reply_line (at + length answers) one.reply ++ line_end ∷ [])
lines_more at [] one = ap (λ n. (compare_reply_line n one.reply ++ line_end ∷ []) ++ []) (let same : at ≡ at + 0 = omega arith in same) ∙ append-nil (compare_reply_line (at + 0) one.reply ++ line_end ∷ [])
lines_more at (first ∷ answers) one =
    let head = compare_reply_line at first.reply ++ line_end ∷ [] in
    ap (λ rest. head ++ rest) (lines_more (at + 1) answers one)
    ∙ sym (append_assoc head (lines_text (compare_reply_lines (at + 1) answers)) (compare_reply_line (at + 1 + length answers) one.reply ++ line_end ∷ []))
    ∙ ap (λ n. (head ++ lines_text (compare_reply_lines (at + 1) answers)) ++ (compare_reply_line n one.reply ++ line_end ∷ [])) (let same : at + 1 + length answers ≡ at + length (first ∷ answers) = omega arith in same)

-- the text of one reply more, which is that of this line
pub text_more : (answers : List AnsweredLine) (one : AnsweredLine) (count : ℕ) → count ≡ length answers → replies_text (answers ++ one ∷ []) ≡ replies_text answers ++ (compare_reply_line (count + 1) one.reply ++ line_end ∷ [])
text_more answers one count counted =
    lines_more 1 answers one ∙ ap (λ n. replies_text answers ++ (compare_reply_line n one.reply ++ line_end ∷ [])) (let same : 1 + length answers ≡ count + 1 = omega (arith, counted) in same)

-- ---- one text behind another

takes_on : (a b c : Option (List ℕ)) (x y : List ℕ) → TakesAll a x b → TakesAll b y c → TakesAll a (x ++ y) c
takes_on a b c x y one two = two ∙ ap (option_map (λ front. front ++ y)) one ∙ joined a where
  joined : (a : Option (List ℕ)) → option_map (λ front. front ++ y) (option_map (λ front. front ++ x) a) ≡ option_map (λ front. front ++ (x ++ y)) a
  joined None = refl
  joined (Some front) = ap Some (append_assoc front x y)

takes_part : (a b c : Option (List ℕ)) (x y : List ℕ) → TakesAll a x b → TakesSome b y c → TakesSome a (x ++ y) c
takes_part a b c x y one some = (length x + some.0, subst (λ (text : List ℕ). TakesAll a text c) (sym (take-append-add x y some.0)) (takes_on a b c x (take some.0 y) one some.1))

takes_none : (a : Option (List ℕ)) → TakesAll a [] a
takes_none None = refl
takes_none (Some front) = ap Some (sym (append-nil front))

-- ---- lines so far

-- these lines were answered, and the sink took the replies
pub record Replied {K : Type 0} (e : Election) (sample : List Ballot) (old new : Output K) (rest : List Ballot) (count : ℕ) (lines : List (Option (List ℕ))) : Type 0 where
  pub answers : List AnsweredLine
  pub lines_are : lines ≡ map (λ one. one.line) answers
  pub right : AreAnswered e sample answers
  pub leaves : Leaves e sample answers rest
  pub all : TakesAll old.taken (replies_text answers) new.taken
  pub none : answers ≡ [] → new ≡ old
  pub counted : count ≡ length answers
  pub steady : new.faults ≡ old.faults

pub replied_none : {K : Type 0} (e : Election) (sample rest : List Ballot) (sink : Output K) → AreAnswered e sample [] → Leaves e sample [] rest → Replied e sample sink sink rest 0 []
replied_none e sample rest sink right leaves = record { answers = []; lines_are = refl; right = right; leaves = leaves; all = takes_none sink.taken; none = λ is. refl; counted = refl; steady = refl }

-- the reply to a whole line is right behind those
pub whole_right : {K : Type 0} (e : Election) (sample : List Ballot) (old new : Output K) (rest : List Ballot) (count : ℕ) (lines : List (Option (List ℕ))) (so_far : Replied e sample old new rest count lines) (own : List Ballot) (bytes line : List ℕ) (reply : CompareReply)
    → own ≡ sample → bytes ≡ line → IsReplyTo e own (IsNoneOfRest rest) bytes reply → AreAnswered e sample (so_far.answers ++ record { line = Some line; reply = reply } ∷ [])
whole_right e sample old new rest count lines so_far own bytes line reply same is replies =
    answered_more e sample so_far.answers (record { line = Some line; reply = reply }) so_far.right
    (reply_right e sample so_far.answers rest line reply so_far.leaves (subst (λ (own : List Ballot). IsReplyTo e own (IsNoneOfRest rest) line reply) same (subst (λ (bytes : List ℕ). IsReplyTo e own (IsNoneOfRest rest) bytes reply) is replies)))

-- and that to a line that is too wide
pub wide_right : {K : Type 0} (e : Election) (sample : List Ballot) (old new : Output K) (rest : List Ballot) (count : ℕ) (lines : List (Option (List ℕ))) (so_far : Replied e sample old new rest count lines)
    → AreAnswered e sample (so_far.answers ++ record { line = None; reply = Malformed } ∷ [])
wide_right e sample old new rest count lines so_far = answered_more e sample so_far.answers (record { line = None; reply = Malformed }) so_far.right refl

-- a run that had no memory before the first line
pub nothing_answered : {S K : Type 0} (e : Election) (sample : List Ballot) (before : Outside S K) → LinesEnd e sample status.Memory before before
nothing_answered e sample before = (
  record {
    answers = [];
    read = told_still refl (λ x. ((taken_within script_limit x, refl), omega arith));
    right = answered_none e sample;
    takes = record { all = takes_none before.sink.taken; none = λ is. refl };
  },
  record { script = refl; sink = refl },
)

not_none : {X : Type 0} {G : Type 0} (xs : List X) (x : X) → xs ++ x ∷ [] ≡ [] → G
not_none [] x is = absurd cc
not_none (y ∷ xs) x is = absurd cc

pub replied_more : {K : Type 0} (e : Election) (sample : List Ballot) (old mid new : Output K) (rest rest_now : List Ballot) (count : ℕ) (lines : List (Option (List ℕ))) (one : AnsweredLine) (so_far : Replied e sample old mid rest count lines)
    → AreAnswered e sample (so_far.answers ++ one ∷ []) → Leaves e sample (so_far.answers ++ one ∷ []) rest_now → WritesText (compare_reply_line (count + 1) one.reply ++ line_end ∷ []) (Fine tt) mid new → Replied e sample old new rest_now (count + 1) (lines ++ one.line ∷ [])
replied_more e sample old mid new rest rest_now count lines one so_far right leaves told = record {
  answers = so_far.answers ++ one ∷ [];
  lines_are = ap (λ front. front ++ one.line ∷ []) so_far.lines_are ∙ sym (map_push (λ (one : AnsweredLine). one.line) so_far.answers one);
  right = right;
  leaves = leaves;
  all = subst (λ (text : List ℕ). TakesAll old.taken text new.taken) (sym (text_more so_far.answers one count so_far.counted)) (takes_on old.taken mid.taken new.taken (replies_text so_far.answers) (compare_reply_line (count + 1) one.reply ++ line_end ∷ []) so_far.all told.0);
  none = λ is. not_none so_far.answers one is;
  counted = omega (arith, so_far.counted, length-append so_far.answers (one ∷ []));
  steady = told.1 ∙ so_far.steady;
}

-- ---- how a run ends

-- the first lines are so whatever is left, and something else is told of what is left now
pub first_later : {a b c : Option (List ℕ)} {R : List ℕ → List ℕ → Type 0} (lines : List (Option (List ℕ))) → IfTold a b (λ x y. ReadFirst x y lines) → IfTold a c R → IfTold a c (λ x y. ReadFirst x y lines × R x y)
first_later lines first more = record { told = more.told; related = λ x y was is. ((told_at x was first).1, more.related x y was is) }

-- one line more came than were answered
pub record Behind (P : List (Option (List ℕ)) → Type 0) (line : Option (List ℕ)) (lines : List (Option (List ℕ))) : Type 0 where
  pub front : List (Option (List ℕ))
  pub good : P front
  pub is : lines ≡ front ++ line ∷ []

pub behind : (P : List (Option (List ℕ)) → Type 0) (line : Option (List ℕ)) (lines : List (Option (List ℕ))) → P lines → Behind P line (lines ++ line ∷ [])
behind P line lines good = record { front = lines; good = good; is = refl }

rose_too : (old mid new : ℕ) → mid ≡ old → Rose mid new → Rose old new
rose_too old mid new same rose = subst (λ n. Rose n new) same rose

module _ {S K : Type 0} (e : Election) (sample : List Ballot) (before after : Outside S K) (mid : Output K) (rest : List Ballot) (count : ℕ)
    (steady : after.script.faults ≡ before.script.faults) (few : IfTold before.script.left after.script.left (GivesAtMost (script_limit + 1))) where
  abbrev P : List (Option (List ℕ)) → Type 0
  P lines = Replied e sample before.sink mid rest count lines

  -- there was no memory behind some lines that were answered
  out_of_memory : (lines : List (Option (List ℕ))) → P lines → IfTold before.script.left after.script.left (λ x y. ReadFirst x y lines) → after.sink ≡ mid → LinesEnd e sample status.Memory before after
  out_of_memory lines so_far first still = (
    record {
      answers = so_far.answers;
      read = told_as (told_with first few) (λ x y h. (subst (λ lines. ReadFirst x y lines) so_far.lines_are h.0, h.1));
      right = so_far.right;
      takes = record {
        all = subst (λ (sink : Output K). TakesAll before.sink.taken (replies_text so_far.answers) sink.taken) (sym still) so_far.all;
        none = λ is. still ∙ so_far.none is;
      };
    },
    record { script = steady; sink = ap (λ (sink : Output K). sink.faults) still ∙ so_far.steady },
  )

  -- there was no memory, or the sink failed, as the reply to one more line was told
  pub answer_failed : (one : AnsweredLine) (a : Status) → ReadsTo ReadFirst (Behind P one.line) before.script.left after.script.left
      → ((lines : List (Option (List ℕ))) (so_far : P lines) → AreAnswered e sample (so_far.answers ++ one ∷ []))
      → WritesText (compare_reply_line (count + 1) one.reply ++ line_end ∷ []) (Err a) mid after.sink → LinesEnd e sample a before after
  answer_failed one status.WriteFault reads right told =
      let so_far = reads.good.good in
      let text = compare_reply_line (count + 1) one.reply ++ line_end ∷ [] in (
        inl (record {
          answers = so_far.answers ++ one ∷ [];
          read = told_as (told_with reads.told few) (λ x y h. (
            subst (λ lines. ReadFirst x y lines) (reads.good.is ∙ ap (λ front. front ++ one.line ∷ []) so_far.lines_are ∙ sym (map_push (λ (one : AnsweredLine). one.line) so_far.answers one)) h.0,
            h.1,
          ));
          right = right reads.good.front so_far;
          takes = subst (λ (text : List ℕ). TakesSome before.sink.taken text after.sink.taken) (sym (text_more so_far.answers one count so_far.counted))
              (takes_part before.sink.taken mid.taken after.sink.taken (replies_text so_far.answers) text so_far.all told.0);
        }),
        rose_too before.sink.faults mid.faults after.sink.faults so_far.steady told.1,
        steady,
      )
  answer_failed one status.Memory reads right told =
      out_of_memory reads.good.front reads.good.good
      (told_as reads.told (λ x y h. (one.line ∷ h.0, h.1 ∙ ap (λ front. front ++ h.0) reads.good.is ∙ append_assoc reads.good.front (one.line ∷ []) h.0)))
      told
  answer_failed one other reads right told = absurd told

  -- the source has ended, and what is missing was told
  pub end_told : (missing : ℕ) (answer : Result (Unit {0}) Status) → ReadsTo (ReadLines ReadOut) P before.script.left after.script.left → (first : ReadsTo ReadFirst P before.script.left after.script.left) → missing ≡ length rest
      → WritesText (lines_text (count_line (codes "missing") missing ∷ [])) answer mid after.sink → LinesEnd e sample (ended answer) before after
  end_told missing (Fine done) reads first counted told =
      let so_far = reads.good in (
        record {
          answers = so_far.answers;
          read = told_as reads.told (λ x y h. subst (λ lines. ReadLines ReadOut x y lines) so_far.lines_are h);
          right = so_far.right;
          takes = record {
            missing = missing;
            are_missing = are_missing e sample so_far.answers rest missing so_far.leaves counted;
            all = takes_on before.sink.taken mid.taken after.sink.taken (replies_text so_far.answers) (lines_text (count_line (codes "missing") missing ∷ [])) so_far.all told.0;
          };
        },
        record { script = steady; sink = told.1 ∙ so_far.steady },
      )
  end_told missing (Err status.WriteFault) reads first counted told =
      let so_far = reads.good in (
        inr (record {
          answers = so_far.answers;
          read = told_as reads.told (λ x y h. subst (λ lines. ReadLines ReadOut x y lines) so_far.lines_are h);
          right = so_far.right;
          takes = (
            missing,
            are_missing e sample so_far.answers rest missing so_far.leaves counted,
            takes_part before.sink.taken mid.taken after.sink.taken (replies_text so_far.answers) (lines_text (count_line (codes "missing") missing ∷ [])) so_far.all told.0,
          );
        }),
        rose_too before.sink.faults mid.faults after.sink.faults so_far.steady told.1,
        steady,
      )
  end_told missing (Err status.Memory) reads first counted told = out_of_memory first.lines first.good first.told told
  end_told missing (Err other) reads first counted told = absurd told

  -- the source gave too much
  pub too_long : ReadsTo (ReadLines TooMuch) P before.script.left after.script.left → after.sink ≡ mid → LinesEnd e sample (status.TooLong which.Script) before after
  too_long reads still =
      let so_far = reads.good in (
        record {
          answers = so_far.answers;
          read = told_as reads.told (λ x y h. subst (λ lines. ReadLines TooMuch x y lines) so_far.lines_are h);
          right = so_far.right;
          takes = record {
            all = subst (λ (sink : Output K). TakesAll before.sink.taken (replies_text so_far.answers) sink.taken) (sym still) so_far.all;
            none = λ is. still ∙ so_far.none is;
          };
        },
        record { script = steady; sink = ap (λ (sink : Output K). sink.faults) still ∙ so_far.steady },
      )

-- the source failed
pub read_failed : {S K : Type 0} (e : Election) (sample : List Ballot) (before after : Outside S K) (mid : Output K) (rest : List Ballot) (count : ℕ) → ReadsTo (ReadLines Faulted) (Replied e sample before.sink mid rest count) before.script.left after.script.left
    → after.sink ≡ mid → Rose before.script.faults after.script.faults → LinesEnd e sample (status.ReadFault which.Script) before after
read_failed {S} {K} e sample before after mid rest count reads still rose =
    let so_far = reads.good in (
      record {
        answers = so_far.answers;
        read = told_as reads.told (λ x y h. subst (λ lines. ReadLines Faulted x y lines) so_far.lines_are h);
        right = so_far.right;
        takes = record {
          all = subst (λ (sink : Output K). TakesAll before.sink.taken (replies_text so_far.answers) sink.taken) (sym still) so_far.all;
          none = λ is. still ∙ so_far.none is;
        };
      },
      rose,
      ap (λ (sink : Output K). sink.faults) still ∙ so_far.steady,
    )
