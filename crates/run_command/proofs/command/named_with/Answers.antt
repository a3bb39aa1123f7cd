use Rattle.std.proofs.Common.{List, ℕ, map, string_bytes, subst, sym}
use Rattle.store_spec.proofs.Common.{IfOk, IfSome}
use Rattle.run_command.proofs.Rows.{found_behind, named_behind, names_large, no_compare, no_large, no_merge, no_migrate, no_part, no_sample, no_twin, named_one}
use Rattle.run_command.specs.Command.{row}
use Rattle.run_command.specs.declared.command.Command.TheVariants.{Migrate, Twin}
use Rattle.run_outcome.specs.Row.{IsNamed}
use Rattle.run_command.proofs.command.named_with.Goals as goal

pub returns-in-large-clause-named : goal.returns-in-large-clause-named
returns-in-large-clause-named c =
    let words = map string_bytes c.args.words.now in
    named_behind c.args.medium.now c.args.word.now words c.large_named.result
    (subst (λ (word : List ℕ). IfOk c.large_named.result (λ o. IfSome o (λ command. (medium : List ℕ) → IsNamed (row command) medium word words))) (sym c.in-large.is) c.large_named.ensures.named)

pub returns-in-large-clause-none : goal.returns-in-large-clause-none
returns-in-large-clause-none c = no_large c.args.medium.now c.args.word.now (map string_bytes c.args.words.now) c.large_named.result c.in-large.is c.large_named.ensures.none

pub returns-in-large-clause-memory : goal.returns-in-large-clause-memory
returns-in-large-clause-memory c = names_large c.args.medium.now c.args.word.now (map string_bytes c.args.words.now) c.large_named.result c.in-large.is c.large_named.ensures.memory

pub returns-in-sample-clause-named : goal.returns-in-sample-clause-named
returns-in-sample-clause-named c =
    let words = map string_bytes c.args.words.now in
    found_behind c.args.medium.now c.args.word.now words c.sample_named.result
    (subst (λ (word : List ℕ). IfSome c.sample_named.result (λ command. (medium : List ℕ) → IsNamed (row command) medium word words)) (sym c.in-sample.is) c.sample_named.ensures.named)

pub returns-in-sample-clause-none : goal.returns-in-sample-clause-none
returns-in-sample-clause-none c = no_sample c.args.medium.now c.args.word.now (map string_bytes c.args.words.now) c.sample_named.result c.in-sample.is c.sample_named.ensures.none

pub returns-in-compare-clause-named : goal.returns-in-compare-clause-named
returns-in-compare-clause-named c =
    let words = map string_bytes c.args.words.now in
    found_behind c.args.medium.now c.args.word.now words c.compare_named.result
    (subst (λ (word : List ℕ). IfSome c.compare_named.result (λ command. (medium : List ℕ) → IsNamed (row command) medium word words)) (sym c.in-compare.is) c.compare_named.ensures.named)

pub returns-in-compare-clause-none : goal.returns-in-compare-clause-none
returns-in-compare-clause-none c = no_compare c.args.medium.now c.args.word.now (map string_bytes c.args.words.now) c.compare_named.result c.in-compare.is c.compare_named.ensures.none

pub returns-in-merge-clause-named : goal.returns-in-merge-clause-named
returns-in-merge-clause-named c =
    let words = map string_bytes c.args.words.now in
    subst (λ (word : List ℕ). IfSome c.merge_named.result (λ command. IsNamed (row command) c.args.medium.now word words)) (sym c.in-merge.is) c.merge_named.ensures.named

pub returns-in-merge-clause-none : goal.returns-in-merge-clause-none
returns-in-merge-clause-none c = no_merge c.args.medium.now c.args.word.now (map string_bytes c.args.words.now) c.merge_named.result c.in-merge.is c.merge_named.ensures.none

pub returns-in-migrate-clause-named : goal.returns-in-migrate-clause-named
returns-in-migrate-clause-named c =
    named_one c.args.medium.now c.args.word.now (map string_bytes c.args.words.now) Migrate c.if_one_medium.result
    (λ one media. record { word = c.in-migrate.is; further = one; media = media }) c.if_one_medium.ensures.some

pub returns-in-migrate-clause-none : goal.returns-in-migrate-clause-none
returns-in-migrate-clause-none c = no_migrate c.args.medium.now c.args.word.now (map string_bytes c.args.words.now) c.if_one_medium.result c.in-migrate.is c.if_one_medium.ensures.none

pub returns-in-twin-clause-named : goal.returns-in-twin-clause-named
returns-in-twin-clause-named c =
    named_one c.args.medium.now c.args.word.now (map string_bytes c.args.words.now) Twin c.if_one_medium-in-twin.result
    (λ one media. record { word = c.in-twin.is; further = one; media = media }) c.if_one_medium-in-twin.ensures.some

pub returns-in-twin-clause-none : goal.returns-in-twin-clause-none
returns-in-twin-clause-none c = no_twin c.args.medium.now c.args.word.now (map string_bytes c.args.words.now) c.if_one_medium-in-twin.result c.in-twin.is c.if_one_medium-in-twin.ensures.none

pub returns-in-part-clause-named : goal.returns-in-part-clause-named
returns-in-part-clause-named c =
    let words = map string_bytes c.args.words.now in
    subst (λ (word : List ℕ). IfSome c.part_named.result (λ command. IsNamed (row command) c.args.medium.now word words)) (sym c.in-part.is) c.part_named.ensures.named

pub returns-in-part-clause-none : goal.returns-in-part-clause-none
returns-in-part-clause-none c = no_part c.args.medium.now c.args.word.now (map string_bytes c.args.words.now) c.part_named.result c.in-part.is c.part_named.ensures.none
