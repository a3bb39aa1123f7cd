-- The words of further media.
use Rattle.std.proofs.Common.{◌≡◌, ◌≢◌, ℕ, zero, suc, ◌+◌, ◌<◌, ◌≤◌, List, [], ◌∷◌, ◌++◌, length, get_or, map, take, Bool, true, false, not, Global, refl, sym, ap, subst, ◌∙◌, arith}
use Rattle.store_spec.proofs.Common.{All-push, Any-from_list_any, Contains, all_pairs_push, bytes_eq-Decides, get_or-map, get_or-take, get_or_default, length-map, length-take, list_any, list_any_at, string_bytes, take_all, take_more}
use Rattle.clap.proofs.WalkLemmas.{list_any-map}
use Rattle.std.proofs.lemmas.List.{take-map}
use Rattle.std.specs.Prelude.{String, bytes_eq}
use Rattle.run_command.specs.Command.{MayFollow}
use Rattle.run_outcome.specs.Row.{AreMediaIf, IsPlain}

pub media_none : (medium : List ℕ) → AreMediaIf true medium []
media_none medium = (λ k d lt. absurd (omega arith), λ i j d less within. absurd (omega arith))

is_other : (medium : List ℕ) (front : List (List ℕ)) (word : List ℕ) (k : ℕ) (d : List ℕ) → k < length (medium ∷ front) → MayFollow medium front word → get_or (medium ∷ front) k d ≢ word
is_other medium front word zero d lt next is = next.not_medium (sym is)
is_other medium front word (suc k) d lt next is =
    let within : k < length front = omega arith in
    next.not_earlier (k, within, get_or_default front k word d within ∙ is)

-- one word more
pub media_more : (medium : List ℕ) (front : List (List ℕ)) (word : List ℕ) → AreMediaIf true medium front → MayFollow medium front word → AreMediaIf true medium (front ++ word ∷ [])
media_more medium front word media next = (
  All-push IsPlain front word media.0 next.plain,
  all_pairs_push (λ a b. a ≢ b) (medium ∷ front) word media.1 (λ k d lt. is_other medium front word k d lt next),
)

-- each of them may follow those before it
pub media_at : (medium : List ℕ) (all : List (List ℕ)) (at : ℕ) (word : List ℕ) → AreMediaIf true medium all → at < length all → get_or all at word ≡ word → MayFollow medium (take at all) word
media_at medium all at word media lt is = record {
  plain = subst IsPlain is (media.0 at word lt);
  not_medium = λ same. media.1 zero (suc at) word (omega arith) (omega arith) (sym same ∙ sym is);
  not_earlier = λ c.
      let less : c.0 < at = omega (arith, c.1, length-take at all) in
      media.1 (suc c.0) (suc at) word (omega arith) (omega arith) (sym (get_or-take at all c.0 word less) ∙ c.2 ∙ sym is);
}

-- ---- a word among others

any_mapped : (word : List ℕ) (words : List (String Global)) → list_any (λ other. bytes_eq (string_bytes other) word) words ≡ list_any (λ other. bytes_eq other word) (map string_bytes words)
any_mapped word words = list_any-map (λ other. bytes_eq other word) string_bytes words

pub among : (word : List ℕ) (words : List (String Global)) → list_any (λ other. bytes_eq (string_bytes other) word) words ≡ true → Contains (map string_bytes words) word
among word words is =
    let any = Any-from_list_any (λ (other : List ℕ). bytes_eq other word) (map string_bytes words) (sym (any_mapped word words) ∙ is) in
    let same = (bytes_eq-Decides any.1 word).0 any.4 in
    (any.0, any.2, get_or_default (map string_bytes words) any.0 word any.1 any.2 ∙ any.3 ∙ same)

pub not_among : (word : List ℕ) (words : List (String Global)) → list_any (λ other. bytes_eq (string_bytes other) word) words ≡ false → ¬ Contains (map string_bytes words) word
not_among word words is c =
    let found = list_any_at (λ (other : List ℕ). bytes_eq other word) (map string_bytes words) c.0 word c.1 ((bytes_eq-Decides (get_or (map string_bytes words) c.0 word) word).1 c.2) in
    let both : true ≡ false = sym found ∙ sym (any_mapped word words) ∙ is in
    absurd cc

-- a word that is plain and not the medium's may follow others, unless it is among them
pub follows : (medium word : List ℕ) (words : List (String Global)) (found : Bool) → IsPlain word → word ≢ medium → found ≡ list_any (λ other. bytes_eq (string_bytes other) word) words
    → (not found ≡ true → MayFollow medium (map string_bytes words) word) × (MayFollow medium (map string_bytes words) word → not found ≡ true)
follows medium word words true plain other is = (λ wrong. absurd cc, λ next. absurd (next.not_earlier (among word words (sym is))))
follows medium word words false plain other is =
    (λ _. record { plain = plain; not_medium = other; not_earlier = not_among word words (sym is) }, λ _. refl)

-- words that differ
pub differs : (word medium : List ℕ) → not (bytes_eq word medium) ≡ true → word ≢ medium
differs word medium other same =
    let both : false ≡ true = sym (ap not ((bytes_eq-Decides word medium).1 same)) ∙ other in
    absurd cc

-- ---- one word after another

module _ (medium : List ℕ) (words : List (String Global)) (at : ℕ) (string : String Global) (word : List ℕ) (within : at < length words) (there : string ≡ get_or words at string) (is : word ≡ string_bytes string) where
  word_there : get_or (map string_bytes words) at word ≡ word
  word_there = get_or-map string_bytes words at string word within ∙ ap string_bytes (sym there) ∙ sym is

  few : at < length (map string_bytes words)
  few = omega (arith, within, length-map words (string_bytes {Z = Global}))

  -- each word of media may follow those before it
  pub may_follow_there : AreMediaIf true medium (map string_bytes words) → MayFollow medium (map string_bytes (take at words)) word
  may_follow_there media =
      subst (λ (earlier : List (List ℕ)). MayFollow medium earlier word) (take-map string_bytes at words)
      (media_at medium (map string_bytes words) at word media few word_there)

  -- and where it may, one word more is that of a medium
  pub media_to : AreMediaIf true medium (take at (map string_bytes words)) → MayFollow medium (map string_bytes (take at words)) word
      → AreMediaIf true medium (take (at + 1) (map string_bytes words))
  media_to media next =
      let all = map string_bytes words in
      let one_more : take (at + 1) all ≡ take at all ++ word ∷ [] = take_more all at word few ∙ ap (λ last. take at all ++ last ∷ []) word_there in
      subst (AreMediaIf true medium) (sym one_more)
      (media_more medium (take at all) word media (subst (λ (earlier : List (List ℕ)). MayFollow medium earlier word) (sym (take-map string_bytes at words)) next))

pub media_all : (medium : List ℕ) (words : List (String Global)) (at : ℕ) → length words ≤ at → AreMediaIf true medium (take at (map string_bytes words)) → AreMediaIf true medium (map string_bytes words)
media_all medium words at past media =
    subst (AreMediaIf true medium) (take_all at (map string_bytes words) (omega (arith, past, length-map words (string_bytes {Z = Global})))) media
